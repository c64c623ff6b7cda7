use Rattle.std.proofs.Common.{Bool, subst, sym}
use Rattle.ddf_bay.specs.Sectors.{Image, IsLeft}
use Rattle.ddf_history_steps.specs.Going.{Ends}
use Rattle.ddf_history_steps.specs.Kept.{is_read}
use Rattle.ddf_data_events.specs.Calls.{joins_in}
use Rattle.ddf_data_events.proofs.Bays.{AreBays}
use Rattle.ddf_data_groups.proofs.CutJoins.{cut_keeps_at}
use Rattle.ddf_data_groups.proofs.laws.arrays_of_an_import_that_was_cut_keep_what_was_promised_of_them.Goals as goal

pub returns-clause-cut : goal.returns-clause-cut
returns-clause-cut g c = λ told group old all call image was_left new resumes same_floor goes theirs wholly guid fresh array there allowed promised.
    let are : AreBays g.B.Bay.disks = g.met.B.Bay.told in
    cut_keeps_at told g.B.Bay.disks g.S.Source.tells g.S.Source.input group are old all call new same_floor
    (λ one left. subst (λ (each : Image). (g.B.Bay.disks call.join.exit).left_since (g.B.Bay.disks old.bay).moment each) (sym (resumes.is_left one left)) was_left)
    goes theirs wholly guid fresh array there allowed promised

pub returns-clause-failed : goal.returns-clause-failed
returns-clause-failed g c = λ told group old all call failed new same_bay same_floor ends theirs wholly guid fresh array there allowed promised.
    let are : AreBays g.B.Bay.disks = g.met.B.Bay.told in
    cut_keeps_at told g.B.Bay.disks g.S.Source.tells g.S.Source.input group are old all call new same_floor
    (λ image left. (are call.join.exit).counts (g.B.Bay.disks old.bay).moment image (call.join.imported.leaves told call.join.group call.join.joining call.join.is_group call.join.is_joining call.join.made
    call.join.are_asked).later (subst (λ bay. IsLeft (g.B.Bay.disks bay).may_hold image) same_bay left))
    (subst (λ (whole : Bool). Ends group old.past (is_read call.join.imported.first.left) call.join.group (joins_in told g.B.Bay.disks g.S.Source.tells g.S.Source.input group call) whole new.past) failed ends)
    theirs wholly guid fresh array there allowed promised
