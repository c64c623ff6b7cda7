use Rattle.std.proofs.Common.{ℕ, subst}
use Rattle.ddf_data_calls.specs.Floors.{AllHaveFloors}
use Rattle.ddf_data_events.proofs.JoinAsked.{is_readied}
use Rattle.ddf_data_events.proofs.JoinTheirs.{joining_floors}
use Rattle.ddf_data_events.proofs.laws.disks_that_join_wholly_have_their_floors.Goals as goal

pub returns : goal.returns
returns g c = λ told group old tells_left join theirs wholly.
    let disks = g.B.Bay.disks in
    let held = (g.met.B.Bay.told old.bay).held tells_left in
    joining_floors group join.other (disks old.bay) join.imported.first.left join.imported.second.left join.imported.first.every_slot join.imported.second.every_slot join.imported.second.newest
    (join.imported.second.read told) join.group join.joining join.is_joining old.past (join.admits_join (disks old.bay).held held) theirs.past wholly.admitted wholly.none_absent
    (is_readied join.timestamp join.imported.first.left join.group join.joining join.made join.are_asked).1 held old.floor
    (subst (λ bay. AllHaveFloors join.other theirs.past (disks bay) old.floor) wholly.same_bay
    (subst (λ (floor : ℕ → ℕ). AllHaveFloors join.other theirs.past (disks theirs.bay) floor) wholly.same_floor wholly.keeps.floored))
