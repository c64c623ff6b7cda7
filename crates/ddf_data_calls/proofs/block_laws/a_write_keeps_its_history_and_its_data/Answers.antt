use Rattle.std.specs.Prelude.{◌++◌}
use Rattle.ddf_history_steps.specs.Going.{Ends, Goes, changes_in}
use Rattle.ddf_history_steps.specs.Kept.{is_read}
use Rattle.ddf_assembly.specs.Group.{group_of}
use Rattle.ddf_answer.specs.Call.{input_of, work_of}
use Rattle.ddf_write_commands.specs.Write.{is_written}
use Rattle.ddf_data_calls.specs.Promised.{IsWrittenOf, MayBeWritten}
use Rattle.ddf_data_calls.proofs.Carries.{carries_data}
use Rattle.ddf_data_calls.proofs.Taken.{both_kept, given_along}
use Rattle.ddf_data_calls.proofs.block_laws.a_write_keeps_its_history_and_its_data.Goals as goal

pub returns-clause-both : goal.returns-clause-both
returns-clause-both g c = λ told group past floor small promises old new tells source_old source_new named timestamp word start count sectors outcome given called found is_found own admits plan.
    both_kept g.B.Bay.tells told (g.B.Bay.disks old) (g.B.Bay.disks new) group past floor small promises (input_of g.S.Source.tells (g.S.Source.input source_old) (g.S.Source.input source_new)) named timestamp word start count sectors outcome called found is_found own admits
    ((g.met.B.Bay.told old).held tells)
    (λ slot lba. ((g.met.B.Bay.told old).whole slot lba ((g.B.Bay.disks old).held slot lba) ((g.met.B.Bay.told old).held tells slot lba)).size) plan
    (λ image left slot lba. ((g.met.B.Bay.told new).whole slot lba (image slot lba) (left slot lba)).size) (given_along (work_of g.B.Bay.tells (g.B.Bay.disks old) (g.B.Bay.disks new)) (input_of g.S.Source.tells (g.S.Source.input source_old) (g.S.Source.input source_new)) timestamp word start count called.taken.left (group_of called.taken.newest named) sectors outcome given (called.along told) found is_found plan group own past
    admits.all_kept admits.admitted)

pub returns-clause-carries : goal.returns-clause-carries
returns-clause-carries g c = λ told group past floor small promises old new tells source_old source_new named timestamp word start count sectors outcome given called found is_found own admits plan whole_since.
    carries_data group (g.B.Bay.disks old) (g.B.Bay.disks new) floor promises (Goes group past (is_read called.taken.left) found (changes_in found (plan.first ++ plan.last)))
    (Ends group past (is_read called.taken.left) found (changes_in found (plan.first ++ plan.last)) (is_written outcome)) (MayBeWritten plan.entry.0 start sectors)
    (IsWrittenOf (is_written outcome) plan.entry.0 start sectors)
    (returns-clause-both g c told group past floor small promises old new tells source_old source_new named timestamp word start count sectors outcome given called found is_found own admits plan) whole_since
