use Rattle.std.specs.Prelude.{[], ◌∷◌, ◌++◌}
use Rattle.ddf_history_steps.specs.Going.{Ends, Goes, changes_in}
use Rattle.ddf_history_steps.specs.Kept.{is_read}
use Rattle.ddf_data_history.specs.Carried.{Stays}
use Rattle.ddf_group_commands.specs.Change.{is_done}
use Rattle.ddf_data_calls.proofs.Carries.{carries_data}
use Rattle.ddf_data_calls.proofs.GoneBack.{both_kept}
use Rattle.ddf_data_calls.proofs.block_laws.a_copyback_keeps_its_history_and_its_data.Goals as goal

pub returns-clause-asked : goal.returns-clause-asked
returns-clause-asked g c = λ told group past floor small promises old new tells named timestamp word slot outcome called found is_found own admits steps are_asked.
    both_kept g.B.Bay.tells told (g.B.Bay.disks old) (g.B.Bay.disks new) group past floor small promises named timestamp word slot outcome called found is_found own admits ((g.met.B.Bay.told old).held tells)
    (λ slot lba. ((g.met.B.Bay.told old).whole slot lba ((g.B.Bay.disks old).held slot lba) ((g.met.B.Bay.told old).held tells slot lba)).size)
    (λ image left slot lba. ((g.met.B.Bay.told new).whole slot lba (image slot lba) (left slot lba)).size) ((g.met.B.Bay.told new).since) steps are_asked

pub returns-clause-both : goal.returns-clause-both
returns-clause-both g c = λ told group past floor small promises old new tells named timestamp word slot outcome called found is_found own admits plan.
    returns-clause-asked g c told group past floor small promises old new tells named timestamp word slot outcome called found is_found own admits (plan.first ++ plan.last ∷ []) plan.are_asked

pub returns-clause-carries : goal.returns-clause-carries
returns-clause-carries g c = λ told group past floor small promises old new tells named timestamp word slot outcome called found is_found own admits plan whole_since.
    carries_data group (g.B.Bay.disks old) (g.B.Bay.disks new) floor promises (Goes group past (is_read called.taken.left) found (changes_in found (plan.first ++ plan.last ∷ [])))
    (Ends group past (is_read called.taken.left) found (changes_in found (plan.first ++ plan.last ∷ [])) (is_done outcome)) Stays Stays
    (returns-clause-both g c told group past floor small promises old new tells named timestamp word slot outcome called found is_found own admits plan) whole_since
