use Rattle.ddf_uncut_data.proofs.Held.{is_redundant_now, scrub_clean}
use Rattle.ddf_uncut_data.proofs.laws.a_scrub_of_agreeing_blocks_is_clean.Goals as goal

pub returns-clause-redundant : goal.returns-clause-redundant
returns-clause-redundant c = is_redundant_now

pub returns-clause-clean : goal.returns-clause-clean
returns-clause-clean c = scrub_clean
