use Rattle.ddf_config_records.proofs.ElementRecords.{allowed}
use Rattle.ddf_rewrite.proofs.elements.over_own.Goals as goal

pub over-requires-clause-few_before : goal.over-requires-clause-few_before
over-requires-clause-few_before c = allowed c.args.geometry.now c.args.own.now c.requires.own.is_element
