use Rattle.ddf_uncut_data.proofs.Held.{holds_equal, value_held}
use Rattle.ddf_uncut_data.proofs.laws.blocks_are_values.Goals as goal

pub returns-clause-value : goal.returns-clause-value
returns-clause-value c = value_held

pub returns-clause-equal : goal.returns-clause-equal
returns-clause-equal c = holds_equal
