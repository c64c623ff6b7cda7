use Rattle.std.proofs.Common.{◌∙◌}
use Rattle.ddf_view.proofs.Bits.{contains_bit}
use Rattle.ddf_view.proofs.flags.is_spare.Goals as goal

pub returns : goal.returns
returns c = c.contains.ensures tt ∙ contains_bit c.args.kind.0 3
