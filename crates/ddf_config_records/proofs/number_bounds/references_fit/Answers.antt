use Rattle.std.proofs.Common.{◌^◌, arith}
use Rattle.ddf_config_records.proofs.Building.{all_below}
use Rattle.ddf_config_records.proofs.number_bounds.references_fit.Goals as goal

pub returns : goal.returns
returns c = all_below (2 ^ 32) c.args.references.now (λ i. omega (arith, c.type_inv.references i))
