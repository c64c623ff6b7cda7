use Rattle.std.proofs.Common.{arith}
use Rattle.ddf_bay.specs.LoggedLaws.{all_bytes_true}
use Rattle.ddf_bay.proofs.log.are_bytes.Goals as goal

pub returns : goal.returns
returns c = all_bytes_true c.args.bytes.now (λ i. omega (arith, c.type_inv.bytes i))
