use Rattle.ddf_linux.proofs.Adding.{added_is}
use Rattle.ddf_linux.proofs.crcs.add.Goals as goal

pub returns : goal.returns
returns c = rw c.to_be_bytes.ensures (added_is c.args.bytes.now _ c.requires)
