use Rattle.ddf_linux.specs.CrcLaws.{linux_is}
use Rattle.ddf_linux.proofs.crcs.linux_crc32.Goals as goal

pub returns : goal.returns
returns c = rw (c.crc32.ensures, c.constant_of.ensures.exact) (linux_is c.args.bytes.now)
