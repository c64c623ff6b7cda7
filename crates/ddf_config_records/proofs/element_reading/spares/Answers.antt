use Rattle.std.proofs.Common.{refl}
use Rattle.ddf_seal.specs.Unread.{numbers32_at}
use Rattle.ddf_config_records.proofs.element_reading.spares.Goals as goal

pub returns : goal.returns
unfolding numbers32_at
returns c = rw (c.be32.ensures, c.be32-2.ensures, c.be32-3.ensures, c.be32-4.ensures, c.be32-5.ensures, c.be32-6.ensures, c.be32-7.ensures, c.be32-8.ensures) refl
