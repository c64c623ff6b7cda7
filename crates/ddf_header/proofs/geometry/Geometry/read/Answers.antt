use Rattle.std.proofs.Common.{refl}
use Rattle.ddf_header.specs.Geometry.{geometry_at}
use Rattle.ddf_header.proofs.geometry.Geometry.read.Goals as goal

pub returns : goal.returns
unfolding geometry_at
returns c =
    rw (
      c.be32.ensures,
      c.be64.ensures,
      c.be16.ensures,
      c.be16-2.ensures,
      c.be16-3.ensures,
      c.be16-4.ensures,
      c.be16-5.ensures,
      c.section_at.ensures,
      c.section_at-2.ensures,
      c.section_at-3.ensures,
      c.section_at-4.ensures,
      c.section_at-5.ensures,
      c.section_at-6.ensures,
      c.section_at-7.ensures,
      c.section_at-8.ensures,
    ) refl
