use Rattle.std.proofs.Common.{refl}
use Rattle.ddf_update.proofs.new_copy.new_geometry.Goals as goal

pub returns : goal.returns
returns c =
    rw (c.workspace_back.ensures, c.section_at.ensures, c.section_at-2.ensures, c.section_at-3.ensures, c.section_at-4.ensures, c.section_at-5.ensures, c.section_at-6.ensures, c.numbers-numbers.ensures.exact) refl
