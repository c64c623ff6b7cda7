-- The cells of the blocks of one strip lie side by side.
use Rattle.std.proofs.Common.{◌≡◌, ℕ, ◌+◌, ◌%◌, ◌≤◌, Some, length, slice_get, get_or, arith}
use Rattle.std.proofs.lemmas.Option.{slice_get-get_or}
use Rattle.ddf_primary.specs.Levels.{IsShape}
use Rattle.ddf_primary.specs.Cells.{cells, columns_by}
use Rattle.ddf_primary.proofs.Copies.{sector_further}
use Rattle.ddf_primary.proofs.ShapeFacts.{columns_some}
use Rattle.ddf_primary.proofs.StripCells.{cell_along}
use Rattle.ddf_array.specs.declared.part.Part.{Part}
use Rattle.ddf_read.specs.Along.{IsAlong}
use Rattle.ddf_read.proofs.Offsets.{strip_in_unit}

-- so many blocks that stay in a strip, in the element and in a member
pub part_along : (part : Part) (block count : ℕ) → IsShape part.shape → block % part.shape.strip + count ≤ part.shape.strip → block + count ≤ length (cells part.shape)
    → ((member sector : ℕ) → slice_get (cells part.shape) block ≡ Some (member, sector) → sector + count ≤ part.shape.blocks)
    → IsAlong part block count
part_along part block count sound stays inside room = record {
  cells_lie = λ k member below.
      let own = get_or (cells part.shape) block (0, 0) in
      let there : slice_get (cells part.shape) block ≡ Some own = slice_get-get_or (cells part.shape) block (0, 0) (omega (arith, below, inside)) in
      let later = cell_along part.shape sound block k own.0 own.1 there (omega (arith, below, inside)) (omega (arith, below, stays)) (omega (arith, room own.0 own.1 there, below)) in
      sector_further part.shape block k own.0 own.1 member there later (omega (arith, below, stays));
  in_unit = omega (arith, stays, strip_in_unit block part.shape.strip (columns_by part.shape.layout part.shape.members) sound.some_strip (columns_some part.shape.layout part.shape.members sound.members_taken));
  in_element = inside;
}
