-- The block that a cell holds is found from the cell, and the cell from its block.
use Rattle.std.proofs.Common.{◌≡◌, ◌∙◌, ℕ, ◌<◌, Some, refl, sym, ap, slice_get}
use Rattle.std.proofs.lemmas.Option.{slice_get_within}
use Rattle.ddf_lemmas.proofs.Options.{some_is}
use Rattle.ddf_primary.specs.Levels.{IsShape}
use Rattle.ddf_primary.specs.Cells.{depth_of}
use Rattle.ddf_primary.proofs.ShapeFacts.{cell_facts}
use Rattle.ddf_array.specs.declared.part.Part.{Part}
use Rattle.ddf_array.specs.Volume.{Volume, IsVolume}
use Rattle.ddf_array.specs.Cells.{element_cells}
use Rattle.ddf_array.specs.Rows.{block_at}
use Rattle.ddf_cells.proofs.BlockOf.{cell_in}
use Rattle.ddf_cells.proofs.CopiesOn.{at_cells, at_spots, block_at_sits, in_spots, sits_block_at, spot_holds}
use Rattle.ddf_cells.proofs.OnCells.{Sits, spot_of}
use Rattle.ddf_data_array.proofs.From.{HasCell}

module _ (v : Volume) (known : IsVolume v) (block : ℕ) (has : HasCell v block) where
  shape_is : IsShape has.part.shape
  shape_is = (known.are_parts has.spot.element has.part has.is_part).shape_is

  sits : Sits v has.spot.element has.cell.0 has.cell.1 block
  sits = record {
    part = has.part;
    is_part = has.is_part;
    inner = has.spot.block;
    in_element = spot_holds v known block has.spot (in_spots v known block has.j has.spot has.is_spot) (slice_get_within v.parts has.spot.element has.part has.is_part);
    on_position = cell_in has.part shape_is has.spot.block has.i has.cell has.is_cell;
  }

  pub cell_deep : has.cell.1 < depth_of has.part.shape
  cell_deep = (cell_facts has.part.shape shape_is).sector_within has.cell.0 has.cell.1 has.spot.block (cell_in has.part shape_is has.spot.block has.i has.cell has.is_cell)

  pub block_at_is : block_at v has.spot.element has.cell.0 has.cell.1 ≡ Some block
  block_at_is = sits_block_at v known has.spot.element has.cell.0 has.cell.1 block sits

-- and the other way round
pub record IsHeld (v : Volume) (element : ℕ) (part : Part) (position sector block : ℕ) : Type 0 where
  pub has : HasCell v block
  pub same_element : has.spot.element ≡ element
  pub same_part : has.part ≡ part
  pub same_cell : has.cell ≡ (position, sector)

pub held_from : (v : Volume) → IsVolume v → (element : ℕ) (part : Part) (position sector block : ℕ) → slice_get v.parts element ≡ Some part → block_at v element position sector ≡ Some block
    → IsHeld v element part position sector block
held_from v known element part position sector block part_at e =
    let sits = block_at_sits v known element position sector block e in
    let same : sits.part ≡ part = some_is (sym sits.is_part ∙ part_at) in
    let spot = at_spots v known block element sits.inner sits.in_element (slice_get_within v.parts element part part_at) in
    let here = at_cells sits.part sits.inner (known.are_parts element sits.part sits.is_part).shape_is position sector sits.on_position in
    record {
      has = record {
        j = spot.0;
        spot = spot_of element sits.inner;
        is_spot = spot.1;
        part = part;
        is_part = part_at;
        i = here.0;
        cell = (position, sector);
        is_cell = ap (λ (q : Part). slice_get (element_cells q.shape sits.inner) here.0) (sym same) ∙ here.1;
      };
      same_element = refl;
      same_part = refl;
      same_cell = refl;
    }
