-- What a look couldn't read, where more reads failed.
use Rattle.std.proofs.Common.{inl, inr, ⊎_elim, ℕ, ◌+◌, Some}
use Rattle.ddf_array.specs.Sources.{sources}
use Rattle.ddf_array.specs.Volume.{Volume}
use Rattle.ddf_read.proofs.Tries.{NotRead-wider, Within}
use Rattle.ddf_cells.specs.CellSources.{cell_sources}
use Rattle.ddf_resync.specs.Resyncing.{IsUnread, NoneLeftOfBlock, NoneLeftOfRow}

module _ {P Q : ℕ → Type 0} (within : Within P Q) (v : Volume) (slot : ℕ) where
  pub block_wider : NoneLeftOfBlock P v slot → NoneLeftOfBlock Q v slot
  block_wider left = record { block = left.block; below = left.below; several = left.several; none_left = NotRead-wider within (sources v left.block) (Some slot) left.none_left }

  pub row_wider : NoneLeftOfRow P v slot → NoneLeftOfRow Q v slot
  row_wider left =
      let of = left.for_sum in
      record {
        element = left.element;
        part = left.part;
        is_part = left.is_part;
        sector = left.sector;
        count = left.count;
        keeps = left.keeps;
        inside = left.inside;
        for_sum = record {
          cell = of.cell;
          is_in = of.is_in;
          number = of.number;
          other = of.other;
          is_data = of.is_data;
          none_left = NotRead-wider within (cell_sources v left.element left.part (left.sector + of.cell) of.other) (Some slot) of.none_left;
        };
      }

  pub unread_wider : IsUnread P v slot → IsUnread Q v slot
  unread_wider none = ⊎_elim (λ block. inl (block_wider block)) (λ row. inr (row_wider row)) none
