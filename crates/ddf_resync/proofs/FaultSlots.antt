-- A fault of a resync names a slot of the array's available places.
use Rattle.std.proofs.Common.{⊎_elim, ℕ, ◌+◌, ◌<◌, inl, inr, arith}
use Rattle.ddf_bay.specs.State.{BayState}
use Rattle.ddf_primary.specs.Cells.{depth_of}
use Rattle.ddf_array.specs.Places.{site_on}
use Rattle.ddf_array.specs.Volume.{IsVolume, Volume}
use Rattle.ddf_read.specs.Reading.{Failed, IsOn}
use Rattle.ddf_cells.proofs.Alike.{cell_site, copy_is_cell, depth_below}
use Rattle.ddf_cells.proofs.FirstSlots.{block_on, cell_first_on}
use Rattle.ddf_cells.proofs.Surely.{cell_on}
use Rattle.ddf_resync.specs.Resyncing.{IsSetOn, IsStopped, NoneLeftOfRow}

module _ (v : Volume) (known : IsVolume v) where
  set_on : (slot : ℕ) → IsSetOn v slot → IsOn v slot
  set_on slot on = ⊎_elim
      (λ cell. cell_on v slot on.lba (copy_is_cell v known cell.block cell.i (site_on slot on.lba) cell.is_cell))
      (λ of. cell_on v slot on.lba (cell_site v known of.element of.part of.is_part of.position of.sector (site_on slot on.lba) (depth_below v known of.part of.sector of.deep) of.is_there))
      on.is_set

  row_on : (failed : ℕ → Type 0) (slot : ℕ) → NoneLeftOfRow failed v slot → IsOn v slot
  row_on failed slot left =
      let of = left.for_sum in
      let deep : left.sector + of.cell < depth_of left.part.shape = omega (arith, left.inside, of.is_in) in
      cell_first_on v known left.element left.part left.is_part of.other (left.sector + of.cell) (depth_below v known left.part (left.sector + of.cell) deep) slot of.none_left.is_of_first

  pub stopped_on : {D : Type 0} (a b : BayState D) (slot : ℕ) → IsStopped a b v slot → IsOn v slot
  stopped_on a b slot (inl failed) = set_on slot failed.0
  stopped_on a b slot (inr (inl left)) = block_on v left.block slot left.none_left.is_of_first
  stopped_on a b slot (inr (inr left)) = row_on (Failed a b) slot left
