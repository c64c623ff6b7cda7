-- What holds once blocks are written and made sure.
use Rattle.std.proofs.Common.{◌≡◌, inl, inr, ⊎_elim, ℕ, ◌+◌, ◌<◌, Bool, List, sym, subst, arith, length}
use Rattle.ddf_bay.specs.State.{BayState}
use Rattle.ddf_bay.specs.Sectors.{Image}
use Rattle.ddf_array.specs.Places.{site_on}
use Rattle.ddf_array.specs.Volume.{Volume, IsVolume, Fits}
use Rattle.ddf_write.specs.RowWrites.{AllRows, AllSet, IsFilled, IsNoted, IsSummed}
use Rattle.ddf_cells.specs.Touching.{AreSet, IsGivenOn, IsTouchedSlot, Writes}
use Rattle.ddf_write.specs.Writing.{HasWritten, IsWritten, MayGive}
use Rattle.ddf_cells.proofs.Ends.{held_by, touched_by}
use Rattle.ddf_cells.proofs.CopiesOn.{on_position}
use Rattle.ddf_cells.proofs.FirstSlots.{on_there}
use Rattle.ddf_write.proofs.FaultSlots.{written_on}

module _ (v : Volume) (known : IsVolume v) (start : ℕ) (sectors : List (List ℕ)) where
  -- what a write gives lies on slots
  pub written_there : (sizes : List ℕ) → Fits sizes v → (slot : ℕ) → IsWritten v start (length sectors) slot → slot < length sizes
  written_there sizes fits slot written = on_there sizes v fits slot (written_on v known start (length sectors) slot written)

  pub given_there : (sizes : List ℕ) → Fits sizes v → (s l : ℕ) (bytes : List ℕ) → MayGive v start sectors s l bytes → s < length sizes
  given_there sizes fits s l bytes (inl given) = written_there sizes fits s (l, inl given.0)
  given_there sizes fits s l bytes (inr parity) = written_there sizes fits s (l, inr parity)

  given_written : (slot : ℕ) → IsGivenOn (MayGive v start sectors) slot → IsWritten v start (length sectors) slot
  given_written slot given = ⊎_elim (λ cell. (given.lba, inl cell.0)) (λ parity. (given.lba, inr parity)) given.is_given

  -- and on slots that were noted
  pub written_noted : (image : Image) (touched : List Bool) → ((element position : ℕ) → AreSet v element position start 0 (length sectors) sectors image touched) → AllRows v start (length sectors) (IsNoted touched)
      → (slot : ℕ) → IsWritten v start (length sectors) slot → IsTouchedSlot touched slot
  written_noted image touched set noted slot (lba, inl cell) =
      let on = on_position v known (start + cell.k) cell.i (site_on slot lba) cell.is_cell in
      (set on.element on.position cell.k (site_on slot lba) (omega arith) cell.below on.on).1
  written_noted image touched set noted slot (lba, inr parity) = noted parity.element parity.sector parity.part (site_on slot lba) parity.is_at

  module _ {D : Type 0} (tells : Type 0) {old b : BayState D} {t u : List Bool} (w : Writes (MayGive v start sectors) tells old b t u) where
    -- the slots that were noted, where none was before, are those that it gives bytes
    pub noted_written : ((s : ℕ) → IsTouchedSlot t s → ⊥) → (slot : ℕ) → IsTouchedSlot u slot → IsWritten v start (length sectors) slot
    noted_written none slot is = given_written slot (touched_by (MayGive v start sectors) tells w none slot is)

    pub filled_by : tells → AllSet v start sectors b.held → IsFilled v start sectors old.held b.held
    filled_by tell set = record { left = held_by (MayGive v start sectors) tells w tell; cells = set }

    -- after the syncs
    module _ (n : BayState D) (same : n.held ≡ b.held) where
      -- the blocks are written
      pub written_end : (sure : Type 0) → tells → AllSet v start sectors b.held → (sure → AllRows v start (length sectors) (IsSummed v b.held)) → HasWritten v start sectors sure n.held
      written_end sure tell set summed = subst (λ (f : Image). HasWritten v start sectors sure f) (sym same) (record {
        cells = λ k i one below at.
            let on = on_position v known (start + k) i one at in
            set on.element on.position k one below on.on;
        parity = λ is_sure element sector part one is. summed is_sure element sector part one is;
      })
