-- Step by step an array keeps what it keeps.
use Rattle.std.proofs.Common.{◌≡◌, ⊎_elim, ℕ, zero, suc, Bool, false, List, [], ◌∷◌, Some, refl, sym, subst, slice_get}
use Rattle.ddf_bay.specs.Sectors.{Image}
use Rattle.ddf_array.specs.Volume.{Volume}
use Rattle.ddf_data_array.specs.Allowed.{Allowed, while_written, once_written, once_consistent}
use Rattle.ddf_data_array.specs.Changing.{in_sync, noted, with_mark}
use Rattle.ddf_data_array.specs.Kept.{IsKeptData}
use Rattle.ddf_data_array.specs.Moved.{moved}
use Rattle.ddf_data_array.specs.History.{Moment, Keeps, IsOther, IsLess, IsUnmarked, IsCounted, IsWriting, IsWritten, IsResyncing, IsRebuilding, IsNoted, IsFinished, IsReturned, IsStep, IsHistory}
use Rattle.ddf_data_array.proofs.Same.{kept_same}
use Rattle.ddf_data_array.proofs.LessRows.{kept_less}
use Rattle.ddf_data_array.proofs.Consistent.{kept_consistent, kept_unmarked}
use Rattle.ddf_data_array.proofs.Written.{kept_once, kept_while}
use Rattle.ddf_data_array.proofs.Resynced.{kept_rebuilding, kept_resyncing}
use Rattle.ddf_data_array.proofs.FinishedRows.{kept_finished}
use Rattle.ddf_data_array.proofs.Noted.{kept_noted}
use Rattle.ddf_data_array.proofs.MovedKept.{kept_moved}

-- the same by equal parts
transported : (absent absent' : ℕ → ℕ → Bool) (v v' : Volume) (image image' : Image) (allowed allowed' : Allowed) → absent' ≡ absent → v' ≡ v → image' ≡ image → allowed' ≡ allowed
    → IsKeptData absent v image allowed → IsKeptData absent' v' image' allowed'
transported absent absent' v v' image image' allowed allowed' a b c d kept =
    subst (λ x. IsKeptData x v' image' allowed') (sym a) (subst (λ x. IsKeptData absent x image' allowed') (sym b) (subst (λ x. IsKeptData absent v x allowed') (sym c) (subst (IsKeptData absent v image) (sym d) kept)))

module _ (old new : Moment) (kept : Keeps old) where
  by_other : IsOther old new → Keeps new
  by_other is =
      transported old.is_absent new.is_absent old.volume new.volume new.image new.image old.allowed new.allowed is.same.same_absent is.same.same_volume refl is.same_allowed
      (kept_same old.is_absent old.volume old.image new.image old.allowed is.same.is_volume is.same.are_sectors is.same_cells kept)

  by_less : IsLess old new → Keeps new
  by_less is =
      transported new.is_absent new.is_absent new.volume new.volume old.image new.image old.allowed new.allowed refl refl is.same_image is.same_allowed
      (kept_less old.is_absent new.is_absent old.volume new.volume old.image old.allowed is.is_volume is.fewer is.parity is.rows kept)

  by_unmarked : IsUnmarked old new → Keeps new
  by_unmarked is =
      transported old.is_absent new.is_absent (with_mark false old.volume) new.volume old.image new.image old.allowed new.allowed is.same_absent is.is_unmarked is.same_image is.same_allowed
      (kept_unmarked old.is_absent old.volume old.image old.allowed kept.sound.are_sectors is.consistent is.rows is.may)

  by_counted : IsCounted old new → Keeps new
  by_counted is =
      transported old.is_absent new.is_absent (with_mark is.marked old.volume) new.volume old.image new.image (once_consistent old.volume old.image) new.allowed is.same_absent is.is_marked is.same_image is.counts
      (kept_consistent old.is_absent is.marked old.volume old.image is.are_sectors is.consistent is.rows)

  by_writing : IsWriting old new → Keeps new
  by_writing is =
      transported old.is_absent new.is_absent old.volume new.volume new.image new.image (while_written old.allowed is.start is.sectors) new.allowed is.same.same_absent is.same.same_volume refl is.may
      (kept_while old.is_absent old.volume is.same.is_volume is.same.is_apart is.start is.sectors old.image new.image old.allowed is.writable kept is.left is.same.are_sectors)

  by_written : IsWritten old new → Keeps new
  by_written is =
      transported old.is_absent new.is_absent old.volume new.volume new.image new.image (once_written old.allowed is.start is.sectors) new.allowed is.same.same_absent is.same.same_volume refl is.may
      (kept_once old.is_absent old.volume is.same.is_volume is.same.is_apart is.start is.sectors old.image new.image old.allowed is.writable kept is.left is.same.are_sectors is.written)

  by_resyncing : IsResyncing old new → Keeps new
  by_resyncing is =
      transported old.is_absent new.is_absent old.volume new.volume new.image new.image old.allowed new.allowed is.same.same_absent is.same.same_volume refl is.same_allowed
      (kept_resyncing old.is_absent old.volume is.same.is_volume is.same.is_apart is.first old.image new.image old.allowed is.writable is.first_kept kept is.left is.same.are_sectors)

  by_rebuilding : IsRebuilding old new → Keeps new
  by_rebuilding is =
      transported old.is_absent new.is_absent old.volume new.volume new.image new.image old.allowed new.allowed is.same.same_absent is.same.same_volume refl is.same_allowed
      (kept_rebuilding old.is_absent old.volume is.element is.position is.from is.to old.image new.image old.allowed is.same.is_volume is.same.is_apart is.same.are_sectors is.behind is.left kept)

  by_noted : IsNoted old new → Keeps new
  by_noted is =
      transported old.is_absent new.is_absent (noted is.element is.position is.row old.volume) new.volume old.image new.image old.allowed new.allowed is.same_absent is.is_noted is.same_image is.same_allowed
      (kept_noted old.is_absent old.volume old.image old.allowed is.element is.position is.row is.is_volume is.first is.rebuilt kept)

  by_finished : IsFinished old new → Keeps new
  by_finished is =
      transported old.is_absent new.is_absent (in_sync is.element is.position old.volume) new.volume old.image new.image old.allowed new.allowed is.same_absent is.is_synced is.same_image is.same_allowed
      (kept_finished old.is_absent old.volume old.image old.allowed is.element is.position is.is_volume is.unmarked is.within is.target is.all_read is.first is.rebuilt kept)

  by_returned : IsReturned old new → Keeps new
  by_returned is =
      transported old.is_absent new.is_absent (moved is.element is.position is.slot is.start old.volume) new.volume old.image new.image old.allowed new.allowed is.same_absent is.is_moved is.same_image is.same_allowed
      (kept_moved old.volume is.is_volume old.image is.element is.position is.slot is.start is.same old.is_absent old.allowed kept)

  pub by_step : IsStep old new → Keeps new
  by_step step =
      ⊎_elim (λ a. by_other a) (λ b. ⊎_elim (λ a. by_less a) (λ b. ⊎_elim (λ a. by_unmarked a) (λ b. ⊎_elim (λ a. by_counted a) (λ b. ⊎_elim (λ a. by_writing a)
      (λ b. ⊎_elim (λ a. by_written a) (λ b. ⊎_elim (λ a. by_resyncing a) (λ b. ⊎_elim (λ a. by_rebuilding a) (λ b. ⊎_elim (λ a. by_noted a) (λ b. ⊎_elim (λ a. by_finished a) (λ a. by_returned a) b) b) b) b) b) b) b) b) b) step

pub at_every_moment : (start : Moment) (rest : List Moment) → IsHistory start rest → Keeps start → (k : ℕ) (moment : Moment) → slice_get (start ∷ rest) k ≡ Some moment → Keeps moment
at_every_moment start rest history kept zero moment at = let same : start ≡ moment = cc in subst Keeps same kept
at_every_moment start [] history kept (suc k) moment at = absurd (cc)
at_every_moment start (next ∷ rest) history kept (suc k) moment at = at_every_moment next rest history.1 (by_step start next kept history.0) k moment at
