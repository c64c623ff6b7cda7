-- One run of blocks that is read, and written to all cells of these blocks.
use Rattle.std.proofs.Common.{◌≡◌, ◌∙◌, ◌⊎◌, inl, inr, ⊎_elim, ℕ, ◌+◌, ◌-◌, ◌<◌, ◌≤◌, Bool, false, true, List, [], sym, ap, subst, arith, map, length}
use Rattle.std.specs.Prelude.{slice_index_or}
use Rattle.ddf_bytes.specs.Counts.{Rose}
use Rattle.ddf_bay.specs.Sectors.{Image}
use Rattle.ddf_bay.specs.State.{BayState}
use Rattle.ddf_array.specs.Apart.{IsApart}
use Rattle.ddf_array.specs.Sources.{copies, copy, trusts_parity}
use Rattle.ddf_array.specs.Volume.{Volume, IsVolume, capacity}
use Rattle.ddf_read.specs.Along.{LieAlong}
use Rattle.ddf_read.specs.Given.{AreGiven, NoneLeftIn}
use Rattle.ddf_read.specs.Reading.{Failed, OnlyReads}
use Rattle.ddf_read.proofs.Tries.{IsGivenBy-wider}
use Rattle.ddf_cells.specs.CellsOn.{GivesCells, cell_on, write_cells}
use Rattle.ddf_cells.specs.Touching.{AreSet, Writes}
use Rattle.ddf_cells.proofs.CopiesOn.{on_position}
use Rattle.ddf_cells.proofs.WriteSteps.{writes_read, writes_then, writes_wider}
use Rattle.ddf_resync.specs.Copying.{AreAsBefore, AreCopied, AreNoted}
use Rattle.ddf_resync.specs.Resyncing.{MayResync, NoneLeftOfBlock}
use Rattle.ddf_resync.specs.Several.{copied_cells, has_other}
use Rattle.ddf_resync.proofs.Copied.{copied_run, given_held, given_marked, stays_by, taken_by}
use Rattle.ddf_resync.proofs.SeveralCells.{cells_written, other_along}

-- no source is left of one of these blocks
pub block_left : (failed : ℕ → Type 0) (v : Volume) (block count most slot : ℕ) → LieAlong v block count → has_other v block ≡ true → block + count ≤ capacity v → most ≤ count → NoneLeftIn failed v block most slot → NoneLeftOfBlock failed v slot
block_left failed v block count most slot along several inside le left = record {
  block = block + left.block;
  below = omega (arith, inside, le, left.is_in);
  several = other_along v block count along left.block (omega (arith, le, left.is_in)) ∙ several;
  none_left = left.none_left;
}

module _ (v : Volume) (known : IsVolume v) (apart : IsApart v) (marked : trusts_parity v ≡ false) (block count : ℕ) (along : LieAlong v block count) (several : has_other v block ≡ true)
    (tells : Type 0) {D : Type 0} {old mid new : BayState D} {t u : List Bool} (out : List (List ℕ)) (long : length out ≡ count) (reads : OnlyReads old mid)
    (given : tells → AreGiven (Failed old mid) old.held v block count out) (writes : Writes (GivesCells v block out) tells mid new t u) where
  each : (k : ℕ) → k < count → has_other v (block + k) ≡ true
  each k below = other_along v block count along k below ∙ several

  pub step_writes : (before : Image) → (tells → AreAsBefore v before old.held block) → Writes (MayResync v tells before) tells old new t u
  step_writes before same =
      writes_then (MayResync v tells before) tells
      (writes_read (MayResync v tells before) tells t reads)
      (writes_wider (GivesCells v block out) (MayResync v tells before) tells
      (taken_by v known apart block out tells before old.held (λ k below. each k (omega (arith, below, long))) same
      (λ tell k below. given_held v (Failed old mid) old.held (block + k) (slice_index_or out k []) (given_marked v marked (Failed old mid) old.held (block + k) (slice_index_or out k []) (given tell k (omega (arith, below, long))))))
      writes)

  pub step_cells : copied_cells v block + write_cells v block (length out) ≡ copied_cells v (block + count)
  step_cells = ap (λ n. copied_cells v block + write_cells v block n) long ∙ sym (cells_written v block count each)

  module _ (tell : tells) (same_reads : new.failed_reads ≡ mid.failed_reads) (set : (element position : ℕ) → AreSet v element position block 0 (length out) out new.held u) where
    stays : (s l : ℕ) → (new.held s l ≡ mid.held s l) ⊎ GivesCells v block out s l (new.held s l)
    stays s l = ⊎_elim inl (λ gives. inr gives.0) (writes.held tell s l)

    failed_later : (slot : ℕ) → Failed old mid slot → Failed old new slot
    failed_later slot rose = subst (λ (m : ℕ). Rose (old.failed_reads slot) m) (sym (ap (λ (f : ℕ → ℕ). f slot) same_reads)) rose

    pub step_copied : AreCopied (Failed old new) v old.held new.held block (block + count)
    step_copied = copied_run v (Failed old new) old.held new.held block count out
        (λ k below. IsGivenBy-wider failed_later old.held (map copy (copies v (block + k))) (slice_index_or out k []) (given_marked v marked (Failed old mid) old.held (block + k) (slice_index_or out k []) (given tell k below)))
        (λ k i one below at. let on = on_position v known (block + k) i one at in (set on.element on.position k one (omega arith) (omega (arith, below, long)) on.on).0)
        (λ b i one other at.
        stays_by v known apart block out mid.held new.held stays b i one (λ k below same. other k (omega (arith, below, long)) same) at
        ∙ ap (λ (f : Image). f one.slot one.lba) reads.reads.same_held)

    pub step_noted : AreNoted v u block (block + count)
    step_noted b i one above below is at =
        let on = on_position v known b i one at in
        let same : block + (b - block) ≡ b = omega (arith, above) in
        (set on.element on.position (b - block) one (omega arith) (omega (arith, above, below, long)) (ap (λ n. cell_on v on.element on.position n) same ∙ on.on)).1
