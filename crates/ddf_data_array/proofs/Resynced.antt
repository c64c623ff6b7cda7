-- What an array keeps while it is resynced or rebuilt.
use Rattle.std.proofs.Common.{◌≡◌, ◌⊎◌, ⊎_elim, ℕ, Bool, Some, sym, subst, slice_get}
use Rattle.ddf_bay.specs.Sectors.{Image}
use Rattle.ddf_array.specs.Apart.{IsApart}
use Rattle.ddf_array.specs.declared.site.Site.{Site}
use Rattle.ddf_array.specs.Volume.{Volume, IsVolume}
use Rattle.ddf_array.specs.Sources.{Source, copies, copy}
use Rattle.ddf_array.specs.Values.{bytes_at, given}
use Rattle.ddf_array.specs.Sound.{AreSectors}
use Rattle.ddf_cells.specs.Writing.{StaysBut}
use Rattle.ddf_cells.proofs.CopiesOn.{on_position}
use Rattle.ddf_cells.proofs.OnCells.{on_cell, one_owner}
use Rattle.ddf_cells.proofs.ParityCells.{no_copy}
use Rattle.ddf_resync.specs.Resyncing.{IsTaken, MayResync}
use Rattle.ddf_rebuild.specs.Target.{IsTargetCell}
use Rattle.ddf_rebuild.proofs.Kept.{alike_rebuilding}
use Rattle.ddf_data_array.specs.Allowed.{Allowed, May}
use Rattle.ddf_data_array.specs.Changing.{IsWritable}
use Rattle.ddf_data_array.specs.Kept.{IsKeptData}
use Rattle.ddf_data_array.specs.Rows.{GoesOnBehind}
use Rattle.ddf_data_array.proofs.From.{IsFrom, copy_to}
use Rattle.ddf_data_array.proofs.Consistent.{copy_reads}
use Rattle.ddf_data_array.proofs.RowsKept.{rows_behind, writable_rows}
use Rattle.ddf_data_array.proofs.Same.{kept_alike}
use Rattle.ddf_data_array.proofs.Written.{only_copies, writable_sound}

module _ (is_absent : ℕ → ℕ → Bool) (v : Volume) (known : IsVolume v) (apart : IsApart v) (first before image : Image) (allowed : Allowed)
    (writable : IsWritable v) (first_kept : IsKeptData is_absent v first allowed) (kept : IsKeptData is_absent v before allowed)
    (left : (s l : ℕ) → (image s l ≡ before s l) ⊎ MayResync v (Unit {0}) first s l (image s l)) where
  taken_may : (block i : ℕ) (one : Site) → slice_get (copies v block) i ≡ Some one → IsTaken v (Unit {0}) first one.slot one.lba (bytes_at image one) → May (allowed block) (bytes_at image one)
  taken_may block i one at of =
      let on = on_position v known block i one at in
      let its = on_position v known of.block of.i one of.is_cell in
      let same : of.block ≡ block =
      one_owner v known apart its.element its.position on.element on.position of.block block one
      (on_cell v known its.element its.position of.block one its.on) (on_cell v known on.element on.position block one on.on) in
      let held = of.held tt in
      subst (λ (n : ℕ). May (allowed n) (bytes_at image one)) same
      (subst (May (allowed of.block)) (sym held.bytes_are) (copy_reads is_absent v first allowed first_kept of.block held.number held.other held.is_copy))

  copy_may : (block : ℕ) (one : Site) → IsFrom v block (copy one) → May (allowed block) (bytes_at image one)
  copy_may block one from =
      let there = copy_to v block one from in
      ⊎_elim
      (λ same. subst (May (allowed block)) (sym same) (copy_reads is_absent v before allowed kept block there.0 one there.1))
      (⊎_elim (λ of. taken_may block there.0 one there.1 of) (λ parity. absurd (no_copy v known apart block there.0 one there.1 parity)))
      (left one.slot one.lba)

  pub kept_resyncing : AreSectors image → IsKeptData is_absent v image allowed
  kept_resyncing are = record {
    sound = writable_sound is_absent v writable image are;
    reads = λ block k source at.
        let one = only_copies is_absent v writable block k source at in
        subst (λ (s : Source). May (allowed block) (given image s)) (sym one.1) (copy_may block one.0 one.2);
    rows = writable_rows is_absent v image writable;
  }

pub kept_rebuilding : (is_absent : ℕ → ℕ → Bool) (v : Volume) (element position from to : ℕ) (before image : Image) (allowed : Allowed) → IsVolume v → IsApart v → AreSectors image
    → GoesOnBehind v element position from → StaysBut (IsTargetCell v element position from to) before image → IsKeptData is_absent v before allowed → IsKeptData is_absent v image allowed
kept_rebuilding is_absent v element position from to before image allowed known apart are behind left kept =
    kept_alike v known before image (alike_rebuilding v element position from to before image apart left) is_absent allowed are
    (rows_behind is_absent v known apart element position from to before image behind left kept.rows) kept
