-- What a resync leaves: of images that a stop leaves, and of single blocks.
use Rattle.std.proofs.Common.{◌≡◌, ◌∙◌, ◌⊎◌, inl, inr, ⊎_elim, ℕ, List, Some, refl, sym, map, subst, slice_get}
use Rattle.ddf_bay.specs.Moments.{IsSettled}
use Rattle.ddf_bay.specs.Sectors.{Image, IsLeft, Outcomes}
use Rattle.ddf_array.specs.declared.site.Site.{Site}
use Rattle.ddf_array.specs.Apart.{IsApart}
use Rattle.ddf_array.specs.Redundant.{IsRedundant}
use Rattle.ddf_array.specs.Sound.{AreSectors}
use Rattle.ddf_array.specs.Sources.{copies, copy}
use Rattle.ddf_array.specs.Values.{bytes_at}
use Rattle.ddf_array.specs.Volume.{Volume, IsVolume}
use Rattle.ddf_array.proofs.Consistent.{consistent_if}
use Rattle.ddf_read.specs.Reading.{IsGivenBy, IsOn}
use Rattle.ddf_cells.specs.Alike.{AreAlike}
use Rattle.ddf_cells.proofs.Alike.{copy_is_cell, redundant_same}
use Rattle.ddf_cells.proofs.Surely.{cell_on}
use Rattle.ddf_cells.proofs.CopiesOn.{on_position}
use Rattle.ddf_cells.proofs.OnCells.{on_cell, one_owner}
use Rattle.ddf_cells.proofs.ParityCells.{no_copy}
use Rattle.ddf_resync.specs.Resyncing.{HasResynced, IsAmongResynced, IsHeld, IsLeftByResync, IsTaken, MayResync}

-- ---- a stop comes from an image that a stop might leave before

before_of : {P Q : Type 0} → List ℕ → List ℕ → P ⊎ Q → List ℕ
before_of now base (inl was) = now
before_of now base (inr given) = base

module _ (v : Volume) (tells : Type 0) (first : Image) (may : Outcomes) (base image : Image) (left : IsLeft may base) (among : IsAmongResynced v tells first may image) where
  before : Image
  before s l = before_of (image s l) (base s l) (among s l)

  is_left : IsLeft may before
  unfolding before before_of
  is_left s l = by (among s l)
    where
      by : (case : may s l (image s l) ⊎ MayResync v tells first s l (image s l)) → may s l (before_of (image s l) (base s l) case)
      by (inl was) = was
      by (inr given) = left s l

  is_before : (s l : ℕ) → (image s l ≡ before s l) ⊎ MayResync v tells first s l (image s l)
  unfolding before before_of
  is_before s l = by (among s l)
    where
      by : (case : may s l (image s l) ⊎ MayResync v tells first s l (image s l)) → (image s l ≡ before_of (image s l) (base s l) case) ⊎ MayResync v tells first s l (image s l)
      by (inl was) = inl refl
      by (inr given) = inr given

  pub stop_before : (before : Image) × IsLeft may before × ((s l : ℕ) → (image s l ≡ before s l) ⊎ MayResync v tells first s l (image s l))
  stop_before = (before, is_left, is_before)

-- ---- single blocks

module _ (v : Volume) (known : IsVolume v) (apart : IsApart v) (before after : Image) (left : IsLeftByResync v (Unit {0}) before after) where
  pub held_before : (block i : ℕ) (one : Site) → slice_get (copies v block) i ≡ Some one → IsHeld v before block (bytes_at after one)
  held_before block i one at = ⊎_elim
      (λ same. record { number = i; other = one; is_copy = at; bytes_are = same })
      (λ given. ⊎_elim taken (λ of. absurd (no_copy v known apart block i one at of)) given)
      (left one.slot one.lba)
    where
      taken : IsTaken v (Unit {0}) before one.slot one.lba (after one.slot one.lba) → IsHeld v before block (bytes_at after one)
      taken of =
          let on = on_position v known block i one at in
          let its = on_position v known of.block of.i one of.is_cell in
          let same : of.block ≡ block = one_owner v known apart its.element its.position on.element on.position of.block block one
          (on_cell v known its.element its.position of.block one its.on) (on_cell v known on.element on.position block one on.on) in
          subst (λ (b : ℕ). IsHeld v before b (bytes_at after one)) same (of.held tt)

  pub same_where_redundant : IsRedundant v before → (block i : ℕ) (one : Site) → slice_get (copies v block) i ≡ Some one → bytes_at after one ≡ bytes_at before one
  same_where_redundant is block i one at =
      let held = held_before block i one at in
      held.bytes_are ∙ (consistent_if v before is).equal_copies block held.number i held.other one held.is_copy at

-- ---- images that a stop leaves where nothing is pending

module _ (v : Volume) (known : IsVolume v) (may : Outcomes) (held image : Image) (settled : (slot : ℕ) → IsOn v slot → IsSettled may held slot) (left : IsLeft may image) where
  alike : AreAlike v held image
  alike slot lba is = sym (settled slot (cell_on v slot lba is) lba (image slot lba) (left slot lba))

  pub settled_resynced : (failed : ℕ → Type 0) (before : Image) → AreSectors held → HasResynced failed v before held → HasResynced failed v before image
  settled_resynced failed before are was = record {
    redundant = λ sectors. redundant_same v known held image alike (was.redundant are);
    given = λ block i one at.
        subst (λ bytes. IsGivenBy failed before (map copy (copies v block)) bytes) (alike one.slot one.lba (copy_is_cell v known block i one at)) (was.given block i one at);
  }
