-- Rows that rebuilds have set hold what they should while the array's extents stay as they are, where a rebuild goes on behind them, and where there are none.
use Rattle.std.proofs.Common.{◌≡◌, ◌∙◌, inl, ⊎_elim, ℕ, ◌+◌, ◌*◌, ◌<◌, ◌≤◌, Bool, true, false, refl, sym, ap, subst, arith, slice_get, ◌&&◌}
use Rattle.std.specs.Prelude.{is_some, if◌then◌else◌}
use Rattle.std.specs.List.{list_all, list_any}
use Rattle.std.proofs.Math.Nat.{mul-le-mul_right}
use Rattle.std.proofs.lemmas.Bool.{cases_lt, or_parts}
use Rattle.std.proofs.lemmas.Option.{same_Some}
use Rattle.ddf_lemmas.proofs.Tests.{true_false}
use Rattle.ddf_bay.specs.Sectors.{Image}
use Rattle.ddf_primary.specs.declared.need.Need.{Need}
use Rattle.ddf_primary.proofs.Needs.{lone_needs}
use Rattle.ddf_primary.specs.Cells.{height_of}
use Rattle.ddf_config.specs.Within.{has_enough}
use Rattle.ddf_array.specs.Apart.{IsApart}
use Rattle.ddf_array.specs.declared.part.Part.{Part}
use Rattle.ddf_array.specs.declared.place.Place.{Place}
use Rattle.ddf_array.specs.Levels.{keeps_copies, keeps_parity}
use Rattle.ddf_array.specs.Places.{is_available, site_on}
use Rattle.ddf_array.specs.Volume.{Volume, IsVolume}
use Rattle.ddf_array.specs.Within.{is_part_within, is_redundant, is_within}
use Rattle.ddf_array.proofs.Enough.{all_pass}
use Rattle.ddf_cells.specs.Alike.{AreAlike}
use Rattle.ddf_cells.specs.Apart.{LiesAt}
use Rattle.ddf_cells.specs.CellSources.{wanted}
use Rattle.ddf_cells.specs.Writing.{StaysBut}
use Rattle.ddf_cells.proofs.Alike.{depth_below, wanted_same}
use Rattle.ddf_cells.proofs.LyingApart.{lie_apart}
use Rattle.ddf_cells.proofs.Surely.{of_place}
use Rattle.ddf_rebuild.specs.Rebuilding.{HasRebuilt}
use Rattle.ddf_rebuild.specs.Target.{IsInRows, IsTarget, IsTargetCell}
use Rattle.ddf_rebuild.proofs.Aiming.{same_target}
use Rattle.ddf_rebuild.proofs.Kept.{alike_rebuilding}
use Rattle.ddf_data_array.specs.Changing.{IsWritable}
use Rattle.ddf_data_array.specs.Rows.{AreAlikeThroughout, AreRowsKept, GoesOnBehind, HasNoRows}
use Rattle.ddf_data_array.proofs.Plain.{alone, keeps_one}

-- no sector is below no rows
pub no_rows : {A : Type 0} (part : Part) (row sector : ℕ) → row ≡ 0 → IsInRows part.shape 0 row sector → A
no_rows part row sector none rows =
    let below : sector < 0 * height_of part.shape = subst (λ (n : ℕ). sector < n * height_of part.shape) none rows.to_is in
    absurd (omega (arith, below))

-- the target is looked up once
module _ (v : Volume) (image : Image) (element position row : ℕ) (part : Part) (place : Place) (slot : ℕ) (target : IsTarget v element position part place slot) where
  pub has_rebuilt : ((sector : ℕ) → IsInRows part.shape 0 row sector → image slot (place.start + sector) ≡ wanted v image element part sector position)
      → HasRebuilt v element position 0 row image image
  has_rebuilt each other_part other_place other_slot sector other rows =
      let looked = same_target v element position part other_part place other_place target.is_part other.is_part target.is_place other.is_place in
      let on : slot ≡ other_slot = same_Some slot other_slot (sym target.is_there ∙ ap (λ (p : Place). p.slot) looked.1 ∙ other.is_there) in
      ap (λ (s : ℕ). image s (other_place.start + sector)) (sym on)
      ∙ ap (λ (p : Place). image slot (p.start + sector)) (sym looked.1)
      ∙ each sector (subst (λ (p : Part). IsInRows p.shape 0 row sector) (sym looked.0) rows)
      ∙ ap (λ (p : Part). wanted v image element p sector position) looked.0

-- ---- images that are alike

module _ (is_absent : ℕ → ℕ → Bool) (v : Volume) (known : IsVolume v) (before image : Image) (same : AreAlike v before image) where
  pub rows_still : ((element position : ℕ) (part : Part) (place : Place) (slot sector : ℕ) → IsTarget v element position part place slot → IsInRows part.shape 0 place.row sector
      → image slot (place.start + sector) ≡ before slot (place.start + sector))
      → AreRowsKept is_absent v before → AreRowsKept is_absent v image
  rows_still still kept = record {
    rebuilt = λ unmarked within element position part place slot target counts.
        has_rebuilt v image element position place.row part place slot target (λ sector rows.
        still element position part place slot sector target rows
        ∙ kept.rebuilt unmarked within element position part place slot target counts part place slot sector target rows
        ∙ wanted_same v known before image same element part target.is_part sector position (depth_below v known part sector rows.below));
    first = kept.first;
  }

target_lies : (v : Volume) (known : IsVolume v) (element position : ℕ) (part : Part) (place : Place) (slot row sector : ℕ) → IsTarget v element position part place slot → IsInRows part.shape 0 row sector
    → LiesAt v element position sector slot (place.start + sector)
target_lies v known element position part place slot row sector target rows =
    record { part = part; place = place; is_part = target.is_part; is_place = target.is_place; below = depth_below v known part sector rows.below; is_there = target.is_there; lba_is = refl }

module _ (v : Volume) (before image : Image) (same : AreAlikeThroughout v before image) where
  pub alike_cells : AreAlike v before image
  alike_cells slot lba cell =
      let of = of_place cell.part.places cell.position cell.sector (site_on slot lba) cell.is_site in
      same cell.element cell.position cell.sector slot lba
      (record { part = cell.part; place = of.place; is_part = cell.is_part; is_place = of.is_place; below = cell.below; is_there = of.is_there; lba_is = of.lba_is })

  pub rows_alike : (is_absent : ℕ → ℕ → Bool) → IsVolume v → AreRowsKept is_absent v before → AreRowsKept is_absent v image
  rows_alike is_absent known kept =
      rows_still is_absent v known before image alike_cells (λ element position part place slot sector target rows.
      sym (same element position sector slot (place.start + sector) (target_lies v known element position part place slot place.row sector target rows))) kept

-- ---- a rebuild goes on behind them

module _ (is_absent : ℕ → ℕ → Bool) (v : Volume) (known : IsVolume v) (apart : IsApart v) (element position from to : ℕ) (before image : Image) (behind : GoesOnBehind v element position from)
    (left : StaysBut (IsTargetCell v element position from to) before image) where
  -- a sector of kept rows is none that the rebuild writes
  not_written : (e p : ℕ) (part : Part) (place : Place) (slot sector : ℕ) → IsTarget v e p part place slot → IsInRows part.shape 0 place.row sector
      → IsTargetCell v element position from to slot (place.start + sector) → ⊥
  not_written e p part place slot sector target rows cell =
      let here = target_lies v known e p part place slot place.row sector target rows in
      let there : LiesAt v element position cell.sector slot (place.start + sector) = record {
        part = cell.part;
        place = cell.place;
        is_part = cell.is_target.is_part;
        is_place = cell.is_target.is_place;
        below = depth_below v known cell.part cell.sector cell.in_rows.below;
        is_there = cell.is_target.is_there;
        lba_is = cell.lba_is;
      } in
      let same = lie_apart v apart element position cell.sector e p sector slot (place.start + sector) there here in
      let looked = same_target v element position cell.part part cell.place place cell.is_target.is_part (ap (slice_get v.parts) same.0 ∙ target.is_part) cell.is_target.is_place
      (ap (slice_get part.places) same.1 ∙ target.is_place) in
      let row_le : place.row ≤ from = subst (λ (x : Place). x.row ≤ from) looked.1 (behind cell.part cell.place slot cell.is_target) in
      let sector_is : sector ≡ cell.sector = let at : place.start + sector ≡ place.start + cell.sector = cell.lba_is ∙ ap (λ (x : Place). x.start + cell.sector) looked.1 in omega (arith, at) in
      let up : from * height_of part.shape ≤ cell.sector = subst (λ (x : Part). from * height_of x.shape ≤ cell.sector) looked.0 cell.in_rows.from_is in
      let down = rows.to_is in
      let grows : place.row * height_of part.shape ≤ from * height_of part.shape = mul-le-mul_right (height_of part.shape) row_le in
      omega (arith, up, down, grows, sector_is)

  pub rows_behind : AreRowsKept is_absent v before → AreRowsKept is_absent v image
  rows_behind kept =
      rows_still is_absent v known before image (alike_rebuilding v element position from to before image apart left) (λ e p part place slot sector target rows.
      ⊎_elim (λ same. same) (λ cell. absurd (not_written e p part place slot sector target rows cell)) (left slot (place.start + sector))) kept

-- ---- rows that are set behind others

module _ (v : Volume) (known : IsVolume v) (apart : IsApart v) (element position from to : ℕ) (before image : Image) (left : StaysBut (IsTargetCell v element position from to) before image) where
  -- an earlier row stays
  stays_set : (part : Part) (place : Place) (slot sector : ℕ) → IsTarget v element position part place slot → sector < from * height_of part.shape → IsTargetCell v element position from to slot (place.start + sector) → ⊥
  stays_set part place slot sector target earlier cell =
      let looked = same_target v element position cell.part part cell.place place cell.is_target.is_part target.is_part cell.is_target.is_place target.is_place in
      let sector_is : sector ≡ cell.sector = let at : place.start + sector ≡ place.start + cell.sector = cell.lba_is ∙ ap (λ (x : Place). x.start + cell.sector) looked.1 in omega (arith, at) in
      let up : from * height_of part.shape ≤ cell.sector = subst (λ (x : Part). from * height_of x.shape ≤ cell.sector) looked.0 cell.in_rows.from_is in
      omega (arith, up, earlier, sector_is)

  pub rows_go_on : HasRebuilt v element position 0 from before before → HasRebuilt v element position from to before image → HasRebuilt v element position 0 to image image
  rows_go_on first second part place slot sector target rows =
      let same = wanted_same v known before image (alike_rebuilding v element position from to before image apart left) element part target.is_part sector position (depth_below v known part sector rows.below) in
      ⊎_elim
      (λ (earlier : sector < from * height_of part.shape).
      ⊎_elim (λ stays. stays) (λ cell. absurd (stays_set part place slot sector target earlier cell)) (left slot (place.start + sector))
      ∙ first part place slot sector target (record { from_is = rows.from_is; to_is = earlier; below = rows.below }) ∙ same)
      (λ (later : from * height_of part.shape ≤ sector). second part place slot sector target (record { from_is = later; to_is = rows.to_is; below = rows.below }) ∙ same)
      (cases_lt sector (from * height_of part.shape))

-- ---- there are none

pub no_rows_kept : (is_absent : ℕ → ℕ → Bool) (v : Volume) (image : Image) → HasNoRows v → AreRowsKept is_absent v image
no_rows_kept is_absent v image none = record {
  rebuilt = λ unmarked within element position part place slot target counts.
      has_rebuilt v image element position place.row part place slot target (λ sector rows. no_rows part place.row sector (none element position part place target.is_part target.is_place) rows);
  first = λ unmarked within element position part place slot target counts. inl (none element position part place target.is_part target.is_place);
}

pub marked_rows : (is_absent : ℕ → ℕ → Bool) (v : Volume) (image : Image) → v.marked ≡ true → AreRowsKept is_absent v image
marked_rows is_absent v image marked = record {
  rebuilt = λ unmarked within element position part place slot target counts. absurd (true_false v.marked marked unmarked);
  first = λ unmarked within element position part place slot target counts. absurd (true_false v.marked marked unmarked);
}

-- where each block is in one place alone, an array within its level has no position that is out of sync
module _ (v : Volume) (plain : is_redundant v ≡ false) (within : is_within v ≡ true) (element position : ℕ) (part : Part) (place : Place) (slot : ℕ) (target : IsTarget v element position part place slot) where
  part_within : is_part_within part ≡ true
  part_within =
      all_pass is_part_within v.parts (ap (λ b. if b then list_any is_part_within v.parts else list_all is_part_within v.parts) (sym (alone v plain)) ∙ within) element part target.is_part

  pub never_out : ⊥
  never_out =
      let plain_part = or_parts (keeps_copies part.shape.layout) (keeps_parity part.shape.layout) (keeps_one v plain element part target.is_part) in
      true_false place.synced (all_synced (all_pass is_available part.places (all_available part_within plain_part.0 plain_part.1) position place target.is_place)) target.is_out
    where
      all_available : is_part_within part ≡ true → keeps_copies part.shape.layout ≡ false → keeps_parity part.shape.layout ≡ false → list_all is_available part.places ≡ true
      all_available e lone none = ap (λ (n : Need). has_enough n is_available part.places) (sym (lone_needs part.shape.layout lone none)) ∙ e

      all_synced : (place.synced && is_some place.slot) ≡ true → place.synced ≡ true
      all_synced e = by place.synced e
        where
          by : (b : Bool) → (b && is_some place.slot) ≡ true → b ≡ true
          by true e = refl
          by false e = absurd (cc)

pub writable_rows : (is_absent : ℕ → ℕ → Bool) (v : Volume) (image : Image) → IsWritable v → AreRowsKept is_absent v image
writable_rows is_absent v image writable =
    ⊎_elim (λ marked. marked_rows is_absent v image marked)
    (λ plain. record {
      rebuilt = λ unmarked within element position part place slot target counts. absurd (never_out v plain within element position part place slot target);
      first = λ unmarked within element position part place slot target counts. absurd (never_out v plain within element position part place slot target);
    })
    writable
