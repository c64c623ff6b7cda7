-- Rows of the target, by its sectors.
use Rattle.std.proofs.Common.{◌≡◌, ◌∙◌, ℕ, ◌+◌, ◌-◌, ◌*◌, ◌<◌, ◌≤◌, List, Some, sym, ap, subst, arith, slice_get}
use Rattle.std.specs.Prelude.{min}
use Rattle.std.proofs.lemmas.Option.{same_Some}
use Rattle.ddf_bay.specs.State.{BayState}
use Rattle.ddf_bay.specs.Moments.{StopsLeave}
use Rattle.ddf_bay.specs.Sectors.{Image, Outcomes}
use Rattle.ddf_primary.specs.Cells.{depth_of, height_of}
use Rattle.ddf_array.specs.declared.part.Part.{Part}
use Rattle.ddf_array.specs.declared.place.Place.{Place}
use Rattle.ddf_array.specs.Volume.{Volume}
use Rattle.ddf_read.specs.Reading.{NoneLeft}
use Rattle.ddf_cells.specs.CellSources.{cell_sources, needed_positions, wanted}
use Rattle.ddf_cells.specs.GivenCells.{IsWantedGiven}
use Rattle.ddf_cells.specs.Writing.{AddsBut, AsksFor, IsAmongSectors, IsLeftBut, StaysBut}
use Rattle.ddf_cells.proofs.Writes.{adds_wider, asks_start, asks_then, stays_wider, stops_wider}
use Rattle.ddf_rebuild.specs.declared.aim.Aim.{Aim}
use Rattle.ddf_rebuild.specs.Rebuilding.{HasGiven, HasRebuilt, NoneLeftInRows, sectors_of}
use Rattle.ddf_rebuild.specs.Sectors.{AreGiven, AreRebuilt, NoneLeftIn}
use Rattle.ddf_rebuild.specs.Target.{IsAim, IsInRows, IsTarget, IsTargetCell, IsTargetSlot}
use Rattle.ddf_rebuild.proofs.Aiming.{same_target}

-- the rows of an element that is looked up
module _ (v : Volume) (aim : Aim) (aims : IsAim v aim) (own : Part) (own_is : own ≡ aims.part) (element position from to first end : ℕ) (element_is : aim.element ≡ element) (position_is : aim.position ≡ position)
    (end_own : end ≡ min (to * height_of own.shape) (depth_of own.shape)) (first_own : first ≡ min (from * height_of own.shape) end) where
  end_is : end ≡ min (to * height_of aims.part.shape) (depth_of aims.part.shape)
  end_is = end_own ∙ ap (λ (p : Part). min (to * height_of p.shape) (depth_of p.shape)) own_is

  first_is : first ≡ min (from * height_of aims.part.shape) end
  first_is = first_own ∙ ap (λ (p : Part). min (from * height_of p.shape) end) own_is

  target_is : IsTarget v element position aims.part aims.place aim.slot
  target_is = record {
    is_part = ap (slice_get v.parts) (sym element_is) ∙ aims.is_target.is_part;
    is_place = ap (slice_get aims.part.places) (sym position_is) ∙ aims.is_target.is_place;
    is_out = aims.is_target.is_out;
    is_there = aims.is_target.is_there;
  }

  pub rows_slot : (slot : ℕ) → slot ≡ aim.slot → IsTargetSlot v element position slot
  rows_slot slot same = record { part = aims.part; place = aims.place; is_target = subst (λ n. IsTarget v element position aims.part aims.place n) (sym same) target_is }

  in_rows : (sector : ℕ) → first ≤ sector → sector < end → IsInRows aims.part.shape from to sector
  in_rows sector from_is below = record {
    from_is = omega (arith, from_is, below, end_is, first_is);
    to_is = omega (arith, below, end_is);
    below = omega (arith, below, end_is);
  }

  row_cell : (s l : ℕ) → IsAmongSectors aim.slot (aim.start + first) (end - first) s l → IsTargetCell v element position from to s l
  row_cell s l is = record {
    part = aims.part;
    place = aims.place;
    is_target = subst (λ n. IsTarget v element position aims.part aims.place n) (sym is.on_slot) target_is;
    sector = l - aim.start;
    in_rows = in_rows (l - aim.start) (omega (arith, is.from)) (omega (arith, is.from, is.below));
    lba_is = omega (arith, is.from, aims.start_is);
  }

  -- what calls on these sectors leave, they leave on these rows
  pub rows_moments : {D : Type 0} {a b : BayState D} (may : Outcomes) → StopsLeave a b (IsLeftBut (IsAmongSectors aim.slot (aim.start + first) (end - first)) may) → StopsLeave a b (IsLeftBut (IsTargetCell v element position from to) may)
  rows_moments may moments = stops_wider (IsAmongSectors aim.slot (aim.start + first) (end - first)) (IsTargetCell v element position from to) row_cell may moments

  pub rows_add : (a b : Outcomes) → AddsBut (IsAmongSectors aim.slot (aim.start + first) (end - first)) a b → AddsBut (IsTargetCell v element position from to) a b
  rows_add a b adds = adds_wider (IsAmongSectors aim.slot (aim.start + first) (end - first)) (IsTargetCell v element position from to) row_cell a b adds

  pub rows_stay : (a b : Image) → StaysBut (IsAmongSectors aim.slot (aim.start + first) (end - first)) a b → StaysBut (IsTargetCell v element position from to) a b
  rows_stay a b stays = stays_wider (IsAmongSectors aim.slot (aim.start + first) (end - first)) (IsTargetCell v element position from to) row_cell a b stays

  pub rows_all : (before now image : Image) → AreRebuilt v aim first end before now → ((l : ℕ) → image aim.slot l ≡ now aim.slot l) → HasRebuilt v element position from to before image
  rows_all before now image all same part place slot sector target rows =
      let looked = same_target v element position aims.part part aims.place place target_is.is_part target.is_part target_is.is_place target.is_place in
      let slot_is : slot ≡ aim.slot = same_Some slot aim.slot (sym target.is_there ∙ ap (λ (p : Place). p.slot) (sym looked.1) ∙ aims.is_target.is_there) in
      let start : place.start + sector ≡ aim.start + sector = ap (λ (p : Place). p.start + sector) (sym looked.1) ∙ ap (λ n. n + sector) aims.start_is in
      let rows' : IsInRows aims.part.shape from to sector = subst (λ (p : Part). IsInRows p.shape from to sector) (sym looked.0) rows in
      let here = all part (ap (slice_get v.parts) element_is ∙ target.is_part) sector (omega (arith, rows'.from_is, first_is)) (omega (arith, rows'.to_is, rows'.below, end_is)) in
      ap (λ n. image n (place.start + sector)) slot_is ∙ ap (image aim.slot) start ∙ same (aim.start + sector) ∙ here
      ∙ ap (λ n. wanted v before n part sector aim.position) element_is ∙ ap (wanted v before element part sector) position_is

  pub rows_given : (failed : ℕ → Type 0) (before now : Image) → AreGiven failed v aim first end before now → HasGiven failed v element position from to before now
  rows_given failed before now all part place slot sector target rows =
      let looked = same_target v element position aims.part part aims.place place target_is.is_part target.is_part target_is.is_place target.is_place in
      let slot_is : slot ≡ aim.slot = same_Some slot aim.slot (sym target.is_there ∙ ap (λ (p : Place). p.slot) (sym looked.1) ∙ aims.is_target.is_there) in
      let start : place.start + sector ≡ aim.start + sector = ap (λ (p : Place). p.start + sector) (sym looked.1) ∙ ap (λ n. n + sector) aims.start_is in
      let rows' : IsInRows aims.part.shape from to sector = subst (λ (p : Part). IsInRows p.shape from to sector) (sym looked.0) rows in
      let here = all part (ap (slice_get v.parts) element_is ∙ target.is_part) sector (omega (arith, rows'.from_is, first_is)) (omega (arith, rows'.to_is, rows'.below, end_is)) in
      subst (λ (bytes : List ℕ). IsWantedGiven failed v before element part sector position bytes) (sym (ap (λ n. now n (place.start + sector)) slot_is ∙ ap (now aim.slot) start))
      (subst (λ n. IsWantedGiven failed v before element part sector n (now aim.slot (aim.start + sector))) position_is
      (subst (λ n. IsWantedGiven failed v before n part sector aim.position (now aim.slot (aim.start + sector))) element_is here))

  pub rows_left : (failed : ℕ → Type 0) (slot : ℕ) → NoneLeftIn failed v aim first end slot → NoneLeftInRows failed v element position from to slot
  rows_left failed slot left =
      let same = same_part' aims.part left.part (sym aims.is_target.is_part ∙ left.is_part) in
      record {
        part = left.part;
        is_part = ap (slice_get v.parts) (sym element_is) ∙ left.is_part;
        sector = left.sector;
        in_rows = subst (λ (p : Part). IsInRows p.shape from to left.sector) same (in_rows left.sector left.is_from left.is_below);
        number = left.number;
        other = left.other;
        is_needed = ap (λ n. slice_get (needed_positions left.part left.sector n) left.number) (sym position_is) ∙ left.is_needed;
        none_left = subst (λ n. NoneLeft failed (cell_sources v n left.part left.sector left.other) slot) element_is left.none_left;
      }
    where
      same_part' : (a b : Part) → Some a ≡ Some b → a ≡ b
      same_part' a b e = cc

  pub rows_ask : {D : Type 0} {a b : BayState D} (part : Part) → slice_get v.parts element ≡ Some part → AsksFor a b (end - first) → AsksFor a b (sectors_of part.shape from to)
  rows_ask {a = a} part part_at asks =
      let same : aims.part ≡ part = same_part' aims.part part (sym target_is.is_part ∙ part_at) in
      let count : end - first ≤ sectors_of aims.part.shape from to = omega (arith, end_is, first_is) in
      asks_then _ (subst (λ (p : Part). 0 + (end - first) ≤ sectors_of p.shape from to) same (omega (arith, count))) (asks_start a) asks
    where
      same_part' : (a b : Part) → Some a ≡ Some b → a ≡ b
      same_part' a b e = cc
