-- No source is left of a cell beside blocks only where reads of two disks failed.
use Rattle.std.proofs.Common.{◌≡◌, ◌≢◌, ◌∙◌, ⊎_elim, ℕ, zero, suc, ◌<◌, Bool, true, false, List, [], ◌∷◌, ◌++◌, Option, Some, None, refl, sym, ap, subst, arith, map, filter_map, length, slice_get}
use Rattle.std.specs.Prelude.{◌==◌, option_map, option_to_list, if◌then◌else◌}
use Rattle.std.specs.List.{flat_map, range_with_len}
use Rattle.std.proofs.lemmas.Bool.{eqb-true, eq-eqb}
use Rattle.std.proofs.lemmas.Option.{slice_get_within}
use Rattle.ddf_lemmas.proofs.Lists.{get_filter_map}
use Rattle.ddf_lemmas.proofs.Options.{some_is}
use Rattle.ddf_primary.specs.Cells as cells_of
use Rattle.ddf_array.specs.declared.part.Part.{Part}
use Rattle.ddf_array.specs.declared.site.Site.{Site}
use Rattle.ddf_array.specs.Cells.{block_spots, element_cells}
use Rattle.ddf_array.specs.Levels.{keeps_parity}
use Rattle.ddf_array.specs.Places.{site_at}
use Rattle.ddf_array.specs.Rows.{block_at, sources_without_block}
use Rattle.ddf_array.specs.Sources.{Source, copy, row, all_of, at_spot, copies, element_rows, every_source, other_at, row_without, rows}
use Rattle.ddf_array.specs.Volume.{IsVolume, Volume}
use Rattle.ddf_array.proofs.Consistent.{at_part, in_flat, to_flat}
use Rattle.ddf_array.proofs.RowCells.{row_is}
use Rattle.ddf_read.specs.Reading.{AllHaveSlot, HasSite}
use Rattle.ddf_cells.specs.Degraded.{is_degraded}
use Rattle.ddf_cells.proofs.Alike.{in_all_of}
use Rattle.ddf_cells.proofs.CopiesOn.{at_cells, at_spots, block_at_sits, in_copies}
use Rattle.ddf_cells.proofs.Lists.{in_range, some_not_none}
use Rattle.ddf_cells.proofs.OnCells.{spot_of}
use Rattle.ddf_cells.proofs.Surely.{of_place}
use Rattle.ddf_cells.proofs.Whole.{whole_site}
use Rattle.ddf_write.specs.Beside.{AreOnOwnDisks, NoneLeftBeside}

-- ---- sources of lists

all_front : (P : ℕ → Type 0) (xs ys : List Source) → AllHaveSlot P (xs ++ ys) → AllHaveSlot P xs
all_front P [] ys all = tt
all_front P (x ∷ xs) ys all = (all.0, all_front P xs ys all.1)

all_back : (P : ℕ → Type 0) (xs ys : List Source) → AllHaveSlot P (xs ++ ys) → AllHaveSlot P ys
all_back P [] ys all = all
all_back P (x ∷ xs) ys all = all_back P xs ys all.1

of_copy_at : (P : ℕ → Type 0) (sites : List Site) (k : ℕ) (one : Site) → slice_get sites k ≡ Some one → AllHaveSlot P (map copy sites) → P one.slot
of_copy_at P [] k one at all = absurd (some_not_none one (sym at))
of_copy_at P (x ∷ sites) zero one at all = subst (λ (s : Site). P s.slot) (some_is at) all.0
of_copy_at P (x ∷ sites) (suc k) one at all = of_copy_at P sites k one at all.1

of_row_at : (P : ℕ → Type 0) (lists : List (List Site)) (k : ℕ) (sites : List Site) → slice_get lists k ≡ Some sites → AllHaveSlot P (map row lists) → HasSite P sites
of_row_at P [] k sites at all = absurd (some_not_none sites (sym at))
of_row_at P (x ∷ lists) zero sites at all = subst (HasSite P) (some_is at) all.0
of_row_at P (x ∷ lists) (suc k) sites at all = of_row_at P lists k sites at all.1

of_site : (P : ℕ → Type 0) (sites : List Site) → HasSite P sites → (k : ℕ) × ((one : Site) × (slice_get sites k ≡ Some one) × P one.slot)
of_site P [] has = absurd has
of_site P (x ∷ sites) has = ⊎_elim (λ here. (0, (x, refl, here))) (λ there. let rest = of_site P sites there in (suc rest.0, rest.1)) has

-- none is missing
all_there : {X : Type 0} (xs : List (Option X)) → ((k : ℕ) (found : Option X) → slice_get xs k ≡ Some found → (x : X) × (found ≡ Some x)) → (all : List X) × (all_of xs ≡ Some all)
all_there [] each = ([], refl)
all_there {X = X} (o ∷ xs) each =
    let here = each 0 o refl in
    let rest = all_there xs (λ k found at. each (suc k) found at) in
    (here.0 ∷ rest.0, ap (λ (p : Option X). all_of (p ∷ xs)) here.1 ∙ ap (option_map (λ (l : List X). here.0 ∷ l)) rest.1)

-- ---- the other cells of a row

module _ (v : Volume) (known : IsVolume v) (whole : is_degraded v ≡ false) (own_disks : AreOnOwnDisks v) (failed : ℕ → Type 0) (element : ℕ) (part : Part) (is_part : slice_get v.parts element ≡ Some part)
    (keep : keeps_parity part.shape.layout ≡ true) (position sector : ℕ) (below : position < length part.places) where
  other_found : (other : ℕ) (b : Bool) → (other == position) ≡ b → (k : ℕ) (found : Option Site) → slice_get (if b then [] else site_at part.places other sector ∷ []) k ≡ Some found
      → (b ≡ false) × (site_at part.places other sector ≡ found)
  other_found other true is k found at = absurd (some_not_none found (sym at))
  other_found other false is zero found at = (refl, some_is at)
  other_found other false is (suc k) found at = absurd (some_not_none found (sym at))

  -- the cell of another position
  record OfOther (found : Option Site) : Type 0 where
    pub other : ℕ
    pub inside : other < length part.places
    pub differs : (other == position) ≡ false
    pub is_there : site_at part.places other sector ≡ found

  of_other : (k : ℕ) (found : Option Site) → slice_get (flat_map (other_at part.places sector position) (range_with_len 0 (length part.places))) k ≡ Some found → OfOther found
  of_other k found at =
      let from = in_flat (other_at part.places sector position) (range_with_len 0 (length part.places)) k found at in
      let is = other_found from.item (from.item == position) refl from.inner found from.is_inner in
      let range = in_range 0 (length part.places) from.at from.item from.is_at in
      record { other = from.item; inside = omega (arith, range.1); differs = is.0; is_there = is.1 }

  row_there : (sites : List Site) × (row_without part.places position sector ≡ Some sites)
  row_there =
      let all =
      all_there (flat_map (other_at part.places sector position) (range_with_len 0 (length part.places)))
      (λ k found at.
      let of = of_other k found at in
      let one = whole_site v whole element part is_part keep of.other sector of.inside in
      (one.0, sym of.is_there ∙ one.1)) in
      (all.0, row_is part.places position sector ∙ all.1)

  -- a read failed of the slot of another cell of the row
  other_failed : (own : Site) → site_at part.places position sector ≡ Some own → (sites : List Site) → row_without part.places position sector ≡ Some sites → HasSite failed sites → (other : ℕ) × (failed other × (other ≢ own.slot))
  other_failed own is_own sites is_row has =
      let one = of_site failed sites has in
      let among = in_all_of (flat_map (other_at part.places sector position) (range_with_len 0 (length part.places))) sites one.0 one.1.0 (sym (row_is part.places position sector) ∙ is_row) one.1.1 in
      let of = of_other among.0 (Some one.1.0) among.1 in
      let mine = of_place part.places position sector own is_own in
      let its = of_place part.places of.other sector one.1.0 of.is_there in (
        one.1.0.slot,
        (
          one.1.2,
          λ same.
              let places = own_disks element of.other position one.1.0.slot part its.place mine.place is_part keep its.is_place mine.is_place its.is_there (mine.is_there ∙ ap Some (sym same)) in
              never (sym of.differs ∙ eq-eqb of.other position places),
        ),
      )
    where
      never : false ≡ true → ⊥
      never e = cc

  -- ---- the sources of a cell

  in_rows : (block : ℕ) (sites : List Site) → block_at v element position sector ≡ Some block → row_without part.places position sector ≡ Some sites → (k : ℕ) × (slice_get (rows v block) k ≡ Some sites)
  in_rows block sites at is_row =
      let sits = block_at_sits v known element position sector block at in
      let inner = sits.inner in
      let same : sits.part ≡ part = some_is (sym sits.is_part ∙ is_part) in
      let on = subst (λ (q : Part). cells_of.Holds q.shape position sector inner) same sits.on_position in
      let spot = at_spots v known block element inner sits.in_element (slice_get_within v.parts element part is_part) in
      let here = at_cells part inner (known.are_parts element part is_part).shape_is position sector on in
      let inside = get_filter_map (λ (c : ℕ × ℕ). row_without part.places c.0 c.1) (element_cells part.shape inner) here.0 (position, sector) sites here.1 is_row in
      to_flat (at_spot v.parts element_rows) (block_spots v block) spot.0 inside.0 (spot_of element inner) sites spot.1
      (ap (λ (l : List (List Site)). slice_get l inside.0) (at_part v.parts element_rows (spot_of element inner) part is_part)
      ∙ ap (λ b. slice_get (if b then filter_map (λ (c : ℕ × ℕ). row_without part.places c.0 c.1) (element_cells part.shape inner) else []) inside.0) keep
      ∙ inside.1)

  in_own : (block : ℕ) (own : Site) → block_at v element position sector ≡ Some block → site_at part.places position sector ≡ Some own → (k : ℕ) × (slice_get (copies v block) k ≡ Some own)
  in_own block own at is_own =
      let sits = block_at_sits v known element position sector block at in
      let same : part ≡ sits.part = some_is (sym is_part ∙ sits.is_part) in
      in_copies v known block element position own (record { sector = sector; sits = sits; is_there = ap (λ (q : Part). site_at q.places position sector) (sym same) ∙ is_own })

  module _ (own : Site) (is_own : site_at part.places position sector ≡ Some own) where
    abbrev Two : Type 0
    Two = failed own.slot × ((other : ℕ) × (failed other × (other ≢ own.slot)))

    two_of_block : (block : ℕ) → block_at v element position sector ≡ Some block → AllHaveSlot failed (every_source v block) → Two
    two_of_block block at all =
        let mine = in_own block own at is_own in
        let there = row_there in
        let others = in_rows block there.0 at there.1 in (
          of_copy_at failed (copies v block) mine.0 own mine.1 (all_front failed (map copy (copies v block)) (map row (rows v block)) all),
          other_failed own is_own there.0 there.1 (of_row_at failed (rows v block) others.0 there.0 others.1 (all_back failed (map copy (copies v block)) (map row (rows v block)) all)),
        )

    two_of_none : AllHaveSlot failed (sources_without_block part position sector) → Two
    two_of_none all =
        let there = row_there in
        let plain : AllHaveSlot failed (map copy (option_to_list (Some own)) ++ (if true then map row (option_to_list (Some there.0)) else [])) =
        subst (λ (o : Option (List Site)). AllHaveSlot failed (map copy (option_to_list (Some own)) ++ (if true then map row (option_to_list o) else []))) there.1
        (subst (λ b. AllHaveSlot failed (map copy (option_to_list (Some own)) ++ (if b then map row (option_to_list (row_without part.places position sector)) else []))) keep
        (subst (λ (o : Option Site). AllHaveSlot failed (map copy (option_to_list o) ++ (if keeps_parity part.shape.layout then map row (option_to_list (row_without part.places position sector)) else []))) is_own all)) in
        (plain.0, other_failed own is_own there.0 there.1 plain.1.0)

    two_failed : (found : Option ℕ) → block_at v element position sector ≡ found → AllHaveSlot failed (elim found [ None ↦ sources_without_block part position sector | Some block ↦ every_source v block ]) → Two
    two_failed None at all = two_of_none all
    two_failed (Some block) at all = two_of_block block at all

-- ---- a look that ends

pub ends_with_two : (v : Volume) → IsVolume v → is_degraded v ≡ false → AreOnOwnDisks v → (failed : ℕ → Type 0) (start count slot : ℕ) → NoneLeftBeside failed v start count slot
    → failed slot × ((other : ℕ) × (failed other × (other ≢ slot)))
ends_with_two v known whole own_disks failed start count slot left =
    let cell = left.is_beside.is_cell in
    let own = whole_site v whole left.element left.part cell.is_part cell.keeps left.position left.sector cell.is_position in
    let two =
    two_failed v known whole own_disks failed left.element left.part cell.is_part cell.keeps left.position left.sector cell.is_position own.0 own.1
    (block_at v left.element left.position left.sector) refl left.none_left.all_failed in
    (left.none_left.this_failed, by (own.0.slot == slot) own.0.slot refl two.0 two.1)
  where
    never : true ≡ false → ⊥
    never e = cc

    by : (b : Bool) (own : ℕ) → (own == slot) ≡ b → failed own → ((other : ℕ) × (failed other × (other ≢ own))) → (other : ℕ) × (failed other × (other ≢ slot))
    by true own same mine other = (other.0, (other.1.0, λ e. other.1.1 (e ∙ sym (eqb-true own slot same))))
    by false own same mine other = (own, (mine, λ e. never (sym (eq-eqb own slot e) ∙ same)))
