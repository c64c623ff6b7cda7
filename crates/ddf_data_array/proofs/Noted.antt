-- An array keeps what it keeps where rows that are set are counted as rebuilt.
use Rattle.std.proofs.Common.{◌≡◌, ◌≢◌, ◌∙◌, ◌⊎◌, inl, inr, ⊎_elim, ℕ, zero, suc, ◌+◌, Bool, true, false, List, [], ◌∷◌, Some, refl, sym, ap, subst, arith, map, slice_get}
use Rattle.ddf_lemmas.proofs.Options.{some_is}
use Rattle.ddf_bay.specs.Sectors.{Image}
use Rattle.ddf_primary.specs.Placement.{Placement}
use Rattle.ddf_primary.specs.Levels.{IsShape}
use Rattle.ddf_array.specs.declared.part.Part.{Part}
use Rattle.ddf_array.specs.declared.place.Place.{Place}
use Rattle.ddf_array.specs.Levels.{keeps_parity}
use Rattle.ddf_array.specs.Volume.{Volume, IsPart, IsVolume, size_of}
use Rattle.ddf_array.specs.Within.{is_within}
use Rattle.ddf_array.specs.Redundant.{IsRedundant}
use Rattle.ddf_cells.specs.CellSources.{wanted}
use Rattle.ddf_rebuild.specs.Rebuilding.{HasRebuilt}
use Rattle.ddf_rebuild.specs.Target.{IsInRows, IsTarget}
use Rattle.ddf_data_array.specs.Allowed.{Allowed}
use Rattle.ddf_data_array.specs.Changing.{changed_item, noted, part_noted, place_noted}
use Rattle.ddf_data_array.specs.Fewer.{IsAlikePlace, IsFewerPlace, IsSamePlace, ArePlaces, AreFewerParts, IsFewer, LeavesParity}
use Rattle.ddf_data_array.specs.Kept.{IsKeptData}
use Rattle.ddf_data_array.specs.Rows.{AreRowsKept, DoRowsCount, IsFirstOut}
use Rattle.ddf_data_array.proofs.Fewer.{at_places, same_count, was_within}
use Rattle.ddf_data_array.proofs.Items.{changed_cases}
use Rattle.ddf_data_array.proofs.Lessened.{kept_but_rows, wanted_alike}
use Rattle.ddf_data_array.proofs.RowsKept.{has_rebuilt, no_rows}

-- ---- places: they are where they were

same_rest : (places : List Place) → ArePlaces IsSamePlace places (map (place_noted 0) places)
same_rest [] = tt
same_rest (place ∷ places) = ((refl, refl, refl), same_rest places)

same_places : (row p : ℕ) (places : List Place) → ArePlaces IsSamePlace places (changed_item (place_noted row) p (map (place_noted 0) places))
same_places row p [] = tt
same_places row zero (place ∷ places) = ((refl, refl, refl), same_rest places)
same_places row (suc p) (place ∷ places) = ((refl, refl, refl), same_places row p places)

fewer_of : (befores afters : List Place) → ArePlaces IsSamePlace befores afters → ArePlaces IsFewerPlace befores afters
fewer_of [] [] are = tt
fewer_of [] (a ∷ afters) are = absurd are
fewer_of (b ∷ befores) [] are = absurd are
fewer_of (b ∷ befores) (a ∷ afters) are = (inr are.0, fewer_of befores afters are.1)

alike_of : (befores afters : List Place) → ArePlaces IsSamePlace befores afters → ArePlaces IsAlikePlace befores afters
alike_of [] [] are = tt
alike_of [] (a ∷ afters) are = absurd are
alike_of (b ∷ befores) [] are = absurd are
alike_of (b ∷ befores) (a ∷ afters) are = (inr are.0, alike_of befores afters are.1)

itself : (places : List Place) → ArePlaces IsSamePlace places places
itself [] = tt
itself (place ∷ places) = ((refl, refl, refl), itself places)

rest_row : (places : List Place) (q : ℕ) (place : Place) → slice_get (map (place_noted 0) places) q ≡ Some place → place.row ≡ 0
rest_row [] q place at = absurd (cc)
rest_row (one ∷ places) zero place at = ap (λ (x : Place). x.row) (sym (some_is at))
rest_row (one ∷ places) (suc q) place at = rest_row places q place at

row_of : (row p : ℕ) (places : List Place) (q : ℕ) (place : Place) → slice_get (changed_item (place_noted row) p (map (place_noted 0) places)) q ≡ Some place
    → ((q ≡ p) × (place.row ≡ row)) ⊎ (place.row ≡ 0)
row_of row p places q place at =
    ⊎_elim (λ changed. inl (changed.same_place, ap (λ (x : Place). x.row) changed.is_changed)) (λ other. inr (rest_row places q place other.1))
    (changed_cases (place_noted row) p (map (place_noted 0) places) q place at)

-- ---- elements

pub all_itself : (parts : List Part) → AreFewerParts parts parts
all_itself [] = tt
all_itself (part ∷ parts) = ((refl, fewer_of part.places part.places (itself part.places)), all_itself parts)

parts_fewer : (p row e : ℕ) (parts : List Part) → AreFewerParts parts (changed_item (part_noted p row) e parts)
parts_fewer p row e [] = tt
parts_fewer p row zero (part ∷ parts) = ((refl, fewer_of part.places (part_noted p row part).places (same_places row p part.places)), all_itself parts)
parts_fewer p row (suc e) (part ∷ parts) = ((refl, fewer_of part.places part.places (itself part.places)), parts_fewer p row e parts)

pub noted_sizes : (p row e : ℕ) (parts : List Part) → map size_of (changed_item (part_noted p row) e parts) ≡ map size_of parts
noted_sizes p row e [] = refl
noted_sizes p row zero (part ∷ parts) = refl
noted_sizes p row (suc e) (part ∷ parts) = ap (λ l. size_of part ∷ l) (noted_sizes p row e parts)

-- an element as it was, its rebuild rows aside
record WasPart (v : Volume) (e p row f : ℕ) (part : Part) : Type 0 where
  pub was : Part
  pub is_was : slice_get v.parts f ≡ Some was
  pub same_shape : part.shape ≡ was.shape
  pub same : ArePlaces IsSamePlace was.places part.places
  pub rows : ((f ≢ e) × (part ≡ was)) ⊎ ((f ≡ e) × ((q : ℕ) (place : Place) → slice_get part.places q ≡ Some place → ((q ≡ p) × (place.row ≡ row)) ⊎ (place.row ≡ 0)))

module _ (v : Volume) (e p row : ℕ) where
  abbrev now : Volume
  now = noted e p row v

  was_part : (f : ℕ) (part : Part) → slice_get now.parts f ≡ Some part → WasPart v e p row f part
  was_part f part at =
      ⊎_elim
      (λ changed. subst (WasPart v e p row f) (sym changed.is_changed) (record {
        was = changed.item;
        is_was = changed.is_item;
        same_shape = refl;
        same = same_places row p changed.item.places;
        rows = inr (changed.same_place, row_of row p changed.item.places);
      }))
      (λ other. record { was = part; is_was = other.1; same_shape = refl; same = itself part.places; rows = inl (other.0, refl) })
      (changed_cases (part_noted p row) e v.parts f part at)

  is_part_now : (was part : Part) → part.shape ≡ was.shape → ArePlaces IsSamePlace was.places part.places → IsPart was → IsPart part
  is_part_now was part shape_is same is = record {
    shape_is = subst (λ (s : Placement). IsShape s) (sym shape_is) is.shape_is;
    has_places = same_count IsSamePlace was.places part.places same ∙ is.has_places ∙ ap (λ (s : Placement). s.members) (sym shape_is);
    ends = λ q place at slot on.
        let own = at_places IsSamePlace was.places part.places same q place at in
        let ends = is.ends q own.0 own.1 slot (sym own.2.2 ∙ on) in
        omega (arith, ends, own.2.1, ap (λ (s : Placement). s.blocks) shape_is);
  }

  pub noted_volume : IsVolume v → IsVolume now
  noted_volume known = record {
    array_is = known.array_is;
    has_sizes = known.has_sizes ∙ sym (noted_sizes p row e v.parts);
    are_parts = λ f part at. let there = was_part f part at in is_part_now there.was part there.same_shape there.same (known.are_parts f there.was there.is_was);
  }

  fewer : IsFewer v now
  fewer = record { mark_is = inr refl; same_tiers = refl; fewer_parts = parts_fewer p row e v.parts }

  parity_left : (is_absent : ℕ → ℕ → Bool) → LeavesParity is_absent is_absent v now
  parity_left is_absent = record {
    stays = λ unmarked within f one other one_at other_at parity lacks none.
        let there = was_part f other other_at in
        inl (subst (λ (x : Part). ArePlaces IsAlikePlace x.places other.places) (some_is (sym there.is_was ∙ one_at)) (alike_of there.was.places other.places there.same), none);
  }

  module _ (known : IsVolume v) (is_absent : ℕ → ℕ → Bool) (image : Image) (is : IsRedundant v image) (kept : AreRowsKept is_absent v image) (first : IsFirstOut v e p) (rebuilt : HasRebuilt v e p 0 row image image)
      (unmarked : v.marked ≡ false) (within : is_within now ≡ true)
      (f q : ℕ) (part : Part) (place : Place) (slot : ℕ) (target : IsTarget now f q part place slot) (counts : DoRowsCount is_absent f part) where
    there : WasPart v e p row f part
    there = was_part f part target.is_part

    abbrev Holds : Type 0
    Holds = ((sector : ℕ) → IsInRows part.shape 0 place.row sector → image slot (place.start + sector) ≡ wanted now image f part sector q) × ((place.row ≡ 0) ⊎ IsFirstOut now f q)

    wanted_stays : (sector : ℕ) → wanted now image f part sector q ≡ wanted v image f there.was sector q
    wanted_stays sector =
        wanted_alike v now fewer (noted_volume known) within image is f there.was part there.is_was target.is_part there.same_shape sector (alike_of there.was.places part.places there.same) q

    without : place.row ≡ 0 → Holds
    without zero_row = (λ sector rows. no_rows part place.row sector zero_row rows, inl zero_row)

    -- each position that is in sync was
    first_stays : IsFirstOut v f q → IsFirstOut now f q
    first_stays first_there other other_at parity earlier one less at =
        let was = was_part f other other_at in
        let own = at_places IsSamePlace was.was.places other.places was.same earlier one at in
        own.2.0 ∙ first_there was.was was.is_was (ap (λ (s : Placement). keeps_parity s.layout) (sym was.same_shape) ∙ parity) earlier own.0 less own.1

    own : (was : Place) × (slice_get there.was.places q ≡ Some was) × IsSamePlace was place
    own = at_places IsSamePlace there.was.places part.places there.same q place target.is_place

    was_target : IsTarget v f q there.was own.0 slot
    was_target = record { is_part = there.is_was; is_place = own.1; is_out = sym own.2.0 ∙ target.is_out; is_there = sym own.2.2 ∙ target.is_there }

    -- what its rows held
    held : (n : ℕ) → HasRebuilt v f q 0 n image image → place.row ≡ n → (sector : ℕ) → IsInRows part.shape 0 place.row sector → image slot (place.start + sector) ≡ wanted now image f part sector q
    held n was_rebuilt row_is sector rows =
        ap (λ (a : ℕ). image slot (a + sector)) own.2.1
        ∙ was_rebuilt there.was own.0 slot sector was_target
        (subst (λ (a : ℕ). IsInRows there.was.shape 0 a sector) row_is (subst (λ (s : Placement). IsInRows s 0 place.row sector) there.same_shape rows))
        ∙ sym (wanted_stays sector)

    other_element : part ≡ there.was → Holds
    other_element same =
        let row_is : place.row ≡ own.0.row = ap (λ (x : Place). x.row) (some_is (sym target.is_place ∙ ap (λ (x : Part). slice_get x.places q) same ∙ own.1)) in
        let counted = subst (DoRowsCount is_absent f) same counts in
        let within_then = was_within v now fewer within in (
          held own.0.row (kept.rebuilt unmarked within_then f q there.was own.0 slot was_target counted) row_is,
          ⊎_elim (λ zero_row. inl (row_is ∙ zero_row)) (λ first_there. inr (first_stays first_there)) (kept.first unmarked within_then f q there.was own.0 slot was_target counted),
        )

    pub holds : Holds
    holds =
        ⊎_elim (λ apart. other_element apart.1)
        (λ here.
        ⊎_elim
        (λ noted_here. (
          held row (subst (λ (a : ℕ). HasRebuilt v a q 0 row image image) (sym here.0) (subst (λ (b : ℕ). HasRebuilt v e b 0 row image image) (sym noted_here.0) rebuilt)) noted_here.1,
          inr (first_stays (subst (λ (a : ℕ). IsFirstOut v a q) (sym here.0) (subst (IsFirstOut v e) (sym noted_here.0) first))),
        ))
        (λ zero_row. without zero_row) (here.1 q place target.is_place))
        there.rows

pub kept_noted : (is_absent : ℕ → ℕ → Bool) (v : Volume) (image : Image) (allowed : Allowed) (e p row : ℕ) → IsVolume v → IsFirstOut v e p → HasRebuilt v e p 0 row image image
    → IsKeptData is_absent v image allowed → IsKeptData is_absent (noted e p row v) image allowed
kept_noted is_absent v image allowed e p row known first rebuilt kept =
    kept_but_rows is_absent is_absent v (noted e p row v) image allowed (noted_volume v e p row known) (fewer v e p row) (parity_left v e p row is_absent) kept (record {
      rebuilt = λ unmarked within f q part place slot target counts.
          has_rebuilt (noted e p row v) image f q place.row part place slot target
          (holds v e p row known is_absent image (kept.sound.redundant unmarked (was_within v (noted e p row v) (fewer v e p row) within)) kept.rows first rebuilt unmarked within f q part place slot target counts).0;
      first = λ unmarked within f q part place slot target counts.
          (holds v e p row known is_absent image (kept.sound.redundant unmarked (was_within v (noted e p row v) (fewer v e p row) within)) kept.rows first rebuilt unmarked within f q part place slot target counts).1;
    })
