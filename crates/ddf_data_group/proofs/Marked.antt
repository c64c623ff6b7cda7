-- Of a marked array no rows count as rebuilt.
use Rattle.std.proofs.Common.{◌≡◌, ◌∙◌, ℕ, zero, suc, Bool, true, false, not, List, [], ◌∷◌, Option, Some, None, cond, refl, sym, ap, subst, map, slice_get, if◌then◌else◌}
use Rattle.std.specs.Prelude.{option_map}
use Rattle.std.specs.Map.{lookup}
use Rattle.std.specs.Option.{option_eq}
use Rattle.std.specs.Cmp.Lexicographic.{pointwise}
use Rattle.std.proofs.lemmas.Bool.{eqb-true}
use Rattle.ddf_lemmas.proofs.Tests.{and_first, and_second}
use Rattle.ddf_config.specs.declared.array.Array.{Array}
use Rattle.ddf_config.specs.declared.element.Position.{Position}
use Rattle.ddf_config.specs.declared.seat.Seat.{Seat}
use Rattle.ddf_config.specs.Configuration.{Configuration}
use Rattle.ddf_config.specs.ElementValue.{ElementValue}
use Rattle.ddf_config.specs.Entries.{changed_entries}
use Rattle.ddf_config.specs.Extents.{extents}
use Rattle.ddf_config.specs.Members.{same_guid}
use Rattle.ddf_plan.specs.declared.change.Change.TheVariants.{Mark}
use Rattle.ddf_plan.specs.Arrays.{kept_and_added}
use Rattle.ddf_plan.specs.Changes.{changed, changed_at}
use Rattle.ddf_plan.specs.Mark.{marked, without_row, without_rows}
use Rattle.ddf_plan.specs.Members.{members_after}
use Rattle.ddf_plan.specs.Same.{is_step, same_array, same_element, same_position, same_tables}
use Rattle.ddf_repair.proofs.Usable.{one_after, table_is}
use Rattle.ddf_array.specs.declared.place.Place.{Place}
use Rattle.ddf_array.specs.Viewing.{place_of}
use Rattle.ddf_array.specs.Volume.{Volume}
use Rattle.ddf_data_array.specs.Rows.{HasNoRows}
use Rattle.ddf_data_group.specs.Over.{IsOver}
use Rattle.ddf_data_group.proofs.Entries.{made_of}
use Rattle.ddf_data_group.proofs.Parts.{at_position, of_part}

-- every element is without rows
record IsWithoutRows (known : List (Option ElementValue)) : Type 0 where
  pub was : List (Option ElementValue)
  pub is_without : known ≡ map (option_map without_rows) was

pub element_without : (was : List (Option ElementValue)) (k : ℕ) (element : ElementValue) → slice_get (map (option_map without_rows) was) k ≡ Some (Some element)
    → (one : ElementValue) × (element ≡ without_rows one)
element_without [] k element at = absurd (cc)
element_without (None ∷ was) zero element at = absurd (cc)
element_without (Some one ∷ was) zero element at = let same : without_rows one ≡ element = cc in (one, sym same)
element_without (part ∷ was) (suc k) element at = element_without was k element at

pub no_row : (seats : List Seat) (blocks : ℕ) (positions : List Position) (j : ℕ) (place : Place) → slice_get (map (place_of seats blocks) (map without_row positions)) j ≡ Some place → place.row ≡ 0
no_row seats blocks [] j place at = absurd (cc)
no_row seats blocks (one ∷ positions) zero place at =
    let same : place_of seats blocks (without_row one) ≡ place = cc in ap (λ (x : Place). x.row) (sym same)
no_row seats blocks (one ∷ positions) (suc j) place at = no_row seats blocks positions j place at

without_none : (seats : List Seat) (array : Array) (v : Volume) → IsWithoutRows array.elements → IsOver seats array v → HasNoRows v
without_none seats array v without over k j part place part_at place_at =
    let from = of_part seats array v over k part part_at in
    let one = element_without without.was k from.element (ap (λ (l : List (Option ElementValue)). slice_get l k) (sym without.is_without) ∙ from.is_element) in
    no_row seats one.0.blocks one.0.positions j place
    (ap (λ (x : ElementValue). slice_get (map (place_of seats x.blocks) x.positions) j) (sym one.1) ∙ ap (λ (l : List Place). slice_get l j) (sym from.places_are) ∙ place_at)

pub no_rows_left : (conf : Configuration) (guid : List ℕ) (array : Array) (sequence : ℕ) (seats : List Seat) (v : Volume) → lookup (same_guid guid) (changed_at conf (Mark guid) sequence).arrays ≡ Some array
    → IsOver seats array v → HasNoRows v
no_rows_left conf guid array sequence seats v found over =
    let made = made_of (members_after conf (Mark guid)) (extents (kept_and_added conf (Mark guid))) marked guid conf.arrays array found in
    without_none seats array v (record { was = made.before.elements; is_without = made.same_elements }) over

-- ---- a mark that is there already

-- what the mark makes of an array that is as it was
record IsAsBefore (k : List ℕ → Array → Array) (test : List ℕ → Bool) (array : Array) : Type 0 where
  pub guid : List ℕ
  pub passes : test guid ≡ true
  pub same : same_array (guid, array) (guid, k guid array) ≡ true

as_before : (k : List ℕ → Array → Array) (test : List ℕ → Bool) (entries : List (List ℕ × Array)) (array : Array)
    → pointwise same_array entries (changed_entries (λ g a. Some (k g a)) entries) ≡ true → lookup test entries ≡ Some array → IsAsBefore k test array
as_before k test [] array same found = absurd (cc)
as_before k test (entry ∷ entries) array same found = by (test entry.0) refl (as_before k test entries array (and_second _ _ same)) found
  where
    by : (b : Bool) → test entry.0 ≡ b → (lookup test entries ≡ Some array → IsAsBefore k test array) → cond b (Some entry.1) (lookup test entries) ≡ Some array → IsAsBefore k test array
    by true e later is = let own : entry.1 ≡ array = cc in subst (IsAsBefore k test) own (record { guid = entry.0; passes = e; same = and_first _ _ same })
    by false e later is = later is

no_position : (positions : List Position) (j : ℕ) (one : Position) → pointwise same_position positions (map without_row positions) ≡ true → slice_get positions j ≡ Some one → one.row ≡ 0
no_position [] j one same at = absurd (cc)
no_position (p ∷ positions) zero one same at =
    let own : p ≡ one = cc in
    ap (λ (x : Position). x.row) (sym own) ∙ eqb-true p.row 0 (and_second _ _ (and_first _ _ same))
no_position (p ∷ positions) (suc j) one same at = no_position positions j one (and_second _ _ same) at

no_element : (known : List (Option ElementValue)) (k : ℕ) (element : ElementValue) → pointwise (option_eq same_element) known (map (option_map without_rows) known) ≡ true → slice_get known k ≡ Some (Some element)
    → pointwise same_position element.positions (map without_row element.positions) ≡ true
no_element [] k element same at = absurd (cc)
no_element (None ∷ known) zero element same at = absurd (cc)
no_element (Some one ∷ known) zero element same at =
    let own : one ≡ element = cc in
    subst (λ (x : ElementValue). pointwise same_position x.positions (map without_row x.positions) ≡ true) own (and_second _ _ (and_first _ _ same))
no_element (part ∷ known) (suc k) element same at = no_element known k element (and_second _ _ same) at

pub none_were : (conf : Configuration) (guid : List ℕ) (array : Array) (seats : List Seat) (v : Volume) → lookup (same_guid guid) conf.arrays ≡ Some array → is_step conf (Mark guid) ≡ false
    → IsOver seats array v → HasNoRows v
unfolding same_tables
none_were conf guid array seats v found unstepped over k j part place part_at is_place =
    let all = extents (kept_and_added conf (Mark guid)) in
    let tables = not_back (same_tables conf (changed conf (Mark guid))) unstepped in
    let arrays : pointwise same_array conf.arrays (changed_entries (λ g a. Some (one_after conf (Mark guid) all g a)) conf.arrays) ≡ true =
    subst (λ (entries : List (List ℕ × Array)). pointwise same_array conf.arrays entries ≡ true) (table_is conf (Mark guid) refl) (and_second _ _ tables) in
    let was = as_before (one_after conf (Mark guid) all) (same_guid guid) conf.arrays array arrays found in
    let elements : pointwise (option_eq same_element) array.elements (map (option_map without_rows) array.elements) ≡ true = by (same_guid guid was.guid) was.passes (and_second _ _ was.same) in
    let from = of_part seats array v over k part part_at in
    let there = at_position seats from.element.blocks from.element.positions j place (ap (λ (l : List Place). slice_get l j) (sym from.places_are) ∙ is_place) in
    ap (λ (x : Place). x.row) there.2 ∙ no_position from.element.positions j there.0 (no_element array.elements k from.element elements from.is_element) there.1
  where
    not_back : (b : Bool) → not b ≡ false → b ≡ true
    not_back true e = refl
    not_back false e = absurd (cc)

    by : (b : Bool) → b ≡ true → pointwise (option_eq same_element) array.elements (if b then marked array else array).elements ≡ true
        → pointwise (option_eq same_element) array.elements (map (option_map without_rows) array.elements) ≡ true
    by true is e = e
    by false is e = absurd (cc)
