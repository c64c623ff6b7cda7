-- The view of an array once it is marked: it is the view before but for the mark, and for rows that were rebuilt.
use Rattle.std.proofs.Common.{◌≡◌, ℕ, ◌+◌, ◌/◌, ◌%◌, ◌==◌, Bool, true, false, not, ◌&&◌, ◌||◌, cond, List, [], ◌∷◌, length, map, Option, Some, None, Ok, option_map, nat_le, refl, sym, ap, subst, ◌∙◌, if◌then◌else◌, eqb, arith}
use Rattle.std.proofs.lemmas.Bool.{and_parts, not-false}
use Rattle.std.proofs.lemmas.List.{length-map}
use Rattle.std.proofs.lemmas.List.Folds.{list_all-map}
use Rattle.std.specs.Prelude.{filter_map, fold}
use Rattle.std.specs.List.{cons_option, list_all, list_any}
use Rattle.std.specs.Map.{lookup}
use Rattle.std.specs.Result.{result_ok}
use Rattle.std.specs.Cmp.Lexicographic.{pointwise}
use Rattle.ddf_lemmas.proofs.Options.{some_is}
use Rattle.ddf_primary.specs.Placement.{Placement}
use Rattle.ddf_primary.specs.declared.need.Need.{Need}
use Rattle.ddf_primary.specs.declared.need.Need.TheVariants.{All, One, AllButOne, Neighbours}
use Rattle.ddf_primary.specs.Needs.{need_by, one_of_each}
use Rattle.ddf_secondary.specs.Arrangement.{tiers_of}
use Rattle.ddf_secondary.specs.declared.element.ElementSize.{ElementSize}
use Rattle.ddf_config.specs.declared.array.Array.{Array}
use Rattle.ddf_config.specs.declared.element.Position.{Position}
use Rattle.ddf_config.specs.declared.extent.Extent.{Extent}
use Rattle.ddf_config.specs.declared.seat.Seat.{Seat}
use Rattle.ddf_config.specs.Configuration.{Configuration}
use Rattle.ddf_config.specs.ElementValue.{ElementValue}
use Rattle.ddf_config.specs.Entries.{changed_entries}
use Rattle.ddf_config.specs.Extents.{extents}
use Rattle.ddf_config.specs.Members.{same_guid}
use Rattle.ddf_config.specs.Shapes.{array_tiers, element_shape, part_size, secondary_level}
use Rattle.ddf_config.specs.States.{array_with_low, is_marked}
use Rattle.ddf_config.specs.Unusable.{unusable}
use Rattle.ddf_config.specs.Within.{has_enough, has_enough_parts}
use Rattle.ddf_plan.specs.declared.change.Change.TheVariants.{Mark}
use Rattle.ddf_plan.specs.Arrays.{arrays_after, kept_and_added}
use Rattle.ddf_plan.specs.Changes.{changed, changed_at}
use Rattle.ddf_plan.specs.Mark.{marked, without_row, without_rows}
use Rattle.ddf_plan.specs.Members.{members_after}
use Rattle.ddf_plan.specs.Same.{is_step, same_array, same_member, same_tables}
use Rattle.ddf_repair.proofs.Marks.{is_set}
use Rattle.ddf_repair.proofs.Usable.{looked_up, one_after, table_is, usable_kept}
use Rattle.ddf_array.specs.declared.part.Part.{Part}
use Rattle.ddf_array.specs.declared.place.Place.{Place}
use Rattle.ddf_array.specs.Cells.{is_in_every}
use Rattle.ddf_array.specs.Levels.{keeps_parity}
use Rattle.ddf_array.specs.Places.{is_available}
use Rattle.ddf_array.specs.Viewing.{known_part, part_of, parts_of, place_of, view_of}
use Rattle.ddf_array.specs.Volume.{Volume}
use Rattle.ddf_array.specs.Within.{is_mirrored, is_part_within, is_redundant, is_within, keeps_more}
use Rattle.ddf_array.proofs.Viewed.{Viewed, from_view, has_view}
use Rattle.ddf_read.specs.declared.fault.VolumeFault.TheVariants as volumes
use Rattle.ddf_cells.specs.Degraded.{is_degraded, lacks_place}
use Rattle.ddf_resync.specs.Resyncing.{resync_refusal}

-- ---- places and elements without rows that are rebuilt

abbrev pub cleared_place : Place → Place
cleared_place place = record place { row = 0 }

abbrev pub cleared : Part → Part
cleared part = record part { places = map cleared_place part.places }

places_cleared : (seats : List Seat) (blocks : ℕ) (positions : List Position) → map (place_of seats blocks) (map without_row positions) ≡ map cleared_place (map (place_of seats blocks) positions)
places_cleared seats blocks [] = refl
places_cleared seats blocks (position ∷ positions) = ap (λ (rest : List Place). cleared_place (place_of seats blocks position) ∷ rest) (places_cleared seats blocks positions)

shape_stays : (elements : ℕ) (element : ElementValue) → element_shape elements (without_rows element) ≡ element_shape elements element
shape_stays elements element = rw length-map refl

part_cleared : (seats : List Seat) (elements : ℕ) (element : ElementValue) → part_of seats elements (without_rows element) ≡ option_map cleared (part_of seats elements element)
part_cleared seats elements element = ap (option_map made) (shape_stays elements element) ∙ by (element_shape elements element)
  where
    made : Placement → Part
    made shape = record { shape = shape; places = map (place_of seats element.blocks) (map without_row element.positions) }

    by : (shape : Option Placement)
        → option_map (λ (one : Placement). record { shape = one; places = map (place_of seats element.blocks) (map without_row element.positions) }) shape
        ≡ option_map cleared (option_map (λ (one : Placement). record { shape = one; places = map (place_of seats element.blocks) element.positions }) shape)
    by None = refl
    by (Some shape) = ap (λ (places : List Place). Some (record { shape = shape; places = places })) (places_cleared seats element.blocks element.positions)

kept_parts : (seats : List Seat) (elements : ℕ) (parts : List (Option ElementValue))
    → filter_map (known_part seats elements) (map (option_map without_rows) parts) ≡ map cleared (filter_map (known_part seats elements) parts)
kept_parts seats elements [] = refl
kept_parts seats elements (None ∷ parts) = kept_parts seats elements parts
kept_parts seats elements (Some element ∷ parts) =
    ap (λ (first : Option Part). cons_option first (filter_map (known_part seats elements) (map (option_map without_rows) parts))) (part_cleared seats elements element)
    ∙ ap (cons_option (option_map cleared (part_of seats elements element))) (kept_parts seats elements parts)
    ∙ by (part_of seats elements element) (filter_map (known_part seats elements) parts)
  where
    by : (first : Option Part) (rest : List Part) → cons_option (option_map cleared first) (map cleared rest) ≡ map cleared (cons_option first rest)
    by None rest = refl
    by (Some part) rest = refl

parts_cleared : (seats : List Seat) (parts : List (Option ElementValue)) → parts_of seats (map (option_map without_rows) parts) ≡ map cleared (parts_of seats parts)
parts_cleared seats parts =
    ap (λ (n : ℕ). filter_map (known_part seats n) (map (option_map without_rows) parts)) (length-map parts (option_map without_rows)) ∙ kept_parts seats (length parts) parts

kept_sizes : (elements : ℕ) (parts : List (Option ElementValue)) → filter_map (part_size elements) (map (option_map without_rows) parts) ≡ filter_map (part_size elements) parts
kept_sizes elements [] = refl
kept_sizes elements (None ∷ parts) = kept_sizes elements parts
kept_sizes elements (Some element ∷ parts) =
    ap (cons_option (part_size elements (Some (without_rows element)))) (kept_sizes elements parts)
    ∙ ap (λ (first : Option ElementSize). cons_option first (filter_map (part_size elements) parts)) (rw shape_stays refl)

-- ---- what it is refused for, and whether it is redundant

any_cleared : (places : List Place) → list_any is_available (map cleared_place places) ≡ list_any is_available places
any_cleared [] = refl
any_cleared (place ∷ places) = ap (λ (b : Bool). is_available place || b) (any_cleared places)

all_cleared : (places : List Place) → list_all is_available (map cleared_place places) ≡ list_all is_available places
all_cleared places = list_all-map is_available cleared_place places

abbrev lacking : ℕ → Place → ℕ
lacking n place = n + cond (not (is_available place)) 1 0

counted_cleared : (n : ℕ) (places : List Place) → fold lacking n (map cleared_place places) ≡ fold lacking n places
counted_cleared n [] = refl
counted_cleared n (place ∷ places) = counted_cleared (lacking n place) places

each_cleared : (places : List Place) → map is_available (map cleared_place places) ≡ map is_available places
each_cleared [] = refl
each_cleared (place ∷ places) = ap (λ (l : List Bool). is_available place ∷ l) (each_cleared places)

enough_cleared : (need : Need) (places : List Place) → has_enough need is_available (map cleared_place places) ≡ has_enough need is_available places
enough_cleared All places = all_cleared places
enough_cleared One places = any_cleared places
enough_cleared AllButOne places = ap (λ (n : ℕ). nat_le n 1) (counted_cleared 0 places)
enough_cleared (Neighbours spread) places = ap (one_of_each spread) (each_cleared places)

any_within : (parts : List Part) → list_any is_part_within (map cleared parts) ≡ list_any is_part_within parts
any_within [] = refl
any_within (part ∷ parts) =
    ap (λ (b : Bool). b || list_any is_part_within (map cleared parts)) (enough_cleared (need_by part.shape.layout) part.places)
    ∙ ap (λ (b : Bool). is_part_within part || b) (any_within parts)

all_within : (parts : List Part) → list_all is_part_within (map cleared parts) ≡ list_all is_part_within parts
all_within [] = refl
all_within (part ∷ parts) =
    ap (λ (b : Bool). b && list_all is_part_within (map cleared parts)) (enough_cleared (need_by part.shape.layout) part.places)
    ∙ ap (λ (b : Bool). is_part_within part && b) (all_within parts)

any_lacks : (parts : List Part) → list_any lacks_place (map cleared parts) ≡ list_any lacks_place parts
any_lacks [] = refl
any_lacks (part ∷ parts) =
    ap (λ (b : Bool). (keeps_parity part.shape.layout && not b) || list_any lacks_place (map cleared parts)) (all_cleared part.places)
    ∙ ap (λ (b : Bool). lacks_place part || b) (any_lacks parts)

any_keeps : (parts : List Part) → list_any keeps_more (map cleared parts) ≡ list_any keeps_more parts
any_keeps [] = refl
any_keeps (part ∷ parts) = ap (λ (b : Bool). keeps_more part || b) (any_keeps parts)

-- the view with its mark set
abbrev pub with_mark : Volume → Volume
with_mark volume = record { marked = true; tiers = volume.tiers; parts = map cleared volume.parts }

module _ (volume : Volume) where
  mirrored_same : is_mirrored (with_mark volume) ≡ is_mirrored volume
  mirrored_same = ap (λ (n : ℕ). is_in_every volume.tiers.level && nat_le 2 n) (length-map volume.parts cleared)

  within_same : is_within (with_mark volume) ≡ is_within volume
  within_same =
      ap (λ (b : Bool). has_enough_parts b is_part_within (map cleared volume.parts)) mirrored_same
      ∙ ap (λ (b : Bool). if is_mirrored volume then b else list_all is_part_within (map cleared volume.parts)) (any_within volume.parts)
      ∙ ap (λ (b : Bool). if is_mirrored volume then list_any is_part_within volume.parts else b) (all_within volume.parts)

  -- It is refused for the same,
  pub refusal_same : resync_refusal (with_mark volume) ≡ resync_refusal volume
  refusal_same =
      ap (λ (b : Bool). if not b then Some volumes.Lost else (if is_degraded (with_mark volume) then Some volumes.Unsure else None)) within_same
      ∙ ap (λ (b : Bool). if not (is_within volume) then Some volumes.Lost else (if b then Some volumes.Unsure else None)) (any_lacks volume.parts)

  -- and redundant where it was.
  pub redundant_same : is_redundant (with_mark volume) ≡ is_redundant volume
  redundant_same =
      ap (λ (b : Bool). b || list_any keeps_more (map cleared volume.parts)) mirrored_same
      ∙ ap (λ (b : Bool). is_mirrored volume || b) (any_keeps volume.parts)

-- ---- the view behind a mark

module _ (config : Configuration) (guid : List ℕ) (seats : List Seat) (volume : Volume) (is : view_of config guid seats ≡ Ok volume) (sequence : ℕ) where
  abbrev next_config : Configuration
  next_config = changed_at config (Mark guid) sequence

  before : Viewed config guid seats volume
  before = from_view config guid seats volume is

  abbrev all : List Extent
  all = extents (kept_and_added config (Mark guid))

  -- the array as the mark leaves it
  abbrev next : Array
  next = array_with_low (members_after config (Mark guid)) all (marked before.array)

  next_is : lookup (same_guid guid) next_config.arrays ≡ Some next
  next_is =
      let found = looked_up (one_after config (Mark guid) all) (same_guid guid) config.arrays before.array before.array_is in
      ap (lookup (same_guid guid)) (table_is config (Mark guid) refl) ∙ found.2
      ∙ ap (λ (b : Bool). Some (array_with_low (members_after config (Mark guid)) all (if b then marked before.array else before.array))) found.1

  next_usable : unusable next_config.members seats (extents next_config.arrays) guid next ≡ None
  next_usable =
      let kept = usable_kept config (Mark guid) refl seats guid before.array before.array_is in
      let same : kept.0 ≡ next = some_is (sym kept.1 ∙ next_is) in
      subst (λ (one : Array). unusable next_config.members seats (extents next_config.arrays) guid one ≡ None) same (kept.2 ∙ before.usable)

  next_marked : is_marked next ≡ true
  next_marked =
      let set = is_set config guid before.array before.array_is in
      let same : set.0 ≡ next = some_is (sym set.1 ∙ next_is) in
      subst (λ (one : Array). is_marked one ≡ true) same set.2

  tiers_same : array_tiers next ≡ array_tiers before.array
  tiers_same =
      ap (λ (n : ℕ). result_ok (tiers_of (if n == 1 then 0x00 else before.array.secondary) (filter_map (part_size n) (map (option_map without_rows) before.array.elements))))
      (length-map before.array.elements (option_map without_rows))
      ∙ ap (λ (l : List ElementSize). result_ok (tiers_of (secondary_level before.array) l)) (kept_sizes (length before.array.elements) before.array.elements)

  -- It is the view with its mark set.
  pub marked_view : view_of next_config guid seats ≡ Ok (with_mark volume)
  marked_view =
      let view = has_view next_config guid seats next next_is next_usable in
      let after = from_view next_config guid seats view.0 view.1 in
      let array : after.array ≡ next = some_is (sym after.array_is ∙ next_is) in
      let tiers : view.0.tiers ≡ volume.tiers = some_is (sym after.tiers_are ∙ ap array_tiers array ∙ tiers_same ∙ before.tiers_are) in
      let parts : view.0.parts ≡ map cleared volume.parts =
      after.parts_are ∙ ap (λ (one : Array). parts_of seats one.elements) array ∙ parts_cleared seats before.array.elements ∙ ap (map cleared) (sym before.parts_are) in
      let mark : view.0.marked ≡ true = after.marked_is ∙ ap is_marked array ∙ next_marked in
      let same : view.0 ≡ with_mark volume = λ i. record { marked = mark i; tiers = tiers i; parts = parts i } in
      view.1 ∙ ap (λ (one : Volume). Ok one) same

-- ---- a mark that is there already

-- the array that a test finds is the same behind what a change makes of each
pub record IsSameFound (k : List ℕ → Array → Array) (test : List ℕ → Bool) (entries : List (List ℕ × Array)) (array : Array) : Type 0 where
  pub guid : List ℕ
  pub is_found : lookup test (changed_entries (λ g a. Some (k g a)) entries) ≡ Some (k guid array)
  pub same : same_array (guid, array) (guid, k guid array) ≡ true

found_same : (k : List ℕ → Array → Array) (test : List ℕ → Bool) (entries : List (List ℕ × Array)) (array : Array)
    → pointwise same_array entries (changed_entries (λ g a. Some (k g a)) entries) ≡ true → lookup test entries ≡ Some array → IsSameFound k test entries array
found_same k test [] array same found = absurd cc
found_same k test (entry ∷ entries) array same found = by (test entry.0) refl (found_same k test entries array both.1) found
  where
    both : (same_array entry (entry.0, k entry.0 entry.1) ≡ true) × (pointwise same_array entries (changed_entries (λ g a. Some (k g a)) entries) ≡ true)
    both = and_parts (same_array entry (entry.0, k entry.0 entry.1)) (pointwise same_array entries (changed_entries (λ g a. Some (k g a)) entries)) same

    by : (b : Bool) → test entry.0 ≡ b → (lookup test entries ≡ Some array → IsSameFound k test entries array) → cond b (Some entry.1) (lookup test entries) ≡ Some array
        → IsSameFound k test (entry ∷ entries) array
    by true e later is =
        let own : entry.1 ≡ array = some_is is in
        subst (IsSameFound k test (entry ∷ entries)) own
        (record { guid = entry.0; is_found = ap (λ (b : Bool). cond b (Some (k entry.0 entry.1)) (lookup test (changed_entries (λ g a. Some (k g a)) entries))) e; same = both.0 })
    by false e later is =
        let rest = later is in
        record {
          guid = rest.guid;
          is_found = ap (λ (b : Bool). cond b (Some (k entry.0 entry.1)) (lookup test (changed_entries (λ g a. Some (k g a)) entries))) e ∙ rest.is_found;
          same = rest.same;
        }

same_state : (guid : List ℕ) (one other : Array) → same_array (guid, one) (guid, other) ≡ true → one.state ≡ other.state
same_state guid one other same = grind (arith, same)

module _ (config : Configuration) (guid : List ℕ) (array : Array) (there : lookup (same_guid guid) config.arrays ≡ Some array) where
  -- An array that setting its mark leaves as it is has its mark.
  pub was_marked : is_step config (Mark guid) ≡ false → is_marked array ≡ true
  unfolding same_tables
  was_marked unstepped =
      let all = extents (kept_and_added config (Mark guid)) in
      let tables = not-false (same_tables config (changed config (Mark guid))) unstepped in
      let arrays = (and_parts (pointwise same_member config.members (members_after config (Mark guid))) (pointwise same_array config.arrays (arrays_after config (Mark guid))) tables).1 in
      let found = found_same (one_after config (Mark guid) all) (same_guid guid) config.arrays array
      (subst (λ (entries : List (List ℕ × Array)). pointwise same_array config.arrays entries ≡ true) (table_is config (Mark guid) refl) arrays) there in
      let set = is_set config guid array there in
      let next : set.0 ≡ one_after config (Mark guid) all found.guid array = some_is (sym set.1 ∙ ap (lookup (same_guid guid)) (table_is config (Mark guid) refl) ∙ found.is_found) in
      ap (λ (state : ℕ). eqb (state / 16 % 2) 1) (same_state found.guid array (one_after config (Mark guid) all found.guid array) found.same)
      ∙ ap is_marked (sym next) ∙ set.2
