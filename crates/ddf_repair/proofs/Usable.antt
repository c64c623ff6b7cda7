-- An array that can be used can be used after a change that leaves each position its disk and its start.
use Rattle.std.proofs.Common.{◌≡◌, ℕ, ◌+◌, Bool, true, false, not, ◌&&◌, cond, List, [], ◌∷◌, ◌++◌, map, Option, Some, None, option_map, nat_eq, nat_le, count_by, refl, ap, ◌∙◌, if◌then◌else◌}
use Rattle.std.proofs.lemmas.Bool.{false≢true}
use Rattle.std.specs.Map.{lookup}
use Rattle.std.specs.List.{enumerate_from, flat_map, list_all, list_any}
use Rattle.ddf_config.specs.declared.member.Member.{Member}
use Rattle.ddf_config.specs.declared.element.Position.{Position}
use Rattle.ddf_config.specs.declared.array.Array.{Array}
use Rattle.ddf_config.specs.declared.extent.Extent.{Extent}
use Rattle.ddf_config.specs.declared.refusal.Refusal.{Refusal}
use Rattle.ddf_config.specs.declared.refusal.Refusal.TheVariants.{Shape, Lost}
use Rattle.ddf_config.specs.declared.seat.Seat.{Seat}
use Rattle.ddf_config.specs.Configuration.{Configuration}
use Rattle.ddf_config.specs.ElementValue.{ElementValue}
use Rattle.ddf_config.specs.Entries.{changed_entries}
use Rattle.ddf_config.specs.Extents.{array_extents, extent, extents, part_extents}
use Rattle.ddf_config.specs.Levels.{unserved_level}
use Rattle.ddf_config.specs.Members.{same_guid}
use Rattle.ddf_config.specs.Refusals.{first_refusal, refuse_if}
use Rattle.ddf_config.specs.Served.{lies_well, meets_extent}
use Rattle.ddf_config.specs.Shapes.{has_shapes, has_tiers}
use Rattle.ddf_config.specs.States.{array_with_low}
use Rattle.ddf_config.specs.Unusable.{is_served_on, passes_floor, unusable}
use Rattle.ddf_config.specs.Within.{is_complete}
use Rattle.ddf_plan.specs.declared.change.Change.{Change}
use Rattle.ddf_plan.specs.declared.change.Change.TheVariants.{Mark, Unmark, Rewind, Progress, Finish}
use Rattle.ddf_plan.specs.Mark.{without_row, without_rows}
use Rattle.ddf_plan.specs.Rebuild.{finished, progressed}
use Rattle.ddf_plan.specs.Members.{member_after, members_after}
use Rattle.ddf_plan.specs.Standing.{takes_revertible}
use Rattle.ddf_plan.specs.Arrays.{array_after, arrays_after, element_after, kept_and_added, named_after, names, part_after, position_after}
use Rattle.ddf_repair.specs.Places.{keeps_places}
use Rattle.ddf_repair.proofs.Numbers.{KeepsNumbers, chosen_same, named_same, numbers_kept, tiers_kept}

-- ---- members keep their sizes

abbrev sized : (ℕ → Bool) → Option Member → Bool
sized F found = elim found [ None ↦ true | Some m ↦ F m.size ]

at_size : (test : ℕ → Bool) (F : ℕ → Bool) (g : ℕ → Member → Member) → ((k : ℕ) (m : Member) → (g k m).size ≡ m.size) → (es : List (ℕ × Member))
    → sized F (lookup test (changed_entries (λ k m. Some (g k m)) es)) ≡ sized F (lookup test es)
at_size test F g sizes [] = refl
at_size test F g sizes (e ∷ es) = by (test e.0) (at_size test F g sizes es)
  where
    by : (b : Bool) → sized F (lookup test (changed_entries (λ k m. Some (g k m)) es)) ≡ sized F (lookup test es)
        → sized F (cond b (Some (g e.0 e.1)) (lookup test (changed_entries (λ k m. Some (g k m)) es))) ≡ sized F (cond b (Some e.1) (lookup test es))
    by true rest = ap F (sizes e.0 e.1)
    by false rest = rest

pub lies_kept : (config : Configuration) (change : Change) (all : List Extent) (one : Extent) → lies_well (members_after config change) all one ≡ lies_well config.members all one
lies_kept config change all one =
    at_size (nat_eq one.reference) (λ size. nat_le (one.start + one.blocks) size && nat_le (count_by (meets_extent one) all) 1) (member_after config change) (λ k m. refl) config.members

pub all_lie_kept : (config : Configuration) (change : Change) (all own : List Extent) → list_all (lies_well (members_after config change) all) own ≡ list_all (lies_well config.members all) own
all_lie_kept config change all [] = refl
all_lie_kept config change all (one ∷ own) =
    ap (λ b. b && list_all (lies_well (members_after config change) all) own) (lies_kept config change all one)
    ∙ ap (λ b. lies_well config.members all one && b) (all_lie_kept config change all own)

-- ---- tables

pub both_changed : (f h : List ℕ → Array → Array) (es : List (List ℕ × Array)) → changed_entries (λ g a. Some (f g a)) (changed_entries (λ g a. Some (h g a)) es ++ []) ≡ changed_entries (λ g a. Some (f g (h g a))) es
both_changed f h [] = refl
both_changed f h (e ∷ es) = ap (λ rest. (e.0, f e.0 (h e.0 e.1)) ∷ rest) (both_changed f h es)

pub looked_up : (k : List ℕ → Array → Array) (test : List ℕ → Bool) (es : List (List ℕ × Array)) (array : Array) → lookup test es ≡ Some array
    → (guid : List ℕ) × (test guid ≡ true) × (lookup test (changed_entries (λ g a. Some (k g a)) es) ≡ Some (k guid array))
looked_up k test [] array h = absurd cc
looked_up k test (e ∷ es) array h = by (test e.0) refl (looked_up k test es array) h
  where
    by : (b : Bool) → test e.0 ≡ b → (lookup test es ≡ Some array → (guid : List ℕ) × (test guid ≡ true) × (lookup test (changed_entries (λ g a. Some (k g a)) es) ≡ Some (k guid array)))
        → cond b (Some e.1) (lookup test es) ≡ Some array
        → (guid : List ℕ) × (test guid ≡ true) × (cond b (Some (k e.0 e.1)) (lookup test (changed_entries (λ g a. Some (k g a)) es)) ≡ Some (k guid array))
    by true is rest e_is = let same : e.1 ≡ array = cc in (e.0, is, ap (λ (one : Array). Some (k e.0 one)) same)
    by false is rest e_is = rest e_is

-- ---- extents that stay

without_extents : (blocks : ℕ) (positions : List Position) → map (extent blocks) (map without_row positions) ≡ map (extent blocks) positions
without_extents blocks [] = refl
without_extents blocks (one ∷ positions) = ap (λ rest. extent blocks one ∷ rest) (without_extents blocks positions)

marked_extents : (parts : List (Option ElementValue)) → flat_map part_extents (map (option_map without_rows) parts) ≡ flat_map part_extents parts
marked_extents [] = refl
marked_extents (None ∷ parts) = marked_extents parts
marked_extents (Some plan ∷ parts) =
    ap (λ own. own ++ flat_map part_extents (map (option_map without_rows) parts)) (without_extents plan.blocks plan.positions)
    ∙ ap (λ rest. map (extent plan.blocks) plan.positions ++ rest) (marked_extents parts)

-- that a position keeps its disk and its start
record KeepsPlace (f : ℕ → Position → Position) : Type 0 where
  stays : (number blocks : ℕ) (position : Position) → extent blocks (f number position) ≡ extent blocks position

numbered_extents : (f : ℕ → Position → Position) → KeepsPlace f → (blocks n : ℕ) (positions : List Position) → map (extent blocks) (map (λ pair. f pair.0 pair.1) (enumerate_from n positions)) ≡ map (extent blocks) positions
numbered_extents f keeps blocks n [] = refl
numbered_extents f keeps blocks n (one ∷ positions) =
    ap (λ first. first ∷ map (extent blocks) (map (λ pair. f pair.0 pair.1) (enumerate_from (n + 1) positions))) (keeps.stays n blocks one)
    ∙ ap (λ rest. extent blocks one ∷ rest) (numbered_extents f keeps blocks (n + 1) positions)

part_stays : (revertible : Bool) (change : Change) → KeepsPlace (position_after change) → (b : Bool) (part : Option ElementValue) → part_extents (if b then option_map (element_after revertible change) part else part) ≡ part_extents part
part_stays revertible change keeps true None = refl
part_stays revertible change keeps false None = refl
part_stays revertible change keeps true (Some plan) = numbered_extents (position_after change) keeps plan.blocks 0 plan.positions
part_stays revertible change keeps false (Some plan) = refl

parts_stay : (revertible : Bool) (change : Change) → KeepsPlace (position_after change) → (named n : ℕ) (parts : List (Option ElementValue)) → flat_map part_extents (map (part_after revertible change named) (enumerate_from n parts)) ≡ flat_map part_extents parts
parts_stay revertible change keeps named n [] = refl
parts_stay revertible change keeps named n (part ∷ parts) =
    ap (λ own. own ++ flat_map part_extents (map (part_after revertible change named) (enumerate_from (n + 1) parts))) (part_stays revertible change keeps (nat_eq named n) part)
    ∙ ap (λ rest. part_extents part ++ rest) (parts_stay revertible change keeps named (n + 1) parts)

finished_stays : (position : ℕ) → KeepsPlace (finished position)
finished_stays position = record { stays = λ number blocks one. by (nat_eq position number) blocks one }
  where
    by : (b : Bool) (blocks : ℕ) (one : Position) → extent blocks (if b then record one { synced = true; row = 0 } else one) ≡ extent blocks one
    by true blocks one = refl
    by false blocks one = refl

progressed_stays : (position row : ℕ) → KeepsPlace (progressed position row)
progressed_stays position row = record { stays = λ number blocks one. refl }

named_stays : (revertible : Bool) (change : Change) → keeps_places change ≡ true → (array : Array) → array_extents (named_after revertible change array) ≡ array_extents array
named_stays revertible (Mark guid) is array = marked_extents array.elements
named_stays revertible (Unmark guid init) is array = refl
named_stays revertible (Rewind guid) is array = marked_extents array.elements
named_stays revertible (Progress guid element position row) is array = parts_stay revertible (Progress guid element position row) (progressed_stays position row) element 0 array.elements
named_stays revertible (Finish guid element position) is array = parts_stay revertible (Finish guid element position) (finished_stays position) element 0 array.elements
named_stays revertible other is array = absurd (false≢true is)

-- ---- one array

-- what a change of one array makes of each array of the table, with its low state
abbrev pub one_after : Configuration → Change → List Extent → List ℕ → Array → Array
one_after config change all guid array = array_with_low (members_after config change) all (if names change guid then named_after (takes_revertible config change) change array else array)

pub one_numbers : (config : Configuration) (change : Change) (all : List Extent) (guid : List ℕ) (array : Array) → KeepsNumbers array (one_after config change all guid array)
one_numbers config change all guid array =
    let is = chosen_same (names change guid) array (named_after (takes_revertible config change) change array) (named_same (takes_revertible config change) change array) in
    numbers_kept array (one_after config change all guid array) is.secondary is.elements

one_stays : (config : Configuration) (change : Change) → keeps_places change ≡ true → (all : List Extent) (guid : List ℕ) (array : Array) → array_extents (one_after config change all guid array) ≡ array_extents array
one_stays config change is all guid array = by (names change guid)
  where
    by : (b : Bool) → array_extents (if b then named_after (takes_revertible config change) change array else array) ≡ array_extents array
    by true = named_stays (takes_revertible config change) change is array
    by false = refl

pub all_stay : (k : List ℕ → Array → Array) → ((guid : List ℕ) (array : Array) → array_extents (k guid array) ≡ array_extents array) → (es : List (List ℕ × Array)) → extents (changed_entries (λ g a. Some (k g a)) es) ≡ extents es
all_stay k stay [] = refl
all_stay k stay (e ∷ es) =
    ap (λ own. own ++ extents (changed_entries (λ g a. Some (k g a)) es)) (stay e.0 e.1)
    ∙ ap (λ rest. array_extents e.1 ++ rest) (all_stay k stay es)

-- the table after such a change
pub table_is : (config : Configuration) (change : Change) → keeps_places change ≡ true → arrays_after config change ≡ changed_entries (λ g a. Some (one_after config change (extents (kept_and_added config change)) g a)) config.arrays
table_is config (Mark guid) is =
    both_changed (λ g. array_with_low (members_after config (Mark guid)) (extents (kept_and_added config (Mark guid)))) (array_after false (members_after config (Mark guid)) (Mark guid)) config.arrays
table_is config (Unmark guid init) is =
    both_changed (λ g. array_with_low (members_after config (Unmark guid init)) (extents (kept_and_added config (Unmark guid init)))) (array_after false (members_after config (Unmark guid init)) (Unmark guid init)) config.arrays
table_is config (Rewind guid) is =
    both_changed (λ g. array_with_low (members_after config (Rewind guid)) (extents (kept_and_added config (Rewind guid)))) (array_after false (members_after config (Rewind guid)) (Rewind guid)) config.arrays
table_is config (Progress guid element position row) is =
    both_changed (λ g. array_with_low (members_after config (Progress guid element position row)) (extents (kept_and_added config (Progress guid element position row))))
    (array_after false (members_after config (Progress guid element position row)) (Progress guid element position row)) config.arrays
table_is config (Finish guid element position) is =
    both_changed (λ g. array_with_low (members_after config (Finish guid element position)) (extents (kept_and_added config (Finish guid element position))))
    (array_after false (members_after config (Finish guid element position)) (Finish guid element position)) config.arrays
table_is config other is = absurd (false≢true is)

module _ (config : Configuration) (change : Change) (is : keeps_places change ≡ true) (seats : List Seat) where
  abbrev made : List ℕ → Array → Array
  made = one_after config change (extents (kept_and_added config change))

  all_is : extents (arrays_after config change) ≡ extents config.arrays
  all_is = ap extents (table_is config change is) ∙ all_stay made (one_stays config change is (extents (kept_and_added config change))) config.arrays

  served_is : (guid : List ℕ) (array : Array)
      → is_served_on (members_after config change) seats (extents (arrays_after config change)) (made guid array) ≡ is_served_on config.members seats (extents config.arrays) array
  served_is guid array =
      let keeps = one_numbers config change (extents (kept_and_added config change)) guid array in
      let next = made guid array in
      let own = one_stays config change is (extents (kept_and_added config change)) guid array in
      ap (λ (all : List Extent). is_served_on (members_after config change) seats all next) all_is
      ∙ ap (λ (b : Bool). b && has_tiers next && list_all (lies_well (members_after config change) (extents config.arrays)) (array_extents next) && not (list_any (passes_floor seats) (array_extents next))) keeps.shapes
      ∙ ap (λ (b : Bool). has_shapes array && b && list_all (lies_well (members_after config change) (extents config.arrays)) (array_extents next) && not (list_any (passes_floor seats) (array_extents next))) (tiers_kept array next keeps)
      ∙ ap (λ (l : List Extent). has_shapes array && has_tiers array && list_all (lies_well (members_after config change) (extents config.arrays)) l && not (list_any (passes_floor seats) l)) own
      ∙ ap (λ (b : Bool). has_shapes array && has_tiers array && b && not (list_any (passes_floor seats) (array_extents array))) (all_lie_kept config change (extents config.arrays) (array_extents array))

  pub usable_kept : (guid : List ℕ) (array : Array) → lookup (same_guid guid) config.arrays ≡ Some array
      → (next : Array) × (lookup (same_guid guid) (arrays_after config change) ≡ Some next)
      × (unusable (members_after config change) seats (extents (arrays_after config change)) guid next ≡ unusable config.members seats (extents config.arrays) guid array)
  usable_kept guid array there =
      let found = looked_up made (same_guid guid) config.arrays array there in
      let next = made found.0 array in
      let keeps = one_numbers config change (extents (kept_and_added config change)) found.0 array in (
        next,
        ap (lookup (same_guid guid)) (table_is config change is) ∙ found.2,
        ap (λ (level : Option Refusal). first_refusal (level ∷ refuse_if (not (is_served_on (members_after config change) seats (extents (arrays_after config change)) next)) Shape ∷ refuse_if (not (is_complete next)) Lost ∷ [])) (keeps.levels guid)
            ∙ ap (λ (b : Bool). first_refusal (unserved_level guid array ∷ refuse_if (not b) Shape ∷ refuse_if (not (is_complete next)) Lost ∷ [])) (served_is found.0 array)
            ∙ ap (λ (b : Bool). first_refusal (unserved_level guid array ∷ refuse_if (not (is_served_on config.members seats (extents config.arrays) array)) Shape ∷ refuse_if (not b) Lost ∷ [])) keeps.complete,
      )
