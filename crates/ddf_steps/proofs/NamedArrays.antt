-- What a change makes of the array that it names keeps what copies can hold.
use Rattle.std.proofs.Common.{◌≡◌, ℕ, ◌+◌, ◌-◌, ◌/◌, ◌%◌, ◌^◌, ◌<◌, Bool, true, false, not, ◌&&◌, eqb, List, [], ◌∷◌, map, Option, Some, None, nat_eq, option_map, zero, suc, refl, sym, ap, ◌∙◌, if◌then◌else◌, arith}
use Rattle.std.proofs.lemmas.Bool.{eqb-true}
use Rattle.std.proofs.lemmas.List.{length-map}
use Rattle.std.proofs.lemmas.List.FromFn.{length-enumerate_from}
use Rattle.std.specs.Prelude.{slice_get}
use Rattle.std.specs.List.{AllByRecursion, enumerate_from}
use Rattle.ddf_config.specs.declared.member.Member.{Member}
use Rattle.ddf_config.specs.declared.element.Position.{Position}
use Rattle.ddf_config.specs.declared.array.Array.{Array}
use Rattle.ddf_config.specs.ElementValue.{ElementValue as ElementPlan, with_disks, with_positions}
use Rattle.ddf_config.specs.States.{is_marked}
use Rattle.ddf_plan.specs.declared.change.Change.{Change}
use Rattle.ddf_plan.specs.declared.change.Change.TheVariants.{Lose, Fail, Mark, Unmark, Rewind, Begin, Progress, Finish, Return}
use Rattle.ddf_plan.specs.Mark.{mark, marked, marked_state, rewound, unmarked, unmarked_state, with_init, without_row, without_rows}
use Rattle.ddf_plan.specs.Standing.{has_stand_in, stand_in_after}
use Rattle.ddf_plan.specs.Rebuild.{begun, finished, new_position, progressed, returned}
use Rattle.ddf_plan.specs.Arrays.{array_after, element_after, named_after, names, part_after, position_after, rebuilding}
use Rattle.ddf_rewrite.specs.Hold.{FitsPosition}
use Rattle.ddf_rewrite.specs.Readable.{OneRebuilt}
use Rattle.ddf_steps.specs.Asked.{CanBeAsked}
use Rattle.ddf_steps.proofs.ArraysAfter.{KeepsArrays, lost_array_keeps, same_array_keeps}
use Rattle.ddf_steps.proofs.HeldEntries.{ArePartsKept, IsHeldEntry, IsHeldPlan, IsPartKept, KeepsPlans, KeepsPositions, entry_kept, entry_with, kept_there, mapped_held, still_there}

-- ---- positions, by their numbers

-- Positions that fit become such ones, and at most one has a row where at most one had.
pub record KeepsNumbered (f : ℕ → Position → Position) : Type 0 where
  pub fits : (number : ℕ) (position : Position) → FitsPosition position → FitsPosition (f number position)
  pub rows : (i j : ℕ) (one other : Position) → ((eqb one.row 0 ≡ false) → (eqb other.row 0 ≡ false) → i ≡ j) → eqb (f i one).row 0 ≡ false → eqb (f j other).row 0 ≡ false → i ≡ j

begun_keeps : (position reference start : ℕ) → FitsPosition (new_position reference start) → KeepsNumbered (begun position reference start)
begun_keeps position reference start new = record {
  fits = λ number one is. fits (nat_eq position number) one is;
  rows = λ i j one other before h k. before (row (nat_eq position i) one h) (row (nat_eq position j) other k);
}
  where
    fits : (b : Bool) (one : Position) → FitsPosition one → FitsPosition (if b then new_position reference start else one)
    fits true one is = new
    fits false one is = is

    row : (b : Bool) (one : Position) → eqb (if b then new_position reference start else one).row 0 ≡ false → eqb one.row 0 ≡ false
    row true one h = let no : true ≡ false = h in absurd cc
    row false one h = h

finished_keeps : (position : ℕ) → KeepsNumbered (finished position)
finished_keeps position = record {
  fits = λ number one is. fits (nat_eq position number) one is;
  rows = λ i j one other before h k. before (row (nat_eq position i) one h) (row (nat_eq position j) other k);
}
  where
    fits : (b : Bool) (one : Position) → FitsPosition one → FitsPosition (if b then record one { synced = true; row = 0 } else one)
    fits true one is = record { reference = is.reference; start = is.start; row = omega arith }
    fits false one is = is

    row : (b : Bool) (one : Position) → eqb (if b then record one { synced = true; row = 0 } else one).row 0 ≡ false → eqb one.row 0 ≡ false
    row true one h = let no : true ≡ false = h in absurd cc
    row false one h = h

-- one behind the other
both_keep : (f g : ℕ → Position → Position) → KeepsNumbered f → KeepsNumbered g → KeepsNumbered (λ number one. g number (f number one))
both_keep f g first second = record {
  fits = λ number one is. second.fits number (f number one) (first.fits number one is);
  rows = λ i j one other before h k. second.rows i j (f i one) (f j other) (λ had has. first.rows i j one other before had has) h k;
}

returned_keeps : (position reference start : ℕ) → FitsPosition (new_position reference start) → KeepsNumbered (returned position reference start)
returned_keeps position reference start new = both_keep (begun position reference start) (finished position) (begun_keeps position reference start new) (finished_keeps position)

progressed_keeps : (position row : ℕ) → row < 2 ^ 64 → KeepsNumbered (progressed position row)
progressed_keeps position row small = record {
  fits = λ number one is. record { reference = is.reference; start = is.start; row = fits (nat_eq position number) };
  rows = λ i j one other before h k. sym (eqb-true position i (here (nat_eq position i) h)) ∙ eqb-true position j (here (nat_eq position j) k);
}
  where
    fits : (b : Bool) → (if b then row else 0) < 2 ^ 64
    fits true = small
    fits false = omega arith

    here : (b : Bool) → eqb (if b then row else 0) 0 ≡ false → b ≡ true
    here true h = refl
    here false h = let no : true ≡ false = h in absurd cc

-- what stands at a place of numbered items
numbered_get : {X Y : Type 0} (f : ℕ → X → Y) (n : ℕ) (xs : List X) (i : ℕ) (y : Y) → slice_get (map (λ pair. f pair.0 pair.1) (enumerate_from n xs)) i ≡ Some y
    → (at : ℕ) × (x : X) × (at ≡ n + i) × (slice_get xs i ≡ Some x) × (f at x ≡ y)
numbered_get f n [] i y h = absurd cc
numbered_get f n (x ∷ xs) zero y h = let same : f n x ≡ y = cc in (n, x, omega arith, refl, same)
numbered_get f n (x ∷ xs) (suc i) y h =
    let rest = numbered_get f (n + 1) xs i y h in
    let place = rest.2 in
    (rest.0, rest.1, omega (arith, place), rest.3, rest.4)

numbered_fit : (f : ℕ → Position → Position) → KeepsNumbered f → (n : ℕ) (positions : List Position) → AllByRecursion FitsPosition positions → AllByRecursion FitsPosition (map (λ pair. f pair.0 pair.1) (enumerate_from n positions))
numbered_fit f keeps n [] all = tt
numbered_fit f keeps n (one ∷ positions) all = (keeps.fits n one all.0, numbered_fit f keeps (n + 1) positions all.1)

numbered_rebuilt : (f : ℕ → Position → Position) → KeepsNumbered f → (plan : ElementPlan) → OneRebuilt plan → OneRebuilt (with_positions plan (map (λ pair. f pair.0 pair.1) (enumerate_from 0 plan.positions)))
numbered_rebuilt f keeps plan one i j first second at also h k =
    let from = numbered_get f 0 plan.positions i first at in
    let other = numbered_get f 0 plan.positions j second also in
    let first_at : from.0 ≡ 0 + i = from.2 in
    let second_at : other.0 ≡ 0 + j = other.2 in
    let same : from.0 ≡ other.0 =
    keeps.rows from.0 other.0 from.1 other.1
    (λ had has. let before : i ≡ j = one i j from.1 other.1 from.3 other.3 had has in omega (arith, before, first_at, second_at))
    (ap (λ (p : Position). eqb p.row 0) from.4 ∙ h) (ap (λ (p : Position). eqb p.row 0) other.4 ∙ k) in
    omega (arith, same, first_at, second_at)

numbered_held : (f : ℕ → Position → Position) → KeepsNumbered f → (most elements : ℕ) (plan : ElementPlan) (stand_in : ℕ) → stand_in < 2 ^ 32 → IsHeldPlan most elements plan
    → IsHeldPlan most elements (with_disks plan stand_in (map (λ pair. f pair.0 pair.1) (enumerate_from 0 plan.positions)))
numbered_held f keeps most elements plan stand_in small is =
    let same = length-map (enumerate_from 0 plan.positions) (λ pair. f pair.0 pair.1) ∙ length-enumerate_from 0 plan.positions in
    record {
      some = omega (arith, same, is.some);
      allowed = omega (arith, same, is.allowed);
      few = omega (arith, same, is.few);
      strip = is.strip;
      has_strip = is.has_strip;
      level = is.level;
      qualifier = is.qualifier;
      blocks = is.blocks;
      stand_in = small;
      positions = numbered_fit f keeps 0 plan.positions is.positions;
      rebuilt = numbered_rebuilt f keeps plan is.rebuilt;
    }

-- ---- one element of an array

module _ (revertible : Bool) (change : Change) (keeps : KeepsNumbered (position_after change)) (stands : (plan : ElementPlan) → plan.stand_in < 2 ^ 32 → stand_in_after revertible change plan < 2 ^ 32) where
  part_kept : (b : Bool) (part : Option ElementPlan) → IsPartKept part (if b then option_map (element_after revertible change) part else part)
  part_kept true None = tt
  part_kept false None = tt
  part_kept true (Some plan) = λ most elements is. numbered_held (position_after change) keeps most elements plan (stand_in_after revertible change plan) (stands plan is.stand_in) is
  part_kept false (Some plan) = λ most elements is. is

  parts_kept : (named n : ℕ) (parts : List (Option ElementPlan)) → ArePartsKept parts (map (part_after revertible change named) (enumerate_from n parts))
  parts_kept named n [] = tt
  parts_kept named n (part ∷ parts) = (part_kept (nat_eq named n) part, parts_kept named (n + 1) parts)

  rebuilding_keeps : (named : ℕ) → KeepsArrays (λ guid. rebuilding revertible change named)
  rebuilding_keeps named = record {
    held = λ most guid array is. entry_with most guid array (map (part_after revertible change named) (enumerate_from 0 array.elements)) (parts_kept named 0 array.elements) is;
    there = λ guid array index plan at. kept_there array.elements (map (part_after revertible change named) (enumerate_from 0 array.elements)) (parts_kept named 0 array.elements) index plan at;
  }

-- ---- the mark

without_keeps : KeepsPositions without_row
without_keeps = record {
  fits = λ position is. record { reference = is.reference; start = is.start; row = omega arith };
  no_row = λ position h. let no : true ≡ false = h in absurd cc;
}

rows_plans : KeepsPlans (option_map without_rows)
rows_plans = record {
  none = refl;
  some = λ plan. (without_rows plan, refl, λ most elements is. mapped_held without_row without_keeps most elements plan is);
}

-- a state and an init byte that fit
with_bytes : (most : ℕ) (guid : List ℕ) (array : Array) (state init : ℕ) → state < 2 ^ 8 → init < 2 ^ 8 → IsHeldEntry most (guid, array) → IsHeldEntry most (guid, record array { state = state; init = init })
with_bytes most guid array state init small fits is = record {
  fits = record {
    guid = is.fits.guid;
    used = is.fits.used;
    number = is.fits.number;
    state = small;
    init = fits;
    name = is.fits.name;
    secondary = is.fits.secondary;
  };
  readable = record { few = is.readable.few; alone = is.readable.alone; plain = is.readable.plain };
  plans = is.plans;
}

marked_small : (array : Array) → array.state < 2 ^ 8 → marked_state array < 2 ^ 8
marked_small array small = by (is_marked array) refl
  where
    room : (state : ℕ) → state < 2 ^ 8 → eqb (state / 16 % 2) 1 ≡ false → state + mark < 2 ^ 8
    room state small away = grind arith

    by : (b : Bool) → is_marked array ≡ b → (if b then array.state else array.state + mark) < 2 ^ 8
    by true e = small
    by false e = room array.state small e

unmarked_small : (array : Array) → array.state < 2 ^ 8 → unmarked_state array < 2 ^ 8
unmarked_small array small = by (is_marked array)
  where
    by : (b : Bool) → (if b then array.state - mark else array.state) < 2 ^ 8
    by true = omega (arith, small)
    by false = small

init_small : (init given : ℕ) → init < 2 ^ 8 → with_init init given < 2 ^ 8
init_small init given small = omega (arith, small)

marked_keeps : KeepsArrays (λ guid. marked)
marked_keeps = record {
  held = λ most guid array is.
      let without = entry_kept (option_map without_rows) rows_plans most guid array is in
      with_bytes most guid (record array { elements = map (option_map without_rows) array.elements }) (marked_state array) array.init (marked_small array is.fits.state) is.fits.init without;
  there = λ guid array index plan at. still_there (option_map without_rows) rows_plans array.elements index plan at;
}

rewound_keeps : KeepsArrays (λ guid. rewound)
rewound_keeps = record {
  held = λ most guid array is. entry_kept (option_map without_rows) rows_plans most guid array is;
  there = λ guid array index plan at. still_there (option_map without_rows) rows_plans array.elements index plan at;
}

unmarked_keeps : (init : ℕ) → KeepsArrays (λ guid. unmarked init)
unmarked_keeps init = record {
  held = λ most guid array is. with_bytes most guid array (unmarked_state array) (with_init array.init init) (unmarked_small array is.fits.state) (init_small array.init init is.fits.init) is;
  there = λ guid array index plan at. (plan, at);
}

-- ---- the array that a change names, and the others

named_keeps : (revertible : Bool) (change : Change) → KeepsArrays (λ guid. named_after revertible change) → KeepsArrays (λ guid array. if names change guid then named_after revertible change array else array)
named_keeps revertible change keeps = record {
  held = λ most guid array is. held (names change guid) most guid array is;
  there = λ guid array index plan at. there (names change guid) guid array index plan at;
}
  where
    held : (b : Bool) (most : ℕ) (guid : List ℕ) (array : Array) → IsHeldEntry most (guid, array) → IsHeldEntry most (guid, if b then named_after revertible change array else array)
    held true most guid array is = keeps.held most guid array is
    held false most guid array is = is

    there : (b : Bool) (guid : List ℕ) (array : Array) (index : ℕ) (plan : ElementPlan) → slice_get array.elements index ≡ Some (Some plan)
        → (next : ElementPlan) × (slice_get (if b then named_after revertible change array else array).elements index ≡ Some (Some next))
    there true guid array index plan at = keeps.there guid array index plan at
    there false guid array index plan at = (plan, at)

-- A disk that stands in has a reference that fits.
begun_stands : (revertible : Bool) (guid : List ℕ) (element position reference start : ℕ) → reference < 2 ^ 32 → (plan : ElementPlan) → plan.stand_in < 2 ^ 32
    → stand_in_after revertible (Begin guid element position reference start) plan < 2 ^ 32
begun_stands revertible guid element position reference start new plan small = by (revertible && not (has_stand_in plan))
  where
    by : (b : Bool) → (if b then reference else plan.stand_in) < 2 ^ 32
    by true = new
    by false = small

-- Whichever change it is.
pub array_after_keeps : (revertible : Bool) (members : List (ℕ × Member)) (change : Change) → CanBeAsked change → KeepsArrays (array_after revertible members change)
array_after_keeps revertible members (Lose references) asked = lost_array_keeps members references
array_after_keeps revertible members (Fail failed) asked = lost_array_keeps members (failed ∷ [])
array_after_keeps revertible members (Mark guid) asked = named_keeps revertible (Mark guid) marked_keeps
array_after_keeps revertible members (Unmark guid init) asked = named_keeps revertible (Unmark guid init) (unmarked_keeps init)
array_after_keeps revertible members (Rewind guid) asked = named_keeps revertible (Rewind guid) rewound_keeps
array_after_keeps revertible members (Begin guid element position reference start) asked =
    named_keeps revertible (Begin guid element position reference start)
    (rebuilding_keeps revertible (Begin guid element position reference start) (begun_keeps position reference start asked)
    (begun_stands revertible guid element position reference start asked.reference) element)
array_after_keeps revertible members (Progress guid element position row) asked =
    named_keeps revertible (Progress guid element position row)
    (rebuilding_keeps revertible (Progress guid element position row) (progressed_keeps position row asked) (λ plan small. small) element)
array_after_keeps revertible members (Finish guid element position) asked =
    named_keeps revertible (Finish guid element position) (rebuilding_keeps revertible (Finish guid element position) (finished_keeps position) (λ plan small. small) element)
array_after_keeps revertible members (Return guid element position reference start) asked =
    named_keeps revertible (Return guid element position reference start)
    (rebuilding_keeps revertible (Return guid element position reference start) (returned_keeps position reference start asked) (λ plan small. omega arith) element)
array_after_keeps revertible members other asked = same_array_keeps
