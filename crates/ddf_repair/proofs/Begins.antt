-- A rebuild that begins on a spare: its change isn't refused, and its extent is free.
use Rattle.std.proofs.Common.{◌≡◌, ℕ, ◌+◌, Bool, true, false, not, ◌&&◌, ◌||◌, List, [], ◌∷◌, ◌++◌, length, map, filter, min, Option, Some, None, is_none, is_some, option_map, option_and_then, nat_eq, nat_le, nat_lt, Result, Ok, Err, cond, refl, sym, ap, subst, ◌∙◌, arith, lt-ltb}
use Rattle.std.proofs.lemmas.Bool.{and_parts, and_from, not-true, or_parts}
use Rattle.std.specs.Prelude.{slice_get}
use Rattle.std.specs.Map.{lookup}
use Rattle.std.specs.List.{AllByRecursion, list_any}
use Rattle.std.proofs.lemmas.Option.{slice_get_within}
use Rattle.ddf_lemmas.proofs.Lists.{all_append}
use Rattle.ddf_config.specs.declared.member.Member.{Member}
use Rattle.ddf_config.specs.declared.member.SpareUse.{SpareUse}
use Rattle.ddf_config.specs.declared.array.Array.{Array}
use Rattle.ddf_config.specs.declared.extent.Extent.{Extent}
use Rattle.ddf_config.specs.declared.seat.Seat.{Seat}
use Rattle.ddf_config.specs.declared.refusal.Refusal.{Refusal}
use Rattle.ddf_config.specs.declared.refusal.Refusal.TheVariants.{NoArray, NotMember, Shape}
use Rattle.ddf_config.specs.Configuration.{Configuration}
use Rattle.ddf_config.specs.ElementValue.{ElementValue}
use Rattle.ddf_config.specs.Extents.{extent, extents}
use Rattle.ddf_config.specs.Members.{is_current, same_guid}
use Rattle.ddf_config.specs.Refusals.{first_refusal, refuse_if}
use Rattle.ddf_config.specs.Room.{is_free, least_start_of, meets}
use Rattle.ddf_config.specs.Seats.{floor_of, slot_of}
use Rattle.ddf_config.specs.Unusable.{passes_floor}
use Rattle.ddf_plan.specs.declared.change.Change.{Change}
use Rattle.ddf_plan.specs.declared.change.Change.TheVariants.{Begin}
use Rattle.ddf_plan.specs.Refusals.{no_array, not_current}
use Rattle.ddf_plan.specs.Lose.{is_among}
use Rattle.ddf_plan.specs.CreateRefusal.{references}
use Rattle.ddf_plan.specs.Create.{lies_clear}
use Rattle.ddf_plan.specs.Rebuild.{element_at, has_position, new_position, part_has}
use Rattle.ddf_plan.specs.Causes.{causes}
use Rattle.ddf_plan.proofs.Clear.{least_is_free}
use Rattle.ddf_repair.specs.declared.first.Out.{Out}
use Rattle.ddf_repair.specs.declared.first.Target.{Target}
use Rattle.ddf_repair.specs.declared.beginning.Begun.{Begun}
use Rattle.ddf_repair.specs.declared.beginning.Begun.TheVariants.{Nothing, Fresh, Again}
use Rattle.ddf_repair.specs.declared.beginning.RebuildFault.{RebuildFault}
use Rattle.ddf_repair.specs.declared.beginning.RebuildFault.TheVariants.{Small}
use Rattle.ddf_repair.specs.First.{first_out}
use Rattle.ddf_repair.specs.Spares.{can_stand_in, extent_on, first_extent, is_dedicated_to, is_global, is_spare_of, most_of, spares_for, spares_of, taken_on}
use Rattle.ddf_repair.specs.Begin.{begin_change, begun, begun_at, begun_in, onto_any, onto_one}
use Rattle.ddf_repair.proofs.Firsts.{IsPlaced, out_placed}

-- ---- the spares are seated

module _ (members : List (ℕ × Member)) (seats : List Seat) (used : List ℕ) where
  abbrev CanStandIn : ℕ → Type 0
  CanStandIn reference = can_stand_in members seats used reference ≡ true

  spares_seated : (test : SpareUse → Bool) (some : List (ℕ × Member)) → AllByRecursion CanStandIn (spares_of test members seats used some)
  spares_seated test [] = tt
  spares_seated test (entry ∷ some) = by (is_spare_of test members seats used entry) refl (spares_seated test some)
    where
      by : (b : Bool) → is_spare_of test members seats used entry ≡ b → AllByRecursion CanStandIn (spares_of test members seats used some)
          → AllByRecursion CanStandIn (map (λ (one : ℕ × Member). one.0) (cond b (entry ∷ filter (is_spare_of test members seats used) some) (filter (is_spare_of test members seats used) some)))
      by true e rest = ((and_parts (can_stand_in members seats used entry.0) (test entry.1.spare) e).0, rest)
      by false e rest = rest

  all_seated : (guid : List ℕ) → AllByRecursion CanStandIn (spares_for guid seats used members)
  all_seated guid = all_append CanStandIn (spares_of (is_dedicated_to guid) members seats used members) (spares_of is_global members seats used members) (spares_seated (is_dedicated_to guid) members) (spares_seated is_global members)

  -- the extent that is found lies on one of them
  on_seated : (all : List Extent) (strip blocks : ℕ) (references : List ℕ) (found : Extent) → AllByRecursion CanStandIn references → first_extent members all seats strip blocks references ≡ Some found
      → (reference : ℕ) × CanStandIn reference × (extent_on members all seats strip blocks reference ≡ Some found)
  on_seated all strip blocks [] found are h = absurd cc
  on_seated all strip blocks (reference ∷ references) found are h = by (extent_on members all seats strip blocks reference) refl h (on_seated all strip blocks references found are.1)
    where
      by : (one : Option Extent) → extent_on members all seats strip blocks reference ≡ one → (elim one [ None ↦ first_extent members all seats strip blocks references | Some it ↦ Some it ]) ≡ Some found
          → (first_extent members all seats strip blocks references ≡ Some found → (other : ℕ) × CanStandIn other × (extent_on members all seats strip blocks other ≡ Some found))
          → (other : ℕ) × CanStandIn other × (extent_on members all seats strip blocks other ≡ Some found)
      by None e h rest = rest h
      by (Some it) e h rest = (reference, are.0, e ∙ h)

-- ---- an extent on a disk

abbrev made : ℕ → ℕ → ℕ → Extent
made reference start blocks = record { reference = reference; start = start; blocks = blocks }

-- It is on the disk, free within the size, and ends at or below the floor.
pub record IsFreeOn (members : List (ℕ × Member)) (all : List Extent) (seats : List Seat) (reference blocks : ℕ) (found : Extent) : Type 0 where
  pub on : found.reference ≡ reference
  pub is : made reference found.start blocks ≡ found
  pub clear : lies_clear members all found ≡ true
  pub below : passes_floor seats found ≡ false

within_both : (end size floor : ℕ) → nat_le end (min size floor) ≡ true → (nat_le end size ≡ true) × (nat_lt floor end ≡ false)
within_both end size floor h = (first end size floor h, second end size floor h)
  where
    first : (end size floor : ℕ) → nat_le end (min size floor) ≡ true → nat_le end size ≡ true
    first end size floor h = grind arith

    second : (end size floor : ℕ) → nat_le end (min size floor) ≡ true → nat_lt floor end ≡ false
    second end size floor h = grind arith

pub free_on : (members : List (ℕ × Member)) (all : List Extent) (seats : List Seat) (strip blocks reference : ℕ) (found : Extent) → extent_on members all seats strip blocks reference ≡ Some found → IsFreeOn members all seats reference blocks found
free_on members all seats strip blocks reference found h = at_member (lookup (nat_eq reference) members) refl h
  where
    at_start : (member : Member) (floor : ℕ) → lookup (nat_eq reference) members ≡ Some member → floor_of seats reference ≡ Some floor → (start : Option ℕ) → least_start_of (taken_on all reference) (min member.size floor) strip blocks ≡ start
        → option_map (λ first. made reference first blocks) start ≡ Some found → IsFreeOn members all seats reference blocks found
    at_start member floor is_member is_floor None e h = absurd cc
    at_start member floor is_member is_floor (Some start) e h =
        let same : made reference start blocks ≡ found = cc in
        let free = and_parts (nat_le (start + blocks) (min member.size floor)) (not (list_any (meets start blocks) (taken_on all reference))) (least_is_free (taken_on all reference) (min member.size floor) strip blocks start e) in
        let ends = within_both (start + blocks) member.size floor free.0 in
        subst (IsFreeOn members all seats reference blocks) same (record {
          on = refl;
          is = refl;
          clear =
              ap (λ (one : Option Member). elim one [ None ↦ false | Some it ↦ is_free (taken_on all reference) it.size blocks start ]) is_member
              ∙ and_from (nat_le (start + blocks) member.size) (not (list_any (meets start blocks) (taken_on all reference))) ends.0 free.1;
          below = ap (λ (one : Option ℕ). elim one [ None ↦ false | Some it ↦ nat_lt it (start + blocks) ]) is_floor ∙ ends.1;
        })

    at_floor : (member : Member) → lookup (nat_eq reference) members ≡ Some member → (floor : Option ℕ) → floor_of seats reference ≡ floor
        → option_and_then (λ limit. option_map (λ start. made reference start blocks) (least_start_of (taken_on all reference) limit strip blocks)) (option_map (λ it. min member.size it) floor) ≡ Some found
        → IsFreeOn members all seats reference blocks found
    at_floor member is_member None e h = absurd cc
    at_floor member is_member (Some floor) e h = at_start member floor is_member e (least_start_of (taken_on all reference) (min member.size floor) strip blocks) refl h

    at_member : (member : Option Member) → lookup (nat_eq reference) members ≡ member
        → option_and_then (λ limit. option_map (λ start. made reference start blocks) (least_start_of (taken_on all reference) limit strip blocks))
        (option_and_then (λ (one : Member). option_map (λ it. min one.size it) (floor_of seats reference)) member) ≡ Some found
        → IsFreeOn members all seats reference blocks found
    at_member None e h = absurd cc
    at_member (Some member) e h = at_floor member e (floor_of seats reference) refl h

-- ---- what a fresh rebuild is of

pub record IsFresh (config : Configuration) (guid : List ℕ) (seats : List Seat) (aside : List ℕ) (change : Change) : Type 0 where
  pub array : Array
  pub out : Out
  pub found : Extent
  pub is_array : lookup (same_guid guid) config.arrays ≡ Some array
  pub is_out : first_out array ≡ Some out
  pub is_found : first_extent config.members (extents config.arrays) seats out.strip out.blocks (spares_for guid seats (aside ++ references array) config.members) ≡ Some found
  pub change_is : begin_change guid out found ≡ change

module _ (config : Configuration) (guid : List ℕ) (seats : List Seat) (aside : List ℕ) (target : Target) (change : Change) where
  one_found : (out : Out) (spares : List ℕ) → onto_one config.members (extents config.arrays) guid seats out spares ≡ Ok (Fresh target change)
      → (found : Extent) × (first_extent config.members (extents config.arrays) seats out.strip out.blocks spares ≡ Some found) × (begin_change guid out found ≡ change)
  one_found out spares h = by (first_extent config.members (extents config.arrays) seats out.strip out.blocks spares) h
    where
      by : (found : Option Extent)
          → ◌≡◌ {A = Result Begun RebuildFault} (elim found [ None ↦ Err (Small out.blocks (most_of config.members (extents config.arrays) seats out.strip spares)) | Some it ↦ Ok (Fresh out.target (begin_change guid out it)) ]) (Ok (Fresh target change))
          → (it : Extent) × (found ≡ Some it) × (begin_change guid out it ≡ change)
      by None h = absurd cc
      by (Some it) h = let same : begin_change guid out it ≡ change = cc in (it, refl, same)

  any_found : (out : Out) (spares : List ℕ) → onto_any config guid seats out spares ≡ Ok (Fresh target change)
      → (found : Extent) × (first_extent config.members (extents config.arrays) seats out.strip out.blocks spares ≡ Some found) × (begin_change guid out found ≡ change)
  any_found out [] h = absurd cc
  any_found out (spare ∷ spares) h = one_found out (spare ∷ spares) h

  at_found : (used : List ℕ) (out : Out) → begun_at config guid seats used out ≡ Ok (Fresh target change)
      → (found : Extent) × (first_extent config.members (extents config.arrays) seats out.strip out.blocks (spares_for guid seats used config.members) ≡ Some found) × (begin_change guid out found ≡ change)
  at_found used out h = by (is_current config.members out.reference) h
    where
      by : (b : Bool) → ◌≡◌ {A = Result Begun RebuildFault} (cond b (Ok (Again out.target)) (onto_any config guid seats out (spares_for guid seats used config.members))) (Ok (Fresh target change))
          → (found : Extent) × (first_extent config.members (extents config.arrays) seats out.strip out.blocks (spares_for guid seats used config.members) ≡ Some found) × (begin_change guid out found ≡ change)
      by true h = absurd cc
      by false h = any_found out (spares_for guid seats used config.members) h

  in_found : (array : Array) → lookup (same_guid guid) config.arrays ≡ Some array → (out : Option Out) → first_out array ≡ out → begun_in config guid seats (aside ++ references array) out ≡ Ok (Fresh target change) → IsFresh config guid seats aside change
  in_found array is None e h = absurd cc
  in_found array is (Some out) e h =
      let at = at_found (aside ++ references array) out h in
      record { array = array; out = out; found = at.0; is_array = is; is_out = e; is_found = at.1; change_is = at.2 }

  pub is_fresh : begun config guid seats aside ≡ Ok (Fresh target change) → IsFresh config guid seats aside change
  unfolding begun
  is_fresh h = by (lookup (same_guid guid) config.arrays) refl h
    where
      by : (found : Option Array) → lookup (same_guid guid) config.arrays ≡ found → ◌≡◌ {A = Result Begun RebuildFault} (elim found [ None ↦ Ok Nothing | Some array ↦ begun_in config guid seats (aside ++ references array) (first_out array) ]) (Ok (Fresh target change))
          → IsFresh config guid seats aside change
      by None e h = absurd cc
      by (Some array) e h = in_found array e (first_out array) refl h

-- ---- its change

pub three_pass : (a b c : Option Refusal) → a ≡ None → b ≡ None → c ≡ None → first_refusal (a ∷ b ∷ c ∷ []) ≡ None
three_pass None None None h k l = refl
three_pass None None (Some refusal) h k l = absurd cc
three_pass None (Some refusal) c h k l = absurd cc
three_pass (Some refusal) b c h k l = absurd cc

-- what isn't in two lists together is in neither
apart_among : (xs ys : List ℕ) (n : ℕ) → is_among (xs ++ ys) n ≡ false → (is_among xs n ≡ false) × (is_among ys n ≡ false)
apart_among [] ys n h = (refl, h)
apart_among (x ∷ xs) ys n h =
    let parts = or_parts (nat_eq n x) (is_among (xs ++ ys) n) h in
    let rest = apart_among xs ys n parts.1 in
    (ap (λ (b : Bool). b || is_among xs n) parts.0 ∙ rest.0, rest.1)

module _ (config : Configuration) (guid : List ℕ) (seats : List Seat) (aside : List ℕ) (change : Change) (fresh : IsFresh config guid seats aside change) where
  pub placed : IsPlaced (length fresh.array.elements) 0 fresh.array.elements fresh.out
  placed = out_placed (length fresh.array.elements) 0 fresh.array.elements fresh.out fresh.is_out

  -- the element of the position
  pub element_is : element_at fresh.array fresh.out.target.element ≡ Some placed.plan
  element_is =
      let number : fresh.out.target.element ≡ 0 + placed.place = placed.number in
      let same : placed.place ≡ fresh.out.target.element = omega (arith, number) in
      ap (λ (part : Option (Option ElementValue)). elim part [ None ↦ None | Some one ↦ one ]) (ap (λ (k : ℕ). slice_get fresh.array.elements k) (sym same) ∙ placed.there)

  is_there : has_position config guid fresh.out.target.element fresh.out.target.position ≡ true
  is_there =
      ap (λ (found : Option Array). elim found [ None ↦ false | Some array ↦ part_has fresh.out.target.position (element_at array fresh.out.target.element) ]) fresh.is_array
      ∙ ap (part_has fresh.out.target.position) element_is
      ∙ lt-ltb fresh.out.target.position (length placed.plan.positions) (slice_get_within placed.plan.positions fresh.out.target.position placed.held placed.position)

  abbrev used : List ℕ
  used = aside ++ references fresh.array

  pub seated : (reference : ℕ) × (can_stand_in config.members seats used reference ≡ true) × (extent_on config.members (extents config.arrays) seats fresh.out.strip fresh.out.blocks reference ≡ Some fresh.found)
  seated =
      on_seated config.members seats used (extents config.arrays) fresh.out.strip fresh.out.blocks (spares_for guid seats used config.members) fresh.found (all_seated config.members seats used guid) fresh.is_found

  stands : ((is_current config.members seated.0 && is_some (floor_of seats seated.0)) ≡ true) × (not (is_among used seated.0) ≡ true)
  stands = and_parts (is_current config.members seated.0 && is_some (floor_of seats seated.0)) (not (is_among used seated.0)) seated.1

  pub found_free : IsFreeOn config.members (extents config.arrays) seats seated.0 fresh.out.blocks fresh.found
  found_free = free_on config.members (extents config.arrays) seats fresh.out.strip fresh.out.blocks seated.0 fresh.found seated.2

  pub is_here : is_current config.members fresh.found.reference ≡ true
  is_here =
      ap (is_current config.members) found_free.on
      ∙ (and_parts (is_current config.members seated.0) (is_some (floor_of seats seated.0)) stands.0).0

  is_unused : (is_among aside fresh.found.reference ≡ false) × (is_among (references fresh.array) fresh.found.reference ≡ false)
  is_unused = apart_among aside (references fresh.array) fresh.found.reference (ap (is_among used) found_free.on ∙ not-true (is_among used seated.0) stands.1)

  -- it's none of the disks that are set aside
  pub is_passed_over : is_among aside fresh.found.reference ≡ false
  is_passed_over = is_unused.0

  -- the array has no other position on that disk
  pub is_elsewhere : is_among (references fresh.array) fresh.found.reference ≡ false
  is_elsewhere = is_unused.1

  begun_allowed : causes None config (begin_change guid fresh.out fresh.found) seats ≡ None
  unfolding causes
  begun_allowed =
      three_pass (no_array config guid) (refuse_if (not (has_position config guid fresh.out.target.element fresh.out.target.position)) Shape) (not_current config seats (fresh.found.reference ∷ []))
      (ap (λ (found : Option Array). refuse_if (is_none found) NoArray) fresh.is_array)
      (ap (λ (b : Bool). refuse_if (not b) Shape) is_there)
      (ap (λ (b : Bool). option_map (λ reference. NotMember (slot_of seats reference)) (cond (not b) (Some fresh.found.reference) None)) is_here)

  pub is_allowed : causes None config change seats ≡ None
  is_allowed = subst (λ (one : Change). causes None config one seats ≡ None) fresh.change_is begun_allowed

  -- the extent, by the numbers of the change and of the element
  pub extent_is : (element position reference start : ℕ) (array : Array) (plan : ElementValue) → change ≡ Begin guid element position reference start → lookup (same_guid guid) config.arrays ≡ Some array
      → element_at array element ≡ Some plan → fresh.found ≡ extent plan.blocks (new_position reference start)
  extent_is element position reference start array plan is here known =
      let both : begin_change guid fresh.out fresh.found ≡ Begin guid element position reference start = fresh.change_is ∙ is in
      let same_element : fresh.out.target.element ≡ element = cc in
      let same_reference : fresh.found.reference ≡ reference = cc in
      let same_start : fresh.found.start ≡ start = cc in
      let arrays : Some fresh.array ≡ Some array = sym fresh.is_array ∙ here in
      let same_array : fresh.array ≡ array = cc in
      let plans : Some placed.plan ≡ Some plan =
      sym element_is ∙ ap (λ (one : Array). element_at one fresh.out.target.element) same_array ∙ ap (element_at array) same_element ∙ known in
      let same_plan : placed.plan ≡ plan = cc in
      sym found_free.is
      ∙ ap (λ (n : ℕ). made n fresh.found.start fresh.out.blocks) (sym found_free.on ∙ same_reference)
      ∙ ap (λ (n : ℕ). made reference n fresh.out.blocks) same_start
      ∙ ap (λ (n : ℕ). made reference start n) (placed.blocks ∙ ap (λ (one : ElementValue). one.blocks) same_plan)
