-- The configuration of a step is that after its change.
use Rattle.std.proofs.Common.{◌≡◌, ℕ, ◌+◌, ◌≤◌, Bool, true, false, ◌||◌, List, [], ◌∷◌, ◌++◌, length, map, find, cond, is_some, Option, Some, None, Ok, option_map, nat_lt, refl, sym, ap, ◌∙◌, arith, if◌then◌else◌}
use Rattle.std.specs.Map.{lookup}
use Rattle.std.specs.Option.{option_or}
use Rattle.ddf_config.specs.declared.element.Position.{Position}
use Rattle.ddf_config.specs.declared.seat.Seat.{Seat}
use Rattle.ddf_config.specs.declared.refusal.Refusal.{Refusal}
use Rattle.ddf_config.specs.declared.refusal.Refusal.TheVariants.{Full, NameTaken, Shape, Clash, InUse}
use Rattle.ddf_config.specs.Configuration.{Configuration}
use Rattle.ddf_config.specs.ElementValue.{ElementValue}
use Rattle.ddf_config.specs.Extents.{extent, extents}
use Rattle.ddf_config.specs.Levels.{unserved_level}
use Rattle.ddf_config.specs.Members.{same_guid}
use Rattle.ddf_config.specs.Refusals.{first_refusal, part_refusal, refuse_if}
use Rattle.ddf_config.specs.Room.{start_on}
use Rattle.ddf_config.specs.Unusable.{passes_floor}
use Rattle.ddf_config.proofs.Firsts.{all_pass, first_append, first_of_one}
use Rattle.ddf_plan.specs.declared.change.Change.{Change}
use Rattle.ddf_plan.specs.declared.change.Change.TheVariants.{Create}
use Rattle.ddf_plan.specs.Refusals.{greatest_sequence, not_current, refuse_first, spent}
use Rattle.ddf_plan.specs.Create.{element_strip}
use Rattle.ddf_plan.specs.CreateRefusal.{is_taken, is_no_shape, is_spare_disk, no_extent, passes_most, references}
use Rattle.ddf_plan.specs.Causes.{causes, causes_of, refusal_of, steps_of}
use Rattle.ddf_plan.specs.Changes.{after, after_by, changed_at}
use Rattle.ddf_plan.specs.Floors.{extent_refusal, extents_refusal, lacks_extent}
use Rattle.ddf_plan.specs.Same.{is_step}
use Rattle.ddf_rewrite.specs.Before.{before}
use Rattle.ddf_seats.specs.declared.seated.Seated.{Seated}
use Rattle.ddf_steps.specs.Full.{full_of}
use Rattle.ddf_steps.specs.Ready.{is_spent}
use Rattle.ddf_steps.specs.Refusing.{most_members, room_if_step, room_refusal, step_refusal}
use Rattle.ddf_seats.specs.Seated.{seats_in, views_in}
use Rattle.ddf_steps.specs.Steps.{config_after, raised, step_of}

-- ---- lists of causes

-- Where neither of two lists refuses, both together don't.
both_pass : (checks others : List (Option Refusal)) → first_refusal checks ≡ None → first_refusal others ≡ None → first_refusal (checks ++ others) ≡ None
both_pass checks others h k = first_append checks others ∙ ap (λ first. option_or first (first_refusal others)) h ∙ k

-- A cause that doesn't stand with a bound doesn't stand without it.
without_bound : (before : List (Option Refusal)) (passes holds : Bool) (refusal : Refusal) (behind : List (Option Refusal))
    → first_refusal (before ++ refuse_if (passes || holds) refusal ∷ behind) ≡ None → first_refusal (before ++ refuse_if holds refusal ∷ behind) ≡ None
without_bound [] true holds refusal behind h = absurd cc
without_bound [] false holds refusal behind h = h
without_bound (None ∷ before) passes holds refusal behind h = without_bound before passes holds refusal behind h
without_bound (Some first ∷ before) passes holds refusal behind h = absurd cc

-- ---- room for extents

-- Where each item that fails one test fails another, and none passes the one, none passes the other.
none_found : {X : Type 0} (test other : X → Bool) → ((x : X) → test x ≡ false → other x ≡ false) → (xs : List X) → find test xs ≡ None → find other xs ≡ None
none_found test other weaker [] h = refl
none_found {X = X} test other weaker (x ∷ xs) h = by (none_found test other weaker xs) (test x) refl h
  where
    by : (find test xs ≡ None → find other xs ≡ None) → (b : Bool) → test x ≡ b → cond b (Some x) (find test xs) ≡ None → find other (x ∷ xs) ≡ None
    by rest true e at = absurd cc
    by rest false e at = rw (weaker x e) (rest at)

-- No refusal for want of an extent says that every position has its own.
none_lacks : (seats : List Seat) (first : Option Position) → no_extent seats first ≡ None → first ≡ None
none_lacks seats None h = refl
none_lacks seats (Some position) h = absurd cc

module _ (config : Configuration) (floors seats : List Seat) where
  -- An extent that lies below the floors has a start.
  has_start : (strip blocks : ℕ) (position : Position) → lacks_extent config floors strip blocks position ≡ false → lacks_extent config [] strip blocks position ≡ false
  has_start strip blocks position h = by (start_on config.members (extents config.arrays) strip blocks position.reference) h
    where
      by : (found : Option ℕ) → (elim found [ None ↦ true | Some start ↦ passes_floor floors (extent blocks (record position { start = start })) ]) ≡ false → (elim found [ None ↦ true | Some start ↦ passes_floor [] (extent blocks (record position { start = start })) ]) ≡ false
      by None at = at
      by (Some start) at = refl

  -- So has each of an element.
  element_has_room : (elements : ℕ) (part : Option ElementValue) → extent_refusal config floors seats elements part ≡ None → extent_refusal config [] seats elements part ≡ None
  element_has_room elements None h = refl
  element_has_room elements (Some element) h =
      let strip = element_strip elements element in
      let none = none_lacks seats (find (lacks_extent config floors strip element.blocks) element.positions) h in
      ap (no_extent seats)
      (none_found (lacks_extent config floors strip element.blocks) (lacks_extent config [] strip element.blocks) (has_start strip element.blocks) element.positions none)

  -- So has each of an array.
  parts_have_room : (elements : ℕ) (parts : List (Option ElementValue)) → part_refusal (extent_refusal config floors seats elements) parts ≡ None → part_refusal (extent_refusal config [] seats elements) parts ≡ None
  parts_have_room elements [] h = refl
  parts_have_room elements (part ∷ parts) h =
      let first = all_pass [] (extent_refusal config floors seats elements part) (map (extent_refusal config floors seats elements) parts) h in
      let others : part_refusal (extent_refusal config floors seats elements) parts ≡ None = rest (extent_refusal config floors seats elements part) first h in
      both_pass (extent_refusal config [] seats elements part ∷ []) (map (extent_refusal config [] seats elements) parts)
      (first_of_one (extent_refusal config [] seats elements part) ∙ element_has_room elements part first)
      (parts_have_room elements parts others)
    where
      rest : (check : Option Refusal) → check ≡ None → first_refusal (check ∷ map (extent_refusal config floors seats elements) parts) ≡ None → first_refusal (map (extent_refusal config floors seats elements) parts) ≡ None
      rest None e at = at
      rest (Some refusal) e at = absurd cc

  -- A new array that has room below the floors has it by its disks' sizes.
  has_room_by_size : (change : Change) → extents_refusal config change floors seats ≡ None → extents_refusal config change [] seats ≡ None
  unfolding extents_refusal
  has_room_by_size (Create guid array) room = parts_have_room (length array.elements) array.elements room
  has_room_by_size other room = refl

module _ (config : Configuration) (seats : List Seat) where
  -- ---- the causes of a change

  -- A sequence number that has the steps left is not spent.
  not_spent : (sequence steps : ℕ) → sequence + steps ≤ greatest_sequence → spent sequence steps ≡ None
  not_spent sequence steps h = grind arith

  -- What no cause refuses with a bound none refuses without it.
  free_without_bound : (bound : ℕ) (asked : Change) → causes (Some bound) config asked seats ≡ None → first_refusal (causes_of None config asked seats) ≡ None
  unfolding causes
  free_without_bound bound (Create guid array) unrefused =
      without_bound
      (not_current config seats (references array)
      ∷ refuse_if (is_taken config array.name) NameTaken
      ∷ unserved_level guid array
      ∷ [])
      (passes_most (Some bound) array) (is_no_shape array) Shape
      (refuse_if (is_some (lookup (same_guid guid) config.arrays)) (Clash guid)
      ∷ refuse_first seats (is_spare_disk config) InUse (references array)
      ∷ [])
      unrefused
  free_without_bound bound other unrefused = unrefused

  -- What is refused neither for its causes, nor for want of an extent, nor for its sequence number has a configuration after it.
  none_refused : (most : ℕ) (change : Change) → causes (Some most) config change seats ≡ None → extents_refusal config change seats seats ≡ None → config.sequence + steps_of change ≤ greatest_sequence
      → refusal_of config change seats ≡ None
  none_refused most change free room left =
      both_pass (causes_of None config change seats) (extents_refusal config change [] seats ∷ spent config.sequence (steps_of change) ∷ [])
      (free_without_bound most change free)
      (both_pass (extents_refusal config change [] seats ∷ []) (spent config.sequence (steps_of change) ∷ [])
      (first_of_one (extents_refusal config change [] seats) ∙ has_room_by_size config seats seats change room)
      (first_of_one (spent config.sequence (steps_of change)) ∙ not_spent config.sequence (steps_of change) left))

-- ---- a step

-- A sequence number that is not past the greatest was not held there.
pub still_left : (sequence steps : ℕ) → nat_lt greatest_sequence (raised sequence steps) ≡ false → sequence + steps ≤ greatest_sequence
still_left sequence steps h = grind arith

-- It is then raised by so many steps.
pub as_raised : (sequence steps : ℕ) → sequence + steps ≤ greatest_sequence → raised sequence steps ≡ sequence + steps
as_raised sequence steps h = grind arith

module _ (timestamp : ℕ) (config : Configuration) (disks : List Seated) (change : Change) (free : step_refusal timestamp None config disks change ≡ None) where
  -- What is not refused has no cause against it.
  pub no_cause : causes (Some (most_members disks)) config change (seats_in disks) ≡ None
  unfolding step_refusal
  no_cause = all_pass [] (causes (Some (most_members disks)) config change (seats_in disks)) (None ∷ room_if_step timestamp config disks change ∷ []) free

  module _ (is : is_step config change ≡ true) where
    -- A step that is not refused has room.
    pub has_room : room_refusal timestamp config disks change ≡ None
    unfolding step_refusal
    has_room =
        sym (ap (λ b. if b then room_refusal timestamp config disks change else None) is)
        ∙ all_pass (causes (Some (most_members disks)) config change (seats_in disks) ∷ None ∷ []) (room_if_step timestamp config disks change) [] free

    -- Its extents have.
    has_extents : extents_refusal config change (seats_in disks) (seats_in disks) ≡ None
    has_extents = all_pass (option_map Full (full_of timestamp (before (views_in disks)) (config_after config change) disks) ∷ []) (extents_refusal config change (seats_in disks) (seats_in disks)) [] has_room

    -- Its configuration is that after the change.
    pub is_after : is_spent (step_of timestamp config disks change) ≡ false → after config change (seats_in disks) ≡ Ok (step_of timestamp config disks change).config
    unfolding after
    is_after kept =
        let left = still_left config.sequence (steps_of change) kept in
        ap (after_by config change) (none_refused config (seats_in disks) (most_members disks) change no_cause has_extents left)
        ∙ ap (λ (sequence : ℕ). Ok (changed_at config change sequence)) (sym (as_raised config.sequence (steps_of change) left))
