-- The position that goes back, and the room that is found for it.
use Rattle.std.proofs.Common.{◌≡◌, ◌∙◌, ℕ, suc, ◌+◌, ◌==◌, Bool, true, false, not, ◌&&◌, cond, List, [], ◌∷◌, length, find, min, nat_eq, nat_le, nat_lt, Option, Some, None, refl, sym, ap, arith}
use Rattle.std.proofs.lemmas.Bool.{and_parts, false≢true}
use Rattle.std.specs.Prelude.{is_some, option_map, slice_get, if◌then◌else◌}
use Rattle.std.specs.Option.{option_and_then}
use Rattle.std.specs.List.{enumerate_from}
use Rattle.std.specs.Map.{lookup}
use Rattle.ddf_config.specs.declared.array.Array.{Array}
use Rattle.ddf_config.specs.declared.element.Position.{Position}
use Rattle.ddf_config.specs.declared.extent.Extent.{Extent}
use Rattle.ddf_config.specs.declared.member.Member.{Member}
use Rattle.ddf_config.specs.declared.seat.Seat.{Seat}
use Rattle.ddf_config.specs.Configuration.{Configuration}
use Rattle.ddf_config.specs.ElementValue.{ElementValue}
use Rattle.ddf_config.specs.Extents.{extent, extents}
use Rattle.ddf_config.specs.Members.{same_guid}
use Rattle.ddf_config.specs.Room.{least_start_of}
use Rattle.ddf_config.specs.Seats.{floor_of, slot_of}
use Rattle.ddf_config.specs.Unusable.{passes_floor}
use Rattle.ddf_array.specs.Viewing.{seat_slot}
use Rattle.ddf_plan.specs.Create.{element_strip, lies_clear}
use Rattle.ddf_plan.specs.Rebuild.{element_at}
use Rattle.ddf_repair.specs.declared.first.Target.{Target}
use Rattle.ddf_repair.specs.Choose.{array_room, back_from, back_in, can_go_back, chosen, part_back, part_room, room_for, target_at}
use Rattle.ddf_repair.specs.Spares.{extent_on, taken_on}
use Rattle.ddf_repair.proofs.Begins.{free_on}
use Rattle.ddf_availability.proofs.Moves.{moved_position}

-- ---- the position

-- what a search among numbered items finds stands at its number, and passes
found_at : {X : Type 0} (p : ℕ × X → Bool) (n : ℕ) (xs : List X) (at : ℕ × X) → find p (enumerate_from n xs) ≡ Some at → (k : ℕ) × (at.0 ≡ n + k) × (slice_get xs k ≡ Some at.1) × (p at ≡ true)
found_at p n [] at h = absurd cc
found_at {X = X} p n (x ∷ xs) at h = by (p (n, x)) refl (found_at p (n + 1) xs at) h
  where
    by : (b : Bool) → p (n, x) ≡ b → (find p (enumerate_from (n + 1) xs) ≡ Some at → (k : ℕ) × (at.0 ≡ (n + 1) + k) × (slice_get xs k ≡ Some at.1) × (p at ≡ true))
        → cond b (Some (n, x)) (find p (enumerate_from (n + 1) xs)) ≡ Some at → (k : ℕ) × (at.0 ≡ n + k) × (slice_get (x ∷ xs) k ≡ Some at.1) × (p at ≡ true)
    by true passes rest e =
        let same : (n, x) ≡ at = cc in
        let number : n ≡ at.0 = ap (λ (one : ℕ × X). one.0) same in
        (0, omega (arith, number), ap (λ (one : ℕ × X). Some one.1) same, ap p (sym same) ∙ passes)
    by false passes rest e =
        let found = rest e in
        let number = found.1 in
        (suc found.0, omega (arith, number), found.2, found.3)

record IsBackIn (seats : List Seat) (from : ℕ) (parts : List (Option ElementValue)) (target : Target) : Type 0 where
  place : ℕ
  number : target.element ≡ from + place
  plan : ElementValue
  is_plan : slice_get parts place ≡ Some (Some plan)
  held : Position
  is_held : slice_get plan.positions target.position ≡ Some held
  goes : can_go_back seats plan.stand_in held ≡ true

later_back : (seats : List Seat) (from : ℕ) (part : Option ElementValue) (parts : List (Option ElementValue)) (target : Target) → IsBackIn seats (from + 1) parts target → IsBackIn seats from (part ∷ parts) target
later_back seats from part parts target is = record {
  place = suc is.place;
  number = omega (arith, is.number);
  plan = is.plan;
  is_plan = is.is_plan;
  held = is.held;
  is_held = is.is_held;
  goes = is.goes;
}

back_at : (seats : List Seat) (from : ℕ) (parts : List (Option ElementValue)) (target : Target) → back_from seats from parts ≡ Some target → IsBackIn seats from parts target
back_at seats from [] target h = absurd cc
back_at seats from (None ∷ parts) target h = later_back seats from None parts target (back_at seats (from + 1) parts target h)
back_at seats from (Some plan ∷ parts) target h = by (back_in seats plan) refl (back_at seats (from + 1) parts target)
  where
    by : (found : Option (ℕ × Position)) → back_in seats plan ≡ found → (back_from seats (from + 1) parts ≡ Some target → IsBackIn seats (from + 1) parts target) → IsBackIn seats from (Some plan ∷ parts) target
    by None e rest =
        let later : back_from seats (from + 1) parts ≡ Some target = rw (e, back_from, part_back) at h in
        later_back seats from (Some plan) parts target (rest later)
    by (Some one) e rest =
        let here : ◌≡◌ {A = Option Target} (Some (target_at from one.0)) (Some target) = rw (e, back_from, part_back) at h in
        let same : target_at from one.0 ≡ target = cc in
        let found = found_at (λ at. can_go_back seats plan.stand_in at.1) 0 plan.positions one e in
        let place : found.0 ≡ target.position = omega (arith, found.1, ap (λ (t : Target). t.position) same) in
        record {
          place = 0;
          number = omega (arith, ap (λ (t : Target). t.element) same);
          plan = plan;
          is_plan = refl;
          held = one.1;
          is_held = ap (slice_get plan.positions) (sym place) ∙ found.2;
          goes = found.3;
        }

-- It is in sync, on the disk that stands in at its element, which is here.
pub record IsBackAt (config : Configuration) (guid : List ℕ) (seats : List Seat) (target : Target) : Type 0 where
  pub array : Array
  pub is_array : lookup (same_guid guid) config.arrays ≡ Some array
  pub plan : ElementValue
  pub is_plan : slice_get array.elements target.element ≡ Some (Some plan)
  pub held : Position
  pub is_held : slice_get plan.positions target.position ≡ Some held
  pub is_synced : held.synced ≡ true
  pub is_here : is_some (floor_of seats held.reference) ≡ true

module _ (config : Configuration) (guid : List ℕ) (seats : List Seat) (target : Target) where
  chosen_by : (array : Array) → lookup (same_guid guid) config.arrays ≡ Some array → back_from seats 0 array.elements ≡ Some target → IsBackAt config guid seats target
  chosen_by array found h =
      let at = back_at seats 0 array.elements target h in
      let place : at.place ≡ target.element = omega (arith, at.number) in
      let here = and_parts (not (at.plan.stand_in == 0) && at.held.reference == at.plan.stand_in && at.held.synced) (is_some (floor_of seats at.held.reference)) at.goes in
      record {
        array = array;
        is_array = found;
        plan = at.plan;
        is_plan = ap (slice_get array.elements) (sym place) ∙ at.is_plan;
        held = at.held;
        is_held = at.is_held;
        is_synced = (and_parts (not (at.plan.stand_in == 0) && at.held.reference == at.plan.stand_in) at.held.synced here.0).1;
        is_here = here.1;
      }

  pub is_chosen : chosen config guid seats ≡ Some target → IsBackAt config guid seats target
  unfolding chosen
  is_chosen h = by (lookup (same_guid guid) config.arrays) refl h
    where
      by : (found : Option Array) → lookup (same_guid guid) config.arrays ≡ found
          → ◌≡◌ {A = Option Target} (elim found [ None ↦ None | Some array ↦ back_from seats 0 array.elements ]) (Some target) → IsBackAt config guid seats target
      by None e h = absurd cc
      by (Some array) e h = chosen_by array e h

-- ---- the room

-- where an extent is found on a disk the disk is here
seated : (members : List (ℕ × Member)) (all : List Extent) (seats : List Seat) (strip blocks reference : ℕ) (found : Extent) → extent_on members all seats strip blocks reference ≡ Some found → is_some (floor_of seats reference) ≡ true
seated members all seats strip blocks reference found h = by (lookup (nat_eq reference) members) (floor_of seats reference) h
  where
    by : (member : Option Member) (floor : Option ℕ)
        → option_and_then (λ limit. option_map (λ start. record { reference = reference; start = start; blocks = blocks }) (least_start_of (taken_on all reference) limit strip blocks))
        (option_and_then (λ (one : Member). option_map (λ it. min one.size it) floor) member) ≡ Some found
        → is_some floor ≡ true
    by None None h = absurd cc
    by None (Some floor) h = absurd cc
    by (Some member) None h = absurd cc
    by (Some member) (Some floor) h = refl

-- It is free on the disk, which is here, and has the blocks of the position.
pub record IsRoomAt (config : Configuration) (seats : List Seat) (plan : ElementValue) (disk : ℕ) (room : Extent) : Type 0 where
  pub on : room.reference ≡ disk
  pub is : extent plan.blocks (moved_position room.reference room.start) ≡ room
  pub clear : lies_clear config.members (extents config.arrays) room ≡ true
  pub below : passes_floor seats room ≡ false
  pub is_here : is_some (floor_of seats disk) ≡ true

pub is_room : (config : Configuration) (guid : List ℕ) (seats : List Seat) (target : Target) (disk : ℕ) (room : Extent) (at : IsBackAt config guid seats target) → room_for config guid seats target disk ≡ Some room
    → IsRoomAt config seats at.plan disk room
unfolding room_for
is_room config guid seats target disk room at h =
    let element_is : element_at at.array target.element ≡ Some at.plan = ap (λ (part : Option (Option ElementValue)). elim part [ None ↦ None | Some one ↦ one ]) at.is_plan in
    let found : extent_on config.members (extents config.arrays) seats (element_strip (length at.array.elements) at.plan) at.plan.blocks disk ≡ Some room =
    sym (ap (λ (part : Option ElementValue). part_room config.members (extents config.arrays) seats (length at.array.elements) part disk) element_is)
    ∙ sym (ap (λ (one : Option Array). elim one [ None ↦ None | Some array ↦ array_room config.members (extents config.arrays) seats array target.element disk ]) at.is_array) ∙ h in
    let free = free_on config.members (extents config.arrays) seats (element_strip (length at.array.elements) at.plan) at.plan.blocks disk room found in
    record {
      on = free.on;
      is = ap (λ (n : ℕ). record { reference = n; start = room.start; blocks = at.plan.blocks }) free.on ∙ free.is;
      clear = free.clear;
      below = free.below;
      is_here = seated config.members (extents config.arrays) seats (element_strip (length at.array.elements) at.plan) at.plan.blocks disk room found;
    }

-- An extent on a disk that is here lies on the slot of its seat, where it ends at or below the floor.
within_floor : (end floor : ℕ) → nat_lt floor end ≡ false → nat_le end floor ≡ true
within_floor end floor h = grind arith

pub slot_is : (seats : List Seat) (one : Extent) → passes_floor seats one ≡ false → is_some (floor_of seats one.reference) ≡ true → seat_slot seats one ≡ Some (slot_of seats one.reference)
slot_is seats one below here = by (floor_of seats one.reference) below here
  where
    by : (floor : Option ℕ) → (elim floor [ None ↦ false | Some it ↦ nat_lt it (one.start + one.blocks) ]) ≡ false → is_some floor ≡ true
        → ◌≡◌ {A = Option ℕ} (elim floor [ None ↦ None | Some it ↦ if nat_le (one.start + one.blocks) it then Some (slot_of seats one.reference) else None ]) (Some (slot_of seats one.reference))
    by None below here = absurd (false≢true here)
    by (Some it) below here = ap (λ (b : Bool). if b then Some (slot_of seats one.reference) else None) (within_floor (one.start + one.blocks) it below)
