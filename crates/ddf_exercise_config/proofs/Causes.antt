-- Nothing refuses the changes of an exercise.
use Rattle.std.proofs.Common.{◌≡◌, ℕ, ◌+◌, ◌*◌, true, false, List, [], ◌∷◌, Some, None, nat_eq, eqb, refl, ap, lit<, lit≤, arith}
use Rattle.std.specs.Map.{lookup}
use Rattle.ddf_config.specs.declared.array.Array.{Array}
use Rattle.ddf_config.specs.declared.element.Position.{Position}
use Rattle.ddf_config.specs.declared.member.Member.{Member}
use Rattle.ddf_config.specs.declared.seat.Seat.{Seat}
use Rattle.ddf_config.specs.Configuration.{Configuration}
use Rattle.ddf_config.specs.Extents.{extents, extent}
use Rattle.ddf_config.specs.Refusals.{refuse_if}
use Rattle.ddf_config.specs.declared.refusal.Refusal.TheVariants.{Shape}
use Rattle.ddf_config.specs.Room.{is_free, start_on}
use Rattle.ddf_config.specs.Seats.{slot_of}
use Rattle.ddf_plan.specs.Causes.{causes}
use Rattle.ddf_plan.specs.Create.{created as laid}
use Rattle.ddf_plan.specs.CreateRefusal.{names_twice, references}
use Rattle.ddf_plan.specs.Floors.{extents_refusal}
use Rattle.ddf_plan.specs.Rebuild.{has_position, lost_holder, reference_at}
use Rattle.ddf_plan.specs.Refusals.{not_current, refuse_first}
use Rattle.ddf_plan.specs.Spare.{holds_extent}
use Rattle.ddf_config.specs.Members.{is_current}
use Rattle.ddf_config.specs.declared.refusal.Refusal.TheVariants.{InUse}
use Rattle.ddf_config.specs.declared.member.SpareUse.TheVariants.{No, Global}
use Rattle.ddf_config.specs.Room.{least_start_of}
use Rattle.ddf_config.proofs.Starts.{find_in_range}
use Rattle.ddf_config.specs.Unusable.{passes_floor}
use Rattle.ddf_config.proofs.Common.{same_self}
use Rattle.ddf_plan.specs.declared.change.Change.TheVariants.{Begin, Create, Finish, Mark, Spare, Unmark}
use Rattle.ddf_plan.specs.CreateRefusal.{is_spare_disk}
use Rattle.ddf_plan.specs.Floors.{lacks_extent}
use Rattle.ddf_repair.proofs.Begins.{three_pass}
use Rattle.ddf_exercise_config.specs.Disks.{Disk, room}
use Rattle.ddf_exercise_config.specs.Stages.{array, group_with, member, position}
use Rattle.ddf_exercise_config.proofs.Bools.{pass_six}

-- the first sector of a disk that has no extent is free
at_zero : (k : ℕ) → k ≡ 0 → is_free [] room 4096 (k * 8) ≡ true
at_zero k is = rw is refl

pub begins_at_0 : least_start_of [] room 8 4096 ≡ Some 0
unfolding least_start_of
begins_at_0 = find_in_range (is_free [] room 4096) (λ k. k * 8) 0 (room + 1) 0 (lit≤ tt) (lit< tt) (λ j from below. absurd (omega arith)) refl

module _ (group : List ℕ) (sequence : ℕ) (table : List (ℕ × Member)) (guid : List ℕ) (p q r : Position) (state init : ℕ) (seats : List Seat) where
  abbrev config : Configuration
  config = group_with group sequence table guid (array (p ∷ q ∷ r ∷ []) state init)

  pub mark_allowed : causes (Some 16) config (Mark guid) seats ≡ None
  unfolding causes
  mark_allowed = simp same_self

  pub unmark_allowed : (given : ℕ) → causes (Some 16) config (Unmark guid given) seats ≡ None
  unfolding causes
  unmark_allowed given = simp same_self

  holds_none : (reference : ℕ) → eqb p.reference reference ≡ false → eqb q.reference reference ≡ false → eqb r.reference reference ≡ false → holds_extent config reference ≡ false
  holds_none reference apart_p apart_q apart_r = simp (apart_p, apart_q, apart_r)

  current_one : (reference : ℕ) → is_current table reference ≡ true → not_current config seats (reference ∷ []) ≡ None
  current_one reference current = simp current

  pub spare_allowed : (reference : ℕ) → is_current table reference ≡ true → eqb p.reference reference ≡ false → eqb q.reference reference ≡ false → eqb r.reference reference ≡ false
      → causes (Some 16) config (Spare reference Global) seats ≡ None
  unfolding causes
  spare_allowed reference current apart_p apart_q apart_r =
      three_pass (not_current config seats (reference ∷ [])) None (refuse_if (holds_extent config reference) (InUse (slot_of seats reference))) (current_one reference current) refl
      (ap (λ b. refuse_if b (InUse (slot_of seats reference))) (holds_none reference apart_p apart_q apart_r))

  pub second_begins : (reference start : ℕ) → is_current table reference ≡ true → causes (Some 16) config (Begin guid 0 1 reference start) seats ≡ None
  unfolding causes
  second_begins reference start current = simp (has_position, lost_holder, reference_at, same_self, current)

  pub third_begins : (reference start : ℕ) → is_current table reference ≡ true → causes (Some 16) config (Begin guid 0 2 reference start) seats ≡ None
  unfolding causes
  third_begins reference start current = simp (has_position, lost_holder, reference_at, same_self, current)

  pub second_finishes : is_current table q.reference ≡ true → causes (Some 16) config (Finish guid 0 1) seats ≡ None
  unfolding causes
  second_finishes current = simp (has_position, lost_holder, reference_at, same_self, current)

  pub third_finishes : is_current table r.reference ≡ true → causes (Some 16) config (Finish guid 0 2) seats ≡ None
  unfolding causes
  third_finishes current = simp (has_position, lost_holder, reference_at, same_self, current)

-- ---- a new array

module _ (group : List ℕ) (sequence : ℕ) (table : List (ℕ × Member)) (guid : List ℕ) (x y z : Disk) (seats : List Seat)
    (xy : eqb x.reference y.reference ≡ false) (xz : eqb x.reference z.reference ≡ false) (yz : eqb y.reference z.reference ≡ false)
    (lx : lookup (nat_eq x.reference) table ≡ Some (member x false No).1) (ly : lookup (nat_eq y.reference) table ≡ Some (member y false No).1) (lz : lookup (nat_eq z.reference) table ≡ Some (member z false No).1) where
  abbrev empty : Configuration
  empty = record { group = group; sequence = sequence; members = table; arrays = [] }

  abbrev three : (state : ℕ) → Array
  three state = array (position x true ∷ position y true ∷ position z true ∷ []) state 0

  all_current : not_current empty seats (references (three 0)) ≡ None
  all_current = simp (is_current, lx, ly, lz)

  none_twice : names_twice (references (three 0)) ≡ false
  none_twice = simp (xy, xz, yz)

  no_spare : refuse_first seats (is_spare_disk empty) InUse (references (three 0)) ≡ None
  no_spare = simp (is_spare_disk, lx, ly, lz)

  pub creation_allowed : causes (Some 16) empty (Create guid (three 0)) seats ≡ None
  unfolding causes
  creation_allowed =
      pass_six (not_current empty seats (references (three 0))) None None (refuse_if (names_twice (references (three 0))) Shape) None (refuse_first seats (is_spare_disk empty) InUse (references (three 0)))
      all_current refl refl (ap (λ b. refuse_if b Shape) none_twice) refl no_spare

  pub creation_has_room : passes_floor seats (extent 4096 (position x true)) ≡ false → passes_floor seats (extent 4096 (position y true)) ≡ false → passes_floor seats (extent 4096 (position z true)) ≡ false
      → extents_refusal empty (Create guid (three 0)) seats seats ≡ None
  unfolding extents_refusal
  creation_has_room below_x below_y below_z = simp (lacks_extent, start_on, lx, ly, lz, begins_at_0, below_x, below_y, below_z)

  pub laid_out : laid table (extents []) (three 0) ≡ three 16
  laid_out = simp (start_on, lx, ly, lz, begins_at_0)
