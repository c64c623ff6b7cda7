-- The spare that a rebuild of an exercise takes.
use Rattle.std.proofs.Common.{◌≡◌, ◌∙◌, ℕ, Bool, true, false, not, ◌&&◌, List, [], ◌∷◌, Option, Some, None, Ok, Err, nat_eq, refl, ap, if◌then◌else◌, is_some, option_map, min}
use Rattle.std.specs.Map.{lookup}
use Rattle.ddf_config.specs.declared.array.Array.{Array}
use Rattle.ddf_config.specs.declared.element.Position.{Position}
use Rattle.ddf_config.specs.declared.extent.Extent.{Extent}
use Rattle.ddf_config.specs.declared.member.Member.{Member}
use Rattle.ddf_config.specs.declared.seat.Seat.{Seat}
use Rattle.ddf_config.specs.Configuration.{Configuration}
use Rattle.ddf_config.specs.Members.{same_guid}
use Rattle.ddf_config.specs.Extents.{extents}
use Rattle.ddf_config.specs.Seats.{floor_of}
use Rattle.ddf_plan.specs.CreateRefusal.{references}
use Rattle.std.specs.Option.{option_and_then}
use Rattle.ddf_config.specs.Members.{is_current}
use Rattle.ddf_config.specs.declared.member.SpareUse.TheVariants.{No, Global}
use Rattle.ddf_config.specs.Room.{least_start_of}
use Rattle.ddf_config.proofs.Common.{same_self}
use Rattle.ddf_plan.specs.declared.change.Change.TheVariants.{Begin}
use Rattle.ddf_plan.specs.Lose.{is_among}
use Rattle.ddf_repair.specs.declared.beginning.Begun.TheVariants.{Again, Fresh, Nothing}
use Rattle.ddf_repair.specs.declared.beginning.RebuildFault.TheVariants.{Small}
use Rattle.ddf_repair.specs.Begin.{begun as begins, begun_in, onto_any}
use Rattle.ddf_repair.specs.First.{first_out, out_at}
use Rattle.ddf_repair.specs.Spares.{can_stand_in, extent_on, first_extent, is_spare_of, limit_on, most_of, spares_for, taken_on}
use Rattle.ddf_rebuild_command.specs.PassedOver.{passed_over}
use Rattle.ddf_exercise_config.specs.Disks.{AreApart, Disks, room}
use Rattle.ddf_exercise_config.specs.Stages.{array, element, group_with, lost, lost_position, member, members, position, positions_lost, seats_at, spare_disk}
use Rattle.ddf_exercise_config.specs.Turns.{Loss, turn_behind}
use Rattle.ddf_exercise_config.specs.Turns.Loss.{OfSecond, OfThird}
use Rattle.ddf_exercise_config.specs.Turns.Turn.{Closing, Middle}
use Rattle.ddf_exercise_config.proofs.Bools.{same}
use Rattle.ddf_exercise_config.proofs.Causes.{begins_at_0}
use Rattle.ddf_exercise_config.proofs.Tables as tables

-- ---- on any table

module _ (table : List (ℕ × Member)) (seats : List Seat) where
  stands : (used : List ℕ) (reference : ℕ) (a b c : Bool) → is_current table reference ≡ a → is_some (floor_of seats reference) ≡ b → is_among used reference ≡ c → can_stand_in table seats used reference ≡ (a && b && not c)
  stands used reference a b c p q r =
      ap (λ t. t && is_some (floor_of seats reference) && not (is_among used reference)) p ∙ ap (λ t. a && t && not (is_among used reference)) q ∙ ap (λ t. a && b && not t) r

  has_limit : (reference floor : ℕ) (one : Member) → lookup (nat_eq reference) table ≡ Some one → floor_of seats reference ≡ Some floor → limit_on table seats reference ≡ Some (min one.size floor)
  has_limit reference floor one p q = simp (p, q)

  has_extent : (all : List Extent) (reference : ℕ) → limit_on table seats reference ≡ Some room → taken_on all reference ≡ [] → extent_on table all seats 8 4096 reference ≡ Some (record { reference = reference; start = 0; blocks = 4096 })
  has_extent all reference p q =
      ap (λ (l : Option ℕ). option_and_then (λ limit. option_map (λ (start : ℕ). begins_on reference start) (least_start_of (taken_on all reference) limit 8 4096)) l) p
      ∙ ap (λ (t : List (ℕ × ℕ)). option_map (λ (start : ℕ). begins_on reference start) (least_start_of t room 8 4096)) q
      ∙ ap (option_map (λ (start : ℕ). begins_on reference start)) begins_at_0
    where
      begins_on : ℕ → ℕ → Extent
      begins_on reference start = record { reference = reference; start = start; blocks = 4096 }

  on_first : (all : List Extent) (reference : ℕ) (others : List ℕ) (found : Extent) → extent_on table all seats 8 4096 reference ≡ Some found → first_extent table all seats 8 4096 (reference ∷ others) ≡ Some found
  on_first all reference others found e = ap (λ (r : Option Extent). elim r [ None ↦ first_extent table all seats 8 4096 others | Some one ↦ Some one ]) e

-- a position out of sync whose disk is missing begins on the first spare
module _ (group guid : List ℕ) (sequence : ℕ) (table : List (ℕ × Member)) (seats : List Seat) (p q r : Position) (number : ℕ) (out : Position) (used : List ℕ) (reference : ℕ) (others : List ℕ) where
  abbrev one : Array
  one = array (p ∷ q ∷ r ∷ []) 1 2

  abbrev config : Configuration
  config = group_with group sequence table guid one

  is_there : lookup (same_guid guid) config.arrays ≡ Some one
  is_there = simp same_self

  pub begins_on_spare : first_out one ≡ Some (out_at 1 0 (element (p ∷ q ∷ r ∷ [])) (number, out)) → is_current table out.reference ≡ false → spares_for guid seats (p.reference ∷ q.reference ∷ r.reference ∷ []) table ≡ reference ∷ others
      → first_extent table (extents ((guid, one) ∷ [])) seats 8 4096 (reference ∷ others) ≡ Some (record { reference = reference; start = 0; blocks = 4096 })
      → begins config guid seats [] ≡ Ok (Fresh (record { element = 0; position = number }) (Begin guid 0 number reference 0))
  unfolding begins
  begins_on_spare first missing spares found =
      ap (λ (l : Option Array). elim l [ None ↦ Ok Nothing | Some it ↦ begun_in config guid seats (references it) (first_out it) ]) is_there
      ∙ ap (begun_in config guid seats (p.reference ∷ q.reference ∷ r.reference ∷ [])) first
      ∙ ap (λ (b : Bool). if b then Ok (Again (record { element = 0; position = number })) else onto_any config guid seats (out_at 1 0 (element (p ∷ q ∷ r ∷ [])) (number, out)) (spares_for guid seats (p.reference ∷ q.reference ∷ r.reference ∷ []) table)) missing
      ∙ ap (onto_any config guid seats (out_at 1 0 (element (p ∷ q ∷ r ∷ [])) (number, out))) spares
      ∙ ap (λ (e : Option Extent). elim e [
        | None ↦ Err (Small 4096 (most_of table (extents ((guid, one) ∷ [])) seats 8 (reference ∷ others)))
        | Some at ↦ Ok (Fresh (record { element = 0; position = number }) (Begin guid 0 number at.reference at.start))
      ]) found

module _ (group : List ℕ) (disks : Disks) (apart : AreApart disks) (guid : List ℕ) (sequence : ℕ) where
  -- ---- the second disk is lost

  abbrev used : List ℕ
  used = disks.first.reference ∷ disks.second.reference ∷ disks.third.reference ∷ []

  abbrev table : List (ℕ × Member)
  table = members disks true false Global Global

  no_first : can_stand_in table (seats_at disks Middle) used disks.first.reference ≡ false
  no_first = stands table (seats_at disks Middle) used disks.first.reference true true true (simp (is_current, tables.at_first disks apart true false Global Global)) (simp (tables.floor_middle_first disks apart)) (simp (same))

  no_second : can_stand_in table (seats_at disks Middle) used disks.second.reference ≡ false
  no_second = simp (is_current, tables.at_second disks apart true false Global Global)

  no_third : can_stand_in table (seats_at disks Middle) used disks.third.reference ≡ false
  no_third = stands table (seats_at disks Middle) used disks.third.reference true true true (simp (is_current, tables.at_third disks apart true false Global Global)) (simp (tables.floor_middle_third disks apart)) (simp (same, tables.third_first disks apart, tables.third_second disks apart))

  yes_fourth : can_stand_in table (seats_at disks Middle) used disks.fourth.reference ≡ true
  yes_fourth = stands table (seats_at disks Middle) used disks.fourth.reference true true false (simp (is_current, tables.at_fourth disks apart true false Global Global)) (simp (tables.floor_middle_fourth disks apart)) (simp (tables.fourth_first disks apart, tables.fourth_second disks apart, tables.fourth_third disks apart))

  yes_fifth : can_stand_in table (seats_at disks Middle) used disks.fifth.reference ≡ true
  yes_fifth = stands table (seats_at disks Middle) used disks.fifth.reference true true false (simp (is_current, tables.at_fifth disks apart true false Global Global)) (simp (tables.floor_middle_fifth disks apart)) (simp (tables.fifth_first disks apart, tables.fifth_second disks apart, tables.fifth_third disks apart))

  spares_are : spares_for guid (seats_at disks Middle) used table ≡ disks.fourth.reference ∷ disks.fifth.reference ∷ []
  spares_are = simp (is_spare_of, no_first, no_second, no_third, yes_fourth, yes_fifth)

  abbrev all : List Extent
  all = extents ((guid, array (positions_lost disks OfSecond) 1 2) ∷ [])

  none_taken : taken_on all disks.fourth.reference ≡ []
  none_taken = simp (apart.first_fourth, apart.second_fourth, apart.third_fourth)

  limit : limit_on table (seats_at disks Middle) disks.fourth.reference ≡ Some room
  limit = has_limit table (seats_at disks Middle) disks.fourth.reference room (member disks.fourth false Global).1 (tables.at_fourth disks apart true false Global Global) (tables.floor_middle_fourth disks apart)

  found : first_extent table all (seats_at disks Middle) 8 4096 (disks.fourth.reference ∷ disks.fifth.reference ∷ []) ≡ Some (record { reference = disks.fourth.reference; start = 0; blocks = 4096 })
  found = on_first table (seats_at disks Middle) all disks.fourth.reference (disks.fifth.reference ∷ []) (record { reference = disks.fourth.reference; start = 0; blocks = 4096 }) (has_extent table (seats_at disks Middle) all disks.fourth.reference limit none_taken)

  was_lost : is_current table disks.second.reference ≡ false
  was_lost = simp (is_current, tables.at_second disks apart true false Global Global)

  begins_first : begins (lost group disks guid OfSecond sequence) guid (seats_at disks Middle) [] ≡ Ok (Fresh (record { element = 0; position = 1 }) (Begin guid 0 1 disks.fourth.reference 0))
  begins_first = begins_on_spare group guid sequence table (seats_at disks Middle) (position disks.first true) (position disks.second false) (position disks.third true) 1 (position disks.second false) used disks.fourth.reference (disks.fifth.reference ∷ []) refl was_lost spares_are found

  -- ---- the third disk is lost

  abbrev used_then : List ℕ
  used_then = disks.first.reference ∷ disks.fourth.reference ∷ disks.third.reference ∷ []

  abbrev table_then : List (ℕ × Member)
  table_then = members disks true true No Global

  none_first : can_stand_in table_then (seats_at disks Closing) used_then disks.first.reference ≡ false
  none_first = stands table_then (seats_at disks Closing) used_then disks.first.reference true true true (simp (is_current, tables.at_first disks apart true true No Global)) (simp (tables.floor_closing_first disks apart)) (simp (same))

  none_second : can_stand_in table_then (seats_at disks Closing) used_then disks.second.reference ≡ false
  none_second = simp (is_current, tables.at_second disks apart true true No Global)

  none_third : can_stand_in table_then (seats_at disks Closing) used_then disks.third.reference ≡ false
  none_third = simp (is_current, tables.at_third disks apart true true No Global)

  none_fourth : can_stand_in table_then (seats_at disks Closing) used_then disks.fourth.reference ≡ false
  none_fourth = stands table_then (seats_at disks Closing) used_then disks.fourth.reference true true true (simp (is_current, tables.at_fourth disks apart true true No Global)) (simp (tables.floor_closing_fourth disks apart)) (simp (same, tables.fourth_first disks apart))

  is_fifth : can_stand_in table_then (seats_at disks Closing) used_then disks.fifth.reference ≡ true
  is_fifth = stands table_then (seats_at disks Closing) used_then disks.fifth.reference true true false (simp (is_current, tables.at_fifth disks apart true true No Global)) (simp (tables.floor_closing_fifth disks apart)) (simp (tables.fifth_first disks apart, tables.fifth_fourth disks apart, tables.fifth_third disks apart))

  spares_then : spares_for guid (seats_at disks Closing) used_then table_then ≡ disks.fifth.reference ∷ []
  spares_then = simp (is_spare_of, none_first, none_second, none_third, none_fourth, is_fifth)

  abbrev all_then : List Extent
  all_then = extents ((guid, array (positions_lost disks OfThird) 1 2) ∷ [])

  none_taken_then : taken_on all_then disks.fifth.reference ≡ []
  none_taken_then = simp (apart.first_fifth, apart.third_fifth, apart.fourth_fifth)

  limit_then : limit_on table_then (seats_at disks Closing) disks.fifth.reference ≡ Some room
  limit_then = has_limit table_then (seats_at disks Closing) disks.fifth.reference room (member disks.fifth false Global).1 (tables.at_fifth disks apart true true No Global) (tables.floor_closing_fifth disks apart)

  found_then : first_extent table_then all_then (seats_at disks Closing) 8 4096 (disks.fifth.reference ∷ []) ≡ Some (record { reference = disks.fifth.reference; start = 0; blocks = 4096 })
  found_then = on_first table_then (seats_at disks Closing) all_then disks.fifth.reference [] (record { reference = disks.fifth.reference; start = 0; blocks = 4096 }) (has_extent table_then (seats_at disks Closing) all_then disks.fifth.reference limit_then none_taken_then)

  was_lost_then : is_current table_then disks.third.reference ≡ false
  was_lost_then = simp (is_current, tables.at_third disks apart true true No Global)

  begins_second : begins (lost group disks guid OfThird sequence) guid (seats_at disks Closing) [] ≡ Ok (Fresh (record { element = 0; position = 2 }) (Begin guid 0 2 disks.fifth.reference 0))
  begins_second = begins_on_spare group guid sequence table_then (seats_at disks Closing) (position disks.first true) (position disks.fourth true) (position disks.third false) 2 (position disks.third false) used_then disks.fifth.reference [] refl was_lost_then spares_then found_then

  begins_so : (loss : Loss) → begins (lost group disks guid loss sequence) guid (seats_at disks (turn_behind loss)) [] ≡ Ok (Fresh (record { element = 0; position = lost_position loss }) (Begin guid 0 (lost_position loss) (spare_disk disks loss) 0))
  begins_so OfSecond = begins_first
  begins_so OfThird = begins_second

  -- Linux takes the array for no other layout: no disk is passed over
  none_passed : (linux : List ℕ) (positions : List Position) → passed_over linux (array positions 1 2) ≡ []
  unfolding passed_over
  none_passed linux positions = refl

  pub begins_beside : (linux : List ℕ) (loss : Loss) → begins (lost group disks guid loss sequence) guid (seats_at disks (turn_behind loss)) (passed_over linux (array (positions_lost disks loss) 1 2)) ≡ Ok (Fresh (record { element = 0; position = lost_position loss }) (Begin guid 0 (lost_position loss) (spare_disk disks loss) 0))
  begins_beside linux loss = ap (begins (lost group disks guid loss sequence) guid (seats_at disks (turn_behind loss))) (none_passed linux (positions_lost disks loss)) ∙ begins_so loss
