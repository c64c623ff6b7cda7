-- What the changes of an exercise make of the configuration of its group, and that each is a step.
use Rattle.std.proofs.Common.{◌≡◌, ℕ, ◌+◌, ◌*◌, ◌/◌, ◌%◌, Bool, true, false, not, List, [], ◌∷◌, Option, Some, None, eqb, nat_eq, refl, ap, ◌∙◌}
use Rattle.ddf_config.specs.declared.array.Array.{Array}
use Rattle.ddf_config.specs.declared.member.Member.{Member}
use Rattle.ddf_config.specs.declared.member.SpareUse.{SpareUse}
use Rattle.ddf_config.specs.Configuration.{Configuration}
use Rattle.ddf_config.specs.Extents.{extents}
use Rattle.ddf_config.specs.Served.{is_served}
use Rattle.ddf_config.specs.States.{low_state, with_low_states}
use Rattle.ddf_plan.specs.Members.{members_after}
use Rattle.ddf_plan.specs.Same.{same_tables}
use Rattle.ddf_plan.specs.Standing.{is_revertible, is_revertible_spare, takes_revertible}
use Rattle.std.specs.Cmp.Lexicographic.{pointwise}
use Rattle.std.specs.Map.{lookup}
use Rattle.ddf_lemmas.proofs.Lists.{bytes_same}
use Rattle.ddf_config.specs.declared.member.SpareUse.TheVariants.{No, Global}
use Rattle.ddf_config.proofs.Common.{same_self}
use Rattle.ddf_plan.specs.declared.change.Change.{Change}
use Rattle.ddf_plan.specs.declared.change.Change.TheVariants.{Begin, Finish, Lose, Mark, Spare, Unmark}
use Rattle.ddf_plan.specs.Changes.{changed_at}
use Rattle.ddf_plan.specs.Lose.{lost_position}
use Rattle.ddf_plan.specs.Members.{member_after, use_after}
use Rattle.ddf_plan.specs.Same.{same_array, same_member}
use Rattle.ddf_exercise_config.specs.Disks.{AreApart, Disk, Disks}
use Rattle.ddf_exercise_config.specs.Stages.{array, group_with, members, position}
use Rattle.ddf_plan.specs.Arrays.{array_after, arrays_added, is_dropped}
use Rattle.ddf_plan.specs.Same.{same_use}
use Rattle.ddf_exercise_config.proofs.Bools.{flag_is, none_either, same, second_differs}
use Rattle.ddf_exercise_config.proofs.Levels.{with_low}
use Rattle.ddf_exercise_config.proofs.Tables as tables

-- ---- the mark

module _ (group guid : List ℕ) (disks : Disks) (sm tm : Bool) (fu hu : SpareUse) (x y z : Disk) (sx sy sz : Bool) where
  abbrev table : List (ℕ × Member)
  table = members disks sm tm fu hu

  abbrev arr : (state init : ℕ) → Array
  arr state init = array (position x sx ∷ position y sy ∷ position z sz ∷ []) state init

  abbrev Served : (state init : ℕ) → Type 0
  Served state init = is_served table (extents ((guid, arr state init) ∷ [])) (arr state init) ≡ true

  abbrev at : (sequence state init : ℕ) → Configuration
  at sequence state init = group_with group sequence table guid (arr state init)

  module _ (sequence next init : ℕ) where
    pub set : Served 16 init → low_state table (arr 16 init) ≡ 0 → changed_at (at sequence 0 init) (Mark guid) next ≡ at next 16 init
    set served low =
        ap (λ (arrays : List (List ℕ × Array)). record { group = group; sequence = next; members = table; arrays = arrays })
        (simp same_self (with_low table guid (position x sx ∷ position y sy ∷ position z sz ∷ []) 16 init 0 served refl low))

    pub set_again : Served 16 init → low_state table (arr 16 init) ≡ 0 → changed_at (at sequence 16 init) (Mark guid) next ≡ at next 16 init
    set_again served low =
        ap (λ (arrays : List (List ℕ × Array)). record { group = group; sequence = next; members = table; arrays = arrays })
        (simp same_self (with_low table guid (position x sx ∷ position y sy ∷ position z sz ∷ []) 16 init 0 served refl low))

    pub cleared : (given : ℕ) → Served 0 (init / 4 * 4 + given % 4) → low_state table (arr 0 (init / 4 * 4 + given % 4)) ≡ 0
        → changed_at (at sequence 16 init) (Unmark guid given) next ≡ at next 0 (init / 4 * 4 + given % 4)
    cleared given served low =
        ap (λ (arrays : List (List ℕ × Array)). record { group = group; sequence = next; members = table; arrays = arrays })
        (simp same_self (with_low table guid (position x sx ∷ position y sy ∷ position z sz ∷ []) 0 (init / 4 * 4 + given % 4) 0 served refl low))

  -- a state that is another one
  pub other_state : (sequence next state state_next init init_next : ℕ) → eqb state state_next ≡ false → not (same_tables (at sequence state init) (at next state_next init_next)) ≡ true
  unfolding same_tables
  other_state sequence next state state_next init init_next apart =
      second_differs (pointwise same_member table table) (pointwise same_array ((guid, arr state init) ∷ []) ((guid, arr state_next init_next) ∷ [])) (simp (bytes_same, apart))

  -- all as it was
  pub no_other : (sequence next state init : ℕ) → same_use fu fu ≡ true → same_use hu hu ≡ true → not (same_tables (at sequence state init) (at next state init)) ≡ false
  unfolding same_tables
  no_other sequence next state init fourth fifth = simp (same, bytes_same, flag_is, fourth, fifth)

-- ---- members

-- a disk that is no revertible spare stands in for no other
pub takes_global : (listed : List (ℕ × Member)) (reference : ℕ) (found : Member) → lookup (nat_eq reference) listed ≡ Some found → is_revertible found.spare ≡ false → is_revertible_spare listed reference ≡ false
takes_global listed reference found there other =
    ap (λ (it : Option Member). elim it [ None ↦ false | Some member ↦ is_revertible member.spare ]) there ∙ other

-- other members, and the array as it was
module _ (group guid : List ℕ) (table after : List (ℕ × Member)) (old new : Array) where
  -- a change of members, and what it makes of the array
  pub remade : (change : Change) (sequence next : ℕ) → members_after (group_with group sequence table guid old) change ≡ after → takes_revertible (group_with group sequence table guid old) change ≡ false → array_after false after change guid old ≡ new → is_dropped change guid ≡ false
      → arrays_added (group_with group sequence table guid old) change ≡ [] → (final : Array) → with_low_states after ((guid, new) ∷ []) ≡ (guid, final) ∷ []
      → changed_at (group_with group sequence table guid old) change next ≡ group_with group next after guid final
  remade change sequence next members_are otherwise array_is stays none final low = simp (members_are, stays, none, otherwise, array_is, low)

module _ (disks : Disks) (apart : AreApart disks) (group guid : List ℕ) (sequence : ℕ) where
  module _ (sm tm : Bool) (hu : SpareUse) (one : Array) where
    pub fourth_is_spare : members_after (group_with group sequence (members disks sm tm No hu) guid one) (Spare disks.fourth.reference Global) ≡ members disks sm tm Global hu
    fourth_is_spare = simp (use_after, member_after, same, tables.fourth_first disks apart, tables.fourth_second disks apart, tables.fourth_third disks apart, apart.fourth_fifth)

  module _ (sm tm : Bool) (fu : SpareUse) (one : Array) where
    pub fifth_is_spare : members_after (group_with group sequence (members disks sm tm fu No) guid one) (Spare disks.fifth.reference Global) ≡ members disks sm tm fu Global
    fifth_is_spare = simp (use_after, member_after, same, tables.fifth_first disks apart, tables.fifth_second disks apart, tables.fifth_third disks apart, tables.fifth_fourth disks apart)

  module _ (fu hu : SpareUse) (one : Array) where
    pub second_is_lost : members_after (group_with group sequence (members disks false false fu hu) guid one) (Lose (disks.second.reference ∷ [])) ≡ members disks true false fu hu
    second_is_lost = simp (same, apart.first_second, tables.third_second disks apart, tables.fourth_second disks apart, tables.fifth_second disks apart)

    pub third_is_lost : members_after (group_with group sequence (members disks true false fu hu) guid one) (Lose (disks.third.reference ∷ [])) ≡ members disks true true fu hu
    third_is_lost = simp (same, apart.first_third, apart.second_third, tables.fourth_third disks apart, tables.fifth_third disks apart)

  module _ (hu : SpareUse) (one : Array) where
    pub fourth_is_taken : members_after (group_with group sequence (members disks true false Global hu) guid one) (Begin guid 0 1 disks.fourth.reference 0) ≡ members disks true false No hu
    fourth_is_taken = simp (use_after, member_after, same, tables.fourth_first disks apart, tables.fourth_second disks apart, tables.fourth_third disks apart, apart.fourth_fifth)

  module _ (one : Array) where
    pub fifth_is_taken : members_after (group_with group sequence (members disks true true No Global) guid one) (Begin guid 0 2 disks.fifth.reference 0) ≡ members disks true true No No
    fifth_is_taken = simp (use_after, member_after, same, tables.fifth_first disks apart, tables.fifth_second disks apart, tables.fifth_third disks apart, tables.fifth_fourth disks apart)

-- ---- the array

module _ (guid : List ℕ) (table : List (ℕ × Member)) (x y z : Disk) (state init : ℕ) where
  pub loses_second : eqb x.reference y.reference ≡ false → eqb z.reference y.reference ≡ false
      → array_after false table (Lose (y.reference ∷ [])) guid (array (position x true ∷ position y true ∷ position z true ∷ []) state init) ≡ array (position x true ∷ position y false ∷ position z true ∷ []) state init
  loses_second xy zy = simp (lost_position, same, xy, zy, none_either)

  pub loses_third : eqb x.reference z.reference ≡ false → eqb y.reference z.reference ≡ false
      → array_after false table (Lose (z.reference ∷ [])) guid (array (position x true ∷ position y true ∷ position z true ∷ []) state init) ≡ array (position x true ∷ position y true ∷ position z false ∷ []) state init
  loses_third xz yz = simp (lost_position, same, xz, yz, none_either)

  pub begins_second : (spare : Disk) → array_after false table (Begin guid 0 1 spare.reference 0) guid (array (position x true ∷ position y false ∷ position z true ∷ []) state init) ≡ array (position x true ∷ position spare false ∷ position z true ∷ []) state init
  begins_second spare = simp same_self

  pub begins_third : (spare : Disk) → array_after false table (Begin guid 0 2 spare.reference 0) guid (array (position x true ∷ position y true ∷ position z false ∷ []) state init) ≡ array (position x true ∷ position y true ∷ position spare false ∷ []) state init
  begins_third spare = simp same_self

  pub finishes_second : array_after false table (Finish guid 0 1) guid (array (position x true ∷ position y false ∷ position z true ∷ []) state init) ≡ array (position x true ∷ position y true ∷ position z true ∷ []) state init
  finishes_second = simp same_self

  pub finishes_third : array_after false table (Finish guid 0 2) guid (array (position x true ∷ position y true ∷ position z false ∷ []) state init) ≡ array (position x true ∷ position y true ∷ position z true ∷ []) state init
  finishes_third = simp same_self
