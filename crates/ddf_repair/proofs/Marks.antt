-- The mark after it is set, and after it is cleared.
use Rattle.std.proofs.Common.{◌≡◌, ℕ, ◌+◌, ◌-◌, ◌*◌, ◌/◌, ◌%◌, ◌≤◌, Bool, true, false, List, Some, eqb, refl, ap, ◌∙◌, if◌then◌else◌, arith}
use Rattle.std.specs.Map.{lookup}
use Rattle.ddf_config.specs.declared.member.Member.{Member}
use Rattle.ddf_config.specs.declared.array.Array.{Array}
use Rattle.ddf_config.specs.declared.extent.Extent.{Extent}
use Rattle.ddf_config.specs.Configuration.{Configuration}
use Rattle.ddf_config.specs.Extents.{extents}
use Rattle.ddf_config.specs.Members.{same_guid}
use Rattle.ddf_config.specs.States.{array_with_low, is_marked, low_state, takes_low_state}
use Rattle.ddf_config.proofs.Common.{low_small}
use Rattle.ddf_plan.specs.declared.change.Change.TheVariants.{Mark, Unmark}
use Rattle.ddf_plan.specs.Mark.{mark, marked, unmarked}
use Rattle.ddf_plan.specs.Members.{members_after}
use Rattle.ddf_plan.specs.Arrays.{arrays_after, kept_and_added}
use Rattle.ddf_repair.proofs.Usable.{looked_up, one_after, table_is}

same_bit : (state low : ℕ) → low ≤ 4 → (state / 8 * 8 + low) / 16 ≡ state / 16
same_bit state low small = omega (arith, small)

-- the low state leaves the mark
pub keeps_mark : (members : List (ℕ × Member)) (all : List Extent) (array : Array) → is_marked (array_with_low members all array) ≡ is_marked array
keeps_mark members all array = by (takes_low_state members all array)
  where
    by : (b : Bool) → eqb ((if b then array.state / 8 * 8 + low_state members array else array.state) / 16 % 2) 1 ≡ eqb (array.state / 16 % 2) 1
    by true = ap (λ n. eqb (n % 2) 1) (same_bit array.state (low_state members array) (low_small members array))
    by false = refl

set_bit : (state : ℕ) → eqb (state / 16 % 2) 1 ≡ false → eqb ((state + mark) / 16 % 2) 1 ≡ true
set_bit state away = grind arith

clear_bit : (state : ℕ) → eqb (state / 16 % 2) 1 ≡ true → eqb ((state - mark) / 16 % 2) 1 ≡ false
clear_bit state there = grind arith

pub marked_is : (array : Array) → is_marked (marked array) ≡ true
marked_is array = by (is_marked array) refl
  where
    by : (b : Bool) → is_marked array ≡ b → eqb ((if b then array.state else array.state + mark) / 16 % 2) 1 ≡ true
    by true e = e
    by false e = set_bit array.state e

pub unmarked_is : (init : ℕ) (array : Array) → is_marked (unmarked init array) ≡ false
unmarked_is init array = by (is_marked array) refl
  where
    by : (b : Bool) → is_marked array ≡ b → eqb ((if b then array.state - mark else array.state) / 16 % 2) 1 ≡ false
    by true e = clear_bit array.state e
    by false e = e

module _ (config : Configuration) (guid : List ℕ) (array : Array) (there : lookup (same_guid guid) config.arrays ≡ Some array) where
  pub is_set : (next : Array) × (lookup (same_guid guid) (arrays_after config (Mark guid)) ≡ Some next) × (is_marked next ≡ true)
  is_set =
      let all = extents (kept_and_added config (Mark guid)) in
      let found = looked_up (one_after config (Mark guid) all) (same_guid guid) config.arrays array there in (
        one_after config (Mark guid) all found.0 array,
        ap (lookup (same_guid guid)) (table_is config (Mark guid) refl) ∙ found.2,
        keeps_mark (members_after config (Mark guid)) all (if same_guid guid found.0 then marked array else array)
            ∙ ap (λ (b : Bool). is_marked (if b then marked array else array)) found.1 ∙ marked_is array,
      )

  pub is_cleared : (init : ℕ) → (next : Array) × (lookup (same_guid guid) (arrays_after config (Unmark guid init)) ≡ Some next) × (is_marked next ≡ false)
  is_cleared init =
      let all = extents (kept_and_added config (Unmark guid init)) in
      let found = looked_up (one_after config (Unmark guid init) all) (same_guid guid) config.arrays array there in (
        one_after config (Unmark guid init) all found.0 array,
        ap (lookup (same_guid guid)) (table_is config (Unmark guid init) refl) ∙ found.2,
        keeps_mark (members_after config (Unmark guid init)) all (if same_guid guid found.0 then unmarked init array else array)
            ∙ ap (λ (b : Bool). is_marked (if b then unmarked init array else array)) found.1 ∙ unmarked_is init array,
      )
