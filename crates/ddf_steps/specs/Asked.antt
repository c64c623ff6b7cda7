-- What is asked of a change before it is tried: its numbers fit, a new array is known whole, and a dedicated spare is one of some array.
use Rattle.std.specs.Prelude.{◌≡◌, ℕ, ◌<◌, ◌≤◌, ◌^◌, true, List, length, slice_get, Some}
use Rattle.std.specs.List.{AllByRecursion}
use Rattle.ddf_config.specs.declared.member.SpareUse.{SpareUse}
use Rattle.ddf_config.specs.declared.member.SpareUse.TheVariants as uses
use Rattle.ddf_config.specs.declared.element.Position.{Position}
use Rattle.ddf_config.specs.declared.array.Array.{Array}
use Rattle.ddf_config.specs.ElementValue.{ElementValue as ElementPlan}
use Rattle.ddf_config.specs.Within.{is_complete}
use Rattle.ddf_plan.specs.declared.change.Change.{Change}
use Rattle.ddf_plan.specs.declared.change.Change.TheVariants.{Create, Spare, Begin, Progress, Return}
use Rattle.ddf_plan.specs.Rebuild.{new_position}
use Rattle.ddf_rewrite.specs.Hold.{FitsArray, FitsPosition}

-- no row of a new element is rebuilt
pub record IsNewPosition (position : Position) : Type 0 where
  pub fits : FitsPosition position
  pub no_row : position.row ≡ 0

pub record IsNewPlan (plan : ElementPlan) : Type 0 where
  pub few : length plan.positions ≤ 64
  pub strip : plan.strip < 2 ^ 8
  pub level : plan.level < 2 ^ 8
  pub qualifier : plan.qualifier < 2 ^ 8
  pub blocks : plan.blocks < 2 ^ 64
  pub stand_in : plan.stand_in < 2 ^ 32
  pub positions : AllByRecursion IsNewPosition plan.positions

pub record IsNewArray (guid : List ℕ) (array : Array) : Type 0 where
  pub fits : FitsArray (guid, array)
  pub complete : is_complete array ≡ true
  pub plans : (index : ℕ) (plan : ElementPlan) → slice_get array.elements index ≡ Some (Some plan) → IsNewPlan plan

abbrev pub IsNewUse : SpareUse → Type 0
IsNewUse uses.No = Unit {0}
IsNewUse uses.Global = Unit {0}
IsNewUse uses.Revertible = Unit {0}
IsNewUse (uses.Dedicated arrays) = 0 < length arrays

abbrev pub CanBeAsked : Change → Type 0
CanBeAsked (Create guid array) = IsNewArray guid array
CanBeAsked (Spare reference use_as) = IsNewUse use_as
CanBeAsked (Begin array element position reference start) = FitsPosition (new_position reference start)
CanBeAsked (Progress array element position row) = row < 2 ^ 64
CanBeAsked (Return array element position reference start) = FitsPosition (new_position reference start)
CanBeAsked other = Unit {0}
