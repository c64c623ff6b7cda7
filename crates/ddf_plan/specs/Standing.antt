-- Disks that stand in for others, and give their places back: revertible spares.
use Rattle.std.specs.Prelude.{ℕ, Bool, true, false, not, ◌&&◌, ◌==◌, List, Option, Some, None, count_by, nat_eq, nat_le, if◌then◌else◌}
use Rattle.std.specs.Map.{lookup}
use Rattle.std.specs.List.{list_any}
use Rattle.ddf_config.specs.declared.member.Member.{Member}
use Rattle.ddf_config.specs.declared.member.SpareUse.{SpareUse}
use Rattle.ddf_config.specs.declared.member.SpareUse.TheVariants.{No, Global, Revertible, Dedicated}
use Rattle.ddf_config.specs.declared.array.Array.{Array}
use Rattle.ddf_config.specs.declared.extent.Extent.{Extent}
use Rattle.ddf_config.specs.Configuration.{Configuration}
use Rattle.ddf_config.specs.ElementValue.{ElementValue}
use Rattle.ddf_config.specs.Extents.{extents}
use Rattle.ddf_config.specs.Members.{is_current, same_guid}
use Rattle.ddf_plan.specs.declared.change.Change.{Change}
use Rattle.ddf_plan.specs.declared.change.Change.TheVariants.{Begin, Return}
use Rattle.ddf_plan.specs.Rebuild.{reference_at}
use Rattle.ddf_plan.specs.Spare.{array_refers, position_refers}

-- ---- the disk that stands in

-- that one of the element's positions is on the disk that stands in; a reference of none counts as no stand-in
abbrev pub has_stand_in : ElementValue → Bool
has_stand_in element = not (element.stand_in == 0) && list_any (position_refers element.stand_in) element.positions

abbrev pub is_revertible : SpareUse → Bool
is_revertible No = false
is_revertible Global = false
is_revertible Revertible = true
is_revertible (Dedicated guids) = false

abbrev pub is_revertible_spare : List (ℕ × Member) → ℕ → Bool
is_revertible_spare members reference = elim (lookup (nat_eq reference) members) [ None ↦ false | Some member ↦ is_revertible member.spare ]

-- that a rebuild begins on a revertible spare
abbrev pub takes_revertible : Configuration → Change → Bool
takes_revertible config (Begin guid element position reference start) = is_revertible_spare config.members reference
takes_revertible config other = false

-- The disk that stands in after a change of one position. A revertible spare is the element's stand-in where it has none that it
-- could give a place back to: an element has one at most. One that has given its place back stands in no more.
abbrev pub stand_in_after : (revertible : Bool) → Change → ElementValue → ℕ
stand_in_after revertible (Begin guid named position reference start) element =
    if revertible && not (has_stand_in element) then reference else element.stand_in
stand_in_after revertible (Return guid named position reference start) element = 0
stand_in_after revertible other element = element.stand_in

-- ---- what it is for afterwards

-- a disk that is no spare is a revertible one again, where it gives a place back
abbrev pub given_back : Bool → SpareUse → SpareUse
given_back gives No = if gives then Revertible else No
given_back gives Global = Global
given_back gives Revertible = Revertible
given_back gives (Dedicated guids) = Dedicated guids

-- that a position is on the disk
abbrev pub is_held_by : Configuration → List ℕ → (element position reference : ℕ) → Bool
is_held_by config guid element position reference = elim (reference_at config guid element position) [ None ↦ false | Some held ↦ nat_eq held reference ]

-- that no more than one extent is on the disk
abbrev pub holds_one : Configuration → ℕ → Bool
holds_one config reference = nat_le (count_by (λ (one : Extent). nat_eq one.reference reference) (extents config.arrays)) 1

-- that a position on a current member's disk moves to another one
abbrev pub gives_up : Configuration → List ℕ → (element position disk reference : ℕ) → Bool
gives_up config guid element position disk reference =
    is_current config.members reference && is_held_by config guid element position reference && not (nat_eq disk reference)

-- that its former disk is a revertible spare again: it had this position alone
abbrev pub is_given_back : Configuration → List ℕ → (element position disk reference : ℕ) → Bool
is_given_back config guid element position disk reference = gives_up config guid element position disk reference && holds_one config reference

-- that the disk stands in at an element of the array
abbrev pub is_stand_in : ℕ → ElementValue → Bool
is_stand_in reference element = nat_eq element.stand_in reference && has_stand_in element

abbrev pub part_stands_in : ℕ → Option ElementValue → Bool
part_stands_in reference part = elim part [ None ↦ false | Some element ↦ is_stand_in reference element ]

abbrev pub stands_in : Configuration → List ℕ → ℕ → Bool
stands_in config guid reference =
    elim (lookup (same_guid guid) config.arrays) [ None ↦ false | Some array ↦ list_any (part_stands_in reference) array.elements ]

-- that an array other than this one has a position on the disk
abbrev pub is_used_beside : List ℕ → ℕ → (List ℕ × Array) → Bool
is_used_beside guid reference entry = not (same_guid guid entry.0) && array_refers reference entry.1

abbrev pub holds_beside : Configuration → List ℕ → ℕ → Bool
holds_beside config guid reference = list_any (is_used_beside guid reference) config.arrays

-- that a disk is a revertible spare again where an array is no more: it is a current member that stood in there, and holds nothing else
abbrev pub is_left_by : Configuration → List ℕ → ℕ → Bool
is_left_by config guid reference =
    is_current config.members reference && stands_in config guid reference && not (holds_beside config guid reference)
