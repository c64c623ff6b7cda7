-- Look-ups of members, and what a spare is.
use Rattle.std.specs.Prelude.{ℕ, Bool, true, false, not, List, Some, None, nat_eq}
use Rattle.std.specs.Map.{lookup}
use Rattle.std.specs.Cmp.Lexicographic.{pointwise}
use Rattle.ddf_config.specs.declared.member.Member.{Member}
use Rattle.ddf_config.specs.declared.member.SpareUse.{SpareUse}
use Rattle.ddf_config.specs.declared.member.SpareUse.TheVariants.{No, Global, Revertible, Dedicated}

-- that two GUIDs have the same bytes
abbrev pub same_guid : List ℕ → List ℕ → Bool
same_guid = pointwise nat_eq

-- that the table has a member with this reference which isn't missing
abbrev pub is_current : List (ℕ × Member) → ℕ → Bool
is_current members reference =
    elim (lookup (nat_eq reference) members) [ None ↦ false | Some member ↦ not member.missing ]

-- that a disk may stand in for another
abbrev pub is_spare : SpareUse → Bool
is_spare No = false
is_spare Global = true
is_spare Revertible = true
is_spare (Dedicated guids) = true
