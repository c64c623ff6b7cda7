-- Which arrays are served, as far as the configuration alone tells.
use Rattle.std.specs.Prelude.{ℕ, ◌+◌, Bool, true, ◌&&◌, ◌==◌, List, Some, None, nat_le, nat_eq, count_by}
use Rattle.std.specs.Map.{lookup}
use Rattle.std.specs.List.{list_all}
use Rattle.ddf_config.specs.declared.member.Member.{Member}
use Rattle.ddf_config.specs.declared.array.Array.{Array}
use Rattle.ddf_config.specs.declared.extent.Extent.{Extent}
use Rattle.ddf_config.specs.Shapes.{has_shapes, has_tiers}
use Rattle.ddf_config.specs.Extents.{array_extents}
use Rattle.ddf_config.specs.Room.{meets}

abbrev pub meets_extent : Extent → Extent → Bool
meets_extent one other = one.reference == other.reference && meets one.start one.blocks (other.start, other.blocks)

-- an extent ends within its disk's size, and no other extent has a sector of it: of all extents it meets only
-- itself. A reference of no member has no disk.
abbrev pub lies_well : List (ℕ × Member) → List Extent → Extent → Bool
lies_well members all one =
    elim (lookup (nat_eq one.reference) members) [
      | None ↦ true
      | Some member ↦ nat_le (one.start + one.blocks) member.size && nat_le (count_by (meets_extent one) all) 1
    ]

-- that an array is served, among all extents of the configuration: its elements have shapes and make an
-- array together, and its extents lie well
abbrev pub is_served : List (ℕ × Member) → List Extent → Array → Bool
is_served members all array =
    has_shapes array && has_tiers array && list_all (lies_well members all) (array_extents array)
