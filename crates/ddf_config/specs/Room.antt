-- Where an extent may lie on a disk: in sectors from first on, so many.
use Rattle.std.specs.Prelude.{ℕ, ◌+◌, ◌*◌, Bool, not, ◌&&◌, List, Option, map, option_and_then, min, max, nat_lt, nat_le, nat_eq, find}
use Rattle.std.specs.List.{range_with_len, list_any}
use Rattle.std.specs.Map.{lookup}
use Rattle.ddf_config.specs.declared.member.Member.{Member}
use Rattle.ddf_config.specs.declared.extent.Extent.{Extent}
use Rattle.ddf_config.specs.Extents.{extents_on, ranges}

-- that two ranges of sectors (first, count) have a sector in common
abbrev pub meets : ℕ → ℕ → ℕ × ℕ → Bool
meets first count other = nat_lt (max first other.0) (min (first + count) (other.0 + other.1))

-- that an extent ends within the size and meets no taken one
abbrev pub is_free : List (ℕ × ℕ) → ℕ → ℕ → ℕ → Bool
is_free taken size blocks start = nat_le (start + blocks) size && not (list_any (meets start blocks) taken)

-- the multiples of a strip up to a size, and more
abbrev pub multiples : ℕ → ℕ → List ℕ
multiples strip size = map (λ k. k * strip) (range_with_len 0 (size + 1))

-- the least multiple of the strip at which an extent is free
unfoldable pub least_start_of : List (ℕ × ℕ) → ℕ → ℕ → ℕ → Option ℕ
least_start_of taken size strip blocks = find (is_free taken size blocks) (multiples strip size)

-- that on a member's disk, over the extents that are there, within its configured size
abbrev pub start_on : List (ℕ × Member) → List Extent → ℕ → ℕ → ℕ → Option ℕ
start_on members all strip blocks reference =
    option_and_then
    (λ (member : Member). least_start_of (ranges (extents_on reference all)) member.size strip blocks)
    (lookup (nat_eq reference) members)
