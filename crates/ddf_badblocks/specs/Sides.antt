-- The sides of ranges: the bad sectors of each, and its spare ones, each with the sectors that stand for them. So a sector's range is found by halving, and
-- whether two ranges meet is asked of neighbours alone.
use Rattle.std.specs.Prelude.{◌≡◌, ℕ, ◌+◌, ◌-◌, Bool, true, ◌&&◌, nat_le, nat_lt, List, [], ◌∷◌, Option, None, Some}
use Rattle.std.specs.List.{list_all, sum_by}
use Rattle.ddf_badblocks.specs.declared.range.Range.{Range}
use Rattle.ddf_badblocks.specs.declared.side.Side.{Side}
use Rattle.ddf_badblocks.specs.Ranges.{at_offset, is_from, lies_on}

-- the bad sectors of a range, for which its spare ones stand
abbrev pub bad_side : Range → Side
bad_side range = record { first = range.start; count = range.count; other = range.spare }

-- and the other way round
abbrev pub spare_side : Range → Side
spare_side range = record { first = range.spare; count = range.count; other = range.start }

abbrev pub sides_of : List Range → List Side
sides_of [] = []
sides_of (range ∷ ranges) = bad_side range ∷ spare_side range ∷ sides_of ranges

-- a sector is one of a side
abbrev pub holds : ℕ → Side → Bool
holds l side = is_from side.first side.count l

-- the sector that stands for one, where a side has it
abbrev pub stands : (size : ℕ) → Option Side → ℕ → ℕ
stands size None l = l
stands size (Some side) l = at_offset size l side.other (l - side.first)

-- it has sectors
abbrev pub has_some : Side → Bool
has_some side = nat_lt 0 side.count

-- all of its sectors lie on a slot of so many
abbrev pub is_on : (size : ℕ) → Side → Bool
is_on size side = lies_on size side.first side.count

-- Each side begins where the one before it has ended, or later, and the first one at a sector or later.
abbrev pub in_row : (from : ℕ) → List Side → Bool
in_row from [] = true
in_row from (side ∷ sides) = nat_le from side.first && in_row (side.first + side.count) sides

-- These are the sides of ranges in rising order: none is empty, and none meets another one.
pub record AreSorted (ranges : List Range) (sides : List Side) : Type 0 where
  pub same : (f : Side → ℕ) → sum_by f sides ≡ sum_by f (sides_of ranges)
  pub some : list_all has_some sides ≡ true
  pub row : in_row 0 sides ≡ true
