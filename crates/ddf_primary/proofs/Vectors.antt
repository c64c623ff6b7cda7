-- RAID 1E as it is drawn: the copies of each block, what the members hold, and which of them an element can do without.
use Rattle.std.proofs.Common.{◌≡◌, ℕ, true, false, [], ◌∷◌, map, length, refl}
use Rattle.ddf_mirror1e.specs.declared.spread.Spread.TheVariants.{Adjacent, Offset}
use Rattle.ddf_primary.specs.declared.layout.Layout.TheVariants.{Mirror}
use Rattle.ddf_primary.specs.Placement.{Placement, placement}
use Rattle.ddf_primary.specs.Needs.{one_of_each}
use Rattle.ddf_primary.specs.Cells.{cells, depth_of, rows_of, unit_of}
use Rattle.ddf_primary.specs.Copies.{copies_of}

abbrev adjacent : (members blocks : ℕ) → Placement
adjacent members blocks = placement (Mirror Adjacent) members 1 blocks

abbrev offset : (members blocks : ℕ) → Placement
offset members blocks = placement (Mirror Offset) members 1 blocks

-- three members: 0 0 1, 1 2 2, 3 3 4, 4 5 5
pub adjacent_copies : map (copies_of (adjacent 3 4)) (0 ∷ 1 ∷ 2 ∷ 3 ∷ 4 ∷ 5 ∷ [])
    ≡ ((0, 0) ∷ (1, 0) ∷ []) ∷ ((0, 1) ∷ (2, 0) ∷ []) ∷ ((1, 1) ∷ (2, 1) ∷ []) ∷ ((0, 2) ∷ (1, 2) ∷ []) ∷ ((0, 3) ∷ (2, 2) ∷ []) ∷ ((1, 3) ∷ (2, 3) ∷ []) ∷ []
unfolding cells
adjacent_copies = refl

-- three members: 0 1 2, 2 0 1, 3 4 5, 5 3 4
pub offset_copies : map (copies_of (offset 3 4)) (0 ∷ 1 ∷ 2 ∷ 3 ∷ 4 ∷ 5 ∷ [])
    ≡ ((0, 0) ∷ (1, 1) ∷ []) ∷ ((1, 0) ∷ (2, 1) ∷ []) ∷ ((0, 1) ∷ (2, 0) ∷ []) ∷ ((0, 2) ∷ (1, 3) ∷ []) ∷ ((1, 2) ∷ (2, 3) ∷ []) ∷ ((0, 3) ∷ (2, 2) ∷ []) ∷ []
unfolding cells
offset_copies = refl

-- four members of nine strips, three of three
pub capacities : length (cells (adjacent 4 9)) ∷ length (cells (adjacent 3 3)) ∷ length (cells (offset 3 3)) ∷ [] ≡ 18 ∷ 4 ∷ 3 ∷ []
unfolding cells
capacities = refl

-- a last single row: adjacent copies use it, offset copies don't, and it is no data row
pub depths : depth_of (adjacent 3 3) ∷ depth_of (offset 3 3) ∷ rows_of (adjacent 3 3) ∷ rows_of (offset 3 3) ∷ unit_of (adjacent 3 3) ∷ [] ≡ 3 ∷ 2 ∷ 1 ∷ 1 ∷ 3 ∷ []
depths = refl

-- of four members 0 and 2 can be away, and not 0 and 1; 1 and 2 only of adjacent ones, where they are of two pairs
pub four_members : map (one_of_each Adjacent) ((false ∷ true ∷ false ∷ true ∷ []) ∷ (false ∷ false ∷ true ∷ true ∷ []) ∷ (true ∷ false ∷ false ∷ true ∷ []) ∷ []) ≡ true ∷ false ∷ true ∷ []
four_members = refl

pub four_offset : map (one_of_each Offset) ((false ∷ true ∷ false ∷ true ∷ []) ∷ (false ∷ false ∷ true ∷ true ∷ []) ∷ (true ∷ false ∷ false ∷ true ∷ []) ∷ []) ≡ true ∷ false ∷ false ∷ []
four_offset = refl

-- of five no two neighbours can be away, the last and the first neither
pub five_members : map (one_of_each Adjacent) ((false ∷ true ∷ false ∷ true ∷ true ∷ []) ∷ (true ∷ false ∷ false ∷ true ∷ true ∷ []) ∷ (false ∷ true ∷ true ∷ true ∷ false ∷ []) ∷ []) ≡ true ∷ false ∷ false ∷ []
five_members = refl
