-- Where the copies of a block lie: at which sector each member holds it.
use Rattle.std.specs.Prelude.{◌≡◌, ℕ, Bool, true, false, ◌==◌, nat_lt, List, get_or, filter_map, Option, Some, None, option_map, slice_get, if◌then◌else◌}
use Rattle.std.specs.List.{range_with_len}
use Rattle.ddf_primary.specs.declared.layout.Layout.{Layout}
use Rattle.ddf_primary.specs.Placement.{Placement}
use Rattle.ddf_primary.specs.Needs.{is_on_every}
use Rattle.ddf_primary.specs.Cells.{cells, twin_of, Holds}

-- the sector of a cell, where it is on a member
abbrev pub sector_if : (member : ℕ) → Option (ℕ × ℕ) → Option ℕ
sector_if member None = None
sector_if member (Some cell) = if cell.0 == member then Some cell.1 else None

-- the sector at which a member holds the block whose cell in the list is this one: for RAID 1 every member at the same,
-- and for RAID 1E the member of its twin at that one's
abbrev pub sector_by : Layout → (members member : ℕ) → (twin found : Option (ℕ × ℕ)) → Option ℕ
sector_by layout members member twin None = None
sector_by layout members member twin (Some cell) =
    if (if is_on_every layout then nat_lt member members else cell.0 == member) then Some cell.1 else sector_if member twin

-- the sector at which a member holds a block, if it does
abbrev pub sector_on : Placement → (member block : ℕ) → Option ℕ
sector_on shape member block = sector_by shape.layout shape.members member (twin_of shape block) (slice_get (cells shape) block)

-- a member's cell of the block
abbrev pub copy_on : Placement → (block member : ℕ) → Option (ℕ × ℕ)
copy_on shape block member = option_map (λ sector. (member, sector)) (sector_on shape member block)

-- the cells (member, sector) of a block, in the order of the members
abbrev pub copies_of : Placement → ℕ → List (ℕ × ℕ)
copies_of shape block = filter_map (copy_on shape block) (range_with_len 0 shape.members)

-- that a member that is there holds a block
pub record IsHeldBy (shape : Placement) (there : List Bool) (block : ℕ) : Type 0 where
  pub member : ℕ
  pub sector : ℕ
  pub holds : Holds shape member sector block
  pub is_there : get_or there member false ≡ true
