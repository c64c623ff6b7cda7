-- The lists of cells: which member and sector holds each block, by the standard's tables of RAID
-- levels.
use Rattle.std.specs.Prelude.{◌≡◌, ℕ, ◌+◌, ◌-◌, ◌*◌, ◌/◌, ◌%◌, ◌<◌, List, [], ◌++◌, map, Option, Some, None, option_map, slice_get}
use Rattle.std.specs.List.{range_with_len, flat_map}
use Rattle.ddf_mirror1e.specs.declared.spread.Spread.{Spread}
use Rattle.ddf_mirror1e.specs.declared.spread.Spread.TheVariants.{Adjacent, Offset}
use Rattle.ddf_mirror1e.specs.Mirror.{Mirror as Twofold, mirror}
use Rattle.ddf_mirror1e.specs.Copies.{first, second, capacity, Holds as HoldsCopy}
use Rattle.ddf_primary.specs.declared.layout.Layout.{Layout}
use Rattle.ddf_primary.specs.declared.layout.Layout.TheVariants.{Raid0, Raid1, Parity, Jbod, Concatenation, Mirror}
use Rattle.ddf_primary.specs.declared.parity.ParityLayout.{ParityLayout}
use Rattle.ddf_primary.specs.declared.parity.ParityLayout.TheVariants.{Raid4First, Raid4Last, Raid5ZeroRestart, Raid5LastRestart, Raid5LastContinuation}
use Rattle.ddf_primary.specs.Needs.{parity_of}
use Rattle.ddf_primary.specs.Placement.{Placement}

-- the member with the parity of a row
abbrev pub parity_on : ParityLayout → ℕ → ℕ → ℕ
parity_on Raid4First members row = 0
parity_on Raid4Last members row = members - 1
parity_on Raid5ZeroRestart members row = row % members
parity_on Raid5LastRestart members row = members - 1 - row % members
parity_on Raid5LastContinuation members row = members - 1 - row % members

-- the members before and after the one with the parity
abbrev pub before_parity : ℕ → List ℕ
before_parity parity = range_with_len 0 parity

abbrev pub after_parity : ℕ → ℕ → List ℕ
after_parity members parity = range_with_len (parity + 1) (members - 1 - parity)

-- the members around a row's parity, in the order of their strips: from member 0 on where data
-- restarts in each row, and from the member behind the parity on where it continues
abbrev pub data_around : ParityLayout → ℕ → ℕ → List ℕ
data_around Raid4First members parity = before_parity parity ++ after_parity members parity
data_around Raid4Last members parity = before_parity parity ++ after_parity members parity
data_around Raid5ZeroRestart members parity = before_parity parity ++ after_parity members parity
data_around Raid5LastRestart members parity = before_parity parity ++ after_parity members parity
data_around Raid5LastContinuation members parity = after_parity members parity ++ before_parity parity

-- the member that holds the parity of a row, for the levels that have one
abbrev pub parity_by : Layout → ℕ → ℕ → Option ℕ
parity_by layout members row = option_map (λ parity. parity_on parity members row) (parity_of layout)

abbrev pub parity_member : Placement → ℕ → Option ℕ
parity_member shape row = parity_by shape.layout shape.members row

-- sectors of one member, in order: so many from the first on
abbrev pub sectors : ℕ → ℕ → ℕ → List (ℕ × ℕ)
sectors first count member = map (λ sector. (member, sector)) (range_with_len first count)

-- the sectors of one strip, and those of a whole member
abbrev pub strip_cells : ℕ → ℕ → ℕ → List (ℕ × ℕ)
strip_cells strip row member = sectors (row * strip) strip member

abbrev pub member_cells : ℕ → ℕ → List (ℕ × ℕ)
member_cells blocks member = sectors 0 blocks member

-- the members with the data of a row, in the order of their strips: all, or those around the parity
abbrev pub every_member : ℕ → ℕ → List ℕ
every_member members row = range_with_len 0 members

abbrev pub members_around : ParityLayout → ℕ → ℕ → List ℕ
members_around parity members row = data_around parity members (parity_on parity members row)

-- those of a row that has parity
abbrev pub data_by : Layout → ℕ → ℕ → List ℕ
data_by layout members row = elim (parity_of layout) [ None ↦ [] | Some parity ↦ members_around parity members row ]

-- row after row, in a row strip after strip, in a strip sector after sector
abbrev pub row_cells : (ℕ → List ℕ) → ℕ → ℕ → List (ℕ × ℕ)
row_cells data_members strip row = flat_map (strip_cells strip row) (data_members row)

unfoldable pub striped_cells : (ℕ → List ℕ) → ℕ → ℕ → List (ℕ × ℕ)
striped_cells data_members strip rows = flat_map (row_cells data_members strip) (range_with_len 0 rows)

-- the first copies of all blocks of RAID 1E, in order
abbrev pub first_cells : Twofold → List (ℕ × ℕ)
first_cells twofold = map (first twofold) (range_with_len 0 (capacity twofold))

abbrev pub cells_by : Layout → ℕ → ℕ → ℕ → List (ℕ × ℕ)
cells_by Raid0 members strip blocks = striped_cells (every_member members) strip (blocks / strip)
cells_by Raid1 members strip blocks = member_cells blocks 0
cells_by (Parity parity) members strip blocks = striped_cells (members_around parity members) strip (blocks / strip)
cells_by Jbod members strip blocks = member_cells blocks 0
cells_by Concatenation members strip blocks = flat_map (member_cells blocks) (range_with_len 0 members)
cells_by (Mirror spread) members strip blocks = first_cells (mirror spread members strip blocks)

-- every (member, sector) that holds a block, in the order of the blocks; for RAID 1 those of
-- member 0, and for RAID 1E the first copies
unfoldable pub cells : Placement → List (ℕ × ℕ)
cells shape = cells_by shape.layout shape.members shape.strip shape.blocks

-- that a member holds a block at a sector: the block's item of the list is that cell, for RAID 1
-- every member holds what member 0 does, and for RAID 1E one of the block's two copies is there
abbrev pub HoldsBy : Layout → (members strip blocks : ℕ) → List (ℕ × ℕ) → (member sector block : ℕ) → Type 0
HoldsBy Raid0 members strip blocks items member sector block = slice_get items block ≡ Some (member, sector)
HoldsBy Raid1 members strip blocks items member sector block = (member < members) × (slice_get items block ≡ Some (0, sector))
HoldsBy (Parity _) members strip blocks items member sector block = slice_get items block ≡ Some (member, sector)
HoldsBy Jbod members strip blocks items member sector block = slice_get items block ≡ Some (member, sector)
HoldsBy Concatenation members strip blocks items member sector block = slice_get items block ≡ Some (member, sector)
HoldsBy (Mirror spread) members strip blocks items member sector block = HoldsCopy (mirror spread members strip blocks) member sector block

abbrev pub Holds : Placement → ℕ → ℕ → ℕ → Type 0
Holds shape member sector block = HoldsBy shape.layout shape.members shape.strip shape.blocks (cells shape) member sector block

-- the second copy of a block, for the level that holds it on two members
abbrev pub twin_by : Layout → (members strip blocks block : ℕ) → Option (ℕ × ℕ)
twin_by Raid0 members strip blocks block = None
twin_by Raid1 members strip blocks block = None
twin_by (Parity _) members strip blocks block = None
twin_by Jbod members strip blocks block = None
twin_by Concatenation members strip blocks block = None
twin_by (Mirror spread) members strip blocks block = Some (second (mirror spread members strip blocks) block)

abbrev pub twin_of : Placement → ℕ → Option (ℕ × ℕ)
twin_of shape block = twin_by shape.layout shape.members shape.strip shape.blocks block

-- the data strips of a row
abbrev pub columns_by : Layout → ℕ → ℕ
columns_by Raid0 members = members
columns_by Raid1 members = 1
columns_by (Parity _) members = members - 1
columns_by Jbod members = 1
columns_by Concatenation members = 1
columns_by (Mirror spread) members = members

-- the rows of strips that RAID 1E uses: offset copies lie in whole pairs of them
abbrev pub rows_used : Spread → ℕ → ℕ
rows_used Adjacent rows = rows
rows_used Offset rows = rows / 2 * 2

-- how many sectors of each member hold blocks or parity: those in whole rows, if the level has rows
abbrev pub depth_by : Layout → ℕ → ℕ → ℕ
depth_by Raid0 strip blocks = blocks / strip * strip
depth_by Raid1 strip blocks = blocks
depth_by (Parity _) strip blocks = blocks / strip * strip
depth_by Jbod strip blocks = blocks
depth_by Concatenation strip blocks = blocks
depth_by (Mirror spread) strip blocks = rows_used spread (blocks / strip) * strip

abbrev pub depth_of : Placement → ℕ
depth_of shape = depth_by shape.layout shape.strip shape.blocks

-- the blocks of one data row
abbrev pub unit_of : Placement → ℕ
unit_of shape = columns_by shape.layout shape.members * shape.strip

-- how many sectors of each member a data row takes: RAID 1E, which holds each block twice, takes two strips
abbrev pub height_by : Layout → ℕ → ℕ
height_by Raid0 strip = strip
height_by Raid1 strip = strip
height_by (Parity _) strip = strip
height_by Jbod strip = strip
height_by Concatenation strip = strip
height_by (Mirror spread) strip = 2 * strip

abbrev pub height_of : Placement → ℕ
height_of shape = height_by shape.layout shape.strip

-- the whole data rows: of each member, or of the members one after another
abbrev pub rows_by : Layout → ℕ → ℕ → ℕ → ℕ
rows_by Raid0 members strip blocks = blocks / strip
rows_by Raid1 members strip blocks = blocks / strip
rows_by (Parity _) members strip blocks = blocks / strip
rows_by Jbod members strip blocks = blocks / strip
rows_by Concatenation members strip blocks = members * blocks / strip
rows_by (Mirror spread) members strip blocks = blocks / strip / 2

abbrev pub rows_of : Placement → ℕ
rows_of shape = rows_by shape.layout shape.members shape.strip shape.blocks
