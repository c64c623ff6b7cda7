-- How many records the copies of a new disk have room for, and where they lie (profile). A small disk's have room for 15 disks and 15 arrays, a large one's for 63 of each.
use Rattle.std.specs.Prelude.{ℕ, ◌+◌, ◌*◌}
use Rattle.ddf_update.specs.declared.new_layout.NewLayout.{NewLayout}
use Rattle.ddf_update.specs.declared.new_layout.NewLayout.TheVariants.{Large, Small}
use Rattle.ddf_update.specs.declared.new_layout.Numbers.{Numbers}

-- ---- how many

abbrev pub numbers_of : NewLayout → Numbers
numbers_of Small = record { rows = 15; table_sectors = 2; slots = 16; record_length = 2; members = 16 }
numbers_of Large = record { rows = 63; table_sectors = 8; slots = 60; record_length = 3; members = 64 }

-- the rows of the table of disks, and of the table of arrays
abbrev pub rows_of : NewLayout → ℕ
rows_of layout = (numbers_of layout).rows

abbrev pub table_sectors_of : NewLayout → ℕ
table_sectors_of layout = (numbers_of layout).table_sectors

abbrev pub slots_of : NewLayout → ℕ
slots_of layout = (numbers_of layout).slots

-- the sectors of a slot
abbrev pub record_length_of : NewLayout → ℕ
record_length_of layout = (numbers_of layout).record_length

-- the members that a record of an element may list
abbrev pub members_of : NewLayout → ℕ
members_of layout = (numbers_of layout).members

-- ---- where they lie

-- the sectors of all slots
abbrev pub records_sectors : NewLayout → ℕ
records_sectors layout = slots_of layout * record_length_of layout

-- A copy has a header, and behind it the controller data, two tables, the records, the disk data and the log.
abbrev pub copy_length : NewLayout → ℕ
copy_length layout = 4 + 2 * table_sectors_of layout + records_sectors layout

-- Before the last sector lies the primary copy, before that the secondary one, and before that the workspace: so many sectors
-- lie from each on.
abbrev pub primary_back : NewLayout → ℕ
primary_back layout = copy_length layout + 1

abbrev pub secondary_back : NewLayout → ℕ
secondary_back layout = 2 * copy_length layout + 1

abbrev pub workspace_back : NewLayout → ℕ
workspace_back layout = secondary_back layout + 32768

-- the fewest sectors of a new disk
abbrev pub least_sectors : NewLayout → ℕ
least_sectors layout = workspace_back layout + 151
