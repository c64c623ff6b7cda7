-- What stands in the way of a move (profile): the copies of a disk that is moved go to the end of its workspace.
use Rattle.std.specs.Prelude.{ℕ, ◌+◌, ◌-◌, ◌*◌, Bool, true, false, not, ◌&&◌, ◌||◌, ◌==◌, nat_le, nat_lt, List, [], ◌∷◌, length, Option}
use Rattle.std.specs.List.{list_any}
use Rattle.ddf_bytes.specs.Choices.{first_of, when}
use Rattle.ddf_config.specs.declared.extent.Extent.{Extent}
use Rattle.ddf_header.specs.declared.geometry.Geometry.{Geometry}
use Rattle.ddf_header.specs.Geometry.{section_of}
use Rattle.ddf_config_records.specs.declared.slot.RecordSlot.{RecordSlot}
use Rattle.ddf_config_records.specs.declared.slot.RecordSlot.TheVariants as slots
use Rattle.ddf_copy.specs.declared.copy.DiskCopy.{DiskCopy}
use Rattle.ddf_copy.specs.Room.{has_sector_of, meets_copy, share}
use Rattle.ddf_moving.specs.declared.stretch.Stretch.{Stretch}
use Rattle.ddf_moving.specs.declared.obstacle.Obstacle.{Obstacle}
use Rattle.ddf_moving.specs.declared.obstacle.Obstacle.TheVariants as obstacles
use Rattle.ddf_moving.specs.Numbers.{same_records}

-- ---- the workspace

-- it doesn't end before the last sector of a disk of so many
abbrev pub reaches_anchor : Geometry → (size : ℕ) → Bool
reaches_anchor geometry size = nat_le size (geometry.workspace_lba + geometry.workspace_length)

-- it has no room for two copies of so many sectors, and for the 18 sectors at its front
abbrev pub is_short : Geometry → (room : ℕ) → Bool
is_short geometry room = nat_lt geometry.workspace_length (2 * room + 18)

-- the sectors at its end that two copies take
abbrev pub end_of_workspace : Geometry → (room : ℕ) → Stretch
end_of_workspace geometry room = record { from = geometry.workspace_lba + geometry.workspace_length - 2 * room; many = 2 * room }

-- the sectors at its front
abbrev pub front_of : Geometry → Stretch
front_of geometry = record { from = geometry.workspace_lba; many = 18 }

-- ---- what lies there

-- these sectors have one of a header or of a section of either copy
abbrev pub end_meets_copies : DiskCopy → Stretch → Bool
end_meets_copies disk end =
    meets_copy disk.header.primary_lba disk.header.geometry.sections end.from end.many
    || meets_copy disk.header.secondary_lba disk.header.geometry.sections end.from end.many

-- these sectors have one of the diagnostic space or of a vendor's log of either copy
abbrev pub front_meets_others : DiskCopy → Stretch → Bool
front_meets_others disk front =
    has_sector_of disk.header.primary_lba front.from front.many (section_of disk.header.geometry 6)
    || has_sector_of disk.header.primary_lba front.from front.many (section_of disk.header.geometry 7)
    || has_sector_of disk.header.secondary_lba front.from front.many (section_of disk.header.geometry 6)
    || has_sector_of disk.header.secondary_lba front.from front.many (section_of disk.header.geometry 7)

-- these sectors have one of an extent
abbrev pub meets_extent : Stretch → Extent → Bool
meets_extent sectors extent = not (extent.blocks == 0) && share sectors.from sectors.many extent.start extent.blocks

-- ---- what it holds

-- a record of another vendor, or one that isn't read
abbrev pub is_foreign : RecordSlot → Bool
is_foreign (slots.Element element) = false
is_foreign (slots.Copied element) = false
is_foreign (slots.Spare spare) = false
is_foreign (slots.Notes notes) = false
is_foreign (slots.Vendor guid rest) = true
is_foreign (slots.Unread fault kept) = true
is_foreign (slots.Unused kept) = false

abbrev pub has_foreign : List RecordSlot → Bool
has_foreign all = list_any is_foreign all

-- an element of more members than a record has room for
abbrev pub is_wide : (most : ℕ) → RecordSlot → Bool
is_wide most (slots.Element element) = nat_lt most (length element.members)
is_wide most (slots.Copied element) = nat_lt most (length element.members)
is_wide most (slots.Spare spare) = false
is_wide most (slots.Notes notes) = false
is_wide most (slots.Vendor guid rest) = false
is_wide most (slots.Unread fault kept) = false
is_wide most (slots.Unused kept) = false

abbrev pub has_many_members : (most : ℕ) → List RecordSlot → Bool
has_many_members most all = list_any (is_wide most) all

-- ---- all of it

abbrev pub obstacles_of : (disk like : DiskCopy) → (size room : ℕ) → List Extent → List (Option Obstacle)
obstacles_of disk like size room extents =
    when (reaches_anchor disk.header.geometry size || is_short disk.header.geometry room) obstacles.Workspace
    ∷ when (end_meets_copies disk (end_of_workspace disk.header.geometry room)) obstacles.Records
    ∷ when (front_meets_others disk (front_of disk.header.geometry)) obstacles.Front
    ∷ when (list_any (meets_extent (end_of_workspace disk.header.geometry room)) extents || list_any (meets_extent (front_of disk.header.geometry)) extents) obstacles.Extents
    ∷ when (not (same_records disk.header.geometry like.header.geometry) && has_foreign disk.slots) obstacles.Unknown
    ∷ when (has_many_members like.header.geometry.max_members disk.slots) obstacles.Members
    ∷ []

-- The first obstacle to the move of a disk of so many sectors, which gets the numbers of another one and copies of at most so many sectors. The
-- extents are those that lie on it.
unfoldable pub obstacle : (disk like : DiskCopy) → (size room : ℕ) → List Extent → Option Obstacle
obstacle disk like size room extents = first_of (obstacles_of disk like size room extents)
