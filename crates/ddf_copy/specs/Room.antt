-- The room of the two copies of a disk (profile): both lie before the anchor, and apart.
use Rattle.std.specs.Prelude.{◌≡◌, ℕ, ◌+◌, ◌*◌, ◌<◌, ◌≤◌, slice_get, Bool, not, ◌&&◌, ◌||◌, nat_le, nat_lt, List, Option, Some, option_map, if◌then◌else◌, position}
use Rattle.std.specs.List.{list_any}
use Rattle.ddf_header.specs.declared.geometry.Section.{Section}
use Rattle.ddf_header.specs.declared.layout.TheConstants.{SECTIONS_AT}
use Rattle.ddf_header.specs.Geometry.{is_absent}

-- two runs of sectors, each by its first sector and its length, share a sector
abbrev pub share : (one many other more : ℕ) → Bool
share one many other more = nat_lt one (other + more) && nat_lt other (one + many)

-- a section of the copy at an LBA has a sector of this run
abbrev pub has_sector_of : (lba at many : ℕ) → Section → Bool
has_sector_of lba at many section = not (is_absent section) && share at many (lba + section.offset) section.length

-- a run has a sector of the header at an LBA or of its copy's sections
abbrev pub meets_copy : (lba : ℕ) → List Section → (at many : ℕ) → Bool
meets_copy lba sections at many = share at many lba 1 || list_any (has_sector_of lba at many) sections

-- A header doesn't lie before the last sector, or shares a sector with the other copy.
unfoldable pub has_no_room : (last own other : ℕ) → List Section → Bool
has_no_room last own other sections = nat_le last own || nat_le last other || meets_copy other sections own 1

-- A present section, or the same of the other copy, doesn't end before the last sector, or it shares a sector with the
-- other copy.
unfoldable pub is_out_of_room : (last own other : ℕ) → List Section → Section → Bool
is_out_of_room last own other sections section =
    not (is_absent section)
    && (nat_lt last (own + section.offset + section.length)
    || nat_lt last (other + section.offset + section.length)
    || meets_copy other sections (own + section.offset) section.length)

-- The first part of the copy at `own` that has no room beside that at `other`, before the last sector: 0 is the header, and
-- otherwise it is the offset of a section in the header.
unfoldable pub room_fault : (last own other : ℕ) → List Section → Option ℕ
room_fault last own other sections =
    if has_no_room last own other sections then Some 0
    else option_map (λ index. SECTIONS_AT + 8 * index) (position (is_out_of_room last own other sections) sections)

-- Each present section of the copy at an LBA ends before the last sector.
abbrev pub DoFit : (last lba : ℕ) → List Section → Type 0
DoFit last lba sections = (index : ℕ) (section : Section) → slice_get sections index ≡ Some section → 0 < section.length → lba + section.offset + section.length ≤ last
