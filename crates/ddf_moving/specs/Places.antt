-- Where the copies of a disk that is moved lie (profile): how long they are, and what their headers say of it.
use Rattle.std.specs.Prelude.{ℕ, ◌+◌, max, take, fold, [], ◌∷◌, if◌then◌else◌}
use Rattle.ddf_header.specs.declared.geometry.Section.{Section}
use Rattle.ddf_header.specs.declared.geometry.Geometry.{Geometry}
use Rattle.ddf_header.specs.declared.reading.Header.{Header}
use Rattle.ddf_header.specs.Geometry.{is_absent, section_of}
use Rattle.ddf_import.specs.declared.places.Moved.{Moved}

-- ---- how long a copy is

-- the sectors from a header to the end of a section, none where it is absent
abbrev pub end_of : Section → ℕ
end_of section = if is_absent section then 0 else section.offset + section.length

-- The sectors of a copy: from its header to the end of the last of the first six sections that are there.
unfoldable pub copy_length : Geometry → ℕ
copy_length geometry = fold (λ most section. max most (end_of section)) 1 (take 6 geometry.sections)

-- ---- what the headers say

-- a section that isn't there
abbrev pub absent : Section
absent = record { offset = 0xFFFF_FFFF; length = 0 }

-- The geometry of a moved disk: the first six sections and all numbers are those of a disk of the group, and it has no other sections. Its
-- workspace begins where it began, and what the copies leave of it is its length.
abbrev pub moved_geometry : (old like : Geometry) → (length : ℕ) → Geometry
moved_geometry old like length = record like {
  workspace_lba = old.workspace_lba;
  workspace_length = length;
  sections =
      section_of like 0
      ∷ section_of like 1
      ∷ section_of like 2
      ∷ section_of like 3
      ∷ section_of like 4
      ∷ section_of like 5
      ∷ absent
      ∷ absent
      ∷ [];
}

-- Its header: all else is as it was.
abbrev pub moved_header : (old : Header) → (like : Geometry) → Moved → Header
moved_header old like places = record old {
  primary_lba = places.primary;
  secondary_lba = places.secondary;
  geometry = moved_geometry old.geometry like places.length;
}
