-- The part of a header that says how a disk is laid out. The rules of size are profile.
use Rattle.std.specs.Prelude.{◌≡◌, ℕ, ◌+◌, ◌*◌, ◌/◌, ◌<◌, ◌≤◌, Bool, false, IsTrue, slice_get, not, ◌&&◌, ◌||◌, ◌==◌, nat_lt, List, [], ◌∷◌, take, Option, Some, option_map, if◌then◌else◌, position, unwrap_or}
use Rattle.std.specs.List.{flat_map, list_any, enumerate_from}
use Rattle.std.specs.Int.{w16, w32, w64}
use Rattle.ddf_bytes.specs.Bytes.{number_at}
use Rattle.ddf_bytes.specs.Choices.{first_of, when}
use Rattle.ddf_seal.specs.Unread.{Field, u16_at, u32_at, u64_at, u32s_at}
use Rattle.ddf_header.specs.declared.geometry.Section.{Section}
use Rattle.ddf_header.specs.declared.geometry.Geometry.{Geometry}
use Rattle.ddf_header.specs.declared.layout.TheConstants.{WORKSPACE_LENGTH_AT, WORKSPACE_LBA_AT, MAX_DISKS_AT, MAX_ARRAYS_AT, MAX_PARTITIONS_AT, RECORD_LENGTH_AT, MAX_MEMBERS_AT, SECTIONS_AT}

-- ---- where it stands

abbrev pub section_at : List ℕ → ℕ → Section
section_at bytes at = record { offset = number_at w32 bytes at; length = number_at w32 bytes (at + 4) }

-- the eight pairs of offset and length
abbrev pub sections_at : List ℕ → List Section
sections_at bytes =
    section_at bytes SECTIONS_AT ∷ section_at bytes (SECTIONS_AT + 8) ∷ section_at bytes (SECTIONS_AT + 16) ∷ section_at bytes (SECTIONS_AT + 24)
    ∷ section_at bytes (SECTIONS_AT + 32) ∷ section_at bytes (SECTIONS_AT + 40) ∷ section_at bytes (SECTIONS_AT + 48) ∷ section_at bytes (SECTIONS_AT + 56) ∷ []

unfoldable pub geometry_at : List ℕ → Geometry
geometry_at bytes = record {
  workspace_length = number_at w32 bytes WORKSPACE_LENGTH_AT;
  workspace_lba = number_at w64 bytes WORKSPACE_LBA_AT;
  max_disks = number_at w16 bytes MAX_DISKS_AT;
  max_arrays = number_at w16 bytes MAX_ARRAYS_AT;
  max_partitions = number_at w16 bytes MAX_PARTITIONS_AT;
  record_length = number_at w16 bytes RECORD_LENGTH_AT;
  max_members = number_at w16 bytes MAX_MEMBERS_AT;
  sections = sections_at bytes;
}

-- offset and length of each section, in order
abbrev pub section_numbers : List Section → List ℕ
section_numbers sections = flat_map (λ section. section.offset ∷ section.length ∷ []) sections

abbrev pub geometry_fields : Geometry → List Field
geometry_fields geometry =
    u32_at WORKSPACE_LENGTH_AT geometry.workspace_length
    ∷ u64_at WORKSPACE_LBA_AT geometry.workspace_lba
    ∷ u16_at MAX_DISKS_AT geometry.max_disks
    ∷ u16_at MAX_ARRAYS_AT geometry.max_arrays
    ∷ u16_at MAX_PARTITIONS_AT geometry.max_partitions
    ∷ u16_at RECORD_LENGTH_AT geometry.record_length
    ∷ u16_at MAX_MEMBERS_AT geometry.max_members
    ∷ u32s_at SECTIONS_AT 16 (section_numbers geometry.sections)
    ∷ []

-- ---- the values that it may have

-- most entries of the disk and array records
unfoldable pub is_maximum : ℕ → Bool
is_maximum entries = list_any (λ n. entries == n) (15 ∷ 63 ∷ 255 ∷ 1023 ∷ 4095 ∷ [])

-- most members of a configuration record
unfoldable pub is_member_maximum : ℕ → Bool
is_member_maximum members = list_any (λ n. members == n) (16 ∷ 64 ∷ 256 ∷ 1024 ∷ 4096 ∷ [])

-- the sectors of a configuration record: one, and as many as the references and starting LBAs of so many members fill
abbrev pub record_sectors : ℕ → ℕ
record_sectors members = 1 + (12 * members + 511) / 512

-- ---- the sections: 0 controller data, 1 disk records, 2 array records, 3 configuration records, 4 disk data, 5 bad block log, 6 diagnostic space, 7 vendor logs

abbrev pub is_absent : Section → Bool
is_absent section = section.length == 0

-- the section at a place
abbrev pub section_of : Geometry → ℕ → Section
section_of geometry index = unwrap_or (slice_get geometry.sections index) (record { offset = 0; length = 0 })

-- the fewest bytes of a section: a row of head and a row for each entry, or one record
unfoldable pub least_bytes : Geometry → ℕ → ℕ
least_bytes geometry index =
    if index == 1 then 64 + 64 * geometry.max_disks
    else if index == 2 then 64 + 64 * geometry.max_arrays
    else if index == 3 then 512 * geometry.record_length
    else 0

unfoldable pub is_short : Geometry → ℕ → Section → Bool
is_short geometry index section = nat_lt (512 * section.length) (least_bytes geometry index)

-- the disk, array and configuration records and the bad block log have at most 8192 sectors
unfoldable pub is_long : ℕ → Section → Bool
is_long index section = list_any (λ n. index == n) (1 ∷ 2 ∷ 3 ∷ 5 ∷ []) && nat_lt 8192 section.length

-- two present sections share a sector
unfoldable pub meets : Section → Section → Bool
meets one other =
    not (is_absent one) && not (is_absent other)
    && nat_lt one.offset (other.offset + other.length) && nat_lt other.offset (one.offset + one.length)

-- A section is not as it may be: one of the first five is absent, or a present one lies on its header, is too short or
-- too long, or shares a sector with an earlier one.
unfoldable pub is_bad_section : Geometry → ℕ → Section → Bool
is_bad_section geometry index section =
    if is_absent section then nat_lt index 5
    else (section.offset == 0
    || is_short geometry index section
    || is_long index section
    || list_any (meets section) (take index geometry.sections))

-- ---- what is wrong with it

-- the place of the first section that is not as it may be
abbrev pub bad_section : Geometry → Option ℕ
bad_section geometry = position (λ pair. is_bad_section geometry pair.0 pair.1) (enumerate_from 0 geometry.sections)

-- what may be wrong with a geometry, by offset: the offset of the field
abbrev pub geometry_faults_of : Geometry → List (Option ℕ)
geometry_faults_of geometry =
    when (not (is_maximum geometry.max_disks)) MAX_DISKS_AT
    ∷ when (not (is_maximum geometry.max_arrays)) MAX_ARRAYS_AT
    ∷ when (not (geometry.record_length == record_sectors geometry.max_members)) RECORD_LENGTH_AT
    ∷ when (not (is_member_maximum geometry.max_members)) MAX_MEMBERS_AT
    ∷ option_map (λ index. SECTIONS_AT + 8 * index) (bad_section geometry)
    ∷ []

-- the first of them
unfoldable pub geometry_fault : Geometry → Option ℕ
geometry_fault geometry = first_of (geometry_faults_of geometry)

-- ---- what a geometry without a fault has

-- a section that is as it may be, at its place among the sections
pub record IsGoodSection (geometry : Geometry) (index : ℕ) (section : Section) : Type 0 where
  pub needed : index < 5 → 0 < section.length
  pub behind_header : 0 < section.length → 0 < section.offset
  pub long_enough : 0 < section.length → least_bytes geometry index ≤ 512 * section.length
  pub short_enough : 0 < section.length → is_long index section ≡ false
  pub lies_apart : 0 < section.length → list_any (meets section) (take index geometry.sections) ≡ false

pub record IsSound (geometry : Geometry) : Type 0 where
  pub disks_known : IsTrue (is_maximum geometry.max_disks)
  pub arrays_known : IsTrue (is_maximum geometry.max_arrays)
  pub records_fit : geometry.record_length ≡ record_sectors geometry.max_members
  pub members_known : IsTrue (is_member_maximum geometry.max_members)
  pub sections_good : (index : ℕ) (section : Section) → slice_get geometry.sections index ≡ Some section → IsGoodSection geometry index section
