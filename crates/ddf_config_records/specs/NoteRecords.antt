-- The notes record against its bytes (profile).
use Rattle.std.specs.Prelude.{◌≡◌, ℕ, ◌+◌, ◌-◌, ◌*◌, ◌/◌, ◌≤◌, Bool, ◌&&◌, ◌==◌, if◌then◌else◌, nat_le, List, [], ◌∷◌, ◌++◌, length, drop, map, replicate, codes, slice_index}
use Rattle.std.specs.List.{AllByRecursion, list_all, range_with_len}
use Rattle.std.specs.Int.{w16, w32, w64}
use Rattle.std.specs.Str.{bytes_eq}
use Rattle.ddf_bytes.specs.Bytes.{bytes_at, number_at}
use Rattle.ddf_seal.specs.Records.{IsRecordOf}
use Rattle.ddf_seal.specs.Unread.{Field, Fits, u8_at, u16_at, u32_at, u64_at, plain_at}
use Rattle.ddf_header.specs.declared.geometry.Geometry.{Geometry}
use Rattle.ddf_config_records.specs.declared.notes.SlotNote.{SlotNote}
use Rattle.ddf_config_records.specs.declared.notes.Notes.{Notes}
use Rattle.ddf_config_records.specs.declared.layout.TheConstants.{NOTES_GROUP_AT, NOTES_NAME_AT, NOTES_SEQUENCE_AT, NOTES_SLOTS_AT, NOTES_MEMBERS_AT, NOTES_ZEROS_AT, NOTES_AT, NOTE_POSITION_AT, NOTE_ZERO_AT, NOTE_STAND_IN_AT, NOTE_ROW_AT, NOTE_BITS_AT}
use Rattle.ddf_config_records.specs.Bits.{positions, bits_of, IsRising}
use Rattle.ddf_config_records.specs.Elements.{record_size}
use Rattle.ddf_config_records.specs.Vendors.{vendor_signature}

-- the bytes of a note: 16, and a bit for each member that the geometry allows
abbrev pub note_size : ℕ → ℕ
note_size most = NOTE_BITS_AT + most / 8

-- where the note of a slot begins
abbrev pub note_place : (most slot : ℕ) → ℕ
note_place most slot = NOTES_AT + slot * note_size most

-- ---- the table of fields

abbrev pub note_fields : (most at : ℕ) → SlotNote → List Field
note_fields most at note =
    u8_at at (if note.copied then 1 else 0)
    ∷ u8_at (at + NOTE_ZERO_AT) 0
    ∷ u16_at (at + NOTE_POSITION_AT) note.position
    ∷ u32_at (at + NOTE_STAND_IN_AT) note.stand_in
    ∷ u64_at (at + NOTE_ROW_AT) note.row
    ∷ plain_at (at + NOTE_BITS_AT) (most / 8) (bits_of (most / 8) note.out)
    ∷ []

-- the fields of notes that follow one another
abbrev pub all_note_fields : (most at : ℕ) → List SlotNote → List Field
all_note_fields most at [] = []
all_note_fields most at (note ∷ notes) = note_fields most at note ++ all_note_fields most (at + note_size most) notes

abbrev pub head_fields : ℕ → Notes → List Field
head_fields most notes =
    plain_at NOTES_GROUP_AT 24 notes.group
    ∷ plain_at NOTES_NAME_AT 8 (codes "RDDFNOTE")
    ∷ u32_at NOTES_SEQUENCE_AT notes.sequence
    ∷ u16_at NOTES_SLOTS_AT (length notes.slots)
    ∷ u16_at NOTES_MEMBERS_AT most
    ∷ plain_at NOTES_ZEROS_AT 16 (replicate 16 0)
    ∷ []

-- FF in all bytes behind the notes of so many slots
abbrev pub filling : (most size count : ℕ) → Field
filling most size count = plain_at (note_place most count) (size - note_place most count) (replicate (size - note_place most count) 255)

-- All fields: they leave no byte of the record out.
abbrev pub notes_fields : (most size : ℕ) → Notes → List Field
notes_fields most size notes = head_fields most notes ++ (all_note_fields most NOTES_AT notes.slots ++ filling most size (length notes.slots) ∷ [])

-- Notes can be written under a geometry in a section of so many slots: there is one for each slot, they fit the record, their
-- numbers fit, and the positions that are out of sync rise.
pub record CanBeNotes (geometry : Geometry) (count : ℕ) (notes : Notes) : Type 0 where
  pub counted : length notes.slots ≡ count
  pub room : note_place geometry.max_members count ≤ record_size geometry
  pub rising : AllByRecursion (λ note. IsRising geometry.max_members note.out) notes.slots
  pub fields_fit : AllByRecursion Fits (notes_fields geometry.max_members (record_size geometry) notes)

-- Notes are the value of a record in a section of so many slots: the record is sealed, and each field has the value that
-- stands at its offset. There is no other byte.
pub record IsNotesOf (geometry : Geometry) (count : ℕ) (notes : Notes) (bytes : List ℕ) : Type 0 where
  pub size : length bytes ≡ record_size geometry
  pub counted : length notes.slots ≡ count
  pub room : note_place geometry.max_members count ≤ record_size geometry
  pub rising : AllByRecursion (λ note. IsRising geometry.max_members note.out) notes.slots
  pub is_record : IsRecordOf vendor_signature (notes_fields geometry.max_members (record_size geometry) notes) (replicate (record_size geometry) 0) bytes

-- ---- reading

-- a note may stand here
abbrev pub is_note : List ℕ → (at : ℕ) → Bool
is_note bytes at = nat_le (slice_index bytes at) 1 && slice_index bytes (at + NOTE_ZERO_AT) == 0

-- the name of a notes record
unfoldable pub is_named : List ℕ → Bool
is_named bytes = bytes_eq (bytes_at bytes NOTES_NAME_AT 8) (codes "RDDFNOTE")

-- how many slots and members there are
unfoldable pub has_numbers : (most count : ℕ) → List ℕ → Bool
has_numbers most count bytes = number_at w16 bytes NOTES_SLOTS_AT == count && number_at w16 bytes NOTES_MEMBERS_AT == most

abbrev pub is_headed : (most count : ℕ) → List ℕ → Bool
is_headed most count bytes = is_named bytes && (has_numbers most count bytes && list_all (λ byte. byte == 0) (bytes_at bytes NOTES_ZEROS_AT 16))

-- The bytes of a record are notes, where the section has so many slots and the geometry allows so many members.
unfoldable pub is_notes : (most count : ℕ) → List ℕ → Bool
is_notes most count bytes =
    is_headed most count bytes
    && (nat_le (note_place most count) (length bytes)
    && (list_all (λ slot. is_note bytes (note_place most slot)) (range_with_len 0 count)
    && list_all (λ byte. byte == 255) (drop (note_place most count) bytes)))

unfoldable pub note_at : (most : ℕ) → List ℕ → (at : ℕ) → SlotNote
note_at most bytes at = record {
  copied = slice_index bytes at == 1;
  position = number_at w16 bytes (at + NOTE_POSITION_AT);
  stand_in = number_at w32 bytes (at + NOTE_STAND_IN_AT);
  row = number_at w64 bytes (at + NOTE_ROW_AT);
  out = positions most (bytes_at bytes (at + NOTE_BITS_AT) (most / 8));
}

unfoldable pub notes_of_slots : (most count : ℕ) → List ℕ → List SlotNote
notes_of_slots most count bytes = map (λ slot. note_at most bytes (note_place most slot)) (range_with_len 0 count)

-- the notes that stand in a record
abbrev pub notes_at : (most count : ℕ) → List ℕ → Notes
notes_at most count bytes = record {
  group = bytes_at bytes NOTES_GROUP_AT 24;
  sequence = number_at w32 bytes NOTES_SEQUENCE_AT;
  slots = notes_of_slots most count bytes;
}
