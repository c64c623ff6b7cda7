-- The slots of a section of configuration records, and what stands in each.
use Rattle.std.specs.Prelude.{◌≡◌, ℕ, ◌+◌, ◌*◌, ◌/◌, ◌<◌, ◌≤◌, Bool, true, false, ◌&&◌, ◌||◌, ◌==◌, if◌then◌else◌, List, length, map, replicate, slice_get, Option, Some, None, option_map, is_none, Result}
use Rattle.std.specs.Result.{result_err}
use Rattle.std.specs.List.{AllByRecursion, flat_map, range_with_len}
use Rattle.std.specs.Int.{w32}
use Rattle.std.specs.Str.{bytes_eq}
use Rattle.ddf_bytes.specs.Bytes.{bytes_at, number_at}
use Rattle.ddf_bytes.specs.Choices.{first_of, ok_unless, when}
use Rattle.ddf_seal.specs.Seal.{IsSealed, seal_check}
use Rattle.ddf_seal.specs.Records.{record_bytes}
use Rattle.ddf_seal.specs.Unread.{AreBytes}
use Rattle.ddf_header.specs.declared.geometry.Geometry.{Geometry}
use Rattle.ddf_config_records.specs.declared.fault.ElementFault.{ElementFault}
use Rattle.ddf_config_records.specs.declared.fault.SlotFault.{SlotFault}
use Rattle.ddf_config_records.specs.declared.fault.SlotFault.TheVariants as faults
use Rattle.ddf_config_records.specs.declared.notes.SlotNote.{SlotNote}
use Rattle.ddf_config_records.specs.declared.notes.Notes.{Notes}
use Rattle.ddf_config_records.specs.declared.slot.RecordSlot.{RecordSlot}
use Rattle.ddf_config_records.specs.declared.slot.RecordSlot.TheVariants as slots
use Rattle.ddf_config_records.specs.declared.layout.TheConstants.{VENDOR_GUID_AT, SPARE_ENTRIES_AT, SPARE_ENTRY_BYTES}
use Rattle.ddf_config_records.specs.Bits.{AreBelow}
use Rattle.ddf_config_records.specs.Elements.{record_size, element_fields, element_fault_at, element_at, CanBeElement, IsElementOf}
use Rattle.ddf_config_records.specs.Spares.{spare_signature, spare_fields, spare_at, CanBeSpare, IsSpareOf}
use Rattle.ddf_config_records.specs.Vendors.{vendor_signature, vendor_fields, vendor_rest, CanBeVendor, IsVendorOf}
use Rattle.ddf_config_records.specs.NoteRecords.{note_place, notes_fields, is_notes, notes_at, CanBeNotes, IsNotesOf}

abbrev pub element_signature : ℕ
element_signature = 0xEEEE_EEEE

abbrev pub is_known : ℕ → Bool
is_known signature = signature == element_signature || signature == vendor_signature || signature == spare_signature

-- how many slots a section holds whole
abbrev pub slot_count : Geometry → List ℕ → ℕ
slot_count geometry section = length section / record_size geometry

-- the bytes of a slot
abbrev pub slot_bytes : Geometry → List ℕ → ℕ → List ℕ
slot_bytes geometry section slot = bytes_at section (slot * record_size geometry) (record_size geometry)

-- ---- which notes count

-- notes are those of a header with this group and sequence
abbrev pub are_valid : (group : List ℕ) (sequence : ℕ) → Notes → Bool
are_valid group sequence notes = bytes_eq notes.group group && notes.sequence == sequence

-- the valid notes of a slot, if it has some
abbrev pub valid_of : (group : List ℕ) (sequence : ℕ) → RecordSlot → Option Notes
valid_of group sequence (slots.Notes notes) = when (are_valid group sequence notes) notes
valid_of group sequence slot = None

-- the valid notes of the lowest slot that has some
abbrev pub valid_notes : (group : List ℕ) (sequence : ℕ) → List RecordSlot → Option Notes
valid_notes group sequence slots = first_of (map (valid_of group sequence) slots)

abbrev pub is_copied : Option SlotNote → Bool
is_copied None = false
is_copied (Some note) = note.copied

-- notes list a slot as a copy
abbrev pub lists : Option Notes → ℕ → Bool
lists None slot = false
lists (Some notes) slot = is_copied (slice_get notes.slots slot)

-- ---- a slot against its bytes

-- bytes that are no record that is read
pub record IsUnused (geometry : Geometry) (bytes : List ℕ) : Type 0 where
  pub size : length bytes ≡ record_size geometry
  pub are_bytes : AreBytes bytes
  pub unknown : is_known (number_at w32 bytes 0) ≡ false

-- an element record whose element has a fault
pub record IsUnread (geometry : Geometry) (fault : ElementFault) (bytes : List ℕ) : Type 0 where
  pub size : length bytes ≡ record_size geometry
  pub are_bytes : AreBytes bytes
  pub is_sealed : IsSealed element_signature bytes
  pub has_fault : element_fault_at geometry.max_members bytes ≡ Some fault

-- A vendor's record is a copy of an element: valid notes list its slot, and its element has no fault.
abbrev pub is_copy : (most : ℕ) → (listed : Bool) → List ℕ → Bool
is_copy most listed bytes = listed && is_none (element_fault_at most bytes)

-- A slot is the value of so many bytes, in a section of so many slots, where valid notes do or don't list it as a copy. Notes
-- are never a copy.
unfoldable pub IsSlotOf : Geometry → (count : ℕ) → (listed : Bool) → RecordSlot → List ℕ → Type 0
IsSlotOf geometry count listed (slots.Element element) bytes = IsElementOf element_signature geometry element bytes
IsSlotOf geometry count listed (slots.Copied element) bytes =
    IsElementOf vendor_signature geometry element bytes × (listed ≡ true) × (is_notes geometry.max_members count bytes ≡ false)
IsSlotOf geometry count listed (slots.Spare spare) bytes = IsSpareOf geometry spare bytes
IsSlotOf geometry count listed (slots.Notes notes) bytes = IsNotesOf geometry count notes bytes
IsSlotOf geometry count listed (slots.Vendor guid rest) bytes =
    IsVendorOf geometry guid rest bytes × (is_notes geometry.max_members count bytes ≡ false) × (is_copy geometry.max_members listed bytes ≡ false)
IsSlotOf geometry count listed (slots.Unread fault kept) bytes = (kept ≡ bytes) × IsUnread geometry fault bytes
IsSlotOf geometry count listed (slots.Unused kept) bytes = (kept ≡ bytes) × IsUnused geometry bytes

-- the bytes that a slot is written as
unfoldable pub slot_written : Geometry → RecordSlot → List ℕ
slot_written geometry (slots.Element element) = record_bytes element_signature (element_fields geometry.max_members element) element.rest
slot_written geometry (slots.Copied element) = record_bytes vendor_signature (element_fields geometry.max_members element) element.rest
slot_written geometry (slots.Spare spare) = record_bytes spare_signature (spare_fields spare) spare.rest
slot_written geometry (slots.Notes notes) = record_bytes vendor_signature (notes_fields geometry.max_members (record_size geometry) notes) (replicate (record_size geometry) 0)
slot_written geometry (slots.Vendor guid rest) = record_bytes vendor_signature (vendor_fields guid) rest
slot_written geometry (slots.Unread fault kept) = kept
slot_written geometry (slots.Unused kept) = kept

-- A slot can be written so that it is read as this slot.
unfoldable pub CanBeSlot : Geometry → (count : ℕ) → (listed : Bool) → RecordSlot → Type 0
CanBeSlot geometry count listed (slots.Element element) = CanBeElement geometry element
CanBeSlot geometry count listed (slots.Copied element) = CanBeElement geometry element × (listed ≡ true)
CanBeSlot geometry count listed (slots.Spare spare) = CanBeSpare geometry spare
CanBeSlot geometry count listed (slots.Notes notes) = CanBeNotes geometry count notes
CanBeSlot geometry count listed (slots.Vendor guid rest) =
    CanBeVendor geometry guid rest × (is_notes geometry.max_members count (slot_written geometry (slots.Vendor guid rest)) ≡ false)
    × (is_copy geometry.max_members listed (slot_written geometry (slots.Vendor guid rest)) ≡ false)
CanBeSlot geometry count listed (slots.Unread fault kept) = IsUnread geometry fault kept
CanBeSlot geometry count listed (slots.Unused kept) = IsUnused geometry kept

-- ---- all slots

-- Slots are the value of a section under a header's geometry, group and sequence: there are as many as the section holds
-- whole, and each is the value of its bytes.
pub record AreSlotsOf (geometry : Geometry) (group : List ℕ) (sequence : ℕ) (all : List RecordSlot) (section : List ℕ) : Type 0 where
  pub counted : length all ≡ slot_count geometry section
  pub each : (index : ℕ) (slot : RecordSlot) → slice_get all index ≡ Some slot
      → IsSlotOf geometry (length all) (lists (valid_notes group sequence all) index) slot (slot_bytes geometry section index)

-- all slots can be written so that they are read as these
pub record CanBeSlots (geometry : Geometry) (group : List ℕ) (sequence : ℕ) (all : List RecordSlot) : Type 0 where
  pub each : (index : ℕ) (slot : RecordSlot) → slice_get all index ≡ Some slot
      → CanBeSlot geometry (length all) (lists (valid_notes group sequence all) index) slot

-- ---- reading

-- the slot of a record whose element has this fault or none
abbrev pub element_slot : (most : ℕ) → List ℕ → Option ElementFault → RecordSlot
element_slot most bytes None = slots.Element (element_at most bytes)
element_slot most bytes (Some fault) = slots.Unread fault bytes

abbrev pub vendor_slot : (most count : ℕ) → (listed : Bool) → List ℕ → RecordSlot
vendor_slot most count listed bytes =
    if is_notes most count bytes then slots.Notes (notes_at most count bytes)
    else if is_copy most listed bytes then slots.Copied (element_at most bytes)
    else slots.Vendor (bytes_at bytes VENDOR_GUID_AT 24) (vendor_rest bytes)

-- the slot that stands in these bytes
unfoldable pub slot_at : (most count : ℕ) → (listed : Bool) → List ℕ → RecordSlot
slot_at most count listed bytes =
    if number_at w32 bytes 0 == element_signature then element_slot most bytes (element_fault_at most bytes)
    else if number_at w32 bytes 0 == vendor_signature then vendor_slot most count listed bytes
    else if number_at w32 bytes 0 == spare_signature then slots.Spare (spare_at bytes)
    else slots.Unused bytes

-- the valid notes that stand in these bytes, if they are notes
unfoldable pub valid_at : (most count : ℕ) (group : List ℕ) (sequence : ℕ) → List ℕ → Option Notes
valid_at most count group sequence bytes =
    if number_at w32 bytes 0 == vendor_signature && is_notes most count bytes then when (are_valid group sequence (notes_at most count bytes)) (notes_at most count bytes)
    else None

-- the valid notes of the lowest slot that has some
unfoldable pub notes_in : Geometry → (group : List ℕ) (sequence : ℕ) → List ℕ → Option Notes
notes_in geometry group sequence section =
    first_of (map (λ slot. valid_at geometry.max_members (slot_count geometry section) group sequence (slot_bytes geometry section slot)) (range_with_len 0 (slot_count geometry section)))

-- the slots that stand in a section
unfoldable pub slots_at : Geometry → Option Notes → List ℕ → List RecordSlot
slots_at geometry notes section =
    map (λ slot. slot_at geometry.max_members (slot_count geometry section) (lists notes slot) (slot_bytes geometry section slot)) (range_with_len 0 (slot_count geometry section))

-- what is wrong with the seal of a slot, where its signature is known
unfoldable pub slot_fault : (slot : ℕ) → List ℕ → Option SlotFault
slot_fault slot bytes =
    if is_known (number_at w32 bytes 0) then option_map (faults.Seal slot) (result_err (seal_check (number_at w32 bytes 0) bytes)) else None

-- the first of these
unfoldable pub seal_fault : Geometry → List ℕ → Option SlotFault
seal_fault geometry section = first_of (map (λ slot. slot_fault slot (slot_bytes geometry section slot)) (range_with_len 0 (slot_count geometry section)))

-- the first slot of a known signature that isn't sealed, or else the slots
abbrev pub decoded_slots : Geometry → (group : List ℕ) (sequence : ℕ) → List ℕ → Result (List RecordSlot) SlotFault
decoded_slots geometry group sequence section = ok_unless (seal_fault geometry section) (slots_at geometry (notes_in geometry group sequence section) section)

-- each slot of a known signature is sealed
pub record AreSealed (geometry : Geometry) (section : List ℕ) : Type 0 where
  pub each : (slot : ℕ) → slot < slot_count geometry section → is_known (number_at w32 (slot_bytes geometry section slot) 0) ≡ true
      → IsSealed (number_at w32 (slot_bytes geometry section slot) 0) (slot_bytes geometry section slot)

-- ---- writing

-- notes fit a record
pub record DoNotesFit (geometry : Geometry) (notes : Notes) : Type 0 where
  pub few : length notes.slots < 65536
  pub room : note_place geometry.max_members (length notes.slots) ≤ record_size geometry
  pub below : AllByRecursion (λ note. AreBelow geometry.max_members note.out) notes.slots

-- A slot fits the geometry: it has the bytes of a record, and what it lists has room in them.
unfoldable pub FitsSlot : Geometry → RecordSlot → Type 0
FitsSlot geometry (slots.Element element) = (length element.rest ≡ record_size geometry) × (length element.members ≤ geometry.max_members)
FitsSlot geometry (slots.Copied element) = (length element.rest ≡ record_size geometry) × (length element.members ≤ geometry.max_members)
FitsSlot geometry (slots.Spare spare) = (length spare.rest ≡ record_size geometry) × (SPARE_ENTRIES_AT + SPARE_ENTRY_BYTES * length spare.arrays ≤ record_size geometry)
FitsSlot geometry (slots.Notes notes) = DoNotesFit geometry notes
FitsSlot geometry (slots.Vendor guid rest) = length rest ≡ record_size geometry
FitsSlot geometry (slots.Unread fault kept) = length kept ≡ record_size geometry
FitsSlot geometry (slots.Unused kept) = length kept ≡ record_size geometry

-- each slot fits
pub record DoFit (geometry : Geometry) (all : List RecordSlot) : Type 0 where
  pub each : (index : ℕ) (slot : RecordSlot) → slice_get all index ≡ Some slot → FitsSlot geometry slot

-- the bytes that slots are written as
abbrev pub slots_written : Geometry → List RecordSlot → List ℕ
slots_written geometry all = flat_map (slot_written geometry) all
