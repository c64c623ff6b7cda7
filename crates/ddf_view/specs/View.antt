-- What one copy says of its disk and of its group (SNIA DDF 2.0): all that a group takes from a disk, so that level copies
-- have one view. A record counts where it is an element's, or a copy of one that valid notes list (profile).
use Rattle.std.specs.Prelude.{ℕ, ◌+◌, Bool, false, not, ◌&&◌, ◌||◌, ◌==◌, List, [], ◌∷◌, map, find, filter_map, slice_get, Option, Some, None, option_map, is_some}
use Rattle.std.specs.List.{cons_option}
use Rattle.std.specs.Option.{option_map_or, option_or, option_and_then}
use Rattle.ddf_bytes.specs.Choices.{first_of, when}
use Rattle.std.specs.Int.{bit_at}
use Rattle.std.specs.Str.{bytes_eq}
use Rattle.ddf_tables.specs.declared.disks.DiskEntry.{DiskEntry}
use Rattle.ddf_tables.specs.declared.disks.DiskRow.{DiskRow}
use Rattle.ddf_tables.specs.declared.disks.DiskRow.TheVariants as disk_rows
use Rattle.ddf_tables.specs.declared.arrays.ArrayEntry.{ArrayEntry}
use Rattle.ddf_tables.specs.declared.arrays.ArrayRow.{ArrayRow}
use Rattle.ddf_tables.specs.declared.arrays.ArrayRow.TheVariants as array_rows
use Rattle.ddf_config_records.specs.ElementValue.{ElementValue}
use Rattle.ddf_config_records.specs.declared.notes.SlotNote.{SlotNote}
use Rattle.ddf_config_records.specs.declared.notes.Notes.{Notes}
use Rattle.ddf_config_records.specs.declared.spare.SpareRecord.{SpareRecord}
use Rattle.ddf_config_records.specs.declared.slot.RecordSlot.{RecordSlot}
use Rattle.ddf_config_records.specs.declared.slot.RecordSlot.TheVariants as slots
use Rattle.ddf_config_records.specs.Slots.{valid_notes}
use Rattle.ddf_copy.specs.declared.copy.DiskCopy.{DiskCopy}

abbrev pub has_bit : (bits place : ℕ) → Bool
has_bit bits place = bit_at bits place == 1

-- ---- a record that counts, with its note where there are valid notes

pub record HeldRecord : Type 0 where
  pub element : ElementValue
  pub note : Option SlotNote

abbrev pub note_at : Option Notes → (slot : ℕ) → Option SlotNote
note_at None slot = None
note_at (Some notes) slot = slice_get notes.slots slot

abbrev pub element_of : RecordSlot → Option ElementValue
element_of (slots.Element element) = Some element
element_of (slots.Copied element) = Some element
element_of (slots.Spare spare) = None
element_of (slots.Notes notes) = None
element_of (slots.Vendor guid rest) = None
element_of (slots.Unread fault bytes) = None
element_of (slots.Unused bytes) = None

-- the array and the place among its elements, of a slot that holds an element
abbrev pub key_of_slot : RecordSlot → Option (List ℕ × ℕ)
key_of_slot slot = option_map (λ element. (element.array, element.index)) (element_of slot)

abbrev pub held_of : Option Notes → (slot : ℕ) → RecordSlot → Option HeldRecord
held_of notes at slot = option_map (λ element. record { element = element; note = note_at notes at }) (element_of slot)

-- those of the slots from a place on
abbrev pub held_from : Option Notes → (slot : ℕ) → List RecordSlot → List HeldRecord
held_from notes at [] = []
held_from notes at (slot ∷ slots) = cons_option (held_of notes at slot) (held_from notes (at + 1) slots)

-- ---- the view

-- `noted` tells whether there are valid notes, `spare` the arrays that the first spare record names.
pub record View : Type 0 where
  pub group : List ℕ
  pub sequence : ℕ
  pub guid : List ℕ
  pub reference : ℕ
  pub disks : List DiskEntry
  pub arrays : List ArrayEntry
  pub elements : List HeldRecord
  pub noted : Bool
  pub spare : Option (List (List ℕ))

abbrev pub disk_of : DiskRow → Option DiskEntry
disk_of (disk_rows.Entry entry) = Some entry
disk_of (disk_rows.Unused whole) = None

abbrev pub array_of : ArrayRow → Option ArrayEntry
array_of (array_rows.Entry entry) = Some entry
array_of (array_rows.Unused whole) = None

abbrev pub spare_of : RecordSlot → Option SpareRecord
spare_of (slots.Spare spare) = Some spare
spare_of (slots.Element element) = None
spare_of (slots.Copied element) = None
spare_of (slots.Notes notes) = None
spare_of (slots.Vendor guid rest) = None
spare_of (slots.Unread fault bytes) = None
spare_of (slots.Unused bytes) = None

-- the first spare record
abbrev pub first_spare : List RecordSlot → Option SpareRecord
first_spare [] = None
first_spare (slot ∷ slots) = option_or (spare_of slot) (first_spare slots)

-- the notes that count: those of the lowest slot whose group and sequence are the header's
abbrev pub notes_of : DiskCopy → Option Notes
notes_of copy = valid_notes copy.header.guid copy.header.sequence copy.slots

-- the used disk entries, the used array entries, and the records that count
abbrev pub disks_of : DiskCopy → List DiskEntry
disks_of copy = filter_map disk_of copy.disks.rows

abbrev pub arrays_of : DiskCopy → List ArrayEntry
arrays_of copy = filter_map array_of copy.arrays.rows

abbrev pub elements_of : DiskCopy → List HeldRecord
elements_of copy = held_from (notes_of copy) 0 copy.slots

unfoldable pub view_of : DiskCopy → View
view_of copy = record {
  group = copy.header.guid;
  sequence = copy.header.sequence;
  guid = copy.disk_data.guid;
  reference = copy.disk_data.reference;
  disks = disks_of copy;
  arrays = arrays_of copy;
  elements = elements_of copy;
  noted = is_some (notes_of copy);
  spare = option_map (λ spare. spare.arrays) (first_spare copy.slots);
}

-- ---- disks in a view

-- a disk is failed (bit 1) or missing (bit 6)
abbrev pub is_missing : DiskEntry → Bool
is_missing disk = has_bit disk.state.0 1 || has_bit disk.state.0 6

abbrev pub find_disk : (reference : ℕ) → List DiskEntry → Option DiskEntry
find_disk reference disks = find (λ disk. disk.reference == reference) disks

-- the entry of a disk, by its GUID and its reference
abbrev pub entry_in : View → (guid : List ℕ) → (reference : ℕ) → Option DiskEntry
entry_in view guid reference = find (λ disk. disk.reference == reference && bytes_eq disk.guid guid) view.disks

-- it lists a disk as a current member
unfoldable pub lists_current : View → (guid : List ℕ) → (reference : ℕ) → Bool
lists_current view guid reference = option_map_or (λ disk. not (is_missing disk)) (entry_in view guid reference) false

-- it lists a disk as a missing member
unfoldable pub lists_missing : View → (guid : List ℕ) → (reference : ℕ) → Bool
lists_missing view guid reference = option_map_or is_missing (entry_in view guid reference) false

-- its own disk is a current member
abbrev pub lists_itself : View → Bool
lists_itself view = lists_current view view.guid view.reference

-- ---- records in views

abbrev pub is_element : (array : List ℕ) → (index : ℕ) → HeldRecord → Bool
is_element array index held = bytes_eq held.element.array array && held.element.index == index

-- Of two records of one element the one of the lower slot counts, and of several disks that of the first.
abbrev pub find_held : (array : List ℕ) → (index : ℕ) → List HeldRecord → Option HeldRecord
find_held array index elements = find (is_element array index) elements

-- the record of a slot, where it counts and is that of an element
abbrev pub held_at : Option Notes → (array : List ℕ) → (index slot : ℕ) → RecordSlot → Option HeldRecord
held_at notes array index at slot = option_and_then (λ held. when (is_element array index held) held) (held_of notes at slot)

-- the note of a record, where it is that of an element
abbrev pub note_of : (array : List ℕ) → (index : ℕ) → HeldRecord → Option SlotNote
note_of array index held = option_and_then (λ one. one.note) (when (is_element array index held) held)

-- the first note that is held of an element
abbrev pub find_note : (array : List ℕ) → (index : ℕ) → List HeldRecord → Option SlotNote
find_note array index elements = first_of (map (note_of array index) elements)
