-- Slots that can be written fit the geometry.
use Rattle.std.proofs.Common.{ℕ, ◌+◌, ◌*◌, ◌≤◌, Bool, List, [], ◌∷◌, length, arith}
use Rattle.std.specs.List.{AllByRecursion}
use Rattle.ddf_header.specs.declared.geometry.Geometry.{Geometry}
use Rattle.ddf_config_records.specs.declared.notes.SlotNote.{SlotNote}
use Rattle.ddf_config_records.specs.declared.notes.Notes.{Notes}
use Rattle.ddf_config_records.specs.declared.spare.SpareRecord.{SpareRecord}
use Rattle.ddf_config_records.specs.declared.slot.RecordSlot.{RecordSlot}
use Rattle.ddf_config_records.specs.declared.slot.RecordSlot.TheVariants as slots
use Rattle.ddf_config_records.specs.declared.layout.TheConstants.{SPARE_ENTRIES_AT, SPARE_ENTRY_BYTES}
use Rattle.ddf_config_records.specs.Bits.{IsRising, AreBelow}
use Rattle.ddf_config_records.specs.Elements.{record_size, HasRoom}
use Rattle.ddf_config_records.specs.Spares.{CanBeSpare}
use Rattle.ddf_config_records.specs.NoteRecords.{CanBeNotes}
use Rattle.ddf_config_records.specs.Slots.{valid_notes, lists, CanBeSlot, CanBeSlots, DoNotesFit, FitsSlot, DoFit}
use Rattle.ddf_config_records.proofs.Bits.{rising_below}
use Rattle.ddf_config_records.proofs.ElementRecords.{allowed}
use Rattle.ddf_config_records.proofs.SpareRecords.{count_fits}
use Rattle.ddf_config_records.proofs.NotesValues.{slots_room}

all_below : (most : ℕ) (notes : List SlotNote) → AllByRecursion (λ note. IsRising most note.out) notes → AllByRecursion (λ note. AreBelow most note.out) notes
all_below most [] h = tt
all_below most (note ∷ notes) h = (rising_below most note.out h.0, all_below most notes h.1)

notes_fit : (geometry : Geometry) (count : ℕ) (notes : Notes) → CanBeNotes geometry count notes → DoNotesFit geometry notes
notes_fit geometry count notes can = record {
  few = can.fields_fit.1.1.1.0;
  room = slots_room geometry count notes can.counted can.room;
  below = all_below geometry.max_members notes.slots can.rising;
}

spare_fits : (geometry : Geometry) (spare : SpareRecord) → HasRoom geometry → CanBeSpare geometry spare → SPARE_ENTRIES_AT + SPARE_ENTRY_BYTES * length spare.arrays ≤ record_size geometry
spare_fits geometry spare room can = let fits = count_fits spare.rest (omega (arith, room.whole, can.size)) in omega (arith, can.counted, can.size)

pub slot_fits : (geometry : Geometry) (count : ℕ) (listed : Bool) (slot : RecordSlot) → HasRoom geometry → CanBeSlot geometry count listed slot → FitsSlot geometry slot
unfolding CanBeSlot FitsSlot
slot_fits geometry count listed (slots.Element element) room can = (can.size, allowed geometry element can.is_element)
slot_fits geometry count listed (slots.Copied element) room can = (can.0.size, allowed geometry element can.0.is_element)
slot_fits geometry count listed (slots.Spare spare) room can = (can.size, spare_fits geometry spare room can)
slot_fits geometry count listed (slots.Notes notes) room can = notes_fit geometry count notes can
slot_fits geometry count listed (slots.Vendor guid rest) room can = can.0.size
slot_fits geometry count listed (slots.Unread fault kept) room can = can.size
slot_fits geometry count listed (slots.Unused kept) room can = can.size

pub do_fit : (geometry : Geometry) (group : List ℕ) (sequence : ℕ) (all : List RecordSlot) → HasRoom geometry → CanBeSlots geometry group sequence all → DoFit geometry all
do_fit geometry group sequence all room can = record { each = λ i slot at. slot_fits geometry (length all) (lists (valid_notes group sequence all) i) slot room (can.each i slot at) }
