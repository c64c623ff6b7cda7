-- The slots of new copies can be written.
use Rattle.std.proofs.Common.{◌≡◌, ℕ, zero, suc, ◌+◌, ◌*◌, ◌-◌, ◌/◌, Bool, false, List, [], ◌∷◌, ◌++◌, length, replicate, Some, refl, subst, arith}
use Rattle.std.specs.Prelude.{slice_get}
use Rattle.std.specs.List.{AllByRecursion}
use Rattle.std.proofs.lemmas.List.{length-replicate}
use Rattle.std.specs.Int.{w32}
use Rattle.ddf_lemmas.proofs.Lists.{all_replicate, all_append}
use Rattle.ddf_bytes.specs.declared.stamp.Stamp.{Stamp}
use Rattle.ddf_bytes.specs.Bytes.{number_at}
use Rattle.ddf_seal.specs.Unread.{Fits}
use Rattle.ddf_seal.proofs.Common.{bytes_replicate}
use Rattle.ddf_config_records.specs.declared.slot.RecordSlot.{RecordSlot}
use Rattle.ddf_config_records.specs.declared.layout.TheConstants.{NOTES_AT}
use Rattle.ddf_config_records.specs.Bits.{AreBelow, IsRising}
use Rattle.ddf_config_records.specs.NoteRecords.{CanBeNotes, all_note_fields, filling, head_fields, note_size}
use Rattle.ddf_config_records.specs.Slots.{CanBeSlot, CanBeSlots, DoFit, DoNotesFit, FitsSlot, is_known}
use Rattle.ddf_config_records.proofs.Bits.{length-bits_of}
use Rattle.ddf_update.specs.declared.new_layout.NewLayout.{NewLayout}
use Rattle.ddf_update.specs.declared.new_layout.NewLayout.TheVariants.{Large, Small}
use Rattle.ddf_update.specs.NewLayouts.{members_of, record_length_of, records_sectors, slots_of}
use Rattle.ddf_update.specs.NewCopies.{new_geometry, new_notes, new_slots, no_note, unused_slot}

get_replicate : {X : Type 0} (count index : ℕ) (x y : X) → slice_get (replicate count x) index ≡ Some y → x ≡ y
get_replicate zero index x y h = absurd cc
get_replicate (suc count) zero x y h = cc
get_replicate (suc count) (suc index) x y h = get_replicate count index x y h

-- ---- the notes

notes_fit_from : (layout : NewLayout) (at count : ℕ) → AllByRecursion Fits (all_note_fields (members_of layout) at (replicate count no_note))
notes_fit_from layout at zero = tt
notes_fit_from Small at (suc count) = (omega arith, (omega arith, (omega arith, (omega arith, (omega arith, (length-bits_of 2 [], notes_fit_from Small (at + note_size 16) count))))))
notes_fit_from Large at (suc count) = (omega arith, (omega arith, (omega arith, (omega arith, (omega arith, (length-bits_of 8 [], notes_fit_from Large (at + note_size 64) count))))))

none_rises : (layout : NewLayout) → IsRising (members_of layout) []
unfolding IsRising
none_rises Small = refl
none_rises Large = refl

pub can_be_notes : (layout : NewLayout) (stamp : Stamp) (size : ℕ) → CanBeNotes (new_geometry layout size) (slots_of layout) (new_notes (slots_of layout) stamp)
can_be_notes Small stamp size = record {
  counted = refl;
  room = omega arith;
  rising = all_replicate (λ note. IsRising 16 note.out) 16 no_note (none_rises Small);
  fields_fit =
      all_append Fits (head_fields 16 (new_notes 16 stamp)) (all_note_fields 16 NOTES_AT (replicate 16 no_note) ++ filling 16 1024 16 ∷ [])
      (refl, (refl, (omega arith, (omega arith, (omega arith, (refl, tt))))))
      (all_append Fits (all_note_fields 16 NOTES_AT (replicate 16 no_note)) (filling 16 1024 16 ∷ []) (notes_fit_from Small NOTES_AT 16) (length-replicate {A = ℕ} 672 255, tt));
}
can_be_notes Large stamp size = record {
  counted = refl;
  room = omega arith;
  rising = all_replicate (λ note. IsRising 64 note.out) 60 no_note (none_rises Large);
  fields_fit =
      all_append Fits (head_fields 64 (new_notes 60 stamp)) (all_note_fields 64 NOTES_AT (replicate 60 no_note) ++ filling 64 1536 60 ∷ [])
      (refl, (refl, (omega arith, (omega arith, (omega arith, (refl, tt))))))
      (all_append Fits (all_note_fields 64 NOTES_AT (replicate 60 no_note)) (filling 64 1536 60 ∷ []) (notes_fit_from Large NOTES_AT 60) (length-replicate {A = ℕ} 32 255, tt));
}

notes_do_fit : (layout : NewLayout) (stamp : Stamp) (size : ℕ) → DoNotesFit (new_geometry layout size) (new_notes (slots_of layout) stamp)
notes_do_fit Small stamp size = record {
  few = omega arith;
  room = omega arith;
  below = all_replicate (λ note. AreBelow 16 note.out) 16 no_note (λ index below. absurd (omega (arith, below)));
}
notes_do_fit Large stamp size = record {
  few = omega arith;
  room = omega arith;
  below = all_replicate (λ note. AreBelow 64 note.out) 60 no_note (λ index below. absurd (omega (arith, below)));
}

-- ---- all slots

-- the slots of a new copy
abbrev pub slots_of_new : NewLayout → Stamp → List RecordSlot
slots_of_new layout stamp = new_slots (slots_of layout) (512 * record_length_of layout) stamp

unused_unknown : (layout : NewLayout) → is_known (number_at w32 (replicate (512 * record_length_of layout) 255) 0) ≡ false
unused_unknown Small = refl
unused_unknown Large = refl

unused_can : (layout : NewLayout) (size count : ℕ) (listed : Bool) → CanBeSlot (new_geometry layout size) count listed (unused_slot (512 * record_length_of layout))
unfolding CanBeSlot unused_slot
unused_can layout size count listed = record { size = length-replicate {A = ℕ} (512 * record_length_of layout) 255; are_bytes = bytes_replicate (512 * record_length_of layout); unknown = unused_unknown layout }

unused_fits : (layout : NewLayout) (size : ℕ) → FitsSlot (new_geometry layout size) (unused_slot (512 * record_length_of layout))
unfolding FitsSlot unused_slot
unused_fits layout size = length-replicate {A = ℕ} (512 * record_length_of layout) 255

slot_can : (layout : NewLayout) (stamp : Stamp) (size : ℕ) (listed : Bool) (index : ℕ) (slot : RecordSlot) → slice_get (slots_of_new layout stamp) index ≡ Some slot → CanBeSlot (new_geometry layout size) (slots_of layout) listed slot
unfolding CanBeSlot
slot_can layout stamp size listed zero slot h = subst (CanBeSlot (new_geometry layout size) (slots_of layout) listed) (get_replicate 1 0 _ slot h) (can_be_notes layout stamp size)
slot_can layout stamp size listed (suc index) slot h =
    subst (CanBeSlot (new_geometry layout size) (slots_of layout) listed) (get_replicate (slots_of layout - 1) index (unused_slot (512 * record_length_of layout)) slot h) (unused_can layout size (slots_of layout) listed)

slot_fits : (layout : NewLayout) (stamp : Stamp) (size : ℕ) (index : ℕ) (slot : RecordSlot) → slice_get (slots_of_new layout stamp) index ≡ Some slot → FitsSlot (new_geometry layout size) slot
unfolding FitsSlot
slot_fits layout stamp size zero slot h = subst (FitsSlot (new_geometry layout size)) (get_replicate 1 0 _ slot h) (notes_do_fit layout stamp size)
slot_fits layout stamp size (suc index) slot h = subst (FitsSlot (new_geometry layout size)) (get_replicate (slots_of layout - 1) index (unused_slot (512 * record_length_of layout)) slot h) (unused_fits layout size)

pub slots_can : (layout : NewLayout) (stamp : Stamp) (size : ℕ) (group : List ℕ) (sequence : ℕ) → CanBeSlots (new_geometry layout size) group sequence (slots_of_new layout stamp)
slots_can Small stamp size group sequence = record { each = λ index slot h. slot_can Small stamp size _ index slot h }
slots_can Large stamp size group sequence = record { each = λ index slot h. slot_can Large stamp size _ index slot h }

pub slots_fit : (layout : NewLayout) (stamp : Stamp) (size : ℕ) → DoFit (new_geometry layout size) (slots_of_new layout stamp)
slots_fit layout stamp size = record { each = λ index slot h. slot_fits layout stamp size index slot h }

-- there are as many as their section has room for
pub slots_counted : (layout : NewLayout) (stamp : Stamp) → length (slots_of_new layout stamp) ≡ records_sectors layout / record_length_of layout
slots_counted Small stamp = refl
slots_counted Large stamp = refl
