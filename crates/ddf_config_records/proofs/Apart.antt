-- The record of an element is never notes: where the first note has a zero, an element has its count of members.
use Rattle.std.proofs.Common.{◌≡◌, ℕ, zero, suc, ◌+◌, ◌<◌, ◌≤◌, true, false, ◌&&◌, eqb, leb, IsTrue, List, length, drop, subst, arith}
use Rattle.std.specs.Prelude.{slice_index}
use Rattle.std.specs.List.{list_all, range_with_len}
use Rattle.std.specs.Int.{w16}
use Rattle.std.proofs.lemmas.Bool.{eqb-true, leb-true, false_from_ne_true}
use Rattle.ddf_lemmas.proofs.Tests.{both_parts}
use Rattle.ddf_bytes.specs.Bytes.{number_at}
use Rattle.ddf_seal.proofs.Placing.{get_or-bytes_at}
use Rattle.ddf_header.specs.declared.geometry.Geometry.{Geometry}
use Rattle.ddf_config_records.specs.declared.layout.TheConstants.{MEMBERS_AT, NOTES_AT, NOTE_ZERO_AT}
use Rattle.ddf_config_records.specs.ElementValue.{ElementValue}
use Rattle.ddf_config_records.specs.Elements.{IsElementOf}
use Rattle.ddf_config_records.specs.NoteRecords.{note_place, is_note, is_headed, is_notes}
use Rattle.ddf_config_records.proofs.ElementRecords.{has_members}
use Rattle.ddf_config_records.proofs.NoteRecords.{first_place}

-- what the first note of notes has
first_note : (most m : ℕ) (bytes : List ℕ) → is_notes most (suc m) bytes ≡ true → (slice_index bytes NOTES_AT ≤ 1) × (slice_index bytes (NOTES_AT + NOTE_ZERO_AT) ≡ 0)
unfolding is_notes
first_note most m bytes h =
    let at = note_place most (suc m) in
    let each = list_all (λ slot. is_note bytes (note_place most slot)) (range_with_len 0 (suc m)) in
    let filled = list_all (λ x. eqb x 255) (drop at bytes) in
    let top = both_parts (is_headed most (suc m) bytes) (leb at (length bytes) && (each && filled)) h in
    let body = both_parts (leb at (length bytes)) (each && filled) top.1 in
    let notes = both_parts each filled body.1 in
    let one = both_parts (is_note bytes (note_place most 0)) (list_all (λ slot. is_note bytes (note_place most slot)) (range_with_len (0 + 1) m)) notes.0 in
    let first : IsTrue (is_note bytes NOTES_AT) = subst (λ (k : ℕ). IsTrue (is_note bytes k)) (first_place most) one.0 in
    let flag = both_parts (leb (slice_index bytes NOTES_AT) 1) (eqb (slice_index bytes (NOTES_AT + NOTE_ZERO_AT)) 0) first in
    (leb-true (slice_index bytes NOTES_AT) 1 flag.0, eqb-true (slice_index bytes (NOTES_AT + NOTE_ZERO_AT)) 0 flag.1)

pub element_no_notes : (signature : ℕ) (geometry : Geometry) (count : ℕ) (element : ElementValue) (bytes : List ℕ) → 0 < count → IsElementOf signature geometry element bytes → is_notes geometry.max_members count bytes ≡ false
element_no_notes signature geometry zero element bytes some is = absurd (omega arith)
element_no_notes signature geometry (suc m) element bytes some is =
    false_from_ne_true (is_notes geometry.max_members (suc m) bytes) (λ yes.
    let note = first_note geometry.max_members m bytes yes in
    let flag = note.0 in
    let none = note.1 in
    let members = has_members geometry.max_members (length element.members) element.strip element.level element.elements element.index element.block_size is.is_element in
    let number : number_at w16 bytes MEMBERS_AT ≡ length element.members = is.is_record.fields_stand.1.1.1.0 in
    let high = get_or-bytes_at bytes MEMBERS_AT 2 0 0 (omega arith) in
    let low = get_or-bytes_at bytes MEMBERS_AT 2 1 0 (omega arith) in
    omega (arith, high, low, number, flag, none, members.present, members.few))
