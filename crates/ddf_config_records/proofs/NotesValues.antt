-- Whole notes records, both ways.
use Rattle.std.proofs.Common.{◌≡◌, ℕ, ◌-◌, ◌*◌, ◌/◌, ◌≤◌, true, ◌&&◌, eqb, leb, IsTrue, List, [], ◌∷◌, ◌++◌, length, take, drop, replicate, refl, sym, ◌∙◌, ap, subst, arith}
use Rattle.std.specs.Prelude.{codes}
use Rattle.std.specs.List.{AllByRecursion, list_all, range_with_len}
use Rattle.std.specs.Int.{w16}
use Rattle.std.specs.Str.{bytes_eq}
use Rattle.std.proofs.lemmas.Bool.{eq-eqb, eqb-true, leb-true, le-leb}
use Rattle.std.proofs.lemmas.List.{take_rest, length-drop, length-replicate}
use Rattle.std.proofs.lemmas.Slice.Eq.{bytes_eq-Decides}
use Rattle.ddf_lemmas.proofs.Tests.{both_parts}
use Rattle.ddf_lemmas.proofs.Lists.{all_append}
use Rattle.ddf_bytes.specs.Bytes.{bytes_at, number_at}
use Rattle.ddf_seal.specs.Seal.{IsSealed, seal_place}
use Rattle.ddf_seal.specs.Unread.{AreBytes, Stands, cleared, places}
use Rattle.ddf_seal.specs.Records.{record_bytes}
use Rattle.ddf_seal.proofs.Placing.{length-bytes_at}
use Rattle.ddf_seal.proofs.Records.{record_again, record_from_bytes, record_written, length-record_bytes}
use Rattle.ddf_header.specs.declared.geometry.Geometry.{Geometry}
use Rattle.ddf_config_records.specs.declared.notes.SlotNote.{SlotNote}
use Rattle.ddf_config_records.specs.declared.notes.Notes.{Notes}
use Rattle.ddf_config_records.specs.declared.layout.TheConstants.{NOTES_NAME_AT, NOTES_SLOTS_AT, NOTES_MEMBERS_AT, NOTES_ZEROS_AT, NOTES_AT}
use Rattle.ddf_config_records.specs.Elements.{record_size}
use Rattle.ddf_config_records.specs.Vendors.{vendor_signature}
use Rattle.ddf_config_records.specs.NoteRecords.{note_place, all_note_fields, head_fields, filling, notes_fields, CanBeNotes, IsNotesOf, is_note, is_headed, is_named, has_numbers, is_notes, notes_of_slots, notes_at}
use Rattle.ddf_config_records.proofs.Tiles.{AreTiles, tiles_within, tiles_apart, tiles_cleared}
use Rattle.ddf_config_records.proofs.NoteRecords.{all-split, all_are, are_all, notes_tiles, length-notes_of_slots, slots_stand, slots_rise, slots_read, slots_test}
use Rattle.ddf_config_records.proofs.Spans.{both}

-- ---- the filling

behind_is : (at : ℕ) (bytes : List ℕ) (size : ℕ) → length bytes ≡ size → bytes_at bytes at (size - at) ≡ drop at bytes
behind_is at bytes size h = ap (λ (n : ℕ). take (n - at) (drop at bytes)) (sym h) ∙ take_rest bytes at

filling_stands : (most size count : ℕ) (bytes : List ℕ) → length bytes ≡ size → IsTrue (list_all (λ x. eqb x 255) (drop (note_place most count) bytes)) → Stands bytes (filling most size count)
filling_stands most size count bytes h test =
    let at = note_place most count in
    let len : length (drop at bytes) ≡ size - at = length-drop at bytes ∙ ap (λ (n : ℕ). n - at) h in
    behind_is at bytes size h ∙ all_are 255 (drop at bytes) test ∙ ap (λ (n : ℕ). replicate n 255) len

filling_test : (most size count : ℕ) (bytes : List ℕ) → length bytes ≡ size → Stands bytes (filling most size count) → IsTrue (list_all (λ x. eqb x 255) (drop (note_place most count) bytes))
filling_test most size count bytes h stands =
    let at = note_place most count in
    let same : replicate (size - at) 255 ≡ drop at bytes = sym stands ∙ behind_is at bytes size h in
    subst (λ (l : List ℕ). IsTrue (list_all (λ x. eqb x 255) l)) same (are_all 255 (size - at))

-- ---- reading

pub notes_at_is : (geometry : Geometry) (count : ℕ) (bytes : List ℕ) → length bytes ≡ record_size geometry → AreBytes bytes → IsSealed vendor_signature bytes → 8 * (geometry.max_members / 8) ≡ geometry.max_members
    → is_notes geometry.max_members count bytes ≡ true → IsNotesOf geometry count (notes_at geometry.max_members count bytes) bytes
unfolding is_notes is_named has_numbers
notes_at_is geometry count bytes size are sealed whole test =
    let most = geometry.max_members in
    let at = note_place most count in
    let slots = notes_of_slots most count bytes in
    let notes = notes_at most count bytes in
    let named = bytes_eq (bytes_at bytes NOTES_NAME_AT 8) (codes "RDDFNOTE") in
    let zeros = list_all (λ x. eqb x 0) (bytes_at bytes NOTES_ZEROS_AT 16) in
    let each = list_all (λ slot. is_note bytes (note_place most slot)) (range_with_len 0 count) in
    let filled = list_all (λ x. eqb x 255) (drop at bytes) in
    let top = both_parts (is_headed most count bytes) (leb at (length bytes) && (each && filled)) test in
    let head = both_parts named (has_numbers most count bytes && zeros) top.0 in
    let numbers = both_parts (has_numbers most count bytes) zeros head.1 in
    let counts = both_parts (eqb (number_at w16 bytes NOTES_SLOTS_AT) count) (eqb (number_at w16 bytes NOTES_MEMBERS_AT) most) numbers.0 in
    let body = both_parts (leb at (length bytes)) (each && filled) top.1 in
    let body2 = both_parts each filled body.1 in
    let fits : at ≤ length bytes = leb-true at (length bytes) body.0 in
    let long : NOTES_AT ≤ length bytes = omega arith in
    let counted : length slots ≡ count = length-notes_of_slots most count bytes in
    let room : at ≤ record_size geometry = omega arith in
    let name : bytes_at bytes NOTES_NAME_AT 8 ≡ codes "RDDFNOTE" = (bytes_eq-Decides (bytes_at bytes NOTES_NAME_AT 8) (codes "RDDFNOTE")).0 head.0 in
    let number : number_at w16 bytes NOTES_SLOTS_AT ≡ length slots = eqb-true (number_at w16 bytes NOTES_SLOTS_AT) count counts.0 ∙ sym counted in
    let allowed : number_at w16 bytes NOTES_MEMBERS_AT ≡ most = eqb-true (number_at w16 bytes NOTES_MEMBERS_AT) most counts.1 in
    let none : bytes_at bytes NOTES_ZEROS_AT 16 ≡ replicate 16 0 = all_are 0 (bytes_at bytes NOTES_ZEROS_AT 16) numbers.1 ∙ ap (λ (n : ℕ). replicate n 0) (length-bytes_at bytes NOTES_ZEROS_AT 16 (omega arith)) in
    let head_stands : AllByRecursion (Stands bytes) (head_fields most notes) = (refl, (name, (refl, (number, (allowed, (none, tt)))))) in
    let last : Stands bytes (filling most (record_size geometry) (length slots)) =
    subst (λ (n : ℕ). Stands bytes (filling most (record_size geometry) n)) (sym counted) (filling_stands most (record_size geometry) count bytes size body2.1) in
    let tail = all_append (Stands bytes) (all_note_fields most NOTES_AT slots) (filling most (record_size geometry) (length slots) ∷ []) (slots_stand most count bytes body2.0 fits are whole) (last, tt) in
    let spans = seal_place ∷ places (notes_fields most (record_size geometry) notes) in
    let tiles = notes_tiles most (record_size geometry) notes (subst (λ (n : ℕ). note_place most n ≤ record_size geometry) (sym counted) room) in
    record {
      size = size;
      counted = counted;
      room = room;
      rising = slots_rise most count bytes;
      is_record = record {
        are_bytes = are;
        is_sealed = sealed;
        fields_stand = all_append (Stands bytes) (head_fields most notes) (all_note_fields most NOTES_AT slots ++ filling most (record_size geometry) (length slots) ∷ []) head_stands tail;
        others_stay = ap (λ (n : ℕ). replicate n 0) (sym size) ∙ sym (tiles_cleared spans bytes (subst (λ (n : ℕ). AreTiles 0 spans n) (sym size) tiles));
      };
    }

make_notes : (group : List ℕ) (sequence : ℕ) (slots : List SlotNote) → Notes
make_notes group sequence slots = record { group = group; sequence = sequence; slots = slots }

same_notes : (a b : Notes) → a.group ≡ b.group → a.sequence ≡ b.sequence → a.slots ≡ b.slots → a ≡ b
unfolding make_notes
same_notes a b e1 e2 e3 =
    let all : make_notes a.group a.sequence a.slots ≡ make_notes b.group b.sequence b.slots = cc in
    all

pub notes_is : (geometry : Geometry) (count : ℕ) (notes : Notes) (bytes : List ℕ) → 8 * (geometry.max_members / 8) ≡ geometry.max_members → IsNotesOf geometry count notes bytes → notes_at geometry.max_members count bytes ≡ notes
notes_is geometry count notes bytes whole is =
    let most = geometry.max_members in
    let parts = all-split (Stands bytes) (head_fields most notes) (all_note_fields most NOTES_AT notes.slots ++ filling most (record_size geometry) (length notes.slots) ∷ []) is.is_record.fields_stand in
    let tail = all-split (Stands bytes) (all_note_fields most NOTES_AT notes.slots) (filling most (record_size geometry) (length notes.slots) ∷ []) parts.1 in
    let slots : notes_of_slots most count bytes ≡ notes.slots = ap (λ (n : ℕ). notes_of_slots most n bytes) (sym is.counted) ∙ slots_read most bytes notes.slots tail.0 is.rising whole in
    same_notes (notes_at most count bytes) notes parts.0.0 parts.0.1.1.0 slots

pub notes_are_notes : (geometry : Geometry) (count : ℕ) (notes : Notes) (bytes : List ℕ) → IsNotesOf geometry count notes bytes → is_notes geometry.max_members count bytes ≡ true
unfolding is_notes is_named has_numbers
notes_are_notes geometry count notes bytes is =
    let most = geometry.max_members in
    let at = note_place most count in
    let parts = all-split (Stands bytes) (head_fields most notes) (all_note_fields most NOTES_AT notes.slots ++ filling most (record_size geometry) (length notes.slots) ∷ []) is.is_record.fields_stand in
    let tail = all-split (Stands bytes) (all_note_fields most NOTES_AT notes.slots) (filling most (record_size geometry) (length notes.slots) ∷ []) parts.1 in
    let named = bytes_eq (bytes_at bytes NOTES_NAME_AT 8) (codes "RDDFNOTE") in
    let zeros = list_all (λ x. eqb x 0) (bytes_at bytes NOTES_ZEROS_AT 16) in
    let each = list_all (λ slot. is_note bytes (note_place most slot)) (range_with_len 0 count) in
    let filled = list_all (λ x. eqb x 255) (drop at bytes) in
    let name : IsTrue named = (bytes_eq-Decides (bytes_at bytes NOTES_NAME_AT 8) (codes "RDDFNOTE")).1 parts.0.1.0 in
    let number : IsTrue (eqb (number_at w16 bytes NOTES_SLOTS_AT) count) = eq-eqb (number_at w16 bytes NOTES_SLOTS_AT) count (parts.0.1.1.1.0 ∙ is.counted) in
    let allowed : IsTrue (eqb (number_at w16 bytes NOTES_MEMBERS_AT) most) = eq-eqb (number_at w16 bytes NOTES_MEMBERS_AT) most parts.0.1.1.1.1.0 in
    let none : IsTrue zeros = subst (λ (l : List ℕ). IsTrue (list_all (λ x. eqb x 0) l)) (sym parts.0.1.1.1.1.1.0) (are_all 0 16) in
    let all : IsTrue each = subst (λ (n : ℕ). IsTrue (list_all (λ slot. is_note bytes (note_place most slot)) (range_with_len 0 n))) is.counted (slots_test most bytes notes.slots tail.0) in
    let last : IsTrue filled = filling_test most (record_size geometry) count bytes is.size (subst (λ (n : ℕ). Stands bytes (filling most (record_size geometry) n)) is.counted tail.1.0) in
    let fits : IsTrue (leb at (length bytes)) = le-leb at (length bytes) (omega (arith, is.room, is.size)) in
    both (is_headed most count bytes) (leb at (length bytes) && (each && filled))
    (both named (has_numbers most count bytes && zeros) name (both (has_numbers most count bytes) zeros (both (eqb (number_at w16 bytes NOTES_SLOTS_AT) count) (eqb (number_at w16 bytes NOTES_MEMBERS_AT) most) number allowed) none))
    (both (leb at (length bytes)) (each && filled) fits (both each filled all last))

-- ---- writing

pub slots_room : (geometry : Geometry) (count : ℕ) (notes : Notes) → length notes.slots ≡ count → note_place geometry.max_members count ≤ record_size geometry → note_place geometry.max_members (length notes.slots) ≤ record_size geometry
slots_room geometry count notes counted room = subst (λ (n : ℕ). note_place geometry.max_members n ≤ record_size geometry) (sym counted) room

pub notes_again : (geometry : Geometry) (count : ℕ) (notes : Notes) (bytes : List ℕ) → IsNotesOf geometry count notes bytes
    → record_bytes vendor_signature (notes_fields geometry.max_members (record_size geometry) notes) (replicate (record_size geometry) 0) ≡ bytes
notes_again geometry count notes bytes is =
    let fields = notes_fields geometry.max_members (record_size geometry) notes in
    let tiles = notes_tiles geometry.max_members (record_size geometry) notes (slots_room geometry count notes is.counted is.room) in
    let within = tiles_within 0 (record_size geometry) (length bytes) (seal_place ∷ places fields) tiles (omega (arith, is.size)) in
    record_again vendor_signature fields (replicate (record_size geometry) 0) bytes within is.is_record

pub can_be_notes : (geometry : Geometry) (count : ℕ) (notes : Notes) (bytes : List ℕ) → IsNotesOf geometry count notes bytes → CanBeNotes geometry count notes
can_be_notes geometry count notes bytes is =
    let fields = notes_fields geometry.max_members (record_size geometry) notes in
    let tiles = notes_tiles geometry.max_members (record_size geometry) notes (slots_room geometry count notes is.counted is.room) in
    let within = tiles_within 0 (record_size geometry) (length bytes) (seal_place ∷ places fields) tiles (omega (arith, is.size)) in
    record {
      counted = is.counted;
      room = is.room;
      rising = is.rising;
      fields_fit = (record_from_bytes vendor_signature fields (replicate (record_size geometry) 0) bytes within is.is_record).fields_fit;
    }

pub notes_length : (geometry : Geometry) (count : ℕ) (notes : Notes) → CanBeNotes geometry count notes
    → length (record_bytes vendor_signature (notes_fields geometry.max_members (record_size geometry) notes) (replicate (record_size geometry) 0)) ≡ record_size geometry
notes_length geometry count notes can =
    let size = record_size geometry in
    let fields = notes_fields geometry.max_members size notes in
    let zeros : List ℕ = replicate size 0 in
    let len : length zeros ≡ size = length-replicate {A = ℕ} size 0 in
    let tiles = notes_tiles geometry.max_members size notes (slots_room geometry count notes can.counted can.room) in
    length-record_bytes vendor_signature fields zeros (tiles_within 0 size (length zeros) (seal_place ∷ places fields) tiles (omega (arith, len))) can.fields_fit ∙ len

pub notes_written : (geometry : Geometry) (count : ℕ) (notes : Notes) → CanBeNotes geometry count notes
    → AreBytes (record_bytes vendor_signature (notes_fields geometry.max_members (record_size geometry) notes) (replicate (record_size geometry) 0))
    → IsNotesOf geometry count notes (record_bytes vendor_signature (notes_fields geometry.max_members (record_size geometry) notes) (replicate (record_size geometry) 0))
notes_written geometry count notes can are =
    let size = record_size geometry in
    let fields = notes_fields geometry.max_members size notes in
    let zeros : List ℕ = replicate size 0 in
    let len : length zeros ≡ size = length-replicate {A = ℕ} size 0 in
    let spans = seal_place ∷ places fields in
    let tiles = notes_tiles geometry.max_members size notes (slots_room geometry count notes can.counted can.room) in
    let within = tiles_within 0 size (length zeros) spans tiles (omega (arith, len)) in
    let clear : cleared spans zeros ≡ zeros = tiles_cleared spans zeros (subst (λ (n : ℕ). AreTiles 0 spans n) (sym len) tiles) ∙ ap (λ (n : ℕ). replicate n 0) len in
    record {
      size = length-record_bytes vendor_signature fields zeros within can.fields_fit ∙ len;
      counted = can.counted;
      room = can.room;
      rising = can.rising;
      is_record = record_written vendor_signature fields zeros within (tiles_apart 0 size spans tiles) (record { fields_fit = can.fields_fit; others_clear = clear }) are;
    }
