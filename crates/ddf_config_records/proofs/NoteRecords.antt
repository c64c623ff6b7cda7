-- The value of a notes record: what is read from bytes is it, and it is the only one.
use Rattle.std.proofs.Common.{◌≡◌, ℕ, zero, suc, ◌+◌, ◌*◌, ◌/◌, ◌<◌, ◌≤◌, Bool, true, false, cond, eqb, leb, IsTrue, List, [], ◌∷◌, ◌++◌, length, map, take, replicate, get_or, refl, sym, ◌∙◌, ap, subst, arith}
use Rattle.std.specs.Prelude.{slice_index}
use Rattle.std.specs.List.{AllByRecursion, list_all, range_with_len}
use Rattle.std.proofs.lemmas.Bool.{eq-eqb, eqb-true, leb-true}
use Rattle.std.proofs.lemmas.List.{append-nil, append_assoc, map-append, take_more, length-take-le}
use Rattle.std.proofs.lemmas.List.FromFn.{length-map-range_with_len, map-range_with_len_more}
use Rattle.ddf_lemmas.proofs.Tests.{both_parts}
use Rattle.ddf_lemmas.proofs.Lists.{all_append}
use Rattle.ddf_bytes.specs.Bytes.{bytes_at}
use Rattle.ddf_seal.specs.declared.unread.Span.{Span}
use Rattle.ddf_seal.specs.Seal.{seal_place}
use Rattle.ddf_seal.specs.Unread.{AreBytes, Field, Stands, place_of, places, written}
use Rattle.ddf_seal.proofs.Placing.{length-bytes_at}
use Rattle.ddf_seal.proofs.Spelled.{AreBytes-bytes_at}
use Rattle.ddf_config_records.specs.declared.notes.SlotNote.{SlotNote}
use Rattle.ddf_config_records.specs.declared.notes.Notes.{Notes}
use Rattle.ddf_config_records.specs.declared.layout.TheConstants.{NOTES_AT, NOTE_ZERO_AT, NOTE_BITS_AT}
use Rattle.ddf_config_records.specs.Bits.{positions, bits_of, IsRising}
use Rattle.ddf_config_records.specs.NoteRecords.{note_size, note_place, note_fields, all_note_fields, filling, notes_fields, is_note, note_at, notes_of_slots}
use Rattle.ddf_config_records.proofs.Bits.{positions_rise, positions_of_bits, bits_of_positions}
use Rattle.ddf_config_records.proofs.Spares.{written-append}
use Rattle.ddf_config_records.proofs.Tiles.{AreTiles, tiles-append}
use Rattle.ddf_config_records.proofs.Spans.{both}

-- ---- lists

pub all-split : (P : Field → Type 0) (a b : List Field) → AllByRecursion P (a ++ b) → AllByRecursion P a × AllByRecursion P b
all-split P [] b h = (tt, h)
all-split P (field ∷ a) b h = let rest = all-split P a b h.1 in ((h.0, rest.0), rest.1)

pub all_are : (v : ℕ) (xs : List ℕ) → IsTrue (list_all (λ x. eqb x v) xs) → xs ≡ replicate (length xs) v
all_are v [] h = refl
all_are v (x ∷ xs) h =
    let parts = both_parts (eqb x v) (list_all (λ y. eqb y v) xs) h in
    ap (λ (n : ℕ). n ∷ xs) (eqb-true x v parts.0) ∙ ap (λ (l : List ℕ). v ∷ l) (all_are v xs parts.1)

pub are_all : (v n : ℕ) → IsTrue (list_all (λ x. eqb x v) (replicate n v))
are_all v zero = refl
are_all v (suc n) = both (eqb v v) (list_all (λ x. eqb x v) (replicate n v)) (eq-eqb v v refl) (are_all v n)

-- ---- the places fill the record

places-append : (a b : List Field) → places (a ++ b) ≡ places a ++ places b
places-append a b = map-append place_of a b

note_tiles : (most at : ℕ) (note : SlotNote) → AreTiles at (places (note_fields most at note)) (at + note_size most)
note_tiles most at note = (refl, (omega arith, (omega arith, (omega arith, (omega arith, (omega arith, omega arith))))))

all_tiles : (most at : ℕ) (notes : List SlotNote) → AreTiles at (places (all_note_fields most at notes)) (at + length notes * note_size most)
all_tiles most at [] = omega arith
all_tiles most at (note ∷ notes) =
    let last : at + note_size most + length notes * note_size most ≡ at + suc (length notes) * note_size most = omega arith in
    subst (λ (spans : List Span). AreTiles at spans (at + suc (length notes) * note_size most)) (sym (places-append (note_fields most at note) (all_note_fields most (at + note_size most) notes)))
    (tiles-append at (at + note_size most) (at + suc (length notes) * note_size most) (places (note_fields most at note)) (places (all_note_fields most (at + note_size most) notes)) (note_tiles most at note)
    (subst (λ (to : ℕ). AreTiles (at + note_size most) (places (all_note_fields most (at + note_size most) notes)) to) last (all_tiles most (at + note_size most) notes)))

pub notes_tiles : (most size : ℕ) (notes : Notes) → note_place most (length notes.slots) ≤ size → AreTiles 0 (seal_place ∷ places (notes_fields most size notes)) size
notes_tiles most size notes le =
    let all = all_note_fields most NOTES_AT notes.slots in
    let last = filling most size (length notes.slots) in
    let behind : AreTiles NOTES_AT (places all ++ places (last ∷ [])) size =
    tiles-append NOTES_AT (NOTES_AT + length notes.slots * note_size most) size (places all) (places (last ∷ [])) (all_tiles most NOTES_AT notes.slots) (refl, omega arith) in
    (refl, (refl, (refl, (refl, (refl, (refl, (refl, subst (λ (spans : List Span). AreTiles NOTES_AT spans size) (sym (places-append all (last ∷ []))) behind)))))))

-- ---- a note

flag_is : (x : ℕ) → x ≤ 1 → x ≡ cond (eqb x 1) 1 0
flag_is zero le = refl
flag_is (suc zero) le = refl
flag_is (suc (suc x)) le = absurd (omega arith)

flag_of : (b : Bool) → eqb (cond b 1 0) 1 ≡ b
flag_of true = refl
flag_of false = refl

flag_small : (b : Bool) → leb (cond b 1 0) 1 ≡ true
flag_small true = refl
flag_small false = refl

note_stands : (most : ℕ) (bytes : List ℕ) (at : ℕ) → IsTrue (is_note bytes at) → at + note_size most ≤ length bytes → AreBytes bytes → 8 * (most / 8) ≡ most
    → AllByRecursion (Stands bytes) (note_fields most at (note_at most bytes at))
unfolding note_at
note_stands most bytes at h within are whole =
    let flag = slice_index bytes at in
    let first = both_parts (leb flag 1) (eqb (slice_index bytes (at + NOTE_ZERO_AT)) 0) h in
    let bits = bytes_at bytes (at + NOTE_BITS_AT) (most / 8) in
    let size : length bits ≡ most / 8 = length-bytes_at bytes (at + NOTE_BITS_AT) (most / 8) (omega arith) in
    let same : bits ≡ bits_of (most / 8) (positions most bits) = sym (bits_of_positions most bits whole size (AreBytes-bytes_at bytes (at + NOTE_BITS_AT) (most / 8) (omega arith) are)) in
    (flag_is flag (leb-true flag 1 first.0), (eqb-true (slice_index bytes (at + NOTE_ZERO_AT)) 0 first.1, (refl, (refl, (refl, (same, tt))))))

make_note : (copied : Bool) (position stand_in row : ℕ) (out : List ℕ) → SlotNote
make_note copied position stand_in row out = record { copied = copied; position = position; stand_in = stand_in; row = row; out = out }

same_note : (a b : SlotNote) → a.copied ≡ b.copied → a.position ≡ b.position → a.stand_in ≡ b.stand_in → a.row ≡ b.row → a.out ≡ b.out → a ≡ b
unfolding make_note
same_note a b e1 e2 e3 e4 e5 =
    let all : make_note a.copied a.position a.stand_in a.row a.out ≡ make_note b.copied b.position b.stand_in b.row b.out = cc in
    all

note_read : (most : ℕ) (bytes : List ℕ) (at : ℕ) (note : SlotNote) → AllByRecursion (Stands bytes) (note_fields most at note) → IsRising most note.out → 8 * (most / 8) ≡ most → note_at most bytes at ≡ note
unfolding note_at
note_read most bytes at note h rising whole =
    let copied : eqb (slice_index bytes at) 1 ≡ note.copied = ap (λ (n : ℕ). eqb n 1) h.0 ∙ flag_of note.copied in
    let out : positions most (bytes_at bytes (at + NOTE_BITS_AT) (most / 8)) ≡ note.out = ap (positions most) h.1.1.1.1.1.0 ∙ positions_of_bits most note.out whole rising in
    same_note (note_at most bytes at) note copied h.1.1.0 h.1.1.1.0 h.1.1.1.1.0 out

note_is_note : (most : ℕ) (bytes : List ℕ) (at : ℕ) (note : SlotNote) → AllByRecursion (Stands bytes) (note_fields most at note) → IsTrue (is_note bytes at)
note_is_note most bytes at note h =
    both (leb (slice_index bytes at) 1) (eqb (slice_index bytes (at + NOTE_ZERO_AT)) 0)
    (ap (λ (n : ℕ). leb n 1) h.0 ∙ flag_small note.copied)
    (eq-eqb (slice_index bytes (at + NOTE_ZERO_AT)) 0 h.1.0)

-- ---- all notes

next_place : (most k : ℕ) → note_place most (k + 1) ≡ note_place most k + note_size most
next_place most k = omega arith

room_for : (most k count size : ℕ) → note_place most (k + suc count) ≤ size → note_place most k + note_size most ≤ size
room_for most k count size le =
    let n = note_size most in
    let more : (k + suc count) * n ≡ k * n + n + count * n = omega arith in
    omega arith

notes_stand_from : (most : ℕ) (bytes : List ℕ) (k count : ℕ) → IsTrue (list_all (λ slot. is_note bytes (note_place most slot)) (range_with_len k count)) → note_place most (k + count) ≤ length bytes → AreBytes bytes
    → 8 * (most / 8) ≡ most → AllByRecursion (Stands bytes) (all_note_fields most (note_place most k) (map (λ slot. note_at most bytes (note_place most slot)) (range_with_len k count)))
notes_stand_from most bytes k zero h within are whole = tt
notes_stand_from most bytes k (suc count) h within are whole =
    let parts = both_parts (is_note bytes (note_place most k)) (list_all (λ slot. is_note bytes (note_place most slot)) (range_with_len (k + 1) count)) h in
    let rest = map (λ slot. note_at most bytes (note_place most slot)) (range_with_len (k + 1) count) in
    let fits : note_place most k + note_size most ≤ length bytes = room_for most k count (length bytes) within in
    let more : note_place most (k + 1 + count) ≤ length bytes = subst (λ (n : ℕ). note_place most n ≤ length bytes) (omega arith) within in
    all_append (Stands bytes) (note_fields most (note_place most k) (note_at most bytes (note_place most k))) (all_note_fields most (note_place most k + note_size most) rest)
    (note_stands most bytes (note_place most k) parts.0 fits are whole)
    (subst (λ (at : ℕ). AllByRecursion (Stands bytes) (all_note_fields most at rest)) (next_place most k) (notes_stand_from most bytes (k + 1) count parts.1 more are whole))

notes_rise_from : (most : ℕ) (bytes : List ℕ) (k count : ℕ) → AllByRecursion (λ note. IsRising most note.out) (map (λ slot. note_at most bytes (note_place most slot)) (range_with_len k count))
unfolding note_at
notes_rise_from most bytes k zero = tt
notes_rise_from most bytes k (suc count) = (positions_rise most (bytes_at bytes (note_place most k + NOTE_BITS_AT) (most / 8)), notes_rise_from most bytes (k + 1) count)

notes_read_from : (most : ℕ) (bytes : List ℕ) (k : ℕ) (notes : List SlotNote) → AllByRecursion (Stands bytes) (all_note_fields most (note_place most k) notes) → AllByRecursion (λ note. IsRising most note.out) notes
    → 8 * (most / 8) ≡ most → map (λ slot. note_at most bytes (note_place most slot)) (range_with_len k (length notes)) ≡ notes
notes_read_from most bytes k [] h rising whole = refl
notes_read_from most bytes k (note ∷ notes) h rising whole =
    let parts = all-split (Stands bytes) (note_fields most (note_place most k) note) (all_note_fields most (note_place most k + note_size most) notes) h in
    let behind = subst (λ (at : ℕ). AllByRecursion (Stands bytes) (all_note_fields most at notes)) (sym (next_place most k)) parts.1 in
    let one = note_read most bytes (note_place most k) note parts.0 rising.0 whole in
    let rest = notes_read_from most bytes (k + 1) notes behind rising.1 whole in
    ap (λ (first : SlotNote). first ∷ map (λ slot. note_at most bytes (note_place most slot)) (range_with_len (k + 1) (length notes))) one ∙ ap (λ (l : List SlotNote). note ∷ l) rest

notes_test_from : (most : ℕ) (bytes : List ℕ) (k : ℕ) (notes : List SlotNote) → AllByRecursion (Stands bytes) (all_note_fields most (note_place most k) notes)
    → IsTrue (list_all (λ slot. is_note bytes (note_place most slot)) (range_with_len k (length notes)))
notes_test_from most bytes k [] h = refl
notes_test_from most bytes k (note ∷ notes) h =
    let parts = all-split (Stands bytes) (note_fields most (note_place most k) note) (all_note_fields most (note_place most k + note_size most) notes) h in
    let behind = subst (λ (at : ℕ). AllByRecursion (Stands bytes) (all_note_fields most at notes)) (sym (next_place most k)) parts.1 in
    both (is_note bytes (note_place most k)) (list_all (λ slot. is_note bytes (note_place most slot)) (range_with_len (k + 1) (length notes)))
    (note_is_note most bytes (note_place most k) note parts.0) (notes_test_from most bytes (k + 1) notes behind)

pub length-notes_of_slots : (most count : ℕ) (bytes : List ℕ) → length (notes_of_slots most count bytes) ≡ count
unfolding notes_of_slots
length-notes_of_slots most count bytes = length-map-range_with_len (λ slot. note_at most bytes (note_place most slot)) 0 count

pub notes_of_slots_none : (most : ℕ) (bytes : List ℕ) → notes_of_slots most 0 bytes ≡ []
unfolding notes_of_slots
notes_of_slots_none most bytes = refl

pub notes_of_slots_more : (most count : ℕ) (bytes : List ℕ) → notes_of_slots most (count + 1) bytes ≡ notes_of_slots most count bytes ++ note_at most bytes (note_place most count) ∷ []
unfolding notes_of_slots
notes_of_slots_more most count bytes = map-range_with_len_more (λ slot. note_at most bytes (note_place most slot)) 0 count count (omega arith)

pub first_place : (most : ℕ) → note_place most 0 ≡ NOTES_AT
first_place most = omega arith

pub slots_stand : (most count : ℕ) (bytes : List ℕ) → IsTrue (list_all (λ slot. is_note bytes (note_place most slot)) (range_with_len 0 count)) → note_place most count ≤ length bytes → AreBytes bytes → 8 * (most / 8) ≡ most
    → AllByRecursion (Stands bytes) (all_note_fields most NOTES_AT (notes_of_slots most count bytes))
unfolding notes_of_slots
slots_stand most count bytes h within are whole =
    let all : note_place most (0 + count) ≤ length bytes = subst (λ (n : ℕ). note_place most n ≤ length bytes) (omega arith) within in
    subst (λ (at : ℕ). AllByRecursion (Stands bytes) (all_note_fields most at (notes_of_slots most count bytes))) (first_place most) (notes_stand_from most bytes 0 count h all are whole)

pub slots_rise : (most count : ℕ) (bytes : List ℕ) → AllByRecursion (λ note. IsRising most note.out) (notes_of_slots most count bytes)
unfolding notes_of_slots
slots_rise most count bytes = notes_rise_from most bytes 0 count

pub slots_read : (most : ℕ) (bytes : List ℕ) (notes : List SlotNote) → AllByRecursion (Stands bytes) (all_note_fields most NOTES_AT notes) → AllByRecursion (λ note. IsRising most note.out) notes → 8 * (most / 8) ≡ most
    → notes_of_slots most (length notes) bytes ≡ notes
unfolding notes_of_slots
slots_read most bytes notes h rising whole =
    notes_read_from most bytes 0 notes (subst (λ (at : ℕ). AllByRecursion (Stands bytes) (all_note_fields most at notes)) (sym (first_place most)) h) rising whole

pub slots_test : (most : ℕ) (bytes : List ℕ) (notes : List SlotNote) → AllByRecursion (Stands bytes) (all_note_fields most NOTES_AT notes) → IsTrue (list_all (λ slot. is_note bytes (note_place most slot)) (range_with_len 0 (length notes)))
slots_test most bytes notes h = notes_test_from most bytes 0 notes (subst (λ (at : ℕ). AllByRecursion (Stands bytes) (all_note_fields most at notes)) (sym (first_place most)) h)

-- ---- one more note

all_note_fields_more : (most at : ℕ) (notes : List SlotNote) (note : SlotNote) → all_note_fields most at (notes ++ note ∷ []) ≡ all_note_fields most at notes ++ note_fields most (at + length notes * note_size most) note
all_note_fields_more most at [] note =
    let here : at ≡ at + 0 * note_size most = omega arith in
    append-nil (note_fields most at note) ∙ ap (λ (k : ℕ). note_fields most k note) here
all_note_fields_more most at (other ∷ notes) note =
    let there : at + note_size most + length notes * note_size most ≡ at + suc (length notes) * note_size most = omega arith in
    ap (λ (l : List Field). note_fields most at other ++ l) (all_note_fields_more most (at + note_size most) notes note)
    ∙ sym (append_assoc (note_fields most at other) (all_note_fields most (at + note_size most) notes) (note_fields most (at + note_size most + length notes * note_size most) note))
    ∙ ap (λ (k : ℕ). (note_fields most at other ++ all_note_fields most (at + note_size most) notes) ++ note_fields most k note) there

pub written_note_more : (most : ℕ) (bytes : List ℕ) (notes : List SlotNote) (i : ℕ) (d : SlotNote) → i < length notes
    → written (note_fields most (note_place most i) (get_or notes i d)) (written (all_note_fields most NOTES_AT (take i notes)) bytes) ≡ written (all_note_fields most NOTES_AT (take (i + 1) notes)) bytes
written_note_more most bytes notes i d lt =
    let done = take i notes in
    let one = get_or notes i d in
    let len : length done ≡ i = length-take-le i notes (omega arith) in
    ap (λ (n : ℕ). written (note_fields most (NOTES_AT + n * note_size most) one) (written (all_note_fields most NOTES_AT done) bytes)) (sym len)
    ∙ sym (written-append (all_note_fields most NOTES_AT done) (note_fields most (NOTES_AT + length done * note_size most) one) bytes)
    ∙ ap (λ (fields : List Field). written fields bytes) (sym (all_note_fields_more most NOTES_AT done one) ∙ ap (all_note_fields most NOTES_AT) (sym (take_more notes i d lt)))
