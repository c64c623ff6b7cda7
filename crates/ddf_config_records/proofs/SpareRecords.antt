-- The value of a spare record: what is read from bytes is it, and it is the only one.
use Rattle.std.proofs.Common.{◌≡◌, ℕ, zero, suc, ◌+◌, ◌-◌, ◌*◌, ◌/◌, ◌<◌, ◌≤◌, min, List, [], ◌∷◌, length, map, refl, sym, ◌∙◌, ap, subst, arith, inr}
use Rattle.std.specs.List.{AllByRecursion, range_with_len}
use Rattle.std.specs.Int.{w16, from_be_bytes}
use Rattle.ddf_bytes.specs.Bytes.{number_at}
use Rattle.ddf_seal.specs.declared.unread.Span.{Span}
use Rattle.ddf_seal.specs.Seal.{IsSealed, seal_place}
use Rattle.ddf_seal.specs.Unread.{AreBytes, Stands, cleared, places}
use Rattle.ddf_seal.specs.Records.{IsRecordOf, record_bytes}
use Rattle.ddf_seal.proofs.Same.{AreWithin, IsOutsideAll, cleared_outside, bytes_at-same}
use Rattle.ddf_seal.proofs.Records.{AreAllApart, apart_from_test, record_again, record_from_bytes, record_written, length-record_bytes}
use Rattle.ddf_header.specs.declared.geometry.Geometry.{Geometry}
use Rattle.ddf_config_records.specs.declared.spare.SpareRecord.{SpareRecord}
use Rattle.ddf_config_records.specs.declared.layout.TheConstants.{SPARE_TIMESTAMP_AT, SPARE_KIND_AT, SPARE_POPULATED_AT, SPARE_ENTRIES_AT, SPARE_ENTRY_BYTES}
use Rattle.ddf_config_records.specs.Elements.{record_size}
use Rattle.ddf_config_records.specs.Spares.{spare_signature, entry_fields, spare_fields, spare_count, spare_rest, spare_at, array_at, arrays_at, CanBeSpare, IsSpareOf}
use Rattle.ddf_config_records.proofs.Spans.{within-append, apart-append}
use Rattle.ddf_config_records.proofs.Spares.{length-arrays_at, entries_within, entries_from, entries_apart, entries_outside, spare_head_within}

-- ---- entries

stand_from : (bytes : List ℕ) (k count : ℕ) → AllByRecursion (Stands bytes) (entry_fields (SPARE_ENTRIES_AT + SPARE_ENTRY_BYTES * k) (map (array_at bytes) (range_with_len k count)))
stand_from bytes k zero = tt
stand_from bytes k (suc count) =
    let next : SPARE_ENTRIES_AT + SPARE_ENTRY_BYTES * (k + 1) ≡ SPARE_ENTRIES_AT + SPARE_ENTRY_BYTES * k + SPARE_ENTRY_BYTES = omega arith in
    (refl, subst (λ (at : ℕ). AllByRecursion (Stands bytes) (entry_fields at (map (array_at bytes) (range_with_len (k + 1) count)))) next (stand_from bytes (k + 1) count))

entries_stand : (bytes : List ℕ) (count : ℕ) → AllByRecursion (Stands bytes) (entry_fields SPARE_ENTRIES_AT (arrays_at bytes count))
unfolding arrays_at
entries_stand bytes count = stand_from bytes 0 count

read_from : (bytes : List ℕ) (k : ℕ) (guids : List (List ℕ)) → AllByRecursion (Stands bytes) (entry_fields (SPARE_ENTRIES_AT + SPARE_ENTRY_BYTES * k) guids) → map (array_at bytes) (range_with_len k (length guids)) ≡ guids
read_from bytes k [] h = refl
read_from bytes k (guid ∷ guids) h =
    let next : SPARE_ENTRIES_AT + SPARE_ENTRY_BYTES * k + SPARE_ENTRY_BYTES ≡ SPARE_ENTRIES_AT + SPARE_ENTRY_BYTES * (k + 1) = omega arith in
    let rest = read_from bytes (k + 1) guids (subst (λ (at : ℕ). AllByRecursion (Stands bytes) (entry_fields at guids)) next h.1) in
    ap (λ (first : List ℕ). first ∷ map (array_at bytes) (range_with_len (k + 1) (length guids))) h.0 ∙ ap (λ (l : List (List ℕ)). guid ∷ l) rest

entries_read : (bytes : List ℕ) (guids : List (List ℕ)) → AllByRecursion (Stands bytes) (entry_fields SPARE_ENTRIES_AT guids) → arrays_at bytes (length guids) ≡ guids
unfolding arrays_at
entries_read bytes guids h = read_from bytes 0 guids h

-- ---- places

pub spare_within : (spare : SpareRecord) (size : ℕ) → 512 ≤ size → SPARE_ENTRIES_AT + SPARE_ENTRY_BYTES * length spare.arrays ≤ size → AreWithin size (seal_place ∷ places (spare_fields spare))
spare_within spare size long room =
    within-append size (seal_place ∷ record { at = SPARE_TIMESTAMP_AT; length = 4 } ∷ record { at = SPARE_KIND_AT; length = 1 } ∷ []) (places (entry_fields SPARE_ENTRIES_AT spare.arrays)) (spare_head_within size long) (entries_within SPARE_ENTRIES_AT size spare.arrays room)

spare_apart : (spare : SpareRecord) → AreAllApart (seal_place ∷ places (spare_fields spare))
spare_apart spare =
    let head : List Span = seal_place ∷ record { at = SPARE_TIMESTAMP_AT; length = 4 } ∷ record { at = SPARE_KIND_AT; length = 1 } ∷ [] in
    apart-append SPARE_ENTRIES_AT head (places (entry_fields SPARE_ENTRIES_AT spare.arrays)) (omega arith, (omega arith, (omega arith, tt))) (entries_from SPARE_ENTRIES_AT SPARE_ENTRIES_AT spare.arrays (omega arith)) (apart_from_test head refl) (entries_apart SPARE_ENTRIES_AT spare.arrays)

-- as many entries as are read fit the record
pub count_fits : (bytes : List ℕ) → SPARE_ENTRIES_AT ≤ length bytes → SPARE_ENTRIES_AT + SPARE_ENTRY_BYTES * spare_count bytes ≤ length bytes
count_fits bytes long = omega arith

-- no field is in the place of the populated count
pub count_outside : (spare : SpareRecord) (i : ℕ) → SPARE_POPULATED_AT ≤ i → i < SPARE_POPULATED_AT + 2 → IsOutsideAll (seal_place ∷ places (spare_fields spare)) i
count_outside spare i low high = (inr (omega arith), (inr (omega arith), (inr (omega arith), entries_outside SPARE_ENTRIES_AT i spare.arrays (omega arith))))

-- the rest has the populated count of the bytes
pub count_same : (spare : SpareRecord) (bytes : List ℕ) → 512 ≤ length bytes → SPARE_ENTRIES_AT + SPARE_ENTRY_BYTES * length spare.arrays ≤ length bytes → IsRecordOf spare_signature (spare_fields spare) spare.rest bytes → spare_count spare.rest ≡ spare_count bytes
count_same spare bytes long room is =
    let spans = seal_place ∷ places (spare_fields spare) in
    let outside = cleared_outside spans bytes (spare_within spare (length bytes) long room) in
    let number : number_at w16 (cleared spans bytes) SPARE_POPULATED_AT ≡ number_at w16 bytes SPARE_POPULATED_AT =
    ap (from_be_bytes w16) (bytes_at-same (IsOutsideAll spans) (cleared spans bytes) bytes (record { at = SPARE_POPULATED_AT; length = 2 }) (omega arith) (count_outside spare) outside) in
    ap spare_count is.others_stay ∙ ap (λ (n : ℕ). min n ((length (cleared spans bytes) - SPARE_ENTRIES_AT) / SPARE_ENTRY_BYTES)) number ∙ ap (λ (n : ℕ). min (number_at w16 bytes SPARE_POPULATED_AT) ((n - SPARE_ENTRIES_AT) / SPARE_ENTRY_BYTES)) outside.size

-- ---- both ways

pub spare_at_is : (geometry : Geometry) (bytes : List ℕ) → length bytes ≡ record_size geometry → AreBytes bytes → IsSealed spare_signature bytes → IsSpareOf geometry (spare_at bytes) bytes
unfolding spare_rest
spare_at_is geometry bytes size are sealed = record {
  size = size;
  is_record = record {
    are_bytes = are;
    is_sealed = sealed;
    fields_stand = (refl, (refl, entries_stand bytes (spare_count bytes)));
    others_stay = refl;
  };
  counted = length-arrays_at bytes (spare_count bytes);
}

make_spare : (timestamp kind : ℕ) (arrays : List (List ℕ)) (rest : List ℕ) → SpareRecord
make_spare timestamp kind arrays rest = record { timestamp = timestamp; kind = kind; arrays = arrays; rest = rest }

same_spare : (a b : SpareRecord) → a.timestamp ≡ b.timestamp → a.kind ≡ b.kind → a.arrays ≡ b.arrays → a.rest ≡ b.rest → a ≡ b
unfolding make_spare
same_spare a b e1 e2 e3 e4 =
    let all : make_spare a.timestamp a.kind a.arrays a.rest ≡ make_spare b.timestamp b.kind b.arrays b.rest = cc in
    all

pub spare_is : (geometry : Geometry) (spare : SpareRecord) (bytes : List ℕ) → IsSpareOf geometry spare bytes → spare_at bytes ≡ spare
unfolding spare_rest
spare_is geometry spare bytes is =
    let timestamp = is.is_record.fields_stand in
    let kind = timestamp.1 in
    let arrays : arrays_at bytes (spare_count bytes) ≡ spare.arrays = ap (arrays_at bytes) (sym is.counted) ∙ entries_read bytes spare.arrays kind.1 in
    let rest : spare_rest bytes ≡ spare.rest =
    ap (λ (guids : List (List ℕ)). cleared (seal_place ∷ places (spare_fields (record spare { arrays = guids }))) bytes) arrays ∙ sym is.is_record.others_stay in
    same_spare (spare_at bytes) spare timestamp.0 kind.0 arrays rest

-- ---- writing

room_of : (geometry : Geometry) (spare : SpareRecord) (bytes : List ℕ) → 512 ≤ length bytes → length spare.arrays ≡ spare_count bytes → SPARE_ENTRIES_AT + SPARE_ENTRY_BYTES * length spare.arrays ≤ length bytes
room_of geometry spare bytes long counted = let fits = count_fits bytes (omega arith) in omega arith

pub spare_again : (geometry : Geometry) (spare : SpareRecord) (bytes : List ℕ) → 512 ≤ record_size geometry → IsSpareOf geometry spare bytes → record_bytes spare_signature (spare_fields spare) spare.rest ≡ bytes
spare_again geometry spare bytes long is =
    let long_now : 512 ≤ length bytes = omega (arith, is.size) in
    record_again spare_signature (spare_fields spare) spare.rest bytes (spare_within spare (length bytes) long_now (room_of geometry spare bytes long_now is.counted)) is.is_record

pub can_be_spare : (geometry : Geometry) (spare : SpareRecord) (bytes : List ℕ) → 512 ≤ record_size geometry → IsSpareOf geometry spare bytes → CanBeSpare geometry spare
can_be_spare geometry spare bytes long is =
    let long_now : 512 ≤ length bytes = omega (arith, is.size) in
    let room = room_of geometry spare bytes long_now is.counted in
    let within = spare_within spare (length bytes) long_now room in
    record {
      size = ap length is.is_record.others_stay ∙ (cleared_outside (seal_place ∷ places (spare_fields spare)) bytes within).size ∙ is.size;
      counted = is.counted ∙ sym (count_same spare bytes long_now room is.is_record);
      is_record = record_from_bytes spare_signature (spare_fields spare) spare.rest bytes within is.is_record;
    }

pub spare_length : (geometry : Geometry) (spare : SpareRecord) → 512 ≤ record_size geometry → CanBeSpare geometry spare → length (record_bytes spare_signature (spare_fields spare) spare.rest) ≡ record_size geometry
spare_length geometry spare long can =
    let long_now : 512 ≤ length spare.rest = omega (arith, can.size) in
    let within = spare_within spare (length spare.rest) long_now (room_of geometry spare spare.rest long_now can.counted) in
    length-record_bytes spare_signature (spare_fields spare) spare.rest within can.is_record.fields_fit ∙ can.size

pub spare_written : (geometry : Geometry) (spare : SpareRecord) → 512 ≤ record_size geometry → CanBeSpare geometry spare → AreBytes (record_bytes spare_signature (spare_fields spare) spare.rest)
    → IsSpareOf geometry spare (record_bytes spare_signature (spare_fields spare) spare.rest)
spare_written geometry spare long can are =
    let fields = spare_fields spare in
    let bytes = record_bytes spare_signature fields spare.rest in
    let long_now : 512 ≤ length spare.rest = omega (arith, can.size) in
    let room = room_of geometry spare spare.rest long_now can.counted in
    let within = spare_within spare (length spare.rest) long_now room in
    let size = length-record_bytes spare_signature fields spare.rest within can.is_record.fields_fit in
    let is = record_written spare_signature fields spare.rest within (spare_apart spare) can.is_record are in
    record {
      size = size ∙ can.size;
      is_record = is;
      counted = can.counted ∙ count_same spare bytes (omega (arith, size)) (omega (arith, size)) is;
    }
