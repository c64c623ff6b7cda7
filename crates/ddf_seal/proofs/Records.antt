-- A record's bytes, taken apart into fields and unread bytes and put together again, under its seal.
use Rattle.std.proofs.Common.{◌≡◌, ℕ, ◌+◌, ◌<◌, ◌≤◌, ◌⊎◌, Bool, true, false, ◌&&◌, ◌||◌, leb, IsTrue, List, [], ◌∷◌, length, replicate, refl, sym, ◌∙◌, ap, subst, arith, inl, inr}
use Rattle.std.specs.List.{AllByRecursion, list_all}
use Rattle.std.specs.Int.{w32, to_be_bytes}
use Rattle.std.proofs.lemmas.Bool.{leb-true}
use Rattle.ddf_lemmas.proofs.Tests.{both_parts}
use Rattle.ddf_seal.specs.declared.unread.Span.{Span}
use Rattle.ddf_seal.specs.declared.sealing.TheConstants.{SIGNATURE_AT, CRC_AT}
use Rattle.ddf_seal.specs.Crc.{crc_of}
use Rattle.ddf_seal.specs.Seal.{IsSealed, sealed, record_crc, seal_place}
use Rattle.ddf_seal.specs.Unread.{Field, place_of, places, bytes_of, Stands, Fits, AreBytes, placed, written, cleared}
use Rattle.ddf_seal.specs.Records.{IsRowOf, IsRecordOf, IsRow, IsRecord, record_bytes}
use Rattle.ddf_seal.proofs.Placing.{length-bytes_at}
use Rattle.ddf_seal.proofs.Same.{IsOutside, IsOutsideAll, AreWithin, SameAt, SameAt-then, SameAt-fewer, SameAt-all, placed_outside, placed_same, placed_again, bytes_at-placed, bytes_at-same, cleared_outside, cleared_same, cleared-cleared}
use Rattle.ddf_seal.proofs.Spelled.{IsSpelled, all_spelled_from_stands, all_stand_from_spelled, all_fit_from_stand, length-bytes_of}

-- ---- from the bytes to the value and back

-- The fields that stand in the bytes, written into bytes that are the same elsewhere, make the bytes.
pub written_same : (fields : List Field) (P : ℕ → Type 0) (a b : List ℕ) → AreWithin (length b) (places fields) → AllByRecursion (IsSpelled b) fields
    → SameAt (λ i. IsOutsideAll (places fields) i × P i) a b → SameAt P (written fields a) b
written_same [] P a b within spelled h = SameAt-fewer (λ i. Unit {0} × P i) P a b (λ i p. (tt, p)) h
written_same (field ∷ fields) P a b within spelled h =
    let span = place_of field in
    let new = bytes_of field in
    let len : length new ≡ span.length = ap length (sym spelled.0) ∙ length-bytes_at b span.at span.length within.0 in
    let moved = SameAt-fewer (λ i. IsOutsideAll (places (field ∷ fields)) i × P i) (λ i. IsOutside span i × (IsOutsideAll (places fields) i × P i)) a b (λ i out. ((out.0, out.1.0), out.1.1)) h in
    let one = placed_same (λ i. IsOutsideAll (places fields) i × P i) a b span new len within.0 moved in
    written_same fields P (placed a span.at new) b within.1 spelled.1
    (subst (λ l. SameAt (λ i. IsOutsideAll (places fields) i × P i) (placed a span.at new) l) (placed_again b span new spelled.0 within.0) one)

-- Writing back what was read over the unread bytes gives the bytes again.
pub written-cleared : (fields : List Field) (bytes : List ℕ) → AreWithin (length bytes) (places fields) → AreBytes bytes → AllByRecursion (Stands bytes) fields
    → written fields (cleared (places fields) bytes) ≡ bytes
written-cleared fields bytes within fits stand =
    let unread = cleared (places fields) bytes in
    SameAt-all (written fields unread) bytes
    (written_same fields (λ _. Unit {0}) unread bytes within (all_spelled_from_stands bytes fields fits within stand)
    (SameAt-fewer (IsOutsideAll (places fields)) (λ i. IsOutsideAll (places fields) i × Unit {0}) unread bytes (λ i out. out.0) (cleared_outside (places fields) bytes within)))

-- the CRC does not depend on its own four bytes
pub record_crc_same : (a b : List ℕ) → 8 ≤ length b → SameAt (IsOutside (record { at = CRC_AT; length = 4 })) a b → record_crc a ≡ record_crc b
unfolding placed
record_crc_same a b long h =
    let span : Span = record { at = CRC_AT; length = 4 } in
    let all = placed_same (λ _. Unit {0}) a b span (replicate 4 255) refl long (SameAt-fewer (IsOutside span) (λ i. IsOutside span i × Unit {0}) a b (λ i out. out.0) h) in
    ap crc_of (SameAt-all (placed a CRC_AT (replicate 4 255)) (placed b CRC_AT (replicate 4 255)) all)

-- the seal that stands in the bytes, put before bytes that are the same from byte 8 on, makes the bytes
pub sealed_same : (signature : ℕ) (a b : List ℕ) → 8 ≤ length b → IsSealed signature b → SameAt (IsOutside seal_place) a b → sealed signature a ≡ b
unfolding placed
sealed_same signature a b long is h =
    let first : Span = record { at = SIGNATURE_AT; length = 4 } in
    let second : Span = record { at = CRC_AT; length = 4 } in
    let mark = to_be_bytes w32 signature in
    let signed = placed a SIGNATURE_AT mark in
    let apart = SameAt-fewer (IsOutside seal_place) (λ i. IsOutside first i × IsOutside second i) a b
    (λ i out. elim out.1 [ inl lt ↦ absurd (elim out.0 [ inl none ↦ omega arith | inr le ↦ omega arith ]) | inr le ↦ inr le ]) h in
    let one = placed_same (IsOutside second) a b first mark refl (omega arith) apart in
    let signed_same : SameAt (IsOutside second) signed b = subst (λ l. SameAt (IsOutside second) signed l) (placed_again b first mark is.signature_stands (omega arith)) one in
    let crc = record_crc_same signed b long signed_same in
    let number = to_be_bytes w32 (record_crc b) in
    let two = placed_same (λ _. Unit {0}) signed b second number refl (omega arith) (SameAt-fewer (IsOutside second) (λ i. IsOutside second i × Unit {0}) signed b (λ i out. out.0) signed_same) in
    ap (λ n. placed signed CRC_AT (to_be_bytes w32 n)) crc ∙ SameAt-all (placed signed CRC_AT number) (placed b CRC_AT number) two ∙ placed_again b second number is.crc_stands (omega arith)

-- ---- from a value to the bytes and back

-- two spans that share no byte
abbrev pub AreApart : Span → Span → Type 0
AreApart a b = (a.at + a.length ≤ b.at) ⊎ (b.at + b.length ≤ a.at)

-- each span shares no byte with a later one
abbrev pub AreAllApart : List Span → Type 0
AreAllApart [] = Unit {0}
AreAllApart (span ∷ spans) = AllByRecursion (AreApart span) spans × AreAllApart spans

-- the same as a test
abbrev pub is_apart : Span → Span → Bool
is_apart a b = leb (a.at + a.length) b.at || leb (b.at + b.length) a.at

abbrev pub are_apart : List Span → Bool
are_apart [] = true
are_apart (span ∷ spans) = list_all (is_apart span) spans && are_apart spans

either_true : (a b : Bool) → IsTrue (a || b) → IsTrue a ⊎ IsTrue b
either_true true b h = inl refl
either_true false b h = inr h

apart_from_one : (span : Span) (spans : List Span) → IsTrue (list_all (is_apart span) spans) → AllByRecursion (AreApart span) spans
apart_from_one span [] h = tt
apart_from_one span (other ∷ spans) h =
    let parts = both_parts (is_apart span other) (list_all (is_apart span) spans) h in (
      elim (either_true (leb (span.at + span.length) other.at) (leb (other.at + other.length) span.at) parts.0) [
        | inl le ↦ inl (leb-true (span.at + span.length) other.at le)
        | inr le ↦ inr (leb-true (other.at + other.length) span.at le)
      ],
      apart_from_one span spans parts.1,
    )

pub apart_from_test : (spans : List Span) → IsTrue (are_apart spans) → AreAllApart spans
apart_from_test [] h = tt
apart_from_test (span ∷ spans) h =
    let parts = both_parts (list_all (is_apart span) spans) (are_apart spans) h in
    (apart_from_one span spans parts.0, apart_from_test spans parts.1)

outside_one : (a b : Span) (i : ℕ) → AreApart a b → a.at ≤ i → i < a.at + a.length → IsOutside b i
outside_one a b i apart low high = elim apart [ inl le ↦ inl (omega arith) | inr le ↦ inr (omega arith) ]

outside_others : (span : Span) (spans : List Span) (i : ℕ) → AllByRecursion (AreApart span) spans → span.at ≤ i → i < span.at + span.length → IsOutsideAll spans i
outside_others span [] i apart low high = tt
outside_others span (other ∷ spans) i apart low high = (outside_one span other i apart.0 low high, outside_others span spans i apart.1 low high)

-- what is written changes nothing outside the places
pub written_outside : (fields : List Field) (bytes : List ℕ) → AreWithin (length bytes) (places fields) → AllByRecursion Fits fields → SameAt (IsOutsideAll (places fields)) (written fields bytes) bytes
written_outside [] bytes within fit = record { size = refl; same = λ _ _. refl }
written_outside (field ∷ fields) bytes within fit =
    let span = place_of field in
    let now = placed bytes span.at (bytes_of field) in
    let one = placed_outside bytes span (bytes_of field) (length-bytes_of field fit.0) within.0 in
    let rest = written_outside fields now (subst (λ n. AreWithin n (places fields)) (sym one.size) within.1) fit.1 in
    SameAt-then (IsOutsideAll (places (field ∷ fields))) (written fields now) now bytes
    (SameAt-fewer (IsOutsideAll (places fields)) (IsOutsideAll (places (field ∷ fields))) (written fields now) now (λ i out. out.1) rest)
    (SameAt-fewer (IsOutside span) (IsOutsideAll (places (field ∷ fields))) now bytes (λ i out. out.0) one)

-- each field stands in what is written
pub written_spelled : (fields : List Field) (bytes : List ℕ) → AreWithin (length bytes) (places fields) → AreAllApart (places fields) → AllByRecursion Fits fields → AllByRecursion (IsSpelled (written fields bytes)) fields
written_spelled [] bytes within apart fit = tt
written_spelled (field ∷ fields) bytes within apart fit =
    let span = place_of field in
    let now = placed bytes span.at (bytes_of field) in
    let len = length-bytes_of field fit.0 in
    let one = placed_outside bytes span (bytes_of field) len within.0 in
    let within_now : AreWithin (length now) (places fields) = subst (λ n. AreWithin n (places fields)) (sym one.size) within.1 in
    let kept = bytes_at-same (IsOutsideAll (places fields)) (written fields now) now span (subst (λ n. span.at + span.length ≤ n) (sym one.size) within.0)
    (λ i low high. outside_others span (places fields) i apart.0 low high) (written_outside fields now within_now fit.1) in
    (kept ∙ bytes_at-placed bytes span (bytes_of field) len within.0, written_spelled fields now within_now apart.1 fit.1)

-- what stands in bytes stands in bytes that are the same in its place
pub spelled_kept : (P : ℕ → Type 0) (a b : List ℕ) (fields : List Field) → AreWithin (length b) (places fields) → AllByRecursion (λ field. (i : ℕ) → (place_of field).at ≤ i → i < (place_of field).at + (place_of field).length → P i) fields
    → SameAt P a b → AllByRecursion (IsSpelled b) fields → AllByRecursion (IsSpelled a) fields
spelled_kept P a b [] within inside h spelled = tt
spelled_kept P a b (field ∷ fields) within inside h spelled =
    (bytes_at-same P a b (place_of field) within.0 inside.0 h ∙ spelled.0, spelled_kept P a b fields within.1 inside.1 h spelled.1)

-- a seal changes nothing from byte 8 on
pub sealed_outside : (signature : ℕ) (bytes : List ℕ) → 8 ≤ length bytes → SameAt (IsOutside seal_place) (sealed signature bytes) bytes
unfolding placed
sealed_outside signature bytes long =
    let first : Span = record { at = SIGNATURE_AT; length = 4 } in
    let second : Span = record { at = CRC_AT; length = 4 } in
    let mark = to_be_bytes w32 signature in
    let signed = placed bytes SIGNATURE_AT mark in
    let one = placed_outside bytes first mark refl (omega arith) in
    let number = to_be_bytes w32 (record_crc signed) in
    let long_now : 8 ≤ length signed = omega (arith, one.size) in
    let two = placed_outside signed second number refl long_now in
    SameAt-then (IsOutside seal_place) (placed signed CRC_AT number) signed bytes
    (SameAt-fewer (IsOutside second) (IsOutside seal_place) (placed signed CRC_AT number) signed (λ i out. elim out [ inl none ↦ inl (omega arith) | inr le ↦ inr le ]) two)
    (SameAt-fewer (IsOutside first) (IsOutside seal_place) signed bytes (λ i out. elim out [ inl none ↦ inl none | inr le ↦ inr (omega arith) ]) one)

-- sealed bytes are sealed
pub sealed_is : (signature : ℕ) (bytes : List ℕ) → 8 ≤ length bytes → IsSealed signature (sealed signature bytes)
unfolding placed
sealed_is signature bytes long =
    let first : Span = record { at = SIGNATURE_AT; length = 4 } in
    let second : Span = record { at = CRC_AT; length = 4 } in
    let mark = to_be_bytes w32 signature in
    let signed = placed bytes SIGNATURE_AT mark in
    let one = placed_outside bytes first mark refl (omega arith) in
    let number = to_be_bytes w32 (record_crc signed) in
    let long_now : 8 ≤ length signed = omega (arith, one.size) in
    let two = placed_outside signed second number refl long_now in
    record {
      signature_stands = bytes_at-same (IsOutside second) (placed signed CRC_AT number) signed first (omega arith) (λ i low high. inl (omega arith)) two ∙ bytes_at-placed bytes first mark refl (omega arith);
      crc_stands = bytes_at-placed signed second number refl long_now ∙ ap (to_be_bytes w32) (sym (record_crc_same (placed signed CRC_AT number) signed long_now two));
    }

-- ---- whole rows and records

-- The fields that stand in a row, written over its other bytes, make the row again.
pub row_again : (fields : List Field) (rest bytes : List ℕ) → AreWithin (length bytes) (places fields) → IsRowOf fields rest bytes → written fields rest ≡ bytes
row_again fields rest bytes within is = ap (written fields) is.others_stay ∙ written-cleared fields bytes within is.are_bytes is.fields_stand

-- The same of a record, under its seal.
pub record_again : (signature : ℕ) (fields : List Field) (rest bytes : List ℕ) → AreWithin (length bytes) (seal_place ∷ places fields) → IsRecordOf signature fields rest bytes
    → record_bytes signature fields rest ≡ bytes
record_again signature fields rest bytes within is =
    let unread = cleared (seal_place ∷ places fields) bytes in
    let outside = SameAt-fewer (IsOutsideAll (seal_place ∷ places fields)) (λ i. IsOutsideAll (places fields) i × IsOutside seal_place i) unread bytes (λ i out. (out.1, out.0)) (cleared_outside (seal_place ∷ places fields) bytes within) in
    ap (record_bytes signature fields) is.others_stay
    ∙ sealed_same signature (written fields unread) bytes within.0 is.is_sealed
    (written_same fields (IsOutside seal_place) unread bytes within.1 (all_spelled_from_stands bytes fields is.are_bytes within.1 is.fields_stand) outside)

-- What was read can be written.
pub row_from_bytes : (fields : List Field) (rest bytes : List ℕ) → AreWithin (length bytes) (places fields) → IsRowOf fields rest bytes → IsRow fields rest
row_from_bytes fields rest bytes within is = record {
  fields_fit = all_fit_from_stand bytes fields is.are_bytes within is.fields_stand;
  others_clear = ap (cleared (places fields)) is.others_stay ∙ cleared-cleared (places fields) bytes within ∙ sym is.others_stay;
}

pub record_from_bytes : (signature : ℕ) (fields : List Field) (rest bytes : List ℕ) → AreWithin (length bytes) (seal_place ∷ places fields) → IsRecordOf signature fields rest bytes → IsRecord fields rest
record_from_bytes signature fields rest bytes within is = record {
  fields_fit = all_fit_from_stand bytes fields is.are_bytes within.1 is.fields_stand;
  others_clear = ap (cleared (seal_place ∷ places fields)) is.others_stay ∙ cleared-cleared (seal_place ∷ places fields) bytes within ∙ sym is.others_stay;
}

-- What is written has the values that it was written from.
pub row_written : (fields : List Field) (rest : List ℕ) → AreWithin (length rest) (places fields) → AreAllApart (places fields) → IsRow fields rest → AreBytes (written fields rest)
    → IsRowOf fields rest (written fields rest)
row_written fields rest within apart is are =
    let bytes = written fields rest in
    let outside = written_outside fields rest within is.fields_fit in
    let size : AreWithin (length bytes) (places fields) = subst (λ n. AreWithin n (places fields)) (sym outside.size) within in
    record {
      are_bytes = are;
      fields_stand = all_stand_from_spelled bytes fields size is.fields_fit (written_spelled fields rest within apart is.fields_fit);
      others_stay = sym is.others_clear ∙ sym (SameAt-all (cleared (places fields) bytes) (cleared (places fields) rest)
          (cleared_same (places fields) (λ _. Unit {0}) bytes rest within
          (SameAt-fewer (IsOutsideAll (places fields)) (λ i. IsOutsideAll (places fields) i × Unit {0}) bytes rest (λ i out. out.0) outside)));
    }

apart_is_inside : (fields : List Field) → AllByRecursion (AreApart seal_place) (places fields) → AllByRecursion (λ field. (i : ℕ) → (place_of field).at ≤ i → i < (place_of field).at + (place_of field).length → IsOutside seal_place i) fields
apart_is_inside [] apart = tt
apart_is_inside (field ∷ fields) apart =
    (λ i low high. elim apart.0 [ inl le ↦ inr (omega arith) | inr none ↦ inl (absurd (omega arith)) ], apart_is_inside fields apart.1)

pub length-record_bytes : (signature : ℕ) (fields : List Field) (rest : List ℕ) → AreWithin (length rest) (seal_place ∷ places fields) → AllByRecursion Fits fields → length (record_bytes signature fields rest) ≡ length rest
length-record_bytes signature fields rest within fit =
    let outside = written_outside fields rest within.1 fit in
    let long : 8 ≤ length (written fields rest) = subst (λ n. 8 ≤ n) (sym outside.size) within.0 in
    (sealed_outside signature (written fields rest) long).size ∙ outside.size

pub record_written : (signature : ℕ) (fields : List Field) (rest : List ℕ) → AreWithin (length rest) (seal_place ∷ places fields) → AreAllApart (seal_place ∷ places fields) → IsRecord fields rest
    → AreBytes (record_bytes signature fields rest) → IsRecordOf signature fields rest (record_bytes signature fields rest)
record_written signature fields rest within apart is are =
    let named = written fields rest in
    let bytes = record_bytes signature fields rest in
    let outside = written_outside fields rest within.1 is.fields_fit in
    let long : 8 ≤ length named = subst (λ n. 8 ≤ n) (sym outside.size) within.0 in
    let kept = sealed_outside signature named long in
    let within_named : AreWithin (length named) (places fields) = subst (λ n. AreWithin n (places fields)) (sym outside.size) within.1 in
    let within_bytes : AreWithin (length bytes) (places fields) = subst (λ n. AreWithin n (places fields)) (sym (kept.size ∙ outside.size)) within.1 in
    let spelled = spelled_kept (IsOutside seal_place) bytes named fields within_named (apart_is_inside fields apart.0) kept (written_spelled fields rest within.1 apart.1 is.fields_fit) in
    let all = SameAt-then (IsOutsideAll (seal_place ∷ places fields)) bytes named rest
    (SameAt-fewer (IsOutside seal_place) (IsOutsideAll (seal_place ∷ places fields)) bytes named (λ i out. out.0) kept)
    (SameAt-fewer (IsOutsideAll (places fields)) (IsOutsideAll (seal_place ∷ places fields)) named rest (λ i out. out.1) outside) in
    record {
      are_bytes = are;
      is_sealed = sealed_is signature named long;
      fields_stand = all_stand_from_spelled bytes fields within_bytes is.fields_fit spelled;
      others_stay = sym is.others_clear ∙ sym (SameAt-all (cleared (seal_place ∷ places fields) bytes) (cleared (seal_place ∷ places fields) rest)
          (cleared_same (seal_place ∷ places fields) (λ _. Unit {0}) bytes rest within
          (SameAt-fewer (IsOutsideAll (seal_place ∷ places fields)) (λ i. IsOutsideAll (seal_place ∷ places fields) i × Unit {0}) bytes rest (λ i out. out.0) all)));
    }
