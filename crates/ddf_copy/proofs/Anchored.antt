-- The anchor of a disk shares its bytes with the headers of its copies.
use Rattle.std.proofs.Common.{◌≡◌, ◌⊎◌, ℕ, zero, suc, ◌+◌, ◌<◌, ◌≤◌, ◌^◌, Bool, true, false, not, ◌&&◌, ◌||◌, leb, ltb, List, [], ◌∷◌, length, get_or, Option, Some, None, refl, sym, ap, ◌∙◌, subst, inl, inr, arith, eq-eqb}
use Rattle.std.proofs.lemmas.Bool.{leb-true, ltb-true, and_parts, or_cases}
use Rattle.std.proofs.lemmas.Iterator.Adapters.{position_from-zero}
use Rattle.std.specs.Prelude.{slice_get}
use Rattle.std.specs.List.{AllByRecursion, position_from, range_with_len}
use Rattle.ddf_seal.specs.Seal.{sealed, seal_place}
use Rattle.ddf_seal.specs.Unread.{Field, Fits, bytes_of, place_of, placed, places, written}
use Rattle.ddf_seal.proofs.Records.{sealed_outside, written_outside}
use Rattle.ddf_seal.proofs.Same.{AreWithin, IsOutside, SameAt, SameAt-fewer, SameAt-then, placed_outside, placed_same, within_from_test}
use Rattle.ddf_seal.proofs.Spelled.{length-bytes_of}
use Rattle.ddf_header.specs.declared.kind.HeaderKind.{HeaderKind}
use Rattle.ddf_header.specs.declared.kind.HeaderKind.TheVariants.{Anchor, Primary, Secondary}
use Rattle.ddf_header.specs.declared.reading.Header.{Header}
use Rattle.ddf_header.specs.declared.layout.TheConstants.{GUID_AT, SEQUENCE_AT, OPEN_FLAG_AT, PRIMARY_LBA_AT, KIND_AT, WORKSPACE_LENGTH_AT}
use Rattle.ddf_header.specs.Header.{header_fields, header_signature}
use Rattle.ddf_header.specs.Layout.{kind_code}
use Rattle.ddf_copy.specs.declared.copy.DiskCopy.{DiskCopy}
use Rattle.ddf_copy.specs.declared.which.Which.{Which}
use Rattle.ddf_copy.specs.Gate.{differ_at, first_difference, header_bytes, is_same_byte, is_shared}
use Rattle.ddf_copy.specs.Headers.{anchor_header, closed_header}
use Rattle.ddf_copy.specs.Which.{kind_of}
use Rattle.ddf_copy.specs.Written.{CanBeCopy}

-- ---- fields that differ in some places only

-- two fields are the same, or stand in one place that P leaves out
abbrev AreAlike : (P : ℕ → Type 0) → Field → Field → Type 0
AreAlike P one other = (one ≡ other) ⊎ ((place_of one ≡ place_of other) × ((i : ℕ) → P i → IsOutside (place_of other) i))

abbrev AreAllAlike : (P : ℕ → Type 0) → List Field → List Field → Type 0
AreAllAlike P [] [] = Unit {0}
AreAllAlike P (one ∷ ones) (other ∷ others) = AreAlike P one other × AreAllAlike P ones others
AreAllAlike P ones others = ⊥

SameAt-back : (P : ℕ → Type 0) (a b : List ℕ) → SameAt P a b → SameAt P b a
SameAt-back P a b h = record { size = sym h.size; same = λ i p. sym (h.same i p) }

field_alike : (P : ℕ → Type 0) (one other : Field) (a b : List ℕ) → AreAlike P one other → (place_of other).at + (place_of other).length ≤ length b → Fits one → Fits other → SameAt P a b
    → SameAt P (placed a (place_of one).at (bytes_of one)) (placed b (place_of other).at (bytes_of other))
field_alike P one other a b (inl same) within one_fits other_fits h =
    let span = place_of other in
    let here = placed_same P a b span (bytes_of other) (length-bytes_of other other_fits) within (SameAt-fewer P (λ i. IsOutside span i × P i) a b (λ i p. p.1) h) in
    rw same here
field_alike P one other a b (inr apart) within one_fits other_fits h =
    let span = place_of other in
    let within_a : span.at + span.length ≤ length a = omega (arith, h.size) in
    let one_length : length (bytes_of one) ≡ span.length = length-bytes_of one one_fits ∙ ap (λ s. s.length) apart.0 in
    let first = SameAt-fewer (IsOutside span) P (placed a span.at (bytes_of one)) a apart.1 (placed_outside a span (bytes_of one) one_length within_a) in
    let second = SameAt-fewer (IsOutside span) P (placed b span.at (bytes_of other)) b apart.1 (placed_outside b span (bytes_of other) (length-bytes_of other other_fits) within) in
    rw (ap (λ s. s.at) apart.0)
    (SameAt-then P (placed a span.at (bytes_of one)) a (placed b span.at (bytes_of other)) first
    (SameAt-then P a b (placed b span.at (bytes_of other)) h (SameAt-back P (placed b span.at (bytes_of other)) b second)))

written_alike : (P : ℕ → Type 0) (ones others : List Field) (a b : List ℕ) → AreAllAlike P ones others → AreWithin (length b) (places others) → AllByRecursion Fits ones → AllByRecursion Fits others → SameAt P a b
    → SameAt P (written ones a) (written others b)
written_alike P [] [] a b alike within ones_fit others_fit h = h
written_alike P [] (other ∷ others) a b alike within ones_fit others_fit h = absurd alike
written_alike P (one ∷ ones) [] a b alike within ones_fit others_fit h = absurd alike
written_alike P (one ∷ ones) (other ∷ others) a b alike within ones_fit others_fit h =
    let now = placed b (place_of other).at (bytes_of other) in
    let first = field_alike P one other a b alike.0 within.0 ones_fit.0 others_fit.0 h in
    let size = (placed_outside b (place_of other) (bytes_of other) (length-bytes_of other others_fit.0) within.0).size in
    written_alike P ones others (placed a (place_of one).at (bytes_of one)) now alike.1 (subst (λ n. AreWithin n (places others)) (sym size) within.1) ones_fit.1 others_fit.1 first

-- ---- two headers

-- the offsets of the bytes that headers under one anchor share
abbrev IsShared : ℕ → Type 0
IsShared at = ((GUID_AT ≤ at) × (at < SEQUENCE_AT)) ⊎ ((PRIMARY_LBA_AT ≤ at) × (at < KIND_AT)) ⊎ ((WORKSPACE_LENGTH_AT ≤ at) × (at < 512))

-- the header with another kind, sequence and open flag
abbrev changed : Header → HeaderKind → (sequence openness : ℕ) → Header
changed header kind sequence openness = record header { kind = kind; sequence = sequence; openness = openness }

code_fits : (kind : HeaderKind) → kind_code kind < 2 ^ 8
code_fits Anchor = omega arith
code_fits Primary = omega arith
code_fits Secondary = omega arith

changed_fit : (header : Header) (kind : HeaderKind) (sequence openness : ℕ) → sequence < 2 ^ 32 → openness < 2 ^ 8 → AllByRecursion Fits (header_fields header) → AllByRecursion Fits (header_fields (changed header kind sequence openness))
changed_fit header kind sequence openness sequence_fits openness_fits fit =
    let g = fit.1.1.1.1.1.1 in
    (fit.0, (fit.1.0, (sequence_fits, (fit.1.1.1.0, (openness_fits, (fit.1.1.1.1.1.0, (g.0, (code_fits kind, g.1.1))))))))

are_alike : (header : Header) (one other : HeaderKind) (one_sequence other_sequence one_openness other_openness : ℕ)
    → AreAllAlike IsShared (header_fields (changed header one one_sequence one_openness)) (header_fields (changed header other other_sequence other_openness))
are_alike header one other one_sequence other_sequence one_openness other_openness = (
  inl refl,
  (
    inl refl,
    (
      inr (refl, λ i p. elim p [ inl head ↦ inl head.1 | inr rest ↦ inr (omega (arith, past (SEQUENCE_AT + 4) i (omega arith) rest)) ]),
      (
        inl refl,
        (
          inr (refl, λ i p. elim p [ inl head ↦ inl (omega (arith, head.1)) | inr rest ↦ inr (omega (arith, past (OPEN_FLAG_AT + 1) i (omega arith) rest)) ]),
          (
            inl refl,
            (
              inl refl,
              (
                inr (refl, λ i p. elim p [ inl head ↦ inl (omega (arith, head.1)) | inr rest ↦ elim rest [ inl middle ↦ inl middle.1 | inr tail ↦ inr (omega (arith, tail.0)) ] ]),
                (inl refl, (inl refl, (inl refl, (inl refl, (inl refl, (inl refl, (inl refl, (inl refl, tt)))))))),
              ),
            ),
          ),
        ),
      ),
    ),
  ),
)
  where
    past : (bound i : ℕ) → bound ≤ PRIMARY_LBA_AT → ((PRIMARY_LBA_AT ≤ i) × (i < KIND_AT)) ⊎ ((WORKSPACE_LENGTH_AT ≤ i) × (i < 512)) → bound ≤ i
    past bound i low (inl middle) = omega (arith, low, middle.0)
    past bound i low (inr tail) = omega (arith, low, tail.0)

within : (header : Header) (size : ℕ) → size ≡ 512 → AreWithin size (places (header_fields header))
within header size is = subst (λ n. AreWithin n (places (header_fields header))) (sym is) (within_from_test 512 (places (header_fields header)) refl)

sealed_shared : (bytes : List ℕ) → length bytes ≡ 512 → SameAt IsShared (sealed header_signature bytes) bytes
sealed_shared bytes size =
    SameAt-fewer (IsOutside seal_place) IsShared (sealed header_signature bytes) bytes
    (λ i p. elim p [ inl head ↦ inr head.0 | inr rest ↦ elim rest [ inl middle ↦ inr (omega (arith, middle.0)) | inr tail ↦ inr (omega (arith, tail.0)) ] ])
    (sealed_outside header_signature bytes (omega (arith, size)))

headers_share : (one other : Header) → AreAllAlike IsShared (header_fields one) (header_fields other) → AllByRecursion Fits (header_fields one) → AllByRecursion Fits (header_fields other) → one.rest ≡ other.rest → length other.rest ≡ 512
    → SameAt IsShared (header_bytes one) (header_bytes other)
headers_share one other alike one_fits other_fits same size =
    let first = written (header_fields one) one.rest in
    let second = written (header_fields other) other.rest in
    let one_size : length one.rest ≡ 512 = ap length same ∙ size in
    let one_long = (written_outside (header_fields one) one.rest (within one (length one.rest) one_size) one_fits).size ∙ one_size in
    let other_long = (written_outside (header_fields other) other.rest (within other (length other.rest) size) other_fits).size ∙ size in
    let start : SameAt IsShared one.rest other.rest = record { size = ap length same; same = λ i p. ap (λ l. get_or l i 0) same } in
    let named = written_alike IsShared (header_fields one) (header_fields other) one.rest other.rest alike (within other (length other.rest) size) one_fits other_fits start in
    SameAt-then IsShared (header_bytes one) first (header_bytes other) (sealed_shared first one_long)
    (SameAt-then IsShared first second (header_bytes other) named (SameAt-back IsShared (header_bytes other) second (sealed_shared second other_long)))

-- ---- no difference is found

same_get : (a b : List ℕ) (i : ℕ) → length a ≡ length b → get_or a i 0 ≡ get_or b i 0 → slice_get a i ≡ slice_get b i
same_get [] [] i size same = refl
same_get [] (y ∷ b) i size same = absurd (omega (arith, size))
same_get (x ∷ a) [] i size same = absurd (omega (arith, size))
same_get (x ∷ a) (y ∷ b) zero size same = ap Some same
same_get (x ∷ a) (y ∷ b) (suc i) size same = same_get a b i (omega (arith, size)) same

same_is : (byte : Option ℕ) → is_same_byte byte byte ≡ true
same_is (Some byte) = eq-eqb byte byte refl
same_is None = refl

in_range : (low high at : ℕ) → (leb low at && ltb at high) ≡ true → (low ≤ at) × (at < high)
in_range low high at h =
    let parts = and_parts (leb low at) (ltb at high) h in
    (leb-true low at parts.0, ltb-true at high parts.1)

shared_from : (at : ℕ) → is_shared at ≡ true → IsShared at
shared_from at h =
    elim (or_cases ((leb GUID_AT at && ltb at SEQUENCE_AT) || (leb PRIMARY_LBA_AT at && ltb at KIND_AT)) (leb WORKSPACE_LENGTH_AT at && ltb at 512) h) [
      | inl before ↦ elim (or_cases (leb GUID_AT at && ltb at SEQUENCE_AT) (leb PRIMARY_LBA_AT at && ltb at KIND_AT) before) [
        | inl head ↦ inl (in_range GUID_AT SEQUENCE_AT at head)
        | inr middle ↦ inr (inl (in_range PRIMARY_LBA_AT KIND_AT at middle))
      ]
      | inr tail ↦ inr (inr (in_range WORKSPACE_LENGTH_AT 512 at tail))
    ]

none_differ : (shared same : Bool) → (shared ≡ true → same ≡ true) → (shared && not same) ≡ false
none_differ true same h = rw (h refl) refl
none_differ false same h = refl

none_found : (p : ℕ → Bool) (n from count : ℕ) → ((i : ℕ) → p i ≡ false) → position_from p n (range_with_len from count) ≡ None
none_found p n from zero fails = refl
none_found p n from (suc count) fails = rw (fails from) (none_found p (n + 1) (from + 1) count fails)

no_difference : (one other : List ℕ) → SameAt IsShared one other → first_difference one other ≡ None
unfolding first_difference
no_difference one other same =
    position_from-zero (differ_at one other) (range_with_len 0 512)
    ∙ none_found (differ_at one other) 0 0 512
    (λ at. none_differ (is_shared at) (is_same_byte (slice_get one at) (slice_get other at))
    (λ shared. rw (same_get one other at same.size (same.same at (shared_from at shared))) (same_is (slice_get other at))))

-- The anchor and each header share the bytes that headers are compared by.
pub anchor_shares : (copy : DiskCopy) (which : Which) → CanBeCopy copy → length copy.header.rest ≡ 512 → first_difference (header_bytes (anchor_header copy)) (header_bytes (closed_header copy which)) ≡ None
anchor_shares copy which is size =
    let header = copy.header in
    let fit = is.header_can.is_record.fields_fit in
    let sequence_fits : header.sequence < 2 ^ 32 = fit.1.1.0 in
    no_difference (header_bytes (anchor_header copy)) (header_bytes (closed_header copy which))
    (headers_share (anchor_header copy) (closed_header copy which)
    (are_alike header Anchor (kind_of which) 0xFFFF_FFFF header.sequence 0xFF 0)
    (changed_fit header Anchor 0xFFFF_FFFF 0xFF (omega arith) (omega arith) fit)
    (changed_fit header (kind_of which) header.sequence 0 sequence_fits (omega arith) fit)
    refl size)
