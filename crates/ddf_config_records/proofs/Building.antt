-- Records over the bytes of others can be written.
use Rattle.std.proofs.Common.{◌≡◌, ℕ, zero, suc, ◌+◌, ◌-◌, ◌*◌, ◌/◌, ◌<◌, ◌≤◌, ◌^◌, min, Bool, true, false, ◌||◌, eqb, IsTrue, List, [], ◌∷◌, length, map, take, get_or, refl, sym, ◌∙◌, ap, arith, inl, Option, Some, None}
use Rattle.std.specs.Prelude.{slice_index, is_some, position, slice_get}
use Rattle.std.specs.Option.{option_and_then}
use Rattle.std.specs.List.{AllByRecursion, range_with_len, position_from}
use Rattle.std.specs.Int.{w16, to_be_bytes, from_be_bytes}
use Rattle.std.proofs.lemmas.Bool.{eqb-true, false≢true}
use Rattle.std.proofs.lemmas.Nat.{from_be_bytes-to_be_bytes_2}
use Rattle.std.proofs.lemmas.Iterator.Adapters.{position_from-zero}
use Rattle.std.proofs.lemmas.List.FromFn.{map-range_with_len_more}
use Rattle.ddf_bytes.specs.Bytes.{number_at}
use Rattle.ddf_bytes.specs.Choices.{first_of}
use Rattle.ddf_seal.specs.Seal.{seal_place}
use Rattle.ddf_seal.specs.Unread.{Field, Fits, u16_at, cleared, placed, places, written}
use Rattle.ddf_seal.proofs.Placing.{length-placed}
use Rattle.ddf_seal.proofs.Same.{AreWithin, IsOutsideAll, bytes_at-placed, bytes_at-same, cleared_outside, cleared-cleared}
use Rattle.ddf_seal.proofs.Records.{written_outside}
use Rattle.ddf_header.specs.declared.geometry.Geometry.{Geometry}
use Rattle.ddf_header.specs.Geometry.{IsSound, is_member_maximum, record_sectors}
use Rattle.ddf_config_records.specs.declared.spare.SpareRecord.{SpareRecord}
use Rattle.ddf_config_records.specs.declared.layout.TheConstants.{SPARE_POPULATED_AT, SPARE_MAXIMUM_AT, SPARE_ENTRIES_AT, SPARE_ENTRY_BYTES, SPARE_SECONDARY_AT}
use Rattle.ddf_config_records.specs.ElementValue.{ElementValue}
use Rattle.ddf_config_records.specs.Elements.{record_size, HasRoom, element_fields, element_fault, CanBeElement}
use Rattle.ddf_config_records.specs.Spares.{entry_fields, spare_fields, CanBeSpare}
use Rattle.ddf_config_records.specs.Building.{element_unread, secondary_fields, spare_entries, spare_numbers}
use Rattle.ddf_config_records.proofs.Elements.{element_within}
use Rattle.ddf_config_records.proofs.ElementRecords.{allowed}
use Rattle.ddf_config_records.proofs.Spares.{written-append}
use Rattle.ddf_config_records.proofs.Sound.{room_from_sound}
use Rattle.ddf_config_records.proofs.SpareRecords.{count_outside, spare_within}

-- ---- an element

pub element_over_can : (geometry : Geometry) (bytes : List ℕ) (element : ElementValue) → HasRoom geometry → length bytes ≡ record_size geometry → AllByRecursion Fits (element_fields geometry.max_members element)
    → element_fault geometry.max_members element ≡ None → CanBeElement geometry (record element { rest = element_unread geometry bytes element })
element_over_can geometry bytes element room long fit none =
    let within = element_within geometry.max_members element (length bytes) (allowed geometry element none) (omega (arith, room.whole, long)) in
    let spans = seal_place ∷ places (element_fields geometry.max_members element) in
    record {
      size = (cleared_outside spans bytes within).size ∙ long;
      is_element = none;
      is_record = record { fields_fit = fit; others_clear = cleared-cleared spans bytes within };
    }

-- ---- a spare record

pub secondary_more : (bytes : List ℕ) (i : ℕ) → placed (written (secondary_fields i) bytes) (SPARE_ENTRIES_AT + SPARE_ENTRY_BYTES * i + SPARE_SECONDARY_AT) (to_be_bytes w16 0) ≡ written (secondary_fields (i + 1)) bytes
secondary_more bytes i =
    let place : SPARE_ENTRIES_AT + SPARE_ENTRY_BYTES * i + SPARE_SECONDARY_AT ≡ SPARE_ENTRIES_AT + SPARE_SECONDARY_AT + SPARE_ENTRY_BYTES * i = omega arith in
    ap (λ (at : ℕ). placed (written (secondary_fields i) bytes) at (to_be_bytes w16 0)) place
    ∙ sym (written-append (secondary_fields i) (u16_at (SPARE_ENTRIES_AT + SPARE_SECONDARY_AT + SPARE_ENTRY_BYTES * i) 0 ∷ []) bytes)
    ∙ ap (λ (fields : List Field). written fields bytes) (sym (map-range_with_len_more (λ (index : ℕ). u16_at (SPARE_ENTRIES_AT + SPARE_SECONDARY_AT + SPARE_ENTRY_BYTES * index) 0) 0 i i (omega arith)))

pub all_below : (bound : ℕ) (values : List ℕ) → ((i : ℕ) → slice_index values i < bound) → AllByRecursion (λ value. value < bound) values
all_below bound [] below = tt
all_below bound (value ∷ values) below = (below 0, all_below bound values (λ i. below (suc i)))

-- one more element of which a fact holds
pub all_more : {X : Type 0} (P : ℕ → Type 0) (f : X → ℕ) (xs : List X) (i : ℕ) (d : X) → i < length xs → AllByRecursion P (map f (take i xs)) → P (f (get_or xs i d)) → AllByRecursion P (map f (take (suc i) xs))
all_more P f [] i d lt all one = absurd (omega arith)
all_more P f (x ∷ xs) zero d lt all one = (one, tt)
all_more P f (x ∷ xs) (suc i) d lt all one = (all.0, all_more P f xs i d (omega arith) all.1 one)

-- ---- the arrays of a spare record

pub entries_fit : (at : ℕ) (arrays : List (List ℕ)) → AllByRecursion (λ guid. length guid ≡ 24) arrays → AllByRecursion Fits (entry_fields at arrays)
entries_fit at [] all = tt
entries_fit at (guid ∷ arrays) all = (all.0, entries_fit (at + SPARE_ENTRY_BYTES) arrays all.1)

-- ---- the numbers that are set

-- the secondary elements of so many entries from one on
abbrev secondary_from : (from count : ℕ) → List Field
secondary_from from count = map (λ index. u16_at (SPARE_ENTRIES_AT + SPARE_SECONDARY_AT + SPARE_ENTRY_BYTES * index) 0) (range_with_len from count)

secondary_within : (from count size : ℕ) → SPARE_ENTRIES_AT + SPARE_ENTRY_BYTES * (from + count) ≤ size → AreWithin size (places (secondary_from from count))
secondary_within from zero size le = tt
secondary_within from (suc count) size le = (omega (arith, le), secondary_within (from + 1) count size (omega (arith, le)))

secondary_outside : (from count i : ℕ) → i < SPARE_ENTRIES_AT + SPARE_SECONDARY_AT → IsOutsideAll (places (secondary_from from count)) i
secondary_outside from zero i lt = tt
secondary_outside from (suc count) i lt = (inl (omega (arith, lt)), secondary_outside (from + 1) count i lt)

secondary_fit : (from count : ℕ) → AllByRecursion Fits (secondary_from from count)
secondary_fit from zero = tt
secondary_fit from (suc count) = (omega arith, secondary_fit (from + 1) count)

one_of : (m : ℕ) (a b c d e : Bool) → (a ≡ true → m ≡ 16) → (b ≡ true → m ≡ 64) → (c ≡ true → m ≡ 256) → (d ≡ true → m ≡ 1024) → (e ≡ true → m ≡ 4096) → IsTrue (a || (b || (c || (d || (e || false))))) → m ≤ 4096
one_of m true b c d e ha hb hc hd he h = let is = ha refl in omega (arith, is)
one_of m false true c d e ha hb hc hd he h = let is = hb refl in omega (arith, is)
one_of m false false true d e ha hb hc hd he h = let is = hc refl in omega (arith, is)
one_of m false false false true e ha hb hc hd he h = let is = hd refl in omega (arith, is)
one_of m false false false false true ha hb hc hd he h = let is = he refl in omega (arith, is)
one_of m false false false false false ha hb hc hd he h = absurd (false≢true h)

members_small : (m : ℕ) → IsTrue (is_member_maximum m) → m ≤ 4096
unfolding is_member_maximum
members_small m h = one_of m (eqb m 16) (eqb m 64) (eqb m 256) (eqb m 1024) (eqb m 4096) (eqb-true m 16) (eqb-true m 64) (eqb-true m 256) (eqb-true m 1024) (eqb-true m 4096) h

-- The bytes of a record of a sound geometry are counted by 16 bits.
pub record_small : (geometry : Geometry) → IsSound geometry → record_size geometry < 2 ^ 16
record_small geometry sound =
    let few = members_small geometry.max_members sound.members_known in
    let fit : geometry.record_length ≡ record_sectors geometry.max_members = sound.records_fit in
    omega (arith, few, fit)

min_first : (a b : ℕ) → a ≤ b → min a b ≡ a
min_first a b le = omega (arith, le)

-- the populated count stands in what is left
populated_stands : (spare : SpareRecord) (maximum : ℕ) (bytes : List ℕ) → 512 ≤ length bytes → SPARE_ENTRIES_AT + SPARE_ENTRY_BYTES * length spare.arrays ≤ length bytes → length spare.arrays ≤ maximum → maximum < 2 ^ 16
    → let all = written (u16_at SPARE_POPULATED_AT (length spare.arrays) ∷ u16_at SPARE_MAXIMUM_AT maximum ∷ secondary_fields (length spare.arrays)) bytes in
    (length all ≡ length bytes) × (number_at w16 (cleared (seal_place ∷ places (spare_fields spare)) all) SPARE_POPULATED_AT ≡ length spare.arrays)
populated_stands spare maximum bytes long room few small =
    let n = length spare.arrays in
    let first = placed bytes SPARE_POPULATED_AT (to_be_bytes w16 n) in
    let first_size : length first ≡ length bytes = length-placed bytes SPARE_POPULATED_AT (to_be_bytes w16 n) (omega (arith, long)) in
    let more = u16_at SPARE_MAXIMUM_AT maximum ∷ secondary_fields n in
    let inside : AreWithin (length first) (places more) = (omega (arith, first_size, long), secondary_within 0 n (length first) (omega (arith, first_size, room))) in
    let outside = written_outside more first inside (small, secondary_fit 0 n) in
    let all = written more first in
    let all_size : length all ≡ length bytes = outside.size ∙ first_size in
    let spans = seal_place ∷ places (spare_fields spare) in
    let within : AreWithin (length all) spans = spare_within spare (length all) (omega (arith, all_size, long)) (omega (arith, all_size, room)) in
    let cleared_out = cleared_outside spans all within in
    let at_cleared = bytes_at-same (IsOutsideAll spans) (cleared spans all) all (record { at = SPARE_POPULATED_AT; length = 2 }) (omega (arith, all_size, long)) (count_outside spare) cleared_out in
    let at_first = bytes_at-same (IsOutsideAll (places more)) all first (record { at = SPARE_POPULATED_AT; length = 2 }) (omega (arith, first_size, long)) (λ i low high. (inl (omega (arith, high)), secondary_outside 0 n i (omega (arith, high)))) outside in
    let stands = bytes_at-placed bytes (record { at = SPARE_POPULATED_AT; length = 2 }) (to_be_bytes w16 n) refl (omega (arith, long)) in
    (all_size, ap (from_be_bytes w16) (at_cleared ∙ at_first ∙ stands) ∙ from_be_bytes-to_be_bytes_2 n (omega (arith, few, small)))

-- A spare record over other bytes can be written.
pub spare_over_can : (geometry : Geometry) (bytes : List ℕ) (spare : SpareRecord) → IsSound geometry → length bytes ≡ record_size geometry → length spare.arrays ≤ spare_entries geometry → AllByRecursion Fits (spare_fields spare)
    → CanBeSpare geometry (record spare { rest = cleared (seal_place ∷ places (spare_fields spare)) (written (spare_numbers geometry (length spare.arrays)) bytes) })
spare_over_can geometry bytes spare sound long few fit =
    let whole = (room_from_sound geometry sound).whole in
    let small = record_small geometry sound in
    let n = length spare.arrays in
    let room : SPARE_ENTRIES_AT + SPARE_ENTRY_BYTES * n ≤ length bytes = omega (arith, long, few, whole) in
    let stands = populated_stands spare (spare_entries geometry) bytes (omega (arith, long, whole)) room few (omega (arith, small)) in
    let all = written (spare_numbers geometry n) bytes in
    let all_size = stands.0 in
    let spans = seal_place ∷ places (spare_fields spare) in
    let within : AreWithin (length all) spans = spare_within spare (length all) (omega (arith, all_size, long, whole)) (omega (arith, all_size, room)) in
    let size : length (cleared spans all) ≡ record_size geometry = (cleared_outside spans all within).size ∙ all_size ∙ long in
    record {
      size = size;
      counted = sym (ap (λ (k : ℕ). min k ((length (cleared spans all) - SPARE_ENTRIES_AT) / SPARE_ENTRY_BYTES)) stands.1 ∙ ap (λ (k : ℕ). min n ((k - SPARE_ENTRIES_AT) / SPARE_ENTRY_BYTES)) size ∙ min_first n (spare_entries geometry) few);
      is_record = record { fields_fit = fit; others_clear = cleared-cleared spans all within };
    }

-- ---- the first slot of a kind

first_from : {X Y : Type 0} (f : X → Option Y) (g : ℕ → Option Y) (xs : List X) (k : ℕ) → ((i : ℕ) → g (k + i) ≡ option_and_then f (slice_get xs i)) → option_and_then g (position_from (λ x. is_some (f x)) k xs) ≡ first_of (map f xs)
first_from f g [] k same = refl
first_from {Y = Y} f g (x ∷ xs) k same = go (first_from f g xs (k + 1) (λ i. let next : k + 1 + i ≡ k + suc i = omega arith in ap g next ∙ same (suc i))) (f x) refl
  where
    here : g k ≡ f x
    here = let stay : k ≡ k + 0 = omega arith in ap g stay ∙ same 0

    go : option_and_then g (position_from (λ y. is_some (f y)) (k + 1) xs) ≡ first_of (map f xs) → (o : Option Y) → f x ≡ o
        → option_and_then g (position_from (λ y. is_some (f y)) k (x ∷ xs)) ≡ first_of (map f (x ∷ xs))
    go later None e = rw e later
    go later (Some y) e = rw e (here ∙ e)

-- what the first of a list for which there is something has is the first that is there
pub first_is : {X Y : Type 0} (f : X → Option Y) (xs : List X) → option_and_then (λ i. option_and_then f (slice_get xs i)) (position (λ x. is_some (f x)) xs) ≡ first_of (map f xs)
first_is f xs =
    ap (option_and_then (λ i. option_and_then f (slice_get xs i))) (position_from-zero (λ x. is_some (f x)) xs)
    ∙ first_from f (λ i. option_and_then f (slice_get xs i)) xs 0 (λ i. let start : 0 + i ≡ i = omega arith in ap (λ j. option_and_then f (slice_get xs j)) start)
