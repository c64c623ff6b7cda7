-- The entries of a spare record.
use Rattle.std.proofs.Common.{◌≡◌, ℕ, zero, suc, ◌+◌, ◌*◌, ◌<◌, ◌≤◌, List, [], ◌∷◌, ◌++◌, length, take, get_or, map, refl, sym, ◌∙◌, ap, arith, inl}
use Rattle.std.specs.List.{range_with_len}
use Rattle.std.proofs.lemmas.List.{take_more, length-take-le}
use Rattle.std.proofs.lemmas.List.FromFn.{length-map-range_with_len, map-range_with_len_more}
use Rattle.ddf_seal.specs.declared.unread.Span.{Span}
use Rattle.ddf_seal.specs.Seal.{seal_place}
use Rattle.ddf_seal.specs.Unread.{Field, plain_at, place_of, bytes_of, placed, written, cleared, cleared_one, places}
use Rattle.ddf_seal.proofs.Same.{AreWithin, IsOutsideAll}
use Rattle.ddf_seal.proofs.Records.{AreAllApart}
use Rattle.ddf_config_records.specs.declared.layout.TheConstants.{SPARE_TIMESTAMP_AT, SPARE_KIND_AT, SPARE_ENTRIES_AT, SPARE_ENTRY_BYTES}
use Rattle.ddf_config_records.specs.Spares.{entry_fields, entry_place, spare_rest, spare_count, array_at, arrays_at}
use Rattle.ddf_config_records.proofs.Spans.{AreFrom, one_apart}

-- ---- clearing and writing one after another

pub cleared-append : (a b : List Span) (bytes : List ℕ) → cleared (a ++ b) bytes ≡ cleared b (cleared a bytes)
cleared-append [] b bytes = refl
cleared-append (span ∷ a) b bytes = cleared-append a b (cleared_one bytes span)

pub written-append : (a b : List Field) (bytes : List ℕ) → written (a ++ b) bytes ≡ written b (written a bytes)
written-append [] b bytes = refl
written-append (field ∷ a) b bytes = written-append a b (placed bytes (place_of field).at (bytes_of field))

-- ---- the places of entries

pub entry_places : (k : ℕ) (guids : List (List ℕ)) → places (entry_fields (SPARE_ENTRIES_AT + SPARE_ENTRY_BYTES * k) guids) ≡ map entry_place (range_with_len k (length guids))
entry_places k [] = refl
entry_places k (guid ∷ guids) =
    let next : SPARE_ENTRIES_AT + SPARE_ENTRY_BYTES * k + SPARE_ENTRY_BYTES ≡ SPARE_ENTRIES_AT + SPARE_ENTRY_BYTES * (k + 1) = omega arith in
    ap (λ (at : ℕ). entry_place k ∷ places (entry_fields at guids)) next ∙ ap (λ (l : List Span). entry_place k ∷ l) (entry_places (k + 1) guids)

pub entries_within : (at size : ℕ) (guids : List (List ℕ)) → at + SPARE_ENTRY_BYTES * length guids ≤ size → AreWithin size (places (entry_fields at guids))
entries_within at size [] le = tt
entries_within at size (guid ∷ guids) le = (omega arith, entries_within (at + SPARE_ENTRY_BYTES) size guids (omega arith))

pub entries_from : (low at : ℕ) (guids : List (List ℕ)) → low ≤ at → AreFrom low (places (entry_fields at guids))
entries_from low at [] le = tt
entries_from low at (guid ∷ guids) le = (le, entries_from low (at + SPARE_ENTRY_BYTES) guids (omega arith))

pub entries_apart : (at : ℕ) (guids : List (List ℕ)) → AreAllApart (places (entry_fields at guids))
entries_apart at [] = tt
entries_apart at (guid ∷ guids) = (one_apart (at + SPARE_ENTRY_BYTES) (record { at = at; length = 24 }) (places (entry_fields (at + SPARE_ENTRY_BYTES) guids)) (omega arith) (entries_from (at + SPARE_ENTRY_BYTES) (at + SPARE_ENTRY_BYTES) guids (omega arith)), entries_apart (at + SPARE_ENTRY_BYTES) guids)

pub entries_outside : (at i : ℕ) (guids : List (List ℕ)) → i < at → IsOutsideAll (places (entry_fields at guids)) i
entries_outside at i [] lt = tt
entries_outside at i (guid ∷ guids) lt = (inl lt, entries_outside (at + SPARE_ENTRY_BYTES) i guids (omega arith))

-- ---- one more entry

pub entry_fields_more : (at : ℕ) (guids : List (List ℕ)) (guid : List ℕ) → entry_fields at (guids ++ guid ∷ []) ≡ entry_fields at guids ++ plain_at (at + SPARE_ENTRY_BYTES * length guids) 24 guid ∷ []
entry_fields_more at [] guid =
    let here : at ≡ at + SPARE_ENTRY_BYTES * 0 = omega arith in
    ap (λ (k : ℕ). plain_at k 24 guid ∷ []) here
entry_fields_more at (other ∷ guids) guid =
    let there : at + SPARE_ENTRY_BYTES + SPARE_ENTRY_BYTES * length guids ≡ at + SPARE_ENTRY_BYTES * suc (length guids) = omega arith in
    ap (λ (l : List Field). plain_at at 24 other ∷ l) (entry_fields_more (at + SPARE_ENTRY_BYTES) guids guid ∙ ap (λ (k : ℕ). entry_fields (at + SPARE_ENTRY_BYTES) guids ++ plain_at k 24 guid ∷ []) there)

pub written_more : (bytes : List ℕ) (guids : List (List ℕ)) (i : ℕ) (d : List ℕ) → i < length guids
    → placed (written (entry_fields SPARE_ENTRIES_AT (take i guids)) bytes) (SPARE_ENTRIES_AT + SPARE_ENTRY_BYTES * i) (get_or guids i d) ≡ written (entry_fields SPARE_ENTRIES_AT (take (i + 1) guids)) bytes
written_more bytes guids i d lt =
    let done = take i guids in
    let one = get_or guids i d in
    let len : length done ≡ i = length-take-le i guids (omega arith) in
    ap (λ (n : ℕ). placed (written (entry_fields SPARE_ENTRIES_AT done) bytes) (SPARE_ENTRIES_AT + SPARE_ENTRY_BYTES * n) one) (sym len)
    ∙ sym (written-append (entry_fields SPARE_ENTRIES_AT done) (plain_at (SPARE_ENTRIES_AT + SPARE_ENTRY_BYTES * length done) 24 one ∷ []) bytes)
    ∙ ap (λ (fields : List Field). written fields bytes) (sym (entry_fields_more SPARE_ENTRIES_AT done one) ∙ ap (entry_fields SPARE_ENTRIES_AT) (sym (take_more guids i d lt)))

-- ---- reading

pub arrays_at_none : (bytes : List ℕ) → arrays_at bytes 0 ≡ []
unfolding arrays_at
arrays_at_none bytes = refl

pub length-arrays_at : (bytes : List ℕ) (count : ℕ) → length (arrays_at bytes count) ≡ count
unfolding arrays_at
length-arrays_at bytes count = length-map-range_with_len (array_at bytes) 0 count

pub arrays_at_more : (bytes : List ℕ) (count : ℕ) → arrays_at bytes (count + 1) ≡ arrays_at bytes count ++ array_at bytes count ∷ []
unfolding arrays_at
arrays_at_more bytes count = map-range_with_len_more (array_at bytes) 0 count count (omega arith)

pub entries_cleared_more : (bytes : List ℕ) (i : ℕ) → cleared_one (cleared (map entry_place (range_with_len 0 i)) bytes) (entry_place i) ≡ cleared (map entry_place (range_with_len 0 (i + 1))) bytes
entries_cleared_more bytes i =
    sym (cleared-append (map entry_place (range_with_len 0 i)) (entry_place i ∷ []) bytes)
    ∙ ap (λ (spans : List Span). cleared spans bytes) (sym (map-range_with_len_more entry_place 0 i i (omega arith)))

pub spare_rest_is : (bytes : List ℕ) → cleared (map entry_place (range_with_len 0 (spare_count bytes))) (cleared (seal_place ∷ record { at = SPARE_TIMESTAMP_AT; length = 4 } ∷ record { at = SPARE_KIND_AT; length = 1 } ∷ []) bytes) ≡ spare_rest bytes
unfolding spare_rest
spare_rest_is bytes =
    let arrays = arrays_at bytes (spare_count bytes) in
    let spans : map entry_place (range_with_len 0 (spare_count bytes)) ≡ places (entry_fields SPARE_ENTRIES_AT arrays) = ap (λ (n : ℕ). map entry_place (range_with_len 0 n)) (sym (length-arrays_at bytes (spare_count bytes))) ∙ sym (entry_places 0 arrays) in
    ap (λ (l : List Span). cleared l (cleared (seal_place ∷ record { at = SPARE_TIMESTAMP_AT; length = 4 } ∷ record { at = SPARE_KIND_AT; length = 1 } ∷ []) bytes)) spans

pub range_within : (k count size : ℕ) → SPARE_ENTRIES_AT + SPARE_ENTRY_BYTES * (k + count) ≤ size → AreWithin size (map entry_place (range_with_len k count))
range_within k zero size le = tt
range_within k (suc count) size le = (omega arith, range_within (k + 1) count size (omega arith))

pub spare_head_within : (size : ℕ) → 512 ≤ size → AreWithin size (seal_place ∷ record { at = SPARE_TIMESTAMP_AT; length = 4 } ∷ record { at = SPARE_KIND_AT; length = 1 } ∷ [])
spare_head_within size le = (omega arith, (omega arith, (omega arith, tt)))
