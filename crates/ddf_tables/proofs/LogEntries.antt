-- The entries of a bad block log, one after another, as fields.
use Rattle.std.proofs.Common.{◌≡◌, ℕ, zero, suc, ◌+◌, ◌*◌, ◌<◌, ◌≤◌, List, [], ◌∷◌, ◌++◌, length, take, get_or, refl, sym, ◌∙◌, ap, arith, inl}
use Rattle.std.specs.List.{AllByRecursion, flat_map}
use Rattle.std.proofs.lemmas.List.{take_more, length-take-le}
use Rattle.std.proofs.lemmas.List.Sums.{fold-append}
use Rattle.std.proofs.lemmas.List.Concat.{flat_map-append}
use Rattle.ddf_seal.specs.declared.unread.Span.{Span}
use Rattle.ddf_seal.specs.Unread.{Field, Stands, places, place_of, bytes_of, placed, written, cleared, cleared_one}
use Rattle.ddf_seal.proofs.Same.{AreWithin}
use Rattle.ddf_seal.proofs.Records.{AreApart, AreAllApart}
use Rattle.ddf_tables.specs.declared.bad_blocks.BadBlock.{BadBlock}
use Rattle.ddf_tables.specs.declared.layout.TheConstants.{LOG_ENTRIES_AT, LOG_ENTRY_BYTES, BAD_SPARE_AT, BAD_COUNT_AT}
use Rattle.ddf_tables.specs.Places.{each_at}
use Rattle.ddf_tables.specs.BadBlocks.{entry_fields, entry_spans, entry_places, entry_at}
use Rattle.ddf_tables.proofs.Parts.{each_at_more}

-- ---- one more entry

entry_fields-append : (at : ℕ) (a b : List BadBlock) → entry_fields at (a ++ b) ≡ entry_fields at a ++ entry_fields (at + LOG_ENTRY_BYTES * length a) b
entry_fields-append at [] b = let here : at ≡ at + LOG_ENTRY_BYTES * 0 = omega arith in ap (λ k. entry_fields k b) here
entry_fields-append at (block ∷ a) b =
    let next : at + LOG_ENTRY_BYTES + LOG_ENTRY_BYTES * length a ≡ at + LOG_ENTRY_BYTES * suc (length a) = omega arith in
    let first = entry_fields at (block ∷ []) in
    ap (λ l. first ++ l) (entry_fields-append (at + LOG_ENTRY_BYTES) a b ∙ ap (λ k. entry_fields (at + LOG_ENTRY_BYTES) a ++ entry_fields k b) next)

pub written_more : (entries : List BadBlock) (bytes : List ℕ) (i : ℕ) (block : BadBlock) → i < length entries
    → written (entry_fields (LOG_ENTRIES_AT + LOG_ENTRY_BYTES * i) (get_or entries i block ∷ [])) (written (entry_fields LOG_ENTRIES_AT (take i entries)) bytes) ≡ written (entry_fields LOG_ENTRIES_AT (take (i + 1) entries)) bytes
written_more entries bytes i block lt =
    let now = get_or entries i block in
    let size : length (take i entries) ≡ i = length-take-le i entries (omega arith) in
    let place = λ (before : List ℕ) (field : Field). placed before (place_of field).at (bytes_of field) in
    sym (ap (λ l. written (entry_fields LOG_ENTRIES_AT l) bytes) (take_more entries i block lt)
    ∙ ap (λ fields. written fields bytes) (entry_fields-append LOG_ENTRIES_AT (take i entries) (now ∷ []))
    ∙ fold-append place bytes (entry_fields LOG_ENTRIES_AT (take i entries)) (entry_fields (LOG_ENTRIES_AT + LOG_ENTRY_BYTES * length (take i entries)) (now ∷ []))
    ∙ ap (λ n. written (entry_fields (LOG_ENTRIES_AT + LOG_ENTRY_BYTES * n) (now ∷ [])) (written (entry_fields LOG_ENTRIES_AT (take i entries)) bytes)) size)

pub cleared_more : (bytes : List ℕ) (i : ℕ) → cleared (entry_spans (LOG_ENTRIES_AT + LOG_ENTRY_BYTES * i)) (cleared (entry_places LOG_ENTRIES_AT i) bytes) ≡ cleared (entry_places LOG_ENTRIES_AT (i + 1)) bytes
cleared_more bytes i =
    let here = λ (place : ℕ). place in
    let spans = entry_spans (LOG_ENTRIES_AT + LOG_ENTRY_BYTES * i) in
    let more : entry_places LOG_ENTRIES_AT (i + 1) ≡ entry_places LOG_ENTRIES_AT i ++ spans =
    ap (flat_map entry_spans) (each_at_more here LOG_ENTRY_BYTES LOG_ENTRIES_AT i (LOG_ENTRIES_AT + LOG_ENTRY_BYTES * i) refl)
    ∙ flat_map-append entry_spans (each_at here LOG_ENTRY_BYTES LOG_ENTRIES_AT i) ((LOG_ENTRIES_AT + LOG_ENTRY_BYTES * i) ∷ []) in
    sym (ap (λ l. cleared l bytes) more ∙ fold-append cleared_one bytes (entry_places LOG_ENTRIES_AT i) spans)

pub cleared_none : (bytes : List ℕ) → cleared (entry_places LOG_ENTRIES_AT 0) bytes ≡ bytes
unfolding each_at
cleared_none bytes = refl

-- ---- where they stand

pub places_of_entries : (at : ℕ) (entries : List BadBlock) → places (entry_fields at entries) ≡ entry_places at (length entries)
unfolding each_at
places_of_entries at [] = refl
places_of_entries at (block ∷ entries) = ap (λ l. entry_spans at ++ l) (places_of_entries (at + LOG_ENTRY_BYTES) entries)

pub entries_within : (at size : ℕ) (entries : List BadBlock) → at + LOG_ENTRY_BYTES * length entries ≤ size → AreWithin size (places (entry_fields at entries))
entries_within at size [] long = tt
entries_within at size (block ∷ entries) long = (omega arith, (omega arith, (omega arith, entries_within (at + LOG_ENTRY_BYTES) size entries (omega arith))))

-- nothing that ends before the entries shares a byte with them
pub apart_from_entries : (span : Span) (at : ℕ) (entries : List BadBlock) → span.at + span.length ≤ at → AllByRecursion (AreApart span) (places (entry_fields at entries))
apart_from_entries span at [] before = tt
apart_from_entries span at (block ∷ entries) before =
    (inl before, (inl (omega arith), (inl (omega arith), apart_from_entries span (at + LOG_ENTRY_BYTES) entries (omega arith))))

pub entries_apart : (at : ℕ) (entries : List BadBlock) → AreAllApart (places (entry_fields at entries))
entries_apart at [] = tt
entries_apart at (block ∷ entries) =
    let start : Span = record { at = at; length = 8 } in
    let spare : Span = record { at = at + BAD_SPARE_AT; length = 4 } in
    let count : Span = record { at = at + BAD_COUNT_AT; length = 2 } in (
      (inl (omega arith), (inl (omega arith), apart_from_entries start (at + LOG_ENTRY_BYTES) entries (omega arith))),
      ((inl (omega arith), apart_from_entries spare (at + LOG_ENTRY_BYTES) entries (omega arith)), (apart_from_entries count (at + LOG_ENTRY_BYTES) entries (omega arith), entries_apart (at + LOG_ENTRY_BYTES) entries)),
    )

-- ---- which they are

pub entries_stand : (bytes : List ℕ) (at count : ℕ) → AllByRecursion (Stands bytes) (entry_fields at (each_at (entry_at bytes) LOG_ENTRY_BYTES at count))
unfolding each_at
entries_stand bytes at zero = tt
entries_stand bytes at (suc count) = (refl, (refl, (refl, entries_stand bytes (at + LOG_ENTRY_BYTES) count)))

abbrev block_of : (start spare count : ℕ) → BadBlock
block_of start spare count = record { start = start; spare = spare; count = count }

same_block : (a b : BadBlock) → a.start ≡ b.start → a.spare ≡ b.spare → a.count ≡ b.count → a ≡ b
same_block a b e1 e2 e3 = let all : block_of a.start a.spare a.count ≡ block_of b.start b.spare b.count = cc in all

pub entries_only : (bytes : List ℕ) (at : ℕ) (entries : List BadBlock) → AllByRecursion (Stands bytes) (entry_fields at entries) → each_at (entry_at bytes) LOG_ENTRY_BYTES at (length entries) ≡ entries
unfolding each_at
entries_only bytes at [] stand = refl
entries_only bytes at (block ∷ entries) stand =
    ap (λ b. b ∷ each_at (entry_at bytes) LOG_ENTRY_BYTES (at + LOG_ENTRY_BYTES) (length entries)) (same_block (entry_at bytes at) block stand.0 stand.1.0 stand.1.1.0)
    ∙ ap (λ l. block ∷ l) (entries_only bytes (at + LOG_ENTRY_BYTES) entries stand.1.1.1)
