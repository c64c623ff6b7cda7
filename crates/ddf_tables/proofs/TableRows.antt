-- The bytes of the rows of a table, and what is wrong with the first of them.
use Rattle.std.proofs.Common.{◌≡◌, ℕ, ◌+◌, ◌*◌, ◌<◌, ◌≤◌, List, [], ◌∷◌, ◌++◌, length, map, take, drop, get_or, Option, refl, ◌∙◌, ap, arith, add-one, drop-cons, append-nil}
use Rattle.std.specs.List.{enumerate_from, flat_map}
use Rattle.std.specs.Option.{option_or}
use Rattle.std.proofs.lemmas.List.{take_more}
use Rattle.std.proofs.lemmas.List.Concat.{flat_map-append}
use Rattle.ddf_bytes.specs.Choices.{first_of}
use Rattle.ddf_seal.specs.Unread.{placed}
use Rattle.ddf_seal.proofs.Same.{placed_after}
use Rattle.ddf_tables.specs.declared.fault.TableFault.{TableFault}
use Rattle.ddf_tables.specs.declared.layout.TheConstants.{ROWS_AT, ROW_BYTES}

-- what is wrong with rows that stand from some place on among all, by those before them
abbrev pub faults_from : {Row : Type 0} → (List Row → Row → Option TableFault) → List Row → ℕ → List Row → Option TableFault
faults_from twice all at rows = first_of (map (λ pair. twice (take pair.0 all) pair.1) (enumerate_from at rows))

-- what is wrong with all rows from some place on
abbrev pub twice_from : {Row : Type 0} → (List Row → Row → Option TableFault) → List Row → ℕ → Option TableFault
twice_from twice rows i = faults_from twice rows i (drop i rows)

pub twice_from_next : {Row : Type 0} → (twice : List Row → Row → Option TableFault) (rows : List Row) (i : ℕ) (row : Row) → i < length rows → get_or rows i row ≡ row
    → twice_from twice rows i ≡ option_or (twice (take i rows) row) (twice_from twice rows (i + 1))
twice_from_next twice rows i row lt is = rw (drop-cons rows i row, is, add-one) refl

-- the bytes of one more row
pub row_bytes_more : {Row : Type 0} → (row_bytes : Row → List ℕ) (rows : List Row) (i : ℕ) (row : Row) → i < length rows → get_or rows i row ≡ row
    → flat_map row_bytes (take (i + 1) rows) ≡ flat_map row_bytes (take i rows) ++ row_bytes row
row_bytes_more row_bytes rows i row lt is =
    ap (flat_map row_bytes) (take_more rows i row lt ∙ ap (λ r. take i rows ++ r ∷ []) is)
    ∙ flat_map-append row_bytes (take i rows) (row ∷ []) ∙ ap (λ l. flat_map row_bytes (take i rows) ++ l) (append-nil (row_bytes row))

-- what is placed behind so many rows that were placed
pub placed_more : (section done bytes : List ℕ) (i : ℕ) → length done ≡ ROW_BYTES * i → ROWS_AT + ROW_BYTES * i + length bytes ≤ length section
    → placed (placed section ROWS_AT done) (ROWS_AT + ROW_BYTES * i) bytes ≡ placed section ROWS_AT (done ++ bytes)
placed_more section done bytes i size within =
    let at : ROWS_AT + ROW_BYTES * i ≡ ROWS_AT + length done = omega arith in
    ap (λ k. placed (placed section ROWS_AT done) k bytes) at ∙ placed_after section ROWS_AT done bytes (omega arith)
