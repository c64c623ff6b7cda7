-- A table is the value of its section exactly where it is read from it without a fault, and is written as that section.
use Rattle.std.proofs.Common.{◌≡◌, ℕ, zero, suc, ◌+◌, ◌-◌, ◌*◌, ◌≤◌, List, [], ◌∷◌, ◌++◌, length, take, drop, replicate, refl, sym, ◌∙◌, ap, subst, arith, length-append}
use Rattle.std.specs.List.{AllByRecursion, flat_map}
use Rattle.std.proofs.Math.Seq.{take-append_seam, drop-append_seam}
use Rattle.std.proofs.lemmas.List.{take-replicate, drop-replicate}
use Rattle.ddf_bytes.specs.Bytes.{bytes_at}
use Rattle.ddf_seal.specs.Unread.{AreBytes}
use Rattle.ddf_seal.proofs.Placing.{length-bytes_at}
use Rattle.ddf_seal.proofs.Spelled.{AreBytes-bytes_at, bytes_at-append}
use Rattle.ddf_tables.specs.declared.layout.TheConstants.{ROWS_AT, ROW_BYTES}
use Rattle.ddf_tables.specs.Places.{each_at}
use Rattle.ddf_tables.specs.Tables.{RowsStand, rows_at}

-- What holds of the rows of each kind.
pub record RowLaws {Row : Type 0} (IsRowAt : Row → List ℕ → Type 0) (IsRow : Row → Type 0) (row_at : List ℕ → Row) (row_bytes : Row → List ℕ) : Type 0 where
  pub read_is : (bytes : List ℕ) → length bytes ≡ ROW_BYTES → AreBytes bytes → IsRowAt (row_at bytes) bytes
  pub read_only : (row : Row) (bytes : List ℕ) → length bytes ≡ ROW_BYTES → IsRowAt row bytes → row_at bytes ≡ row
  pub bytes_again : (row : Row) (bytes : List ℕ) → length bytes ≡ ROW_BYTES → IsRowAt row bytes → row_bytes row ≡ bytes
  pub is_row : (row : Row) (bytes : List ℕ) → length bytes ≡ ROW_BYTES → IsRowAt row bytes → IsRow row
  pub size : (row : Row) → IsRow row → length (row_bytes row) ≡ ROW_BYTES
  pub bytes_are : (row : Row) → IsRow row → AreBytes (row_bytes row) → IsRowAt row (row_bytes row)

-- ---- rows one after another

pub rows_at_stand : {Row : Type 0} {IsRowAt : Row → List ℕ → Type 0} {IsRow : Row → Type 0} {row_at : List ℕ → Row} {row_bytes : Row → List ℕ} (laws : RowLaws IsRowAt IsRow row_at row_bytes)
    (bytes : List ℕ) (at count : ℕ) → at + ROW_BYTES * count ≤ length bytes → AreBytes bytes → RowsStand IsRowAt bytes at (rows_at row_at bytes at count)
unfolding each_at
rows_at_stand laws bytes at zero within are = tt
rows_at_stand laws bytes at (suc count) within are =
    let first : at + ROW_BYTES ≤ length bytes = omega arith in (
      laws.read_is (bytes_at bytes at ROW_BYTES) (length-bytes_at bytes at ROW_BYTES first) (AreBytes-bytes_at bytes at ROW_BYTES first are),
      rows_at_stand laws bytes (at + ROW_BYTES) count (omega arith) are,
    )

pub rows_at_only : {Row : Type 0} {IsRowAt : Row → List ℕ → Type 0} {IsRow : Row → Type 0} {row_at : List ℕ → Row} {row_bytes : Row → List ℕ} (laws : RowLaws IsRowAt IsRow row_at row_bytes)
    (bytes : List ℕ) (at : ℕ) (rows : List Row) → at + ROW_BYTES * length rows ≤ length bytes → RowsStand IsRowAt bytes at rows → rows_at row_at bytes at (length rows) ≡ rows
unfolding each_at
rows_at_only laws bytes at [] within stand = refl
rows_at_only {row_at = row_at} laws bytes at (row ∷ rows) within stand =
    let first : at + ROW_BYTES ≤ length bytes = omega arith in
    ap (λ r. r ∷ rows_at row_at bytes (at + ROW_BYTES) (length rows)) (laws.read_only row (bytes_at bytes at ROW_BYTES) (length-bytes_at bytes at ROW_BYTES first) stand.0)
    ∙ ap (λ rs. row ∷ rs) (rows_at_only laws bytes (at + ROW_BYTES) rows (omega arith) stand.1)

pub row_bytes_again : {Row : Type 0} {IsRowAt : Row → List ℕ → Type 0} {IsRow : Row → Type 0} {row_at : List ℕ → Row} {row_bytes : Row → List ℕ} (laws : RowLaws IsRowAt IsRow row_at row_bytes)
    (bytes : List ℕ) (at : ℕ) (rows : List Row) → at + ROW_BYTES * length rows ≤ length bytes → RowsStand IsRowAt bytes at rows → flat_map row_bytes rows ≡ bytes_at bytes at (ROW_BYTES * length rows)
row_bytes_again laws bytes at [] within stand = refl
row_bytes_again {row_bytes = row_bytes} laws bytes at (row ∷ rows) within stand =
    let first : at + ROW_BYTES ≤ length bytes = omega arith in
    let more : ROW_BYTES * suc (length rows) ≡ ROWS_AT + ROW_BYTES * length rows = omega arith in
    ap (λ l. l ++ flat_map row_bytes rows) (laws.bytes_again row (bytes_at bytes at ROW_BYTES) (length-bytes_at bytes at ROW_BYTES first) stand.0)
    ∙ ap (λ l. bytes_at bytes at ROW_BYTES ++ l) (row_bytes_again laws bytes (at + ROW_BYTES) rows (omega arith) stand.1)
    ∙ sym (bytes_at-append bytes at ROW_BYTES (ROW_BYTES * length rows)) ∙ ap (bytes_at bytes at) (sym more)

pub rows_are_good : {Row : Type 0} {IsRowAt : Row → List ℕ → Type 0} {IsRow : Row → Type 0} {row_at : List ℕ → Row} {row_bytes : Row → List ℕ} (laws : RowLaws IsRowAt IsRow row_at row_bytes)
    (bytes : List ℕ) (at : ℕ) (rows : List Row) → at + ROW_BYTES * length rows ≤ length bytes → RowsStand IsRowAt bytes at rows → AllByRecursion IsRow rows
rows_are_good laws bytes at [] within stand = tt
rows_are_good laws bytes at (row ∷ rows) within stand =
    let first : at + ROW_BYTES ≤ length bytes = omega arith in
    (laws.is_row row (bytes_at bytes at ROW_BYTES) (length-bytes_at bytes at ROW_BYTES first) stand.0, rows_are_good laws bytes (at + ROW_BYTES) rows (omega arith) stand.1)

pub length-row_bytes : {Row : Type 0} {IsRowAt : Row → List ℕ → Type 0} {IsRow : Row → Type 0} {row_at : List ℕ → Row} {row_bytes : Row → List ℕ} (laws : RowLaws IsRowAt IsRow row_at row_bytes)
    (rows : List Row) → AllByRecursion IsRow rows → length (flat_map row_bytes rows) ≡ ROW_BYTES * length rows
length-row_bytes laws [] good = refl
length-row_bytes {row_bytes = row_bytes} laws (row ∷ rows) good =
    let one = laws.size row good.0 in
    let rest = length-row_bytes laws rows good.1 in
    length-append (row_bytes row) (flat_map row_bytes rows) ∙ omega (arith, one, rest)

pub rows_stand_written : {Row : Type 0} {IsRowAt : Row → List ℕ → Type 0} {IsRow : Row → Type 0} {row_at : List ℕ → Row} {row_bytes : Row → List ℕ} (laws : RowLaws IsRowAt IsRow row_at row_bytes)
    (bytes : List ℕ) (at : ℕ) (rows : List Row) → at + ROW_BYTES * length rows ≤ length bytes → AreBytes bytes → AllByRecursion IsRow rows
    → bytes_at bytes at (ROW_BYTES * length rows) ≡ flat_map row_bytes rows → RowsStand IsRowAt bytes at rows
rows_stand_written laws bytes at [] within are good stands = tt
rows_stand_written {IsRowAt = IsRowAt} {row_bytes = row_bytes} laws bytes at (row ∷ rows) within are good stands =
    let first : at + ROW_BYTES ≤ length bytes = omega arith in
    let more : ROW_BYTES * suc (length rows) ≡ ROWS_AT + ROW_BYTES * length rows = omega arith in
    let here = bytes_at bytes at ROW_BYTES in
    let rest = bytes_at bytes (at + ROW_BYTES) (ROW_BYTES * length rows) in
    let size = length-bytes_at bytes at ROW_BYTES first in
    let len = laws.size row good.0 in
    let both : here ++ rest ≡ row_bytes row ++ flat_map row_bytes rows = sym (bytes_at-append bytes at ROW_BYTES (ROW_BYTES * length rows)) ∙ ap (bytes_at bytes at) (sym more) ∙ stands in
    let same : here ≡ row_bytes row =
    sym (take-append_seam here rest) ∙ ap (λ n. take n (here ++ rest)) (size ∙ sym len) ∙ ap (take (length (row_bytes row))) both ∙ take-append_seam (row_bytes row) (flat_map row_bytes rows) in
    let others : rest ≡ flat_map row_bytes rows =
    sym (drop-append_seam here rest) ∙ ap (λ n. drop n (here ++ rest)) (size ∙ sym len) ∙ ap (drop (length (row_bytes row))) both ∙ drop-append_seam (row_bytes row) (flat_map row_bytes rows) in (
      subst (IsRowAt row) (sym same) (laws.bytes_are row good.0 (subst AreBytes same (AreBytes-bytes_at bytes at ROW_BYTES first are))),
      rows_stand_written laws bytes (at + ROW_BYTES) rows (omega arith) are good.1 others,
    )

-- rows of bytes that are all one
pub rows_at_replicate : {Row : Type 0} (row_at : List ℕ → Row) (size at count : ℕ) → at + ROW_BYTES * count ≤ size → rows_at row_at (replicate size 255) at count ≡ replicate count (row_at (replicate 64 255))
unfolding each_at
rows_at_replicate row_at size at zero within = refl
rows_at_replicate row_at size at (suc count) within =
    let here : bytes_at (replicate size 255) at ROW_BYTES ≡ replicate 64 255 = ap (take 64) (drop-replicate at size 255) ∙ take-replicate 64 (size - at) 255 (omega arith) in
    ap (λ b. row_at b ∷ rows_at row_at (replicate size 255) (at + ROW_BYTES) count) here ∙ ap (λ rows. row_at (replicate 64 255) ∷ rows) (rows_at_replicate row_at size (at + ROW_BYTES) count (omega arith))
