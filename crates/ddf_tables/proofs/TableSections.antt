-- A table is the value of its section exactly where it is read from it without a fault, and is written as that section.
use Rattle.std.proofs.Common.{◌≡◌, inl, ℕ, zero, suc, ◌+◌, ◌*◌, ◌<◌, ◌≤◌, ◌^◌, Bool, true, eqb, List, ◌∷◌, length, replicate, Option, None, Result, Ok, refl, sym, ◌∙◌, ap, subst, arith, lit≤, lit<}
use Rattle.std.specs.Prelude.{IfOk}
use Rattle.std.specs.List.{AllByRecursion, flat_map}
use Rattle.std.specs.Result.{result_err}
use Rattle.std.specs.Int.{w16}
use Rattle.std.proofs.lemmas.Bool.{eqb-true, eq-eqb}
use Rattle.std.proofs.lemmas.List.{length-replicate}
use Rattle.std.proofs.lemmas.List.Sums.{count_by-le-length}
use Rattle.ddf_lemmas.proofs.Options.{none_from_map}
use Rattle.ddf_bytes.specs.declared.no_memory.NoMemory.{NoMemory}
use Rattle.ddf_bytes.specs.Bytes.{bytes_at, number_at}
use Rattle.ddf_bytes.specs.Choices.{first_of, ok_unless}
use Rattle.ddf_bytes.proofs.Nones.{none_first, none_when_not}
use Rattle.ddf_seal.specs.Seal.{seal_check, seal_place}
use Rattle.ddf_seal.specs.Unread.{AreBytes}
use Rattle.ddf_seal.specs.Records.{IsRecordOf, IsRecord, record_bytes}
use Rattle.ddf_seal.proofs.Same.{AreWithin, cleared_outside, cleared-cleared}
use Rattle.ddf_seal.proofs.Seals.{sealed_from_check, check_from_sealed}
use Rattle.ddf_seal.proofs.Records.{AreAllApart, record_again, record_from_bytes, record_written, length-record_bytes}
use Rattle.ddf_seal.proofs.Common.{none_err}
use Rattle.ddf_tables.specs.declared.fault.TableFault.{TableFault}
use Rattle.ddf_tables.specs.declared.fault.TableFault.TheVariants as faults
use Rattle.ddf_tables.specs.declared.layout.TheConstants.{MAXIMUM_AT, ROWS_AT, ROW_BYTES}
use Rattle.ddf_tables.specs.Faults.{UpToMemory}
use Rattle.ddf_tables.specs.Tables.{TableValue, table_fields, first_twice, IsTableOf, IsTable, table_places, unread_of_table, table_bytes, rows_at, table_at, table_faults, decoded_table, blank_table, replaced_table}
use Rattle.ddf_tables.proofs.Answers.{if_ok, if_ok_then}
use Rattle.ddf_tables.proofs.Parts.{length-each_at}
use Rattle.ddf_tables.proofs.Names.{NameLaws}
use Rattle.ddf_tables.proofs.TableValues.{RowLaws, rows_at_stand, rows_at_only, row_bytes_again, rows_are_good, length-row_bytes, rows_stand_written}

-- all fields of a table lie within its section, and share no byte
table_within : (count size : ℕ) → ROWS_AT + ROW_BYTES * count ≤ size → AreWithin size (seal_place ∷ table_places count)
table_within count size long = (omega arith, (omega arith, (omega arith, (long, tt))))

table_apart : (count : ℕ) → AreAllApart (seal_place ∷ table_places count)
table_apart count = (
  (inl (lit≤ tt), (inl (lit≤ tt), (inl (lit≤ tt), tt))),
  ((inl (lit≤ tt), (inl (lit≤ tt), tt)), ((inl (lit≤ tt), tt), (tt, tt))),
)

-- ---- reading

pub table_from_section : {Row : Type 0} {IsRowAt : Row → List ℕ → Type 0} {IsRow : Row → Type 0} {row_at : List ℕ → Row} {row_bytes : Row → List ℕ} {twice : List Row → Row → Option TableFault} {HaveNames : List Row → Type 0} (laws : RowLaws IsRowAt IsRow row_at row_bytes) (names : NameLaws twice HaveNames)
    (signature : ℕ) (max : ℕ) (section : List ℕ) → ROWS_AT + ROW_BYTES * max ≤ length section → AreBytes section
    → first_of (table_faults signature row_at twice max section) ≡ None → IsTableOf signature IsRowAt HaveNames max (table_at row_at max section) section
table_from_section {row_at = row_at} {twice = twice} laws names signature max section long are h =
    let none = none_first (table_faults signature row_at twice max section) h in
    let seal = seal_check signature section in
    let stated : number_at w16 section MAXIMUM_AT ≡ max = eqb-true (number_at w16 section MAXIMUM_AT) max (none_when_not (eqb (number_at w16 section MAXIMUM_AT) max) (faults.Count (number_at w16 section MAXIMUM_AT) max) none.1.0) in
    let count = length-each_at (λ place. row_at (bytes_at section place ROW_BYTES)) ROW_BYTES ROWS_AT max in
    record {
      has_rows = count;
      long = long;
      is_record = record {
        are_bytes = are;
        is_sealed = sealed_from_check signature section (omega arith) are (none_err seal (none_from_map faults.Seal (result_err seal) none.0));
        fields_stand = (refl, (stated ∙ sym count, (refl, tt)));
        others_stay = ap (λ n. unread_of_table n section) (sym count);
      };
      rows_stand = rows_at_stand laws section ROWS_AT max long are;
      have_names = names.own_from_none (rows_at row_at section ROWS_AT max) none.1.1.0;
    }

pub section_of_table : {Row : Type 0} {IsRowAt : Row → List ℕ → Type 0} {IsRow : Row → Type 0} {row_at : List ℕ → Row} {row_bytes : Row → List ℕ} {twice : List Row → Row → Option TableFault} {HaveNames : List Row → Type 0} (laws : RowLaws IsRowAt IsRow row_at row_bytes) (names : NameLaws twice HaveNames)
    (signature : ℕ) (max : ℕ) (table : TableValue Row) (section : List ℕ) → signature < 2 ^ 32 → IsTableOf signature IsRowAt HaveNames max table section
    → decoded_table signature row_at twice max section ≡ Ok table
section_of_table {Row} {row_at = row_at} {twice = twice} laws names signature max table section fits is =
    let seal = check_from_sealed signature section (let long = is.long in omega arith) is.is_record.are_bytes fits is.is_record.is_sealed in
    let stated : eqb (number_at w16 section MAXIMUM_AT) max ≡ true = eq-eqb (number_at w16 section MAXIMUM_AT) max (is.is_record.fields_stand.1.0 ∙ is.has_rows) in
    let rows : rows_at row_at section ROWS_AT max ≡ table.rows =
    ap (rows_at row_at section ROWS_AT) (sym is.has_rows) ∙ rows_at_only laws section ROWS_AT table.rows (let long = is.long in let count = is.has_rows in omega arith) is.rows_stand in
    let apart : first_twice twice (rows_at row_at section ROWS_AT max) ≡ None = ap (first_twice twice) rows ∙ names.none_from_own table.rows is.have_names in
    let none : first_of (table_faults signature row_at twice max section) ≡ None = rw (seal, stated, apart) refl in
    let rest : unread_of_table max section ≡ table.rest = ap (λ n. unread_of_table n section) (sym is.has_rows) ∙ sym is.is_record.others_stay in
    let made : (populated : ℕ) (rows : List Row) (rest : List ℕ) → TableValue Row = λ populated rows rest. record { populated = populated; rows = rows; rest = rest } in
    let same : table_at row_at max section ≡ table =
    ap (λ n. made n (rows_at row_at section ROWS_AT max) (unread_of_table max section)) is.is_record.fields_stand.0
    ∙ ap (λ r. made table.populated r (unread_of_table max section)) rows ∙ ap (made table.populated table.rows) rest in
    ap (λ o. ok_unless o (table_at row_at max section)) none ∙ ap Ok same

-- ---- writing

pub table_again : {Row : Type 0} {IsRowAt : Row → List ℕ → Type 0} {IsRow : Row → Type 0} {row_at : List ℕ → Row} {row_bytes : Row → List ℕ} (laws : RowLaws IsRowAt IsRow row_at row_bytes)
    (signature : ℕ) (HaveNames : List Row → Type 0) (max : ℕ) (table : TableValue Row) (section : List ℕ) → IsTableOf signature IsRowAt HaveNames max table section
    → table_bytes signature row_bytes table ≡ section
table_again {row_bytes = row_bytes} laws signature HaveNames max table section is =
    let count = is.has_rows in
    let long = is.long in
    let within : ROWS_AT + ROW_BYTES * length table.rows ≤ length section = omega arith in
    ap (λ rows. record_bytes signature (table_fields table rows) table.rest) (row_bytes_again laws section ROWS_AT table.rows within is.rows_stand)
    ∙ record_again signature (table_fields table (bytes_at section ROWS_AT (ROW_BYTES * length table.rows))) table.rest section (table_within (length table.rows) (length section) within) is.is_record

pub length-rest_of_table : {Row : Type 0} {IsRowAt : Row → List ℕ → Type 0} (signature : ℕ) (HaveNames : List Row → Type 0) (max : ℕ) (table : TableValue Row) (section : List ℕ)
    → IsTableOf signature IsRowAt HaveNames max table section → length table.rest ≡ length section
length-rest_of_table signature HaveNames max table section is =
    let count = is.has_rows in
    let long = is.long in
    let within : ROWS_AT + ROW_BYTES * length table.rows ≤ length section = omega arith in
    ap length is.is_record.others_stay ∙ (cleared_outside (seal_place ∷ table_places (length table.rows)) section (table_within (length table.rows) (length section) within)).size

pub table_can_be_written : {Row : Type 0} {IsRowAt : Row → List ℕ → Type 0} {IsRow : Row → Type 0} {row_at : List ℕ → Row} {row_bytes : Row → List ℕ} (laws : RowLaws IsRowAt IsRow row_at row_bytes)
    (signature : ℕ) (HaveNames : List Row → Type 0) (max : ℕ) (table : TableValue Row) (section : List ℕ) → IsTableOf signature IsRowAt HaveNames max table section → IsTable IsRow HaveNames max table
table_can_be_written laws signature HaveNames max table section is =
    let count = is.has_rows in
    let long = is.long in
    let within : ROWS_AT + ROW_BYTES * length table.rows ≤ length section = omega arith in
    let inside = table_within (length table.rows) (length section) within in
    let can = record_from_bytes signature (table_fields table (bytes_at section ROWS_AT (ROW_BYTES * length table.rows))) table.rest section inside is.is_record in
    record {
      has_rows = count;
      max_fits = subst (λ n. n < 2 ^ 16) count can.fields_fit.1.0;
      populated_fits = can.fields_fit.0;
      long = let size = length-rest_of_table signature HaveNames max table section is in omega (arith, size);
      others_clear = ap (λ n. unread_of_table n table.rest) (sym count) ∙ can.others_clear;
      rows_good = rows_are_good laws section ROWS_AT table.rows within is.rows_stand;
      have_names = is.have_names;
    }

pub table_is_written : {Row : Type 0} {IsRowAt : Row → List ℕ → Type 0} {IsRow : Row → Type 0} {row_at : List ℕ → Row} {row_bytes : Row → List ℕ} (laws : RowLaws IsRowAt IsRow row_at row_bytes)
    (signature : ℕ) (HaveNames : List Row → Type 0) (max : ℕ) (table : TableValue Row) → IsTable IsRow HaveNames max table → AreBytes (table_bytes signature row_bytes table)
    → IsTableOf signature IsRowAt HaveNames max table (table_bytes signature row_bytes table)
table_is_written {row_bytes = row_bytes} laws signature HaveNames max table can are =
    let count = can.has_rows in
    let room = can.long in
    let within : ROWS_AT + ROW_BYTES * length table.rows ≤ length table.rest = omega arith in
    let rows = flat_map row_bytes table.rows in
    let fields = table_fields table rows in
    let section = table_bytes signature row_bytes table in
    let inside = table_within (length table.rows) (length table.rest) within in
    let fit : IsRecord fields table.rest = record {
      fields_fit = (can.populated_fits, (subst (λ n. n < 2 ^ 16) (sym count) can.max_fits, (length-row_bytes laws table.rows can.rows_good, tt)));
      others_clear = ap (λ n. unread_of_table n table.rest) count ∙ can.others_clear;
    } in
    let size = length-record_bytes signature fields table.rest inside fit.fields_fit in
    let is = record_written signature fields table.rest inside (table_apart (length table.rows)) fit are in
    let stands : bytes_at section ROWS_AT (ROW_BYTES * length table.rows) ≡ rows = is.fields_stand.1.1.0 in
    let whole : ROWS_AT + ROW_BYTES * length table.rows ≤ length section = omega (arith, size) in
    record {
      has_rows = count;
      long = omega (arith, size);
      is_record = subst (λ r. IsRecordOf signature (table_fields table r) table.rest section) (sym stands) is;
      rows_stand = rows_stand_written laws section ROWS_AT table.rows whole are can.rows_good stands;
      have_names = can.have_names;
    }

-- ---- what the calls say

pub decodes_value : {Row : Type 0} {IsRowAt : Row → List ℕ → Type 0} {IsRow : Row → Type 0} {row_at : List ℕ → Row} {row_bytes : Row → List ℕ} {twice : List Row → Row → Option TableFault} {HaveNames : List Row → Type 0} (laws : RowLaws IsRowAt IsRow row_at row_bytes) (names : NameLaws twice HaveNames)
    (signature : ℕ) (max : ℕ) (section : List ℕ) (result : Result (TableValue Row) TableFault) → ROWS_AT + ROW_BYTES * max ≤ length section → AreBytes section
    → UpToMemory result (decoded_table signature row_at twice max section) → IfOk result (λ table. IsTableOf signature IsRowAt HaveNames max table section)
decodes_value {IsRowAt = IsRowAt} {row_at = row_at} {twice = twice} {HaveNames = HaveNames} laws names signature max section result long are given =
    if_ok (λ table. IsTableOf signature IsRowAt HaveNames max table section) (first_of (table_faults signature row_at twice max section)) (table_at row_at max section) result given
    (table_from_section laws names signature max section long are)

pub decodes_only : {Row : Type 0} {IsRowAt : Row → List ℕ → Type 0} {IsRow : Row → Type 0} {row_at : List ℕ → Row} {row_bytes : Row → List ℕ} {twice : List Row → Row → Option TableFault} {HaveNames : List Row → Type 0} (laws : RowLaws IsRowAt IsRow row_at row_bytes) (names : NameLaws twice HaveNames)
    (signature : ℕ) (max : ℕ) (section : List ℕ) (result : Result (TableValue Row) TableFault) → signature < 2 ^ 32
    → UpToMemory result (decoded_table signature row_at twice max section) → (table : TableValue Row) → IsTableOf signature IsRowAt HaveNames max table section → UpToMemory result (Ok table)
decodes_only laws names signature max section result fits given table is = subst (λ answer. UpToMemory result answer) (section_of_table laws names signature max table section fits is) given

pub decodes_writable : {Row : Type 0} {IsRowAt : Row → List ℕ → Type 0} {IsRow : Row → Type 0} {row_at : List ℕ → Row} {row_bytes : Row → List ℕ} (laws : RowLaws IsRowAt IsRow row_at row_bytes)
    (signature : ℕ) (HaveNames : List Row → Type 0) (max : ℕ) (section : List ℕ) (result : Result (TableValue Row) TableFault) → IfOk result (λ table. IsTableOf signature IsRowAt HaveNames max table section)
    → IfOk result (IsTable IsRow HaveNames max)
decodes_writable {IsRowAt = IsRowAt} {IsRow = IsRow} laws signature HaveNames max section result given =
    if_ok_then (λ table. IsTableOf signature IsRowAt HaveNames max table section) (IsTable IsRow HaveNames max) result (λ table. table_can_be_written laws signature HaveNames max table section) given

pub decodes_size : {Row : Type 0} {IsRowAt : Row → List ℕ → Type 0} {IsRow : Row → Type 0} {row_at : List ℕ → Row} {row_bytes : Row → List ℕ} (laws : RowLaws IsRowAt IsRow row_at row_bytes)
    (signature : ℕ) (HaveNames : List Row → Type 0) (max : ℕ) (section : List ℕ) (result : Result (TableValue Row) TableFault) → IfOk result (λ table. IsTableOf signature IsRowAt HaveNames max table section)
    → IfOk result (λ table. length table.rest ≡ length section)
decodes_size {IsRowAt = IsRowAt} laws signature HaveNames max section result given =
    if_ok_then (λ table. IsTableOf signature IsRowAt HaveNames max table section) (λ table. length table.rest ≡ length section) result
    (λ table is. length-rest_of_table signature HaveNames max table section is) given

-- ---- new tables

all_of_replicate : {X : Type 0} (P : X → Type 0) (x : X) (count : ℕ) → P x → AllByRecursion P (replicate count x)
all_of_replicate P x zero h = tt
all_of_replicate P x (suc count) h = (h, all_of_replicate P x count h)

length-blank : {Row : Type 0} (unused : Row) (max size : ℕ) → ROWS_AT + ROW_BYTES * max ≤ size → length (blank_table unused max size).rest ≡ size
length-blank unused max size room =
    let bytes : List ℕ = replicate size 255 in
    let len = length-replicate {A = ℕ} size 255 in
    let inside : AreWithin (length bytes) (seal_place ∷ table_places max) = table_within max (length bytes) (omega (arith, len)) in
    (cleared_outside (seal_place ∷ table_places max) bytes inside).size ∙ len

blank_can_be_written : {Row : Type 0} (IsRow : Row → Type 0) (HaveNames : List Row → Type 0) (unused : Row) (max size : ℕ) → IsRow unused → HaveNames (replicate max unused) → max < 2 ^ 16
    → ROWS_AT + ROW_BYTES * max ≤ size → IsTable IsRow HaveNames max (blank_table unused max size)
blank_can_be_written IsRow HaveNames unused max size good own fits room =
    let bytes : List ℕ = replicate size 255 in
    let len = length-replicate {A = ℕ} size 255 in
    let inside : AreWithin (length bytes) (seal_place ∷ table_places max) = table_within max (length bytes) (omega (arith, len)) in
    record {
      has_rows = length-replicate max unused;
      max_fits = fits;
      populated_fits = lit< tt;
      long = let same = length-blank unused max size room in omega (arith, same);
      others_clear = cleared-cleared (seal_place ∷ table_places max) bytes inside;
      rows_good = all_of_replicate IsRow unused max good;
      have_names = own;
    }

pub blank_is_writable : {Row : Type 0} (IsRow : Row → Type 0) (HaveNames : List Row → Type 0) (unused : Row) (max size : ℕ) (result : Result (TableValue Row) NoMemory) → IsRow unused
    → HaveNames (replicate max unused) → max < 2 ^ 16 → ROWS_AT + ROW_BYTES * max ≤ size → IfOk result (λ table. table ≡ blank_table unused max size) → IfOk result (IsTable IsRow HaveNames max)
blank_is_writable IsRow HaveNames unused max size result good own fits room given =
    if_ok_then (λ table. table ≡ blank_table unused max size) (IsTable IsRow HaveNames max) result
    (λ table is. subst (IsTable IsRow HaveNames max) (sym is) (blank_can_be_written IsRow HaveNames unused max size good own fits room)) given

rest_of : {Row : Type 0} (a b : TableValue Row) → a ≡ b → a.rest ≡ b.rest
rest_of {Row} a b e = let f : TableValue Row → List ℕ = λ table. table.rest in ap f e

pub blank_has_size : {Row : Type 0} (unused : Row) (max size : ℕ) (result : Result (TableValue Row) NoMemory) → ROWS_AT + ROW_BYTES * max ≤ size → IfOk result (λ table. table ≡ blank_table unused max size)
    → IfOk result (λ table. length table.rest ≡ size)
blank_has_size unused max size result room given =
    if_ok_then (λ table. table ≡ blank_table unused max size) (λ table. length table.rest ≡ size) result
    (λ table is. ap length (rest_of table (blank_table unused max size) is) ∙ length-blank unused max size room) given

pub replaced_can_be_written : {Row : Type 0} (IsRow : Row → Type 0) (is_used : Row → Bool) (HaveNames : List Row → Type 0) (max : ℕ) (table : TableValue Row) (rows : List Row) → length rows ≡ length table.rows
    → IsTable IsRow HaveNames max table → AllByRecursion IsRow rows → HaveNames rows → IsTable IsRow HaveNames max (replaced_table is_used table rows)
replaced_can_be_written IsRow is_used HaveNames max table rows count can good own =
    let had = can.has_rows in
    let fits = can.max_fits in
    let used = count_by-le-length is_used rows in
    record {
      has_rows = count ∙ had;
      max_fits = fits;
      populated_fits = omega (arith, used);
      long = can.long;
      others_clear = can.others_clear;
      rows_good = good;
      have_names = own;
    }
