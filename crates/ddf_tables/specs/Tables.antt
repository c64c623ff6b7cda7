-- A table of disks or of arrays (SNIA DDF 2.0, physical and virtual disk records): 64 bytes of head, and rows of 64 bytes.
use Rattle.std.specs.Prelude.{◌≡◌, ℕ, ◌+◌, ◌*◌, ◌^◌, ◌<◌, ◌≤◌, Bool, not, ◌==◌, List, [], ◌∷◌, length, map, take, replicate, count_by, Option, option_map, Result}
use Rattle.std.specs.List.{AllByRecursion, enumerate_from, flat_map}
use Rattle.std.specs.Result.{result_err}
use Rattle.std.specs.Int.{w16}
use Rattle.ddf_bytes.specs.Bytes.{bytes_at, number_at}
use Rattle.ddf_bytes.specs.Choices.{first_of, ok_unless, when}
use Rattle.ddf_seal.specs.declared.unread.Span.{Span}
use Rattle.ddf_seal.specs.Seal.{seal_check, seal_place}
use Rattle.ddf_seal.specs.Records.{IsRecordOf, record_bytes}
use Rattle.ddf_seal.specs.Unread.{Field, u16_at, plain_at, cleared}
use Rattle.ddf_tables.specs.declared.fault.TableFault.{TableFault}
use Rattle.ddf_tables.specs.declared.fault.TableFault.TheVariants as faults
use Rattle.ddf_tables.specs.declared.layout.TheConstants.{POPULATED_AT, MAXIMUM_AT, ROWS_AT, ROW_BYTES}
use Rattle.ddf_tables.specs.Places.{each_at}

-- What contracts see of a table: the populated count as it is stored, the rows in order, and the section with zeros in
-- the places of the seal, the two counts and the rows.
pub record TableValue (Row : Type 0) : Type 0 where
  pub populated : ℕ
  pub rows : List Row
  pub rest : List ℕ

-- ---- a table against its section

-- each row is the value of 64 bytes, which lie one after another from an offset on
abbrev pub RowsStand : {Row : Type 0} → (Row → List ℕ → Type 0) → List ℕ → ℕ → List Row → Type 0
RowsStand IsRowAt bytes at [] = Unit {0}
RowsStand IsRowAt bytes at (row ∷ rows) = IsRowAt row (bytes_at bytes at ROW_BYTES) × RowsStand IsRowAt bytes (at + ROW_BYTES) rows

-- the fields of a table, of which the last is the bytes of its rows
abbrev pub table_fields : {Row : Type 0} → TableValue Row → List ℕ → List Field
table_fields table bytes = u16_at POPULATED_AT table.populated ∷ u16_at MAXIMUM_AT (length table.rows) ∷ plain_at ROWS_AT (ROW_BYTES * length table.rows) bytes ∷ []

-- A table is the value of a section: it is sealed, the counts have the values that stand in it, there are as many rows as
-- the header gives, each is the value of its bytes, the rest is all other bytes, and each used row has a name of its own.
pub record IsTableOf {Row : Type 0} (signature : ℕ) (IsRowAt : Row → List ℕ → Type 0) (HaveNames : List Row → Type 0) (max : ℕ) (table : TableValue Row) (section : List ℕ) : Type 0 where
  pub has_rows : length table.rows ≡ max
  pub long : ROWS_AT + ROW_BYTES * max ≤ length section
  pub is_record : IsRecordOf signature (table_fields table (bytes_at section ROWS_AT (ROW_BYTES * length table.rows))) table.rest section
  pub rows_stand : RowsStand IsRowAt section ROWS_AT table.rows
  pub have_names : HaveNames table.rows

-- ---- what can be written

-- the places of the two counts and of the rows
abbrev pub table_places : ℕ → List Span
table_places count = record { at = POPULATED_AT; length = 2 } ∷ record { at = MAXIMUM_AT; length = 2 } ∷ record { at = ROWS_AT; length = ROW_BYTES * count } ∷ []

-- zeros in the places of the seal, the counts and the rows
abbrev pub unread_of_table : ℕ → List ℕ → List ℕ
unread_of_table count bytes = cleared (seal_place ∷ table_places count) bytes

-- A table can be written: each row can, each used one has a name of its own, and the rest has room for them and zeros in
-- their places.
pub record IsTable {Row : Type 0} (IsRow : Row → Type 0) (HaveNames : List Row → Type 0) (max : ℕ) (table : TableValue Row) : Type 0 where
  pub has_rows : length table.rows ≡ max
  pub max_fits : max < 2 ^ 16
  pub populated_fits : table.populated < 2 ^ 16
  pub long : ROWS_AT + ROW_BYTES * max ≤ length table.rest
  pub others_clear : unread_of_table max table.rest ≡ table.rest
  pub rows_good : AllByRecursion IsRow table.rows
  pub have_names : HaveNames table.rows

-- the section that a table is written as
abbrev pub table_bytes : {Row : Type 0} → ℕ → (Row → List ℕ) → TableValue Row → List ℕ
table_bytes signature row_bytes table = record_bytes signature (table_fields table (flat_map row_bytes table.rows)) table.rest

-- ---- reading

-- so many rows, one after another from an offset on
abbrev pub rows_at : {Row : Type 0} → (List ℕ → Row) → List ℕ → ℕ → ℕ → List Row
rows_at row_at bytes at count = each_at (λ place. row_at (bytes_at bytes place ROW_BYTES)) ROW_BYTES at count

-- the table that stands in a section
abbrev pub table_at : {Row : Type 0} → (List ℕ → Row) → ℕ → List ℕ → TableValue Row
table_at row_at max section = record {
  populated = number_at w16 section POPULATED_AT;
  rows = rows_at row_at section ROWS_AT max;
  rest = unread_of_table max section;
}

-- What may be wrong with the rows of a table: of each row by those before it, the first that is there.
abbrev pub first_twice : {Row : Type 0} → (List Row → Row → Option TableFault) → List Row → Option TableFault
first_twice twice rows = first_of (map (λ pair. twice (take pair.0 rows) pair.1) (enumerate_from 0 rows))

-- what may be wrong with a section, in order
abbrev pub table_faults : {Row : Type 0} → ℕ → (List ℕ → Row) → (List Row → Row → Option TableFault) → ℕ → List ℕ → List (Option TableFault)
table_faults signature row_at twice max section =
    option_map faults.Seal (result_err (seal_check signature section))
    ∷ when (not (number_at w16 section MAXIMUM_AT == max)) (faults.Count (number_at w16 section MAXIMUM_AT) max)
    ∷ first_twice twice (rows_at row_at section ROWS_AT max)
    ∷ []

-- the first fault, or else the table
abbrev pub decoded_table : {Row : Type 0} → ℕ → (List ℕ → Row) → (List Row → Row → Option TableFault) → ℕ → List ℕ → Result (TableValue Row) TableFault
decoded_table signature row_at twice max section =
    ok_unless (first_of (table_faults signature row_at twice max section)) (table_at row_at max section)

-- ---- new ones

-- a table of so many unused rows, all of whose bytes are FF
abbrev pub blank_table : {Row : Type 0} → Row → ℕ → ℕ → TableValue Row
blank_table unused max size = record {
  populated = 0;
  rows = replicate max unused;
  rest = unread_of_table max (replicate size 255);
}

-- the table with other rows, and the count of the used ones
abbrev pub replaced_table : {Row : Type 0} → (Row → Bool) → TableValue Row → List Row → TableValue Row
replaced_table is_used table rows = record table { populated = count_by is_used rows; rows = rows }
