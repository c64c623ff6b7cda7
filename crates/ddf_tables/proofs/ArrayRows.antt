-- A row of the virtual disk records is the value of its 64 bytes.
use Rattle.std.proofs.Common.{◌≡◌, ℕ, true, false, List, length, refl, sym, ◌∙◌, ap, subst, inl, inr}
use Rattle.std.proofs.lemmas.Bool.{cases_Bool}
use Rattle.std.specs.Str.{bytes_eq}
use Rattle.ddf_tables.specs.declared.fault.TableFault.TheVariants.{TwiceSameGuid}
use Rattle.ddf_tables.proofs.Names.{NameLaws, name_laws}
use Rattle.ddf_bytes.specs.Bytes.{bytes_at}
use Rattle.ddf_seal.specs.Unread.{AreBytes, places}
use Rattle.ddf_seal.proofs.Same.{AreWithin, within_from_test, cleared_outside}
use Rattle.ddf_seal.proofs.Records.{AreAllApart, apart_from_test, row_again, row_from_bytes, row_written, written_outside}
use Rattle.ddf_tables.specs.declared.arrays.ArrayEntry.{ArrayEntry}
use Rattle.ddf_tables.specs.declared.arrays.ArrayRow.{ArrayRow}
use Rattle.ddf_tables.specs.declared.arrays.ArrayRow.TheVariants.{Entry, Unused}
use Rattle.ddf_tables.specs.declared.layout.TheConstants.{ARRAY_GUID_AT}
use Rattle.ddf_tables.specs.Rows.{is_unused}
use Rattle.ddf_tables.specs.Arrays.{array_fields, array_at, array_row_at, array_row_bytes, array_twice, HaveGuids, guid_of, is_no_array, IsArrayRowOf, IsArrayRow}
use Rattle.ddf_tables.proofs.TableValues.{RowLaws}

within : (entry : ArrayEntry) (size : ℕ) → size ≡ 64 → AreWithin size (places (array_fields entry))
within entry size is = subst (λ n. AreWithin n (places (array_fields entry))) (sym is) (within_from_test 64 (places (array_fields entry)) refl)

apart : (entry : ArrayEntry) → AreAllApart (places (array_fields entry))
apart entry = apart_from_test (places (array_fields entry)) refl

abbrev entry_of : (guid : List ℕ) (number state init : ℕ) (name rest : List ℕ) → ArrayEntry
entry_of guid number state init name rest = record { guid = guid; number = number; state = state; init = init; name = name; rest = rest }

same_entry : (a b : ArrayEntry) → a.guid ≡ b.guid → a.number ≡ b.number → a.state ≡ b.state → a.init ≡ b.init → a.name ≡ b.name → a.rest ≡ b.rest → a ≡ b
same_entry a b e1 e2 e3 e4 e5 e6 =
    let all : entry_of a.guid a.number a.state a.init a.name a.rest ≡ entry_of b.guid b.number b.state b.init b.name b.rest = cc in
    all

pub used_row : (bytes : List ℕ) → is_unused (bytes_at bytes ARRAY_GUID_AT 24) ≡ false → array_row_at bytes ≡ Entry (array_at bytes)
unfolding array_row_at
used_row bytes used = rw used refl

read_is : (bytes : List ℕ) → length bytes ≡ 64 → AreBytes bytes → IsArrayRowOf (array_row_at bytes) bytes
unfolding array_row_at
read_is bytes size are =
    elim (cases_Bool (is_unused (bytes_at bytes ARRAY_GUID_AT 24))) [
      | inl unused ↦ rw unused (refl, unused)
      | inr used ↦ rw used (record { are_bytes = are; fields_stand = (refl, (refl, (refl, (refl, (refl, tt))))); others_stay = refl }, used)
    ]

read_only : (row : ArrayRow) (bytes : List ℕ) → length bytes ≡ 64 → IsArrayRowOf row bytes → array_row_at bytes ≡ row
unfolding array_row_at
read_only (Entry entry) bytes size is =
    let stand = is.0.fields_stand in
    let used : is_unused (bytes_at bytes ARRAY_GUID_AT 24) ≡ false = ap is_unused stand.0 ∙ is.1 in
    rw used (ap Entry (same_entry (array_at bytes) entry stand.0 stand.1.0 stand.1.1.0 stand.1.1.1.0 stand.1.1.1.1.0 (sym is.0.others_stay)))
read_only (Unused whole) bytes size is =
    let unused : is_unused (bytes_at bytes ARRAY_GUID_AT 24) ≡ true = ap (λ l. is_unused (bytes_at l ARRAY_GUID_AT 24)) (sym is.0) ∙ is.1 in
    rw unused (ap Unused (sym is.0))

bytes_again : (row : ArrayRow) (bytes : List ℕ) → length bytes ≡ 64 → IsArrayRowOf row bytes → array_row_bytes row ≡ bytes
bytes_again (Entry entry) bytes size is = row_again (array_fields entry) entry.rest bytes (within entry (length bytes) size) is.0
bytes_again (Unused whole) bytes size is = is.0

is_row : (row : ArrayRow) (bytes : List ℕ) → length bytes ≡ 64 → IsArrayRowOf row bytes → IsArrayRow row
is_row (Entry entry) bytes size is =
    let inside = within entry (length bytes) size in
    (row_from_bytes (array_fields entry) entry.rest bytes inside is.0, ap length is.0.others_stay ∙ (cleared_outside (places (array_fields entry)) bytes inside).size ∙ size, is.1)
is_row (Unused whole) bytes size is = (ap length is.0 ∙ size, is.1)

size : (row : ArrayRow) → IsArrayRow row → length (array_row_bytes row) ≡ 64
size (Entry entry) good = (written_outside (array_fields entry) entry.rest (within entry (length entry.rest) good.1) good.0.fields_fit).size ∙ good.1
size (Unused whole) good = good.0

bytes_are : (row : ArrayRow) → IsArrayRow row → AreBytes (array_row_bytes row) → IsArrayRowOf row (array_row_bytes row)
bytes_are (Entry entry) good are = (row_written (array_fields entry) entry.rest (within entry (length entry.rest) good.1) (apart entry) good.0 are, good.2)
bytes_are (Unused whole) good are = (refl, good.1)

pub array_laws : RowLaws IsArrayRowOf IsArrayRow array_row_at array_row_bytes
array_laws = record { read_is = read_is; read_only = read_only; bytes_again = bytes_again; is_row = is_row; size = size; bytes_are = bytes_are }

pub array_names : NameLaws array_twice HaveGuids
unfolding array_twice
array_names = name_laws guid_of bytes_eq is_no_array TwiceSameGuid
