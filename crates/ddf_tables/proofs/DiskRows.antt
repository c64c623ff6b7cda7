-- A row of the physical disk records is the value of its 64 bytes.
use Rattle.std.proofs.Common.{◌≡◌, ℕ, true, false, List, length, refl, sym, ◌∙◌, ap, subst, inl, inr}
use Rattle.std.proofs.lemmas.Bool.{cases_Bool}
use Rattle.std.specs.Prelude.{nat_eq}
use Rattle.ddf_tables.specs.declared.fault.TableFault.TheVariants.{TwiceSameReference}
use Rattle.ddf_tables.proofs.Names.{NameLaws, name_laws}
use Rattle.ddf_bytes.specs.Bytes.{bytes_at}
use Rattle.ddf_seal.specs.Unread.{AreBytes, places}
use Rattle.ddf_seal.proofs.Same.{AreWithin, within_from_test, cleared_outside}
use Rattle.ddf_seal.proofs.Records.{AreAllApart, apart_from_test, row_again, row_from_bytes, row_written, written_outside}
use Rattle.ddf_tables.specs.declared.disks.DiskEntry.{DiskEntry}
use Rattle.ddf_tables.specs.declared.bits.DiskType.{DiskType}
use Rattle.ddf_tables.specs.declared.bits.DiskState.{DiskState}
use Rattle.ddf_tables.specs.declared.disks.DiskRow.{DiskRow}
use Rattle.ddf_tables.specs.declared.disks.DiskRow.TheVariants.{Entry, Unused}
use Rattle.ddf_tables.specs.declared.layout.TheConstants.{DISK_GUID_AT}
use Rattle.ddf_tables.specs.Rows.{is_unused}
use Rattle.ddf_tables.specs.Disks.{disk_fields, disk_at, disk_row_at, disk_row_bytes, disk_twice, HaveReferences, reference_of, is_no_disk, IsDiskRowOf, IsDiskRow}
use Rattle.ddf_tables.proofs.TableValues.{RowLaws}

within : (entry : DiskEntry) (size : ℕ) → size ≡ 64 → AreWithin size (places (disk_fields entry))
within entry size is = subst (λ n. AreWithin n (places (disk_fields entry))) (sym is) (within_from_test 64 (places (disk_fields entry)) refl)

apart : (entry : DiskEntry) → AreAllApart (places (disk_fields entry))
apart entry = apart_from_test (places (disk_fields entry)) refl

abbrev entry_of : (guid : List ℕ) (reference : ℕ) (kind : DiskType) (state : DiskState) (size : ℕ) (rest : List ℕ) → DiskEntry
entry_of guid reference kind state size rest = record { guid = guid; reference = reference; kind = kind; state = state; size = size; rest = rest }

same_entry : (a b : DiskEntry) → a.guid ≡ b.guid → a.reference ≡ b.reference → a.kind.0 ≡ b.kind.0 → a.state.0 ≡ b.state.0 → a.size ≡ b.size → a.rest ≡ b.rest → a ≡ b
same_entry a b e1 e2 e3 e4 e5 e6 =
    let kind : a.kind ≡ b.kind = let f : ℕ → DiskType = λ n. record { 0 = n } in ap f e3 in
    let state : a.state ≡ b.state = let f : ℕ → DiskState = λ n. record { 0 = n } in ap f e4 in
    let all : entry_of a.guid a.reference a.kind a.state a.size a.rest ≡ entry_of b.guid b.reference b.kind b.state b.size b.rest = cc in
    all

pub used_row : (bytes : List ℕ) → is_unused (bytes_at bytes DISK_GUID_AT 24) ≡ false → disk_row_at bytes ≡ Entry (disk_at bytes)
unfolding disk_row_at
used_row bytes used = rw used refl

read_is : (bytes : List ℕ) → length bytes ≡ 64 → AreBytes bytes → IsDiskRowOf (disk_row_at bytes) bytes
unfolding disk_row_at
read_is bytes size are =
    elim (cases_Bool (is_unused (bytes_at bytes DISK_GUID_AT 24))) [
      | inl unused ↦ rw unused (refl, unused)
      | inr used ↦ rw used (record { are_bytes = are; fields_stand = (refl, (refl, (refl, (refl, (refl, tt))))); others_stay = refl }, used)
    ]

read_only : (row : DiskRow) (bytes : List ℕ) → length bytes ≡ 64 → IsDiskRowOf row bytes → disk_row_at bytes ≡ row
unfolding disk_row_at
read_only (Entry entry) bytes size is =
    let stand = is.0.fields_stand in
    let used : is_unused (bytes_at bytes DISK_GUID_AT 24) ≡ false = ap is_unused stand.0 ∙ is.1 in
    rw used (ap Entry (same_entry (disk_at bytes) entry stand.0 stand.1.0 stand.1.1.0 stand.1.1.1.0 stand.1.1.1.1.0 (sym is.0.others_stay)))
read_only (Unused whole) bytes size is =
    let unused : is_unused (bytes_at bytes DISK_GUID_AT 24) ≡ true = ap (λ l. is_unused (bytes_at l DISK_GUID_AT 24)) (sym is.0) ∙ is.1 in
    rw unused (ap Unused (sym is.0))

bytes_again : (row : DiskRow) (bytes : List ℕ) → length bytes ≡ 64 → IsDiskRowOf row bytes → disk_row_bytes row ≡ bytes
bytes_again (Entry entry) bytes size is = row_again (disk_fields entry) entry.rest bytes (within entry (length bytes) size) is.0
bytes_again (Unused whole) bytes size is = is.0

is_row : (row : DiskRow) (bytes : List ℕ) → length bytes ≡ 64 → IsDiskRowOf row bytes → IsDiskRow row
is_row (Entry entry) bytes size is =
    let inside = within entry (length bytes) size in
    (row_from_bytes (disk_fields entry) entry.rest bytes inside is.0, ap length is.0.others_stay ∙ (cleared_outside (places (disk_fields entry)) bytes inside).size ∙ size, is.1)
is_row (Unused whole) bytes size is = (ap length is.0 ∙ size, is.1)

size : (row : DiskRow) → IsDiskRow row → length (disk_row_bytes row) ≡ 64
size (Entry entry) good = (written_outside (disk_fields entry) entry.rest (within entry (length entry.rest) good.1) good.0.fields_fit).size ∙ good.1
size (Unused whole) good = good.0

bytes_are : (row : DiskRow) → IsDiskRow row → AreBytes (disk_row_bytes row) → IsDiskRowOf row (disk_row_bytes row)
bytes_are (Entry entry) good are = (row_written (disk_fields entry) entry.rest (within entry (length entry.rest) good.1) (apart entry) good.0 are, good.2)
bytes_are (Unused whole) good are = (refl, good.1)

pub disk_laws : RowLaws IsDiskRowOf IsDiskRow disk_row_at disk_row_bytes
disk_laws = record { read_is = read_is; read_only = read_only; bytes_again = bytes_again; is_row = is_row; size = size; bytes_are = bytes_are }

pub disk_names : NameLaws disk_twice HaveReferences
unfolding disk_twice
disk_names = name_laws reference_of nat_eq is_no_disk TwiceSameReference
