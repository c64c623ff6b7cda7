-- A copy that is read names each disk and each array once, so what any slot shows does.
use Rattle.std.proofs.Common.{◌≡◌, ℕ, suc, Bool, true, false, List, [], ◌∷◌, map, nat_eq, Option, Some, None, Result, Ok, Err, if◌then◌else◌, inl, inr, refl, ap, subst}
use Rattle.std.specs.Prelude.{IfSome, nat_lt}
use Rattle.std.specs.List.{IsDistinct}
use Rattle.std.specs.Str.{bytes_eq}
use Rattle.ddf_bytes.specs.Choices.{first_of, ok_unless}
use Rattle.ddf_bytes.proofs.Nones.{none_first}
use Rattle.ddf_bay.specs.State.{BayState, on_slot, size_of}
use Rattle.ddf_header.specs.declared.reading.Header.{Header}
use Rattle.ddf_tables.specs.declared.arrays.ArrayRow.{ArrayRow}
use Rattle.ddf_tables.specs.declared.disks.DiskRow.{DiskRow}
use Rattle.ddf_tables.specs.declared.fault.TableFault.{TableFault}
use Rattle.ddf_tables.specs.declared.layout.TheConstants.{ROWS_AT}
use Rattle.ddf_tables.specs.Arrays.{HaveGuids, array_row_at, array_signature, decoded_arrays}
use Rattle.ddf_tables.specs.Disks.{HaveReferences, decoded_disks, disk_row_at, disk_signature}
use Rattle.ddf_tables.specs.Sectors.{decoded_controller, decoded_disk_data}
use Rattle.ddf_tables.specs.Tables.{TableValue, decoded_table, rows_at, table_at, table_faults}
use Rattle.ddf_tables.proofs.ArrayRows.{array_names}
use Rattle.ddf_tables.proofs.DiskRows.{disk_names}
use Rattle.ddf_tables.proofs.Names.{NameLaws}
use Rattle.ddf_config_records.specs.Slots.{decoded_slots}
use Rattle.ddf_copy.specs.declared.copy.DiskCopy.{DiskCopy}
use Rattle.ddf_copy.specs.declared.fault.AnchorFault.{AnchorFault}
use Rattle.ddf_copy.specs.declared.fault.CopyFault.{CopyFault}
use Rattle.ddf_copy.specs.declared.fault.SectionName.{SectionName}
use Rattle.ddf_copy.specs.declared.fault.SectionName.TheVariants as names
use Rattle.ddf_copy.specs.declared.newest_copy.Newest.{Newest}
use Rattle.ddf_copy.specs.declared.newest_copy.Newest.TheVariants as newests
use Rattle.ddf_copy.specs.declared.raw.Raw.{Raw}
use Rattle.ddf_copy.specs.declared.which.Which.{Which}
use Rattle.ddf_copy.specs.declared.which.Which.TheVariants.{Primary, Secondary}
use Rattle.ddf_copy.specs.Anchor.{anchor_at}
use Rattle.ddf_copy.specs.Copies.{are_level, copy_of, newest_at, newest_in, newest_of, newest_under}
use Rattle.ddf_copy.specs.Gate.{header_of}
use Rattle.ddf_copy.specs.Sections.{and_then, bytes_in, copy_in, in_section, in_sector, in_slots, log_in, raw_at}
use Rattle.ddf_copy.specs.Which.{place_of}
use Rattle.ddf_copy.proofs.LastCopies.{ok_or}
use Rattle.ddf_view.specs.Readable.{DoNamesDiffer}
use Rattle.ddf_view.specs.View.{view_of}
use Rattle.ddf_view.proofs.Names.{guids, references}
use Rattle.ddf_group.specs.Names.{AreNamed, IsNamed}
use Rattle.ddf_group.specs.Shown.{shown_of}
use Rattle.ddf_assembly.specs.Slots.{newest_from, newest_or}

-- ---- a table

-- The names of a table that is read are apart, for a row that has the name of an earlier one is a fault.
table_named : {Row : Type 0} {twice : List Row → Row → Option TableFault} {HaveNames : List Row → Type 0} (own : NameLaws twice HaveNames) (signature : ℕ) (row_at : List ℕ → Row)
    (max : ℕ) (section : List ℕ) (table : TableValue Row) → decoded_table signature row_at twice max section ≡ Ok table → HaveNames table.rows
table_named {Row = Row} {twice = twice} {HaveNames = HaveNames} own signature row_at max section table is = by (first_of (table_faults signature row_at twice max section)) refl is
  where
    by : (fault : Option TableFault) → first_of (table_faults signature row_at twice max section) ≡ fault → ok_unless fault (table_at row_at max section) ≡ Ok table → HaveNames table.rows
    by None none made =
        let same : table_at row_at max section ≡ table = cc in
        subst (λ (one : TableValue Row). HaveNames one.rows) same
        (own.own_from_none (rows_at row_at section ROWS_AT max) (none_first (table_faults signature row_at twice max section) none).1.1.0)
    by (Some fault) some made = absurd cc

section_read : {Row : Type 0} (name : SectionName) (read : Result (TableValue Row) TableFault) (table : TableValue Row) → in_section name read ≡ Ok table → read ≡ Ok table
section_read {Row = Row} name (Ok value) table is = let same : value ≡ table = cc in ap (λ (one : TableValue Row). Ok one) same
section_read name (Err fault) table is = absurd cc

-- ---- a copy

-- the names of its disks and of its arrays
abbrev HasNames : DiskCopy → Type 0
HasNames copy = HaveReferences copy.disks.rows × HaveGuids copy.arrays.rows

abbrev AreNames : Result DiskCopy CopyFault → Type 0
AreNames (Ok copy) = HasNames copy
AreNames (Err fault) = Unit {0}

in_copy : (header : Header) (raw : Raw) → AreNames (copy_in header raw)
unfolding copy_in
in_copy header raw = elim (ok_or (in_sector names.Controller (decoded_controller raw.controller))) [
  | inl controller ↦ elim (ok_or (in_section names.Disks (decoded_disks header.geometry.max_disks (bytes_in raw.disks)))) [
    | inl disks ↦ elim (ok_or (in_section names.Arrays (decoded_arrays header.geometry.max_arrays (bytes_in raw.arrays)))) [
      | inl arrays ↦ elim (ok_or (in_slots (decoded_slots header.geometry header.guid header.sequence (bytes_in raw.records)))) [
        | inl all ↦ elim (ok_or (in_sector names.DiskData (decoded_disk_data raw.disk_data))) [
          | inl disk_data ↦ elim (ok_or (log_in raw.bad_blocks)) [
            | inl bad ↦ rw (controller.1, disks.1, arrays.1, all.1, disk_data.1, bad.1) (of_tables disks.0 arrays.0 disks.1 arrays.1)
            | inr fault ↦ rw (controller.1, disks.1, arrays.1, all.1, disk_data.1, fault.1) tt
          ]
          | inr fault ↦ rw (controller.1, disks.1, arrays.1, all.1, fault.1) tt
        ]
        | inr fault ↦ rw (controller.1, disks.1, arrays.1, fault.1) tt
      ]
      | inr fault ↦ rw (controller.1, disks.1, fault.1) tt
    ]
    | inr fault ↦ rw (controller.1, fault.1) tt
  ]
  | inr fault ↦ rw fault.1 tt
]
  where
    of_tables : (disks : TableValue DiskRow) (arrays : TableValue ArrayRow) → in_section names.Disks (decoded_disks header.geometry.max_disks (bytes_in raw.disks)) ≡ Ok disks
        → in_section names.Arrays (decoded_arrays header.geometry.max_arrays (bytes_in raw.arrays)) ≡ Ok arrays → HaveReferences disks.rows × HaveGuids arrays.rows
    of_tables disks arrays disks_are arrays_are = (
      table_named disk_names disk_signature disk_row_at header.geometry.max_disks (bytes_in raw.disks) disks (section_read names.Disks (decoded_disks header.geometry.max_disks (bytes_in raw.disks)) disks disks_are),
      table_named array_names array_signature array_row_at header.geometry.max_arrays (bytes_in raw.arrays) arrays (section_read names.Arrays (decoded_arrays header.geometry.max_arrays (bytes_in raw.arrays)) arrays arrays_are),
    )

copy_named : (size : ℕ) (sector : ℕ → List ℕ) (anchor : Header) (which : Which) → AreNames (copy_of size sector anchor which)
unfolding copy_of
copy_named size sector anchor which = by (header_of size sector anchor which)
  where
    by : (found : Result Header CopyFault) → AreNames (and_then found (λ (header : Header). copy_in header (raw_at sector (place_of which anchor) header.geometry)))
    by (Ok header) = in_copy header (raw_at sector (place_of which anchor) header.geometry)
    by (Err fault) = tt

-- ---- a slot

abbrev IsNamedNewest : Newest → Type 0
IsNamedNewest (newests.One which copy) = HasNames copy
IsNamedNewest (newests.Level copy) = HasNames copy
IsNamedNewest (newests.TwoDiffer primary secondary) = HasNames primary × HasNames secondary
IsNamedNewest (newests.Neither first second) = Unit {0}

newest_named : (size : ℕ) (sector : ℕ → List ℕ) (anchor : Header) → IsNamedNewest (newest_of size sector anchor)
unfolding newest_of
newest_named size sector anchor =
    by (are_level (copy_of size sector anchor Primary) (copy_of size sector anchor Secondary)) (copy_of size sector anchor Primary) (copy_of size sector anchor Secondary)
    (copy_named size sector anchor Primary) (copy_named size sector anchor Secondary)
  where
    both : (level : Bool) (primary secondary : DiskCopy) (older newer : Bool) → HasNames primary → HasNames secondary
        → IsNamedNewest (if older then newests.One Secondary secondary else if newer then newests.One Primary primary else if level then newests.Level primary else newests.TwoDiffer primary secondary)
    both level primary secondary true newer one other = other
    both level primary secondary false true one other = one
    both true primary secondary false false one other = one
    both false primary secondary false false one other = (one, other)

    by : (level : Bool) (primary secondary : Result DiskCopy CopyFault) → AreNames primary → AreNames secondary → IsNamedNewest (newest_in level primary secondary)
    by level (Ok primary) (Ok secondary) one other =
        both level primary secondary (nat_lt primary.header.sequence secondary.header.sequence) (nat_lt secondary.header.sequence primary.header.sequence) one other
    by level (Ok primary) (Err fault) one other = one
    by level (Err fault) (Ok secondary) one other = other
    by level (Err first) (Err second) one other = tt

view_named : (copy : DiskCopy) → HasNames copy → DoNamesDiffer (view_of copy ∷ [])
unfolding view_of
view_named copy own = record {
  references = subst (λ all. IsDistinct nat_eq all) (references copy.disks.rows) own.0.all_differ;
  guids = subst (λ all. IsDistinct bytes_eq all) (guids copy.arrays.rows) own.1.all_differ;
}

one_named : (one : Option Newest) → IfSome one IsNamedNewest → IsNamed (shown_of one)
unfolding shown_of
one_named None own = tt
one_named (Some (newests.One which copy)) own = view_named copy own
one_named (Some (newests.Level copy)) own = view_named copy own
one_named (Some (newests.TwoDiffer primary secondary)) own = view_named primary own.0
one_named (Some (newests.Neither first second)) own = tt

under_named : (size : ℕ) (sector : ℕ → List ℕ) (found : Result Header AnchorFault) → IfSome (newest_under size sector found) IsNamedNewest
under_named size sector (Ok anchor) = newest_named size sector anchor
under_named size sector (Err fault) = tt

-- What slots show is so, whichever of them are left out.
pub are_named : {D : Type 0} (disks : BayState D) (slot : ℕ) (left : List Bool) → AreNamed (map shown_of (newest_from disks slot left))
are_named disks slot [] = tt
are_named disks slot (out ∷ left) = (by out, are_named disks (suc slot) left)
  where
    by : (out : Bool) → IsNamed (shown_of (newest_or disks slot out))
    by true = one_named None tt
    by false = one_named (on_slot newest_at disks slot) (under_named (size_of disks slot) (disks.held slot) (anchor_at (size_of disks slot) (disks.held slot)))
