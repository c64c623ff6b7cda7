-- The tables that a change gives can be written.
use Rattle.std.proofs.Common.{◌≡◌, ℕ, ◌≤◌, Bool, true, false, not, eqb, List, [], ◌∷◌, ◌++◌, length, map, replicate, refl, ap, sym, ◌∙◌, subst, arith}
use Rattle.std.proofs.lemmas.List.{length-map, length-replicate, length-take-le, length-append}
use Rattle.std.specs.Prelude.{filter, filter_map, nat_eq}
use Rattle.std.specs.Option.{ForSome}
use Rattle.std.specs.Int.{w16}
use Rattle.std.specs.List.{AllByRecursion, IsDistinct}
use Rattle.std.specs.Str.{bytes_eq}
use Rattle.ddf_lemmas.proofs.Lists.{all_append, all_filter, all_replicate, all_taken, all_weaken}
use Rattle.ddf_bytes.specs.Bytes.{number_at}
use Rattle.ddf_header.specs.declared.kind.Revision.{Revision}
use Rattle.ddf_tables.specs.Tables.{TableValue, replaced_table}
use Rattle.ddf_tables.specs.declared.disks.DiskEntry.{DiskEntry}
use Rattle.ddf_tables.specs.declared.disks.DiskRow.{DiskRow}
use Rattle.ddf_tables.specs.declared.disks.DiskRow.TheVariants as disk_rows
use Rattle.ddf_tables.specs.declared.arrays.ArrayEntry.{ArrayEntry}
use Rattle.ddf_tables.specs.declared.arrays.ArrayRow.{ArrayRow}
use Rattle.ddf_tables.specs.declared.arrays.ArrayRow.TheVariants as array_rows
use Rattle.ddf_tables.specs.declared.layout.TheConstants.{DISK_BLOCK_SIZE_AT}
use Rattle.ddf_tables.specs.Disks.{IsDiskRow, is_used_disk, reference_of, is_no_disk, HaveReferences, IsDiskTable}
use Rattle.ddf_tables.specs.Arrays.{IsArrayRow, is_used_array, guid_of, is_no_array, HaveGuids, IsArrayTable}
use Rattle.ddf_tables.proofs.TableSections.{replaced_can_be_written}
use Rattle.ddf_tables.proofs.Building.{disk_over_can, array_over_can}
use Rattle.ddf_config.specs.Configuration.{Configuration}
use Rattle.ddf_config.specs.declared.array.Array.{Array}
use Rattle.ddf_config.specs.declared.member.Member.{Member}
use Rattle.ddf_view.specs.View.{array_of, disk_of, find_disk}
use Rattle.ddf_view.proofs.Finds.{find_has}
use Rattle.ddf_view.proofs.Names.{guids as guids_of, references}
use Rattle.ddf_rewrite.specs.Arrays.{array_entry, array_on, array_rows_after, arrays_after, find_array}
use Rattle.ddf_rewrite.specs.Disks.{block_size_of, changed_disks, disk_on, disk_rows_after, disks_for, filled, kind_in, member_entry, recovered_disks, rows_after, state_in}
use Rattle.ddf_rewrite.specs.Hold.{FitsArray, FitsMember}
use Rattle.ddf_rewrite.specs.Wanted.{Wanted, all_wanted}
use Rattle.ddf_rewrite.proofs.Filled.{filled_references, filled_rows}
use Rattle.ddf_rewrite.proofs.Flags.{kind_fits, state_fits}
use Rattle.ddf_rewrite.proofs.Tables.{disks_read, arrays_read}
use Rattle.ddf_rewrite.proofs.Lists.{all_mapped}

-- ---- rows of a table

rows_good : {Row : Type 0} (P : Row → Type 0) (is_used : Row → Bool) (unused : Row) (entries rows : List Row) → P unused → AllByRecursion P entries → AllByRecursion P rows → AllByRecursion P (rows_after is_used unused entries rows)
rows_good P is_used unused entries rows blank new old =
    all_taken P (length rows) (entries ++ filter (λ row. not (is_used row)) rows ++ replicate (length rows) unused)
    (all_append P (entries ++ filter (λ row. not (is_used row)) rows) (replicate (length rows) unused)
    (all_append P entries (filter (λ row. not (is_used row)) rows) new (all_filter P (λ row. not (is_used row)) rows old)) (all_replicate P (length rows) unused blank))

rows_count : {Row : Type 0} (is_used : Row → Bool) (unused : Row) (entries rows : List Row) → length (rows_after is_used unused entries rows) ≡ length rows
rows_count is_used unused entries rows =
    let all = length-append (entries ++ filter (λ row. not (is_used row)) rows) (replicate (length rows) unused) in
    let some = length-replicate (length rows) unused in
    length-take-le (length rows) (entries ++ filter (λ row. not (is_used row)) rows ++ replicate (length rows) unused) (omega (arith, all, some))

-- ---- disks

abbrev pub IsDiskEntry : DiskEntry → Type 0
IsDiskEntry entry = IsDiskRow (disk_rows.Entry entry)

find_good : (reference : ℕ) (own : List DiskEntry) → AllByRecursion IsDiskEntry own → ForSome (find_disk reference own) IsDiskEntry
find_good reference own good disk is = find_has IsDiskEntry (λ one. eqb one.reference reference) own disk good is

changed_row : (all : List Wanted) (disks own : List DiskEntry) (block_size : ℕ) (entry : ℕ × Member) → AllByRecursion IsDiskEntry own → FitsMember entry → IsDiskEntry (disk_on own block_size (member_entry all disks entry))
changed_row all disks own block_size entry good fits =
    disk_over_can (find_disk entry.0 own) block_size (member_entry all disks entry)
    (fits.guid, (fits.reference, (kind_fits all entry (kind_in disks entry.0), (state_fits all entry (state_in disks entry.0), (fits.size, tt))))) (find_good entry.0 own good) fits.used

blank_disk : IsDiskRow (disk_rows.Unused (replicate 64 255))
blank_disk = (refl, refl)

-- A table of disks with other entries can be written.
pub disks_can : (max : ℕ) (table : TableValue DiskRow) (entries : List DiskEntry) → IsDiskTable max table → AllByRecursion IsDiskEntry entries → length entries ≤ length table.rows
    → AllByRecursion (λ reference. is_no_disk reference ≡ false) (map (λ (disk : DiskEntry). disk.reference) entries) → IsDistinct nat_eq (map (λ (disk : DiskEntry). disk.reference) entries)
    → IsDiskTable max (replaced_table is_used_disk table (disk_rows_after table.rows entries))
unfolding disk_rows_after
disks_can max table entries can good few named apart =
    let names : filter_map reference_of (disk_rows_after table.rows entries) ≡ map (λ (disk : DiskEntry). disk.reference) entries =
    references (disk_rows_after table.rows entries) ∙ ap (λ (l : List DiskEntry). map (λ (disk : DiskEntry). disk.reference) l) (disks_read table.rows entries few) in
    replaced_can_be_written IsDiskRow is_used_disk HaveReferences max table (disk_rows_after table.rows entries)
    (rows_count is_used_disk (disk_rows.Unused (replicate 64 255)) (map disk_rows.Entry entries) table.rows) can
    (rows_good IsDiskRow is_used_disk (disk_rows.Unused (replicate 64 255)) (map disk_rows.Entry entries) table.rows blank_disk (all_mapped IsDiskRow disk_rows.Entry entries good) can.rows_good)
    (record { each_names = subst (λ (l : List ℕ). AllByRecursion (λ reference. is_no_disk reference ≡ false) l) (sym names) named; all_differ = subst (λ (l : List ℕ). IsDistinct nat_eq l) (sym names) apart })

pub own_disks_good : (rows : List DiskRow) → AllByRecursion IsDiskRow rows → AllByRecursion IsDiskEntry (filter_map disk_of rows)
own_disks_good [] good = tt
own_disks_good (disk_rows.Entry entry ∷ rows) good = (good.0, own_disks_good rows good.1)
own_disks_good (disk_rows.Unused whole ∷ rows) good = own_disks_good rows good.1

-- So can the table of a disk of a revision.
filled_can : (max : ℕ) (table : TableValue DiskRow) (revision : Revision) (noted : Bool) (config : Configuration) (entries : List DiskEntry) → IsDiskTable max table → AllByRecursion IsDiskEntry entries → length entries ≤ length table.rows
    → AllByRecursion (λ reference. is_no_disk reference ≡ false) (map (λ (disk : DiskEntry). disk.reference) entries) → IsDistinct nat_eq (map (λ (disk : DiskEntry). disk.reference) entries)
    → IsDiskTable max (replaced_table is_used_disk table (disk_rows_after table.rows (disks_for revision noted config entries)))
unfolding disks_for
filled_can max table revision noted config entries can good few named apart =
    let make = filled revision noted (all_wanted config) in
    let count = length-map entries make in
    let same = filled_references revision noted (all_wanted config) entries in
    disks_can max table (map make entries) can (filled_rows revision noted (all_wanted config) entries good) (omega (arith, count, few))
    (subst (λ (l : List ℕ). AllByRecursion (λ reference. is_no_disk reference ≡ false) l) (sym same) named)
    (subst (λ (l : List ℕ). IsDistinct nat_eq l) (sym same) apart)

same_references : (all : List Wanted) (disks own : List DiskEntry) (block_size : ℕ) (members : List (ℕ × Member)) → map (λ (disk : DiskEntry). disk.reference) (map (λ entry. disk_on own block_size (member_entry all disks entry)) members) ≡ map (λ (entry : ℕ × Member). entry.0) members
same_references all disks own block_size [] = refl
same_references all disks own block_size (entry ∷ members) = ap (λ (l : List ℕ). entry.0 ∷ l) (same_references all disks own block_size members)

changed_rows : (all : List Wanted) (disks own : List DiskEntry) (block_size : ℕ) (members : List (ℕ × Member)) → AllByRecursion IsDiskEntry own → AllByRecursion FitsMember members
    → AllByRecursion IsDiskEntry (map (λ entry. disk_on own block_size (member_entry all disks entry)) members)
changed_rows all disks own block_size members good fit =
    all_mapped IsDiskEntry (λ entry. disk_on own block_size (member_entry all disks entry)) members
    (all_weaken FitsMember (λ entry. IsDiskEntry (disk_on own block_size (member_entry all disks entry))) (λ entry fits. changed_row all disks own block_size entry good fits) members fit)

-- The disk table after a change can be written.
pub changed_disks_can : (max : ℕ) (table : TableValue DiskRow) (config : Configuration) (disks : List DiskEntry) (revision : Revision) → IsDiskTable max table → AllByRecursion FitsMember config.members → length config.members ≤ length table.rows
    → AllByRecursion (λ entry. is_no_disk entry.0 ≡ false) config.members → IsDistinct nat_eq (map (λ (entry : ℕ × Member). entry.0) config.members)
    → IsDiskTable max (replaced_table is_used_disk table (disk_rows_after table.rows (disks_for revision true config (changed_disks config disks revision (filter_map disk_of table.rows)))))
unfolding changed_disks
changed_disks_can max table config disks revision can fit few named apart =
    let own = filter_map disk_of table.rows in
    let make = λ (entry : ℕ × Member). disk_on own (block_size_of revision) (member_entry (all_wanted config) disks entry) in
    let count = length-map config.members make in
    let same = same_references (all_wanted config) disks own (block_size_of revision) config.members in
    filled_can max table revision true config (map make config.members) can (changed_rows (all_wanted config) disks own (block_size_of revision) config.members (own_disks_good table.rows can.rows_good) fit) (omega (arith, count, few))
    (subst (λ (l : List ℕ). AllByRecursion (λ reference. is_no_disk reference ≡ false) l) (sym same) (all_mapped (λ reference. is_no_disk reference ≡ false) (λ (entry : ℕ × Member). entry.0) config.members named))
    (subst (λ (l : List ℕ). IsDistinct nat_eq l) (sym same) apart)

-- ---- a recovery

recovered_row : (own : List DiskEntry) (disk : DiskEntry) → AllByRecursion IsDiskEntry own → IsDiskEntry disk → IsDiskEntry (disk_on own (number_at w16 disk.rest DISK_BLOCK_SIZE_AT) disk)
recovered_row own disk good is = disk_over_can (find_disk disk.reference own) (number_at w16 disk.rest DISK_BLOCK_SIZE_AT) disk is.0.fields_fit (find_good disk.reference own good) is.2

recovered_references : (own disks : List DiskEntry) → map (λ (disk : DiskEntry). disk.reference) (map (λ disk. disk_on own (number_at w16 disk.rest DISK_BLOCK_SIZE_AT) disk) disks) ≡ map (λ (disk : DiskEntry). disk.reference) disks
recovered_references own [] = refl
recovered_references own (disk ∷ disks) = ap (λ (l : List ℕ). disk.reference ∷ l) (recovered_references own disks)

-- The disk table after a recovery can be written.
pub recovered_disks_can : (max : ℕ) (table : TableValue DiskRow) (revision : Revision) (noted : Bool) (config : Configuration) (disks : List DiskEntry) → IsDiskTable max table → AllByRecursion IsDiskEntry disks → length disks ≤ length table.rows
    → AllByRecursion (λ disk. is_no_disk disk.reference ≡ false) disks → IsDistinct nat_eq (map (λ (disk : DiskEntry). disk.reference) disks)
    → IsDiskTable max (replaced_table is_used_disk table (disk_rows_after table.rows (disks_for revision noted config (recovered_disks disks (filter_map disk_of table.rows)))))
unfolding recovered_disks
recovered_disks_can max table revision noted config disks can good few named apart =
    let own = filter_map disk_of table.rows in
    let make = λ (disk : DiskEntry). disk_on own (number_at w16 disk.rest DISK_BLOCK_SIZE_AT) disk in
    let count = length-map disks make in
    let same = recovered_references own disks in
    let owns = own_disks_good table.rows can.rows_good in
    filled_can max table revision noted config (map make disks) can
    (all_mapped IsDiskEntry make disks (all_weaken IsDiskEntry (λ disk. IsDiskEntry (make disk)) (λ disk is. recovered_row own disk owns is) disks good)) (omega (arith, count, few))
    (subst (λ (l : List ℕ). AllByRecursion (λ reference. is_no_disk reference ≡ false) l) (sym same) (all_mapped (λ reference. is_no_disk reference ≡ false) (λ (disk : DiskEntry). disk.reference) disks named))
    (subst (λ (l : List ℕ). IsDistinct nat_eq l) (sym same) apart)

-- ---- arrays

abbrev pub IsArrayEntry : ArrayEntry → Type 0
IsArrayEntry entry = IsArrayRow (array_rows.Entry entry)

array_row : (own : List ArrayEntry) (entry : List ℕ × Array) → AllByRecursion IsArrayEntry own → FitsArray entry → IsArrayEntry (array_on own entry)
array_row own entry good fits =
    array_over_can (find_array entry.0 own) (array_entry entry) (fits.guid, (fits.number, (fits.state, (fits.init, (fits.name, tt)))))
    (λ array is. find_has IsArrayEntry (λ one. bytes_eq one.guid entry.0) own array good is) fits.used

pub own_arrays_good : (rows : List ArrayRow) → AllByRecursion IsArrayRow rows → AllByRecursion IsArrayEntry (filter_map array_of rows)
own_arrays_good [] good = tt
own_arrays_good (array_rows.Entry entry ∷ rows) good = (good.0, own_arrays_good rows good.1)
own_arrays_good (array_rows.Unused whole ∷ rows) good = own_arrays_good rows good.1

all_named : (guids : List (List ℕ)) → AllByRecursion (λ guid. is_no_array guid ≡ false) guids
all_named [] = tt
all_named (guid ∷ guids) = (refl, all_named guids)

same_guids : (own : List ArrayEntry) (arrays : List (List ℕ × Array)) → map (λ (array : ArrayEntry). array.guid) (map (λ entry. array_on own entry) arrays) ≡ map (λ (entry : List ℕ × Array). entry.0) arrays
same_guids own [] = refl
same_guids own (entry ∷ arrays) = ap (λ (l : List (List ℕ)). entry.0 ∷ l) (same_guids own arrays)

-- The array table after a change or a recovery can be written.
pub arrays_can : (max : ℕ) (table : TableValue ArrayRow) (config : Configuration) → IsArrayTable max table → AllByRecursion FitsArray config.arrays → length config.arrays ≤ length table.rows
    → IsDistinct bytes_eq (map (λ (entry : List ℕ × Array). entry.0) config.arrays)
    → IsArrayTable max (replaced_table is_used_array table (array_rows_after table.rows (arrays_after config (filter_map array_of table.rows))))
unfolding arrays_after array_rows_after
arrays_can max table config can fit few apart =
    let own = filter_map array_of table.rows in
    let make = λ (entry : List ℕ × Array). array_on own entry in
    let entries = map make config.arrays in
    let count = length-map config.arrays make in
    let owns = own_arrays_good table.rows can.rows_good in
    let good = all_mapped IsArrayEntry make config.arrays (all_weaken FitsArray (λ entry. IsArrayEntry (make entry)) (λ entry fits. array_row own entry owns fits) config.arrays fit) in
    let names : filter_map guid_of (array_rows_after table.rows entries) ≡ map (λ (entry : List ℕ × Array). entry.0) config.arrays =
    guids_of (array_rows_after table.rows entries) ∙ ap (λ (l : List ArrayEntry). map (λ (array : ArrayEntry). array.guid) l) (arrays_read table.rows entries (omega (arith, count, few))) ∙ same_guids own config.arrays in
    replaced_can_be_written IsArrayRow is_used_array HaveGuids max table (array_rows_after table.rows entries)
    (rows_count is_used_array (array_rows.Unused (replicate 64 255)) (map array_rows.Entry entries) table.rows) can
    (rows_good IsArrayRow is_used_array (array_rows.Unused (replicate 64 255)) (map array_rows.Entry entries) table.rows (refl, refl) (all_mapped IsArrayRow array_rows.Entry entries good) can.rows_good)
    (record { each_names = all_named (filter_map guid_of (array_rows_after table.rows entries)); all_differ = subst (λ (l : List (List ℕ)). IsDistinct bytes_eq l) (sym names) apart })
