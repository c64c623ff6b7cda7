-- Tables each of whose rows is as the other's don't differ in a disk or in an array.
use Rattle.std.proofs.Common.{◌≡◌, ℕ, ◌+◌, Bool, true, false, not, ◌&&◌, eqb, List, [], ◌∷◌, ◌++◌, map, None, refl, ap, sym, ◌∙◌}
use Rattle.std.proofs.lemmas.Bool.{and_from, and_parts, eq-eqb, eqb-true, false≢true}
use Rattle.std.specs.Prelude.{filter_map, find}
use Rattle.std.specs.List.{enumerate_from}
use Rattle.std.specs.Option.{option_eq}
use Rattle.std.specs.Ordering.{nat_cmp}
use Rattle.std.specs.Str.{bytes_eq}
use Rattle.std.specs.Cmp.Lexicographic.{pointwise, slice_cmp}
use Rattle.ddf_lemmas.proofs.Lists.{filter_none}
use Rattle.ddf_tables.specs.declared.disks.DiskEntry.{DiskEntry}
use Rattle.ddf_tables.specs.declared.disks.DiskRow.{DiskRow}
use Rattle.ddf_tables.specs.declared.disks.DiskRow.TheVariants as disk_rows
use Rattle.ddf_tables.specs.declared.arrays.ArrayEntry.{ArrayEntry}
use Rattle.ddf_tables.specs.declared.arrays.ArrayRow.{ArrayRow}
use Rattle.ddf_tables.specs.declared.arrays.ArrayRow.TheVariants as array_rows
use Rattle.ddf_view.specs.View.{array_of, disk_of}
use Rattle.ddf_view.specs.Differ.{array_differs, differing_arrays, differing_disks, disk_differs, least, same_array, same_array_row, same_disk, same_disk_row, told_kind}
use Rattle.ddf_view.proofs.Tests.{and_five, same_bytes}

-- five tests, the first of which passes anyway
five_from : (a b c d e : Bool) → a ≡ true → (b ≡ true) × (c ≡ true) × (d ≡ true) × (e ≡ true) → (a && b && c && d && e) ≡ true
five_from a b c d e ha rest = and_from (a && b && c && d) e (and_from (a && b && c) d (and_from (a && b) c (and_from a b ha rest.0) rest.1) rest.2) rest.3

-- ---- disks

-- the same at any place
disk_placed : (n : ℕ) (one other : DiskEntry) → same_disk (0, one) (0, other) ≡ true → same_disk (n, one) (n, other) ≡ true
disk_placed n one other h =
    let parts = and_five (eqb 0 0) (bytes_eq one.guid other.guid) (eqb (told_kind one) (told_kind other)) (eqb one.state.0 other.state.0) (eqb one.size other.size) h in
    five_from (eqb n n) (bytes_eq one.guid other.guid) (eqb (told_kind one) (told_kind other)) (eqb one.state.0 other.state.0) (eqb one.size other.size) (eq-eqb n n refl) (parts.1, parts.2, parts.3, parts.4)

disks_found : (reference n : ℕ) (rows others : List DiskRow) → pointwise same_disk_row rows others ≡ true
    → option_eq same_disk (find (λ pair. eqb pair.1.reference reference) (enumerate_from n (filter_map disk_of rows))) (find (λ pair. eqb pair.1.reference reference) (enumerate_from n (filter_map disk_of others))) ≡ true
disks_found reference n [] [] h = refl
disks_found reference n [] (other ∷ others) h = absurd (false≢true h)
disks_found reference n (row ∷ rows) [] h = absurd (false≢true h)
disks_found reference n (disk_rows.Entry one ∷ rows) (disk_rows.Unused whole ∷ others) h = absurd (false≢true h)
disks_found reference n (disk_rows.Unused whole ∷ rows) (disk_rows.Entry other ∷ others) h = absurd (false≢true h)
disks_found reference n (disk_rows.Unused whole ∷ rows) (disk_rows.Unused also ∷ others) h = disks_found reference n rows others h
disks_found reference n (disk_rows.Entry one ∷ rows) (disk_rows.Entry other ∷ others) h =
    let parts = and_parts (eqb one.reference other.reference && same_disk (0, one) (0, other)) (pointwise same_disk_row rows others) h in
    let alike = and_parts (eqb one.reference other.reference) (same_disk (0, one) (0, other)) parts.0 in
    go (eqb one.reference reference) refl (eqb-true one.reference other.reference alike.0) (disk_placed n one other alike.1) (disks_found reference (n + 1) rows others parts.1)
  where
    go : (b : Bool) → eqb one.reference reference ≡ b → one.reference ≡ other.reference → same_disk (n, one) (n, other) ≡ true
        → option_eq same_disk (find (λ pair. eqb pair.1.reference reference) (enumerate_from (n + 1) (filter_map disk_of rows))) (find (λ pair. eqb pair.1.reference reference) (enumerate_from (n + 1) (filter_map disk_of others))) ≡ true
        → option_eq same_disk (find (λ pair. eqb pair.1.reference reference) ((n, one) ∷ enumerate_from (n + 1) (filter_map disk_of rows))) (find (λ pair. eqb pair.1.reference reference) ((n, other) ∷ enumerate_from (n + 1) (filter_map disk_of others))) ≡ true
    go true e named same rest = let also : eqb other.reference reference ≡ true = ap (λ (m : ℕ). eqb m reference) (sym named) ∙ e in rw (e, also) same
    go false e named same rest = let also : eqb other.reference reference ≡ false = ap (λ (m : ℕ). eqb m reference) (sym named) ∙ e in rw (e, also) rest

-- They don't differ in a disk.
pub no_disk_differs : (rows others : List DiskRow) → pointwise same_disk_row rows others ≡ true → least nat_cmp (differing_disks (filter_map disk_of rows) (filter_map disk_of others)) ≡ None
no_disk_differs rows others same =
    ap (least nat_cmp) (filter_none (disk_differs (filter_map disk_of rows) (filter_map disk_of others)) (map (λ disk. disk.reference) (filter_map disk_of rows ++ filter_map disk_of others))
    (λ reference. ap not (disks_found reference 0 rows others same)))

-- ---- arrays

array_placed : (n : ℕ) (one other : ArrayEntry) → same_array (0, one) (0, other) ≡ true → same_array (n, one) (n, other) ≡ true
array_placed n one other h =
    let parts = and_five (eqb 0 0) (eqb one.number other.number) (eqb one.state other.state) (eqb one.init other.init) (bytes_eq one.name other.name) h in
    five_from (eqb n n) (eqb one.number other.number) (eqb one.state other.state) (eqb one.init other.init) (bytes_eq one.name other.name) (eq-eqb n n refl) (parts.1, parts.2, parts.3, parts.4)

arrays_found : (guid : List ℕ) (n : ℕ) (rows others : List ArrayRow) → pointwise same_array_row rows others ≡ true
    → option_eq same_array (find (λ pair. bytes_eq pair.1.guid guid) (enumerate_from n (filter_map array_of rows))) (find (λ pair. bytes_eq pair.1.guid guid) (enumerate_from n (filter_map array_of others))) ≡ true
arrays_found guid n [] [] h = refl
arrays_found guid n [] (other ∷ others) h = absurd (false≢true h)
arrays_found guid n (row ∷ rows) [] h = absurd (false≢true h)
arrays_found guid n (array_rows.Entry one ∷ rows) (array_rows.Unused whole ∷ others) h = absurd (false≢true h)
arrays_found guid n (array_rows.Unused whole ∷ rows) (array_rows.Entry other ∷ others) h = absurd (false≢true h)
arrays_found guid n (array_rows.Unused whole ∷ rows) (array_rows.Unused also ∷ others) h = arrays_found guid n rows others h
arrays_found guid n (array_rows.Entry one ∷ rows) (array_rows.Entry other ∷ others) h =
    let parts = and_parts (bytes_eq one.guid other.guid && same_array (0, one) (0, other)) (pointwise same_array_row rows others) h in
    let alike = and_parts (bytes_eq one.guid other.guid) (same_array (0, one) (0, other)) parts.0 in
    go (bytes_eq one.guid guid) refl (same_bytes one.guid other.guid alike.0) (array_placed n one other alike.1) (arrays_found guid (n + 1) rows others parts.1)
  where
    go : (b : Bool) → bytes_eq one.guid guid ≡ b → one.guid ≡ other.guid → same_array (n, one) (n, other) ≡ true
        → option_eq same_array (find (λ pair. bytes_eq pair.1.guid guid) (enumerate_from (n + 1) (filter_map array_of rows))) (find (λ pair. bytes_eq pair.1.guid guid) (enumerate_from (n + 1) (filter_map array_of others))) ≡ true
        → option_eq same_array (find (λ pair. bytes_eq pair.1.guid guid) ((n, one) ∷ enumerate_from (n + 1) (filter_map array_of rows))) (find (λ pair. bytes_eq pair.1.guid guid) ((n, other) ∷ enumerate_from (n + 1) (filter_map array_of others))) ≡ true
    go true e named same rest = let also : bytes_eq other.guid guid ≡ true = ap (λ (g : List ℕ). bytes_eq g guid) (sym named) ∙ e in rw (e, also) same
    go false e named same rest = let also : bytes_eq other.guid guid ≡ false = ap (λ (g : List ℕ). bytes_eq g guid) (sym named) ∙ e in rw (e, also) rest

-- They don't differ in an array.
pub no_array_differs : (rows others : List ArrayRow) → pointwise same_array_row rows others ≡ true → least (slice_cmp nat_cmp) (differing_arrays (filter_map array_of rows) (filter_map array_of others)) ≡ None
no_array_differs rows others same =
    ap (least (slice_cmp nat_cmp)) (filter_none (array_differs (filter_map array_of rows) (filter_map array_of others)) (map (λ entry. entry.guid) (filter_map array_of rows ++ filter_map array_of others))
    (λ guid. ap not (arrays_found guid 0 rows others same)))
