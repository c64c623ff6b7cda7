-- The tables that are written give the members and the arrays.
use Rattle.std.proofs.Common.{◌≡◌, ℕ, zero, suc, ◌≤◌, Bool, true, not, ◌||◌, eqb, List, [], ◌∷◌, ◌++◌, length, map, take, replicate, Option, Some, None, refl, ap, ◌∙◌, arith}
use Rattle.std.proofs.lemmas.Bool.{eq-eqb}
use Rattle.std.specs.Prelude.{filter, filter_map}
use Rattle.std.specs.List.{AllByRecursion, cons_option}
use Rattle.ddf_header.specs.declared.kind.Revision.{Revision}
use Rattle.ddf_tables.specs.declared.disks.DiskEntry.{DiskEntry}
use Rattle.ddf_tables.specs.declared.disks.DiskRow.{DiskRow}
use Rattle.ddf_tables.specs.declared.disks.DiskRow.TheVariants as disk_rows
use Rattle.ddf_tables.specs.declared.arrays.ArrayEntry.{ArrayEntry}
use Rattle.ddf_tables.specs.declared.arrays.ArrayRow.{ArrayRow}
use Rattle.ddf_tables.specs.declared.arrays.ArrayRow.TheVariants as array_rows
use Rattle.ddf_tables.specs.Disks.{is_used_disk}
use Rattle.ddf_tables.specs.Arrays.{is_used_array}
use Rattle.std.specs.Cmp.Lexicographic.{pointwise}
use Rattle.ddf_lemmas.proofs.Lists.{all_append, all_replicate, bytes_same}
use Rattle.ddf_config.specs.Configuration.{Configuration}
use Rattle.ddf_config.specs.declared.array.Array.{Array}
use Rattle.ddf_config.specs.declared.member.Member.{Member}
use Rattle.ddf_view.specs.Shows.{gives_array, gives_member, same_flag}
use Rattle.ddf_view.specs.View.{array_of, disk_of, has_bit}
use Rattle.ddf_view.proofs.AlikeCopies.{flag_again}
use Rattle.ddf_rewrite.specs.Arrays.{array_on, array_rows_after, arrays_after}
use Rattle.ddf_rewrite.specs.Disks.{block_size_of, changed_disks, disk_on, disk_rows_after, member_entry, state_after, state_in}
use Rattle.ddf_rewrite.specs.Wanted.{Wanted, all_wanted}
use Rattle.ddf_rewrite.proofs.Flags.{missing_after}
use Rattle.ddf_rewrite.proofs.Lists.{match_made}

-- ---- rows

none_view : {X Y : Type 0} (f : X → Option Y) (n : ℕ) (xs : List X) → AllByRecursion (λ x. f x ≡ None) xs → filter_map f (take n xs) ≡ []
none_view f zero xs h = refl
none_view f (suc n) [] h = refl
none_view f (suc n) (x ∷ xs) h = ap (λ o. cons_option o (filter_map f (take n xs))) h.0 ∙ none_view f n xs h.1

rows_view : {X Y : Type 0} (f : X → Option Y) (e : Y → X) → ((y : Y) → f (e y) ≡ Some y) → (n : ℕ) (ys : List Y) (others more : List X) → length ys ≤ n → AllByRecursion (λ x. f x ≡ None) (others ++ more)
    → filter_map f (take n (map e ys ++ others ++ more)) ≡ ys
rows_view {Y = Y} f e is n [] others more few none = none_view f n (others ++ more) none
rows_view {Y = Y} f e is zero (y ∷ ys) others more few none = absurd (omega (arith, few))
rows_view {Y = Y} f e is (suc n) (y ∷ ys) others more few none =
    ap (λ o. cons_option o (filter_map f (take n (map e ys ++ others ++ more)))) (is y)
    ∙ ap (λ (list : List Y). y ∷ list) (rows_view f e is n ys others more (omega (arith, few)) none)

unused_disks : (rows : List DiskRow) → AllByRecursion (λ row. disk_of row ≡ None) (filter (λ row. not (is_used_disk row)) rows)
unused_disks [] = tt
unused_disks (disk_rows.Entry entry ∷ rows) = unused_disks rows
unused_disks (disk_rows.Unused whole ∷ rows) = (refl, unused_disks rows)

unused_arrays : (rows : List ArrayRow) → AllByRecursion (λ row. array_of row ≡ None) (filter (λ row. not (is_used_array row)) rows)
unused_arrays [] = tt
unused_arrays (array_rows.Entry entry ∷ rows) = unused_arrays rows
unused_arrays (array_rows.Unused whole ∷ rows) = (refl, unused_arrays rows)

-- the entries are read back
pub disks_read : (rows : List DiskRow) (entries : List DiskEntry) → length entries ≤ length rows → filter_map disk_of (disk_rows_after rows entries) ≡ entries
unfolding disk_rows_after
disks_read rows entries few =
    rows_view disk_of disk_rows.Entry (λ entry. refl) (length rows) entries (filter (λ row. not (is_used_disk row)) rows) (replicate (length rows) (disk_rows.Unused (replicate 64 255))) few
    (all_append (λ row. disk_of row ≡ None) (filter (λ row. not (is_used_disk row)) rows) (replicate (length rows) (disk_rows.Unused (replicate 64 255))) (unused_disks rows)
    (all_replicate (λ row. disk_of row ≡ None) (length rows) (disk_rows.Unused (replicate 64 255)) refl))

pub arrays_read : (rows : List ArrayRow) (entries : List ArrayEntry) → length entries ≤ length rows → filter_map array_of (array_rows_after rows entries) ≡ entries
unfolding array_rows_after
arrays_read rows entries few =
    rows_view array_of array_rows.Entry (λ entry. refl) (length rows) entries (filter (λ row. not (is_used_array row)) rows) (replicate (length rows) (array_rows.Unused (replicate 64 255))) few
    (all_append (λ row. array_of row ≡ None) (filter (λ row. not (is_used_array row)) rows) (replicate (length rows) (array_rows.Unused (replicate 64 255))) (unused_arrays rows)
    (all_replicate (λ row. array_of row ≡ None) (length rows) (array_rows.Unused (replicate 64 255)) refl))

-- ---- a member

member_given : (all : List Wanted) (disks own : List DiskEntry) (block_size : ℕ) (entry : ℕ × Member) → gives_member (disk_on own block_size (member_entry all disks entry)) entry ≡ true
member_given all disks own block_size entry =
    let reference : eqb entry.0 entry.0 ≡ true = eq-eqb entry.0 entry.0 refl in
    let guid = bytes_same entry.1.guid in
    let size : eqb entry.1.size entry.1.size ≡ true = eq-eqb entry.1.size entry.1.size refl in
    let kept = state_in disks entry.0 in
    let flag : same_flag (has_bit (state_after all entry kept) 1 || has_bit (state_after all entry kept) 6) entry.1.missing ≡ true = ap (λ (b : Bool). same_flag b entry.1.missing) (missing_after all entry kept) ∙ flag_again entry.1.missing in
    rw (reference, guid, size, flag) refl

pub members_given : (config : Configuration) (disks own : List DiskEntry) (revision : Revision) → pointwise gives_member (changed_disks config disks revision own) config.members ≡ true
unfolding changed_disks
members_given config disks own revision = match_made gives_member (λ entry. disk_on own (block_size_of revision) (member_entry (all_wanted config) disks entry)) config.members (λ k entry at. member_given (all_wanted config) disks own (block_size_of revision) entry)

-- ---- an array

array_given : (own : List ArrayEntry) (entry : List ℕ × Array) → gives_array (array_on own entry) entry ≡ true
array_given own entry =
    let guid = bytes_same entry.0 in
    let name = bytes_same entry.1.name in
    let number : eqb entry.1.number entry.1.number ≡ true = eq-eqb entry.1.number entry.1.number refl in
    let state : eqb entry.1.state entry.1.state ≡ true = eq-eqb entry.1.state entry.1.state refl in
    let init : eqb entry.1.init entry.1.init ≡ true = eq-eqb entry.1.init entry.1.init refl in
    rw (guid, name, number, state, init) refl

pub arrays_given : (config : Configuration) (own : List ArrayEntry) → pointwise gives_array (arrays_after config own) config.arrays ≡ true
unfolding arrays_after
arrays_given config own = match_made gives_array (array_on own) config.arrays (λ a entry at. array_given own entry)
