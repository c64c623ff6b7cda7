-- Views that don't differ list the same disks as current members.
use Rattle.std.proofs.Common.{◌≡◌, ℕ, ◌+◌, Bool, true, false, not, ◌&&◌, eqb, nat_eq, List, [], ◌∷◌, ◌++◌, map, Option, Some, None, refl, ap, sym, ◌∙◌}
use Rattle.std.proofs.lemmas.Bool.{and_parts, eqb-true, false≢true, not-false, cond-false, cond-true}
use Rattle.std.specs.Prelude.{find, slice_get, option_map}
use Rattle.std.specs.List.{IsDistinct, enumerate_from}
use Rattle.std.specs.Option.{option_eq, option_map_or}
use Rattle.std.specs.Ordering.{nat_cmp}
use Rattle.std.specs.Str.{bytes_eq}
use Rattle.std.specs.Cmp.Lexicographic.{slice_cmp}
use Rattle.ddf_lemmas.proofs.Lists.{all_fail, bytes_same, found_place, in_second, mapped_at}
use Rattle.ddf_lemmas.proofs.Options.{none_from_map}
use Rattle.ddf_bytes.proofs.Nones.{none_first}
use Rattle.ddf_tables.specs.declared.disks.DiskEntry.{DiskEntry}
use Rattle.ddf_view.specs.View.{View, entry_in, is_missing, lists_current}
use Rattle.ddf_view.specs.Differ.{difference, differing_arrays, differing_disks, differing_elements, disk_differs, element_difference, key_cmp, least, numbered_disk, same_disk, told_kind}
use Rattle.ddf_view.specs.declared.difference.Difference.TheVariants as differences
use Rattle.ddf_view.proofs.Tests.{and_five, same_bytes}
use Rattle.ddf_view.proofs.Common.{least_none}
use Rattle.ddf_rewrite.proofs.Lists.{all_at}

-- ---- entries and their places

-- An entry, with its place, has a reference.
abbrev names : (reference : ℕ) → (ℕ × DiskEntry) → Bool
names reference pair = eqb pair.1.reference reference

-- An entry has a reference and a GUID.
abbrev names_both : (guid : List ℕ) → (reference : ℕ) → DiskEntry → Bool
names_both guid reference disk = eqb disk.reference reference && bytes_eq disk.guid guid

-- The first entry of a reference is that of a disk, where it has the disk's GUID too.
entry_placed : (guid : List ℕ) (reference n : ℕ) (disks : List DiskEntry) (pair : ℕ × DiskEntry) → find (names reference) (enumerate_from n disks) ≡ Some pair
    → bytes_eq pair.1.guid guid ≡ true → find (names_both guid reference) disks ≡ Some pair.1
entry_placed guid reference n [] pair h same = absurd cc
entry_placed guid reference n (disk ∷ disks) pair h same = go (entry_placed guid reference (n + 1) disks pair) (eqb disk.reference reference) refl
  where
    go : (find (names reference) (enumerate_from (n + 1) disks) ≡ Some pair → bytes_eq pair.1.guid guid ≡ true → find (names_both guid reference) disks ≡ Some pair.1)
        → (b : Bool) → eqb disk.reference reference ≡ b → find (names_both guid reference) (disk ∷ disks) ≡ Some pair.1
    go later true e =
        let first : ℕ × DiskEntry = (n, disk) in
        let got : Some first ≡ Some pair = sym (cond-true (eqb disk.reference reference) (Some first) (find (names reference) (enumerate_from (n + 1) disks)) e) ∙ h in
        let is : first ≡ pair = cc in
        let own : disk ≡ pair.1 = ap (λ (one : ℕ × DiskEntry). one.1) is in
        let has : bytes_eq disk.guid guid ≡ true = ap (λ (one : DiskEntry). bytes_eq one.guid guid) own ∙ same in
        rw (e, has) (ap (λ (one : DiskEntry). Some one) own)
    go later false e =
        let first : ℕ × DiskEntry = (n, disk) in
        let rest = later (sym (cond-false (eqb disk.reference reference) (Some first) (find (names reference) (enumerate_from (n + 1) disks)) e) ∙ h) same in
        rw e rest

-- An entry that is found has the reference and the GUID.
found_names : (guid : List ℕ) (reference : ℕ) (disks : List DiskEntry) (entry : DiskEntry) → find (names_both guid reference) disks ≡ Some entry
    → (i : ℕ) × (slice_get disks i ≡ Some entry) × (entry.reference ≡ reference) × (entry.guid ≡ guid)
found_names guid reference disks entry h =
    let found = found_place (names_both guid reference) disks entry h in
    let parts = and_parts (eqb entry.reference reference) (bytes_eq entry.guid guid) found.2 in
    (found.0, found.1, eqb-true entry.reference reference parts.0, same_bytes entry.guid guid parts.1)

-- Where no two disks have one reference, a disk's entry is the first of its reference.
place_entered : (guid : List ℕ) (reference n : ℕ) (disks : List DiskEntry) (entry : DiskEntry) → IsDistinct nat_eq (map (λ (disk : DiskEntry). disk.reference) disks)
    → find (names_both guid reference) disks ≡ Some entry → (place : ℕ) × (find (names reference) (enumerate_from n disks) ≡ Some (place, entry))
unfolding IsDistinct
place_entered guid reference n [] entry apart h = absurd cc
place_entered guid reference n (disk ∷ disks) entry apart h = go (place_entered guid reference (n + 1) disks entry apart.1) (eqb disk.reference reference) refl (bytes_eq disk.guid guid) refl
  where
    go : (find (names_both guid reference) disks ≡ Some entry → (place : ℕ) × (find (names reference) (enumerate_from (n + 1) disks) ≡ Some (place, entry)))
        → (b : Bool) → eqb disk.reference reference ≡ b → (c : Bool) → bytes_eq disk.guid guid ≡ c → (place : ℕ) × (find (names reference) (enumerate_from n (disk ∷ disks)) ≡ Some (place, entry))
    go later true e true f =
        let both : names_both guid reference disk ≡ true = rw (e, f) refl in
        let got : Some disk ≡ Some entry = sym (cond-true (names_both guid reference disk) (Some disk) (find (names_both guid reference) disks) both) ∙ h in
        let is : disk ≡ entry = cc in
        (n, rw e (ap (λ (one : DiskEntry). Some (n, one)) is))
    go later true e false f =
        let neither : names_both guid reference disk ≡ false = rw (e, f) refl in
        let rest : find (names_both guid reference) disks ≡ Some entry = sym (cond-false (names_both guid reference disk) (Some disk) (find (names_both guid reference) disks) neither) ∙ h in
        let found = found_names guid reference disks entry rest in
        let apart_here = all_at (λ (other : ℕ). nat_eq disk.reference other ≡ false) (map (λ (one : DiskEntry). one.reference) disks) found.0 entry.reference apart.0
        (mapped_at (λ (one : DiskEntry). one.reference) disks found.0 entry found.1) in
        let twice : eqb disk.reference entry.reference ≡ true = ap (eqb disk.reference) found.2 ∙ e in
        absurd (false≢true (sym apart_here ∙ twice))
    go later false e c f =
        let neither : names_both guid reference disk ≡ false = rw e refl in
        let first : ℕ × DiskEntry = (n, disk) in
        let rest = later (sym (cond-false (names_both guid reference disk) (Some disk) (find (names_both guid reference) disks) neither) ∙ h) in
        (rest.0, cond-false (eqb disk.reference reference) (Some first) (find (names reference) (enumerate_from (n + 1) disks)) e ∙ rest.1)

-- ---- no difference

-- Two views that don't differ have the same entry of each disk of the second.
same_entry : (one other : View) → difference one other ≡ None → (i : ℕ) (entry : DiskEntry) → slice_get other.disks i ≡ Some entry
    → disk_differs one.disks other.disks entry.reference ≡ false
unfolding difference
same_entry one other none i entry at =
    let parts = none_first (
    option_map differences.Disk (least nat_cmp (differing_disks one.disks other.disks))
    ∷ option_map differences.Array (least (slice_cmp nat_cmp) (differing_arrays one.arrays other.arrays))
    ∷ option_map element_difference (least key_cmp (differing_elements one.elements other.elements))
    ∷ []) none in
    let none_differs = least_none nat_cmp (differing_disks one.disks other.disks) (none_from_map differences.Disk (least nat_cmp (differing_disks one.disks other.disks)) parts.0) in
    let all = all_fail (disk_differs one.disks other.disks) (map (λ (disk : DiskEntry). disk.reference) (one.disks ++ other.disks)) none_differs in
    let place = in_second one.disks other.disks i entry at in
    all_at (λ (reference : ℕ). disk_differs one.disks other.disks reference ≡ false) (map (λ (disk : DiskEntry). disk.reference) (one.disks ++ other.disks)) place.0 entry.reference all
    (mapped_at (λ (disk : DiskEntry). disk.reference) (one.disks ++ other.disks) place.0 entry place.1)

-- What is the same as an entry has its GUID and its state.
same_of : (found : Option (ℕ × DiskEntry)) (pair : ℕ × DiskEntry) → not (option_eq same_disk found (Some pair)) ≡ false
    → (one : ℕ × DiskEntry) × (found ≡ Some one) × (one.1.guid ≡ pair.1.guid) × (one.1.state.0 ≡ pair.1.state.0)
same_of None pair h = absurd cc
same_of (Some one) pair h =
    let parts = and_five (eqb one.0 pair.0) (bytes_eq one.1.guid pair.1.guid) (eqb (told_kind one.1) (told_kind pair.1)) (eqb one.1.state.0 pair.1.state.0) (eqb one.1.size pair.1.size) (not-false (same_disk one pair) h) in
    (one, refl, same_bytes one.1.guid pair.1.guid parts.1, eqb-true one.1.state.0 pair.1.state.0 parts.3)

-- The first of two views that don't differ lists a disk as a current member where the second does, of whose disks no two have one reference.
pub current_in_both : (one other : View) → IsDistinct nat_eq (map (λ (disk : DiskEntry). disk.reference) other.disks) → difference one other ≡ None
    → (guid : List ℕ) (reference : ℕ) → lists_current other guid reference ≡ true → lists_current one guid reference ≡ true
unfolding lists_current
current_in_both one other apart none guid reference h = by (entry_in other guid reference) refl h
  where
    by : (found : Option DiskEntry) → entry_in other guid reference ≡ found → option_map_or (λ disk. not (is_missing disk)) found false ≡ true
        → option_map_or (λ disk. not (is_missing disk)) (entry_in one guid reference) false ≡ true
    by None e current = absurd cc
    by (Some entry) e current =
        let own = found_names guid reference other.disks entry e in
        let same = same_entry one other none own.0 entry own.1 in
        let place = place_entered guid reference 0 other.disks entry apart e in
        let placed : numbered_disk entry.reference other.disks ≡ Some (place.0, entry) = ap (λ (n : ℕ). numbered_disk n other.disks) own.2 ∙ place.1 in
        let found = same_of (numbered_disk entry.reference one.disks) (place.0, entry) (sym (ap (λ (o : Option (ℕ × DiskEntry)). not (option_eq same_disk (numbered_disk entry.reference one.disks) o)) placed) ∙ same) in
        let there : find (names reference) (enumerate_from 0 one.disks) ≡ Some found.0 = sym (ap (λ (n : ℕ). numbered_disk n one.disks) own.2) ∙ found.1 in
        let named : bytes_eq found.0.1.guid guid ≡ true = ap (λ (g : List ℕ). bytes_eq g guid) (found.2 ∙ own.3) ∙ bytes_same guid in
        let entered : entry_in one guid reference ≡ Some found.0.1 = entry_placed guid reference 0 one.disks found.0 there named in
        let kept : is_missing found.0.1 ≡ is_missing entry = rw found.3 refl in
        rw entered (ap not kept ∙ current)
