-- Two copies that agree don't list one disk as missing and as current.
use Rattle.std.proofs.Common.{◌≡◌, ℕ, ◌+◌, Bool, true, false, not, ◌||◌, eqb, List, [], ◌∷◌, ◌++◌, map, Option, Some, None, option_map, refl, ap, sym, ◌∙◌}
use Rattle.std.proofs.lemmas.Bool.{and_parts, eqb-true, false≢true, not-false}
use Rattle.std.specs.Prelude.{filter, find, nat_eq}
use Rattle.std.specs.List.{IsDistinct, enumerate_from}
use Rattle.std.specs.Option.{option_eq}
use Rattle.std.specs.Ordering.{nat_cmp}
use Rattle.std.specs.Str.{bytes_eq}
use Rattle.ddf_lemmas.proofs.Options.{none_from_map, value_there}
use Rattle.ddf_tables.specs.declared.disks.DiskEntry.{DiskEntry}
use Rattle.ddf_view.specs.View.{View, entry_in, has_bit, is_missing, lists_current, lists_missing}
use Rattle.ddf_view.specs.Differ.{difference, differing_disks, disk_differs, least, numbered_disk, same_disk, told_kind}
use Rattle.ddf_view.specs.declared.difference.Difference.TheVariants as differences
use Rattle.ddf_view.proofs.Tests.{same_bytes, and_five}
use Rattle.ddf_view.proofs.Common.{least_none}
use Rattle.ddf_history.proofs.Listed.{has_reference, is_entry, none_behind}
use Rattle.ddf_history.proofs.AnsweredLists.{or_none_first}

-- ---- the entries of one reference

-- Where names differ, the entry of a disk is the first of its reference.
first_of_reference : (guid : List ℕ) (reference : ℕ) (disks : List DiskEntry) (entry : DiskEntry) → IsDistinct nat_eq (map (λ disk. disk.reference) disks) → find (is_entry guid reference) disks ≡ Some entry
    → find (has_reference reference) disks ≡ Some entry
unfolding IsDistinct
first_of_reference guid reference [] entry differ found = found
first_of_reference guid reference (disk ∷ disks) entry differ found = go (first_of_reference guid reference disks entry differ.1) (eqb disk.reference reference) (bytes_eq disk.guid guid) refl refl
  where
    go : (find (is_entry guid reference) disks ≡ Some entry → find (has_reference reference) disks ≡ Some entry) → (here same : Bool) → eqb disk.reference reference ≡ here → bytes_eq disk.guid guid ≡ same → find (has_reference reference) (disk ∷ disks) ≡ Some entry
    go later true true here same = rw here (rw (here, same) at found)
    go later true false here same =
        let none = none_behind guid reference disk.reference disks (eqb-true disk.reference reference here) differ.0 in
        let behind : find (is_entry guid reference) disks ≡ Some entry = rw (here, same) at found in
        let both : None ≡ Some entry = sym none ∙ behind in
        absurd cc
    go later false same here is = rw here (later (rw here at found))

-- The first entry of a reference is that of its disk.
is_first : (guid : List ℕ) (reference : ℕ) (disks : List DiskEntry) (entry : DiskEntry) → find (has_reference reference) disks ≡ Some entry → bytes_eq entry.guid guid ≡ true → find (is_entry guid reference) disks ≡ Some entry
is_first guid reference [] entry found named = found
is_first guid reference (disk ∷ disks) entry found named = go (λ found. is_first guid reference disks entry found named) (eqb disk.reference reference) refl
  where
    go : (find (has_reference reference) disks ≡ Some entry → find (is_entry guid reference) disks ≡ Some entry) → (here : Bool) → eqb disk.reference reference ≡ here → find (is_entry guid reference) (disk ∷ disks) ≡ Some entry
    go later true here =
        let one : Some disk ≡ Some entry = rw here at found in
        let same : disk ≡ entry = cc in
        let also : bytes_eq disk.guid guid ≡ true = ap (λ (one : DiskEntry). bytes_eq one.guid guid) same ∙ named in
        rw (here, also) one
    go later false here = rw here (later (rw here at found))

-- what is found of a disk has its GUID
entry_named : (guid : List ℕ) (reference : ℕ) (disks : List DiskEntry) (entry : DiskEntry) → find (is_entry guid reference) disks ≡ Some entry → bytes_eq entry.guid guid ≡ true
entry_named guid reference [] entry found = absurd cc
entry_named guid reference (disk ∷ disks) entry found = go (entry_named guid reference disks entry) (is_entry guid reference disk) refl
  where
    go : (find (is_entry guid reference) disks ≡ Some entry → bytes_eq entry.guid guid ≡ true) → (b : Bool) → is_entry guid reference disk ≡ b → bytes_eq entry.guid guid ≡ true
    go later true is =
        let one : Some disk ≡ Some entry = rw is at found in
        let same : disk ≡ entry = cc in
        ap (λ (one : DiskEntry). bytes_eq one.guid guid) (sym same) ∙ (and_parts (eqb disk.reference reference) (bytes_eq disk.guid guid) is).1
    go later false is = later (rw is at found)

-- ---- entries with their places

-- a search among items with their places finds what the search among the items finds
placed : (test : DiskEntry → Bool) (n : ℕ) (disks : List DiskEntry) → option_map (λ pair. pair.1) (find (λ pair. test pair.1) (enumerate_from n disks)) ≡ find test disks
placed test n [] = refl
placed test n (disk ∷ disks) = go (placed test (n + 1) disks) (test disk) refl
  where
    go : option_map (λ pair. pair.1) (find (λ pair. test pair.1) (enumerate_from (n + 1) disks)) ≡ find test disks → (b : Bool) → test disk ≡ b → option_map (λ pair. pair.1) (find (λ pair. test pair.1) (enumerate_from n (disk ∷ disks))) ≡ find test (disk ∷ disks)
    go later true is = rw is refl
    go later false is = rw is later

-- ---- what no difference says

-- no difference is none in a disk
no_disk_differs : (one other : View) → difference one other ≡ None → differing_disks one.disks other.disks ≡ []
unfolding difference
no_disk_differs one other none = least_none nat_cmp (differing_disks one.disks other.disks) (none_from_map differences.Disk (least nat_cmp (differing_disks one.disks other.disks)) (or_none_first _ _ none))

-- a reference among the first of two tables is tested
each_tested : (test : ℕ → Bool) (disks others : List DiskEntry) (reference : ℕ) (entry : DiskEntry) → filter test (map (λ disk. disk.reference) (disks ++ others)) ≡ [] → find (has_reference reference) disks ≡ Some entry → test reference ≡ false
each_tested test [] others reference entry none found = absurd cc
each_tested test (disk ∷ disks) others reference entry none found = go (each_tested test disks others reference entry) (test disk.reference) (eqb disk.reference reference) refl refl
  where
    go : (filter test (map (λ disk. disk.reference) (disks ++ others)) ≡ [] → find (has_reference reference) disks ≡ Some entry → test reference ≡ false) → (tested here : Bool) → test disk.reference ≡ tested → eqb disk.reference reference ≡ here → test reference ≡ false
    go later true here is same = let some : disk.reference ∷ filter test (map (λ disk. disk.reference) (disks ++ others)) ≡ [] = rw is at none in absurd cc
    go later false true is same = ap test (sym (eqb-true disk.reference reference same)) ∙ is
    go later false false is same = later (rw is at none) (rw same at found)

-- ---- the entries of one disk in two copies that agree

-- where one of two values is there, and they are the same, so is the other
both_there : {X : Type 0} (same : X → X → Bool) (one other : Option X) (x : X) → one ≡ Some x → option_eq same one other ≡ true → (y : X) × (other ≡ Some y) × (same x y ≡ true)
both_there same one None x is equal = absurd (false≢true (rw is at equal))
both_there same one (Some y) x is equal = (y, refl, rw is at equal)

-- An item that is found has a place.
placed_there : (o : Option (ℕ × DiskEntry)) (entry : DiskEntry) → option_map (λ pair. pair.1) o ≡ Some entry → (pair : ℕ × DiskEntry) × (o ≡ Some pair) × (pair.1 ≡ entry)
placed_there None entry is = absurd cc
placed_there (Some pair) entry is = (pair, refl, cc)

-- The first entries of a reference say the same of their disk and its state.
record AreAlike (one other : DiskEntry) : Type 0 where
  guid : one.guid ≡ other.guid
  missing : is_missing one ≡ is_missing other

-- The first entries of a reference in two copies that agree are alike.
alike_entry : (one other : View) (reference : ℕ) (entry : DiskEntry) → difference one other ≡ None → find (has_reference reference) one.disks ≡ Some entry
    → (second : DiskEntry) × (find (has_reference reference) other.disks ≡ Some second) × AreAlike entry second
alike_entry one other reference entry none found =
    let tested : disk_differs one.disks other.disks reference ≡ false = each_tested (disk_differs one.disks other.disks) one.disks other.disks reference entry (no_disk_differs one other none) found in
    let equal = not-false (option_eq same_disk (numbered_disk reference one.disks) (numbered_disk reference other.disks)) tested in
    let first = placed_there (numbered_disk reference one.disks) entry (placed (has_reference reference) 0 one.disks ∙ found) in
    let second = both_there same_disk (numbered_disk reference one.disks) (numbered_disk reference other.disks) first.0 first.1 equal in
    let parts = and_five (eqb first.0.0 second.0.0) (bytes_eq first.0.1.guid second.0.1.guid) (eqb (told_kind first.0.1) (told_kind second.0.1)) (eqb first.0.1.state.0 second.0.1.state.0) (eqb first.0.1.size second.0.1.size) second.2 in
    let state : first.0.1.state.0 ≡ second.0.1.state.0 = eqb-true first.0.1.state.0 second.0.1.state.0 parts.3 in
    let guid : first.0.1.guid ≡ second.0.1.guid = same_bytes first.0.1.guid second.0.1.guid parts.1 in (
      second.0.1,
      sym (placed (has_reference reference) 0 other.disks) ∙ ap (option_map (λ (pair : ℕ × DiskEntry). pair.1)) second.1,
      record {
        guid = ap (λ (one : DiskEntry). one.guid) (sym first.2) ∙ guid;
        missing = ap is_missing (sym first.2) ∙ ap (λ (bits : ℕ). has_bit bits 1 || has_bit bits 6) state;
      },
    )

-- Of two copies that agree, the first of which names each disk once, one doesn't list a disk as missing that the other lists as current.
pub agreeing_list_alike : (one other : View) (guid : List ℕ) (reference : ℕ) → IsDistinct nat_eq (map (λ disk. disk.reference) one.disks)
    → difference one other ≡ None → lists_missing one guid reference ≡ true → lists_current other guid reference ≡ true → ⊥
unfolding lists_missing lists_current
agreeing_list_alike one other guid reference differ none misses lists =
    let first = value_there is_missing (entry_in one guid reference) misses in
    let named = entry_named guid reference one.disks first.0 first.1 in
    let second = alike_entry one other reference first.0 none (first_of_reference guid reference one.disks first.0 differ first.1) in
    let also : bytes_eq second.0.guid guid ≡ true = ap (λ (g : List ℕ). bytes_eq g guid) (sym second.2.guid) ∙ named in
    let there = is_first guid reference other.disks second.0 second.1 also in
    let current : not (is_missing second.0) ≡ true = rw there at lists in
    let missing : is_missing second.0 ≡ true = sym second.2.missing ∙ first.2 in
    false≢true (ap not (sym missing) ∙ current)
