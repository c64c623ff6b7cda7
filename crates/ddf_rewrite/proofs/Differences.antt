-- Views that don't differ.
use Rattle.std.proofs.Common.{◌≡◌, ℕ, zero, suc, Bool, true, false, not, ◌&&◌, ◌||◌, eqb, List, [], ◌∷◌, ◌++◌, map, Option, Some, None, refl, ap, sym, ◌∙◌, subst, ◌⊎◌, ⊎_elim, inl, inr}
use Rattle.std.proofs.lemmas.Bool.{and_from, and_parts, eqb-true, eq-eqb, false≢true, not-false}
use Rattle.std.specs.Prelude.{slice_get, find, is_none, option_map}
use Rattle.std.specs.List.{AllByRecursion, enumerate_from}
use Rattle.std.specs.Option.{option_eq}
use Rattle.std.specs.Ordering.{nat_cmp}
use Rattle.std.specs.Str.{bytes_eq}
use Rattle.std.specs.Cmp.Lexicographic.{slice_cmp}
use Rattle.ddf_lemmas.proofs.Lists.{all_fail, bytes_same, filter_none, first_get, found_place, in_second, mapped_at}
use Rattle.ddf_lemmas.proofs.Options.{none_from_map}
use Rattle.ddf_lemmas.proofs.Tests.{five_from}
use Rattle.ddf_bytes.proofs.Nones.{none_first}
use Rattle.ddf_tables.specs.declared.disks.DiskEntry.{DiskEntry}
use Rattle.ddf_tables.specs.declared.arrays.ArrayEntry.{ArrayEntry}
use Rattle.ddf_config_records.specs.declared.notes.SlotNote.{SlotNote}
use Rattle.ddf_config.specs.Configuration.{Configuration}
use Rattle.ddf_config.specs.ElementValue.{ElementValue as ElementPlan}
use Rattle.ddf_view.specs.Differ.{array_differs, difference, differing_arrays, differing_disks, differing_elements, disk_differs, element_difference, element_differs, held_differ, key_cmp, key_of, least, same_array, same_disk, same_held, same_notes, same_record, told_kind}
use Rattle.ddf_view.specs.Reading.{plan_of}
use Rattle.ddf_view.specs.Shows.{same_plan}
use Rattle.ddf_view.specs.View.{HeldRecord, View, find_held, is_element}
use Rattle.ddf_view.specs.declared.difference.Difference.TheVariants as differences
use Rattle.ddf_view.proofs.Shown.{plan_same}
use Rattle.ddf_view.proofs.Tests.{and_five, same_bytes}
use Rattle.ddf_view.proofs.Common.{disk_itself, least_none}
use Rattle.ddf_rewrite.specs.Wanted.{Wanted, all_wanted}
use Rattle.ddf_rewrite.proofs.Given.{plan_again}
use Rattle.ddf_rewrite.proofs.Holdings.{are_same, same_again, same_back, same_self}
use Rattle.ddf_rewrite.proofs.Lists.{all_at, enumerated_get}

-- They have each disk and each array alike, and each element that both hold.
pub record Agrees (one other : View) : Type 0 where
  pub disks : (reference : ℕ) → disk_differs one.disks other.disks reference ≡ false
  pub arrays : (guid : List ℕ) → array_differs one.arrays other.arrays guid ≡ false
  pub elements : (key : List ℕ × ℕ) → element_differs one.elements other.elements key ≡ false

-- ---- to no difference

-- Views that agree don't differ.
pub no_difference : (one other : View) → Agrees one other → difference one other ≡ None
unfolding difference
no_difference one other agrees =
    let no_disk = filter_none (disk_differs one.disks other.disks) (map (λ entry. entry.reference) (one.disks ++ other.disks)) agrees.disks in
    let no_array = filter_none (array_differs one.arrays other.arrays) (map (λ entry. entry.guid) (one.arrays ++ other.arrays)) agrees.arrays in
    let no_element = filter_none (element_differs one.elements other.elements) (map key_of one.elements) agrees.elements in
    rw (no_disk, no_array, no_element) refl

-- ---- from no difference

-- an item of a name, with its place
abbrev named_at : {K X : Type 0} → (X → K) → (K → K → Bool) → K → List X → Option (ℕ × X)
named_at name eq key xs = find (λ pair. eq (name pair.1) key) (enumerate_from 0 xs)

-- the items of a name are alike
abbrev AlikeAt : {K X : Type 0} → (ℕ × X → ℕ × X → Bool) → (X → K) → (K → K → Bool) → (one other : List X) → K → Type 0
AlikeAt same name eq one other key = not (option_eq same (named_at name eq key one) (named_at name eq key other)) ≡ false

-- Items that are alike for each name that there is are alike for every one.
each_alike : {K X : Type 0} (same : ℕ × X → ℕ × X → Bool) (name : X → K) (eq : K → K → Bool) → ((a b : K) → eq a b ≡ true → a ≡ b) → (one other : List X)
    → AllByRecursion (AlikeAt same name eq one other) (map name (one ++ other)) → (key : K) → AlikeAt same name eq one other key
each_alike {K = K} {X = X} same name eq is one other all key = go (named_at name eq key one) refl (named_at name eq key other) refl
  where
    at : (i : ℕ) (x : X) → slice_get (one ++ other) i ≡ Some x → eq (name x) key ≡ true → AlikeAt same name eq one other key
    at i x there passes = subst (AlikeAt same name eq one other) (is (name x) key passes) (all_at (AlikeAt same name eq one other) (map name (one ++ other)) i (name x) all (mapped_at name (one ++ other) i x there))

    go : (o : Option (ℕ × X)) → named_at name eq key one ≡ o → (p : Option (ℕ × X)) → named_at name eq key other ≡ p → AlikeAt same name eq one other key
    go (Some pair) e p f =
        let found = found_place (λ (x : ℕ × X). eq (name x.1) key) (enumerate_from 0 one) pair e in
        let from = enumerated_get 0 one found.0 pair found.1 in
        at found.0 pair.1 (first_get one other found.0 pair.1 from.1) found.2
    go None e (Some pair) f =
        let found = found_place (λ (x : ℕ × X). eq (name x.1) key) (enumerate_from 0 other) pair f in
        let from = enumerated_get 0 other found.0 pair found.1 in
        let place = in_second one other found.0 pair.1 from.1 in
        at place.0 pair.1 place.1 found.2
    go None e None f = rw (e, f) refl

-- the same test, by the parts of the key
abbrev differ_in : List HeldRecord → List HeldRecord → List ℕ → ℕ → Bool
differ_in one other guid index = element_differs one other (guid, index)

-- Records that are alike for each element that the first holds are alike for every one.
each_held : (one other : List HeldRecord) → AllByRecursion (λ key. element_differs one other key ≡ false) (map key_of one) → (key : List ℕ × ℕ) → element_differs one other key ≡ false
each_held one other all key = go (find_held key.0 key.1 one) refl
  where
    go : (o : Option HeldRecord) → find_held key.0 key.1 one ≡ o → element_differs one other key ≡ false
    go None e = rw e refl
    go (Some held) e =
        let found = found_place (is_element key.0 key.1) one held e in
        let parts = and_parts (bytes_eq held.element.array key.0) (eqb held.element.index key.1) found.2 in
        let array = same_bytes held.element.array key.0 parts.0 in
        let index = eqb-true held.element.index key.1 parts.1 in
        let alike = all_at (λ (k : List ℕ × ℕ). element_differs one other k ≡ false) (map key_of one) found.0 (key_of held) all (mapped_at key_of one found.0 held found.1) in
        ap (λ (g : List ℕ). differ_in one other g key.1) (sym array) ∙ ap (λ (i : ℕ). differ_in one other held.element.array i) (sym index) ∙ alike

-- Views that don't differ agree.
pub agrees : (one other : View) → difference one other ≡ None → Agrees one other
unfolding difference
agrees one other none =
    let parts = none_first (
    option_map differences.Disk (least nat_cmp (differing_disks one.disks other.disks))
    ∷ option_map differences.Array (least (slice_cmp nat_cmp) (differing_arrays one.arrays other.arrays))
    ∷ option_map element_difference (least key_cmp (differing_elements one.elements other.elements))
    ∷ []) none in
    let disks = least_none nat_cmp (differing_disks one.disks other.disks) (none_from_map differences.Disk (least nat_cmp (differing_disks one.disks other.disks)) parts.0) in
    let arrays = least_none (slice_cmp nat_cmp) (differing_arrays one.arrays other.arrays) (none_from_map differences.Array (least (slice_cmp nat_cmp) (differing_arrays one.arrays other.arrays)) parts.1.0) in
    let elements = least_none key_cmp (differing_elements one.elements other.elements) (none_from_map element_difference (least key_cmp (differing_elements one.elements other.elements)) parts.1.1.0) in
    record {
      disks = each_alike same_disk (λ (disk : DiskEntry). disk.reference) eqb eqb-true one.disks other.disks (all_fail (disk_differs one.disks other.disks) (map (λ disk. disk.reference) (one.disks ++ other.disks)) disks);
      arrays = each_alike same_array (λ (row : ArrayEntry). row.guid) bytes_eq same_bytes one.arrays other.arrays (all_fail (array_differs one.arrays other.arrays) (map (λ row. row.guid) (one.arrays ++ other.arrays)) arrays);
      elements = each_held one.elements other.elements (all_fail (element_differs one.elements other.elements) (map key_of one.elements) elements);
    }

-- ---- the other way round

-- items that are alike are so the other way round
alike_back : {X : Type 0} (same : X → X → Bool) → ((x y : X) → same x y ≡ true → same y x ≡ true) → (o p : Option X) → not (option_eq same o p) ≡ false → not (option_eq same p o) ≡ false
alike_back same back None None h = refl
alike_back same back None (Some y) h = h
alike_back same back (Some x) None h = h
alike_back same back (Some x) (Some y) h = ap not (back x y (not-false (same x y) h))

-- tests of equality, the other way round
number_back : (a b : ℕ) → eqb a b ≡ true → eqb b a ≡ true
number_back a b h = eq-eqb b a (sym (eqb-true a b h))

bytes_back : (a b : List ℕ) → bytes_eq a b ≡ true → bytes_eq b a ≡ true
bytes_back a b h = ap (λ (x : List ℕ). bytes_eq b x) (same_bytes a b h) ∙ bytes_same b

-- disks that are the same, the other way round
disk_back : (one other : ℕ × DiskEntry) → same_disk one other ≡ true → same_disk other one ≡ true
disk_back one other h =
    let parts = and_five (eqb one.0 other.0) (bytes_eq one.1.guid other.1.guid) (eqb (told_kind one.1) (told_kind other.1)) (eqb one.1.state.0 other.1.state.0) (eqb one.1.size other.1.size) h in
    five_from (eqb other.0 one.0) (bytes_eq other.1.guid one.1.guid) (eqb (told_kind other.1) (told_kind one.1)) (eqb other.1.state.0 one.1.state.0) (eqb other.1.size one.1.size)
    (number_back one.0 other.0 parts.0) (bytes_back one.1.guid other.1.guid parts.1) (number_back (told_kind one.1) (told_kind other.1) parts.2) (number_back one.1.state.0 other.1.state.0 parts.3) (number_back one.1.size other.1.size parts.4)

-- arrays that are the same, the other way round
array_back : (one other : ℕ × ArrayEntry) → same_array one other ≡ true → same_array other one ≡ true
array_back one other h =
    let parts = and_five (eqb one.0 other.0) (eqb one.1.number other.1.number) (eqb one.1.state other.1.state) (eqb one.1.init other.1.init) (bytes_eq one.1.name other.1.name) h in
    five_from (eqb other.0 one.0) (eqb other.1.number one.1.number) (eqb other.1.state one.1.state) (eqb other.1.init one.1.init) (bytes_eq other.1.name one.1.name)
    (number_back one.0 other.0 parts.0) (number_back one.1.number other.1.number parts.1) (number_back one.1.state other.1.state parts.2) (number_back one.1.init other.1.init parts.3) (bytes_back one.1.name other.1.name parts.4)

-- ---- records

-- where both have notes they give one plan
abbrev pub plans_alike : (o p : Option SlotNote) → (one other : ElementPlan) → Bool
plans_alike o p one other = is_none o || is_none p || same_plan true one other

-- the other way round
plans_back : (o p : Option SlotNote) (one other : ElementPlan) → plans_alike o p one other ≡ true → plans_alike p o other one ≡ true
plans_back None None one other h = refl
plans_back None (Some noted) one other h = refl
plans_back (Some noted) None one other h = refl
plans_back (Some first) (Some second) one other h = ap (λ (plan : ElementPlan). same_plan true other plan) (plan_same one other h) ∙ plan_again other

-- a plan and itself
plans_self : (o : Option SlotNote) (one : ElementPlan) → plans_alike o o one one ≡ true
plans_self None one = refl
plans_self (Some noted) one = plan_again one

-- records that are the same, the other way round
held_back : (one other : HeldRecord) → same_held one other ≡ true → same_held other one ≡ true
held_back one other h =
    let parts = and_parts (same_record one.element other.element) (same_notes one other) h in
    and_from (same_record other.element one.element) (same_notes other one) (same_again other.element one.element (same_back (are_same one.element other.element parts.0)))
    (plans_back one.note other.note (plan_of [] one.note one.element) (plan_of [] other.note other.element) parts.1)

-- a record and itself
held_self : (one : HeldRecord) → same_held one one ≡ true
held_self one = and_from (same_record one.element one.element) (same_notes one one) (same_again one.element one.element (same_self one.element)) (plans_self one.note (plan_of [] one.note one.element))

-- records that don't differ, the other way round
differ_back : (o p : Option HeldRecord) → held_differ o p ≡ false → held_differ p o ≡ false
differ_back None None h = refl
differ_back None (Some other) h = refl
differ_back (Some one) None h = refl
differ_back (Some one) (Some other) h = ap not (held_back one other (not-false (same_held one other) h))

-- a record doesn't differ from itself
differ_self : (o : Option HeldRecord) → held_differ o o ≡ false
differ_self None = refl
differ_self (Some one) = ap not (held_self one)

-- an item is like itself
alike_self : {X : Type 0} (same : X → X → Bool) → ((x : X) → same x x ≡ true) → (o : Option X) → not (option_eq same o o) ≡ false
alike_self same is None = refl
alike_self same is (Some x) = ap not (is x)

-- an array is the same as itself
array_self : (one : ℕ × ArrayEntry) → same_array one one ≡ true
array_self one =
    five_from (eqb one.0 one.0) (eqb one.1.number one.1.number) (eqb one.1.state one.1.state) (eqb one.1.init one.1.init) (bytes_eq one.1.name one.1.name)
    (eq-eqb one.0 one.0 refl) (eq-eqb one.1.number one.1.number refl) (eq-eqb one.1.state one.1.state refl) (eq-eqb one.1.init one.1.init refl) (bytes_same one.1.name)

-- ---- views

-- Views that agree do so the other way round.
pub agrees_back : (one other : View) → Agrees one other → Agrees other one
agrees_back one other is = record {
  disks = λ reference. alike_back same_disk disk_back (named_at (λ (disk : DiskEntry). disk.reference) eqb reference one.disks) (named_at (λ (disk : DiskEntry). disk.reference) eqb reference other.disks) (is.disks reference);
  arrays = λ guid. alike_back same_array array_back (named_at (λ (row : ArrayEntry). row.guid) bytes_eq guid one.arrays) (named_at (λ (row : ArrayEntry). row.guid) bytes_eq guid other.arrays) (is.arrays guid);
  elements = λ key. differ_back (find_held key.0 key.1 one.elements) (find_held key.0 key.1 other.elements) (is.elements key);
}

-- A view agrees with itself.
pub agrees_self : (one : View) → Agrees one one
agrees_self one = record {
  disks = λ reference. alike_self same_disk disk_itself (named_at (λ (disk : DiskEntry). disk.reference) eqb reference one.disks);
  arrays = λ guid. alike_self same_array array_self (named_at (λ (row : ArrayEntry). row.guid) bytes_eq guid one.arrays);
  elements = λ key. differ_self (find_held key.0 key.1 one.elements);
}

-- ---- the elements of a configuration

-- an element passes, or none does
some_or_none : (t : Wanted → Bool) (all : List Wanted) → ((n : ℕ) × (wanted : Wanted) × (slice_get all n ≡ Some wanted) × (t wanted ≡ true)) ⊎ ((n : ℕ) (wanted : Wanted) → slice_get all n ≡ Some wanted → t wanted ≡ false)
some_or_none t [] = inr (λ n wanted h. absurd cc)
some_or_none t (x ∷ all) = go (some_or_none t all) (t x) refl
  where
    after : ((n : ℕ) (wanted : Wanted) → slice_get all n ≡ Some wanted → t wanted ≡ false) → t x ≡ false → (n : ℕ) (wanted : Wanted) → slice_get (x ∷ all) n ≡ Some wanted → t wanted ≡ false
    after rest e zero wanted h = let same : x ≡ wanted = cc in sym (ap t same) ∙ e
    after rest e (suc n) wanted h = rest n wanted h

    go : ((n : ℕ) × (wanted : Wanted) × (slice_get all n ≡ Some wanted) × (t wanted ≡ true)) ⊎ ((n : ℕ) (wanted : Wanted) → slice_get all n ≡ Some wanted → t wanted ≡ false) → (b : Bool) → t x ≡ b
        → ((n : ℕ) × (wanted : Wanted) × (slice_get (x ∷ all) n ≡ Some wanted) × (t wanted ≡ true)) ⊎ ((n : ℕ) (wanted : Wanted) → slice_get (x ∷ all) n ≡ Some wanted → t wanted ≡ false)
    go rest true e = inl (0, x, refl, e)
    go (inl found) false e = inl (suc found.0, found.1, found.2, found.3)
    go (inr none) false e = inr (after none e)

-- Where what is held of each element of a configuration is alike, and one view holds no others, each element is alike.
pub elements_alike : (config : Configuration) (one other : List HeldRecord) → ((n : ℕ) (wanted : Wanted) → slice_get (all_wanted config) n ≡ Some wanted → element_differs one other (wanted.guid, wanted.index) ≡ false)
    → ((guid : List ℕ) (index : ℕ) → ((n : ℕ) (wanted : Wanted) → slice_get (all_wanted config) n ≡ Some wanted → wanted.guid ≡ guid → wanted.index ≡ index → ⊥) → find_held guid index one ≡ None)
    → (key : List ℕ × ℕ) → element_differs one other key ≡ false
elements_alike config one other alike away key =
    ⊎_elim
    (λ (found : (n : ℕ) × (wanted : Wanted) × (slice_get (all_wanted config) n ≡ Some wanted) × ((bytes_eq wanted.guid key.0 && eqb wanted.index key.1) ≡ true)).
    let wanted = found.1 in
    let parts = and_parts (bytes_eq wanted.guid key.0) (eqb wanted.index key.1) found.3 in
    let guid = same_bytes wanted.guid key.0 parts.0 in
    let index = eqb-true wanted.index key.1 parts.1 in
    ap (λ (g : List ℕ). differ_in one other g key.1) (sym guid) ∙ ap (λ (i : ℕ). differ_in one other wanted.guid i) (sym index) ∙ alike found.0 wanted found.2)
    (λ (none : (n : ℕ) (wanted : Wanted) → slice_get (all_wanted config) n ≡ Some wanted → (bytes_eq wanted.guid key.0 && eqb wanted.index key.1) ≡ false).
    let gone = away key.0 key.1 (λ n wanted at guid index.
    let first : bytes_eq wanted.guid key.0 ≡ true = ap (λ (g : List ℕ). bytes_eq g key.0) guid ∙ bytes_same key.0 in
    let second : eqb wanted.index key.1 ≡ true = eq-eqb wanted.index key.1 index in
    let both : (bytes_eq wanted.guid key.0 && eqb wanted.index key.1) ≡ true = rw (first, second) refl in
    false≢true (sym (none n wanted at) ∙ both)) in
    rw gone refl)
    (some_or_none (λ wanted. bytes_eq wanted.guid key.0 && eqb wanted.index key.1) (all_wanted config))
