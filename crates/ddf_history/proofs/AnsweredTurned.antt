-- Two copies that don't differ don't do so the other way round.
use Rattle.std.proofs.Common.{◌≡◌, ℕ, Bool, true, false, not, eqb, List, [], ◌∷◌, ◌++◌, map, Option, Some, None, refl, ap, sym, ◌∙◌}
use Rattle.std.proofs.lemmas.Bool.{and_parts, eqb-true}
use Rattle.std.proofs.lemmas.List.{map-append}
use Rattle.std.specs.Cmp.{both_ways}
use Rattle.std.specs.Prelude.{filter, is_none}
use Rattle.std.specs.List.{AllByRecursion}
use Rattle.std.specs.Option.{option_eq}
use Rattle.std.specs.Ordering.{nat_cmp}
use Rattle.std.specs.Str.{bytes_eq}
use Rattle.std.specs.Cmp.Lexicographic.{pointwise, slice_cmp}
use Rattle.std.proofs.Math.Bool.{or_comm}
use Rattle.std.proofs.lemmas.List.Elements.{filter_agree}
use Rattle.ddf_lemmas.proofs.Lists.{all_fail, bytes_same, found_passes, none_passes}
use Rattle.ddf_lemmas.proofs.Options.{none_from_map}
use Rattle.ddf_lemmas.proofs.Tests.{eqb_turned}
use Rattle.ddf_tables.specs.declared.disks.DiskEntry.{DiskEntry}
use Rattle.ddf_tables.specs.declared.arrays.ArrayEntry.{ArrayEntry}
use Rattle.ddf_config.specs.declared.element.Position.{Position}
use Rattle.ddf_config.specs.ElementValue.{ElementValue as ElementPlan}
use Rattle.ddf_view.specs.View.{View, HeldRecord, find_held, is_element}
use Rattle.ddf_view.specs.Reading.{plan_of}
use Rattle.ddf_view.specs.Shows.{same_flag, same_plan, same_position}
use Rattle.ddf_view.specs.Differ.{array_differs, difference, differing_arrays, differing_disks, differing_elements, disk_differs, element_difference, element_differs, held_differ, key_cmp, key_of, least, numbered_array, numbered_disk, same_array, same_disk, same_held, same_member_place, same_notes, same_record, told_kind}
use Rattle.ddf_view.specs.declared.difference.Difference.TheVariants as differences
use Rattle.ddf_view.proofs.Finds.{find_has}
use Rattle.ddf_view.proofs.Tests.{same_bytes}
use Rattle.ddf_view.proofs.Common.{least_none}
use Rattle.ddf_history.proofs.AnsweredLists.{or_none_first, or_none_second}

-- ---- tests the other way round

-- Two texts are.
pub bytes_turned : (xs ys : List ℕ) → bytes_eq xs ys ≡ bytes_eq ys xs
bytes_turned xs ys = both_ways (bytes_eq xs ys) (bytes_eq ys xs) (turned xs ys) (turned ys xs)
  where
    turned : (xs ys : List ℕ) → bytes_eq xs ys ≡ true → bytes_eq ys xs ≡ true
    turned xs ys same = ap (λ (zs : List ℕ). bytes_eq zs xs) (sym (same_bytes xs ys same)) ∙ bytes_same xs

-- Two flags are.
flag_turned : (a b : Bool) → same_flag a b ≡ same_flag b a
flag_turned true true = refl
flag_turned true false = refl
flag_turned false true = refl
flag_turned false false = refl

-- Lists are the same item by item where their items are.
pointwise_turned : {X : Type 0} (same : X → X → Bool) → ((x y : X) → same x y ≡ same y x) → (xs ys : List X) → pointwise same xs ys ≡ pointwise same ys xs
pointwise_turned same turned [] [] = refl
pointwise_turned same turned [] (y ∷ ys) = refl
pointwise_turned same turned (x ∷ xs) [] = refl
pointwise_turned same turned (x ∷ xs) (y ∷ ys) = rw (turned x y, pointwise_turned same turned xs ys) refl

-- Two values are the same, or neither is there.
option_turned : {X : Type 0} (same : X → X → Bool) → ((x y : X) → same x y ≡ same y x) → (o p : Option X) → option_eq same o p ≡ option_eq same p o
option_turned same turned None None = refl
option_turned same turned None (Some y) = refl
option_turned same turned (Some x) None = refl
option_turned same turned (Some x) (Some y) = turned x y

-- Two disks with their places are.
disk_turned : (one other : ℕ × DiskEntry) → same_disk one other ≡ same_disk other one
disk_turned one other =
    rw (eqb_turned one.0 other.0, bytes_turned one.1.guid other.1.guid, eqb_turned (told_kind one.1) (told_kind other.1), eqb_turned one.1.state.0 other.1.state.0, eqb_turned one.1.size other.1.size) refl

-- Two arrays with their places are.
array_turned : (one other : ℕ × ArrayEntry) → same_array one other ≡ same_array other one
array_turned one other =
    rw (eqb_turned one.0 other.0, eqb_turned one.1.number other.1.number, eqb_turned one.1.state other.1.state, eqb_turned one.1.init other.1.init, bytes_turned one.1.name other.1.name) refl

-- Two positions are.
position_turned : (one other : Position) → same_position one other ≡ same_position other one
position_turned one other = rw (eqb_turned one.reference other.reference, eqb_turned one.start other.start, flag_turned one.synced other.synced, eqb_turned one.row other.row) refl

-- Two elements are.
plan_turned : (one other : ElementPlan) → same_plan true one other ≡ same_plan true other one
plan_turned one other =
    rw (
      eqb_turned one.level other.level,
      eqb_turned one.qualifier other.qualifier,
      eqb_turned one.strip other.strip,
      eqb_turned one.blocks other.blocks,
      eqb_turned one.stand_in other.stand_in,
      pointwise_turned same_position position_turned one.positions other.positions,
    ) refl

-- The fields of two records are.
record_turned : (one other : HeldRecord) → same_record one.element other.element ≡ same_record other.element one.element
unfolding same_record
record_turned one other =
    rw (
      bytes_turned one.element.array other.element.array,
      eqb_turned one.element.sequence other.element.sequence,
      eqb_turned one.element.strip other.element.strip,
      eqb_turned one.element.level other.element.level,
      eqb_turned one.element.qualifier other.element.qualifier,
      eqb_turned one.element.elements other.element.elements,
      eqb_turned one.element.index other.element.index,
      eqb_turned one.element.secondary other.element.secondary,
      eqb_turned one.element.blocks other.element.blocks,
      eqb_turned one.element.size other.element.size,
      bytes_turned one.element.spares other.element.spares,
      pointwise_turned same_member_place (λ x y. rw (eqb_turned x.reference y.reference, eqb_turned x.start y.start) refl) one.element.members other.element.members,
    ) refl

-- What the notes say of two records is.
notes_turned : (one other : HeldRecord) → same_notes one other ≡ same_notes other one
notes_turned one other = rw (or_comm (is_none one.note) (is_none other.note), plan_turned (plan_of [] one.note one.element) (plan_of [] other.note other.element)) refl

-- Two records that are held are.
held_turned : (one other : HeldRecord) → same_held one other ≡ same_held other one
held_turned one other = rw (record_turned one other, notes_turned one other) refl

-- ---- lists of which nothing is kept

-- A list of two of which nothing is kept.
none_of_both : {X : Type 0} (test : X → Bool) (xs ys : List X) → filter test (xs ++ ys) ≡ [] → (filter test xs ≡ []) × (filter test ys ≡ [])
none_of_both test [] ys none = (refl, none)
none_of_both test (x ∷ xs) ys none = go (none_of_both test xs ys) (test x) refl
  where
    go : (filter test (xs ++ ys) ≡ [] → (filter test xs ≡ []) × (filter test ys ≡ [])) → (b : Bool) → test x ≡ b → (filter test (x ∷ xs) ≡ []) × (filter test ys ≡ [])
    go later true is = absurd (let some : x ∷ filter test (xs ++ ys) ≡ [] = rw is at none in cc)
    go later false is = let rest = later (rw is at none) in (rw is rest.0, rest.1)

-- Nothing is kept of two lists of which nothing is.
none_in_both : {X : Type 0} (test : X → Bool) (xs ys : List X) → filter test xs ≡ [] → filter test ys ≡ [] → filter test (xs ++ ys) ≡ []
none_in_both test [] ys none also = also
none_in_both test (x ∷ xs) ys none also = go (λ rest. none_in_both test xs ys rest also) (test x) refl
  where
    go : (filter test xs ≡ [] → filter test (xs ++ ys) ≡ []) → (b : Bool) → test x ≡ b → filter test ((x ∷ xs) ++ ys) ≡ []
    go later true is = absurd (let some : x ∷ filter test xs ≡ [] = rw is at none in cc)
    go later false is = rw is (later (rw is at none))

-- What all images of a list have, each of its items has by its image.
all_from_map : {X Y : Type 0} (f : X → Y) (P : Y → Type 0) (xs : List X) → AllByRecursion P (map f xs) → AllByRecursion (λ x. P (f x)) xs
all_from_map f P [] all = tt
all_from_map f P (x ∷ xs) all = (all.0, all_from_map f P xs all.1)

-- ---- no difference

-- No disk, array or element differs.
record DifferNot (one other : View) : Type 0 where
  disks : differing_disks one.disks other.disks ≡ []
  arrays : differing_arrays one.arrays other.arrays ≡ []
  elements : differing_elements one.elements other.elements ≡ []

-- Copies that don't differ do so in nothing.
differ_not : (one other : View) → difference one other ≡ None → DifferNot one other
unfolding difference
differ_not one other none =
    let behind = or_none_second _ _ none in
    record {
      disks = least_none nat_cmp (differing_disks one.disks other.disks) (none_from_map differences.Disk (least nat_cmp (differing_disks one.disks other.disks)) (or_none_first _ _ none));
      arrays = least_none (slice_cmp nat_cmp) (differing_arrays one.arrays other.arrays) (none_from_map differences.Array (least (slice_cmp nat_cmp) (differing_arrays one.arrays other.arrays)) (or_none_first _ _ behind));
      elements = least_none key_cmp (differing_elements one.elements other.elements) (none_from_map element_difference (least key_cmp (differing_elements one.elements other.elements)) (or_none_first _ _ (or_none_second _ _ behind)));
    }

-- Copies that differ in nothing don't differ.
no_difference : (one other : View) → DifferNot one other → difference one other ≡ None
unfolding difference
no_difference one other not = rw (not.disks, not.arrays, not.elements) refl

-- ---- the same of each kind

-- A disk differs the other way round.
disk_differs_turned : (one other : List DiskEntry) (reference : ℕ) → disk_differs one other reference ≡ disk_differs other one reference
disk_differs_turned one other reference = ap not (option_turned same_disk disk_turned (numbered_disk reference one) (numbered_disk reference other))

-- An array does.
array_differs_turned : (one other : List ArrayEntry) (guid : List ℕ) → array_differs one other guid ≡ array_differs other one guid
array_differs_turned one other guid = ap not (option_turned same_array array_turned (numbered_array guid one) (numbered_array guid other))

-- A test that can't tell them apart keeps nothing of two lists the other way round.
both_turned : {X Y : Type 0} (key : X → Y) (test turned : Y → Bool) → ((y : Y) → test y ≡ turned y) → (xs ys : List X) → filter test (map key (xs ++ ys)) ≡ [] → filter turned (map key (ys ++ xs)) ≡ []
both_turned {Y = Y} key test turned same xs ys none =
    let apart : filter test (map key xs ++ map key ys) ≡ [] = ap (filter test) (sym (map-append key xs ys)) ∙ none in
    let both = none_of_both test (map key xs) (map key ys) apart in
    let kept = λ (zs : List Y) (empty : filter test zs ≡ []). sym (filter_agree test turned same zs) ∙ empty in
    ap (filter turned) (map-append key ys xs) ∙ none_in_both turned (map key ys) (map key xs) (kept (map key ys) both.1) (kept (map key xs) both.0)

-- ---- elements

-- Where two records that are held don't differ, they don't the other way round.
held_differ_turned : (o p : Option HeldRecord) → held_differ o p ≡ held_differ p o
held_differ_turned None None = refl
held_differ_turned None (Some other) = refl
held_differ_turned (Some one) None = refl
held_differ_turned (Some one) (Some other) = ap not (held_turned one other)

-- An element that is held differs in nothing where none of its kind does.
element_alike : (one other : List HeldRecord) → AllByRecursion (λ key. element_differs one other key ≡ false) (map key_of one) → (array : List ℕ) (index : ℕ) → element_differs one other (array, index) ≡ false
element_alike one other fails array index = go (find_held array index one) refl
  where
    go : (o : Option HeldRecord) → find_held array index one ≡ o → element_differs one other (array, index) ≡ false
    go None is = rw is refl
    go (Some held) is =
        let passes = and_parts (bytes_eq held.element.array array) (eqb held.element.index index) (found_passes (is_element array index) one held is) in
        let arrays : held.element.array ≡ array = same_bytes held.element.array array passes.0 in
        let indices : held.element.index ≡ index = eqb-true held.element.index index passes.1 in
        let here : element_differs one other (held.element.array, held.element.index) ≡ false = find_has (λ (one_held : HeldRecord). element_differs one other (key_of one_held) ≡ false) (is_element array index) one held (all_from_map key_of (λ key. element_differs one other key ≡ false) one fails) is in
        ap (λ (guid : List ℕ). element_differs one other (guid, index)) (sym arrays) ∙ ap (λ (n : ℕ). element_differs one other (held.element.array, n)) (sym indices) ∙ here

-- Copies that don't differ don't do so the other way round.
pub difference_turned : (one other : View) → difference one other ≡ None → difference other one ≡ None
difference_turned one other none =
    let nothing = differ_not one other none in
    let fails = all_fail (element_differs one.elements other.elements) (map key_of one.elements) nothing.elements in
    no_difference other one (record {
      disks = both_turned (λ disk. disk.reference) (disk_differs one.disks other.disks) (disk_differs other.disks one.disks) (disk_differs_turned one.disks other.disks) one.disks other.disks nothing.disks;
      arrays = both_turned (λ entry. entry.guid) (array_differs one.arrays other.arrays) (array_differs other.arrays one.arrays) (array_differs_turned one.arrays other.arrays) one.arrays other.arrays nothing.arrays;
      elements = none_passes (element_differs other.elements one.elements) (λ key. held_differ_turned (find_held key.0 key.1 other.elements) (find_held key.0 key.1 one.elements) ∙ element_alike one.elements other.elements fails key.0 key.1) (map key_of other.elements);
    })
