-- What a configuration has that is read from copies that can be written.
use Rattle.std.proofs.Common.{◌≡◌, ℕ, suc, ◌<◌, ◌≤◌, Bool, true, false, not, ◌&&◌, ◌||◌, cond, eqb, ltb, leb, List, [], ◌∷◌, map, Option, Some, None, refl, ap, sym, ◌∙◌, subst, arith}
use Rattle.std.proofs.lemmas.Bool.{eqb-true, and_parts, false≢true, false_from_ne_true, ltb-false}
use Rattle.std.proofs.lemmas.List.FromFn.{length-map-range_with_len}
use Rattle.std.specs.Prelude.{slice_get, filter, option_map, nat_eq, is_some}
use Rattle.std.specs.Option.{option_map_or, option_or}
use Rattle.std.specs.List.{AllByRecursion, IsDistinct, enumerate_from, range_with_len, list_any}
use Rattle.std.specs.Str.{bytes_eq}
use Rattle.ddf_lemmas.proofs.Lists.{any_place, bytes_same, in_map, kept_passes, mapped_at, range_get}
use Rattle.ddf_bytes.specs.Choices.{first_of}
use Rattle.ddf_tables.specs.declared.disks.DiskEntry.{DiskEntry}
use Rattle.ddf_tables.specs.declared.arrays.ArrayEntry.{ArrayEntry}
use Rattle.ddf_config_records.specs.ElementValue.{ElementValue}
use Rattle.ddf_config_records.specs.declared.place.Place.{Place}
use Rattle.ddf_config_records.specs.declared.notes.SlotNote.{SlotNote}
use Rattle.ddf_config.specs.ElementValue.{ElementValue as ElementPlan}
use Rattle.ddf_config.specs.declared.array.Array.{Array}
use Rattle.ddf_config.specs.declared.element.Position.{Position}
use Rattle.ddf_config.specs.declared.member.Member.{Member}
use Rattle.ddf_config.specs.declared.member.SpareUse.TheVariants as uses
use Rattle.ddf_config.specs.declared.member.SpareUse.{SpareUse}
use Rattle.ddf_view.specs.Readable.{AreReadable, IsReadable}
use Rattle.ddf_view.specs.Reading.{are_noted, array_in, arrays_in, count_in, dedicated_or_not, disks_in, element_in, elements_in, is_associated, is_dedicated, member_in, names_array, naming_record, plan_of, position_of, read, records_of, row_of, secondary_in, spare_in}
use Rattle.ddf_view.specs.Shows.{least_element}
use Rattle.ddf_view.specs.View.{HeldRecord, View, find_held, find_note, has_bit, is_element}
use Rattle.ddf_view.proofs.Finds.{find_has, filter_same}
use Rattle.ddf_view.proofs.Tests.{same_bytes}
use Rattle.ddf_rewrite.specs.Elements.{is_spare_for, no_reference}
use Rattle.ddf_rewrite.specs.Hold.{AreDisks}
use Rattle.ddf_rewrite.specs.Readable.{AreRebuilt, HasSpares, OneRebuilt}
use Rattle.ddf_rewrite.proofs.Given.{no_element}
use Rattle.ddf_rewrite.proofs.ElementsCan.{IsFit}
use Rattle.ddf_rewrite.proofs.NamesCan.{own_references}
use Rattle.ddf_rewrite.proofs.ReadCan.{is_read, found_named, index_below, same_names}
use Rattle.ddf_rewrite.proofs.Lists.{enumerated_get, get_range, all_at}
use Rattle.ddf_rewrite.proofs.AllWanted.{filter_map_get}

-- ---- at most one position is rebuilt

rebuilt_at : (note : Option SlotNote) (p q : ℕ) → eqb (row_of note p) 0 ≡ false → eqb (row_of note q) 0 ≡ false → p ≡ q
rebuilt_at None p q h k = absurd (false≢true (sym h))
rebuilt_at (Some note) p q h k = sym (is p h) ∙ is q k
  where
    is : (r : ℕ) → eqb (cond (eqb note.position r) note.row 0) 0 ≡ false → note.position ≡ r
    is r h = go (eqb note.position r) refl h
      where
        go : (b : Bool) → eqb note.position r ≡ b → eqb (cond b note.row 0) 0 ≡ false → note.position ≡ r
        go true e h = eqb-true note.position r e
        go false e h = absurd (false≢true (sym h))

one_rebuilt : (disks : List DiskEntry) (note : Option SlotNote) (element : ElementValue) → OneRebuilt (plan_of disks note element)
unfolding plan_of
one_rebuilt disks note element i j one other at also h k =
    let make = λ (pair : ℕ × Place). position_of disks note pair.0 pair.1 in
    let first = in_map make (enumerate_from 0 element.members) i one at in
    let second = in_map make (enumerate_from 0 element.members) j other also in
    let here : first.0.0 ≡ i = (enumerated_get 0 element.members i first.0 first.1).0 ∙ omega arith in
    let there : second.0.0 ≡ j = (enumerated_get 0 element.members j second.0 second.1).0 ∙ omega arith in
    let one_row : eqb (row_of note first.0.0) 0 ≡ false = ap (λ (p : Position). eqb p.row 0) first.2 ∙ h in
    let other_row : eqb (row_of note second.0.0) 0 ≡ false = ap (λ (p : Position). eqb p.row 0) second.2 ∙ k in
    sym here ∙ rebuilt_at note first.0.0 second.0.0 one_row other_row ∙ there

pub read_rebuilt : (group : List ℕ) (sequence : ℕ) (views : List View) → AreRebuilt (read group sequence views)
read_rebuilt group sequence views i wanted at =
    let is = is_read group sequence views i wanted at in
    subst (λ (p : ElementPlan). OneRebuilt p) (sym is.plan) (one_rebuilt (disks_in views) (find_note is.entry.guid wanted.index (elements_in views)) is.held.element)

-- ---- an array that is read

abbrev pub AllFit : ℕ → List HeldRecord → Type 0
AllFit most elements = AllByRecursion (λ held. IsFit most held.element) elements

or_middle : (a b c : Bool) → (a || b || c) ≡ false → b ≡ false
or_middle true b c h = absurd (false≢true (sym h))
or_middle false true c h = absurd (false≢true (sym h))
or_middle false false c h = refl

first_some : {X Y : Type 0} (f : X → Option Y) (xs : List X) (y : Y) → first_of (map f xs) ≡ Some y → (i : ℕ) × (x : X) × (slice_get xs i ≡ Some x) × (f x ≡ Some y)
first_some f [] y h = absurd cc
first_some {X = X} {Y = Y} f (x ∷ xs) y h = go (first_some f xs y) (f x) refl h
  where
    go : (first_of (map f xs) ≡ Some y → (i : ℕ) × (z : X) × (slice_get xs i ≡ Some z) × (f z ≡ Some y)) → (o : Option Y) → f x ≡ o → option_or o (first_of (map f xs)) ≡ Some y → (i : ℕ) × (z : X) × (slice_get (x ∷ xs) i ≡ Some z) × (f z ≡ Some y)
    go later None e h = let rest = later h in (suc rest.0, rest.1, rest.2, rest.3)
    go later (Some z) e h = (0, x, refl, e ∙ h)

-- the naming record is that of an element
naming_at : (elements : List HeldRecord) (array : List ℕ) (held : HeldRecord) → naming_record elements array ≡ Some held → (index : ℕ) × (find_held array index elements ≡ Some held)
unfolding naming_record
naming_at elements array held h = let is = first_some (λ index. find_held array index elements) (range_with_len 0 16) held h in (is.1, is.3)

-- an element that is held is there
element_there : (disks : List DiskEntry) (elements : List HeldRecord) (array : List ℕ) (index : ℕ) (held : HeldRecord) → find_held array index elements ≡ Some held → index < count_in elements array
    → (plan : ElementPlan) × (slice_get (map (element_in disks elements array) (range_with_len 0 (count_in elements array))) index ≡ Some (Some plan))
element_there disks elements array index held at lt =
    let place = get_range 0 (count_in elements array) index lt in
    let here : place.0 ≡ index = place.1 ∙ omega arith in
    let is : element_in disks elements array index ≡ Some (plan_of disks (find_note array index elements) held.element) = ap (λ o. option_map (λ (one : HeldRecord). plan_of disks (find_note array index elements) one.element) o) at in (
      plan_of disks (find_note array index elements) held.element,
      mapped_at (element_in disks elements array) (range_with_len 0 (count_in elements array)) index place.0 place.2 ∙ ap (λ (n : ℕ). Some (element_in disks elements array n)) here ∙ ap (λ (o : Option ElementPlan). Some o) is,
    )

-- the naming record's element is there
naming_there : (most : ℕ) (disks : List DiskEntry) (elements : List HeldRecord) (array : List ℕ) (held : HeldRecord) → AllFit most elements → naming_record elements array ≡ Some held
    → (e : ℕ) × (plan : ElementPlan) × (slice_get (map (element_in disks elements array) (range_with_len 0 (count_in elements array))) e ≡ Some (Some plan))
naming_there most disks elements array held all h =
    let at = naming_at elements array held h in
    let fit = find_has (λ one. IsFit most one.element) (is_element array at.0) elements held all at.1 in
    let own = found_named array at.0 elements held at.1 in
    let below = index_below most held.element fit in
    let count : count_in elements array ≡ held.element.elements = ap (λ o. option_map_or (λ (one : HeldRecord). one.element.elements) o 1) h in
    let there = element_there disks elements array at.0 held at.1 (omega (arith, own, below, count)) in
    (at.0, there.0, there.1)

pub count_few : (most : ℕ) (elements : List HeldRecord) (array : List ℕ) → AllFit most elements → count_in elements array ≤ 16
count_few most elements array all = go (naming_record elements array) refl
  where
    go : (o : Option HeldRecord) → naming_record elements array ≡ o → option_map_or (λ (held : HeldRecord). held.element.elements) o 1 ≤ 16
    go None e = omega arith
    go (Some held) e =
        let at = naming_at elements array held e in
        let fit = find_has (λ one. IsFit most one.element) (is_element array at.0) elements held all at.1 in
        ltb-false 16 held.element.elements (or_middle (eqb held.element.elements 0) (ltb 16 held.element.elements) (leb held.element.elements held.element.index) fit.is.secondary)

none_first : (elements : List HeldRecord) (array : List ℕ) → naming_record elements array ≡ None → find_held array 0 elements ≡ None
unfolding naming_record
none_first elements array h = go (find_held array 0 elements) refl h
  where
    go : (o : Option HeldRecord) → find_held array 0 elements ≡ o → option_or o (first_of (map (λ index. find_held array index elements) (range_with_len 1 15))) ≡ None → o ≡ None
    go None e h = refl
    go (Some held) e h = absurd cc

read_array : (most : ℕ) (disks : List DiskEntry) (elements : List HeldRecord) (entry : ArrayEntry) → AllFit most elements → IsReadable (array_in disks elements entry)
unfolding array_in
read_array most disks elements entry all = record {
  few = let count = length-map-range_with_len (element_in disks elements entry.guid) 0 (count_in elements entry.guid) in let few = count_few most elements entry.guid all in omega (arith, count, few);
  alone = alone (naming_record elements entry.guid) refl;
  plain = plain (naming_record elements entry.guid) refl;
}
  where
    some_there : (held : HeldRecord) → naming_record elements entry.guid ≡ Some held → least_element (map (element_in disks elements entry.guid) (range_with_len 0 (count_in elements entry.guid))) ≡ None → ⊥
    some_there held e none =
        let there = naming_there most disks elements entry.guid held all e in
        let gone = no_element (map (element_in disks elements entry.guid) (range_with_len 0 (count_in elements entry.guid))) 0 none there.0 (Some there.1) there.2 in
        absurd cc

    alone : (o : Option HeldRecord) → naming_record elements entry.guid ≡ o → least_element (map (element_in disks elements entry.guid) (range_with_len 0 (count_in elements entry.guid))) ≡ None
        → map (element_in disks elements entry.guid) (range_with_len 0 (count_in elements entry.guid)) ≡ None ∷ []
    alone None e none =
        let count : count_in elements entry.guid ≡ 1 = ap (λ o. option_map_or (λ (one : HeldRecord). one.element.elements) o 1) e in
        let first : element_in disks elements entry.guid 0 ≡ None = ap (λ o. option_map (λ (one : HeldRecord). plan_of disks (find_note entry.guid 0 elements) one.element) o) (none_first elements entry.guid e) in
        ap (λ (n : ℕ). map (element_in disks elements entry.guid) (range_with_len 0 n)) count ∙ ap (λ (o : Option ElementPlan). o ∷ []) first
    alone (Some held) e none = absurd (some_there held e none)

    plain : (o : Option HeldRecord) → naming_record elements entry.guid ≡ o → least_element (map (element_in disks elements entry.guid) (range_with_len 0 (count_in elements entry.guid))) ≡ None → secondary_in elements entry.guid ≡ 0
    plain None e none = ap (λ o. option_map_or (λ (one : HeldRecord). one.element.secondary) o 0) e
    plain (Some held) e none = absurd (some_there held e none)

read_arrays : (most : ℕ) (disks : List DiskEntry) (elements : List HeldRecord) (arrays : List ArrayEntry) → AllFit most elements → AllByRecursion (λ (entry : List ℕ × Array). IsReadable entry.1) (map (λ (entry : ArrayEntry). (entry.guid, array_in disks elements entry)) arrays)
read_arrays most disks elements [] all = tt
read_arrays most disks elements (entry ∷ arrays) all = (read_array most disks elements entry all, read_arrays most disks elements arrays all)

pub read_readable : (most : ℕ) (group : List ℕ) (sequence : ℕ) (views : List View) → AllFit most (elements_in views) → AreReadable (read group sequence views)
unfolding read
read_readable most group sequence views all = read_arrays most (disks_in views) (elements_in views) (arrays_in views) all

-- ---- the spares of a configuration that is read

not_among : (guid : List ℕ) (p : ArrayEntry → Bool) (entries : List ArrayEntry) → AllByRecursion (λ other. bytes_eq guid other ≡ false) (map (λ (entry : ArrayEntry). entry.guid) entries)
    → list_any (λ other. bytes_eq guid other) (map (λ (entry : ArrayEntry). entry.guid) (filter p entries)) ≡ false
not_among guid p [] apart = refl
not_among guid p (entry ∷ entries) apart = go (not_among guid p entries apart.1) (p entry) refl
  where
    go : list_any (λ other. bytes_eq guid other) (map (λ (one : ArrayEntry). one.guid) (filter p entries)) ≡ false → (b : Bool) → p entry ≡ b
        → list_any (λ other. bytes_eq guid other) (map (λ (one : ArrayEntry). one.guid) (cond b (entry ∷ filter p entries) (filter p entries))) ≡ false
    go later true e = rw apart.0 later
    go later false e = later

turned : (guids : List (List ℕ)) (guid : List ℕ) → AllByRecursion (λ other. bytes_eq guid other ≡ false) guids → AllByRecursion (λ other. bytes_eq other guid ≡ false) guids
turned [] guid apart = tt
turned (other ∷ guids) guid apart = (false_from_ne_true (bytes_eq other guid) (λ yes. false≢true (sym apart.0 ∙ ap (λ (g : List ℕ). bytes_eq guid g) (same_bytes other guid yes) ∙ bytes_same guid)), turned guids guid apart.1)

-- the GUIDs of some arrays, sought among those of all
sought_again : (p : ArrayEntry → Bool) (entries : List ArrayEntry) → IsDistinct bytes_eq (map (λ (entry : ArrayEntry). entry.guid) entries)
    → filter (λ guid. list_any (λ other. bytes_eq guid other) (map (λ (entry : ArrayEntry). entry.guid) (filter p entries))) (map (λ (entry : ArrayEntry). entry.guid) entries) ≡ map (λ (entry : ArrayEntry). entry.guid) (filter p entries)
unfolding IsDistinct
sought_again p [] apart = refl
sought_again p (entry ∷ entries) apart = go (sought_again p entries apart.1) (p entry)
  where
    names : List ArrayEntry → List (List ℕ)
    names list = map (λ (one : ArrayEntry). one.guid) list

    skip : (guids : List (List ℕ)) → AllByRecursion (λ other. bytes_eq other entry.guid ≡ false) guids → (some : List (List ℕ))
        → AllByRecursion (λ guid. (bytes_eq guid entry.guid || list_any (λ other. bytes_eq guid other) some) ≡ list_any (λ other. bytes_eq guid other) some) guids
    skip [] all some = tt
    skip (guid ∷ guids) all some = (rw all.0 refl, skip guids all.1 some)

    go : filter (λ guid. list_any (λ other. bytes_eq guid other) (map (λ (one : ArrayEntry). one.guid) (filter p entries))) (map (λ (one : ArrayEntry). one.guid) entries) ≡ map (λ (one : ArrayEntry). one.guid) (filter p entries)
        → (b : Bool)
        → filter (λ guid. list_any (λ other. bytes_eq guid other) (map (λ (one : ArrayEntry). one.guid) (cond b (entry ∷ filter p entries) (filter p entries)))) (entry.guid ∷ map (λ (one : ArrayEntry). one.guid) entries)
        ≡ map (λ (one : ArrayEntry). one.guid) (cond b (entry ∷ filter p entries) (filter p entries))
    go later true =
        let here = bytes_same entry.guid in
        let some = map (λ (one : ArrayEntry). one.guid) (filter p entries) in
        let same = filter_same (λ guid. bytes_eq guid entry.guid || list_any (λ other. bytes_eq guid other) some) (λ guid. list_any (λ other. bytes_eq guid other) some) (map (λ (one : ArrayEntry). one.guid) entries)
        (skip (map (λ (one : ArrayEntry). one.guid) entries) (turned (map (λ (one : ArrayEntry). one.guid) entries) entry.guid apart.0) some) in
        rw here (ap (λ (l : List (List ℕ)). entry.guid ∷ l) (same ∙ later))
    go later false = let none = not_among entry.guid p entries apart.0 in rw none later

dedicated_are : (guids arrays : List (List ℕ)) → dedicated_or_not guids ≡ uses.Dedicated arrays → (guids ≡ arrays) × (arrays ≡ [] → ⊥)
dedicated_are [] arrays h = absurd cc
dedicated_are (guid ∷ guids) arrays h = let same : (guid ∷ guids) ≡ arrays = cc in (same, λ none. let got : (guid ∷ guids) ≡ [] = same ∙ none in absurd cc)

spare_is : (views : List View) (disk : DiskEntry) (arrays : List (List ℕ)) → spare_in views disk ≡ uses.Dedicated arrays
    → (map (λ (entry : ArrayEntry). entry.guid) (filter (is_dedicated views disk.reference) (arrays_in views)) ≡ arrays) × (arrays ≡ [] → ⊥)
unfolding spare_in
spare_is views disk arrays h = go (has_bit disk.kind.0 2) (has_bit disk.kind.0 3) h
  where
    go : (b third : Bool) → cond b (cond third uses.Revertible uses.Global) (dedicated_or_not (map (λ (entry : ArrayEntry). entry.guid) (filter (is_dedicated views disk.reference) (arrays_in views)))) ≡ uses.Dedicated arrays
        → (map (λ (entry : ArrayEntry). entry.guid) (filter (is_dedicated views disk.reference) (arrays_in views)) ≡ arrays) × (arrays ≡ [] → ⊥)
    go true true h = absurd cc
    go true false h = absurd cc
    go false third h = dedicated_are (map (λ (entry : ArrayEntry). entry.guid) (filter (is_dedicated views disk.reference) (arrays_in views))) arrays h

-- an array with a dedicated spare has an element that is there
dedicated_there : (most : ℕ) (disks : List DiskEntry) (views : List View) (reference : ℕ) (entry : ArrayEntry) → AllFit most (elements_in views) → is_dedicated views reference entry ≡ true
    → (e : ℕ) × (plan : ElementPlan) × (slice_get (map (element_in disks (elements_in views) entry.guid) (range_with_len 0 (count_in (elements_in views) entry.guid))) e ≡ Some (Some plan))
dedicated_there most disks views reference entry all h = go (is_associated (elements_in views) reference entry.guid) refl h
  where
    There : Type 0
    There = (e : ℕ) × (plan : ElementPlan) × (slice_get (map (element_in disks (elements_in views) entry.guid) (range_with_len 0 (count_in (elements_in views) entry.guid))) e ≡ Some (Some plan))

    by_name : (o : Option HeldRecord) → naming_record (elements_in views) entry.guid ≡ o → is_some o ≡ true → There
    by_name None e some = absurd (false≢true some)
    by_name (Some held) e some = naming_there most disks (elements_in views) entry.guid held all e

    go : (b : Bool) → is_associated (elements_in views) reference entry.guid ≡ b
        → (b || (not (are_noted views) && is_some (naming_record (elements_in views) entry.guid) && list_any (names_array reference entry.guid) views)) ≡ true → There
    go true e h =
        let some = any_place (λ held. list_any (λ spare. eqb spare reference) held.element.spares) (records_of (elements_in views) entry.guid) e in
        let from = filter_map_get (λ index. find_held entry.guid index (elements_in views)) (range_with_len 0 (count_in (elements_in views) entry.guid)) some.0 some.1 some.2 in
        let place = range_get 0 (count_in (elements_in views) entry.guid) from.0 from.1 from.2 in
        let there = element_there disks (elements_in views) entry.guid from.1 some.1 from.3 (omega (arith, place.0, place.1)) in
        (from.1, there.0, there.1)
    go false e h =
        let parts = and_parts (not (are_noted views) && is_some (naming_record (elements_in views) entry.guid)) (list_any (names_array reference entry.guid) views) h in
        let named = and_parts (not (are_noted views)) (is_some (naming_record (elements_in views) entry.guid)) parts.0 in
        by_name (naming_record (elements_in views) entry.guid) refl named.1

is_for : (array : List ℕ) (use_as : SpareUse) → is_spare_for array use_as ≡ true → (arrays : List (List ℕ)) × (use_as ≡ uses.Dedicated arrays) × (list_any (λ guid. bytes_eq array guid) arrays ≡ true)
is_for array uses.No h = absurd (false≢true h)
is_for array uses.Global h = absurd (false≢true h)
is_for array uses.Revertible h = absurd (false≢true h)
is_for array (uses.Dedicated arrays) h = (arrays, refl, h)

abbrev make_member : List View → DiskEntry → ℕ × Member
make_member views disk = (disk.reference, member_in views disk)

abbrev make_array : List DiskEntry → List HeldRecord → ArrayEntry → List ℕ × Array
make_array disks elements entry = (entry.guid, array_in disks elements entry)

-- an array of one GUID has the same elements
there_again : (disks : List DiskEntry) (elements : List HeldRecord) (array : ArrayEntry) (entry : List ℕ × Array) (guid : List ℕ) → make_array disks elements array ≡ entry → guid ≡ array.guid
    → (e : ℕ) (plan : ElementPlan) → slice_get (map (element_in disks elements guid) (range_with_len 0 (count_in elements guid))) e ≡ Some (Some plan) → slice_get entry.1.elements e ≡ Some (Some plan)
unfolding array_in
there_again disks elements array entry guid is same e plan there =
    let own : slice_get (make_array disks elements array).1.elements e ≡ Some (Some plan) =
    subst (λ (g : List ℕ). slice_get (map (element_in disks elements g) (range_with_len 0 (count_in elements g))) e ≡ Some (Some plan)) same there in
    subst (λ (x : List ℕ × Array). slice_get x.1.elements e ≡ Some (Some plan)) is own

pub read_spares : (most : ℕ) (group : List ℕ) (sequence : ℕ) (views : List View) → AllFit most (elements_in views) → AreDisks (disks_in views) → IsDistinct bytes_eq (map (λ (entry : ArrayEntry). entry.guid) (arrays_in views))
    → HasSpares (read group sequence views)
unfolding read array_in
read_spares most group sequence views all are apart =
    let elements = elements_in views in
    let disks = disks_in views in
    let member = make_member views in
    let make = make_array disks elements in
    let names = same_names make (λ (entry : ArrayEntry). entry.guid) (λ entry. refl) (arrays_in views) in
    record {
      apart = own_references (read group sequence views) (subst (λ (l : List ℕ). IsDistinct nat_eq l) (sym (same_names member (λ (disk : DiskEntry). disk.reference) (λ disk. refl) disks)) are.apart);
      named = λ i one at.
          let from = in_map member disks i one at in
          subst (λ (entry : ℕ × Member). eqb entry.0 no_reference ≡ false) from.2 (all_at (λ disk. eqb disk.reference no_reference ≡ false) disks i from.0 are.named from.1);
      listed = λ i one arrays at use_as.
          let from = in_map member disks i one at in
          let is = spare_is views from.0 arrays (ap (λ (entry : ℕ × Member). entry.1.spare) from.2 ∙ use_as) in
          let again = sought_again (is_dedicated views from.0.reference) (arrays_in views) apart in (
            subst (λ (l : List (List ℕ)). filter (λ guid. list_any (λ other. bytes_eq guid other) arrays) l ≡ arrays) (sym names)
                (subst (λ (l : List (List ℕ)). filter (λ guid. list_any (λ other. bytes_eq guid other) l) (map (λ (entry : ArrayEntry). entry.guid) (arrays_in views)) ≡ l) is.0 again),
            is.1,
          );
      held = λ i a one entry at there sought.
          let from = in_map member disks i one at in
          let array = in_map make (arrays_in views) a entry there in
          let for = is_for entry.0 one.1.spare sought in
          let is = spare_is views from.0 for.0 (ap (λ (x : ℕ × Member). x.1.spare) from.2 ∙ for.1) in
          let some = any_place (λ guid. bytes_eq entry.0 guid) for.0 for.2 in
          let listed = in_map (λ (one : ArrayEntry). one.guid) (filter (is_dedicated views from.0.reference) (arrays_in views)) some.0 some.1 (ap (λ (l : List (List ℕ)). slice_get l some.0) is.0 ∙ some.2) in
          let passes = kept_passes (is_dedicated views from.0.reference) (arrays_in views) some.0 listed.0 listed.1 in
          let found = dedicated_there most disks views from.0.reference listed.0 all passes in
          let guid : listed.0.guid ≡ entry.0 = listed.2 ∙ sym (same_bytes entry.0 some.1 some.3) in
          let own : array.0.guid ≡ entry.0 = ap (λ (x : List ℕ × Array). x.0) array.2 in
          (found.0, found.1, there_again disks elements array.0 entry listed.0.guid array.2 (guid ∙ sym own) found.0 found.1 found.2);
    }
