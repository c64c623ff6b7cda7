-- Views that all show a configuration, the first of them fully, give it together.
use Rattle.std.proofs.Common.{◌≡◌, ℕ, ◌+◌, ◌<◌, Bool, true, false, ◌&&◌, ◌||◌, eqb, List, [], ◌∷◌, ◌++◌, length, map, Option, Some, None, refl, ap, sym, ◌∙◌, subst, arith}
use Rattle.std.proofs.lemmas.Bool.{and_parts, eqb-true, false≢true}
use Rattle.std.proofs.lemmas.List.Folds.{find-append}
use Rattle.std.specs.Prelude.{slice_get, filter_map, is_some, is_none, option_map}
use Rattle.std.specs.Option.{option_or, option_map_or}
use Rattle.std.specs.List.{AllByRecursion, enumerate_from, list_all, list_any, range_with_len}
use Rattle.std.specs.Str.{bytes_eq}
use Rattle.ddf_bytes.specs.Choices.{first_of}
use Rattle.ddf_tables.specs.declared.disks.DiskEntry.{DiskEntry}
use Rattle.ddf_tables.specs.declared.arrays.ArrayEntry.{ArrayEntry}
use Rattle.ddf_config_records.specs.declared.notes.SlotNote.{SlotNote}
use Rattle.ddf_config_records.proofs.Ranges.{first_found, none_first, each_none, made_all}
use Rattle.ddf_config.specs.declared.member.SpareUse.{SpareUse}
use Rattle.ddf_config.specs.declared.member.Member.{Member}
use Rattle.ddf_config.specs.ElementValue.{ElementValue as ElementPlan}
use Rattle.ddf_config.specs.declared.array.Array.{Array}
use Rattle.ddf_config.specs.Configuration.{Configuration}
use Rattle.std.specs.Cmp.Lexicographic.{pointwise}
use Rattle.ddf_lemmas.proofs.Lists.{all_both, all_weaken, some_at_place}
use Rattle.ddf_lemmas.proofs.Options.{none_from_is_none, some_from_is_some}
use Rattle.ddf_view.specs.View.{View, HeldRecord, is_element, is_missing, find_held, find_note}
use Rattle.ddf_view.specs.Reading.{elements_in, are_noted, plan_of, element_in, naming_record, count_in, secondary_in, array_in, records_of, is_associated, is_dedicated, dedicated_or_not, spare_in, spare_of_kind, member_in, read}
use Rattle.ddf_view.specs.Shows.{same_flag, same_plan, gives_member, gives_array, gives_element, gives_if_held, least_element, names_numbers, gives_numbers, gives_elements, shows, holds, holds_all, gives_spare, shows_fully}
use Rattle.ddf_view.specs.Readable.{IsReadable, AreReadable, HasNotes}
use Rattle.ddf_view.proofs.Tests.{same_bytes, and_four, and_five, each_passes, swap_all, map_matches, map_matches_both}
use Rattle.ddf_view.proofs.Shown.{flag_same, plan_same, spare_same}
use Rattle.ddf_view.proofs.Finds.{find_has, note_found, none_in_all, list_all_at, least_from, filter_same, filter_map_same, place_within}

-- ---- one element of one view

-- a record isn't held of an element that is None
none_held : (o : Option HeldRecord) → option_map_or (λ held. gives_element held None) o true ≡ true → o ≡ None
none_held None h = refl
none_held (Some held) h = absurd (false≢true h)

-- what a view tells of an array: its records give the elements
abbrev pub Gives : List ℕ × Array → View → Type 0
Gives entry view = gives_elements view.elements entry ≡ true

given_at : (entry : List ℕ × Array) (view : View) (i : ℕ) (plan : Option ElementPlan) → Gives entry view → slice_get entry.1.elements i ≡ Some plan → gives_if_held view.elements entry.0 (i, plan) ≡ true
given_at entry view i plan gives at =
    let parts = and_parts (gives_numbers view.elements entry) (list_all (gives_if_held view.elements entry.0) (enumerate_from 0 entry.1.elements)) gives in
    let here : 0 + i ≡ i = omega arith in
    subst (λ (n : ℕ). gives_if_held view.elements entry.0 (n, plan) ≡ true) here
    (list_all_at (gives_if_held view.elements entry.0) 0 entry.1.elements i plan parts.1 at)

none_at : (entry : List ℕ × Array) (view : View) (i : ℕ) → Gives entry view → slice_get entry.1.elements i ≡ Some None → find_held entry.0 i view.elements ≡ None
none_at entry view i gives at = none_held (find_held entry.0 i view.elements) (given_at entry view i None gives at)

-- ---- an element of all views

-- the first view holds each complete element
abbrev pub Holds : List ℕ × Array → View → Type 0
Holds entry view = holds_all view.elements entry ≡ true

held_at : (entry : List ℕ × Array) (view : View) (i : ℕ) (plan : Option ElementPlan) → Holds entry view → slice_get entry.1.elements i ≡ Some plan → holds view.elements entry.0 (i, plan) ≡ true
held_at entry view i plan has at =
    let here : 0 + i ≡ i = omega arith in
    subst (λ (n : ℕ). holds view.elements entry.0 (n, plan) ≡ true) here
    (list_all_at (holds view.elements entry.0) 0 entry.1.elements i plan has at)

append_first : (array : List ℕ) (i : ℕ) (xs ys : List HeldRecord) (held : HeldRecord) → find_held array i xs ≡ Some held → find_held array i (xs ++ ys) ≡ Some held
append_first array i xs ys held h = find-append (is_element array i) xs ys ∙ ap (λ o. option_or o (find_held array i ys)) h

append_second : (array : List ℕ) (i : ℕ) (xs ys : List HeldRecord) → find_held array i xs ≡ None → find_held array i ys ≡ None → find_held array i (xs ++ ys) ≡ None
append_second array i xs ys h k = find-append (is_element array i) xs ys ∙ ap (λ o. option_or o (find_held array i ys)) h ∙ k

-- the same record is found in all views as in the first
same_held : (entry : List ℕ × Array) (view : View) (views : List View) → Gives entry view → Holds entry view → AllByRecursion (Gives entry) views
    → (i : ℕ) (plan : Option ElementPlan) → slice_get entry.1.elements i ≡ Some plan → find_held entry.0 i (elements_in (view ∷ views)) ≡ find_held entry.0 i view.elements
same_held entry view views gives has others i plan at = go (find_held entry.0 i view.elements) refl plan at
  where
    go : (o : Option HeldRecord) → find_held entry.0 i view.elements ≡ o → (plan : Option ElementPlan) → slice_get entry.1.elements i ≡ Some plan → find_held entry.0 i (elements_in (view ∷ views)) ≡ find_held entry.0 i view.elements
    go (Some held) e plan at = append_first entry.0 i view.elements (elements_in views) held e ∙ sym e
    go None e None at =
        let all = all_weaken (Gives entry) (λ one. find_held entry.0 i one.elements ≡ None) (λ one given. none_at entry one i given at) views others in
        append_second entry.0 i view.elements (elements_in views) e (none_in_all entry.0 i views all) ∙ sym e
    go None e (Some plan) at =
        let there : is_some (find_held entry.0 i view.elements) ≡ true = held_at entry view i (Some plan) has at in
        absurd (false≢true (ap is_some (sym e) ∙ there))

-- ---- how many elements there are

-- the record that names the numbers, in all views as in the first
pub record IsNamed (entry : List ℕ × Array) (elements : List HeldRecord) : Type 0 where
  pub count : count_in elements entry.0 ≡ length entry.1.elements
  pub level : secondary_in elements entry.0 ≡ entry.1.secondary

named_by : (entry : List ℕ × Array) (elements : List HeldRecord) (held : HeldRecord) → naming_record elements entry.0 ≡ Some held → held.element.elements ≡ length entry.1.elements → held.element.secondary ≡ entry.1.secondary → IsNamed entry elements
named_by entry elements held h count level = record {
  count = ap (λ o. option_map_or (λ (one : HeldRecord). one.element.elements) o 1) h ∙ count;
  level = ap (λ o. option_map_or (λ (one : HeldRecord). one.element.secondary) o 0) h ∙ level;
}

named_by_none : (entry : List ℕ × Array) (elements : List HeldRecord) → naming_record elements entry.0 ≡ None → entry.1.elements ≡ None ∷ [] → entry.1.secondary ≡ 0 → IsNamed entry elements
named_by_none entry elements h alone plain = record {
  count = ap (λ o. option_map_or (λ (one : HeldRecord). one.element.elements) o 1) h ∙ sym (ap (λ (plans : List (Option ElementPlan)). length plans) alone);
  level = ap (λ o. option_map_or (λ (one : HeldRecord). one.element.secondary) o 0) h ∙ sym plain;
}

numbers_of : (entry : List ℕ × Array) (view : View) (pair : ℕ × Option ElementPlan) → Gives entry view → least_element entry.1.elements ≡ Some pair → names_numbers view.elements entry pair ≡ true
numbers_of entry view pair gives least =
    let parts = and_parts (gives_numbers view.elements entry) (list_all (gives_if_held view.elements entry.0) (enumerate_from 0 entry.1.elements)) gives in
    rw least at parts.0

no_records : (entry : List ℕ × Array) (view : View) → Gives entry view → least_element entry.1.elements ≡ None → naming_record view.elements entry.0 ≡ None
no_records entry view gives least =
    let parts = and_parts (gives_numbers view.elements entry) (list_all (gives_if_held view.elements entry.0) (enumerate_from 0 entry.1.elements)) gives in
    let none : is_none (naming_record view.elements entry.0) ≡ true = rw least at parts.0 in
    none_from_is_none (naming_record view.elements entry.0) none

record_is : (elements : List HeldRecord) (array : List ℕ) → naming_record elements array ≡ first_of (map (λ index. find_held array index elements) (range_with_len 0 16))
unfolding naming_record
record_is elements array = refl

not_none : (plan : Option ElementPlan) (b : Bool) → is_some plan ≡ true → (is_none plan || b) ≡ true → b ≡ true
not_none None b h k = absurd (false≢true h)
not_none (Some plan) b h k = k

named_some : (entry : List ℕ × Array) (view : View) (views : List View) → IsReadable entry.1 → Gives entry view → Holds entry view → AllByRecursion (Gives entry) views
    → (pair : ℕ × Option ElementPlan) → least_element entry.1.elements ≡ Some pair → IsNamed entry (elements_in (view ∷ views))
named_some entry view views can gives has others pair least =
    let found = least_from 0 entry.1.elements pair least in
    let j = found.0 in
    let is = found.1 in
    let within : j < 16 = omega (arith, place_within entry.1.elements j pair.1 is.at, can.few) in
    let place : pair.0 ≡ j = is.place ∙ omega arith in
    let there = some_from_is_some (find_held entry.0 j view.elements) (not_none pair.1 (is_some (find_held entry.0 j view.elements)) is.there (held_at entry view j pair.1 has is.at)) in
    let held = there.0 in
    let all = elements_in (view ∷ views) in
    let here : find_held entry.0 j all ≡ Some held = same_held entry view views gives has others j pair.1 is.at ∙ there.1 in
    let before = none_first (λ i. find_held entry.0 i all) j (λ i lt. same_held entry view views gives has others i None (is.others i lt) ∙ none_at entry view i gives (is.others i lt)) in
    let record_there : naming_record all entry.0 ≡ Some held = record_is all entry.0 ∙ first_found (λ i. find_held entry.0 i all) j 16 held before within here in
    let numbers = numbers_of entry view pair gives least in
    let found_there : find_held entry.0 pair.0 view.elements ≡ Some held = ap (λ (i : ℕ). find_held entry.0 i view.elements) place ∙ there.1 in
    let both : (eqb held.element.elements (length entry.1.elements) && eqb held.element.secondary entry.1.secondary) ≡ true = rw found_there at numbers in
    let parts = and_parts (eqb held.element.elements (length entry.1.elements)) (eqb held.element.secondary entry.1.secondary) both in
    named_by entry all held record_there (eqb-true held.element.elements (length entry.1.elements) parts.0) (eqb-true held.element.secondary entry.1.secondary parts.1)

none_below : (entry : List ℕ × Array) (view : View) → Gives entry view → least_element entry.1.elements ≡ None → (i : ℕ) → i < 16 → find_held entry.0 i view.elements ≡ None
none_below entry view gives least i lt =
    each_none (λ i. find_held entry.0 i view.elements) 16 (sym (record_is view.elements entry.0) ∙ no_records entry view gives least) i lt

named_none : (entry : List ℕ × Array) (view : View) (views : List View) → IsReadable entry.1 → Gives entry view → AllByRecursion (Gives entry) views
    → least_element entry.1.elements ≡ None → IsNamed entry (elements_in (view ∷ views))
named_none entry view views can gives others least =
    let all = elements_in (view ∷ views) in
    let none = none_first (λ i. find_held entry.0 i all) 16 (λ i lt.
    append_second entry.0 i view.elements (elements_in views) (none_below entry view gives least i lt)
    (none_in_all entry.0 i views (all_weaken (Gives entry) (λ one. find_held entry.0 i one.elements ≡ None) (λ one given. none_below entry one given least i lt) views others))) in
    named_by_none entry all (record_is all entry.0 ∙ none) (can.alone least) (can.plain least)

named : (entry : List ℕ × Array) (view : View) (views : List View) → IsReadable entry.1 → Gives entry view → Holds entry view → AllByRecursion (Gives entry) views → IsNamed entry (elements_in (view ∷ views))
named entry view views can gives has others = go (least_element entry.1.elements) refl
  where
    go : (o : Option (ℕ × Option ElementPlan)) → least_element entry.1.elements ≡ o → IsNamed entry (elements_in (view ∷ views))
    go (Some pair) e = named_some entry view views can gives has others pair e
    go None e = named_none entry view views can gives others e

-- ---- the elements of an array

-- with a note the states of the disks don't count
plan_noted : (disks : List DiskEntry) (note : SlotNote) (held : HeldRecord) → held.note ≡ Some note → (plan : ElementPlan) → gives_element held (Some plan) ≡ true → plan_of disks (Some note) held.element ≡ plan
unfolding plan_of
plan_noted disks note held has plan gives =
    let same : same_plan true (plan_of [] (Some note) held.element) plan ≡ true = rw has at gives in
    plan_same (plan_of [] (Some note) held.element) plan same

element_read : (disks : List DiskEntry) (entry : List ℕ × Array) (view : View) (views : List View) → HasNotes view → Gives entry view → Holds entry view → AllByRecursion (Gives entry) views
    → (i : ℕ) (plan : Option ElementPlan) → slice_get entry.1.elements i ≡ Some plan → element_in disks (elements_in (view ∷ views)) entry.0 i ≡ plan
element_read disks entry view views noted gives has others i None at =
    let none = same_held entry view views gives has others i None at ∙ none_at entry view i gives at in
    ap (λ o. option_map (λ held. plan_of disks (find_note entry.0 i (elements_in (view ∷ views))) held.element) o) none
element_read disks entry view views noted gives has others i (Some plan) at =
    let all = elements_in (view ∷ views) in
    let there = some_from_is_some (find_held entry.0 i view.elements) (held_at entry view i (Some plan) has at) in
    let held = there.0 in
    let note = some_from_is_some held.note (find_has (λ one. is_some one.note ≡ true) (is_element entry.0 i) view.elements held noted there.1) in
    let found : find_held entry.0 i all ≡ Some held = same_held entry view views gives has others i (Some plan) at ∙ there.1 in
    let noted_is : find_note entry.0 i all ≡ Some note.0 = note_found entry.0 i view.elements (elements_in views) held note.0 there.1 note.1 in
    let given : gives_element held (Some plan) ≡ true = rw there.1 at (given_at entry view i (Some plan) gives at) in
    let is : plan_of disks (Some note.0) held.element ≡ plan = plan_noted disks note.0 held note.1 plan given in
    ap (λ o. option_map (λ (one : HeldRecord). plan_of disks (find_note entry.0 i all) one.element) o) found
    ∙ ap (λ o. Some (plan_of disks o held.element)) noted_is
    ∙ ap (λ (p : ElementPlan). Some p) is

unfoldable pub make_array : (name : List ℕ) (number secondary : ℕ) (elements : List (Option ElementPlan)) (state init : ℕ) → Array
make_array name number secondary elements state init = record { name = name; number = number; secondary = secondary; elements = elements; state = state; init = init }

make_pair : List ℕ → Array → List ℕ × Array
make_pair guid array = (guid, array)

array_read : (disks : List DiskEntry) (entry : List ℕ × Array) (view : View) (views : List View) (row : ArrayEntry) → HasNotes view → IsReadable entry.1 → Gives entry view → Holds entry view → AllByRecursion (Gives entry) views
    → gives_array row entry ≡ true → make_pair row.guid (array_in disks (elements_in (view ∷ views)) row) ≡ entry
unfolding array_in make_array make_pair
array_read disks entry view views row noted can gives has others is =
    let all = elements_in (view ∷ views) in
    let parts = and_five (bytes_eq row.guid entry.0) (bytes_eq row.name entry.1.name) (eqb row.number entry.1.number) (eqb row.state entry.1.state) (eqb row.init entry.1.init) is in
    let guid : row.guid ≡ entry.0 = same_bytes row.guid entry.0 parts.0 in
    let name : row.name ≡ entry.1.name = same_bytes row.name entry.1.name parts.1 in
    let number : row.number ≡ entry.1.number = eqb-true row.number entry.1.number parts.2 in
    let state : row.state ≡ entry.1.state = eqb-true row.state entry.1.state parts.3 in
    let init : row.init ≡ entry.1.init = eqb-true row.init entry.1.init parts.4 in
    let numbers = named entry view views can gives has others in
    let elements : map (element_in disks all row.guid) (range_with_len 0 (count_in all row.guid)) ≡ entry.1.elements =
    ap (λ (g : List ℕ). map (element_in disks all g) (range_with_len 0 (count_in all g))) guid
    ∙ ap (λ (n : ℕ). map (element_in disks all entry.0) (range_with_len 0 n)) numbers.count
    ∙ made_all (element_in disks all entry.0) entry.1.elements (λ i plan at. element_read disks entry view views noted gives has others i plan at) in
    let level : secondary_in all row.guid ≡ entry.1.secondary = ap (λ (g : List ℕ). secondary_in all g) guid ∙ numbers.level in
    let made : make_pair row.guid (make_array row.name row.number (secondary_in all row.guid) (map (element_in disks all row.guid) (range_with_len 0 (count_in all row.guid))) row.state row.init)
    ≡ make_pair entry.0 (make_array entry.1.name entry.1.number entry.1.secondary entry.1.elements entry.1.state entry.1.init)
    = ap (λ (g : List ℕ). make_pair g (make_array row.name row.number (secondary_in all row.guid) (map (element_in disks all row.guid) (range_with_len 0 (count_in all row.guid))) row.state row.init)) guid
    ∙ ap (λ (x : List ℕ). make_pair entry.0 (make_array x row.number (secondary_in all row.guid) (map (element_in disks all row.guid) (range_with_len 0 (count_in all row.guid))) row.state row.init)) name
    ∙ ap (λ (x : ℕ). make_pair entry.0 (make_array entry.1.name x (secondary_in all row.guid) (map (element_in disks all row.guid) (range_with_len 0 (count_in all row.guid))) row.state row.init)) number
    ∙ ap (λ (x : ℕ). make_pair entry.0 (make_array entry.1.name entry.1.number x (map (element_in disks all row.guid) (range_with_len 0 (count_in all row.guid))) row.state row.init)) level
    ∙ ap (λ (x : List (Option ElementPlan)). make_pair entry.0 (make_array entry.1.name entry.1.number entry.1.secondary x row.state row.init)) elements
    ∙ ap (λ (x : ℕ). make_pair entry.0 (make_array entry.1.name entry.1.number entry.1.secondary entry.1.elements x row.init)) state
    ∙ ap (λ (x : ℕ). make_pair entry.0 (make_array entry.1.name entry.1.number entry.1.secondary entry.1.elements entry.1.state x)) init in
    made

-- ---- the spares

pub records_read : (entry : List ℕ × Array) (view : View) (views : List View) → IsReadable entry.1 → Gives entry view → Holds entry view → AllByRecursion (Gives entry) views
    → records_of (elements_in (view ∷ views)) entry.0 ≡ filter_map (λ i. find_held entry.0 i view.elements) (range_with_len 0 (length entry.1.elements))
records_read entry view views can gives has others =
    let all = elements_in (view ∷ views) in
    let numbers = named entry view views can gives has others in
    ap (λ (n : ℕ). filter_map (λ i. find_held entry.0 i all) (range_with_len 0 n)) numbers.count
    ∙ filter_map_same (λ i. find_held entry.0 i all) (λ i. find_held entry.0 i view.elements) (length entry.1.elements)
    (λ i lt. let there = some_at_place entry.1.elements i lt in same_held entry view views gives has others i there.0 there.1)

-- the same records in all views as in the first alone
records_same : (entry : List ℕ × Array) (view : View) (views : List View) → IsReadable entry.1 → Gives entry view → Holds entry view → AllByRecursion (Gives entry) views
    → records_of (elements_in (view ∷ views)) entry.0 ≡ records_of (elements_in (view ∷ [])) entry.0
records_same entry view views can gives has others = records_read entry view views can gives has others ∙ sym (records_read entry view [] can gives has tt)

pub dedicated_noted : (views : List View) (reference : ℕ) (row : ArrayEntry) → are_noted views ≡ true → is_dedicated views reference row ≡ (is_associated (elements_in views) reference row.guid || false)
dedicated_noted views reference row noted = rw noted refl

dedicated_same : (entry : List ℕ × Array) (view : View) (views : List View) (reference : ℕ) (row : ArrayEntry) → view.noted ≡ true → IsReadable entry.1 → Gives entry view → Holds entry view → AllByRecursion (Gives entry) views
    → gives_array row entry ≡ true → is_dedicated (view ∷ views) reference row ≡ is_dedicated (view ∷ []) reference row
dedicated_same entry view views reference row noted can gives has others is =
    let parts = and_five (bytes_eq row.guid entry.0) (bytes_eq row.name entry.1.name) (eqb row.number entry.1.number) (eqb row.state entry.1.state) (eqb row.init entry.1.init) is in
    let guid : row.guid ≡ entry.0 = same_bytes row.guid entry.0 parts.0 in
    let some_noted : are_noted (view ∷ views) ≡ true = rw noted refl in
    let one_noted : are_noted (view ∷ []) ≡ true = rw noted refl in
    let records : records_of (elements_in (view ∷ views)) row.guid ≡ records_of (elements_in (view ∷ [])) row.guid =
    ap (λ (g : List ℕ). records_of (elements_in (view ∷ views)) g) guid ∙ records_same entry view views can gives has others
    ∙ sym (ap (λ (g : List ℕ). records_of (elements_in (view ∷ [])) g) guid) in
    dedicated_noted (view ∷ views) reference row some_noted
    ∙ ap (λ (held : List HeldRecord). list_any (λ one. list_any (λ spare. eqb spare reference) one.element.spares) held || false) records
    ∙ sym (dedicated_noted (view ∷ []) reference row one_noted)

each_first : {X Y : Type 0} (m : X → Y → Bool) (P : Y → Type 0) (Q : X → Type 0) → ((x : X) (y : Y) → m x y ≡ true → P y → Q x) → (xs : List X) (ys : List Y) → pointwise m xs ys ≡ true → AllByRecursion P ys → AllByRecursion Q xs
each_first m P Q f [] [] h all = tt
each_first m P Q f [] (y ∷ ys) h all = tt
each_first m P Q f (x ∷ xs) [] h all = absurd (false≢true h)
each_first m P Q f (x ∷ xs) (y ∷ ys) h all =
    let parts = and_parts (m x y) (pointwise m xs ys) h in
    (f x y parts.0 all.0, each_first m P Q f xs ys parts.1 all.1)

-- ---- all of it

-- what the views tell of an array of the configuration
pub record AreTold (view : View) (views : List View) (entry : List ℕ × Array) : Type 0 where
  pub can : IsReadable entry.1
  pub gives : Gives entry view
  pub has : Holds entry view
  pub others : AllByRecursion (Gives entry) views

spare_read : (config : Configuration) (view : View) (views : List View) (disk : DiskEntry) → view.noted ≡ true → pointwise gives_array view.arrays config.arrays ≡ true → AllByRecursion (AreTold view views) config.arrays
    → spare_in (view ∷ views) disk ≡ spare_in (view ∷ []) disk
unfolding spare_in
spare_read config view views disk noted arrays told =
    let same = filter_same (is_dedicated (view ∷ views) disk.reference) (is_dedicated (view ∷ []) disk.reference) view.arrays
    (each_first gives_array (AreTold view views) (λ row. is_dedicated (view ∷ views) disk.reference row ≡ is_dedicated (view ∷ []) disk.reference row)
    (λ row entry is tells. dedicated_same entry view views disk.reference row noted tells.can tells.gives tells.has tells.others is) view.arrays config.arrays arrays told) in
    ap (λ (rows : List ArrayEntry). spare_of_kind disk.kind.0 (dedicated_or_not (map (λ row. row.guid) rows))) same

unfoldable pub make_member : (guid : List ℕ) (size : ℕ) (missing : Bool) (spare : SpareUse) → Member
make_member guid size missing spare = record { guid = guid; size = size; missing = missing; spare = spare }

make_entry : ℕ → Member → ℕ × Member
make_entry reference member = (reference, member)

member_read : (config : Configuration) (view : View) (views : List View) → view.noted ≡ true → pointwise gives_array view.arrays config.arrays ≡ true → AllByRecursion (AreTold view views) config.arrays
    → (disk : DiskEntry) (entry : ℕ × Member) → gives_member disk entry ≡ true → gives_spare view disk entry ≡ true → make_entry disk.reference (member_in (view ∷ views) disk) ≡ entry
unfolding make_member make_entry
member_read config view views noted arrays told disk entry is spare =
    let parts = and_four (eqb disk.reference entry.0) (bytes_eq disk.guid entry.1.guid) (eqb disk.size entry.1.size) (same_flag (is_missing disk) entry.1.missing) is in
    let reference : disk.reference ≡ entry.0 = eqb-true disk.reference entry.0 parts.0 in
    let guid : disk.guid ≡ entry.1.guid = same_bytes disk.guid entry.1.guid parts.1 in
    let size : disk.size ≡ entry.1.size = eqb-true disk.size entry.1.size parts.2 in
    let missing : is_missing disk ≡ entry.1.missing = flag_same (is_missing disk) entry.1.missing parts.3 in
    let use_ : spare_in (view ∷ views) disk ≡ entry.1.spare = spare_read config view views disk noted arrays told ∙ spare_same (spare_in (view ∷ []) disk) entry.1.spare spare in
    let made : make_entry disk.reference (make_member disk.guid disk.size (is_missing disk) (spare_in (view ∷ views) disk)) ≡ make_entry entry.0 (make_member entry.1.guid entry.1.size entry.1.missing entry.1.spare)
    = ap (λ (x : ℕ). make_entry x (make_member disk.guid disk.size (is_missing disk) (spare_in (view ∷ views) disk))) reference
    ∙ ap (λ (x : List ℕ). make_entry entry.0 (make_member x disk.size (is_missing disk) (spare_in (view ∷ views) disk))) guid
    ∙ ap (λ (x : ℕ). make_entry entry.0 (make_member entry.1.guid x (is_missing disk) (spare_in (view ∷ views) disk))) size
    ∙ ap (λ (x : Bool). make_entry entry.0 (make_member entry.1.guid entry.1.size x (spare_in (view ∷ views) disk))) missing
    ∙ ap (λ (x : SpareUse). make_entry entry.0 (make_member entry.1.guid entry.1.size entry.1.missing x)) use_ in
    made

-- the parts of what a view shows
pub record IsShown (config : Configuration) (view : View) : Type 0 where
  pub sequence : view.sequence ≡ config.sequence
  pub group : view.group ≡ config.group
  pub members : pointwise gives_member view.disks config.members ≡ true
  pub arrays : pointwise gives_array view.arrays config.arrays ≡ true
  pub elements : list_all (gives_elements view.elements) config.arrays ≡ true

pub shown_from : (config : Configuration) (view : View) → shows config view ≡ true → IsShown config view
unfolding shows
shown_from config view h =
    let parts = and_five (eqb view.sequence config.sequence) (bytes_eq view.group config.group) (pointwise gives_member view.disks config.members) (pointwise gives_array view.arrays config.arrays)
    (list_all (gives_elements view.elements) config.arrays) h in
    record { sequence = eqb-true view.sequence config.sequence parts.0; group = same_bytes view.group config.group parts.1; members = parts.2; arrays = parts.3; elements = parts.4 }

pub record IsFully (config : Configuration) (view : View) : Type 0 where
  pub shown : shows config view ≡ true
  pub noted : view.noted ≡ true
  pub holds : list_all (holds_all view.elements) config.arrays ≡ true
  pub spares : pointwise (gives_spare view) view.disks config.members ≡ true

pub fully_from : (config : Configuration) (view : View) → shows_fully config view ≡ true → IsFully config view
unfolding shows_fully
fully_from config view h =
    let parts = and_four (shows config view) view.noted (list_all (holds_all view.elements) config.arrays) (pointwise (gives_spare view) view.disks config.members) h in
    record { shown = parts.0; noted = parts.1; holds = parts.2; spares = parts.3 }

told_from : (config : Configuration) (view : View) (views : List View) → AreReadable config → IsFully config view → AllByRecursion (λ one. shows config one ≡ true) views → AllByRecursion (AreTold view views) config.arrays
told_from config view views can fully others =
    let gives = each_passes (gives_elements view.elements) config.arrays (shown_from config view fully.shown).elements in
    let has = each_passes (holds_all view.elements) config.arrays fully.holds in
    let each = all_weaken (λ one. shows config one ≡ true) (λ one. AllByRecursion (λ entry. Gives entry one) config.arrays)
    (λ one shown. each_passes (gives_elements one.elements) config.arrays (shown_from config one shown).elements) views others in
    let rest = swap_all (λ one entry. Gives entry one) views config.arrays each in
    let three = all_both (λ entry. Gives entry view × Holds entry view) (λ entry. AllByRecursion (λ one. Gives entry one) views) config.arrays
    (all_both (λ entry. Gives entry view) (λ entry. Holds entry view) config.arrays gives has) rest in
    all_weaken (λ entry. IsReadable entry.1 × ((Gives entry view × Holds entry view) × AllByRecursion (λ one. Gives entry one) views)) (AreTold view views)
    (λ entry h. record { can = h.0; gives = h.1.0.0; has = h.1.0.1; others = h.1.1 }) config.arrays
    (all_both (λ entry. IsReadable entry.1) (λ entry. (Gives entry view × Holds entry view) × AllByRecursion (λ one. Gives entry one) views) config.arrays can three)

unfoldable pub make_config : (group : List ℕ) (sequence : ℕ) (members : List (ℕ × Member)) (arrays : List (List ℕ × Array)) → Configuration
make_config group sequence members arrays = record { group = group; sequence = sequence; members = members; arrays = arrays }

-- Views of which the first shows a configuration fully, and the others show it, give it together.
pub read_together : (config : Configuration) (view : View) (views : List View) → AreReadable config → HasNotes view → shows_fully config view ≡ true → AllByRecursion (λ one. shows config one ≡ true) views
    → read config.group config.sequence (view ∷ views) ≡ config
unfolding read make_config make_entry make_pair
read_together config view views can noted h others =
    let fully = fully_from config view h in
    let shown = shown_from config view fully.shown in
    let told = told_from config view views can fully others in
    let members : map (λ disk. make_entry disk.reference (member_in (view ∷ views) disk)) view.disks ≡ config.members =
    map_matches_both gives_member (gives_spare view) (λ disk. make_entry disk.reference (member_in (view ∷ views) disk))
    (λ disk entry is spare. member_read config view views fully.noted shown.arrays told disk entry is spare) view.disks config.members shown.members fully.spares in
    let arrays : map (λ row. make_pair row.guid (array_in view.disks (elements_in (view ∷ views)) row)) view.arrays ≡ config.arrays =
    map_matches gives_array (AreTold view views) (λ row. make_pair row.guid (array_in view.disks (elements_in (view ∷ views)) row))
    (λ row entry is tells. array_read view.disks entry view views row noted tells.can tells.gives tells.has tells.others is) view.arrays config.arrays shown.arrays told in
    let made : make_config config.group config.sequence (map (λ disk. make_entry disk.reference (member_in (view ∷ views) disk)) view.disks) (map (λ row. make_pair row.guid (array_in view.disks (elements_in (view ∷ views)) row)) view.arrays)
    ≡ make_config config.group config.sequence config.members config.arrays = rw (members, arrays) refl in
    made
