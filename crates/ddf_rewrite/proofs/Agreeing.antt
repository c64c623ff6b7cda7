-- The copies that a change gives two disks agree.
use Rattle.std.proofs.Common.{◌≡◌, ℕ, ◌+◌, Bool, true, false, not, eqb, List, [], ◌∷◌, map, Some, None, refl, ap, sym, ◌∙◌}
use Rattle.std.proofs.lemmas.Bool.{eq-eqb}
use Rattle.std.specs.Prelude.{slice_get, find}
use Rattle.std.specs.List.{enumerate_from}
use Rattle.std.specs.Str.{bytes_eq}
use Rattle.ddf_header.specs.declared.kind.Revision.{Revision}
use Rattle.ddf_tables.specs.declared.disks.DiskEntry.{DiskEntry}
use Rattle.ddf_tables.specs.declared.arrays.ArrayEntry.{ArrayEntry}
use Rattle.ddf_config_records.specs.ElementValue.{ElementValue}
use Rattle.ddf_copy.specs.declared.copy.DiskCopy.{DiskCopy}
use Rattle.std.specs.Option.{option_eq}
use Rattle.ddf_lemmas.proofs.Lists.{bytes_same}
use Rattle.ddf_config.specs.Configuration.{Configuration}
use Rattle.ddf_config.specs.ElementValue.{ElementValue as ElementPlan}
use Rattle.ddf_config.specs.declared.array.Array.{Array}
use Rattle.ddf_config.specs.declared.member.Member.{Member}
use Rattle.ddf_view.specs.Differ.{difference, element_differs, numbered_array, numbered_disk, same_array, same_disk, same_held, same_record, told_kind}
use Rattle.ddf_view.specs.Reading.{plan_of}
use Rattle.ddf_view.specs.Shows.{same_plan}
use Rattle.ddf_view.specs.View.{view_of}
use Rattle.ddf_rewrite.specs.Arrays.{array_on, arrays_after}
use Rattle.ddf_rewrite.specs.Before.{Before, leading_record}
use Rattle.ddf_rewrite.specs.Changing.{HasRoomFor}
use Rattle.ddf_rewrite.specs.Copies.{changed_copy, is_copied_on, own_record}
use Rattle.ddf_rewrite.specs.Disks.{block_size_of, changed_disks, disk_on, disks_for, member_entry}
use Rattle.ddf_rewrite.specs.Elements.{changed_record}
use Rattle.ddf_rewrite.specs.Notes.{note_of}
use Rattle.ddf_rewrite.specs.Readable.{AreRebuilt, HasOwnNames}
use Rattle.ddf_rewrite.specs.Wanted.{Wanted, all_wanted}
use Rattle.ddf_rewrite.proofs.Differences.{elements_alike, no_difference}
use Rattle.ddf_rewrite.proofs.Filled.{both_filled}
use Rattle.ddf_rewrite.proofs.Given.{plan_again}
use Rattle.ddf_rewrite.proofs.Changed.{record_found, none_found, disks_are, arrays_are}
use Rattle.ddf_rewrite.proofs.Holdings.{has_plan, record_planned, records_agree}
use Rattle.ddf_rewrite.proofs.Plans.{plan_noted}

-- ---- tables made alike

pub find_alike : {X Y : Type 0} (p : ℕ × Y → Bool) (same : ℕ × Y → ℕ × Y → Bool) (f g : X → Y) → ((n : ℕ) (x : X) → p (n, f x) ≡ p (n, g x)) → ((n : ℕ) (x : X) → same (n, f x) (n, g x) ≡ true)
    → (n : ℕ) (xs : List X) → option_eq same (find p (enumerate_from n (map f xs))) (find p (enumerate_from n (map g xs))) ≡ true
find_alike p same f g alike is n [] = refl
find_alike p same f g alike is n (x ∷ xs) = go (find_alike p same f g alike is (n + 1) xs) (p (n, f x)) refl
  where
    go : option_eq same (find p (enumerate_from (n + 1) (map f xs))) (find p (enumerate_from (n + 1) (map g xs))) ≡ true → (b : Bool) → p (n, f x) ≡ b → option_eq same (find p (enumerate_from n (map f (x ∷ xs)))) (find p (enumerate_from n (map g (x ∷ xs)))) ≡ true
    go rest true e = let other : p (n, g x) ≡ true = sym (alike n x) ∙ e in rw (e, other) (is n x)
    go rest false e = let other : p (n, g x) ≡ false = sym (alike n x) ∙ e in rw (e, other) rest

-- ---- disks

one_disk : (all : List Wanted) (disks own other : List DiskEntry) (size other_size : ℕ) (n : ℕ) (entry : ℕ × Member) → same_disk (n, disk_on own size (member_entry all disks entry)) (n, disk_on other other_size (member_entry all disks entry)) ≡ true
one_disk all disks own other size other_size n entry =
    let place : eqb n n ≡ true = eq-eqb n n refl in
    let guid = bytes_same entry.1.guid in
    let kind : eqb (told_kind (member_entry all disks entry)) (told_kind (member_entry all disks entry)) ≡ true = eq-eqb (told_kind (member_entry all disks entry)) (told_kind (member_entry all disks entry)) refl in
    let state : eqb (member_entry all disks entry).state.0 (member_entry all disks entry).state.0 ≡ true = eq-eqb (member_entry all disks entry).state.0 (member_entry all disks entry).state.0 refl in
    let long : eqb entry.1.size entry.1.size ≡ true = eq-eqb entry.1.size entry.1.size refl in
    rw (place, guid, kind, state, long) refl

disks_alike : (config : Configuration) (disks own other : List DiskEntry) (revision other_revision : Revision) (reference : ℕ)
    → option_eq same_disk (find (λ pair. eqb pair.1.reference reference) (enumerate_from 0 (changed_disks config disks revision own))) (find (λ pair. eqb pair.1.reference reference) (enumerate_from 0 (changed_disks config disks other_revision other))) ≡ true
unfolding changed_disks
disks_alike config disks own other revision other_revision reference =
    find_alike (λ pair. eqb pair.1.reference reference) same_disk (λ entry. disk_on own (block_size_of revision) (member_entry (all_wanted config) disks entry)) (λ entry. disk_on other (block_size_of other_revision) (member_entry (all_wanted config) disks entry))
    (λ n entry. refl) (λ n entry. one_disk (all_wanted config) disks own other (block_size_of revision) (block_size_of other_revision) n entry) 0 config.members

-- ---- arrays

one_array : (own other : List ArrayEntry) (n : ℕ) (entry : List ℕ × Array) → same_array (n, array_on own entry) (n, array_on other entry) ≡ true
one_array own other n entry =
    let place : eqb n n ≡ true = eq-eqb n n refl in
    let name = bytes_same entry.1.name in
    let number : eqb entry.1.number entry.1.number ≡ true = eq-eqb entry.1.number entry.1.number refl in
    let state : eqb entry.1.state entry.1.state ≡ true = eq-eqb entry.1.state entry.1.state refl in
    let init : eqb entry.1.init entry.1.init ≡ true = eq-eqb entry.1.init entry.1.init refl in
    rw (place, number, state, init, name) refl

pub arrays_alike : (config : Configuration) (own other : List ArrayEntry) (guid : List ℕ)
    → option_eq same_array (find (λ pair. bytes_eq pair.1.guid guid) (enumerate_from 0 (arrays_after config own))) (find (λ pair. bytes_eq pair.1.guid guid) (enumerate_from 0 (arrays_after config other))) ≡ true
unfolding arrays_after
arrays_alike config own other guid =
    find_alike (λ pair. bytes_eq pair.1.guid guid) same_array (λ entry. array_on own entry) (λ entry. array_on other entry)
    (λ n entry. refl) (λ n entry. one_array own other n entry) 0 config.arrays

-- ---- elements

-- two records of one element with one plan
pub held_alike : (plan : ElementPlan) (copied other_copied : Bool) (one other : ElementValue) → same_record one other ≡ true → plan_of [] (Some (note_of copied plan)) one ≡ plan → plan_of [] (Some (note_of other_copied plan)) other ≡ plan
    → same_held (record { element = one; note = Some (note_of copied plan) }) (record { element = other; note = Some (note_of other_copied plan) }) ≡ true
held_alike plan copied other_copied one other same first second =
    let plans : same_plan true (plan_of [] (Some (note_of copied plan)) one) (plan_of [] (Some (note_of other_copied plan)) other) ≡ true =
    ap (λ (p : ElementPlan). same_plan true p (plan_of [] (Some (note_of other_copied plan)) other)) first ∙ ap (λ (p : ElementPlan). same_plan true plan p) second ∙ plan_again plan in
    rw (same, plans) refl

changed_alike : (old other : DiskCopy) (leaders : Before) (config : Configuration) (timestamp : ℕ) → HasOwnNames config → AreRebuilt config
    → HasRoomFor old leaders config timestamp → HasRoomFor other leaders config timestamp → (n : ℕ) (wanted : Wanted) → slice_get (all_wanted config) n ≡ Some wanted
    → element_differs (view_of (changed_copy old leaders config timestamp)).elements (view_of (changed_copy other leaders config timestamp)).elements (wanted.guid, wanted.index) ≡ false
changed_alike old other leaders config timestamp names rebuilt room other_room n wanted at =
    let first = record_found old leaders config timestamp names room n wanted at in
    let second = record_found other leaders config timestamp names other_room n wanted at in
    let leader = leading_record leaders wanted.guid wanted.index in
    let element = changed_record config timestamp old.header.geometry old.header.revision (own_record old wanted) leader wanted in
    let other_element = changed_record config timestamp other.header.geometry other.header.revision (own_record other wanted) leader wanted in
    let plan = plan_noted (is_copied_on old.disk_data.reference wanted) wanted.plan element (rebuilt n wanted at)
    (has_plan wanted element (record_planned config timestamp old.header.geometry old.header.revision (own_record old wanted) leader wanted)) in
    let other_plan = plan_noted (is_copied_on other.disk_data.reference wanted) wanted.plan other_element (rebuilt n wanted at)
    (has_plan wanted other_element (record_planned config timestamp other.header.geometry other.header.revision (own_record other wanted) leader wanted)) in
    let same = records_agree config timestamp old.header.geometry other.header.geometry old.header.revision other.header.revision (own_record old wanted) (own_record other wanted) leader wanted in
    let held = held_alike wanted.plan (is_copied_on old.disk_data.reference wanted) (is_copied_on other.disk_data.reference wanted) element other_element same plan other_plan in
    rw (first, second, held) refl

-- What a change gives two disks agrees.
pub copies_agree : (old other : DiskCopy) (leaders : Before) (config : Configuration) (timestamp : ℕ) → HasOwnNames config → AreRebuilt config
    → HasRoomFor old leaders config timestamp → HasRoomFor other leaders config timestamp
    → difference (view_of (changed_copy old leaders config timestamp)) (view_of (changed_copy other leaders config timestamp)) ≡ None
copies_agree old other leaders config timestamp names rebuilt room other_room =
    let one = view_of (changed_copy old leaders config timestamp) in
    let two = view_of (changed_copy other leaders config timestamp) in
    let disks = disks_are old leaders config timestamp room in
    let other_disks = disks_are other leaders config timestamp other_room in
    let arrays = arrays_are old leaders config timestamp room in
    let other_arrays = arrays_are other leaders config timestamp other_room in
    no_difference one two (record {
      disks = λ reference.
          ap (λ (list : List DiskEntry). not (option_eq same_disk (find (λ pair. eqb pair.1.reference reference) (enumerate_from 0 list)) (numbered_disk reference two.disks))) disks
          ∙ ap (λ (list : List DiskEntry). not (option_eq same_disk (find (λ pair. eqb pair.1.reference reference) (enumerate_from 0 (disks_for old.header.revision true config (changed_disks config leaders.disks old.header.revision (view_of old).disks)))) (find (λ pair. eqb pair.1.reference reference) (enumerate_from 0 list)))) other_disks
          ∙ ap not (both_filled config old.header.revision other.header.revision true true (changed_disks config leaders.disks old.header.revision (view_of old).disks) (changed_disks config leaders.disks other.header.revision (view_of other).disks) reference)
          ∙ ap not (disks_alike config leaders.disks (view_of old).disks (view_of other).disks old.header.revision other.header.revision reference);
      arrays = λ guid.
          ap (λ (list : List ArrayEntry). not (option_eq same_array (find (λ pair. bytes_eq pair.1.guid guid) (enumerate_from 0 list)) (numbered_array guid two.arrays))) arrays
          ∙ ap (λ (list : List ArrayEntry). not (option_eq same_array (find (λ pair. bytes_eq pair.1.guid guid) (enumerate_from 0 (arrays_after config (view_of old).arrays))) (find (λ pair. bytes_eq pair.1.guid guid) (enumerate_from 0 list)))) other_arrays
          ∙ ap not (arrays_alike config (view_of old).arrays (view_of other).arrays guid);
      elements = elements_alike config one.elements two.elements (changed_alike old other leaders config timestamp names rebuilt room other_room) (none_found old leaders config timestamp names room);
    })
