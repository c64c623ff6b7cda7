-- What records give of an element: by their notes, or by the states of the disks.
use Rattle.std.proofs.Common.{◌≡◌, ℕ, ◌+◌, ◌<◌, ◌||◌, ◌&&◌, not, Bool, true, false, List, [], ◌∷◌, map, Option, Some, None, is_some, refl, ap, sym, ◌∙◌, subst, arith}
use Rattle.std.proofs.lemmas.Bool.{and_parts}
use Rattle.std.specs.Prelude.{slice_get, nat_eq}
use Rattle.std.specs.Option.{option_map_or}
use Rattle.std.specs.List.{enumerate_from, list_all, range_with_len}
use Rattle.ddf_lemmas.proofs.Lists.{list_all_read, mapped_at}
use Rattle.ddf_tables.specs.declared.disks.DiskEntry.{DiskEntry}
use Rattle.ddf_tables.specs.declared.arrays.ArrayEntry.{ArrayEntry}
use Rattle.ddf_config_records.specs.ElementValue.{ElementValue}
use Rattle.ddf_config_records.specs.declared.notes.SlotNote.{SlotNote}
use Rattle.ddf_config_records.specs.declared.place.Place.{Place}
use Rattle.ddf_config.specs.ElementValue.{ElementValue as ElementPlan}
use Rattle.ddf_config.specs.declared.element.Position.{Position}
use Rattle.ddf_view.specs.Reading.{array_entry_in, array_in, arrays_in, count_in, disks_in, element_in, elements_in, is_good, plan_of, position_of, read, stand_in_of}
use Rattle.ddf_view.specs.Shows.{gives_element, gives_elements, gives_if_held, gives_numbers, same_plan, shows}
use Rattle.ddf_view.specs.View.{HeldRecord, View, find_disk, find_held, has_bit}
use Rattle.ddf_view.proofs.Agreement.{shown_from}
use Rattle.ddf_view.proofs.Finds.{list_all_at}
use Rattle.ddf_view.proofs.Shown.{plan_same, make_plan, make_position}
use Rattle.ddf_rewrite.proofs.Holdings.{AreSame}
use Rattle.ddf_rewrite.proofs.Lists.{get_range}
use Rattle.ddf_history_steps.proofs.MendingReading.{KeepsDisk}

-- ---- the plan of a record

-- Records with the same fields give one plan.
pub plan_alike : (disks : List DiskEntry) (given : Option SlotNote) (one other : ElementValue) → AreSame one other → plan_of disks given one ≡ plan_of disks given other
unfolding plan_of make_plan
plan_alike disks given one other same =
    let level = same.level in
    let qualifier = same.qualifier in
    let strip = same.strip in
    let blocks = same.blocks in
    let positions : map (λ pair. position_of disks given pair.0 pair.1) (enumerate_from 0 one.members) ≡ map (λ pair. position_of disks given pair.0 pair.1) (enumerate_from 0 other.members) =
    ap (λ (list : List Place). map (λ pair. position_of disks given pair.0 pair.1) (enumerate_from 0 list)) same.members in
    let made : make_plan one.level one.qualifier one.strip one.blocks (stand_in_of given) (map (λ pair. position_of disks given pair.0 pair.1) (enumerate_from 0 one.members))
    ≡ make_plan other.level other.qualifier other.strip other.blocks (stand_in_of given) (map (λ pair. position_of disks given pair.0 pair.1) (enumerate_from 0 other.members)) = rw (level, qualifier, strip, blocks, positions) refl in
    made

-- A disk is as good by an entry that is made of its own.
good_made : (made : DiskEntry → DiskEntry) → KeepsDisk made → (reference : ℕ) (disks : List DiskEntry) → option_map_or is_good (find_disk reference (map made disks)) false ≡ option_map_or is_good (find_disk reference disks) false
good_made made keeps reference [] = refl
good_made made keeps reference (disk ∷ disks) = go (good_made made keeps reference disks) (nat_eq disk.reference reference) refl
  where
    go : option_map_or is_good (find_disk reference (map made disks)) false ≡ option_map_or is_good (find_disk reference disks) false → (b : Bool) → nat_eq disk.reference reference ≡ b
        → option_map_or is_good (find_disk reference (map made (disk ∷ disks))) false ≡ option_map_or is_good (find_disk reference (disk ∷ disks)) false
    go rest true e =
        let here : nat_eq (made disk).reference reference ≡ true = ap (λ (n : ℕ). nat_eq n reference) (keeps.reference disk) ∙ e in
        rw (e, here) (ap (λ (n : ℕ). not (has_bit n 1 || has_bit n 6) && has_bit n 0 && not (has_bit n 2)) (keeps.state disk))
    go rest false e =
        let here : nat_eq (made disk).reference reference ≡ false = ap (λ (n : ℕ). nat_eq n reference) (keeps.reference disk) ∙ e in
        rw (e, here) rest

-- So each position is told alike.
positions_made : (made : DiskEntry → DiskEntry) → KeepsDisk made → (disks : List DiskEntry) (n : ℕ) (members : List Place)
    → map (λ pair. position_of (map made disks) None pair.0 pair.1) (enumerate_from n members) ≡ map (λ pair. position_of disks None pair.0 pair.1) (enumerate_from n members)
unfolding make_position
positions_made made keeps disks n [] = refl
positions_made made keeps disks n (place ∷ members) =
    let first : make_position place.reference place.start (option_map_or is_good (find_disk place.reference (map made disks)) false) 0 ≡ make_position place.reference place.start (option_map_or is_good (find_disk place.reference disks) false) 0 =
    ap (λ (b : Bool). make_position place.reference place.start b 0) (good_made made keeps place.reference disks) in
    ap (λ (p : Position). p ∷ map (λ pair. position_of (map made disks) None pair.0 pair.1) (enumerate_from (n + 1) members)) first
    ∙ ap (λ (list : List Position). make_position place.reference place.start (option_map_or is_good (find_disk place.reference disks) false) 0 ∷ list) (positions_made made keeps disks (n + 1) members)

-- Without a note a record gives one plan by the entries of the disks and by those that are made of them.
pub plan_made : (made : DiskEntry → DiskEntry) → KeepsDisk made → (disks : List DiskEntry) (element : ElementValue) → plan_of (map made disks) None element ≡ plan_of disks None element
unfolding plan_of make_plan
plan_made made keeps disks element =
    let same : make_plan element.level element.qualifier element.strip element.blocks 0 (map (λ pair. position_of (map made disks) None pair.0 pair.1) (enumerate_from 0 element.members))
    ≡ make_plan element.level element.qualifier element.strip element.blocks 0 (map (λ pair. position_of disks None pair.0 pair.1) (enumerate_from 0 element.members)) =
    ap (make_plan element.level element.qualifier element.strip element.blocks 0) (positions_made made keeps disks 0 element.members) in
    same

-- ---- what a view that shows the configuration notes

-- The plan of a record with a note is the configuration's.
pub noted_gives : (group : List ℕ) (sequence : ℕ) (views : List View) (view : View) → shows (read group sequence views) view ≡ true → (a : ℕ) (row : ArrayEntry) → slice_get (arrays_in views) a ≡ Some row → (i : ℕ) (plan : ElementPlan)
    → slice_get (array_in (disks_in views) (elements_in views) row).elements i ≡ Some (Some plan) → (held : HeldRecord) (given : SlotNote) → find_held row.guid i view.elements ≡ Some held → held.note ≡ Some given → plan_of [] (Some given) held.element ≡ plan
unfolding read
noted_gives group sequence views view h a row at i plan there held given found has =
    let entry = array_entry_in views row in
    let all = list_all_read (gives_elements view.elements) (map (array_entry_in views) (arrays_in views)) a entry (shown_from (read group sequence views) view h).elements (mapped_at (array_entry_in views) (arrays_in views) a row at) in
    let each = (and_parts (gives_numbers view.elements entry) (list_all (gives_if_held view.elements entry.0) (enumerate_from 0 entry.1.elements)) all).1 in
    let here : 0 + i ≡ i = omega arith in
    let one : gives_if_held view.elements row.guid (i, Some plan) ≡ true = subst (λ (n : ℕ). gives_if_held view.elements row.guid (n, Some plan) ≡ true) here (list_all_at (gives_if_held view.elements row.guid) 0 entry.1.elements i (Some plan) each there) in
    let gives : gives_element held (Some plan) ≡ true = sym (ap (λ (o : Option HeldRecord). option_map_or (λ (x : HeldRecord). gives_element x (Some plan)) o true) found) ∙ one in
    let noted : same_plan true (plan_of [] (Some given) held.element) plan ≡ true = sym (ap (λ (o : Option SlotNote). same_plan (is_some o) (plan_of [] o held.element) plan) has) ∙ gives in
    plan_same (plan_of [] (Some given) held.element) plan noted

-- An element of an array that is read, by its place.
pub element_at : (disks : List DiskEntry) (elements : List HeldRecord) (row : ArrayEntry) (i : ℕ) → i < count_in elements row.guid → slice_get (array_in disks elements row).elements i ≡ Some (element_in disks elements row.guid i)
unfolding array_in
element_at disks elements row i lt =
    let place = get_range 0 (count_in elements row.guid) i lt in
    let here : place.0 ≡ i = place.1 ∙ omega arith in
    mapped_at (element_in disks elements row.guid) (range_with_len 0 (count_in elements row.guid)) i place.0 place.2 ∙ ap (λ (n : ℕ). Some (element_in disks elements row.guid n)) here
