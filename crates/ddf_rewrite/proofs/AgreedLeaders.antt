-- The copy that a recovery gives a disk agrees with each leader, where these agree with one another.
use Rattle.std.proofs.Common.{◌≡◌, ℕ, inl, inr, Bool, true, false, not, eqb, List, [], ◌∷◌, map, Option, Some, None, refl, ap, sym, ◌∙◌, subst}
use Rattle.std.proofs.lemmas.Bool.{and_from, and_parts, cases_order, not-false}
use Rattle.std.proofs.lemmas.Simd.{map-map}
use Rattle.std.specs.Prelude.{slice_get, option_map}
use Rattle.std.specs.Option.{option_eq}
use Rattle.std.specs.List.{AllByRecursion, enumerate_from}
use Rattle.std.specs.Int.{w16}
use Rattle.std.specs.Str.{bytes_eq}
use Rattle.ddf_lemmas.proofs.Lists.{mapped_at}
use Rattle.ddf_bytes.specs.Bytes.{number_at}
use Rattle.ddf_tables.specs.declared.disks.DiskEntry.{DiskEntry}
use Rattle.ddf_tables.specs.declared.arrays.ArrayEntry.{ArrayEntry}
use Rattle.ddf_tables.specs.declared.layout.TheConstants.{DISK_BLOCK_SIZE_AT}
use Rattle.ddf_config_records.specs.ElementValue.{ElementValue}
use Rattle.ddf_config_records.specs.declared.notes.SlotNote.{SlotNote}
use Rattle.ddf_config_records.specs.declared.place.Place.{Place}
use Rattle.ddf_copy.specs.declared.copy.DiskCopy.{DiskCopy}
use Rattle.ddf_copy.specs.Written.{CanBeCopy}
use Rattle.ddf_config.specs.Configuration.{Configuration}
use Rattle.ddf_config.specs.ElementValue.{ElementValue as ElementPlan}
use Rattle.ddf_view.specs.Differ.{difference, element_differs, held_differ, numbered_array, numbered_disk, same_array, same_disk, same_held, same_notes, same_record}
use Rattle.ddf_view.specs.Reading.{array_in, arrays_in, disks_in, elements_in, plan_of, position_of, read, stand_in_of}
use Rattle.ddf_view.specs.Shows.{same_plan}
use Rattle.ddf_view.specs.View.{HeldRecord, View, find_held, find_note, view_of}
use Rattle.ddf_view.proofs.Shown.{plan_same, make_plan}
use Rattle.ddf_view.proofs.Common.{plan_anywhere}
use Rattle.ddf_rewrite.specs.Arrays.{array_on, arrays_after}
use Rattle.ddf_rewrite.specs.Before.{before}
use Rattle.ddf_rewrite.specs.Copies.{own_record, recovered_copy, recovered_holding}
use Rattle.ddf_rewrite.specs.Disks.{disk_on, recovered_disks}
use Rattle.ddf_rewrite.specs.Hold.{CanBeRecovered, DoAgree}
use Rattle.ddf_rewrite.specs.Notes.{Holding}
use Rattle.ddf_rewrite.specs.Readable.{OneRebuilt}
use Rattle.ddf_rewrite.specs.Wanted.{Wanted, all_wanted}
use Rattle.ddf_rewrite.proofs.After.{note_if}
use Rattle.ddf_rewrite.proofs.Differences.{Agrees, agrees, agrees_back, agrees_self, elements_alike, no_difference, plans_alike}
use Rattle.ddf_rewrite.proofs.Filled.{filled_alike, find_made}
use Rattle.ddf_rewrite.proofs.Given.{plan_again}
use Rattle.ddf_rewrite.proofs.Holdings.{AreSame, are_same, same_again, same_back, same_on}
use Rattle.ddf_rewrite.proofs.Led.{is_led, led_same}
use Rattle.ddf_rewrite.proofs.Lists.{some_same}
use Rattle.ddf_rewrite.proofs.Noted.{NotesFirst, all_notes_first, found_in, noted_in, some_noted}
use Rattle.ddf_rewrite.proofs.Plans.{HasPlan, plan_noted}
use Rattle.ddf_rewrite.proofs.ReadCan.{is_read}
use Rattle.ddf_rewrite.proofs.ReadHas.{read_rebuilt}
use Rattle.ddf_rewrite.proofs.Recovered.{held_as, made_plan, recovered_arrays, recovered_away, recovered_disks_are, recovered_found}

-- ---- views that agree pairwise

-- each agrees with each
all_agree : (views : List View) → DoAgree views → (m k : ℕ) (one other : View) → slice_get views m ≡ Some one → slice_get views k ≡ Some other → Agrees one other
all_agree views agreed m k one other at there =
    elim (cases_order m k) [
      | inl same ↦
          let is : one ≡ other = some_same at (ap (slice_get views) same ∙ there) in
          subst (Agrees one) is (agrees_self one)
      | inr apart ↦ elim apart [
        | inl less ↦ agrees one other (agreed m k one other less at there)
        | inr more ↦ agrees_back other one (agrees other one (agreed k m other one more there at))
      ]
    ]

-- the first of some views
first_in : (views : List View) (k : ℕ) (one : View) → slice_get views k ≡ Some one → (first : View) × (slice_get views 0 ≡ Some first) × (disks_in views ≡ first.disks) × (arrays_in views ≡ first.arrays)
first_in [] k one at = absurd cc
first_in (view ∷ views) k one at = (view, refl, refl, refl)

-- ---- the plan of a record

-- records with the same fields give one plan
plan_alike : (given : Option SlotNote) (one other : ElementValue) → AreSame one other → plan_of [] given one ≡ plan_of [] given other
unfolding plan_of make_plan
plan_alike given one other same =
    let level = same.level in
    let qualifier = same.qualifier in
    let strip = same.strip in
    let blocks = same.blocks in
    let members = same.members in
    let positions : map (λ pair. position_of [] given pair.0 pair.1) (enumerate_from 0 one.members) ≡ map (λ pair. position_of [] given pair.0 pair.1) (enumerate_from 0 other.members) =
    ap (λ (list : List Place). map (λ pair. position_of [] given pair.0 pair.1) (enumerate_from 0 list)) members in
    let made : make_plan one.level one.qualifier one.strip one.blocks (stand_in_of given) (map (λ pair. position_of [] given pair.0 pair.1) (enumerate_from 0 one.members))
    ≡ make_plan other.level other.qualifier other.strip other.blocks (stand_in_of given) (map (λ pair. position_of [] given pair.0 pair.1) (enumerate_from 0 other.members)) = rw (level, qualifier, strip, blocks, positions) refl in
    made

-- what two records say that are the same and have notes
plans_same : (one other : HeldRecord) (first second : SlotNote) → same_held one other ≡ true → one.note ≡ Some first → other.note ≡ Some second → plan_of [] (Some first) one.element ≡ plan_of [] (Some second) other.element
plans_same one other first second same has also =
    let parts = and_parts (same_record one.element other.element) (same_notes one other) same in
    let alike : plans_alike (Some first) (Some second) (plan_of [] (Some first) one.element) (plan_of [] (Some second) other.element) ≡ true =
    sym (ap (λ o. plans_alike o other.note (plan_of [] o one.element) (plan_of [] other.note other.element)) has ∙ ap (λ o. plans_alike (Some first) o (plan_of [] (Some first) one.element) (plan_of [] o other.element)) also) ∙ parts.1 in
    plan_same (plan_of [] (Some first) one.element) (plan_of [] (Some second) other.element) alike

-- ---- a recovered copy and a leader

module _ (old : DiskCopy) (group : List ℕ) (sequence : ℕ) (views : List View) (timestamp : ℕ) (can : CanBeRecovered old (before views) (read group sequence views) timestamp) (agreed : DoAgree views) (notes : AllByRecursion NotesFirst views)
    (k : ℕ) (leader : View) (leads : slice_get views k ≡ Some leader) where
  abbrev config : Configuration
  config = read group sequence views

  abbrev view : View
  view = view_of (recovered_copy old (before views) config timestamp)

  -- records of one element in two leaders are the same
  leaders_same : (m : ℕ) (one : View) (array : List ℕ) (index : ℕ) (held mine : HeldRecord) → slice_get views m ≡ Some one → find_held array index one.elements ≡ Some held → find_held array index leader.elements ≡ Some mine → same_held held mine ≡ true
  leaders_same m one array index held mine at found also =
      let alike = (all_agree views agreed m k one leader at leads).elements (array, index) in
      not-false (same_held held mine) (sym (ap (λ o. held_differ o (find_held array index leader.elements)) found ∙ ap (held_differ (Some held)) also) ∙ alike)

  -- What is made of an element has the plan that a leader notes.
  plan_led : (n : ℕ) (wanted : Wanted) (mine : HeldRecord) (given : SlotNote) → slice_get (all_wanted config) n ≡ Some wanted → find_held wanted.guid wanted.index leader.elements ≡ Some mine → mine.note ≡ Some given
      → wanted.plan ≡ plan_of [] (Some given) mine.element
  plan_led n wanted mine given at found has =
      let is = is_read group sequence views n wanted at in
      let first = some_noted wanted.guid wanted.index views k leader mine given notes leads found has in
      let from = noted_in wanted.guid wanted.index views first.0 notes first.1 in
      let held : find_held wanted.guid wanted.index (elements_in views) ≡ Some is.held = ap (λ (g : List ℕ). find_held g wanted.index (elements_in views)) is.guid ∙ is.found in
      let place = found_in wanted.guid wanted.index views is.held held in
      let same = (all_agree views agreed place.0 from.m place.1 from.view place.2 from.at).elements (wanted.guid, wanted.index) in
      let records : same_held is.held from.held ≡ true =
      not-false (same_held is.held from.held) (sym (ap (λ o. held_differ o (find_held wanted.guid wanted.index from.view.elements)) place.3 ∙ ap (held_differ (Some is.held)) from.found) ∙ same) in
      let fields = are_same is.held.element from.held.element (and_parts (same_record is.held.element from.held.element) (same_notes is.held from.held) records).0 in
      is.plan
      ∙ ap (λ (g : List ℕ). plan_of (disks_in views) (find_note g wanted.index (elements_in views)) is.held.element) (sym is.guid)
      ∙ ap (λ o. plan_of (disks_in views) o is.held.element) first.1
      ∙ plan_anywhere (disks_in views) first.0 is.held.element
      ∙ plan_alike (Some first.0) is.held.element from.held.element fields
      ∙ plans_same from.held mine first.0 given (leaders_same from.m from.view wanted.guid wanted.index from.held mine from.at from.found found) from.has has

  -- what is made of an element is as the leader's record
  holding_led : (n : ℕ) (wanted : Wanted) (holding : Holding) (mine : HeldRecord) → slice_get (all_wanted config) n ≡ Some wanted → recovered_holding old (before views) wanted ≡ Some holding → find_held wanted.guid wanted.index leader.elements ≡ Some mine
      → same_held (held_as (before views).noted holding) mine ≡ true
  holding_led n wanted holding mine at made found = and_from (same_record holding.element mine.element) (same_notes (held_as (before views).noted holding) mine) records (noted (before views).noted mine.note refl)
    where
      records : same_record holding.element mine.element ≡ true
      records =
          let led = is_led old (before views) wanted holding made in
          let place = found_in wanted.guid wanted.index views led.leader led.found in
          let same = leaders_same place.0 place.1 wanted.guid wanted.index led.leader mine place.2 place.3 found in
          let fields = are_same led.leader.element mine.element (and_parts (same_record led.leader.element mine.element) (same_notes led.leader mine) same).0 in
          let own : AreSame led.leader.element holding.element = subst (λ (x : ElementValue). AreSame led.leader.element x) (sym led.element_is) (led_same old.header.geometry (own_record old wanted) led.leader.element) in
          same_again holding.element mine.element (same_on (same_back own) fields)

      noted : (b : Bool) (o : Option SlotNote) → mine.note ≡ o → same_notes (held_as b holding) mine ≡ true
      noted false o e = refl
      noted true None e = ap (λ o. plans_alike (note_if true holding) o (plan_of [] (note_if true holding) holding.element) (plan_of [] o mine.element)) e
      noted true (Some given) e =
          let led = is_led old (before views) wanted holding made in
          let has : HasPlan holding.element holding.wanted.plan = subst (λ (w : Wanted). HasPlan holding.element w.plan) (sym led.wanted_is) (made_plan old group sequence views timestamp can n wanted holding at made) in
          let rebuilt : OneRebuilt holding.wanted.plan = subst (λ (w : Wanted). OneRebuilt w.plan) (sym led.wanted_is) (read_rebuilt group sequence views n wanted at) in
          let plan : plan_of [] (note_if true holding) holding.element ≡ plan_of [] (Some given) mine.element =
          plan_noted holding.copied holding.wanted.plan holding.element rebuilt has ∙ ap (λ (w : Wanted). w.plan) led.wanted_is ∙ plan_led n wanted mine given at found e in
          ap (λ o. plans_alike (note_if true holding) o (plan_of [] (note_if true holding) holding.element) (plan_of [] o mine.element)) e
          ∙ ap (λ (p : ElementPlan). same_plan true p (plan_of [] (Some given) mine.element)) plan ∙ plan_again (plan_of [] (Some given) mine.element)

  -- what the disk holds of an element is as what the leader holds
  element_led : (n : ℕ) (wanted : Wanted) → slice_get (all_wanted config) n ≡ Some wanted → element_differs view.elements leader.elements (wanted.guid, wanted.index) ≡ false
  element_led n wanted at =
      ap (λ o. held_differ o (find_held wanted.guid wanted.index leader.elements)) (recovered_found old group sequence views timestamp can n wanted at)
      ∙ go (recovered_holding old (before views) wanted) refl (find_held wanted.guid wanted.index leader.elements) refl
    where
      go : (o : Option Holding) → recovered_holding old (before views) wanted ≡ o → (p : Option HeldRecord) → find_held wanted.guid wanted.index leader.elements ≡ p
          → held_differ (option_map (held_as (before views).noted) (recovered_holding old (before views) wanted)) (find_held wanted.guid wanted.index leader.elements) ≡ false
      go None e p f = ap (λ o. held_differ (option_map (held_as (before views).noted) o) (find_held wanted.guid wanted.index leader.elements)) e
      go (Some holding) e None f =
          ap (λ o. held_differ (option_map (held_as (before views).noted) o) (find_held wanted.guid wanted.index leader.elements)) e ∙ ap (held_differ (Some (held_as (before views).noted holding))) f
      go (Some holding) e (Some mine) f =
          ap (λ o. held_differ (option_map (held_as (before views).noted) o) (find_held wanted.guid wanted.index leader.elements)) e ∙ ap (held_differ (Some (held_as (before views).noted holding))) f
          ∙ ap not (holding_led n wanted holding mine at e f)

  -- the entries of the disks are those of the first leader
  disk_led : (reference : ℕ) → not (option_eq same_disk (numbered_disk reference (recovered_disks (disks_in views) (view_of old).disks)) (numbered_disk reference leader.disks)) ≡ false
  unfolding recovered_disks
  disk_led reference =
      let first = first_in views k leader leads in
      ap not (find_made (λ pair. eqb pair.1.reference reference) same_disk (λ disk. disk_on (view_of old).disks (number_at w16 disk.rest DISK_BLOCK_SIZE_AT) disk) (λ n disk. refl) (λ n disk other. refl) 0 (disks_in views) (numbered_disk reference leader.disks))
      ∙ ap (λ (disks : List DiskEntry). not (option_eq same_disk (numbered_disk reference disks) (numbered_disk reference leader.disks))) first.2
      ∙ (all_agree views agreed 0 k first.0 leader first.1 leads).disks reference

  -- and those of the arrays too
  array_led : (guid : List ℕ) → not (option_eq same_array (numbered_array guid (arrays_after config (view_of old).arrays)) (numbered_array guid leader.arrays)) ≡ false
  unfolding arrays_after read array_in
  array_led guid =
      let first = first_in views k leader leads in
      let own = (view_of old).arrays in
      let make_row = λ (row : ArrayEntry). array_on own (row.guid, array_in (disks_in views) (elements_in views) row) in
      ap (λ (rows : List ArrayEntry). not (option_eq same_array (numbered_array guid rows) (numbered_array guid leader.arrays)))
      (map-map (array_on own) (λ (row : ArrayEntry). (row.guid, array_in (disks_in views) (elements_in views) row)) (arrays_in views))
      ∙ ap not (find_made (λ pair. bytes_eq pair.1.guid guid) same_array make_row (λ n row. refl) (λ n row other. refl) 0 (arrays_in views) (numbered_array guid leader.arrays))
      ∙ ap (λ (rows : List ArrayEntry). not (option_eq same_array (numbered_array guid rows) (numbered_array guid leader.arrays))) first.3
      ∙ (all_agree views agreed 0 k first.0 leader first.1 leads).arrays guid

  -- The copy that a recovery gives a disk agrees with each leader.
  pub recovered_agrees : Agrees view leader
  recovered_agrees = record {
    disks = λ reference.
        ap (λ (list : List DiskEntry). not (option_eq same_disk (numbered_disk reference list) (numbered_disk reference leader.disks))) (recovered_disks_are old group sequence views timestamp can)
        ∙ ap not (filled_alike old.header.revision (before views).noted config (recovered_disks (disks_in views) (view_of old).disks) reference (numbered_disk reference leader.disks)) ∙ disk_led reference;
    arrays = λ guid.
        ap (λ (list : List ArrayEntry). not (option_eq same_array (numbered_array guid list) (numbered_array guid leader.arrays))) (recovered_arrays old group sequence views timestamp can) ∙ array_led guid;
    elements = elements_alike config view.elements leader.elements element_led (recovered_away old group sequence views timestamp can);
  }

-- The copy that a recovery gives a disk and that of a leader don't differ.
pub copies_agreed : (old : DiskCopy) (group : List ℕ) (sequence : ℕ) (leaders : List DiskCopy) (timestamp : ℕ) → CanBeRecovered old (before (map view_of leaders)) (read group sequence (map view_of leaders)) timestamp
    → AllByRecursion CanBeCopy leaders → DoAgree (map view_of leaders) → (k : ℕ) (leader : DiskCopy) → slice_get leaders k ≡ Some leader
    → (difference (view_of (recovered_copy old (before (map view_of leaders)) (read group sequence (map view_of leaders)) timestamp)) (view_of leader) ≡ None)
    × (difference (view_of leader) (view_of (recovered_copy old (before (map view_of leaders)) (read group sequence (map view_of leaders)) timestamp)) ≡ None)
copies_agreed old group sequence leaders timestamp can written agreed k leader leads =
    let views = map view_of leaders in
    let view = view_of (recovered_copy old (before views) (read group sequence views) timestamp) in
    let is = recovered_agrees old group sequence views timestamp can agreed (all_notes_first leaders written) k (view_of leader) (mapped_at view_of leaders k leader leads) in
    (no_difference view (view_of leader) is, no_difference (view_of leader) view (agrees_back view (view_of leader) is))
