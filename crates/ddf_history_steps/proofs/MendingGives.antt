-- Leaders give what they gave where copies that were recovered from them stand among them.
use Rattle.std.proofs.Common.{◌≡◌, ◌⊎◌, ℕ, zero, suc, ◌<◌, ◌||◌, ◌&&◌, not, Bool, true, false, List, [], ◌∷◌, map, Option, Some, None, refl, ap, sym, ◌∙◌, inl, inr, ⊎_elim, subst}
use Rattle.std.proofs.lemmas.Bool.{and_parts, cases_order, false≢true, true≢false, not-false}
use Rattle.std.proofs.lemmas.List.Folds.{find-append}
use Rattle.std.proofs.lemmas.Simd.{map-map}
use Rattle.std.specs.Prelude.{slice_get, is_some, option_map}
use Rattle.std.specs.List.{AllByRecursion, list_any}
use Rattle.std.specs.Int.{w16}
use Rattle.std.proofs.lemmas.Map.Keys.{any_passes_from_place}
use Rattle.ddf_lemmas.proofs.Lists.{all_from, any_place, in_map}
use Rattle.ddf_lemmas.proofs.Options.{none_of_both}
use Rattle.ddf_bytes.specs.Bytes.{number_at}
use Rattle.ddf_tables.specs.declared.disks.DiskEntry.{DiskEntry}
use Rattle.ddf_tables.specs.declared.arrays.ArrayEntry.{ArrayEntry}
use Rattle.ddf_tables.specs.declared.layout.TheConstants.{DISK_BLOCK_SIZE_AT}
use Rattle.ddf_config_records.specs.declared.notes.SlotNote.{SlotNote}
use Rattle.ddf_config.specs.Configuration.{Configuration}
use Rattle.ddf_config.specs.ElementValue.{ElementValue as ElementPlan}
use Rattle.ddf_copy.specs.declared.copy.DiskCopy.{DiskCopy}
use Rattle.ddf_copy.specs.Written.{CanBeCopy}
use Rattle.ddf_view.specs.Differ.{difference, held_differ, same_held, same_notes, same_record}
use Rattle.ddf_view.specs.Reading.{are_noted, array_entry_in, array_in, arrays_in, count_in, disks_in, element_in, elements_in, is_associated, is_dedicated, names_array, naming_record, plan_of, read}
use Rattle.ddf_view.specs.Shows.{shows}
use Rattle.ddf_view.specs.View.{HeldRecord, View, find_held, find_note, is_element, view_of}
use Rattle.ddf_view.proofs.Common.{plan_anywhere}
use Rattle.ddf_rewrite.specs.Arrays.{array_on, arrays_after}
use Rattle.ddf_rewrite.specs.Before.{before}
use Rattle.ddf_rewrite.specs.Copies.{recovered_copy}
use Rattle.ddf_rewrite.specs.Disks.{disk_on, disks_for, filled, recovered_disks}
use Rattle.ddf_rewrite.specs.Hold.{CanBeRecovered, DoAgree}
use Rattle.ddf_rewrite.specs.Wanted.{all_wanted}
use Rattle.ddf_rewrite.proofs.AgreedLeaders.{copies_agreed}
use Rattle.ddf_rewrite.proofs.Differences.{Agrees, agrees, agrees_back, agrees_self}
use Rattle.ddf_rewrite.proofs.Filled.{filled_use}
use Rattle.ddf_rewrite.proofs.Holdings.{AreSame, are_same, same_back, same_on}
use Rattle.ddf_rewrite.proofs.Lists.{all_at, some_same}
use Rattle.ddf_rewrite.proofs.Noted.{NotesFirst, all_notes_first, found_in, noted_in, notes_first, some_noted}
use Rattle.ddf_rewrite.proofs.ReadCan.{is_read as wanted_read}
use Rattle.ddf_rewrite.proofs.Recovered.{recovered_arrays, recovered_away, recovered_disks_are, recovered_shows}
use Rattle.ddf_history_steps.proofs.MendingLists.{map_stays}
use Rattle.ddf_history_steps.proofs.MendingReading.{AreAlike, KeepsArray, KeepsDisk, RecordsAlike, associated_alike, numbers_alike, read_alike}
use Rattle.ddf_history_steps.proofs.MendingPlans.{element_at, noted_gives, plan_alike, plan_made}
use Rattle.ddf_history_steps.proofs.MendingSpares.{recovered_dedicated, recovered_noted}

-- ---- the records of several views

-- What isn't found among all isn't found in one.
lacks : (array : List ℕ) (index : ℕ) (views : List View) (m : ℕ) (view : View) → find_held array index (elements_in views) ≡ None → slice_get views m ≡ Some view → find_held array index view.elements ≡ None
lacks array index [] m view none at = absurd cc
lacks array index (one ∷ views) zero view none at =
    let same : one ≡ view = cc in
    let both = none_of_both (find_held array index one.elements) (find_held array index (elements_in views)) (sym (find-append (is_element array index) one.elements (elements_in views)) ∙ none) in
    ap (λ (v : View). find_held array index v.elements) (sym same) ∙ both.0
lacks array index (one ∷ views) (suc m) view none at =
    let both = none_of_both (find_held array index one.elements) (find_held array index (elements_in views)) (sym (find-append (is_element array index) one.elements (elements_in views)) ∙ none) in
    lacks array index views m view both.1 at

-- ---- copies among the leaders

-- a view is that of a copy that was recovered from these
pub record IsRecovered (group : List ℕ) (sequence timestamp : ℕ) (views : List View) (view : View) : Type 0 where
  pub old : DiskCopy
  pub can : CanBeRecovered old (before views) (read group sequence views) timestamp
  pub is_copy : CanBeCopy (recovered_copy old (before views) (read group sequence views) timestamp)
  pub is_view : view_of (recovered_copy old (before views) (read group sequence views) timestamp) ≡ view

-- the leaders, and recovered copies among them
pub record AreGrown (group : List ℕ) (sequence timestamp : ℕ) (views grown : List View) : Type 0 where
  pub each : (k : ℕ) (view : View) → slice_get grown k ≡ Some view → ((m : ℕ) × (slice_get views m ≡ Some view)) ⊎ IsRecovered group sequence timestamp views view
  pub all : (m : ℕ) (view : View) → slice_get views m ≡ Some view → (k : ℕ) × (slice_get grown k ≡ Some view)
  pub head : View
  pub rest : List View
  pub are : grown ≡ head ∷ rest
  pub led : ((others : List View) × (views ≡ head ∷ others)) ⊎ IsRecovered group sequence timestamp views head

-- the entries of the first are made of those of the first leader
record Heads (views grown : List View) : Type 0 where
  disk_made : DiskEntry → DiskEntry
  keeps_disk : KeepsDisk disk_made
  disks : disks_in grown ≡ map disk_made (disks_in views)
  array_made : ArrayEntry → ArrayEntry
  keeps_array : KeepsArray array_made
  arrays : arrays_in grown ≡ map array_made (arrays_in views)

-- Tests of a spare, where what one list of views names the other says, or is dedicated.
dedicated_test : (by noted some one other : Bool) → (one ≡ true → other ≡ true) → (other ≡ true → (one ≡ true) ⊎ ((by || (not noted && some && one)) ≡ true)) → (by || (not noted && some && other)) ≡ (by || (not noted && some && one))
dedicated_test true noted some one other up down = refl
dedicated_test false true some one other up down = refl
dedicated_test false false false one other up down = refl
dedicated_test false false true true true up down = refl
dedicated_test false false true false false up down = refl
dedicated_test false false true true false up down = absurd (false≢true (up refl))
dedicated_test false false true false true up down = absurd (false≢true (⊎_elim (λ yes. yes) (λ yes. yes) (down refl)))

module _ (group : List ℕ) (sequence timestamp : ℕ) (leaders : List DiskCopy) (leaders_can : AllByRecursion CanBeCopy leaders) (agreed : DoAgree (map view_of leaders))
    (shown : (m : ℕ) (view : View) → slice_get (map view_of leaders) m ≡ Some view → shows (read group sequence (map view_of leaders)) view ≡ true) (grown : List View) (are : AreGrown group sequence timestamp (map view_of leaders) grown) where
  abbrev views : List View
  views = map view_of leaders

  abbrev config : Configuration
  config = read group sequence views

  abbrev Recovered : View → Type 0
  Recovered view = IsRecovered group sequence timestamp views view

  -- ---- the first

  -- The entries are the leader's, or made of them.
  heads : Heads views grown
  unfolding recovered_disks disks_for arrays_after array_in read
  heads = go are.led
    where
      go : ((others : List View) × (views ≡ are.head ∷ others)) ⊎ Recovered are.head → Heads views grown
      go (inl led) = record {
        disk_made = λ disk. disk;
        keeps_disk = record { guid = λ disk. refl; reference = λ disk. refl; kind = λ disk otherwise. refl; state = λ disk. refl; size = λ disk. refl };
        disks = ap disks_in are.are ∙ sym (ap disks_in led.1) ∙ map_stays (disks_in views);
        array_made = λ row. row;
        keeps_array = record { guid = λ row. refl; name = λ row. refl; number = λ row. refl; state = λ row. refl; init = λ row. refl };
        arrays = ap arrays_in are.are ∙ sym (ap arrays_in led.1) ∙ map_stays (arrays_in views);
      }
      go (inr fresh) = record {
        disk_made = λ disk. filled fresh.old.header.revision (before views).noted (all_wanted config) (disk_on (view_of fresh.old).disks (number_at w16 disk.rest DISK_BLOCK_SIZE_AT) disk);
        keeps_disk = record {
          guid = λ disk. refl;
          reference = λ disk. refl;
          kind = λ disk otherwise. filled_use fresh.old.header.revision (before views).noted (all_wanted config) (disk_on (view_of fresh.old).disks (number_at w16 disk.rest DISK_BLOCK_SIZE_AT) disk) otherwise;
          state = λ disk. refl;
          size = λ disk. refl;
        };
        disks = ap disks_in are.are ∙ ap (λ (view : View). view.disks) (sym fresh.is_view) ∙ recovered_disks_are fresh.old group sequence views timestamp fresh.can
            ∙ map-map (filled fresh.old.header.revision (before views).noted (all_wanted config)) (λ (disk : DiskEntry). disk_on (view_of fresh.old).disks (number_at w16 disk.rest DISK_BLOCK_SIZE_AT) disk) (disks_in views);
        array_made = λ row. array_on (view_of fresh.old).arrays (array_entry_in views row);
        keeps_array = record { guid = λ row. refl; name = λ row. refl; number = λ row. refl; state = λ row. refl; init = λ row. refl };
        arrays = ap arrays_in are.are ∙ ap (λ (view : View). view.arrays) (sym fresh.is_view) ∙ recovered_arrays fresh.old group sequence views timestamp fresh.can ∙ map-map (array_on (view_of fresh.old).arrays) (array_entry_in views) (arrays_in views);
      }

  -- ---- each of them

  -- A copy agrees with each leader.
  view_agrees : (view one : View) → ((m : ℕ) × (slice_get views m ≡ Some view)) ⊎ Recovered view → (k : ℕ) → slice_get views k ≡ Some one → Agrees view one
  view_agrees view one (inl led) k at = elim (cases_order led.0 k) [
    | inl same ↦
        let is : view ≡ one = some_same led.1 (ap (slice_get views) same ∙ at) in
        subst (Agrees view) is (agrees_self view)
    | inr apart ↦ elim apart [
      | inl less ↦ agrees view one (agreed led.0 k view one less led.1 at)
      | inr more ↦ agrees_back one view (agrees one view (agreed k led.0 one view more at led.1))
    ]
  ]
  view_agrees view one (inr fresh) k at =
      let from = in_map view_of leaders k one at in
      let none = (copies_agreed fresh.old group sequence leaders timestamp fresh.can leaders_can agreed k from.0 from.1).0 in
      agrees view one (subst (λ (v : View). difference v one ≡ None) fresh.is_view (subst (λ (v : View). difference (view_of (recovered_copy fresh.old (before views) config timestamp)) v ≡ None) from.2 none))

  -- A record that a copy holds is as the one that a leader holds of its element.
  held_same : (guid : List ℕ) (i : ℕ) (view one : View) → ((m : ℕ) × (slice_get views m ≡ Some view)) ⊎ Recovered view → (k : ℕ) → slice_get views k ≡ Some one → (x y : HeldRecord) → find_held guid i view.elements ≡ Some x → find_held guid i one.elements ≡ Some y → AreSame x.element y.element
  held_same guid i view one is k at x y found other =
      let alike = (view_agrees view one is k at).elements (guid, i) in
      let same : same_held x y ≡ true = not-false (same_held x y) (sym (ap (λ (o : Option HeldRecord). held_differ o (find_held guid i one.elements)) found ∙ ap (held_differ (Some x)) other) ∙ alike) in
      are_same x.element y.element (and_parts (same_record x.element y.element) (same_notes x y) same).0

  -- A recovered copy holds no element that no leader holds.
  fresh_lacks : (view : View) → Recovered view → (guid : List ℕ) (i : ℕ) → find_held guid i (elements_in views) ≡ None → find_held guid i view.elements ≡ None
  fresh_lacks view fresh guid i none = subst (λ (v : View). find_held guid i v.elements ≡ None) fresh.is_view (recovered_away fresh.old group sequence views timestamp fresh.can guid i (λ n wanted at g place.
      let is = wanted_read group sequence views n wanted at in
      let found : find_held guid i (elements_in views) ≡ Some is.held = ap (λ (x : List ℕ). find_held x i (elements_in views)) (sym g ∙ is.guid) ∙ ap (λ (x : ℕ). find_held is.entry.guid x (elements_in views)) (sym place) ∙ is.found in
      let got : None ≡ Some is.held = sym none ∙ found in
      absurd cc))

  -- So all hold the elements that the leaders hold, with the same fields.
  records : RecordsAlike (elements_in grown) (elements_in views)
  records guid i = go (find_held guid i (elements_in views)) refl (find_held guid i (elements_in grown)) refl
    where
      Alike : Type 0
      Alike = AreAlike (find_held guid i (elements_in grown)) (find_held guid i (elements_in views))

      put : (o p : Option HeldRecord) → find_held guid i (elements_in views) ≡ o → find_held guid i (elements_in grown) ≡ p → AreAlike p o → Alike
      put o p e f alike = subst (λ (x : Option HeldRecord). AreAlike x (find_held guid i (elements_in views))) (sym f) (subst (AreAlike p) (sym e) alike)

      absent : (held : HeldRecord) (o : Option HeldRecord) → o ≡ Some held → o ≡ None → ⊥
      absent held o some none = let got : Some held ≡ None = sym some ∙ none in absurd cc

      go : (o : Option HeldRecord) → find_held guid i (elements_in views) ≡ o → (p : Option HeldRecord) → find_held guid i (elements_in grown) ≡ p → Alike
      go None e None f = put None None e f tt
      go None e (Some x) f =
          let from = found_in guid i grown x f in
          absurd (absent x (find_held guid i from.1.elements) from.3 (⊎_elim (λ led. lacks guid i views led.0 from.1 e led.1) (λ fresh. fresh_lacks from.1 fresh guid i e) (are.each from.0 from.1 from.2)))
      go (Some y) e None f =
          let from = found_in guid i views y e in
          let there = are.all from.0 from.1 from.2 in
          absurd (absent y (find_held guid i from.1.elements) from.3 (lacks guid i grown there.0 from.1 f there.1))
      go (Some y) e (Some x) f =
          let from = found_in guid i grown x f in
          let other = found_in guid i views y e in
          put (Some y) (Some x) e f (held_same guid i from.1 other.1 (are.each from.0 from.1 from.2) other.0 other.2 x y from.3 other.3)

  -- ---- the notes

  -- In each leader the first note of an element is that of its first record.
  views_notes : AllByRecursion NotesFirst views
  views_notes = all_notes_first leaders leaders_can

  -- So it is in each copy.
  grown_notes : AllByRecursion NotesFirst grown
  grown_notes = all_from NotesFirst grown (λ k view at. ⊎_elim
      (λ led. all_at NotesFirst views led.0 view views_notes led.1)
      (λ fresh. subst NotesFirst fresh.is_view (notes_first (recovered_copy fresh.old (before views) config timestamp) fresh.is_copy))
      (are.each k view at))

  -- Each shows the configuration.
  grown_shows : (k : ℕ) (view : View) → slice_get grown k ≡ Some view → shows config view ≡ true
  grown_shows k view at = ⊎_elim
      (λ led. shown led.0 view led.1)
      (λ fresh. subst (λ (v : View). shows config v ≡ true) fresh.is_view (recovered_shows fresh.old group sequence views timestamp fresh.can))
      (are.each k view at)

  -- Where none notes an element no leader does.
  none_noted : (guid : List ℕ) (i : ℕ) → find_note guid i (elements_in grown) ≡ None → find_note guid i (elements_in views) ≡ None
  none_noted guid i none = go (find_note guid i (elements_in views)) refl
    where
      go : (o : Option SlotNote) → find_note guid i (elements_in views) ≡ o → find_note guid i (elements_in views) ≡ None
      go None e = e
      go (Some given) e =
          let from = noted_in guid i views given views_notes e in
          let there = are.all from.m from.view from.at in
          let some = some_noted guid i grown there.0 from.view from.held given grown_notes there.1 from.found from.has in
          let got : None ≡ Some some.0 = sym none ∙ some.1 in
          absurd cc

  -- An element has one plan.
  plans : (a : ℕ) (row : ArrayEntry) → slice_get (arrays_in views) a ≡ Some row → (i : ℕ) → i < count_in (elements_in views) row.guid → element_in (disks_in grown) (elements_in grown) row.guid i ≡ element_in (disks_in views) (elements_in views) row.guid i
  plans a row at i lt = go (find_held row.guid i (elements_in views)) refl (find_held row.guid i (elements_in grown)) refl (records row.guid i)
    where
      one_plan : (x y : HeldRecord) → find_held row.guid i (elements_in views) ≡ Some y → find_held row.guid i (elements_in grown) ≡ Some x → AreSame x.element y.element
          → plan_of (disks_in grown) (find_note row.guid i (elements_in grown)) x.element ≡ plan_of (disks_in views) (find_note row.guid i (elements_in views)) y.element
      one_plan x y e f same = by_note (find_note row.guid i (elements_in grown)) refl
        where
          by_note : (o : Option SlotNote) → find_note row.guid i (elements_in grown) ≡ o → plan_of (disks_in grown) (find_note row.guid i (elements_in grown)) x.element ≡ plan_of (disks_in views) (find_note row.guid i (elements_in views)) y.element
          by_note None none =
              ap (λ (o : Option SlotNote). plan_of (disks_in grown) o x.element) none
              ∙ ap (λ (disks : List DiskEntry). plan_of disks None x.element) heads.disks
              ∙ plan_made heads.disk_made heads.keeps_disk (disks_in views) x.element
              ∙ plan_alike (disks_in views) None x.element y.element same
              ∙ ap (λ (o : Option SlotNote). plan_of (disks_in views) o y.element) (sym (none_noted row.guid i none))
          by_note (Some given) some =
              let from = noted_in row.guid i grown given grown_notes some in
              let other = found_in row.guid i views y e in
              let alike = held_same row.guid i from.view other.1 (are.each from.m from.view from.at) other.0 other.2 from.held y from.found other.3 in
              let element : element_in (disks_in views) (elements_in views) row.guid i ≡ Some (plan_of (disks_in views) (find_note row.guid i (elements_in views)) y.element) =
              ap (option_map (λ (held : HeldRecord). plan_of (disks_in views) (find_note row.guid i (elements_in views)) held.element)) e in
              let there = element_at (disks_in views) (elements_in views) row i lt ∙ ap (λ (o : Option ElementPlan). Some o) element in
              ap (λ (o : Option SlotNote). plan_of (disks_in grown) o x.element) some
              ∙ plan_anywhere (disks_in grown) given x.element
              ∙ plan_alike [] (Some given) x.element from.held.element (same_on same (same_back alike))
              ∙ noted_gives group sequence views from.view (grown_shows from.m from.view from.at) a row at i (plan_of (disks_in views) (find_note row.guid i (elements_in views)) y.element) there from.held given from.found from.has

      go : (o : Option HeldRecord) → find_held row.guid i (elements_in views) ≡ o → (p : Option HeldRecord) → find_held row.guid i (elements_in grown) ≡ p → AreAlike (find_held row.guid i (elements_in grown)) (find_held row.guid i (elements_in views))
          → element_in (disks_in grown) (elements_in grown) row.guid i ≡ element_in (disks_in views) (elements_in views) row.guid i
      go o e p f alike = by_records o e p f (subst (AreAlike p) e (subst (λ (x : Option HeldRecord). AreAlike x (find_held row.guid i (elements_in views))) f alike))
        where
          by_records : (o : Option HeldRecord) → find_held row.guid i (elements_in views) ≡ o → (p : Option HeldRecord) → find_held row.guid i (elements_in grown) ≡ p → AreAlike p o
              → element_in (disks_in grown) (elements_in grown) row.guid i ≡ element_in (disks_in views) (elements_in views) row.guid i
          by_records None e None f alike =
              ap (option_map (λ (held : HeldRecord). plan_of (disks_in grown) (find_note row.guid i (elements_in grown)) held.element)) f
              ∙ sym (ap (option_map (λ (held : HeldRecord). plan_of (disks_in views) (find_note row.guid i (elements_in views)) held.element)) e)
          by_records None e (Some x) f alike = absurd alike
          by_records (Some y) e None f alike = absurd alike
          by_records (Some y) e (Some x) f alike =
              ap (option_map (λ (held : HeldRecord). plan_of (disks_in grown) (find_note row.guid i (elements_in grown)) held.element)) f
              ∙ ap (λ (plan : ElementPlan). Some plan) (one_plan x y e f alike)
              ∙ sym (ap (option_map (λ (held : HeldRecord). plan_of (disks_in views) (find_note row.guid i (elements_in views)) held.element)) e)

  -- ---- the spares

  -- There are valid notes where a leader has some.
  noted_same : are_noted grown ≡ are_noted views
  noted_same = go (are_noted views) refl (are_noted grown) refl
    where
      up : are_noted views ≡ true → are_noted grown ≡ true
      up h =
          let from = any_place (λ (view : View). view.noted) views h in
          let there = are.all from.0 from.1 from.2 in
          any_passes_from_place (λ (view : View). view.noted) grown there.0 from.1 there.1 from.3

      down : are_noted grown ≡ true → are_noted views ≡ true
      down h =
          let from = any_place (λ (view : View). view.noted) grown h in
          ⊎_elim
          (λ led. any_passes_from_place (λ (view : View). view.noted) views led.0 from.1 led.1 from.3)
          (λ fresh. sym (recovered_noted fresh.old group sequence views timestamp fresh.can) ∙ ap (λ (view : View). view.noted) fresh.is_view ∙ from.3)
          (are.each from.0 from.1 from.2)

      go : (b : Bool) → are_noted views ≡ b → (c : Bool) → are_noted grown ≡ c → are_noted grown ≡ are_noted views
      go true e c f = up e ∙ sym e
      go false e false f = f ∙ sym e
      go false e true f = absurd (true≢false (sym (down f) ∙ e))

  -- A disk is dedicated to an array as the leaders say.
  dedicated : (reference : ℕ) (row : ArrayEntry) → is_dedicated grown reference row ≡ is_dedicated views reference row
  dedicated reference row =
      let names = numbers_alike (elements_in grown) (elements_in views) row.guid records in
      let all = list_any (names_array reference row.guid) grown in
      let some = is_some (naming_record (elements_in grown) row.guid) in
      ap (λ (b : Bool). b || (not (are_noted grown) && some && all)) (associated_alike (elements_in grown) (elements_in views) reference row.guid records)
      ∙ ap (λ (b : Bool). is_associated (elements_in views) reference row.guid || (not b && some && all)) noted_same
      ∙ ap (λ (b : Bool). is_associated (elements_in views) reference row.guid || (not (are_noted views) && b && all)) names.some
      ∙ dedicated_test (is_associated (elements_in views) reference row.guid) (are_noted views) (is_some (naming_record (elements_in views) row.guid)) (list_any (names_array reference row.guid) views) all
      (λ h.
      let from = any_place (names_array reference row.guid) views h in
      let there = are.all from.0 from.1 from.2 in
      any_passes_from_place (names_array reference row.guid) grown there.0 from.1 there.1 from.3)
      (λ h.
      let from = any_place (names_array reference row.guid) grown h in
      ⊎_elim
      (λ led. inl (any_passes_from_place (names_array reference row.guid) views led.0 from.1 led.1 from.3))
      (λ fresh. inr (recovered_dedicated fresh.old group sequence views timestamp reference row (subst (λ (view : View). names_array reference row.guid view ≡ true) (sym fresh.is_view) from.3)))
      (are.each from.0 from.1 from.2))

  -- Together they give what the leaders gave.
  pub grown_gives : read group sequence grown ≡ read group sequence views
  grown_gives = read_alike group sequence views grown (record {
    disk_made = heads.disk_made;
    keeps_disk = heads.keeps_disk;
    disks = heads.disks;
    array_made = heads.array_made;
    keeps_array = heads.keeps_array;
    arrays = heads.arrays;
    records = records;
    plans = plans;
    dedicated = dedicated;
  })
