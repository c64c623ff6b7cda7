-- The copy that a recovery gives a disk shows the configuration that the leaders give.
use Rattle.std.proofs.Common.{◌≡◌, ℕ, zero, suc, ◌+◌, ◌<◌, ◌≤◌, Bool, true, false, ◌&&◌, ◌||◌, eqb, List, [], ◌∷◌, length, map, Option, Some, None, refl, ap, sym, ◌∙◌, subst, arith, inl}
use Rattle.std.proofs.lemmas.Bool.{and_from, eq-eqb}
use Rattle.std.proofs.lemmas.List.{length-map}
use Rattle.std.proofs.lemmas.Simd.{map-map}
use Rattle.std.proofs.lemmas.List.FromFn.{length-map-range_with_len}
use Rattle.std.specs.Prelude.{slice_get, filter, filter_map, is_some, option_map}
use Rattle.std.specs.Option.{option_map_or}
use Rattle.std.specs.List.{cons_option, enumerate_from, list_all, list_any, range_with_len}
use Rattle.std.specs.Int.{w16}
use Rattle.std.specs.Cmp.Lexicographic.{pointwise}
use Rattle.ddf_lemmas.proofs.Lists.{bytes_same, get_filter_map, in_map, list_all_read, mapped_at, range_get}
use Rattle.ddf_lemmas.proofs.Options.{some_from_is_some}
use Rattle.ddf_bytes.specs.Bytes.{number_at}
use Rattle.ddf_tables.specs.declared.disks.DiskEntry.{DiskEntry}
use Rattle.ddf_tables.specs.declared.arrays.ArrayEntry.{ArrayEntry}
use Rattle.ddf_tables.specs.declared.layout.TheConstants.{DISK_BLOCK_SIZE_AT}
use Rattle.ddf_config_records.specs.ElementValue.{ElementValue}
use Rattle.ddf_config_records.specs.declared.notes.SlotNote.{SlotNote}
use Rattle.ddf_config_records.specs.declared.place.Place.{Place}
use Rattle.ddf_config_records.proofs.Ranges.{first_found, none_first}
use Rattle.ddf_copy.specs.declared.copy.DiskCopy.{DiskCopy}
use Rattle.ddf_config.specs.Configuration.{Configuration}
use Rattle.ddf_config.specs.ElementValue.{ElementValue as ElementPlan}
use Rattle.ddf_config.specs.declared.array.Array.{Array}
use Rattle.ddf_config.specs.declared.element.Position.{Position}
use Rattle.ddf_view.specs.Reading.{are_noted, array_in, arrays_in, count_in, dedicated_or_not, disks_in, element_in, elements_in, is_associated, is_dedicated, member_entry_in, naming_record, plan_of, position_of, read, spare_in, spare_of_kind}
use Rattle.ddf_view.specs.Shows.{gives_element, gives_elements, gives_member, gives_spare, holds_all, least_element, names_numbers, same_place, same_plan, same_spare, shows, shows_fully}
use Rattle.ddf_view.specs.View.{HeldRecord, View, find_held, find_note, is_missing, view_of}
use Rattle.ddf_view.specs.Readable.{HasNotes, IsReadable}
use Rattle.ddf_view.proofs.Agreement.{Gives, Holds, dedicated_noted, records_read}
use Rattle.ddf_view.proofs.Finds.{least_from}
use Rattle.ddf_view.proofs.AlikeCopies.{flag_again}
use Rattle.ddf_rewrite.specs.Arrays.{array_on, arrays_after}
use Rattle.ddf_rewrite.specs.Before.{before, leading_record}
use Rattle.ddf_rewrite.specs.Copies.{own_record, recovered_copy, recovered_holding, recovered_holdings}
use Rattle.ddf_rewrite.specs.Disks.{disk_on, disks_for, recovered_disks}
use Rattle.ddf_rewrite.specs.Elements.{contains, place_in, recovered_record}
use Rattle.ddf_rewrite.specs.Hold.{CanBeRecovered}
use Rattle.ddf_rewrite.specs.Notes.{Holding}
use Rattle.ddf_rewrite.specs.Readable.{OneRebuilt}
use Rattle.ddf_rewrite.specs.Wanted.{Wanted, all_wanted}
use Rattle.ddf_rewrite.proofs.After.{note_if}
use Rattle.ddf_rewrite.proofs.AllWanted.{filter_map_get, is_wanted, wanted_one}
use Rattle.ddf_rewrite.proofs.Filled.{filled_spares}
use Rattle.ddf_rewrite.proofs.Fully.{spare_again}
use Rattle.ddf_rewrite.proofs.Given.{GivesAll, HoldsEach, elements_given, elements_held, not_wanted, plan_again}
use Rattle.ddf_rewrite.proofs.Holdings.{AreSame}
use Rattle.ddf_rewrite.proofs.Led.{is_led, led_apart, led_noted, led_same}
use Rattle.ddf_rewrite.proofs.Listed.{leading_held, listed_leads, read_listed}
use Rattle.ddf_rewrite.proofs.Lists.{all_at, get_range, some_same}
use Rattle.ddf_rewrite.proofs.Made.{made_found, made_has_notes, made_none, made_noted}
use Rattle.ddf_rewrite.proofs.Plans.{HasPlan, plan_noted}
use Rattle.ddf_rewrite.proofs.ReadCan.{fits_all, is_read, plan_found}
use Rattle.ddf_rewrite.proofs.ReadHas.{AllFit, count_few, read_readable, read_rebuilt}
use Rattle.ddf_rewrite.proofs.Showing.{copy_arrays, copy_disks, copy_shows}

-- ---- the plan of a record

-- the positions of members give the members back
places_back : (disks : List DiskEntry) (given : Option SlotNote) (n : ℕ) (members : List Place) → map place_in (map (λ pair. position_of disks given pair.0 pair.1) (enumerate_from n members)) ≡ members
places_back disks given n [] = refl
places_back disks given n (place ∷ members) = ap (λ (list : List Place). place ∷ list) (places_back disks given (n + 1) members)

-- a record has the fields of the plan that is read from it
has_read : (disks : List DiskEntry) (note : Option SlotNote) (element : ElementValue) → HasPlan element (plan_of disks note element)
unfolding plan_of
has_read disks note element = record { level = refl; qualifier = refl; strip = refl; blocks = refl; members = sym (places_back disks note 0 element.members) }

-- so has another record with the same fields
pub has_same : (one other : ElementValue) (plan : ElementPlan) → AreSame one other → HasPlan one plan → HasPlan other plan
has_same one other plan same has = record {
  level = sym same.level ∙ has.level;
  qualifier = sym same.qualifier ∙ has.qualifier;
  strip = sym same.strip ∙ has.strip;
  blocks = sym same.blocks ∙ has.blocks;
  members = sym same.members ∙ has.members;
}

-- positions of the same members
same_places : (n : ℕ) (positions : List Position) → pointwise same_place (map (λ pair. position_of [] None pair.0 pair.1) (enumerate_from n (map place_in positions))) positions ≡ true
same_places n [] = refl
same_places n (position ∷ positions) =
    let reference : eqb position.reference position.reference ≡ true = eq-eqb position.reference position.reference refl in
    let start : eqb position.start position.start ≡ true = eq-eqb position.start position.start refl in
    let rest = same_places (n + 1) positions in
    rw (reference, start, rest) refl

-- without a note the places of the members are given
plan_placed : (plan : ElementPlan) (element : ElementValue) → HasPlan element plan → same_plan false (plan_of [] None element) plan ≡ true
unfolding plan_of
plan_placed plan element has =
    let level : eqb element.level plan.level ≡ true = eq-eqb element.level plan.level has.level in
    let qualifier : eqb element.qualifier plan.qualifier ≡ true = eq-eqb element.qualifier plan.qualifier has.qualifier in
    let strip : eqb element.strip plan.strip ≡ true = eq-eqb element.strip plan.strip has.strip in
    let blocks : eqb element.blocks plan.blocks ≡ true = eq-eqb element.blocks plan.blocks has.blocks in
    let places : pointwise same_place (map (λ pair. position_of [] None pair.0 pair.1) (enumerate_from 0 element.members)) plan.positions ≡ true =
    ap (λ (members : List Place). pointwise same_place (map (λ pair. position_of [] None pair.0 pair.1) (enumerate_from 0 members)) plan.positions) has.members ∙ same_places 0 plan.positions in
    rw (level, qualifier, strip, blocks, places) refl

-- what a copy holds of a holding
abbrev pub held_as : (noted : Bool) → Holding → HeldRecord
held_as noted holding = record { element = holding.element; note = note_if noted holding }

-- what is held gives the plan of its element
holding_gives : (noted : Bool) (holding : Holding) → OneRebuilt holding.wanted.plan → HasPlan holding.element holding.wanted.plan → gives_element (held_as noted holding) (Some holding.wanted.plan) ≡ true
holding_gives true holding one has =
    ap (λ (p : ElementPlan). same_plan true p holding.wanted.plan) (plan_noted holding.copied holding.wanted.plan holding.element one has) ∙ plan_again holding.wanted.plan
holding_gives false holding one has = plan_placed holding.wanted.plan holding.element has

-- ---- the least element of an array that is read

-- It is held, and its record names the numbers.
pub record IsNaming (elements : List HeldRecord) (guid : List ℕ) (array : Array) (pair : ℕ × Option ElementPlan) : Type 0 where
  pub held : HeldRecord
  pub found : find_held guid pair.0 elements ≡ Some held
  pub plan : ElementPlan
  pub there : slice_get array.elements pair.0 ≡ Some (Some plan)
  pub count : held.element.elements ≡ length array.elements
  pub level : held.element.secondary ≡ array.secondary

-- an element that is None isn't held
not_there : (disks : List DiskEntry) (given : Option SlotNote) (o : Option HeldRecord) → option_map (λ (held : HeldRecord). plan_of disks given held.element) o ≡ None → o ≡ None
not_there disks given None h = refl
not_there disks given (Some held) h = absurd cc

-- an element of an array that is read is what is held of it
element_read : (disks : List DiskEntry) (elements : List HeldRecord) (guid : List ℕ) (count i : ℕ) (plan : Option ElementPlan) → slice_get (map (element_in disks elements guid) (range_with_len 0 count)) i ≡ Some plan
    → (element_in disks elements guid i ≡ plan) × (i < count)
element_read disks elements guid count i plan at =
    let from = in_map (element_in disks elements guid) (range_with_len 0 count) i plan at in
    let ranged = range_get 0 count i from.0 from.1 in
    let here : from.0 ≡ i = ranged.0 ∙ omega arith in
    (ap (element_in disks elements guid) (sym here) ∙ from.2, ranged.1)

-- The least element of an array that is read names its numbers.
pub naming_is : (most : ℕ) (disks : List DiskEntry) (elements : List HeldRecord) (row : ArrayEntry) (pair : ℕ × Option ElementPlan) → AllFit most elements → least_element (array_in disks elements row).elements ≡ Some pair
    → IsNaming elements row.guid (array_in disks elements row) pair
unfolding array_in naming_record
naming_is most disks elements row pair fit e =
    let guid = row.guid in
    let count = count_in elements guid in
    let plans = map (element_in disks elements guid) (range_with_len 0 count) in
    let least = least_from 0 plans pair e in
    let j = least.0 in
    let place : pair.0 ≡ j = least.1.place ∙ omega arith in
    let here = element_read disks elements guid count j pair.1 least.1.at in
    let some = some_from_is_some pair.1 least.1.there in
    let found = plan_found disks (find_note guid j elements) (find_held guid j elements) some.0 (here.0 ∙ some.1) in
    let few = count_few most elements guid fit in
    let lt = here.1 in
    let named : naming_record elements guid ≡ Some found.0 =
    first_found (λ i. find_held guid i elements) j 16 found.0
    (none_first (λ i. find_held guid i elements) j (λ i less. not_there disks (find_note guid i elements) (find_held guid i elements) (element_read disks elements guid count i None (least.1.others i less)).0))
    (omega (arith, lt, few)) found.1 in
    record {
      held = found.0;
      found = ap (λ (i : ℕ). find_held guid i elements) place ∙ found.1;
      plan = some.0;
      there = ap (slice_get plans) place ∙ least.1.at ∙ ap (λ (o : Option ElementPlan). Some o) some.1;
      count = sym (length-map-range_with_len (element_in disks elements guid) 0 count ∙ ap (λ o. option_map_or (λ (held : HeldRecord). held.element.elements) o 1) named);
      level = sym (ap (λ o. option_map_or (λ (held : HeldRecord). held.element.secondary) o 0) named);
    }

-- ---- the members

-- a leader's entry gives the member that is read from it
pub member_led : (views : List View) (own : List DiskEntry) (disk : DiskEntry) → gives_member (disk_on own (number_at w16 disk.rest DISK_BLOCK_SIZE_AT) disk) (member_entry_in views disk) ≡ true
member_led views own disk =
    let reference : eqb disk.reference disk.reference ≡ true = eq-eqb disk.reference disk.reference refl in
    let guid = bytes_same disk.guid in
    let size : eqb disk.size disk.size ≡ true = eq-eqb disk.size disk.size refl in
    let flag = flag_again (is_missing disk) in
    rw (reference, guid, size, flag) refl

-- lists that are made of one match where what is made of each item does
pub both_made : {X Y Z : Type 0} (m : Y → Z → Bool) (f : X → Y) (g : X → Z) → ((x : X) → m (f x) (g x) ≡ true) → (xs : List X) → pointwise m (map f xs) (map g xs) ≡ true
both_made m f g h [] = refl
both_made m f g h (x ∷ xs) = let first = h x in let rest = both_made m f g h xs in rw (first, rest) refl

-- all entries give the members
members_led : (group : List ℕ) (sequence : ℕ) (views : List View) (own : List DiskEntry) → pointwise gives_member (recovered_disks (disks_in views) own) (read group sequence views).members ≡ true
unfolding recovered_disks read
members_led group sequence views own = both_made gives_member (λ disk. disk_on own (number_at w16 disk.rest DISK_BLOCK_SIZE_AT) disk) (member_entry_in views) (member_led views own) (disks_in views)

-- what is told of each record of an array, where its spares are the same
any_alike : (test : List ℕ → Bool) (f g : ℕ → Option HeldRecord) (k n : ℕ) → ((i : ℕ) → i < n → option_map (λ held. held.element.spares) (f (k + i)) ≡ option_map (λ held. held.element.spares) (g (k + i)))
    → list_any (λ held. test held.element.spares) (filter_map f (range_with_len k n)) ≡ list_any (λ held. test held.element.spares) (filter_map g (range_with_len k n))
any_alike test f g k zero h = refl
any_alike test f g k (suc n) h =
    let here : k + 0 ≡ k = omega arith in
    go (any_alike test f g (k + 1) n (λ i lt. let there : k + 1 + i ≡ k + suc i = omega arith in
    subst (λ (m : ℕ). option_map (λ (held : HeldRecord). held.element.spares) (f m) ≡ option_map (λ (held : HeldRecord). held.element.spares) (g m)) (sym there) (h (suc i) (omega (arith, lt)))))
    (f k) (g k) (subst (λ (m : ℕ). option_map (λ (held : HeldRecord). held.element.spares) (f m) ≡ option_map (λ (held : HeldRecord). held.element.spares) (g m)) here (h 0 (omega arith)))
  where
    any : List HeldRecord → Bool
    any list = list_any (λ held. test held.element.spares) list

    go : any (filter_map f (range_with_len (k + 1) n)) ≡ any (filter_map g (range_with_len (k + 1) n)) → (o p : Option HeldRecord) → option_map (λ (held : HeldRecord). held.element.spares) o ≡ option_map (λ (held : HeldRecord). held.element.spares) p
        → any (cons_option o (filter_map f (range_with_len (k + 1) n))) ≡ any (cons_option p (filter_map g (range_with_len (k + 1) n)))
    go rest None None e = rest
    go rest None (Some other) e = absurd cc
    go rest (Some one) None e = absurd cc
    go rest (Some one) (Some other) e =
        let same : one.element.spares ≡ other.element.spares = sym (some_same e refl) in
        ap (λ (list : List ℕ). test list || any (filter_map f (range_with_len (k + 1) n))) same ∙ ap (λ (b : Bool). test other.element.spares || b) rest

-- the names of rows that pass, where rows are made of others with their names
names_alike : (p q : ArrayEntry → Bool) (f : ArrayEntry → ArrayEntry) → ((row : ArrayEntry) → (f row).guid ≡ row.guid) → (rows : List ArrayEntry) → ((a : ℕ) (row : ArrayEntry) → slice_get rows a ≡ Some row → p (f row) ≡ q row)
    → map (λ row. row.guid) (filter p (map f rows)) ≡ map (λ row. row.guid) (filter q rows)
names_alike p q f name [] h = refl
names_alike p q f name (row ∷ rows) h = go (names_alike p q f name rows (λ a one at. h (suc a) one at)) (q row) (h 0 row refl) refl
  where
    go : map (λ one. one.guid) (filter p (map f rows)) ≡ map (λ one. one.guid) (filter q rows) → (b : Bool) → p (f row) ≡ q row → q row ≡ b → map (λ one. one.guid) (filter p (map f (row ∷ rows))) ≡ map (λ one. one.guid) (filter q (row ∷ rows))
    go rest true same e = let here : p (f row) ≡ true = same ∙ e in let is = name row in rw (here, e, is, rest) refl
    go rest false same e = let here : p (f row) ≡ false = same ∙ e in rw (here, e) rest

-- ---- the copy

module _ (old : DiskCopy) (group : List ℕ) (sequence : ℕ) (views : List View) (timestamp : ℕ) (can : CanBeRecovered old (before views) (read group sequence views) timestamp) where
  abbrev config : Configuration
  config = read group sequence views

  abbrev elements : List HeldRecord
  elements = elements_in views

  -- what a recovery makes of an element that the configuration has
  abbrev make : Wanted → Option Holding
  make = recovered_holding old (before views)

  abbrev view : View
  view = view_of (recovered_copy old (before views) config timestamp)

  abbrev disks : List DiskEntry
  disks = recovered_disks (disks_in views) (view_of old).disks

  -- the records of the leaders fit
  pub recovered_fit : AllFit old.header.geometry.max_members elements
  recovered_fit = fits_all old.header.geometry elements can.leaders_can

  -- the leader's record of an element
  pub recovered_leads : (n : ℕ) (wanted : Wanted) → slice_get (all_wanted config) n ≡ Some wanted → (leader : HeldRecord) × (leading_record (before views) wanted.guid wanted.index ≡ Some leader) × HasPlan leader.element wanted.plan
  recovered_leads n wanted at =
      let is = is_read group sequence views n wanted at in (
        is.held,
        listed_leads (before views) wanted.guid wanted.index (read_listed group sequence views n wanted at) ∙ ap (λ (g : List ℕ). find_held g wanted.index elements) is.guid ∙ is.found,
        subst (λ (p : ElementPlan). HasPlan is.held.element p) (sym is.plan) (has_read (disks_in views) (find_note is.entry.guid wanted.index elements) is.held.element),
      )

  -- where nothing is made of an element there is no record of it
  lacking : (guid : List ℕ) (index : ℕ) → ((n : ℕ) (wanted : Wanted) (holding : Holding) → slice_get (all_wanted config) n ≡ Some wanted → make wanted ≡ Some holding → wanted.guid ≡ guid → wanted.index ≡ index → ⊥)
      → find_held guid index view.elements ≡ None
  unfolding recovered_copy recovered_holdings
  lacking guid index away =
      made_none old (before views).noted config timestamp disks (recovered_holdings old (before views) config) (led_apart old (before views) config can.names) can.records_fit guid index (λ k holding there g i.
      let from = filter_map_get make (all_wanted config) k holding there in
      let led = is_led old (before views) from.1 holding from.3 in
      away from.0 from.1 holding from.2 from.3 (ap (λ (w : Wanted). w.guid) (sym led.wanted_is) ∙ g) (ap (λ (w : Wanted). w.index) (sym led.wanted_is) ∙ i))

  -- of an element that isn't wanted there is no record
  pub recovered_away : (guid : List ℕ) (index : ℕ) → ((n : ℕ) (wanted : Wanted) → slice_get (all_wanted config) n ≡ Some wanted → wanted.guid ≡ guid → wanted.index ≡ index → ⊥) → find_held guid index view.elements ≡ None
  recovered_away guid index away = lacking guid index (λ n wanted holding at made g i. away n wanted at g i)

  -- the record of an element, if the disk is to hold it
  pub recovered_found : (n : ℕ) (wanted : Wanted) → slice_get (all_wanted config) n ≡ Some wanted → find_held wanted.guid wanted.index view.elements ≡ option_map (held_as (before views).noted) (make wanted)
  unfolding recovered_copy recovered_holdings
  recovered_found n wanted at = go (make wanted) refl
    where
      go : (o : Option Holding) → make wanted ≡ o → find_held wanted.guid wanted.index view.elements ≡ option_map (held_as (before views).noted) (make wanted)
      go None e =
          lacking wanted.guid wanted.index (λ k other holding there made g i.
          let same = wanted_one config can.names.elements k n other wanted there at g i in
          let got : None ≡ Some holding = sym e ∙ ap make (sym same) ∙ made in
          cc)
          ∙ sym (ap (option_map (held_as (before views).noted)) e)
      go (Some holding) e =
          let place = get_filter_map make (all_wanted config) n wanted holding at e in
          let led = is_led old (before views) wanted holding e in
          subst (λ (w : Wanted). find_held w.guid w.index view.elements ≡ Some (held_as (before views).noted holding)) led.wanted_is
          (made_found old (before views).noted config timestamp disks (recovered_holdings old (before views) config) (led_apart old (before views) config can.names) can.records_fit place.0 holding place.1)
          ∙ sym (ap (option_map (held_as (before views).noted)) e)

  -- what is made of an element has its plan
  pub made_plan : (n : ℕ) (wanted : Wanted) (holding : Holding) → slice_get (all_wanted config) n ≡ Some wanted → make wanted ≡ Some holding → HasPlan holding.element wanted.plan
  made_plan n wanted holding at made =
      let led = is_led old (before views) wanted holding made in
      let read = recovered_leads n wanted at in
      let leader : led.leader ≡ read.0 = some_same led.leads read.1 in
      subst (λ (x : ElementValue). HasPlan x wanted.plan) (sym led.element_is)
      (has_same led.leader.element (recovered_record old.header.geometry (own_record old wanted) led.leader.element) wanted.plan (led_same old.header.geometry (own_record old wanted) led.leader.element)
      (subst (λ (x : HeldRecord). HasPlan x.element wanted.plan) (sym leader) read.2))

  -- a record that is held gives its element
  recovered_given : (n : ℕ) (wanted : Wanted) → slice_get (all_wanted config) n ≡ Some wanted → option_map_or (λ held. gives_element held (Some wanted.plan)) (find_held wanted.guid wanted.index view.elements) true ≡ true
  recovered_given n wanted at = ap (λ o. option_map_or (λ (held : HeldRecord). gives_element held (Some wanted.plan)) o true) (recovered_found n wanted at) ∙ go (make wanted) refl
    where
      go : (o : Option Holding) → make wanted ≡ o → option_map_or (λ (held : HeldRecord). gives_element held (Some wanted.plan)) (option_map (held_as (before views).noted) (make wanted)) true ≡ true
      go None e = ap (λ o. option_map_or (λ (held : HeldRecord). gives_element held (Some wanted.plan)) (option_map (held_as (before views).noted) o) true) e
      go (Some holding) e =
          let led = is_led old (before views) wanted holding e in
          let has : HasPlan holding.element holding.wanted.plan = subst (λ (w : Wanted). HasPlan holding.element w.plan) (sym led.wanted_is) (made_plan n wanted holding at e) in
          let one : OneRebuilt holding.wanted.plan = subst (λ (w : Wanted). OneRebuilt w.plan) (sym led.wanted_is) (read_rebuilt group sequence views n wanted at) in
          ap (λ o. option_map_or (λ (held : HeldRecord). gives_element held (Some wanted.plan)) (option_map (held_as (before views).noted) o) true) e
          ∙ subst (λ (w : Wanted). gives_element (held_as (before views).noted holding) (Some w.plan) ≡ true) led.wanted_is (holding_gives (before views).noted holding one has)

  -- the record of an array's least element names its numbers
  recovered_numbers : (a : ℕ) (entry : List ℕ × Array) (pair : ℕ × Option ElementPlan) → slice_get config.arrays a ≡ Some entry → least_element entry.1.elements ≡ Some pair → names_numbers view.elements entry pair ≡ true
  unfolding read
  recovered_numbers a entry pair at least =
      let from = in_map (λ (row : ArrayEntry). (row.guid, array_in (disks_in views) elements row)) (arrays_in views) a entry at in
      let row = from.0 in
      let read_least : least_element (array_in (disks_in views) elements row).elements ≡ Some pair = ap (λ (x : List ℕ × Array). least_element x.1.elements) from.2 ∙ least in
      numbers a entry pair at (subst (λ (x : List ℕ × Array). IsNaming elements x.0 x.1 pair) from.2 (naming_is old.header.geometry.max_members (disks_in views) elements row pair recovered_fit read_least))
    where
      numbers : (a : ℕ) (entry : List ℕ × Array) (pair : ℕ × Option ElementPlan) → slice_get config.arrays a ≡ Some entry → IsNaming elements entry.0 entry.1 pair → names_numbers view.elements entry pair ≡ true
      numbers a entry pair at is = ap (λ o. option_map_or names o true) (recovered_found place.0 wanted place.1) ∙ go (make wanted) refl
        where
          wanted : Wanted
          wanted = record { guid = entry.0; array = entry.1; index = pair.0; plan = is.plan }

          place : (n : ℕ) × (slice_get (all_wanted config) n ≡ Some wanted)
          place = is_wanted config a pair.0 entry is.plan at is.there

          names : HeldRecord → Bool
          names held = eqb held.element.elements (length entry.1.elements) && eqb held.element.secondary entry.1.secondary

          go : (o : Option Holding) → make wanted ≡ o → option_map_or names (option_map (held_as (before views).noted) (make wanted)) true ≡ true
          go None e = ap (λ o. option_map_or names (option_map (held_as (before views).noted) o) true) e
          go (Some holding) e =
              let led = is_led old (before views) wanted holding e in
              let same = led_same old.header.geometry (own_record old wanted) led.leader.element in
              let leader : led.leader ≡ is.held = some_same led.found is.found in
              let count : holding.element.elements ≡ length entry.1.elements = ap (λ (x : ElementValue). x.elements) led.element_is ∙ sym same.count ∙ ap (λ (x : HeldRecord). x.element.elements) leader ∙ is.count in
              let level : holding.element.secondary ≡ entry.1.secondary = ap (λ (x : ElementValue). x.secondary) led.element_is ∙ sym same.secondary ∙ ap (λ (x : HeldRecord). x.element.secondary) leader ∙ is.level in
              let one : eqb holding.element.elements (length entry.1.elements) ≡ true = eq-eqb holding.element.elements (length entry.1.elements) count in
              let two : eqb holding.element.secondary entry.1.secondary ≡ true = eq-eqb holding.element.secondary entry.1.secondary level in
              ap (λ o. option_map_or names (option_map (held_as (before views).noted) o) true) e ∙ rw (one, two) refl

  -- all that the records give
  recovered_gives : GivesAll config view.elements
  recovered_gives = record { given = recovered_given; none = recovered_away; numbers = recovered_numbers }

  -- the entries have room
  recovered_few : length disks ≤ length old.disks.rows
  unfolding recovered_disks
  recovered_few =
      let long = length-map (disks_in views) (λ disk. disk_on (view_of old).disks (number_at w16 disk.rest DISK_BLOCK_SIZE_AT) disk) in
      let few = can.disks_fit in
      omega (arith, long, few)

  -- The copy that a recovery gives a disk shows the configuration.
  pub recovered_shows : shows config view ≡ true
  unfolding recovered_copy
  recovered_shows =
      copy_shows old (before views).noted config timestamp disks (recovered_holdings old (before views) config) recovered_few can.arrays_fit (members_led group sequence views (view_of old).disks)
      (elements_given config view.elements can.names recovered_gives)

  -- ---- where a leader has valid notes

  -- a field of the leader's record
  recovered_field : {X : Type 0} (f : ElementValue → X) → ((leader other : ElementValue) → AreSame leader other → f other ≡ f leader) → (before views).noted ≡ true → (n : ℕ) (wanted : Wanted) → slice_get (all_wanted config) n ≡ Some wanted
      → option_map (λ held. f held.element) (find_held wanted.guid wanted.index view.elements) ≡ option_map (λ held. f held.element) (find_held wanted.guid wanted.index elements)
  recovered_field {X = X} f same noted n wanted at =
      let read = recovered_leads n wanted at in
      let holds = led_noted old (before views) wanted read.0 noted read.1 in
      let led = is_led old (before views) wanted holds.0 holds.1 in
      let leader : led.leader ≡ read.0 = some_same led.leads read.1 in
      let is : f holds.0.element ≡ f read.0.element = ap f led.element_is ∙ same led.leader.element (recovered_record old.header.geometry (own_record old wanted) led.leader.element) (led_same old.header.geometry (own_record old wanted) led.leader.element)
      ∙ ap (λ (held : HeldRecord). f held.element) leader in
      ap (option_map (λ (held : HeldRecord). f held.element)) (recovered_found n wanted at)
      ∙ ap (λ o. option_map (λ (held : HeldRecord). f held.element) (option_map (held_as (before views).noted) o)) holds.1
      ∙ ap (λ (x : X). Some x) is
      ∙ sym (ap (option_map (λ (held : HeldRecord). f held.element)) (leading_held (before views) wanted.guid wanted.index read.0 read.1))

  -- each element is held
  recovered_holds : (before views).noted ≡ true → HoldsEach config view.elements
  recovered_holds noted n wanted at =
      let read = recovered_leads n wanted at in
      let holds = led_noted old (before views) wanted read.0 noted read.1 in
      ap (λ o. is_some o) (recovered_found n wanted at) ∙ ap (λ o. is_some (option_map (held_as (before views).noted) o)) holds.1

  -- the associated spares of each element of an array
  recovered_spares : (before views).noted ≡ true → (a : ℕ) (row : ArrayEntry) → slice_get (arrays_in views) a ≡ Some row → (i : ℕ) → i < count_in elements row.guid
      → option_map (λ held. held.element.spares) (find_held row.guid i view.elements) ≡ option_map (λ held. held.element.spares) (find_held row.guid i elements)
  unfolding read array_in
  recovered_spares noted a row at i lt = go (element_in (disks_in views) elements row.guid i) refl
    where
      entry : List ℕ × Array
      entry = (row.guid, array_in (disks_in views) elements row)

      there : slice_get config.arrays a ≡ Some entry
      there = mapped_at (λ (one : ArrayEntry). (one.guid, array_in (disks_in views) elements one)) (arrays_in views) a row at

      element : slice_get entry.1.elements i ≡ Some (element_in (disks_in views) elements row.guid i)
      element =
          let place = get_range 0 (count_in elements row.guid) i lt in
          let here : place.0 ≡ i = place.1 ∙ omega arith in
          mapped_at (element_in (disks_in views) elements row.guid) (range_with_len 0 (count_in elements row.guid)) i place.0 place.2 ∙ ap (λ (n : ℕ). Some (element_in (disks_in views) elements row.guid n)) here

      go : (o : Option ElementPlan) → element_in (disks_in views) elements row.guid i ≡ o → option_map (λ held. held.element.spares) (find_held row.guid i view.elements) ≡ option_map (λ held. held.element.spares) (find_held row.guid i elements)
      go None e =
          let none = not_there (disks_in views) (find_note row.guid i elements) (find_held row.guid i elements) e in
          let gone = recovered_away row.guid i (not_wanted config a i entry can.names there (inl (element ∙ ap (λ (o : Option ElementPlan). Some o) e))) in
          ap (option_map (λ (held : HeldRecord). held.element.spares)) gone ∙ sym (ap (option_map (λ (held : HeldRecord). held.element.spares)) none)
      go (Some plan) e =
          let wanted = is_wanted config a i entry plan there (element ∙ ap (λ (o : Option ElementPlan). Some o) e) in
          recovered_field (λ (x : ElementValue). x.spares) (λ leader other same. sym same.spares) noted wanted.0 (record { guid = row.guid; array = entry.1; index = i; plan = plan }) wanted.1

  -- A disk is associated with an array as the leaders say.
  associated_led : (before views).noted ≡ true → (reference a : ℕ) (row : ArrayEntry) → slice_get (arrays_in views) a ≡ Some row → is_associated (elements_in (view ∷ [])) reference row.guid ≡ is_associated elements reference row.guid
  unfolding read array_in
  associated_led noted reference a row at =
      let entry : List ℕ × Array = (row.guid, array_in (disks_in views) elements row) in
      let there : slice_get config.arrays a ≡ Some entry = mapped_at (λ (one : ArrayEntry). (one.guid, array_in (disks_in views) elements one)) (arrays_in views) a row at in
      let gives : Gives entry view = list_all_read (gives_elements view.elements) config.arrays a entry (elements_given config view.elements can.names recovered_gives) there in
      let has : Holds entry view = list_all_read (holds_all view.elements) config.arrays a entry (elements_held config view.elements (recovered_holds noted)) there in
      let readable = all_at (λ (one : List ℕ × Array). IsReadable one.1) config.arrays a entry (read_readable old.header.geometry.max_members group sequence views recovered_fit) there in
      let count : length entry.1.elements ≡ count_in elements row.guid = length-map-range_with_len (element_in (disks_in views) elements row.guid) 0 (count_in elements row.guid) in
      ap (λ (list : List HeldRecord). list_any (λ held. contains held.element.spares reference) list) (records_read entry view [] readable gives has tt)
      ∙ ap (λ (n : ℕ). list_any (λ held. contains held.element.spares reference) (filter_map (λ i. find_held row.guid i view.elements) (range_with_len 0 n))) count
      ∙ any_alike (λ spares. contains spares reference) (λ i. find_held row.guid i view.elements) (λ i. find_held row.guid i elements) 0 (count_in elements row.guid)
      (λ i lt. let here : 0 + i ≡ i = omega arith in subst (λ (n : ℕ). option_map (λ (held : HeldRecord). held.element.spares) (find_held row.guid n view.elements) ≡ option_map (λ (held : HeldRecord). held.element.spares) (find_held row.guid n elements)) (sym here)
      (recovered_spares noted a row at i lt))

  -- the entries of the arrays
  pub recovered_arrays : view.arrays ≡ arrays_after config (view_of old).arrays
  unfolding recovered_copy
  recovered_arrays = copy_arrays old (before views).noted config timestamp disks (recovered_holdings old (before views) config) can.arrays_fit

  -- the entries of the disks
  pub recovered_disks_are : view.disks ≡ disks_for old.header.revision (before views).noted config disks
  unfolding recovered_copy
  recovered_disks_are = copy_disks old (before views).noted config timestamp disks (recovered_holdings old (before views) config) recovered_few

  -- there are valid notes where a leader has some
  recovered_noted : view.noted ≡ (before views).noted
  unfolding recovered_copy
  recovered_noted = made_noted old (before views).noted config timestamp disks (recovered_holdings old (before views) config) (led_apart old (before views) config can.names) can.records_fit

  -- the spare use of each member
  spare_led : (before views).noted ≡ true → (disk : DiskEntry) → gives_spare view (disk_on (view_of old).disks (number_at w16 disk.rest DISK_BLOCK_SIZE_AT) disk) (member_entry_in views disk) ≡ true
  unfolding spare_in arrays_after read
  spare_led noted disk =
      let own = (view_of old).arrays in
      let make_row = λ (row : ArrayEntry). array_on own (row.guid, array_in (disks_in views) elements row) in
      let one_noted : are_noted (view ∷ []) ≡ true = rw (recovered_noted ∙ noted) refl in
      let arrays : view.arrays ≡ map make_row (arrays_in views) = recovered_arrays ∙ map-map (array_on own) (λ (row : ArrayEntry). (row.guid, array_in (disks_in views) elements row)) (arrays_in views) in
      let listed : map (λ row. row.guid) (filter (is_dedicated (view ∷ []) disk.reference) view.arrays) ≡ map (λ row. row.guid) (filter (is_dedicated views disk.reference) (arrays_in views)) =
      ap (λ (rows : List ArrayEntry). map (λ row. row.guid) (filter (is_dedicated (view ∷ []) disk.reference) rows)) arrays
      ∙ names_alike (is_dedicated (view ∷ []) disk.reference) (is_dedicated views disk.reference) make_row (λ row. refl) (arrays_in views) (λ a row at.
      dedicated_noted (view ∷ []) disk.reference (make_row row) one_noted ∙ ap (λ (b : Bool). b || false) (associated_led noted disk.reference a row at) ∙ sym (dedicated_noted views disk.reference row noted)) in
      ap (λ (names : List (List ℕ)). same_spare (spare_of_kind disk.kind.0 (dedicated_or_not names)) (spare_in views disk)) listed ∙ spare_again (spare_in views disk)

  -- Where a leader has valid notes it shows the configuration fully.
  pub recovered_fully : (before views).noted ≡ true → shows_fully config view ≡ true
  unfolding shows_fully recovered_disks disks_for read
  recovered_fully noted =
      let held = elements_held config view.elements (recovered_holds noted) in
      let spares : pointwise (gives_spare view) view.disks config.members ≡ true =
      ap (λ (list : List DiskEntry). pointwise (gives_spare view) list config.members) recovered_disks_are
      ∙ filled_spares old.header.revision (before views).noted (all_wanted config) view disks config.members
      ∙ both_made (gives_spare view) (λ disk. disk_on (view_of old).disks (number_at w16 disk.rest DISK_BLOCK_SIZE_AT) disk) (member_entry_in views) (spare_led noted) (disks_in views) in
      let a = shows config view in
      let b = view.noted in
      let c = list_all (holds_all view.elements) config.arrays in
      let d = pointwise (gives_spare view) view.disks config.members in
      and_from (a && b && c) d (and_from (a && b) c (and_from a b recovered_shows (recovered_noted ∙ noted)) held) spares

  -- and each of its records has a note
  pub recovered_has_notes : (before views).noted ≡ true → HasNotes view
  unfolding recovered_copy
  recovered_has_notes noted = made_has_notes old (before views).noted config timestamp disks (recovered_holdings old (before views) config) (led_apart old (before views) config can.names) can.records_fit noted
