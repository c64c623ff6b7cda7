-- The slots of disks that were just labelled are assembled to the group that they were labelled as.
use Rattle.std.proofs.Common.{◌≡◌, ℕ, zero, suc, ◌+◌, ◌-◌, ◌<◌, ◌≤◌, ◌==◌, ◌&&◌, not, Bool, true, false, List, [], ◌∷◌, ◌++◌, length, map, replicate, Option, Some, None, Result, Ok, Err, if◌then◌else◌, refl, ap, sym, ◌∙◌, subst, inl, inr, arith, zero-add}
use Rattle.std.proofs.lemmas.Bool.{cases_lt, eq-eqb, ne_eqb, or_left}
use Rattle.std.proofs.lemmas.List.{length-map}
use Rattle.std.proofs.lemmas.List.FromFn.{length-map-range_with_len}
use Rattle.std.proofs.lemmas.Option.{get_or_from_slice_get, slice_get_past, slice_get_within}
use Rattle.std.specs.Prelude.{filter_map, option_map, slice_get, slice_index, unwrap_or}
use Rattle.std.specs.List.{AllByRecursion, enumerate_from, list_any, range_with_len}
use Rattle.std.specs.Option.{option_and_then, option_map_or}
use Rattle.std.specs.Str.{bytes_eq}
use Rattle.std.proofs.lemmas.Map.Keys.{any_passes_from_place}
use Rattle.ddf_lemmas.proofs.Lists.{bytes_same, in_map, mapped_at, none_kept, range_at, range_get}
use Rattle.ddf_bytes.specs.Choices.{when}
use Rattle.ddf_bytes.specs.declared.stamp.Stamp.{Stamp}
use Rattle.ddf_header.specs.declared.kind.Revision.{Revision}
use Rattle.ddf_tables.specs.declared.disks.DiskEntry.{DiskEntry}
use Rattle.ddf_tables.specs.declared.disks.DiskRow.TheVariants.{Unused}
use Rattle.ddf_config.specs.declared.member.Member.{Member}
use Rattle.ddf_config.specs.declared.seat.Seat.{Seat}
use Rattle.ddf_config.specs.Configuration.{Configuration}
use Rattle.ddf_copy.specs.declared.newest_copy.Newest.{Newest}
use Rattle.ddf_copy.specs.declared.newest_copy.Newest.TheVariants as newests
use Rattle.ddf_copy.specs.declared.which.Which.TheVariants.{Primary}
use Rattle.ddf_copy.specs.Copies.{standing_copy}
use Rattle.ddf_update.specs.declared.new_layout.NewLayout.TheVariants.{Small}
use Rattle.ddf_update.specs.NewCopies.{disk_guid, entries_from, group_of as name_of, new_copy, reference_at as new_reference}
use Rattle.ddf_view.specs.Differ.{difference}
use Rattle.ddf_view.specs.Reading.{member_entry_in, read, spare_in}
use Rattle.ddf_view.specs.View.{View, disk_of, lists_current, lists_itself, view_of}
use Rattle.ddf_group.specs.declared.answer.Assembly.{Assembly}
use Rattle.ddf_group.specs.declared.answer.Assembly.TheVariants.{NoGroup}
use Rattle.ddf_group.specs.declared.answer.Differ.TheVariants as differs
use Rattle.ddf_group.specs.declared.shown.Shown.{Shown}
use Rattle.ddf_group.specs.declared.shown.Shown.TheVariants.{Level, Nothing}
use Rattle.ddf_group.specs.Assembled.{absent, assembled, assembled_as, assembled_group, config_of, has_config, has_reference, is_absent, lagging, leading_views, unless_contradicted}
use Rattle.ddf_group.specs.Choice.{chosen, is_shown}
use Rattle.ddf_group.specs.Conflicts.{concerned, contradiction, in_conflict, is_concerned, lists_missing_in, same_reference, sequence_of, twin_of, twins}
use Rattle.ddf_group.specs.Shown.{shown_of}
use Rattle.ddf_group.specs.Slots.{claimed, claims, claims_by, leaders, leads, numbers, reference_at, sequence_in, shows_group, slot_at, view_in}
use Rattle.ddf_rewrite.proofs.Lists.{enumerated_get}
use Rattle.ddf_history.specs.Groups.{ShowsFully}
use Rattle.ddf_seats.specs.Group.{GroupValue, seat_at, seat_of, seats_of}
use Rattle.ddf_assembly.specs.Group.{group_as, group_of, group_or_fault}
use Rattle.ddf_assembly.proofs.LeftBefore.{level_at}
use Rattle.ddf_recovery.proofs.LeftLists.{IsNoneOf}
use Rattle.ddf_recovery.proofs.LeftSlots.{IsLeft, IsWritten, claimed_are, leaders_are, not_contradicted}
use Rattle.ddf_steps.proofs.Rewritten.{closed_view}
use Rattle.ddf_assembly.proofs.SettledLists.{find_kept}
use Rattle.ddf_assembly.proofs.SettledSeats.{filter_rises}
use Rattle.ddf_history_steps.specs.Founding.{founding_config}
use Rattle.ddf_history_steps.proofs.Founding.{view_at, view_shows}
use Rattle.ddf_history_steps.proofs.FoundingRows.{new_disk_list, new_lists, new_view}
use Rattle.ddf_history_steps.proofs.FoundingViews.{plain_agree, plain_view}
use Rattle.ddf_uncut_group.specs.Labelled.{labelled_config, labelled_copy, labelled_group, labelled_member, labelled_newest, labelled_seat}
use Rattle.ddf_uncut_group.proofs.PlainCopies.{new_plain, plain_seat, written_plain}
use Rattle.ddf_uncut_group.proofs.PlainRanges.{made_all, made_placed, none_past, range_rises, range_within, rising_none}

-- ---- the configuration

module _ (revision : Revision) (stamp : Stamp) (others : List View) (group guid : List ℕ) (reference : ℕ) (all : List DiskEntry) where
  -- views of which the first has no array
  abbrev views : List View
  views = plain_view group guid reference all ∷ others

  -- An unused row is read as no member.
  none_read : (unused : ℕ) → map (member_entry_in views) (filter_map disk_of (replicate unused (Unused (replicate 64 255)))) ≡ []
  none_read zero = refl
  none_read (suc unused) = none_read unused

  -- The rows of disks are read as their members.
  members_read : (place : ℕ) (sizes : List ℕ) (unused : ℕ)
      → map (member_entry_in views) (filter_map disk_of (entries_from Small revision stamp place sizes ++ replicate unused (Unused (replicate 64 255))))
      ≡ map (labelled_member stamp) (enumerate_from place sizes)
  unfolding spare_in
  members_read place [] unused = none_read unused
  members_read place (size ∷ sizes) unused =
      let next : suc place ≡ place + 1 = omega arith in
      ap (λ members. labelled_member stamp (place, size) ∷ members)
      (members_read (suc place) sizes unused ∙ ap (λ (n : ℕ). map (labelled_member stamp) (enumerate_from n sizes)) next)

with_members : Stamp → List (ℕ × Member) → Configuration
with_members stamp members = record { group = name_of stamp; sequence = 1; members = members; arrays = [] }

-- What the views of labelled disks give together.
views_read : (revision : Revision) (stamp : Stamp) (sizes : List ℕ) (others : List View) → read (name_of stamp) 1 (view_at Small revision stamp sizes 0 ∷ others) ≡ labelled_config stamp sizes
unfolding read with_members
views_read revision stamp sizes others =
    ap (with_members stamp) (members_read revision stamp others (name_of stamp) (disk_guid stamp 0) (new_reference stamp 0) (new_disk_list Small revision stamp sizes) 0 sizes (15 - length sizes))

-- The founding configuration is this.
pub founding_labelled : (revision : Revision) (stamp : Stamp) (sizes : List ℕ) → founding_config (new_copy Small revision stamp sizes) ≡ labelled_config stamp sizes
founding_labelled revision stamp sizes =
    ap (λ (view : View). read (name_of stamp) 1 (view ∷ [])) (new_view Small revision stamp sizes 0) ∙ views_read revision stamp sizes []

-- The view of each copy shows it fully.
pub labelled_shows : (revision : Revision) (stamp : Stamp) (sizes : List ℕ) (place : ℕ) → ShowsFully (view_of (labelled_copy revision stamp sizes place)) (labelled_config stamp sizes)
labelled_shows revision stamp sizes place =
    subst (λ (view : View). ShowsFully view (labelled_config stamp sizes)) (sym (closed_view (new_copy Small revision stamp sizes place) ∙ new_view Small revision stamp sizes place))
    (subst (λ (config : Configuration). ShowsFully (view_at Small revision stamp sizes place) config) (founding_labelled revision stamp sizes) (view_shows Small revision stamp sizes place))

found_ok : GroupValue → Result GroupValue Assembly
found_ok found = Ok found

-- ---- the slots

module _ (revision : Revision) (stamp : Stamp) (size : ℕ) (more : List ℕ) where
  abbrev sizes : List ℕ
  sizes = size ∷ more

  abbrev count : ℕ
  count = length sizes

  abbrev newest : List (Option Newest)
  newest = labelled_newest revision stamp sizes

  abbrev slots : List Shown
  slots = map shown_of newest

  abbrev group : List ℕ
  group = name_of stamp

  abbrev places : List ℕ
  places = range_with_len 0 count

  abbrev view : (place : ℕ) → View
  view place = view_at Small revision stamp sizes place

  -- The newest copy of a slot is the one that it got.
  pub newest_there : (place : ℕ) → place < count → slice_get newest place ≡ Some (Some (newests.Level (labelled_copy revision stamp sizes place)))
  newest_there place low = mapped_at (λ place. Some (newests.Level (labelled_copy revision stamp sizes place))) places place place (range_at count place low)

  newest_long : length newest ≡ count
  newest_long = length-map-range_with_len (λ place. Some (newests.Level (labelled_copy revision stamp sizes place))) 0 count

  slots_long : length slots ≡ count
  slots_long = length-map newest shown_of ∙ newest_long

  shown_here : (place : ℕ) → place < count → slot_at slots place ≡ Level (view place)
  shown_here place low =
      level_at newest place (labelled_copy revision stamp sizes place) (newest_there place low)
      ∙ ap (λ (one : View). Level one) (closed_view (new_copy Small revision stamp sizes place) ∙ new_view Small revision stamp sizes place)

  shown_past : (place : ℕ) → count ≤ place → slot_at slots place ≡ Nothing
  shown_past place past =
      let long = slots_long in
      ap (λ (found : Option Shown). unwrap_or found Nothing) (slice_get_past slots place (omega (arith, long, past)))

  same_view : (one other : View) → ◌≡◌ {A = Shown} (Level one) (Level other) → one ≡ other
  same_view one other same = cc

  -- A written slot is one of the bay, and shows its view.
  written_is : (slot : ℕ) (one : View) → IsWritten slots places slot one → (slot < count) × (one ≡ view slot)
  written_is slot one is =
      let placed = range_get 0 count is.place slot is.at in
      let same = placed.0 in
      let below = placed.1 in
      let low : slot < count = omega (arith, same, below) in
      (low, same_view one (view slot) (sym is.shown ∙ shown_here slot low))

  lists_own : (place : ℕ) → place < count → lists_itself (view place) ≡ true
  lists_own place low = new_lists Small revision stamp sizes group (disk_guid stamp place) (new_reference stamp place) place low

  view_shown : (place : ℕ) → place < count → shows_group group (Level (view place)) ≡ true
  view_shown place low =
      ap (λ (own : Bool). option_map_or (bytes_eq group) (option_map (λ (one : View). one.group) (if own then Some (view place) else None)) false) (lists_own place low)
      ∙ bytes_same group

  past_shown : (slot : ℕ) → IsNoneOf places slot → slot_at slots slot ≡ Nothing
  past_shown slot none = shown_past slot (none_past count slot none)

  -- ---- their references

  reference_here : (place : ℕ) → place < count → reference_at slots place ≡ Some (new_reference stamp place)
  reference_here place low = ap (λ (shown : Shown). option_map (λ (one : View). one.reference) (view_in shown)) (shown_here place low)

  reference_past : (place : ℕ) → count ≤ place → reference_at slots place ≡ None
  reference_past place past = ap (λ (shown : Shown). option_map (λ (one : View). one.reference) (view_in shown)) (shown_past place past)

  other_reference : (one other : ℕ) → one < other → (new_reference stamp one == new_reference stamp other) ≡ false
  other_reference one other less = ne_eqb (new_reference stamp one) (new_reference stamp other) (λ (same : new_reference stamp one ≡ new_reference stamp other). absurd (omega (arith, same, less)))

  none_same : (one other : ℕ) → one < other → same_reference (reference_at slots one) (reference_at slots other) ≡ None
  none_same one other less = elim (cases_lt other count) [
    | inl low ↦
        ap (λ (found : Option ℕ). same_reference found (reference_at slots other)) (reference_here one (omega (arith, less, low)))
        ∙ ap (same_reference (Some (new_reference stamp one))) (reference_here other low)
        ∙ ap (λ (same : Bool). when same (new_reference stamp one)) (other_reference one other less)
    | inr past ↦ ap (same_reference (reference_at slots one)) (reference_past other past) ∙ none_with (reference_at slots one)
  ]
    where
      none_with : (found : Option ℕ) → same_reference found None ≡ None
      none_with None = refl
      none_with (Some reference) = refl

  none_twin : twins slots group ≡ None
  none_twin =
      rising_none (twin_of slots group)
      (λ one other less. ap (option_map (λ reference. in_conflict slots group one other (differs.Twin reference))) (none_same one other less))
      (concerned slots group) (filter_rises (is_concerned slots group) 0 (length slots))

  -- ---- what they are

  -- All slots show the group, agree, and lead.
  all_left : IsLeft group 1 slots slots places
  all_left = record {
    same_length = refl;
    rise = range_rises 0 count;
    within = subst (λ (end : ℕ). AllByRecursion (λ slot. slot < end) places) (zero-add count ∙ sym slots_long) (range_within 0 count);
    views = λ place slot at.
        let placed = range_get 0 count place slot at in
        let same = placed.0 in
        let below = placed.1 in
        (view slot, shown_here slot (omega (arith, same, below)));
    others = λ slot none. refl;
    shows = λ slot one is.
        let own = written_is slot one is in
        subst (λ (shown : View). shows_group group (Level shown) ≡ true) (sym own.1) (view_shown slot own.0);
    sequences = λ slot one is. ap (λ (shown : View). shown.sequence) (written_is slot one is).1;
    older = λ slot none shown.
        let nothing : shows_group group Nothing ≡ true = subst (λ (one : Shown). shows_group group one ≡ true) (past_shown slot none) shown in
        absurd cc;
    lists = λ i j one other is its.
        let own = written_is i one is in
        let of = written_is j other its in
        subst (λ (first : View). lists_current first other.guid other.reference ≡ true) (sym own.1)
        (subst (λ (second : View). lists_current (view i) second.guid second.reference ≡ true) (sym of.1)
        (new_lists Small revision stamp sizes group (disk_guid stamp i) (new_reference stamp i) j of.0));
    foreign = λ i j one is none. ap (claims_by (Some one)) (past_shown j none);
    agree = λ i j one other is its.
        ap (λ (first : View). difference first other) (written_is i one is).1
        ∙ ap (difference (view i)) (written_is j other its).1
        ∙ plain_agree group (disk_guid stamp i) (disk_guid stamp j) (new_reference stamp i) (new_reference stamp j) (new_disk_list Small revision stamp sizes);
    were_concerned = λ place slot at.
        let placed = range_get 0 count place slot at in
        let same = placed.0 in
        let below = placed.1 in
        let low : slot < count = omega (arith, same, below) in
        or_left (shows_group group (slot_at slots slot)) (claims slots group slot) (ap (shows_group group) (shown_here slot low) ∙ view_shown slot low);
    same_references = λ place slot at. refl;
    none_missing = λ i j one is none shown. ap (λ (other : Shown). lists_missing_in other one.guid one.reference) (past_shown j none);
    no_twins = none_twin;
  }

  abbrev behind : List ℕ
  behind = range_with_len 1 (length more)

  leaders_all : leaders slots group ≡ places
  leaders_all = leaders_are group 1 slots slots 0 behind all_left

  claimed_all : claimed slots group ≡ places
  claimed_all = claimed_are group 1 slots slots 0 behind all_left

  none_contradicts : contradiction slots group ≡ None
  none_contradicts = not_contradicted group 1 slots slots 0 behind all_left

  -- ---- what they give

  sequence_is : sequence_of slots group ≡ 1
  unfolding leaders
  sequence_is =
      ap (λ (found : Option ℕ). option_map_or (λ n. sequence_in (slot_at slots n)) found 0) (find_kept (leads slots group) (numbers slots) 0 behind leaders_all)
      ∙ ap sequence_in (shown_here 0 (omega arith))

  views_are : leading_views slots group ≡ map view places
  views_are =
      ap (λ (all : List ℕ). filter_map (λ slot. view_in (slot_at slots slot)) all) leaders_all
      ∙ made_all (λ slot. view_in (slot_at slots slot)) view places
      (λ k slot at.
      let placed = range_get 0 count k slot at in
      let same = placed.0 in
      let below = placed.1 in
      ap view_in (shown_here slot (omega (arith, same, below))))

  config_is : config_of slots group ≡ labelled_config stamp sizes
  unfolding config_of
  config_is =
      ap (λ (n : ℕ). read group n (leading_views slots group)) sequence_is
      ∙ ap (read group 1) views_are
      ∙ views_read revision stamp sizes (map view behind)

  -- The disk of each member is there.
  none_absent : absent slots places (labelled_config stamp sizes).members ≡ []
  none_absent =
      ap (map (λ (member : ℕ × Member). member.0))
      (none_kept (is_absent slots places) (map (labelled_member stamp) (enumerate_from 0 sizes)) fails)
    where
      fails : (k : ℕ) (member : ℕ × Member) → slice_get (map (labelled_member stamp) (enumerate_from 0 sizes)) k ≡ Some member → is_absent slots places member ≡ false
      fails k member at =
          let of = in_map (labelled_member stamp) (enumerate_from 0 sizes) k member at in
          let disk = enumerated_get 0 sizes k of.0 of.1 in
          let low = slice_get_within sizes k of.0.1 disk.1 in
          let place : of.0.0 ≡ k = let there = disk.0 in omega (arith, there) in
          let reference : new_reference stamp k ≡ member.0 = ap (new_reference stamp) (sym place) ∙ ap (λ (one : ℕ × Member). one.0) of.2 in
          let here : has_reference slots member.0 k ≡ true =
          ap (λ (found : Option ℕ). option_map_or (λ one. one == member.0) found false) (reference_here k low) ∙ eq-eqb (new_reference stamp k) member.0 reference in
          let seated : list_any (has_reference slots member.0) places ≡ true = any_passes_from_place (has_reference slots member.0) places k k (range_at count k low) here in
          let there : member.1.missing ≡ false = ap (λ (one : ℕ × Member). one.1.missing) (sym of.2) in
          ap (λ (missing : Bool). not missing && not (list_any (has_reference slots member.0) places)) there ∙ ap not seated

  -- Each slot has the configuration in two level copies.
  none_lags : lagging slots places (labelled_config stamp sizes) ≡ []
  none_lags =
      none_kept (λ slot. not (has_config (labelled_config stamp sizes) (slot_at slots slot))) places
      (λ k slot at.
      let placed = range_get 0 count k slot at in
      let same = placed.0 in
      let below = placed.1 in
      let low : slot < count = omega (arith, same, below) in
      let copy = labelled_copy revision stamp sizes slot in
      ap (λ (shown : Shown). not (has_config (labelled_config stamp sizes) shown)) (level_at newest slot copy (newest_there slot low))
      ∙ ap not (labelled_shows revision stamp sizes slot).shows.shows)

  -- The seats are those of the copies.
  seats_are : seats_of newest places ≡ map (labelled_seat stamp) (enumerate_from 0 sizes)
  seats_are = made_placed (seat_at newest) (labelled_seat stamp) 0 sizes by
    where
      by : (k : ℕ) (one : ℕ) → slice_get sizes k ≡ Some one → seat_at newest (0 + k) ≡ Some (labelled_seat stamp (0 + k, one))
      by k one at =
          let low = slice_get_within sizes k one at in
          let copy = labelled_copy revision stamp sizes k in
          let here : 0 + k ≡ k = omega arith in
          let length_is : slice_index sizes k ≡ one = get_or_from_slice_get sizes k one 0 at in
          let found : seat_at newest k ≡ Some (seat_of k copy) = ap (λ (there : Option (Option Newest)). option_map (seat_of k) (option_and_then (λ one. option_and_then standing_copy one) there)) (newest_there k low) in
          let seat : seat_of k copy ≡ labelled_seat stamp (k, slice_index sizes k) = plain_seat (slice_index sizes k) k copy (written_plain (slice_index sizes k) (new_copy Small revision stamp sizes k) Primary (new_plain revision stamp sizes k)) in
          subst (λ (n : ℕ). seat_at newest n ≡ Some (labelled_seat stamp (n, one))) (sym here)
          (found ∙ ap (λ (own : Seat). Some own) seat ∙ ap (λ (sectors : ℕ). Some (labelled_seat stamp (k, sectors))) length_is)

  -- The group is shown.
  shown_by_one : is_shown slots group ≡ true
  shown_by_one =
      any_passes_from_place (λ slot. shows_group group (slot_at slots slot)) (numbers slots) 0 0 (range_at (length slots) 0 (let long = slots_long in omega (arith, long)))
      (ap (shows_group group) (shown_here 0 (omega arith)) ∙ view_shown 0 (omega arith))

  made_group : Configuration → List Seat → (absent lagging : List ℕ) → GroupValue
  made_group config seats absent lagging = record { config = config; seats = seats; absent = absent; lagging = lagging; newest = newest }

  -- What they are assembled to is the labelled group.
  group_made : group_as newest (assembled_as slots (claimed slots group) (config_of slots group)) ≡ labelled_group revision stamp sizes
  unfolding assembled_as made_group
  group_made =
      ap (λ (own : List ℕ). group_as newest (assembled_as slots own (config_of slots group))) claimed_all
      ∙ ap (λ (config : Configuration). group_as newest (assembled_as slots places config)) config_is
      ∙ ap (λ (seats : List Seat). made_group (labelled_config stamp sizes) seats (absent slots places (labelled_config stamp sizes).members) (lagging slots places (labelled_config stamp sizes))) seats_are
      ∙ ap (λ (gone : List ℕ). made_group (labelled_config stamp sizes) (map (labelled_seat stamp) (enumerate_from 0 sizes)) gone (lagging slots places (labelled_config stamp sizes))) none_absent
      ∙ ap (λ (behind_it : List ℕ). made_group (labelled_config stamp sizes) (map (labelled_seat stamp) (enumerate_from 0 sizes)) [] behind_it) none_lags

  pub labelled_found : group_of newest (Some group) ≡ Ok (labelled_group revision stamp sizes)
  unfolding group_of assembled chosen found_ok
  labelled_found =
      ap (λ (shown : Bool). group_or_fault newest (assembled_group slots (if shown then Ok group else Err NoGroup))) shown_by_one
      ∙ ap (λ (fault : Option Assembly). group_or_fault newest (unless_contradicted slots group fault)) none_contradicts
      ∙ ap (λ (found : GroupValue). found_ok found) group_made
