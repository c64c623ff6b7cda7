-- What newest copies give of which each, where there is one, is that of a disk that shows one configuration.
use Rattle.std.proofs.Common.{◌≡◌, ℕ, suc, ◌<◌, Bool, true, false, not, ◌||◌, List, [], ◌∷◌, length, map, filter, Option, Some, None, Ok, Err, refl, ap, sym, ◌∙◌, subst, arith, zero-add, if◌then◌else◌}
use Rattle.std.proofs.lemmas.Bool.{false≢true, or_left}
use Rattle.std.proofs.lemmas.List.{length-map}
use Rattle.std.specs.Prelude.{filter_map, option_map, slice_get}
use Rattle.std.specs.List.{range_with_len}
use Rattle.std.specs.Option.{option_and_then, option_map_or}
use Rattle.std.proofs.lemmas.Map.Keys.{any_passes_from_place}
use Rattle.std.proofs.lemmas.Option.{slice_get_within}
use Rattle.ddf_lemmas.proofs.Lists.{all_from, filter_all, in_map, none_kept}
use Rattle.ddf_lemmas.proofs.Options.{none_from_map}
use Rattle.ddf_copy.specs.declared.newest_copy.Newest.{Newest}
use Rattle.ddf_copy.specs.declared.newest_copy.Newest.TheVariants as newests
use Rattle.ddf_copy.specs.Copies.{standing_copy}
use Rattle.ddf_config.specs.declared.seat.Seat.{Seat}
use Rattle.ddf_config.specs.Configuration.{Configuration}
use Rattle.ddf_view.specs.Differ.{difference}
use Rattle.ddf_view.specs.Reading.{read}
use Rattle.ddf_view.specs.Shows.{shows}
use Rattle.ddf_view.specs.View.{View, lists_current, view_of}
use Rattle.ddf_view.proofs.Agreement.{read_together, shown_from}
use Rattle.ddf_group.specs.declared.shown.Shown.{Shown}
use Rattle.ddf_group.specs.declared.shown.Shown.TheVariants.{Level, Nothing}
use Rattle.ddf_group.specs.declared.answer.Assembly.{Assembly}
use Rattle.ddf_group.specs.declared.answer.Assembly.TheVariants.{NoGroup}
use Rattle.ddf_group.specs.Assembled.{absent, assembled, assembled_as, assembled_group, config_of, has_config, lagging, leading_views, unless_contradicted}
use Rattle.ddf_group.specs.Choice.{chosen, is_shown}
use Rattle.ddf_group.specs.declared.answer.Differ.TheVariants as differs
use Rattle.ddf_group.specs.Conflicts.{contradiction, in_conflict, is_concerned, same_reference, sequence_of, twin_of, twins}
use Rattle.ddf_group.specs.Pairs.{first_pair}
use Rattle.ddf_group.specs.Shown.{shown_of}
use Rattle.ddf_group.specs.Slots.{claimed, claims, claims_by, leaders, leading_view, leads, numbers, reference_at, sequence_in, shows_group, slot_at, view_in}
use Rattle.ddf_history.specs.Groups.{ShowsFully}
use Rattle.ddf_rewrite.proofs.Lists.{all_mapped, get_range}
use Rattle.ddf_seats.specs.declared.seated.Seated.{Seated}
use Rattle.ddf_seats.specs.Group.{GroupValue, seat_at, seat_of, seats_of}
use Rattle.ddf_assembly.specs.Group.{group_as, group_of, group_or_fault}
use Rattle.ddf_seats.specs.Seated.{seats_in, slots_in, views_in}
use Rattle.ddf_seats.specs.Changing.{SlotsRise}
use Rattle.ddf_assembly.proofs.LeftBefore.{level_at, shows_own, shows_within}
use Rattle.ddf_recovery.proofs.LeftLists.{IsNoneOf, pair_kept}
use Rattle.ddf_assembly.proofs.LeftMembers.{AreApart, IsCurrentIn, lists_from}
use Rattle.ddf_recovery.proofs.LeftSlots.{IsLeft, IsWritten, claimed_are, leaders_are, not_contradicted}
use Rattle.ddf_assembly.proofs.SettledLists.{find_kept}
use Rattle.ddf_recovery.proofs.LeftStep.{rise_of}

-- ---- disks that tell a configuration

-- The newest copy of a disk's slot is its level one, its seat is made of that, it shows the configuration, and lists the disk as a current member.
pub record IsTelling (newest : List (Option Newest)) (config : Configuration) (disk : Seated) : Type 0 where
  pub is_newest : slice_get newest disk.seat.slot ≡ Some (Some (newests.Level disk.copy))
  pub is_seat : disk.seat ≡ seat_of disk.seat.slot disk.copy
  pub is_shown : shows config (view_of disk.copy) ≡ true
  pub is_current : IsCurrentIn config.members (view_of disk.copy).guid (view_of disk.copy).reference

-- These disks tell the configuration, on slots that rise; no other slot shows anything, they agree, what they say together is the configuration, and no
-- two of them have one reference.
pub record AreTelling (newest : List (Option Newest)) (config : Configuration) (disks : List Seated) : Type 0 where
  pub rise : SlotsRise (seats_in disks)
  pub each : (k : ℕ) (disk : Seated) → slice_get disks k ≡ Some disk → IsTelling newest config disk
  pub none_else : (slot : ℕ) → IsNoneOf (slots_in disks) slot → slot_at (map shown_of newest) slot ≡ Nothing
  pub agree : (i j : ℕ) (one other : Seated) → slice_get disks i ≡ Some one → slice_get disks j ≡ Some other → difference (view_of one.copy) (view_of other.copy) ≡ None
  pub apart : AreApart config.members
  pub reads : read config.group config.sequence (views_in disks) ≡ config
  pub no_twins : twins (map shown_of newest) config.group ≡ None

-- Disks that show a configuration fully say it together.
pub reads_full : (config : Configuration) (disks : List Seated) → ((k : ℕ) (disk : Seated) → slice_get disks k ≡ Some disk → ShowsFully (view_of disk.copy) config) → 0 < length disks
    → read config.group config.sequence (views_in disks) ≡ config
reads_full config [] full some = absurd (omega (arith, some))
reads_full config (first ∷ rest) full some =
    let own = full 0 first refl in
    read_together config (view_of first.copy) (views_in rest) own.readable own.notes own.fully
    (all_mapped (λ (view : View). shows config view ≡ true) (λ (disk : Seated). view_of disk.copy) rest
    (all_from (λ (disk : Seated). shows config (view_of disk.copy) ≡ true) rest (λ k disk at. (full (suc k) disk at).shows.shows)))

-- ---- slots that a group is concerned with

none_claims : (led : Option View) → claims_by led Nothing ≡ false
none_claims None = refl
none_claims (Some view) = refl

-- With what shows nothing it isn't.
pub none_concerned : (slots : List Shown) (guid : List ℕ) (slot : ℕ) → slot_at slots slot ≡ Nothing → is_concerned slots guid slot ≡ false
none_concerned slots guid slot nothing = ap (λ (shown : Shown). shows_group guid shown || claims_by (leading_view slots guid) shown) nothing ∙ none_claims (leading_view slots guid)

-- With the slot of a disk that tells its configuration it is.
pub telling_concerned : (newest : List (Option Newest)) (config : Configuration) (disk : Seated) → IsTelling newest config disk → AreApart config.members → is_concerned (map shown_of newest) config.group disk.seat.slot ≡ true
telling_concerned newest config disk is apart =
    or_left (shows_group config.group (slot_at (map shown_of newest) disk.seat.slot)) (claims (map shown_of newest) config.group disk.seat.slot)
    (ap (shows_group config.group) (level_at newest disk.seat.slot disk.copy is.is_newest) ∙ shows_own config (view_of disk.copy) is.is_shown apart is.is_current)

-- Where each slot that it is concerned with was one before, with the same reference, no two have one reference then if no two had before.
pub twins_kept : (before after : List Shown) (guid : List ℕ) → length after ≡ length before
    → ((slot : ℕ) → is_concerned after guid slot ≡ true → (is_concerned before guid slot ≡ true) × (reference_at after slot ≡ reference_at before slot))
    → twins before guid ≡ None → twins after guid ≡ None
twins_kept before after guid long still none =
    pair_kept (twin_of after guid) (twin_of before guid) (is_concerned after guid) (is_concerned before guid) (numbers after) (λ slot h. (still slot h).0)
    (λ i j one other apart.
    ap (option_map (λ (reference : ℕ). in_conflict after guid i j (differs.Twin reference)))
    (ap (λ (o : Option ℕ). same_reference o (reference_at after j)) (still i one).1
    ∙ ap (same_reference (reference_at before i)) (still j other).1
    ∙ none_from_map (λ (reference : ℕ). in_conflict before guid i j (differs.Twin reference)) (same_reference (reference_at before i) (reference_at before j)) apart))
    (ap (λ (n : ℕ). first_pair (twin_of before guid) (filter (is_concerned before guid) (range_with_len 0 n))) long ∙ none)

module _ (newest : List (Option Newest)) (config : Configuration) (first : Seated) (rest : List Seated) (are : AreTelling newest config (first ∷ rest)) where
  abbrev disks : List Seated
  disks = first ∷ rest

  abbrev slots : List Shown
  slots = map shown_of newest

  abbrev guid : List ℕ
  guid = config.group

  shown_here : (k : ℕ) (disk : Seated) → slice_get disks k ≡ Some disk → slot_at slots disk.seat.slot ≡ Level (view_of disk.copy)
  shown_here k disk at = level_at newest disk.seat.slot disk.copy (are.each k disk at).is_newest

  -- a slot of a disk
  record IsOn (slot : ℕ) (view : View) : Type 0 where
    place : ℕ
    disk : Seated
    at : slice_get disks place ≡ Some disk
    on_slot : disk.seat.slot ≡ slot
    is_view : view_of disk.copy ≡ view

  on_of : (slot : ℕ) (view : View) → IsWritten slots (slots_in disks) slot view → IsOn slot view
  on_of slot view written =
      let disk = in_map (λ (one : Seated). one.seat.slot) disks written.place slot written.at in
      let same : Level (view_of disk.0.copy) ≡ Level view = sym (sym (ap (slot_at slots) disk.2) ∙ shown_here written.place disk.0 disk.1) ∙ written.shown in
      record { place = written.place; disk = disk.0; at = disk.1; on_slot = disk.2; is_view = cc }

  shows_it : (k : ℕ) (disk : Seated) → slice_get disks k ≡ Some disk → shows_group guid (Level (view_of disk.copy)) ≡ true
  shows_it k disk at = let is = are.each k disk at in shows_own config (view_of disk.copy) is.is_shown are.apart is.is_current

  lists_it : (i j : ℕ) (one other : Seated) → slice_get disks i ≡ Some one → slice_get disks j ≡ Some other
      → lists_current (view_of one.copy) (view_of other.copy).guid (view_of other.copy).reference ≡ true
  lists_it i j one other at also =
      lists_from config (view_of one.copy) (view_of other.copy).guid (view_of other.copy).reference (are.each i one at).is_shown are.apart (are.each j other also).is_current

  -- what shows nothing shows no group
  none_shown : (slot : ℕ) → slot_at slots slot ≡ Nothing → shows_group guid (slot_at slots slot) ≡ true → ⊥
  none_shown slot nothing shown = false≢true (sym (ap (shows_group guid) nothing) ∙ shown)

  -- So they are left as by a change that wrote them.
  is_left : IsLeft guid config.sequence slots slots (slots_in disks)
  is_left = record {
    same_length = refl;
    rise = rise_of disks are.rise;
    within = all_from (λ (slot : ℕ). slot < length slots) (slots_in disks)
        (λ k slot at.
        let disk = in_map (λ (one : Seated). one.seat.slot) disks k slot at in
        let below = slice_get_within newest disk.0.seat.slot (Some (newests.Level disk.0.copy)) (are.each k disk.0 disk.1).is_newest in
        let same = disk.2 in
        let long : length slots ≡ length newest = length-map newest shown_of in
        omega (arith, below, same, long));
    views = λ place slot at.
        let disk = in_map (λ (one : Seated). one.seat.slot) disks place slot at in
        (view_of disk.0.copy, sym (ap (slot_at slots) disk.2) ∙ shown_here place disk.0 disk.1);
    others = λ slot none. refl;
    shows = λ slot view written. let on = on_of slot view written in subst (λ (one : View). shows_group guid (Level one) ≡ true) on.is_view (shows_it on.place on.disk on.at);
    sequences = λ slot view written.
        let on = on_of slot view written in
        sym (ap (λ (one : View). one.sequence) on.is_view) ∙ (shown_from config (view_of on.disk.copy) (are.each on.place on.disk on.at).is_shown).sequence;
    older = λ slot none shown. absurd (none_shown slot (are.none_else slot none) shown);
    lists = λ i j one other written also.
        let on = on_of i one written in
        let its = on_of j other also in
        subst (λ (view : View). lists_current one view.guid view.reference ≡ true) its.is_view
        (subst (λ (view : View). lists_current view (view_of its.disk.copy).guid (view_of its.disk.copy).reference ≡ true) on.is_view
        (lists_it on.place its.place on.disk its.disk on.at its.at));
    foreign = λ i j one written none. ap (claims_by (Some one)) (are.none_else j none);
    agree = λ i j one other written also.
        let on = on_of i one written in
        let its = on_of j other also in
        subst (λ (view : View). difference one view ≡ None) its.is_view
        (subst (λ (view : View). difference view (view_of its.disk.copy) ≡ None) on.is_view (are.agree on.place its.place on.disk its.disk on.at its.at));
    were_concerned = λ place slot at.
        let disk = in_map (λ (one : Seated). one.seat.slot) disks place slot at in
        or_left (shows_group guid (slot_at slots slot)) (claims slots guid slot)
        (sym (ap (λ (n : ℕ). shows_group guid (slot_at slots n)) disk.2) ∙ ap (shows_group guid) (shown_here place disk.0 disk.1) ∙ shows_it place disk.0 disk.1);
    same_references = λ place slot at. refl;
    none_missing = λ i j one written none shown. absurd (none_shown j (are.none_else j none) shown);
    no_twins = are.no_twins;
  }

  leaders_now : leaders slots guid ≡ slots_in disks
  leaders_now = leaders_are guid config.sequence slots slots first.seat.slot (slots_in rest) is_left

  claimed_now : claimed slots guid ≡ slots_in disks
  claimed_now = claimed_are guid config.sequence slots slots first.seat.slot (slots_in rest) is_left

  none_contradicts : contradiction slots guid ≡ None
  none_contradicts = not_contradicted guid config.sequence slots slots first.seat.slot (slots_in rest) is_left

  -- ---- its configuration

  sequence_now : sequence_of slots guid ≡ config.sequence
  unfolding leaders
  sequence_now =
      ap (λ (o : Option ℕ). option_map_or (λ n. sequence_in (slot_at slots n)) o 0) (find_kept (leads slots guid) (numbers slots) first.seat.slot (slots_in rest) leaders_now)
      ∙ ap sequence_in (shown_here 0 first refl)
      ∙ (shown_from config (view_of first.copy) (are.each 0 first refl).is_shown).sequence

  views_now : leading_views slots guid ≡ views_in disks
  views_now =
      ap (λ (l : List ℕ). filter_map (λ slot. view_in (slot_at slots slot)) l) leaders_now
      ∙ filter_all (λ slot. view_in (slot_at slots slot)) (λ (one : Seated). one.seat.slot) (λ (one : Seated). view_of one.copy) disks (λ k one at. ap view_in (shown_here k one at))

  config_now : config_of slots guid ≡ config
  unfolding config_of
  config_now =
      ap (λ (n : ℕ). read guid n (leading_views slots guid)) sequence_now
      ∙ ap (read guid config.sequence) views_now ∙ are.reads

  -- ---- its seats

  seat_now : (k : ℕ) (one : Seated) → slice_get disks k ≡ Some one → seat_at newest one.seat.slot ≡ Some one.seat
  seat_now k one at =
      let is = are.each k one at in
      ap (λ (there : Option (Option Newest)). option_map (seat_of one.seat.slot) (option_and_then (λ copies. option_and_then standing_copy copies) there)) is.is_newest
      ∙ ap (λ (seat : Seat). Some seat) (sym is.is_seat)

  seats_now : seats_of newest (slots_in disks) ≡ seats_in disks
  seats_now = filter_all (seat_at newest) (λ (one : Seated). one.seat.slot) (λ (one : Seated). one.seat) disks seat_now

  none_lags : lagging slots (slots_in disks) config ≡ []
  none_lags =
      none_kept (λ (slot : ℕ). not (has_config config (slot_at slots slot))) (slots_in disks)
      (λ k slot at.
      let of = in_map (λ (one : Seated). one.seat.slot) disks k slot at in
      ap (λ (shown : Shown). not (has_config config shown)) (sym (ap (slot_at slots) of.2) ∙ shown_here k of.0 of.1) ∙ ap not (are.each k of.0 of.1).is_shown)

  -- ---- it is found

  is_shown_now : is_shown slots guid ≡ true
  is_shown_now =
      let shown : shows_group guid (slot_at slots first.seat.slot) ≡ true = ap (shows_group guid) (shown_here 0 first refl) ∙ shows_it 0 first refl in
      let there = get_range 0 (length slots) first.seat.slot (shows_within guid slots first.seat.slot shown) in
      any_passes_from_place (λ slot. shows_group guid (slot_at slots slot)) (numbers slots) first.seat.slot first.seat.slot (there.2 ∙ ap (λ (n : ℕ). Some n) (there.1 ∙ zero-add first.seat.slot)) shown

  abbrev as_group : List Seat → List ℕ → List ℕ → GroupValue
  as_group seats gone behind_it = record { config = config; seats = seats; absent = gone; lagging = behind_it; newest = newest }

  found_rest : group_or_fault newest (assembled_group slots (Ok guid)) ≡ Ok (as_group (seats_in disks) (absent slots (slots_in disks) config.members) [])
  unfolding assembled_as
  found_rest =
      ap (λ (fault : Option Assembly). group_or_fault newest (unless_contradicted slots guid fault)) none_contradicts
      ∙ ap (λ (seats : List ℕ). Ok (group_as newest (assembled_as slots seats (config_of slots guid)))) claimed_now
      ∙ ap (λ (one : Configuration). Ok (group_as newest (assembled_as slots (slots_in disks) one))) config_now
      ∙ ap (λ (seats : List Seat). Ok (as_group seats (absent slots (slots_in disks) config.members) (lagging slots (slots_in disks) config))) seats_now
      ∙ ap (λ (behind_it : List ℕ). Ok (as_group (seats_in disks) (absent slots (slots_in disks) config.members) behind_it)) none_lags

  -- They give the configuration, on the seats of these disks.
  pub found_telling : (gone : List ℕ) → absent slots (slots_in disks) config.members ≡ gone
      → group_of newest (Some config.group) ≡ Ok (record { config = config; seats = seats_in (first ∷ rest); absent = gone; lagging = []; newest = newest })
  unfolding group_of assembled chosen
  found_telling gone are_gone =
      ap (λ (b : Bool). group_or_fault newest (assembled_group slots (if b then Ok guid else Err NoGroup))) is_shown_now ∙ found_rest
      ∙ ap (λ (none : List ℕ). Ok (as_group (seats_in disks) none [])) are_gone
