-- A group of which members are absent, and which all disks that are left tell: they tell it once the loss was written.
use Rattle.std.proofs.Common.{◌≡◌, ◌≢◌, ◌⊎◌, ℕ, ◌<◌, ◌^◌, Bool, true, false, not, eqb, List, [], ◌∷◌, length, map, fold, Option, Some, None, Ok, refl, ap, sym, ◌∙◌, subst, inl, inr, arith, if◌then◌else◌}
use Rattle.std.proofs.lemmas.Bool.{and_parts, eq-eqb, false≢true}
use Rattle.std.proofs.lemmas.List.{length-map}
use Rattle.std.proofs.lemmas.Option.{slice_get-map, slice_get_within}
use Rattle.std.specs.Prelude.{option_map, slice_get, unwrap_or}
use Rattle.std.specs.List.{AllByRecursion, list_any}
use Rattle.std.specs.Option.{option_map_or}
use Rattle.std.specs.Str.{bytes_eq}
use Rattle.std.proofs.lemmas.Map.Keys.{any_passes_from_place}
use Rattle.ddf_lemmas.proofs.Lists.{all_from, bytes_same, filter_whole, in_map, mapped_at}
use Rattle.ddf_lemmas.proofs.Tests.{all_three}
use Rattle.ddf_copy.specs.declared.newest_copy.Newest.{Newest}
use Rattle.ddf_copy.specs.declared.newest_copy.Newest.TheVariants as newests
use Rattle.ddf_copy.specs.Written.{CanBeCopy}
use Rattle.ddf_config.specs.declared.member.Member.{Member}
use Rattle.ddf_config.specs.declared.seat.Seat.{Seat}
use Rattle.ddf_config.specs.Configuration.{Configuration}
use Rattle.ddf_config.specs.Members.{is_current}
use Rattle.ddf_plan.specs.Lose.{is_among}
use Rattle.ddf_view.specs.Differ.{difference}
use Rattle.ddf_view.specs.View.{View, lists_itself, view_of}
use Rattle.ddf_group.specs.declared.shown.Shown.{Shown}
use Rattle.ddf_group.specs.declared.shown.Shown.TheVariants.{Nothing}
use Rattle.ddf_group.specs.Assembled.{absent, has_reference, is_absent}
use Rattle.ddf_group.specs.Conflicts.{is_concerned}
use Rattle.ddf_group.specs.Shown.{shown_of}
use Rattle.ddf_group.specs.Slots.{reference_at, slot_at, view_in}
use Rattle.ddf_history.specs.Groups.{Disk, ShowsFully, disk_of}
use Rattle.ddf_history.proofs.Copies.{changed_is_full, changed_names}
use Rattle.ddf_rewrite.specs.Before.{Before, before}
use Rattle.ddf_rewrite.specs.Changing.{CanChange}
use Rattle.ddf_rewrite.specs.Copies.{changed_copy}
use Rattle.ddf_rewrite.proofs.Agreeing.{copies_agree}
use Rattle.ddf_rewrite.proofs.Lists.{all_at, all_mapped}
use Rattle.ddf_rewrite.proofs.Roomy.{change_can, roomy_change_can}
use Rattle.ddf_seats.specs.declared.seated.Seated.{Seated}
use Rattle.ddf_assembly.specs.Assembled.{IsAssembledGroup}
use Rattle.ddf_steps.specs.Committed.{slots_of}
use Rattle.ddf_steps.specs.Full.{full_of, full_where_written}
use Rattle.ddf_seats.specs.Group.{GroupValue, seat_of}
use Rattle.ddf_assembly.specs.Group.{group_of}
use Rattle.ddf_assembly.specs.Reading.{AreNewest}
use Rattle.ddf_seats.specs.Seated.{with_level, seated, seats_in, slots_in, views_in, levelled}
use Rattle.ddf_recovery.specs.Recovery.{config_lost, full_of_mending, full_of_recovery, lost_step}
use Rattle.ddf_seats.specs.Leading.{leading, leading_disks, leads, some}
use Rattle.ddf_assembly.specs.Settled.{IsSettledGroup}
use Rattle.ddf_steps.specs.Steps.{disks_after, rewritten, stays_in}
use Rattle.ddf_seats.specs.Changing.{CanBeHeldOn, CanBeLed, SlotsRise}
use Rattle.ddf_steps.specs.Trying.{CanTry}
use Rattle.ddf_steps.proofs.CommittedLevels.{level_else, level_here, seated_after, slot_or_none}
use Rattle.ddf_assembly.proofs.LeftBefore.{level_at}
use Rattle.ddf_recovery.proofs.LeftLists.{IsNoneOf, one_or_none}
use Rattle.ddf_assembly.proofs.LeftMembers.{AreApart, IsCurrentIn, lists_from, table_current}
use Rattle.ddf_recovery.proofs.LeftStep.{own_reference, same_seat, same_view, long_still}
use Rattle.ddf_recovery.proofs.Lost.{lost_held}
use Rattle.ddf_steps.proofs.OneLength.{HasRoom, can_try_all, has_room, led_by_all, room_on}
use Rattle.ddf_steps.proofs.Rewritten.{capacities, closed_can}
use Rattle.ddf_assembly.proofs.SettledSeats.{same_group, same_sequence}
use Rattle.ddf_history_steps.specs.Kept.{is_slot}
use Rattle.ddf_history_steps.proofs.Slots.{slot_is}
use Rattle.ddf_uncut_group.specs.Settled.{IsToldByAll}
use Rattle.ddf_uncut_group.specs.Without.{group_lost}
use Rattle.ddf_uncut_group.proofs.LostMembers.{lost_apart, lost_stays, lost_was}
use Rattle.ddf_uncut_group.proofs.SettledFound.{found_assembled, found_settled}
use Rattle.ddf_uncut_group.proofs.SettledStep.{kept_seats, newest_levelled}
use Rattle.ddf_uncut_group.proofs.SettledTelling.{AreTelling, IsTelling, found_telling, none_concerned, reads_full, telling_concerned, twins_kept}
use Rattle.ddf_uncut_group.proofs.UnpluggedLists.{begins, kept_none}

-- Its newest copies give the group, and all disks that are left tell its configuration, fully, on their seats. Members are absent; each other one that isn't missing has a seat,
-- and no other slot has a newest copy.
pub record IsToldWithout (group : GroupValue) : Type 0 where
  pub is_found : group_of group.newest (Some group.config.group) ≡ Ok group
  pub are_newest : AreNewest group.newest
  pub are_seated : seats_in (seated group) ≡ group.seats
  pub are_telling : AreTelling group.newest group.config (seated group)
  pub are_full : (k : ℕ) (disk : Seated) → slice_get (seated group) k ≡ Some disk → ShowsFully (view_of disk.copy) group.config
  pub some_disk : 0 < length (seated group)
  pub some_absent : some group.absent ≡ true
  pub not_absent : (k : ℕ) (disk : Seated) → slice_get (seated group) k ≡ Some disk → is_among group.absent disk.seat.reference ≡ false
  pub have_seats : (i : ℕ) (entry : ℕ × Member) → slice_get group.config.members i ≡ Some entry → entry.1.missing ≡ false
      → (is_among group.absent entry.0 ≡ true) ⊎ ((k : ℕ) × (disk : Seated) × (slice_get (seated group) k ≡ Some disk) × (disk.seat.reference ≡ entry.0))
  pub none_beside : (slot : ℕ) (one : Newest) → slice_get group.newest slot ≡ Some (Some one) → is_slot (slots_of group.seats) slot ≡ true

-- The slots of disks are those of their seats.
pub slots_by_seats : (disks : List Seated) → slots_in disks ≡ slots_of (seats_in disks)
slots_by_seats [] = refl
slots_by_seats (disk ∷ disks) = ap (λ (rest : List ℕ). disk.seat.slot ∷ rest) (slots_by_seats disks)

-- What a slot shows is by its newest copy.
slot_by : (newest : List (Option Newest)) (slot : ℕ) → slot_at (map shown_of newest) slot ≡ unwrap_or (option_map shown_of (slice_get newest slot)) Nothing
slot_by newest slot = ap (λ (one : Option Shown). unwrap_or one Nothing) (slice_get-map shown_of newest slot)

module _ (group : GroupValue) (told : IsToldWithout group) (timestamp : ℕ) where
  abbrev disks : List Seated
  disks = seated group

  abbrev next : Configuration
  next = config_lost group

  abbrev led : Before
  led = leading group

  abbrev new : List Seated
  new = disks_after timestamp led next disks

  abbrev newest : List (Option Newest)
  newest = fold with_level group.newest new

  pub assembled : IsAssembledGroup group
  assembled = found_assembled group.newest (Some group.config.group) group told.are_newest told.is_found

  its_reference : (k : ℕ) (disk : Seated) → slice_get disks k ≡ Some disk → disk.seat.reference ≡ (view_of disk.copy).reference
  its_reference k disk at = ap (λ (seat : Seat). seat.reference) (told.are_telling.each k disk at).is_seat ∙ own_reference disk.seat.slot disk.copy

  -- ---- every disk leads

  leads_all : AllByRecursion (λ (disk : Seated). leads group.config disk ≡ true) disks
  leads_all =
      all_from (λ (disk : Seated). leads group.config disk ≡ true) disks
      (λ k disk at.
      let is = told.are_telling.each k disk at in
      all_three (bytes_eq disk.copy.header.guid group.config.group) (eqb disk.copy.header.sequence group.config.sequence) (lists_itself (view_of disk.copy))
      (ap (λ (guid : List ℕ). bytes_eq guid group.config.group) (same_group group.config disk.copy is.is_shown) ∙ bytes_same group.config.group)
      (eq-eqb disk.copy.header.sequence group.config.sequence (same_sequence group.config disk.copy is.is_shown))
      (lists_from group.config (view_of disk.copy) (view_of disk.copy).guid (view_of disk.copy).reference is.is_shown told.are_telling.apart is.is_current))

  pub leading_is : leading_disks group ≡ disks
  unfolding leading_disks
  leading_is = filter_whole (leads group.config) disks leads_all

  led_is : led ≡ before (views_in disks)
  led_is = ap (λ (all : List Seated). before (views_in all)) leading_is

  -- ---- every disk stays

  apart_next : AreApart next.members
  apart_next = lost_apart group.config group.absent told.are_telling.apart

  current_next : (k : ℕ) (disk : Seated) → slice_get disks k ≡ Some disk → IsCurrentIn next.members (view_of disk.copy).guid (view_of disk.copy).reference
  current_next k disk at =
      lost_stays group.config group.absent (view_of disk.copy).guid (view_of disk.copy).reference (told.are_telling.each k disk at).is_current
      (sym (ap (is_among group.absent) (its_reference k disk at)) ∙ told.not_absent k disk at)

  stays : (k : ℕ) (disk : Seated) → slice_get disks k ≡ Some disk → stays_in next disk ≡ true
  stays k disk at =
      ap (is_current next.members) (its_reference k disk at) ∙ table_current next.members (view_of disk.copy).guid (view_of disk.copy).reference apart_next (current_next k disk at)

  all_stay : AllByRecursion (λ (disk : Seated). stays_in next disk ≡ true) disks
  all_stay = all_from (λ (disk : Seated). stays_in next disk ≡ true) disks stays

  new_is : new ≡ map (rewritten led next timestamp) disks
  unfolding disks_after
  new_is = ap (map (rewritten led next timestamp)) (filter_whole (stays_in next) disks all_stay)

  same_seats : seats_in new ≡ seats_in disks
  same_seats = kept_seats led next timestamp disks all_stay

  -- The loss is written to the group's seats.
  pub seats_lost : (group_lost timestamp group).seats ≡ group.seats
  seats_lost = same_seats ∙ told.are_seated

  same_slots : slots_in new ≡ slots_in disks
  same_slots = slots_by_seats new ∙ ap slots_of same_seats ∙ sym (slots_by_seats disks)

  pub rise : SlotsRise (seats_in new)
  rise = subst SlotsRise (sym same_seats) told.are_telling.rise

  -- a disk of the loss is one of the group, with its new copy
  record IsMade (k : ℕ) (made : Seated) : Type 0 where
    disk : Seated
    at : slice_get disks k ≡ Some disk
    is_made : rewritten led next timestamp disk ≡ made

  made_of : (k : ℕ) (made : Seated) → slice_get new k ≡ Some made → IsMade k made
  made_of k made at =
      let own = in_map (rewritten led next timestamp) disks k made (sym (ap (λ (all : List Seated). slice_get all k) new_is) ∙ at) in
      record { disk = own.0; at = own.1; is_made = own.2 }

  make_at : (k : ℕ) (disk : Seated) → slice_get disks k ≡ Some disk → slice_get new k ≡ Some (rewritten led next timestamp disk)
  make_at k disk at = ap (λ (all : List Seated). slice_get all k) new_is ∙ mapped_at (rewritten led next timestamp) disks k disk at

  made_slot : (k : ℕ) (made : Seated) (own : IsMade k made) → made.seat.slot ≡ own.disk.seat.slot
  made_slot k made own = sym (ap (λ (one : Seated). one.seat.slot) own.is_made)

  -- ---- where there is room for it

  module _ (time : timestamp < 2 ^ 32) (free : full_of_recovery timestamp group ≡ None) where
    none_full : full_of timestamp led next disks ≡ None
    unfolding full_of_recovery
    none_full =
        sym (ap (λ (b : Bool). if b then full_of timestamp led next disks else if some group.lagging then full_of_mending group else None) told.some_absent) ∙ free

    room : HasRoom timestamp led next disks
    room = has_room timestamp led next disks none_full

    held : CanBeHeldOn next disks
    held = lost_held group assembled

    led_all : CanBeLed led disks
    led_all = subst (λ (leaders : Before). CanBeLed leaders disks) (sym led_is) (led_by_all disks assembled.are_copies)

    tries : AllByRecursion (CanTry led next) disks
    tries = can_try_all led next disks assembled.are_copies room.same led_all held

    can_change : (k : ℕ) (disk : Seated) → slice_get disks k ≡ Some disk → CanChange disk.copy led next timestamp
    can_change k disk at =
        let try = all_at (CanTry led next) disks k disk tries at in
        change_can disk.copy led next timestamp try.is_copy try.holdable
        (room_on led next timestamp disk (stays k disk at) (all_at (λ (one : Seated). full_where_written led next timestamp one ≡ None) disks k disk room.none at))

    is_copy : (k : ℕ) (disk : Seated) → slice_get disks k ≡ Some disk → CanBeCopy (changed_copy disk.copy led next timestamp)
    is_copy k disk at =
        let try = all_at (CanTry led next) disks k disk tries at in
        roomy_change_can disk.copy led next timestamp try.is_copy try.holdable try.leaders_held time
        (λ n wanted there none. capacities disk.copy.header.geometry.max_members next try.holdable n wanted there)
        (room_on led next timestamp disk (stays k disk at) (all_at (λ (one : Seated). full_where_written led next timestamp one ≡ None) disks k disk room.none at))

    -- ---- a new copy

    record IsNew (old made : Seated) : Type 0 where
      can : CanBeCopy made.copy
      full : ShowsFully (view_of made.copy) next
      names : disk_of (view_of made.copy) ≡ disk_of (view_of old.copy)
      is_seat : made.seat ≡ seat_of made.seat.slot made.copy

    new_one : (k : ℕ) (disk : Seated) → slice_get disks k ≡ Some disk → IsNew disk (rewritten led next timestamp disk)
    new_one k disk at =
        let changed = changed_copy disk.copy led next timestamp in
        let view : view_of (rewritten led next timestamp disk).copy ≡ view_of changed = same_view led next timestamp disk in
        record {
          can = closed_can changed (is_copy k disk at);
          full = subst (λ (one : View). ShowsFully one next) (sym view) (changed_is_full disk.copy led next timestamp (can_change k disk at) (is_copy k disk at));
          names = ap disk_of view ∙ changed_names disk.copy led next timestamp;
          is_seat = (told.are_telling.each k disk at).is_seat ∙ sym (same_seat led next timestamp disk);
        }

    new_of : (k : ℕ) (made : Seated) (own : IsMade k made) → IsNew own.disk made
    new_of k made own = subst (IsNew own.disk) own.is_made (new_one k own.disk own.at)

    its_guid : (k : ℕ) (made : Seated) (own : IsMade k made) → (view_of made.copy).guid ≡ (view_of own.disk.copy).guid
    its_guid k made own = ap (λ (disk : Disk). disk.guid) (new_of k made own).names

    its_number : (k : ℕ) (made : Seated) (own : IsMade k made) → (view_of made.copy).reference ≡ (view_of own.disk.copy).reference
    its_number k made own = ap (λ (disk : Disk). disk.reference) (new_of k made own).names

    new_current : (k : ℕ) (made : Seated) → slice_get new k ≡ Some made → IsCurrentIn next.members (view_of made.copy).guid (view_of made.copy).reference
    new_current k made at =
        let own = made_of k made at in
        subst (λ (guid : List ℕ). IsCurrentIn next.members guid (view_of made.copy).reference) (sym (its_guid k made own))
        (subst (λ (n : ℕ). IsCurrentIn next.members (view_of own.disk.copy).guid n) (sym (its_number k made own)) (current_next k own.disk own.at))

    below : (k : ℕ) (made : Seated) → slice_get new k ≡ Some made → made.seat.slot < length group.newest
    below k made at =
        let own = made_of k made at in
        let low = slice_get_within group.newest own.disk.seat.slot (Some (newests.Level own.disk.copy)) (told.are_telling.each k own.disk own.at).is_newest in
        let same = made_slot k made own in
        omega (arith, low, same)

    level_now : (k : ℕ) (made : Seated) → slice_get new k ≡ Some made → slice_get newest made.seat.slot ≡ Some (Some (newests.Level made.copy))
    level_now k made at = level_here group.newest new rise k made at (below k made at)

    new_telling : (k : ℕ) (made : Seated) → slice_get new k ≡ Some made → IsTelling newest next made
    new_telling k made at =
        let own = made_of k made at in
        let is = new_of k made own in
        record { is_newest = level_now k made at; is_seat = is.is_seat; is_shown = is.full.shows.shows; is_current = new_current k made at }

    -- ---- the slots then

    abbrev before_it : List Shown
    before_it = map shown_of group.newest

    abbrev after : List Shown
    after = map shown_of newest

    not_written : (slot : ℕ) → IsNoneOf (slots_in new) slot → (k : ℕ) (made : Seated) → slice_get new k ≡ Some made → slot ≢ made.seat.slot
    not_written slot none k made at = all_at (λ (n : ℕ). slot ≢ n) (slots_in new) k made.seat.slot none (mapped_at (λ (one : Seated). one.seat.slot) new k made at)

    none_else : (slot : ℕ) → IsNoneOf (slots_in new) slot → slot_at after slot ≡ Nothing
    none_else slot none =
        slot_by newest slot
        ∙ ap (λ (one : Option (Option Newest)). unwrap_or (option_map shown_of one) Nothing) (level_else group.newest new slot (not_written slot none))
        ∙ sym (slot_by group.newest slot)
        ∙ told.are_telling.none_else slot (subst (λ (slots : List ℕ). IsNoneOf slots slot) same_slots none)

    new_reference : (k : ℕ) (made : Seated) → slice_get new k ≡ Some made → reference_at after made.seat.slot ≡ Some (view_of made.copy).reference
    new_reference k made at = ap (λ (shown : Shown). option_map (λ (view : View). view.reference) (view_in shown)) (level_at newest made.seat.slot made.copy (level_now k made at))

    old_reference : (k : ℕ) (disk : Seated) → slice_get disks k ≡ Some disk → reference_at before_it disk.seat.slot ≡ Some (view_of disk.copy).reference
    old_reference k disk at =
        ap (λ (shown : Shown). option_map (λ (view : View). view.reference) (view_in shown)) (level_at group.newest disk.seat.slot disk.copy (told.are_telling.each k disk at).is_newest)

    still_concerned : (slot : ℕ) → is_concerned after group.config.group slot ≡ true → (is_concerned before_it group.config.group slot ≡ true) × (reference_at after slot ≡ reference_at before_it slot)
    still_concerned slot h = elim (one_or_none (slots_in new) slot) [
      | inl found ↦
          let made = in_map (λ (one : Seated). one.seat.slot) new found.0 slot found.1 in
          let own = made_of found.0 made.0 made.1 in
          let on_slot : own.disk.seat.slot ≡ slot = sym (made_slot found.0 made.0 own) ∙ made.2 in (
            subst (λ (n : ℕ). is_concerned before_it group.config.group n ≡ true) on_slot
                (telling_concerned group.newest group.config own.disk (told.are_telling.each found.0 own.disk own.at) told.are_telling.apart),
            ap (reference_at after) (sym made.2) ∙ new_reference found.0 made.0 made.1 ∙ ap (λ (n : ℕ). Some n) (its_number found.0 made.0 own)
                ∙ sym (ap (reference_at before_it) (sym on_slot) ∙ old_reference found.0 own.disk own.at),
          )
      | inr none ↦ absurd (false≢true (sym (none_concerned after group.config.group slot (none_else slot none)) ∙ h))
    ]

    long : length after ≡ length before_it
    long = length-map newest shown_of ∙ long_still group.newest new ∙ sym (length-map group.newest shown_of)

    new_agree : (i j : ℕ) (one other : Seated) → slice_get new i ≡ Some one → slice_get new j ≡ Some other → difference (view_of one.copy) (view_of other.copy) ≡ None
    new_agree i j one other at also =
        let own = made_of i one at in
        let its = made_of j other also in
        let can = can_change i own.disk own.at in
        let can_other = can_change j its.disk its.at in
        subst (λ (made : Seated). difference (view_of one.copy) (view_of made.copy) ≡ None) its.is_made
        (subst (λ (made : Seated). difference (view_of made.copy) (view_of (rewritten led next timestamp its.disk).copy) ≡ None) own.is_made
        (ap (λ (view : View). difference view (view_of (rewritten led next timestamp its.disk).copy)) (same_view led next timestamp own.disk)
        ∙ ap (difference (view_of (changed_copy own.disk.copy led next timestamp))) (same_view led next timestamp its.disk)
        ∙ copies_agree own.disk.copy its.disk.copy led next timestamp can.names can.rebuilt can.room can_other.room))

    counted : 0 < length new
    counted =
        let same : length (seats_in new) ≡ length (seats_in disks) = ap (λ (seats : List Seat). length seats) same_seats in
        let one : length (seats_in new) ≡ length new = length-map new (λ (disk : Seated). disk.seat) in
        let other : length (seats_in disks) ≡ length disks = length-map disks (λ (disk : Seated). disk.seat) in
        let some = told.some_disk in
        omega (arith, same, one, other, some)

    new_full : (k : ℕ) (made : Seated) → slice_get new k ≡ Some made → ShowsFully (view_of made.copy) next
    new_full k made at = (new_of k made (made_of k made at)).full

    telling_now : AreTelling newest next new
    telling_now = record {
      rise = rise;
      each = new_telling;
      none_else = none_else;
      agree = new_agree;
      apart = apart_next;
      reads = reads_full next new new_full counted;
      no_twins = twins_kept before_it after group.config.group long still_concerned told.are_telling.no_twins;
    }

    -- ---- nothing is absent

    none_gone : (i : ℕ) (entry : ℕ × Member) → slice_get next.members i ≡ Some entry → is_absent after (slots_in new) entry ≡ true → ⊥
    none_gone i entry at gone =
        let parts = and_parts (not entry.1.missing) (not (list_any (has_reference after entry.0) (slots_in new))) gone in
        let was = lost_was group.config group.absent i entry at (not_true entry.1.missing parts.0) in
        elim (told.have_seats i (entry.0, was.0) was.1 was.2) [
          | inl among ↦ false≢true (sym was.3 ∙ among)
          | inr seat ↦
              let made = rewritten led next timestamp seat.1 in
              let there = make_at seat.0 seat.1 seat.2 in
              let own : IsMade seat.0 made = record { disk = seat.1; at = seat.2; is_made = refl } in
              let number : (view_of made.copy).reference ≡ entry.0 = its_number seat.0 made own ∙ sym (its_reference seat.0 seat.1 seat.2) ∙ seat.3 in
              let some = any_passes_from_place (has_reference after entry.0) (slots_in new) seat.0 made.seat.slot (mapped_at (λ (one : Seated). one.seat.slot) new seat.0 made there)
              (ap (λ (o : Option ℕ). option_map_or (λ one. eqb one entry.0) o false) (new_reference seat.0 made there) ∙ eq-eqb (view_of made.copy).reference entry.0 number) in
              false≢true (sym (not_true (list_any (has_reference after entry.0) (slots_in new)) parts.1) ∙ some)
        ]
      where
        not_true : (b : Bool) → not b ≡ true → b ≡ false
        not_true true h = absurd cc
        not_true false h = refl

    none_absent : absent after (slots_in new) next.members ≡ []
    none_absent = ap (λ (l : List (ℕ × Member)). map (λ (member : ℕ × Member). member.0) l) (kept_none (is_absent after (slots_in new)) next.members none_gone)

    -- ---- what is found

    first_new : (made : Seated) × (slice_get new 0 ≡ Some made)
    first_new = by new counted
      where
        by : (all : List Seated) → 0 < length all → (made : Seated) × (slice_get all 0 ≡ Some made)
        by [] low = absurd (omega (arith, low))
        by (made ∷ others) low = (made, refl)

    pub found_lost : group_of newest (Some group.config.group) ≡ Ok (group_lost timestamp group)
    found_lost = by (begins new 0 first_new.0 first_new.1)
      where
        by : (first : Seated) × (rest : List Seated) × (new ≡ first ∷ rest) → group_of newest (Some group.config.group) ≡ Ok (group_lost timestamp group)
        by is =
            let telling_all = subst (λ (all : List Seated). AreTelling newest next all) is.2 telling_now in
            let gone = sym (ap (λ (all : List Seated). absent after (slots_in all) next.members) is.2) ∙ none_absent in
            found_telling newest next is.0 is.1 telling_all [] gone
            ∙ ap (λ (seats : List Seat). Ok (record { config = next; seats = seats; absent = []; lagging = []; newest = newest })) (sym (ap seats_in is.2))

    copies_now : AllByRecursion (λ (disk : Seated). CanBeCopy disk.copy) new
    copies_now = all_from (λ (disk : Seated). CanBeCopy disk.copy) new (λ k made at. (new_of k made (made_of k made at)).can)

    are_newest : AreNewest newest
    are_newest = newest_levelled group.newest new told.are_newest copies_now

    settled_lost : IsSettledGroup (group_lost timestamp group)
    settled_lost = found_settled newest (Some group.config.group) (group_lost timestamp group) are_newest found_lost refl refl

    pub disks_lost : seated (group_lost timestamp group) ≡ map levelled new
    disks_lost = seated_after (record group { absent = []; lagging = [] }) (lost_step timestamp group) rise below

    beside_lost : (slot : ℕ) (found : Newest) → slice_get newest slot ≡ Some (Some found) → is_slot (slots_of (seats_in new)) slot ≡ true
    beside_lost slot found at = elim (slot_or_none new slot) [
      | inl here ↦
          subst (λ (n : ℕ). is_slot (slots_of (seats_in new)) n ≡ true) (sym here.3)
          (slot_is (slots_of (seats_in new)) here.0 here.1.seat.slot
          (mapped_at (λ (seat : Seat). seat.slot) (seats_in new) here.0 here.1.seat (mapped_at (λ (disk : Seated). disk.seat) new here.0 here.1 here.2)))
      | inr none ↦
          subst (λ (seats : List Seat). is_slot (slots_of seats) slot ≡ true) (sym (same_seats ∙ told.are_seated))
          (told.none_beside slot found (sym (level_else group.newest new slot none) ∙ at))
    ]

    -- All disks tell it then.
    pub told_lost : IsToldByAll (group_lost timestamp group)
    told_lost = record {
      is_found = found_lost;
      are_newest = are_newest;
      is_settled = settled_lost;
      some_seat = let same : length (seats_in new) ≡ length new = length-map new (λ (disk : Seated). disk.seat) in let some = counted in omega (arith, same, some);
      are_full = subst (λ (all : List Seated). AllByRecursion (λ (disk : Seated). ShowsFully (view_of disk.copy) next) all) (sym disks_lost)
          (all_mapped (λ (disk : Seated). ShowsFully (view_of disk.copy) next) levelled new (all_from (λ (disk : Seated). ShowsFully (view_of (levelled disk).copy) next) new new_full));
      none_beside = beside_lost;
    }
