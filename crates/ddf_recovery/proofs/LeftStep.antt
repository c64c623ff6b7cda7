-- The slots of a settled group after a step: what its disks show, and what the other slots do.
use Rattle.std.proofs.Common.{◌≡◌, ◌≢◌, ℕ, zero, suc, ◌<◌, Bool, true, false, not, ◌&&◌, ◌||◌, cond, List, [], ◌∷◌, length, map, filter, fold, Option, Some, None, refl, ap, sym, ◌∙◌, subst, arith, length-set, zero-add}
use Rattle.std.proofs.lemmas.Bool.{false≢true, cond-false, cond-true, or_right}
use Rattle.std.proofs.lemmas.List.{length-map}
use Rattle.std.proofs.lemmas.Option.{slice_get-map}
use Rattle.std.specs.Prelude.{find, option_map, slice_get, unwrap_or}
use Rattle.std.specs.List.{AllByRecursion}
use Rattle.std.specs.Option.{option_map_or}
use Rattle.ddf_lemmas.proofs.Lists.{all_from, filter_get, filter_pass, filtered_passes, in_map, mapped_at}
use Rattle.ddf_lemmas.proofs.Options.{none_from_map}
use Rattle.ddf_bytes.proofs.Nones.{none_first}
use Rattle.ddf_copy.specs.declared.copy.DiskCopy.{DiskCopy}
use Rattle.ddf_copy.specs.declared.newest_copy.Newest.{Newest}
use Rattle.ddf_copy.specs.declared.newest_copy.Newest.TheVariants as newests
use Rattle.ddf_config.specs.declared.seat.Seat.{Seat}
use Rattle.ddf_config.specs.Configuration.{Configuration}
use Rattle.ddf_config.specs.Members.{is_current}
use Rattle.ddf_plan.specs.declared.change.Change.{Change}
use Rattle.ddf_plan.specs.Causes.{steps_of}
use Rattle.ddf_plan.specs.Same.{is_step}
use Rattle.ddf_plan.proofs.Afters.{steps_taken}
use Rattle.ddf_view.specs.Differ.{difference}
use Rattle.ddf_view.specs.Shows.{shows}
use Rattle.ddf_view.specs.View.{View, lists_current, view_of}
use Rattle.ddf_view.proofs.Agreement.{shown_from}
use Rattle.ddf_group.specs.declared.shown.Shown.{Shown}
use Rattle.ddf_group.specs.declared.shown.Shown.TheVariants.{Level, Nothing}
use Rattle.ddf_group.specs.declared.answer.Assembly.TheVariants.{Split}
use Rattle.ddf_group.specs.Conflicts.{contradiction, differing, lists_disk_missing, lists_missing_in, split_from, split_in, splits_from, twins, two_copies}
use Rattle.ddf_group.specs.Pairs.{first_with}
use Rattle.ddf_group.specs.Shown.{shown_of}
use Rattle.ddf_group.specs.Slots.{claims, claims_by, leaders, leads, none_later, numbers, sequence_in, shows_group, slot_at, view_in}
use Rattle.ddf_rewrite.specs.Before.{Before, before}
use Rattle.ddf_rewrite.specs.Changing.{CanChange}
use Rattle.ddf_rewrite.specs.Copies.{changed_copy}
use Rattle.ddf_rewrite.specs.Hold.{IsHoldable}
use Rattle.ddf_rewrite.proofs.Agreeing.{copies_agree}
use Rattle.ddf_rewrite.proofs.Changed.{changed_shows}
use Rattle.ddf_rewrite.proofs.Lists.{all_at, get_range}
use Rattle.ddf_rewrite.proofs.Roomy.{change_can}
use Rattle.ddf_seats.specs.declared.seated.Seated.{Seated}
use Rattle.ddf_steps.specs.Asked.{CanBeAsked}
use Rattle.ddf_steps.specs.Full.{full_where_written, lengths_differ}
use Rattle.ddf_seats.specs.Group.{GroupValue, seat_of}
use Rattle.ddf_assembly.specs.Reading.{AreNewest}
use Rattle.ddf_steps.specs.Ready.{is_spent}
use Rattle.ddf_seats.specs.Seated.{with_level, seated, seats_in, slots_in, views_in}
use Rattle.ddf_steps.specs.Refusing.{step_refusal}
use Rattle.ddf_assembly.specs.Settled.{IsSettledGroup}
use Rattle.ddf_steps.specs.Steps.{config_after, disks_after, rewritten, stays_in, step_of}
use Rattle.ddf_seats.specs.Changing.{AreCopies, CanBeHeldOn, SlotsRise}
use Rattle.ddf_steps.specs.Trying.{CanTry}
use Rattle.ddf_steps.proofs.CommittedLevels.{level_else, level_here}
use Rattle.ddf_steps.proofs.Following.{copies_are, next_held, room_for}
use Rattle.ddf_assembly.proofs.LeftBefore.{HasLeader, IsClaimedDisk, IsFoundAs, claimed_current, claimed_disk, current_claimed, disks_claimed, group_is, has_leader, leader_claimed, level_at, none_ahead, not_ahead, shows_own, shows_within, view_within}
use Rattle.ddf_recovery.proofs.LeftLists.{IsNoneOf}
use Rattle.ddf_assembly.proofs.LeftMembers.{AreApart, IsCurrentIn, current_from, lists_from, none_missing_from, stays_current, table_current, was_current}
use Rattle.ddf_recovery.proofs.LeftSlots.{IsLeft, IsWritten}
use Rattle.ddf_seats.proofs.Lists.{get_within}
use Rattle.ddf_steps.proofs.OneLength.{HasRoom, can_try_all, led_by_all, one_length, room_on}
use Rattle.ddf_assembly.proofs.SettledSeats.{Rise}
use Rattle.ddf_steps.proofs.StepConfig.{has_room, no_cause, still_left, as_raised}

-- ---- lists

-- Where a search finds nothing, no item passes.
none_passes : {X : Type 0} (test : X → Bool) (xs : List X) (i : ℕ) (x : X) → find test xs ≡ None → slice_get xs i ≡ Some x → test x ≡ false
none_passes test [] i x none at = absurd cc
none_passes {X = X} test (y ∷ ys) i x none at = by (λ k rest later. none_passes test ys k x rest later) i at (test y) refl
  where
    by : ((k : ℕ) → find test ys ≡ None → slice_get ys k ≡ Some x → test x ≡ false) → (k : ℕ) → slice_get (y ∷ ys) k ≡ Some x → (b : Bool) → test y ≡ b → test x ≡ false
    by rest k here true e = let found : Some y ≡ None = sym (cond-true (test y) (Some y) (find test ys) e) ∙ none in absurd cc
    by rest zero here false e = let same : y ≡ x = cc in sym (ap test same) ∙ e
    by rest (suc k) here false e = rest k (sym (cond-false (test y) (Some y) (find test ys) e) ∙ none) here

-- Where nothing is found of a list, nothing is found of an item.
none_of : {X Y : Type 0} (test : X → Option Y) (xs : List X) (i : ℕ) (x : X) → first_with test xs ≡ None → slice_get xs i ≡ Some x → test x ≡ None
none_of test xs i x none at = all_at (λ found. found ≡ None) (map test xs) i (test x) (none_first (map test xs) none) (mapped_at test xs i x at)

-- Numbers of seats that rise, rise.
pub rise_of : (disks : List Seated) → SlotsRise (seats_in disks) → Rise (slots_in disks)
rise_of [] rise = tt
rise_of (disk ∷ disks) rise = (above disks rise.0, rise_of disks rise.1)
  where
    above : (some : List Seated) → AllByRecursion (λ (seat : Seat). disk.seat.slot < seat.slot) (seats_in some) → AllByRecursion (λ slot. disk.seat.slot < slot) (slots_in some)
    above [] all = tt
    above (one ∷ some) all = (all.0, above some all.1)

module _ (leaders : Before) (config : Configuration) (timestamp : ℕ) where
  abbrev staying : List Seated → List Seated
  staying disks = map (rewritten leaders config timestamp) (filter (stays_in config) disks)

  seats_have : (P : Seat → Type 0) (disks : List Seated) → AllByRecursion P (seats_in disks) → AllByRecursion P (seats_in (staying disks))
  seats_have P [] all = tt
  seats_have P (disk ∷ disks) all = by (stays_in config disk) (seats_have P disks all.1)
    where
      by : (b : Bool) → AllByRecursion P (seats_in (staying disks)) → AllByRecursion P (seats_in (map (rewritten leaders config timestamp) (cond b (disk ∷ filter (stays_in config) disks) (filter (stays_in config) disks))))
      by true rest = (all.0, rest)
      by false rest = rest

  staying_rise : (disks : List Seated) → SlotsRise (seats_in disks) → SlotsRise (seats_in (staying disks))
  staying_rise [] rise = tt
  staying_rise (disk ∷ disks) rise = by (stays_in config disk) (seats_have (λ (other : Seat). disk.seat.slot < other.slot) disks rise.0) (staying_rise disks rise.1)
    where
      by : (b : Bool) → AllByRecursion (λ (other : Seat). disk.seat.slot < other.slot) (seats_in (staying disks)) → SlotsRise (seats_in (staying disks))
          → SlotsRise (seats_in (map (rewritten leaders config timestamp) (cond b (disk ∷ filter (stays_in config) disks) (filter (stays_in config) disks))))
      by true below rest = (below, rest)
      by false below rest = rest

pub long_still : (newest : List (Option Newest)) (disks : List Seated) → length (fold with_level newest disks) ≡ length newest
long_still newest [] = refl
long_still newest (disk ∷ disks) = long_still (with_level newest disk) disks ∙ length-set newest disk.seat.slot (Some (newests.Level disk.copy))

-- ---- a rewritten disk

module _ (leaders : Before) (config : Configuration) (timestamp : ℕ) (disk : Seated) where
  pub same_view : view_of (rewritten leaders config timestamp disk).copy ≡ view_of (changed_copy disk.copy leaders config timestamp)
  unfolding view_of
  same_view = refl

  pub same_disk : ((view_of (rewritten leaders config timestamp disk).copy).guid ≡ (view_of disk.copy).guid) × ((view_of (rewritten leaders config timestamp disk).copy).reference ≡ (view_of disk.copy).reference)
  unfolding view_of changed_copy
  same_disk = (refl, refl)

  -- It has the same seat.
  pub same_seat : seat_of disk.seat.slot (rewritten leaders config timestamp disk).copy ≡ seat_of disk.seat.slot disk.copy
  unfolding changed_copy
  same_seat = refl

pub own_reference : (slot : ℕ) (copy : DiskCopy) → (seat_of slot copy).reference ≡ (view_of copy).reference
unfolding view_of
own_reference slot copy = refl

-- A disk gives its configuration where the records of all have one length.
holdable : (config : Configuration) (disks : List Seated) (k : ℕ) (disk : Seated) → slice_get disks k ≡ Some disk → lengths_differ disks ≡ false → CanBeHeldOn config disks → (most : ℕ) × IsHoldable most config
holdable config [] k disk at same can = absurd cc
holdable config (first ∷ rest) k disk at same can = (first.copy.header.geometry.max_members, can.0 (one_length first rest same))

-- ---- a step

module _ (group : GroupValue) (are : AreNewest group.newest) (settled : IsSettledGroup group) (guid : List ℕ) (found : IsFoundAs guid group)
    (timestamp : ℕ) (change : Change) (asked : CanBeAsked change) (free : step_refusal timestamp None group.config (seated group) change ≡ None) (is : is_step group.config change ≡ true)
    (kept : is_spent (step_of timestamp group.config (seated group) change) ≡ false) where
  abbrev disks : List Seated
  disks = seated group

  abbrev next : Configuration
  next = config_after group.config change

  abbrev led : Before
  led = before (views_in disks)

  abbrev new : List Seated
  new = disks_after timestamp led next disks

  abbrev slots : List Shown
  slots = map shown_of group.newest

  abbrev after : List Shown
  after = map shown_of (fold with_level group.newest new)

  pub room : HasRoom timestamp led next disks
  room = room_for timestamp group.config next disks change refl (has_room timestamp group.config disks change free is)

  copies : AreCopies disks
  copies = copies_are group.config disks settled.can_be_changed.of_group

  held : CanBeHeldOn next disks
  held = next_held group.config disks change copies settled.can_be_changed.can_hold asked (no_cause timestamp group.config disks change free)

  tries : AllByRecursion (CanTry led next) disks
  tries = can_try_all led next disks copies room.same (led_by_all disks copies) held

  -- Each disk that stays can have its new copy.
  pub can_change : (k : ℕ) (disk : Seated) → slice_get disks k ≡ Some disk → stays_in next disk ≡ true → CanChange disk.copy led next timestamp
  can_change k disk at stays =
      let try = all_at (CanTry led next) disks k disk tries at in
      change_can disk.copy led next timestamp try.is_copy try.holdable (room_on led next timestamp disk stays (all_at (λ (one : Seated). full_where_written led next timestamp one ≡ None) disks k disk room.none at))

  -- A disk of the step is one of the group, which stays a member.
  pub record IsMade (made : Seated) : Type 0 where
    pub place : ℕ
    pub disk : Seated
    pub at : slice_get disks place ≡ Some disk
    pub stays : stays_in next disk ≡ true
    pub is_made : rewritten led next timestamp disk ≡ made

  pub made_is : (k : ℕ) (made : Seated) → slice_get new k ≡ Some made → IsMade made
  unfolding disks_after
  made_is k made at =
      let own = in_map (rewritten led next timestamp) (filter (stays_in next) disks) k made at in
      let here = filter_get (stays_in next) disks k own.0 own.1 in
      record {
        place = here.0;
        disk = own.0;
        at = here.1;
        stays = all_at (λ (one : Seated). stays_in next one ≡ true) (filter (stays_in next) disks) k own.0 (filter_pass (stays_in next) disks) own.1;
        is_made = own.2;
      }

  -- Each disk of the group was claimed.
  pub claimed_is : (k : ℕ) (disk : Seated) → slice_get disks k ≡ Some disk → IsClaimedDisk group guid disk
  claimed_is k disk at = all_at (IsClaimedDisk group guid) disks k disk (disks_claimed group are settled guid found) at

  module _ (made : Seated) (own : IsMade made) where
    pub made_view : view_of made.copy ≡ view_of (changed_copy own.disk.copy led next timestamp)
    made_view = sym (ap (λ (one : Seated). view_of one.copy) own.is_made) ∙ same_view led next timestamp own.disk

    -- Its copy shows the configuration.
    pub made_shows : shows next (view_of made.copy) ≡ true
    made_shows =
        let can = can_change own.place own.disk own.at own.stays in
        ap (shows next) made_view ∙ changed_shows own.disk.copy led next timestamp can.names can.rebuilt can.room

    pub made_guid : (view_of made.copy).guid ≡ (view_of own.disk.copy).guid
    made_guid = sym (ap (λ (one : Seated). (view_of one.copy).guid) own.is_made) ∙ (same_disk led next timestamp own.disk).0

    pub made_reference : (view_of made.copy).reference ≡ (view_of own.disk.copy).reference
    made_reference = sym (ap (λ (one : Seated). (view_of one.copy).reference) own.is_made) ∙ (same_disk led next timestamp own.disk).1

    pub made_slot : made.seat.slot ≡ own.disk.seat.slot
    made_slot = sym (ap (λ (one : Seated). one.seat.slot) own.is_made)

    pub apart_next : AreApart next.members
    apart_next = (holdable next disks own.place own.disk own.at room.same held).1.spares.apart

    pub apart_before : AreApart group.config.members
    apart_before = (holdable group.config disks own.place own.disk own.at room.same settled.can_be_changed.can_hold).1.spares.apart

    pub was_claimed : claims slots guid made.seat.slot ≡ true
    was_claimed = ap (claims slots guid) made_slot ∙ (claimed_is own.place own.disk own.at).is_claimed

    had_leader : HasLeader group are settled guid found
    had_leader = has_leader group are settled guid found made.seat.slot was_claimed

    -- Its disk is a current member.
    disk_current : IsCurrentIn next.members (view_of own.disk.copy).guid (view_of own.disk.copy).reference
    disk_current =
        let claim = claimed_is own.place own.disk own.at in
        let reference : own.disk.seat.reference ≡ (view_of own.disk.copy).reference = ap (λ (seat : Seat). seat.reference) claim.is_seat ∙ own_reference own.disk.seat.slot own.disk.copy in
        stays_current group.config change (view_of own.disk.copy).guid (view_of own.disk.copy).reference apart_next (claimed_current group are settled guid found own.disk claim)
        (sym (ap (is_current next.members) reference) ∙ own.stays)

    pub made_current : IsCurrentIn next.members (view_of made.copy).guid (view_of made.copy).reference
    made_current =
        subst (λ (g : List ℕ). IsCurrentIn next.members g (view_of made.copy).reference) (sym made_guid)
        (subst (λ (n : ℕ). IsCurrentIn next.members (view_of own.disk.copy).guid n) (sym made_reference) disk_current)

    -- It was one before.
    made_was : IsCurrentIn group.config.members (view_of made.copy).guid (view_of made.copy).reference
    made_was = was_current group.config change (view_of made.copy).guid (view_of made.copy).reference made_current

    -- Its slot showed the disk.
    pub shown_before : slot_at slots made.seat.slot ≡ Level (view_of own.disk.copy)
    shown_before = ap (slot_at slots) made_slot ∙ level_at group.newest own.disk.seat.slot own.disk.copy (claimed_is own.place own.disk own.at).is_newest

    -- It led.
    led_before : leads slots guid made.seat.slot ≡ true
    led_before =
        let claim = claimed_is own.place own.disk own.at in
        let view = view_of own.disk.copy in
        let shows_group_before : shows_group guid (Level view) ≡ true =
        subst (λ (g : List ℕ). shows_group g (Level view) ≡ true) (group_is group are settled guid found)
        (shows_own group.config view claim.is_shown apart_before (claimed_current group are settled guid found own.disk claim)) in
        let none : none_later slots guid view.sequence ≡ true =
        ap (none_later slots guid) (shown_from group.config view claim.is_shown).sequence ∙ none_ahead group are settled guid found made.seat.slot was_claimed in
        subst (λ (shown : Shown). (shows_group guid shown && none_later slots guid (sequence_in shown)) ≡ true) (sym shown_before) (both (shows_group guid (Level view)) _ shows_group_before none)
      where
        both : (a b : Bool) → a ≡ true → b ≡ true → (a && b) ≡ true
        both a b p q = ap (λ x. x && b) p ∙ q

    -- No slot that showed the group and didn't lead listed it as missing.
    none_split : (slot : ℕ) → shows_group guid (slot_at slots slot) ≡ true → leads slots guid slot ≡ false → lists_missing_in (slot_at slots slot) (view_of made.copy).guid (view_of made.copy).reference ≡ false
    unfolding contradiction leaders
    none_split slot shown behind =
        let parts = none_first (two_copies slots guid ∷ twins slots guid ∷ differing slots guid ∷ split_in slots guid ∷ []) found.not_contradicted in
        let below = shows_within guid slots made.seat.slot (first_true (shows_group guid (slot_at slots made.seat.slot)) _ led_before) in
        let there = get_range 0 (length slots) made.seat.slot below in
        let number : slice_get (numbers slots) made.seat.slot ≡ Some made.seat.slot = there.2 ∙ ap (λ (n : ℕ). Some n) (there.1 ∙ zero-add made.seat.slot) in
        let place = filtered_passes (leads slots guid) (numbers slots) made.seat.slot made.seat.slot number led_before in
        let none = none_of (split_from slots guid) (leaders slots guid) place.0 made.seat.slot parts.1.1.1.0 place.1 in
        let not_found = none_from_map (λ (one : ℕ). Split made.seat.slot one) (find (splits_from slots guid made.seat.slot) (numbers slots)) none in
        let its = get_range 0 (length slots) slot (shows_within guid slots slot shown) in
        let fails = none_passes (splits_from slots guid made.seat.slot) (numbers slots) slot slot not_found (its.2 ∙ ap (λ (n : ℕ). Some n) (its.1 ∙ zero-add slot)) in
        let view : view_in (slot_at slots made.seat.slot) ≡ Some (view_of own.disk.copy) = ap view_in shown_before in
        let known : lists_missing_in (slot_at slots slot) (view_of own.disk.copy).guid (view_of own.disk.copy).reference ≡ false =
        between (shows_group guid (slot_at slots slot)) _ (leads slots guid slot) shown behind
        (sym (ap (λ (disk : Option View). shows_group guid (slot_at slots slot) && lists_disk_missing (slot_at slots slot) disk && not (leads slots guid slot)) view) ∙ fails) in
        ap (λ (g : List ℕ). lists_missing_in (slot_at slots slot) g (view_of made.copy).reference) made_guid
        ∙ ap (λ (n : ℕ). lists_missing_in (slot_at slots slot) (view_of own.disk.copy).guid n) made_reference ∙ known
      where
        first_true : (a b : Bool) → (a && b) ≡ true → a ≡ true
        first_true true b h = refl
        first_true false b h = h

        between : (a b c : Bool) → a ≡ true → c ≡ false → (a && b && not c) ≡ false → b ≡ false
        between true b false p q h = and_true b h
          where
            and_true : (x : Bool) → (x && true) ≡ false → x ≡ false
            and_true true k = k
            and_true false k = refl
        between true b true p q h = absurd (false≢true (sym q))
        between false b c p q h = absurd (false≢true p)

    -- A slot that led lists it as a current member.
    none_led : (slot : ℕ) → leads slots guid slot ≡ true → claims slots guid slot ≡ true → lists_missing_in (slot_at slots slot) (view_of made.copy).guid (view_of made.copy).reference ≡ false
    none_led slot leading claim =
        let below = shows_within guid slots slot (first_true (shows_group guid (slot_at slots slot)) _ leading) in
        let disk = claimed_disk group are settled guid found slot below claim in
        let its = claimed_is disk.0 disk.1 disk.2 in
        let shown : slot_at slots slot ≡ Level (view_of disk.1.copy) = ap (slot_at slots) (sym disk.3) ∙ level_at group.newest disk.1.seat.slot disk.1.copy its.is_newest in
        let listed = none_missing_from group.config (view_of disk.1.copy) (view_of made.copy).guid (view_of made.copy).reference its.is_shown apart_before made_was in
        ap (λ (one : Shown). lists_missing_in one (view_of made.copy).guid (view_of made.copy).reference) shown
        ∙ ap (λ b. b || false) listed
      where
        first_true : (a b : Bool) → (a && b) ≡ true → a ≡ true
        first_true true b h = refl
        first_true false b h = h

  -- ---- what the step left

  slots_rise : SlotsRise (seats_in new)
  unfolding disks_after
  slots_rise = staying_rise led next timestamp disks (subst SlotsRise (sym settled.are_seated) settled.slots_rise)

  pub slot_below : (k : ℕ) (made : Seated) → slice_get new k ≡ Some made → made.seat.slot < length group.newest
  slot_below k made at =
      let own = made_is k made at in
      subst (λ (slot : ℕ). slot < length group.newest) (sym (made_slot made own))
      (get_within group.newest (Some (newests.Level own.disk.copy)) own.disk.seat.slot (claimed_is own.place own.disk own.at).is_newest)

  -- The newest copy of a slot of the step is level.
  pub level_now : (k : ℕ) (made : Seated) → slice_get new k ≡ Some made → slice_get (fold with_level group.newest new) made.seat.slot ≡ Some (Some (newests.Level made.copy))
  level_now k made at = level_here group.newest new slots_rise k made at (slot_below k made at)

  shown_now : (k : ℕ) (made : Seated) → slice_get new k ≡ Some made → slot_at after made.seat.slot ≡ Level (view_of made.copy)
  shown_now k made at = level_at (fold with_level group.newest new) made.seat.slot made.copy (level_now k made at)

  -- Any other slot shows what it did.
  pub shown_else : (slot : ℕ) → IsNoneOf (slots_in new) slot → slot_at after slot ≡ slot_at slots slot
  shown_else slot none =
      let same = level_else group.newest new slot (λ k made at. all_at (λ (n : ℕ). slot ≢ n) (slots_in new) k made.seat.slot none (mapped_at (λ (one : Seated). one.seat.slot) new k made at)) in
      ap (λ (one : Option Shown). unwrap_or one Nothing)
      (slice_get-map shown_of (fold with_level group.newest new) slot ∙ ap (option_map shown_of) same ∙ sym (slice_get-map shown_of group.newest slot))

  -- A written slot is that of a disk of the step.
  pub record IsOf (slot : ℕ) : Type 0 where
    pub place : ℕ
    pub made : Seated
    pub at : slice_get new place ≡ Some made
    pub same_slot : made.seat.slot ≡ slot

  pub slot_of : (place slot : ℕ) → slice_get (slots_in new) place ≡ Some slot → IsOf slot
  slot_of place slot at =
      let own = in_map (λ (one : Seated). one.seat.slot) new place slot at in
      record { place = place; made = own.0; at = own.1; same_slot = own.2 }

  pub made_of : (slot : ℕ) → (of : IsOf slot) → IsMade of.made
  made_of slot of = made_is of.place of.made of.at

  pub shown_of_slot : (slot : ℕ) → (of : IsOf slot) → slot_at after slot ≡ Level (view_of of.made.copy)
  shown_of_slot slot of = sym (ap (slot_at after) of.same_slot) ∙ shown_now of.place of.made of.at

  written_of : (slot : ℕ) (view : View) → IsWritten after (slots_in new) slot view → (of : IsOf slot) × (view_of of.made.copy ≡ view)
  written_of slot view written =
      let of = slot_of written.place slot written.at in
      let same : Level (view_of of.made.copy) ≡ Level view = sym (shown_of_slot slot of) ∙ written.shown in
      (of, cc)

  -- A disk of the group that stays is one of the step's.
  pub stays_made : (k : ℕ) (disk : Seated) → slice_get disks k ≡ Some disk → stays_in next disk ≡ true → (j : ℕ) × (slice_get new j ≡ Some (rewritten led next timestamp disk))
  unfolding disks_after
  stays_made k disk at stays =
      let kept_there = filtered_passes (stays_in next) disks k disk at stays in
      (kept_there.0, mapped_at (rewritten led next timestamp) (filter (stays_in next) disks) kept_there.0 disk kept_there.1)

  -- What a written view lists of a slot that wasn't written.
  foreign : (made : Seated) → IsMade made → (slot : ℕ) → IsNoneOf (slots_in new) slot → claims_by (Some (view_of made.copy)) (slot_at slots slot) ≡ false
  foreign made own slot none = by (view_in (slot_at slots slot)) refl
    where
      not_listed : (view : View) → view_in (slot_at slots slot) ≡ Some view → (b : Bool) → lists_current (view_of made.copy) view.guid view.reference ≡ b → b ≡ false
      not_listed view shown false listed = refl
      not_listed view shown true listed =
          let now = current_from next (view_of made.copy) view.guid view.reference (made_shows made own) listed in
          let then_current = was_current group.config change view.guid view.reference now in
          let claim = current_claimed group are settled guid found (apart_before made own) (had_leader made own) slot view shown then_current in
          let disk = claimed_disk group are settled guid found slot (view_within slots slot view shown) claim in
          let its = claimed_is disk.0 disk.1 disk.2 in
          let same : Some view ≡ Some (view_of disk.1.copy) = sym shown ∙ ap view_in (ap (slot_at slots) (sym disk.3) ∙ level_at group.newest disk.1.seat.slot disk.1.copy its.is_newest) in
          let is_view : view ≡ view_of disk.1.copy = cc in
          let reference : disk.1.seat.reference ≡ view.reference =
          ap (λ (seat : Seat). seat.reference) its.is_seat ∙ own_reference disk.1.seat.slot disk.1.copy ∙ ap (λ (one : View). one.reference) (sym is_view) in
          let stays : stays_in next disk.1 ≡ true = ap (is_current next.members) reference ∙ table_current next.members view.guid view.reference (apart_next made own) now in
          let there = stays_made disk.0 disk.1 disk.2 stays in
          absurd (all_at (λ (n : ℕ). slot ≢ n) (slots_in new) there.0 disk.1.seat.slot none (mapped_at (λ (one : Seated). one.seat.slot) new there.0 (rewritten led next timestamp disk.1) there.1) (sym disk.3))

      by : (found_view : Option View) → view_in (slot_at slots slot) ≡ found_view → claims_by (Some (view_of made.copy)) (slot_at slots slot) ≡ false
      by None e = ap (λ (one : Option View). option_map_or (λ (disk : View). lists_current (view_of made.copy) disk.guid disk.reference) one false) e
      by (Some view) e =
          ap (λ (one : Option View). option_map_or (λ (disk : View). lists_current (view_of made.copy) disk.guid disk.reference) one false) e
          ∙ not_listed view e (lists_current (view_of made.copy) view.guid view.reference) refl

  -- No slot that wasn't written lists a disk of the step as missing.
  not_missing : (made : Seated) → IsMade made → (slot : ℕ) → shows_group guid (slot_at slots slot) ≡ true → lists_missing_in (slot_at slots slot) (view_of made.copy).guid (view_of made.copy).reference ≡ false
  not_missing made own slot shown = by (leads slots guid slot) refl
    where
      by : (b : Bool) → leads slots guid slot ≡ b → lists_missing_in (slot_at slots slot) (view_of made.copy).guid (view_of made.copy).reference ≡ false
      by true e = none_led made own slot e (leader_claimed group are settled guid found slot e)
      by false e = none_split made own slot shown e

  -- The sequence number rises.
  rises : group.config.sequence < next.sequence
  rises =
      let left_over = still_left group.config.sequence (steps_of change) kept in
      let more = as_raised group.config.sequence (steps_of change) left_over in
      let taken = steps_taken change in
      omega (arith, more, taken)

  agrees : (one other : Seated) → IsMade one → IsMade other → difference (view_of one.copy) (view_of other.copy) ≡ None
  agrees one other own its =
      let can = can_change own.place own.disk own.at own.stays in
      let also = can_change its.place its.disk its.at its.stays in
      ap (λ (view : View). difference view (view_of other.copy)) (made_view one own)
      ∙ ap (difference (view_of (changed_copy own.disk.copy led next timestamp))) (made_view other its)
      ∙ copies_agree own.disk.copy its.disk.copy led next timestamp can.names can.rebuilt can.room also.room

  no_twins : twins slots guid ≡ None
  unfolding contradiction
  no_twins = (none_first (two_copies slots guid ∷ twins slots guid ∷ differing slots guid ∷ split_in slots guid ∷ []) found.not_contradicted).1.0

  -- What the step left of the slots, where it wrote a disk.
  pub left : (some : Seated) → slice_get new 0 ≡ Some some → IsLeft guid next.sequence slots after (slots_in new)
  left some first = record {
    same_length = length-map (fold with_level group.newest new) shown_of ∙ long_still group.newest new ∙ sym (length-map group.newest shown_of);
    rise = rise_of new slots_rise;
    within = all_from (λ (slot : ℕ). slot < length slots) (slots_in new)
        (λ k slot at.
        let of = slot_of k slot at in
        let below = slot_below of.place of.made of.at in
        let same = of.same_slot in
        let long : length slots ≡ length group.newest = length-map group.newest shown_of in
        omega (arith, below, same, long));
    views = λ place slot at. let of = slot_of place slot at in (view_of of.made.copy, shown_of_slot slot of);
    others = shown_else;
    shows = λ slot view written.
        let of = written_of slot view written in
        let own = made_of slot of.0 in
        subst (λ (one : View). shows_group guid (Level one) ≡ true) of.1
        (subst (λ (g : List ℕ). shows_group g (Level (view_of of.0.made.copy)) ≡ true) (group_is group are settled guid found)
        (shows_own next (view_of of.0.made.copy) (made_shows of.0.made own) (apart_next of.0.made own) (made_current of.0.made own)));
    sequences = λ slot view written.
        let of = written_of slot view written in
        sym (ap (λ (one : View). one.sequence) of.1) ∙ (shown_from next (view_of of.0.made.copy) (made_shows of.0.made (made_of slot of.0))).sequence;
    older = λ slot none shown.
        let own = made_is 0 some first in
        let within = not_ahead group are settled guid found slot (none_ahead group are settled guid found some.seat.slot (was_claimed some own)) shown in
        let more = rises in
        omega (arith, within, more);
    lists = λ i j one other written also.
        let of = written_of i one written in
        let its = written_of j other also in
        subst (λ (view : View). lists_current one view.guid view.reference ≡ true) its.1
        (subst (λ (view : View). lists_current view (view_of its.0.made.copy).guid (view_of its.0.made.copy).reference ≡ true) of.1
        (lists_from next (view_of of.0.made.copy) (view_of its.0.made.copy).guid (view_of its.0.made.copy).reference (made_shows of.0.made (made_of i of.0)) (apart_next of.0.made (made_of i of.0))
        (made_current its.0.made (made_of j its.0))));
    foreign = λ i j one written none.
        let of = written_of i one written in
        subst (λ (view : View). claims_by (Some view) (slot_at slots j) ≡ false) of.1 (foreign of.0.made (made_of i of.0) j none);
    agree = λ i j one other written also.
        let of = written_of i one written in
        let its = written_of j other also in
        subst (λ (view : View). difference one view ≡ None) its.1
        (subst (λ (view : View). difference view (view_of its.0.made.copy) ≡ None) of.1 (agrees of.0.made its.0.made (made_of i of.0) (made_of j its.0)));
    were_concerned = λ place slot at.
        let of = slot_of place slot at in
        or_right (shows_group guid (slot_at slots slot)) (claims slots guid slot) (sym (ap (claims slots guid) of.same_slot) ∙ was_claimed of.made (made_of slot of));
    same_references = λ place slot at.
        let of = slot_of place slot at in
        let own = made_of slot of in
        ap (λ (shown : Shown). option_map (λ (view : View). view.reference) (view_in shown)) (shown_of_slot slot of)
        ∙ ap (λ (n : ℕ). Some n) (made_reference of.made own)
        ∙ sym (ap (λ (shown : Shown). option_map (λ (view : View). view.reference) (view_in shown)) (sym (ap (slot_at slots) of.same_slot) ∙ shown_before of.made own));
    none_missing = λ i j one written none shown.
        let of = written_of i one written in
        subst (λ (view : View). lists_missing_in (slot_at slots j) view.guid view.reference ≡ false) of.1 (not_missing of.0.made (made_of i of.0) j shown);
    no_twins = no_twins;
  }
