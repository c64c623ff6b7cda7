-- A settled group of which one disk is left out is found without it: that is absent, and the others are as they were.
use Rattle.std.proofs.Common.{◌≡◌, ◌≢◌, ◌⊎◌, ℕ, zero, suc, ◌<◌, Bool, true, false, not, ◌&&◌, eqb, List, [], ◌∷◌, length, map, filter, Option, Some, None, Ok, refl, ap, sym, ◌∙◌, subst, inl, inr, arith, length-set}
use Rattle.std.proofs.lemmas.Bool.{and_parts, cases_eq, eq-eqb, eqb-true, false≢true}
use Rattle.std.proofs.lemmas.List.{length-map}
use Rattle.std.proofs.lemmas.Option.{slice_get-map}
use Rattle.std.specs.Prelude.{option_map, slice_get, slice_set, unwrap_or}
use Rattle.std.specs.List.{list_any}
use Rattle.std.specs.Option.{option_map_or}
use Rattle.std.proofs.lemmas.Map.Keys.{any_passes_from_place}
use Rattle.ddf_lemmas.proofs.Lists.{all_fail, any_place, filter_get, filter_pass, filtered_passes, in_map, map_empty, mapped_at, set_else, some_at_place}
use Rattle.ddf_lemmas.proofs.Options.{value_there}
use Rattle.ddf_copy.specs.declared.copy.DiskCopy.{DiskCopy}
use Rattle.ddf_copy.specs.declared.newest_copy.Newest.{Newest}
use Rattle.ddf_copy.specs.declared.newest_copy.Newest.TheVariants as newests
use Rattle.ddf_config.specs.declared.member.Member.{Member}
use Rattle.ddf_config.specs.declared.seat.Seat.{Seat}
use Rattle.ddf_view.specs.View.{View, view_of}
use Rattle.ddf_group.specs.declared.shown.Shown.{Shown}
use Rattle.ddf_group.specs.declared.shown.Shown.TheVariants.{Level, Nothing}
use Rattle.ddf_group.specs.Assembled.{absent, has_reference, is_absent}
use Rattle.ddf_group.specs.Conflicts.{is_concerned, twins}
use Rattle.ddf_group.specs.Shown.{shown_of}
use Rattle.ddf_group.specs.Slots.{claimed, reference_at, slot_at, view_in}
use Rattle.ddf_rewrite.proofs.Lists.{all_at}
use Rattle.ddf_seats.specs.declared.seated.Seated.{Seated}
use Rattle.ddf_steps.specs.Committed.{slots_of}
use Rattle.ddf_seats.specs.Group.{GroupValue}
use Rattle.ddf_assembly.specs.Group.{group_of}
use Rattle.ddf_seats.specs.Seated.{seated, seats_in, slots_in}
use Rattle.ddf_seats.specs.Changing.{SlotsRise}
use Rattle.ddf_seats.proofs.CommittedSeats.{rise_differ}
use Rattle.ddf_seats.proofs.KeptSlots.{kept_rise}
use Rattle.ddf_assembly.proofs.LeftBefore.{level_at, none_gone, shown_at as shown_of_slot, slots_claimed}
use Rattle.ddf_recovery.proofs.LeftLists.{IsNoneOf, one_or_none}
use Rattle.ddf_assembly.proofs.LeftMembers.{IsCurrentIn}
use Rattle.ddf_history_steps.proofs.Slots.{slot_placed}
use Rattle.ddf_uncut_group.specs.Settled.{IsToldByAll}
use Rattle.ddf_uncut_group.specs.Without.{without_seat}
use Rattle.ddf_uncut_group.proofs.SettledFound.{disks_counted, found_as}
use Rattle.ddf_uncut_group.proofs.SettledTelling.{AreTelling, IsTelling, found_telling, none_concerned, reads_full, twins_kept}
use Rattle.ddf_uncut_group.proofs.UnpluggedDisks.{agree_all, apart, claim, current, disk_concerned, full, its_reference, member_place, no_twins, one_slot, shown_at}
use Rattle.ddf_uncut_group.proofs.UnpluggedLists.{any_none, begins, kept_one, map_kept, set_here}

not_equal : (n m : ℕ) → not (eqb n m) ≡ true → n ≢ m
not_equal n m kept same = false≢true (sym (ap not (eq-eqb n m same)) ∙ kept)

kept_of : (n m : ℕ) → n ≢ m → not (eqb n m) ≡ true
kept_of n m differ = by (eqb n m) refl
  where
    by : (b : Bool) → eqb n m ≡ b → not b ≡ true
    by true e = absurd (differ (eqb-true n m e))
    by false e = refl

module _ (group : GroupValue) (told : IsToldByAll group) (place : ℕ) (seat : Seat) (is_seat : slice_get group.seats place ≡ Some seat) where
  abbrev guid : List ℕ
  guid = group.config.group

  abbrev slots : List Shown
  slots = map shown_of group.newest

  abbrev keeps : Seated → Bool
  keeps disk = not (eqb disk.seat.slot seat.slot)

  abbrev pub left : List Seated
  left = filter keeps (seated group)

  abbrev pub newest : List (Option Newest)
  newest = slice_set group.newest seat.slot None

  abbrev after : List Shown
  after = map shown_of newest

  -- the disk of the seat
  own : (disk : Seated) × (slice_get (seated group) place ≡ Some disk) × (disk.seat ≡ seat)
  own = in_map (λ (disk : Seated). disk.seat) (seated group) place seat (ap (λ (seats : List Seat). slice_get seats place) told.is_settled.are_seated ∙ is_seat)

  -- ---- the disks that are left

  pub record IsLeftDisk (disk : Seated) : Type 0 where
    pub at_place : ℕ
    pub at : slice_get (seated group) at_place ≡ Some disk
    pub differs_in : disk.seat.slot ≢ seat.slot

  pub left_is : (k : ℕ) (disk : Seated) → slice_get left k ≡ Some disk → IsLeftDisk disk
  left_is k disk at =
      let there = filter_get keeps (seated group) k disk at in
      let kept = all_at (λ (one : Seated). keeps one ≡ true) left k disk (filter_pass keeps (seated group)) at in
      record { at_place = there.0; at = there.1; differs_in = not_equal disk.seat.slot seat.slot kept }

  pub is_left : (k : ℕ) (disk : Seated) → slice_get (seated group) k ≡ Some disk → disk.seat.slot ≢ seat.slot → (j : ℕ) × (slice_get left j ≡ Some disk)
  is_left k disk at differ = filtered_passes keeps (seated group) k disk at (kept_of disk.seat.slot seat.slot differ)

  -- The disk on the seat's slot is its own.
  same_reference_on : (k : ℕ) (disk : Seated) → slice_get (seated group) k ≡ Some disk → disk.seat.slot ≡ seat.slot → disk.seat.reference ≡ seat.reference
  same_reference_on k disk at same =
      let copies : Some (Some (newests.Level disk.copy)) ≡ Some (Some (newests.Level own.0.copy)) =
      sym ((claim group told k disk at).is_newest) ∙ ap (λ (n : ℕ). slice_get group.newest n) (same ∙ sym (ap (λ (one : Seat). one.slot) own.2)) ∙ (claim group told place own.0 own.1).is_newest in
      let copy : disk.copy ≡ own.0.copy = cc in
      its_reference group told k disk at ∙ ap (λ (one : DiskCopy). (view_of one).reference) copy ∙ sym (its_reference group told place own.0 own.1) ∙ ap (λ (one : Seat). one.reference) own.2

  -- A disk of the group has the seat's reference, or is left.
  pub lost_or_left : (k : ℕ) (disk : Seated) → slice_get (seated group) k ≡ Some disk → (disk.seat.reference ≡ seat.reference) ⊎ ((j : ℕ) × (slice_get left j ≡ Some disk))
  lost_or_left k disk at = elim (cases_eq disk.seat.slot seat.slot) [
    | inl same ↦ inl (same_reference_on k disk at same)
    | inr differ ↦ inr (is_left k disk at differ)
  ]

  -- Their seats are those of the group but this one.
  pub seats_left : seats_in left ≡ filter (λ other. not (eqb other.slot seat.slot)) group.seats
  seats_left =
      map_kept (λ (disk : Seated). disk.seat) (λ (other : Seat). not (eqb other.slot seat.slot)) (seated group)
      ∙ ap (filter (λ (other : Seat). not (eqb other.slot seat.slot))) told.is_settled.are_seated

  pub still : (slot : ℕ) → slot ≢ seat.slot → slice_get newest slot ≡ slice_get group.newest slot
  still slot differ = set_else group.newest seat.slot slot None differ

  left_newest : (k : ℕ) (disk : Seated) → slice_get left k ≡ Some disk → slice_get newest disk.seat.slot ≡ Some (Some (newests.Level disk.copy))
  left_newest k disk at = let is = left_is k disk at in still disk.seat.slot is.differs_in ∙ (claim group told is.at_place disk is.at).is_newest

  telling : (k : ℕ) (disk : Seated) → slice_get left k ≡ Some disk → IsTelling newest group.config disk
  telling k disk at =
      let is = left_is k disk at in
      let own_claim = claim group told is.at_place disk is.at in
      record { is_newest = left_newest k disk at; is_seat = own_claim.is_seat; is_shown = own_claim.is_shown; is_current = current group told is.at_place disk is.at }

  -- ---- the other slots

  nothing_by : (slot : ℕ) (found : Option (Option Newest)) → slice_get newest slot ≡ found → ((one : Newest) → found ≡ Some (Some one) → ⊥) → slot_at after slot ≡ Nothing
  unfolding shown_of
  nothing_by slot None at none = ap (λ (one : Option Shown). unwrap_or one Nothing) (slice_get-map shown_of newest slot) ∙ ap (λ (one : Option (Option Newest)). unwrap_or (option_map shown_of one) Nothing) at
  nothing_by slot (Some None) at none = shown_of_slot newest slot None at
  nothing_by slot (Some (Some one)) at none = absurd (none one refl)

  pub none_at : (slot : ℕ) → IsNoneOf (slots_in left) slot → (one : Newest) → slice_get newest slot ≡ Some (Some one) → ⊥
  none_at slot none one at = elim (cases_eq slot seat.slot) [
    | inl same ↦
        let here : None ≡ Some one = set_here group.newest seat.slot None (Some one) (sym (ap (λ (n : ℕ). slice_get newest n) same) ∙ at) in
        absurd cc
    | inr differ ↦
        let has = told.none_beside slot one (sym (still slot differ) ∙ at) in
        let there = slot_placed (slots_of group.seats) slot has in
        let its_seat = in_map (λ (other : Seat). other.slot) group.seats there.0 slot there.1 in
        let disk = in_map (λ (other : Seated). other.seat) (seated group) there.0 its_seat.0 (ap (λ (seats : List Seat). slice_get seats there.0) told.is_settled.are_seated ∙ its_seat.1) in
        let on_slot : disk.0.seat.slot ≡ slot = ap (λ (other : Seat). other.slot) disk.2 ∙ its_seat.2 in
        let in_left = is_left there.0 disk.0 disk.1 (λ (same : disk.0.seat.slot ≡ seat.slot). differ (sym on_slot ∙ same)) in
        all_at (λ (n : ℕ). slot ≢ n) (slots_in left) in_left.0 slot none (mapped_at (λ (other : Seated). other.seat.slot) left in_left.0 disk.0 in_left.1 ∙ ap (λ (n : ℕ). Some n) on_slot) refl
  ]

  none_else : (slot : ℕ) → IsNoneOf (slots_in left) slot → slot_at after slot ≡ Nothing
  none_else slot none = nothing_by slot (slice_get newest slot) refl (none_at slot none)

  -- ---- references

  left_shown : (k : ℕ) (disk : Seated) → slice_get left k ≡ Some disk → slot_at after disk.seat.slot ≡ Level (view_of disk.copy)
  left_shown k disk at = level_at newest disk.seat.slot disk.copy (left_newest k disk at)

  left_reference : (k : ℕ) (disk : Seated) → slice_get left k ≡ Some disk → reference_at after disk.seat.slot ≡ Some disk.seat.reference
  left_reference k disk at =
      let is = left_is k disk at in
      ap (λ (shown : Shown). option_map (λ (view : View). view.reference) (view_in shown)) (left_shown k disk at)
      ∙ ap (λ (n : ℕ). Some n) (sym (its_reference group told is.at_place disk is.at))

  was_reference : (k : ℕ) (disk : Seated) → slice_get (seated group) k ≡ Some disk → reference_at slots disk.seat.slot ≡ Some disk.seat.reference
  was_reference k disk at =
      ap (λ (shown : Shown). option_map (λ (view : View). view.reference) (view_in shown)) (shown_at group told k disk at)
      ∙ ap (λ (n : ℕ). Some n) (sym (its_reference group told k disk at))

  -- A slot that the group is concerned with is that of a disk that is left.
  concerned_before : (slot : ℕ) → is_concerned after guid slot ≡ true → (is_concerned slots guid slot ≡ true) × (reference_at after slot ≡ reference_at slots slot)
  concerned_before slot h = elim (one_or_none (slots_in left) slot) [
    | inl found ↦
        let disk = in_map (λ (one : Seated). one.seat.slot) left found.0 slot found.1 in
        let is = left_is found.0 disk.0 disk.1 in (
          subst (λ (n : ℕ). is_concerned slots guid n ≡ true) disk.2 (disk_concerned group told is.at_place disk.0 is.at),
          subst (λ (n : ℕ). reference_at after n ≡ reference_at slots n) disk.2 (left_reference found.0 disk.0 disk.1 ∙ sym (was_reference is.at_place disk.0 is.at)),
        )
    | inr none ↦
        absurd (false≢true (sym (none_concerned after guid slot (none_else slot none)) ∙ h))
  ]

  long : length after ≡ length slots
  long = length-map newest shown_of ∙ length-set group.newest seat.slot None ∙ sym (length-map group.newest shown_of)

  none_twin : twins after guid ≡ None
  none_twin = twins_kept slots after guid long concerned_before (no_twins group told)

  -- ---- who is absent

  pub missing_reference : (k : ℕ) (disk : Seated) → slice_get left k ≡ Some disk → eqb disk.seat.reference seat.reference ≡ false
  missing_reference k disk at = by (eqb disk.seat.reference seat.reference) refl
    where
      by : (b : Bool) → eqb disk.seat.reference seat.reference ≡ b → b ≡ false
      by false e = refl
      by true e =
          let is = left_is k disk at in
          let own_seat : own.0.seat ≡ seat = own.2 in
          let same = one_slot group told is.at_place place disk own.0 is.at own.1 (eqb-true disk.seat.reference seat.reference e ∙ sym (ap (λ (one : Seat). one.reference) own_seat)) in
          absurd (is.differs_in (same ∙ ap (λ (one : Seat). one.slot) own_seat))

  abbrev absents : (ℕ × Member) → Bool
  absents entry = is_absent after (slots_in left) entry

  -- the entry of the seat's disk
  entry : IsCurrentIn group.config.members (view_of own.0.copy).guid (view_of own.0.copy).reference
  entry = current group told place own.0 own.1

  key : (view_of own.0.copy).reference ≡ seat.reference
  key = sym (its_reference group told place own.0 own.1) ∙ ap (λ (one : Seat). one.reference) own.2

  entry_at : slice_get group.config.members entry.place ≡ Some (seat.reference, entry.member)
  entry_at = entry.at ∙ ap (λ (n : ℕ). Some (n, entry.member)) key

  entry_absent : absents (seat.reference, entry.member) ≡ true
  entry_absent =
      ap (λ b. not b && not (list_any (has_reference after seat.reference) (slots_in left))) entry.is_here
      ∙ ap not (any_none (has_reference after seat.reference) (slots_in left)
      (λ k slot at.
      let disk = in_map (λ (one : Seated). one.seat.slot) left k slot at in
      sym (ap (λ (n : ℕ). has_reference after seat.reference n) disk.2)
      ∙ ap (λ (o : Option ℕ). option_map_or (λ one. eqb one seat.reference) o false) (left_reference k disk.0 disk.1) ∙ missing_reference k disk.0 disk.1))

  -- a member that isn't missing had a seat
  pub had_seat : (i : ℕ) (other : ℕ × Member) → slice_get group.config.members i ≡ Some other → other.1.missing ≡ false
      → (k : ℕ) × (disk : Seated) × (slice_get (seated group) k ≡ Some disk) × (disk.seat.reference ≡ other.0)
  had_seat i other at here =
      let none = map_empty (λ (member : ℕ × Member). member.0) (filter (is_absent slots (claimed slots guid)) group.config.members) (none_gone group told.are_newest told.is_settled guid (found_as group told)) in
      let fails = all_at (λ (member : ℕ × Member). is_absent slots (claimed slots guid) member ≡ false) group.config.members i other (all_fail (is_absent slots (claimed slots guid)) group.config.members none) at in
      let seated_one = any_place (has_reference slots other.0) (claimed slots guid) (seat_there other.1.missing (list_any (has_reference slots other.0) (claimed slots guid)) here fails) in
      let in_disks : slice_get (slots_in (seated group)) seated_one.0 ≡ Some seated_one.1 =
      ap (λ (l : List ℕ). slice_get l seated_one.0) (slots_claimed group told.are_newest told.is_settled guid (found_as group told)) ∙ seated_one.2 in
      let disk = in_map (λ (one : Seated). one.seat.slot) (seated group) seated_one.0 seated_one.1 in_disks in
      let told_one = value_there (λ one. eqb one other.0) (reference_at slots seated_one.1) seated_one.3 in
      let is : Some told_one.0 ≡ Some disk.0.seat.reference = sym told_one.1 ∙ sym (ap (reference_at slots) disk.2) ∙ was_reference seated_one.0 disk.0 disk.1 in
      let number : told_one.0 ≡ disk.0.seat.reference = cc in
      (seated_one.0, disk.0, disk.1, sym number ∙ eqb-true told_one.0 other.0 told_one.2)
    where
      seat_there : (missing any : Bool) → missing ≡ false → (not missing && not any) ≡ false → any ≡ true
      seat_there false true e h = refl
      seat_there false false e h = sym h
      seat_there true any e h = absurd (false≢true (sym e))

  only_entry : (i : ℕ) (other : ℕ × Member) → slice_get group.config.members i ≡ Some other → absents other ≡ true → i ≡ entry.place
  only_entry i other at gone =
      let parts = and_parts (not other.1.missing) (not (list_any (has_reference after other.0) (slots_in left))) gone in
      let disk = had_seat i other at (not_true other.1.missing parts.0) in
      by disk.0 disk.1 disk.2 disk.3 (not_true (list_any (has_reference after other.0) (slots_in left)) parts.1)
    where
      not_true : (b : Bool) → not b ≡ true → b ≡ false
      not_true true h = absurd cc
      not_true false h = refl

      by : (k : ℕ) (disk : Seated) → slice_get (seated group) k ≡ Some disk → disk.seat.reference ≡ other.0 → list_any (has_reference after other.0) (slots_in left) ≡ false → i ≡ entry.place
      by k disk there reference none = elim (cases_eq disk.seat.slot seat.slot) [
        | inl same ↦
            let number : other.0 ≡ seat.reference = sym reference ∙ same_reference_on k disk there same in
            member_place group told i entry.place other (seat.reference, entry.member) at entry_at number
        | inr differ ↦
            let in_left = is_left k disk there differ in
            let some = any_passes_from_place (has_reference after other.0) (slots_in left) in_left.0 disk.seat.slot (mapped_at (λ (one : Seated). one.seat.slot) left in_left.0 disk in_left.1)
            (ap (λ (o : Option ℕ). option_map_or (λ one. eqb one other.0) o false) (left_reference in_left.0 disk in_left.1) ∙ eq-eqb disk.seat.reference other.0 reference) in
            absurd (false≢true (sym none ∙ some))
      ]

  is_gone : absent after (slots_in left) group.config.members ≡ seat.reference ∷ []
  is_gone =
      ap (λ (l : List (ℕ × Member)). map (λ (member : ℕ × Member). member.0) l)
      (kept_one absents group.config.members entry.place (seat.reference, entry.member) entry_at entry_absent only_entry)

  -- ---- what is found

  module _ (two : 1 < length group.seats) where
    -- some other disk is left
    pub other_left : (k : ℕ) × (disk : Seated) × (slice_get left k ≡ Some disk)
    other_left = by place refl
      where
        another : (q : ℕ) → q < length (seated group) → q ≢ place → (k : ℕ) × (disk : Seated) × (slice_get left k ≡ Some disk)
        another q below differ =
            let disk = some_at_place (seated group) q below in
            let own_slot : own.0.seat.slot ≡ seat.slot = ap (λ (one : Seat). one.slot) own.2 in
            let kept = is_left q disk.0 disk.1
            (λ (same : disk.0.seat.slot ≡ seat.slot).
            differ (rise_differ (seated group) (subst SlotsRise (sym told.is_settled.are_seated) told.is_settled.slots_rise) q place seat.slot
            (mapped_at (λ (one : Seated). one.seat.slot) (seated group) q disk.0 disk.1 ∙ ap (λ (n : ℕ). Some n) same)
            (mapped_at (λ (one : Seated). one.seat.slot) (seated group) place own.0 own.1 ∙ ap (λ (n : ℕ). Some n) own_slot))) in
            (kept.0, disk.0, kept.1)

        by : (p : ℕ) → p ≡ place → (k : ℕ) × (disk : Seated) × (slice_get left k ≡ Some disk)
        by zero is = let counted = disks_counted group told in another 1 (omega (arith, counted, two)) (λ (same : 1 ≡ place). omega (arith, same, is))
        by (suc p) is = let counted = disks_counted group told in another 0 (omega (arith, counted, two)) (λ (same : 0 ≡ place). omega (arith, same, is))

    pub all_telling : AreTelling newest group.config left
    all_telling = record {
      rise = kept_rise keeps (seated group) (subst SlotsRise (sym told.is_settled.are_seated) told.is_settled.slots_rise);
      each = telling;
      none_else = none_else;
      agree = λ i j one other at also.
          let is = left_is i one at in
          let its = left_is j other also in
          agree_all group told is.at_place its.at_place one other is.at its.at;
      apart = apart group told;
      reads = reads_full group.config left (λ k disk at. let is = left_is k disk at in full group told is.at_place disk is.at) (some_within left other_left.0 other_left.1 other_left.2);
      no_twins = none_twin;
    }
      where
        some_within : (disks : List Seated) (k : ℕ) (disk : Seated) → slice_get disks k ≡ Some disk → 0 < length disks
        some_within [] k disk at = absurd cc
        some_within (one ∷ disks) k disk at = omega arith

    -- Without the disk the group is found, of which that is absent.
    pub found_without : group_of newest (Some group.config.group) ≡ Ok (without_seat group seat)
    found_without = by (begins left other_left.0 other_left.1 other_left.2)
      where
        by : (first : Seated) × (rest : List Seated) × (left ≡ first ∷ rest) → group_of newest (Some group.config.group) ≡ Ok (without_seat group seat)
        by is =
            let telling_all = subst (λ (disks : List Seated). AreTelling newest group.config disks) is.2 all_telling in
            let gone = sym (ap (λ (disks : List Seated). absent after (slots_in disks) group.config.members) is.2) ∙ is_gone in
            found_telling newest group.config is.0 is.1 telling_all (seat.reference ∷ []) gone
            ∙ ap (λ (seats : List Seat). Ok (record { config = group.config; seats = seats; absent = seat.reference ∷ []; lagging = []; newest = newest })) (sym (ap seats_in is.2) ∙ seats_left)
