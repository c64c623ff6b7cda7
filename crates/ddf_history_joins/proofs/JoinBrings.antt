-- An assembled group brings along its current members, each in its seat, once those that are absent are lost.
use Rattle.std.proofs.Common.{◌≡◌, ℕ, zero, suc, ◌+◌, ◌<◌, ◌&&◌, not, Bool, true, false, eqb, nat_eq, List, [], ◌∷◌, length, map, Option, Some, None, Ok, if◌then◌else◌, refl, ap, sym, ◌∙◌, subst, arith, zero-add}
use Rattle.std.proofs.lemmas.Bool.{and_parts, eq-eqb, eqb-true, false≢true}
use Rattle.std.specs.Prelude.{filter, filter_map, find, option_map, slice_get}
use Rattle.std.specs.List.{IsDistinct, cons_option, list_any}
use Rattle.std.specs.Map.{lookup}
use Rattle.std.specs.Option.{option_and_then, option_map_or}
use Rattle.std.specs.Str.{bytes_eq}
use Rattle.std.proofs.lemmas.Map.Keys.{any_passes_from_place}
use Rattle.std.proofs.lemmas.Option.{same_Some}
use Rattle.ddf_lemmas.proofs.Lists.{filtered_passes, found_place, in_map, mapped_at}
use Rattle.ddf_lemmas.proofs.Options.{value_there}
use Rattle.ddf_tables.specs.declared.disks.DiskEntry.{DiskEntry}
use Rattle.ddf_config.specs.declared.member.Member.{Member}
use Rattle.ddf_config.specs.declared.seat.Seat.{Seat}
use Rattle.ddf_config.specs.Configuration.{Configuration}
use Rattle.ddf_copy.specs.declared.copy.DiskCopy.{DiskCopy}
use Rattle.ddf_copy.specs.declared.newest_copy.Newest.{Newest}
use Rattle.ddf_copy.specs.declared.newest_copy.Newest.TheVariants as newests
use Rattle.ddf_copy.specs.Copies.{standing_copy}
use Rattle.ddf_copy.specs.Whole.{IsNewestUnder}
use Rattle.ddf_copy.specs.Written.{CanBeCopy}
use Rattle.ddf_header.specs.declared.reading.Header.{Header}
use Rattle.ddf_import.specs.Joined.{without_lost}
use Rattle.ddf_plan.specs.declared.change.Change.TheVariants.{Lose}
use Rattle.ddf_plan.specs.Changes.{changed_at}
use Rattle.ddf_plan.specs.Lose.{is_among}
use Rattle.ddf_view.specs.View.{View, is_missing, lists_current, view_of}
use Rattle.ddf_view.specs.Reading.{disks_in, member_entry_in, read}
use Rattle.ddf_view.proofs.Names.{names_differ}
use Rattle.ddf_group.specs.declared.shown.Shown.{Shown}
use Rattle.ddf_group.specs.declared.shown.Shown.TheVariants as shown
use Rattle.ddf_group.specs.Assembled.{assembled_as, config_of, has_reference, is_absent, leading_views}
use Rattle.ddf_group.specs.Shown.{shown_of}
use Rattle.ddf_group.specs.Slots.{claims, claims_by, leaders, leading_view, leads, none_later, numbers, reference_at, sequence_in, shows_group, slot_at, view_in}
use Rattle.ddf_rewrite.proofs.Lists.{get_range}
use Rattle.ddf_history.specs.Groups.{Disk, disk_of, has_current}
use Rattle.ddf_history.proofs.Listed.{table_lists}
use Rattle.ddf_history.proofs.Following.{changes_follow, lost_missing}
use Rattle.ddf_history.proofs.Sound.{groups_are_sound}
use Rattle.ddf_seats.specs.declared.seated.Seated.{Seated}
use Rattle.ddf_assembly.specs.Assembled.{IsAssembledGroup}
use Rattle.ddf_seats.specs.Group.{GroupValue, copy_at, seat_of}
use Rattle.ddf_assembly.specs.Group.{group_of}
use Rattle.ddf_joining.specs.Joining.{config_joining}
use Rattle.ddf_assembly.specs.Reading.{HaveAnchors}
use Rattle.ddf_seats.specs.Seated.{seated, seats_in}
use Rattle.ddf_seats.proofs.CommittedSeats.{seated_is}
use Rattle.ddf_assembly.proofs.SettledHeld.{newest_kept}
use Rattle.ddf_history_joins.specs.Joins.{BringsMembers}
use Rattle.ddf_history_steps.proofs.Begun.{IsMadeOf, found_named}
use Rattle.ddf_history_steps.proofs.ChangingStays.{stays_current}
use Rattle.ddf_history_steps.proofs.Claimed.{absent_none, entry_there, listed_among}
use Rattle.ddf_history_steps.proofs.Filtered.{any_kept, made_of}
use Rattle.ddf_history_steps.proofs.RecoveringLoss.{lose_leaves}
use Rattle.ddf_history_steps.proofs.Seats.{absent_are, copy_there, group_made, claims_seat, seat_claims, seat_there, seats_are, view_at}
use Rattle.ddf_history.proofs.Common.{current_listed}
use Rattle.ddf_history_steps.proofs.FoundingViews.{members_given}

-- ---- lists

-- Where none is found none is kept,
none_kept : {X : Type 0} (test : X → Bool) (xs : List X) → find test xs ≡ None → filter test xs ≡ []
none_kept test [] none = refl
none_kept {X = X} test (x ∷ xs) none = go (none_kept test xs) (test x) refl none
  where
    go : (find test xs ≡ None → filter test xs ≡ []) → (b : Bool) → test x ≡ b → (if b then Some x else find test xs) ≡ None
        → (if b then x ∷ filter test xs else filter test xs) ≡ []
    go later true is nothing = absurd cc
    go later false is nothing = later nothing

-- and what is found is kept first.
first_kept : {X : Type 0} (test : X → Bool) (xs : List X) (x : X) → find test xs ≡ Some x → (rest : List X) × (filter test xs ≡ x ∷ rest)
first_kept test [] x found = absurd cc
first_kept {X = X} test (first ∷ xs) x found = go (first_kept test xs x) (test first) refl found
  where
    go : (find test xs ≡ Some x → (rest : List X) × (filter test xs ≡ x ∷ rest)) → (b : Bool) → test first ≡ b → (if b then Some first else find test xs) ≡ Some x
        → (rest : List X) × ((if b then first ∷ filter test xs else filter test xs) ≡ x ∷ rest)
    go later true is same = let own : first ≡ x = cc in (filter test xs, ap (λ (one : X). one ∷ filter test xs) own)
    go later false is same = later same

-- ---- what is read of a table

-- A slot that shows a group shows a copy.
shows_copy : (group : List ℕ) (slot : Shown) → shows_group group slot ≡ true → (view : View) × (view_in slot ≡ Some view)
shows_copy group shown.Nothing is = absurd (false≢true is)
shows_copy group (shown.One view) is = (view, refl)
shows_copy group (shown.Level view) is = (view, refl)
shows_copy group (shown.TwoDiffer primary secondary) is = (primary, refl)

-- A copy that stands for a newest copy can be written.
standing_can : (size : ℕ) (anchor : Header) (newest : Newest) (copy : DiskCopy) → IsNewestUnder size anchor newest → standing_copy newest ≡ Some copy → CanBeCopy copy
standing_can size anchor (newests.One which found) copy under is = let same : found ≡ copy = cc in subst CanBeCopy same under.is_copy
standing_can size anchor (newests.Level found) copy under is = let same : found ≡ copy = cc in subst CanBeCopy same under.is_copy
standing_can size anchor (newests.TwoDiffer primary secondary) copy under is = let same : primary ≡ copy = cc in subst CanBeCopy same under.0.is_copy
standing_can size anchor (newests.Neither first second) copy under is = absurd cc

module _ (newest : List (Option Newest)) (named : Option (List ℕ)) (other : GroupValue) (is : group_of newest named ≡ Ok other) (sizes : List ℕ) (under : HaveAnchors sizes newest)
    (assembled : IsAssembledGroup other) where
  abbrev group : List ℕ
  group = other.config.group

  abbrev slots : List Shown
  slots = map shown_of newest

  made : IsMadeOf newest (Some group) other
  made = found_named newest named group other is refl

  abbrev views : List View
  views = leading_views slots group

  config_is : other.config ≡ config_of slots group
  unfolding assembled_as
  config_is = sym (ap (λ (one : GroupValue). one.config) (group_made newest group other made))

  members_are : other.config.members ≡ map (member_entry_in views) (disks_in views)
  unfolding config_of read
  members_are = ap (λ (config : Configuration). config.members) config_is

  -- ---- the lowest leader

  -- Without one there are no members.
  no_leader : find (leads slots group) (numbers slots) ≡ None → (disk : Disk) → has_current other.config disk ≡ false
  unfolding leaders
  no_leader none disk =
      let no_views : views ≡ [] = ap (filter_map (λ slot. view_in (slot_at slots slot))) (none_kept (leads slots group) (numbers slots) none) in
      ap (λ (members : List (ℕ × Member)). option_map_or (λ (member : Member). bytes_eq member.guid disk.guid && not member.missing) (lookup (λ reference. eqb reference disk.reference) members) false)
      (members_are ∙ ap (λ (all : List View). map (member_entry_in all) (disks_in all)) no_views)

  -- A copy that a slot shows can be written.
  slot_can : (slot : ℕ) (view : View) → view_in (slot_at slots slot) ≡ Some view → (copy : DiskCopy) × (copy_at newest slot ≡ Some copy) × (view_of copy ≡ view) × CanBeCopy copy
  slot_can slot view shows =
      let found = copy_there newest slot view shows in
      (found.0, found.1, found.2, by (slice_get newest slot) refl found.0 found.1)
    where
      by : (entry : Option (Option Newest)) → slice_get newest slot ≡ entry → (copy : DiskCopy) → option_and_then (λ one. option_and_then standing_copy one) (slice_get newest slot) ≡ Some copy
          → CanBeCopy copy
      by None e copy at = absurd (let no : None ≡ Some copy = sym (ap (option_and_then (λ one. option_and_then standing_copy one)) e) ∙ at in cc)
      by (Some None) e copy at = absurd (let no : None ≡ Some copy = sym (ap (option_and_then (λ one. option_and_then standing_copy one)) e) ∙ at in cc)
      by (Some (Some one)) e copy at =
          let have = (under slot one e).1 in
          standing_can _ have.anchor one copy have.under (sym (ap (option_and_then (λ n. option_and_then standing_copy n)) e) ∙ at)

  module _ (first : ℕ) (found : find (leads slots group) (numbers slots) ≡ Some first) where
    leader : (view : View) × (view_in (slot_at slots first) ≡ Some view)
    leader =
        let at = found_place (leads slots group) (numbers slots) first found in
        shows_copy group (slot_at slots first) (and_parts (shows_group group (slot_at slots first)) (none_later slots group (sequence_in (slot_at slots first))) at.2).0

    leader_is : leading_view slots group ≡ Some leader.0
    unfolding leading_view
    leader_is = ap (option_and_then (λ slot. view_in (slot_at slots slot))) found ∙ leader.1

    views_are : (rest : List View) × (views ≡ leader.0 ∷ rest)
    unfolding leaders
    views_are =
        let kept = first_kept (leads slots group) (numbers slots) first found in (
          filter_map (λ slot. view_in (slot_at slots slot)) kept.0,
          ap (filter_map (λ slot. view_in (slot_at slots slot))) kept.1
              ∙ ap (λ (one : Option View). cons_option one (filter_map (λ slot. view_in (slot_at slots slot)) kept.0)) leader.1,
        )

    -- What it lists is current.
    current_is : (disk : Disk) → has_current other.config disk ≡ lists_current leader.0 disk.guid disk.reference
    unfolding lists_current
    current_is disk =
        let can = slot_can first leader.0 leader.1 in
        let apart : IsDistinct nat_eq (map (λ (one : DiskEntry). one.reference) leader.0.disks) =
        subst (λ (view : View). IsDistinct nat_eq (map (λ (one : DiskEntry). one.reference) view.disks)) can.2 (names_differ can.0 [] can.3).references in
        let all : other.config.members ≡ map (member_entry_in views) leader.0.disks =
        members_are ∙ ap (λ (some : List View). map (member_entry_in views) (disks_in some)) views_are.1 in
        ap (λ (members : List (ℕ × Member)). option_map_or (λ (member : Member). bytes_eq member.guid disk.guid && not member.missing) (lookup (λ reference. eqb reference disk.reference) members) false) all
        ∙ sym (table_lists disk.guid disk.reference (λ entry. not (is_missing entry)) (λ member. not member.missing) (λ entry member same. ap not same) leader.0.disks
        (map (member_entry_in views) leader.0.disks) (members_given views leader.0.disks) apart)

  no_view : find (leads slots group) (numbers slots) ≡ None → leading_view slots group ≡ None
  unfolding leading_view
  no_view none = ap (option_and_then (λ slot. view_in (slot_at slots slot))) none

  -- ---- seats

  pub claimed_current : (slot : ℕ) (view : View) → claims slots group slot ≡ true → view_in (slot_at slots slot) ≡ Some view → has_current other.config (disk_of view) ≡ true
  claimed_current slot view claimed shows = by (find (leads slots group) (numbers slots)) refl
    where
      by : (found : Option ℕ) → find (leads slots group) (numbers slots) ≡ found → has_current other.config (disk_of view) ≡ true
      by None none =
          absurd (false≢true (sym (ap (λ (one : Option View). claims_by one (slot_at slots slot)) (no_view none)) ∙ claimed))
      by (Some first) found =
          current_is first found (disk_of view)
          ∙ sym (ap (λ (one : Option View). option_map_or (λ (disk : View). lists_current (leader first found).0 disk.guid disk.reference) one false) shows)
          ∙ sym (ap (λ (one : Option View). claims_by one (slot_at slots slot)) (leader_is first found))
          ∙ claimed

  -- The copy of a seat's disk stands for its slot, and names its reference.
  pub seat_copy : (place : ℕ) (disk : Seated) → slice_get (seated other) place ≡ Some disk
      → (copy_at newest disk.seat.slot ≡ Some disk.copy) × (claims slots group disk.seat.slot ≡ true) × (disk.seat.reference ≡ (view_of disk.copy).reference)
  unfolding view_of
  seat_copy place disk at =
      let own = seated_is other place disk at in
      let same = newest_kept newest named other is in
      let found : slice_get newest disk.seat.slot ≡ Some (Some own.found) = ap (λ (all : List (Option Newest)). slice_get all disk.seat.slot) (sym same) ∙ own.is_found in
      let stands : copy_at newest disk.seat.slot ≡ Some disk.copy =
      ap (λ (one : Option (Option Newest)). option_and_then (λ n. option_and_then standing_copy n) one) found ∙ own.stands in
      let claimed = seat_claims newest group other made own.place disk.seat own.is_seat in
      let from = made_of (λ slot. option_map (seat_of slot) (copy_at newest slot)) (claims slots group) (numbers slots) own.place disk.seat
      (sym (ap (λ (seats : List Seat). slice_get seats own.place) (seats_are newest group other made)) ∙ own.is_seat) in
      let seat = seat_there newest from.0 disk.seat from.2 in
      let slot_is : from.0 ≡ disk.seat.slot = ap (λ (one : Seat). one.slot) seat.2 in
      let copies : seat.0 ≡ disk.copy = same_Some seat.0 disk.copy (sym seat.1 ∙ ap (copy_at newest) slot_is ∙ stands) in
      (stands, claimed, sym (ap (λ (one : Seat). one.reference) seat.2) ∙ ap (λ (copy : DiskCopy). copy.disk_data.reference) copies)

  pub seat_view : (place : ℕ) (disk : Seated) → slice_get (seated other) place ≡ Some disk → view_in (slot_at slots disk.seat.slot) ≡ Some (view_of disk.copy)
  seat_view place disk at = view_at newest disk.seat.slot ∙ ap (option_map view_of) (seat_copy place disk at).0

  -- ---- absent members

  abbrev claimed_slots : List ℕ
  claimed_slots = filter (claims slots group) (numbers slots)

  -- The reference of a seat isn't absent.
  pub seat_not_absent : (place : ℕ) (disk : Seated) → slice_get (seated other) place ≡ Some disk → is_among other.absent (view_of disk.copy).reference ≡ false
  seat_not_absent place disk at = by (is_among other.absent (view_of disk.copy).reference) refl
    where
      below : disk.seat.slot < length slots
      below = within_shown slots disk.seat.slot (view_of disk.copy) (seat_view place disk at)
        where
          within_shown : (all : List Shown) (slot : ℕ) (view : View) → view_in (slot_at all slot) ≡ Some view → slot < length all
          within_shown [] slot view shows = absurd cc
          within_shown (one ∷ all) zero view shows = omega arith
          within_shown (one ∷ all) (suc slot) view shows = let rest = within_shown all slot view shows in omega (arith, rest)

      by : (b : Bool) → is_among other.absent (view_of disk.copy).reference ≡ b → is_among other.absent (view_of disk.copy).reference ≡ false
      by false free = free
      by true among =
          let number : slice_get (numbers slots) disk.seat.slot ≡ Some disk.seat.slot =
          (let there = get_range 0 (length slots) disk.seat.slot below in there.2 ∙ ap Some (there.1 ∙ zero-add disk.seat.slot)) in
          let kept = filtered_passes (claims slots group) (numbers slots) disk.seat.slot disk.seat.slot number (seat_copy place disk at).1 in
          let has : has_reference slots (view_of disk.copy).reference disk.seat.slot ≡ true =
          ap (λ (one : Option View). option_map_or (λ (reference : ℕ). eqb reference (view_of disk.copy).reference) (option_map (λ (view : View). view.reference) one) false)
          (seat_view place disk at) ∙ eq-eqb (view_of disk.copy).reference (view_of disk.copy).reference refl in
          let any = any_passes_from_place (has_reference slots (view_of disk.copy).reference) claimed_slots kept.0 disk.seat.slot kept.1 has in
          let here = subst (λ (all : List ℕ). is_among all (view_of disk.copy).reference ≡ true) (absent_are newest group other made) among in
          absurd (false≢true (sym (absent_none slots claimed_slots (view_of disk.copy).reference other.config.members here) ∙ any))

  -- A current member that isn't absent has a seat.
  seat_found : (disk : Disk) → has_current other.config disk ≡ true → is_among other.absent disk.reference ≡ false
      → (place : ℕ) × (one : Seated) × (slice_get (seated other) place ≡ Some one) × (disk_of (view_of one.copy) ≡ disk)
  seat_found disk current free = by (list_any (has_reference slots at_place.1) claimed_slots) refl
    where
      entry : (member : Member) × (lookup (λ reference. eqb reference disk.reference) other.config.members ≡ Some member) × ((bytes_eq member.guid disk.guid && not member.missing) ≡ true)
      entry = value_there (λ (one : Member). bytes_eq one.guid disk.guid && not one.missing) (lookup (λ reference. eqb reference disk.reference) other.config.members) current

      at_place : (place key : ℕ) × (slice_get other.config.members place ≡ Some (key, entry.0)) × (eqb key disk.reference ≡ true)
      at_place = entry_there (λ reference. eqb reference disk.reference) other.config.members entry.0 entry.1

      key_is : at_place.1 ≡ disk.reference
      key_is = eqb-true at_place.1 disk.reference at_place.3

      seat_of_slot : (slot : ℕ) → claims slots group slot ≡ true → (view : View) → view_in (slot_at slots slot) ≡ Some view → view.reference ≡ disk.reference
          → (place : ℕ) × (one : Seated) × (slice_get (seated other) place ≡ Some one) × (disk_of (view_of one.copy) ≡ disk)
      seat_of_slot slot claimed view shows reference =
          let copy = copy_there newest slot view shows in
          let seat = claims_seat newest group other made slot copy.0 (within slots slot view shows) claimed copy.1 in
          let named = in_map (λ (one : Seat). one.slot) other.seats seat.0 slot seat.1 in
          let there : slice_get (seats_in (seated other)) seat.0 ≡ Some named.0 = ap (λ (seats : List Seat). slice_get seats seat.0) assembled.are_seated ∙ named.1 in
          let own = in_map (λ (one : Seated). one.seat) (seated other) seat.0 named.0 there in
          let slot_is : own.0.seat.slot ≡ slot = ap (λ (one : Seat). one.slot) own.2 ∙ named.2 in
          let same : view_of own.0.copy ≡ view =
          same_Some (view_of own.0.copy) view (sym (seat_view seat.0 own.0 own.1) ∙ ap (λ (s : ℕ). view_in (slot_at slots s)) slot_is ∙ shows) in
          let is_one : disk_of view ≡ disk = one_disk (disk_of view) (claimed_current slot view claimed shows) reference in
          (seat.0, own.0, own.1, ap disk_of same ∙ is_one)
        where
          within : (all : List Shown) (s : ℕ) (one : View) → view_in (slot_at all s) ≡ Some one → s < length all
          within [] s one shows = absurd cc
          within (x ∷ all) zero one shows = omega arith
          within (x ∷ all) (suc s) one shows = let rest = within all s one shows in omega (arith, rest)

          one_disk : (one : Disk) → has_current other.config one ≡ true → one.reference ≡ disk.reference → one ≡ disk
          one_disk one now same = (groups_are_sound group).one_reference other.config one disk now current same

      by : (any : Bool) → list_any (has_reference slots at_place.1) claimed_slots ≡ any
          → (place : ℕ) × (one : Seated) × (slice_get (seated other) place ≡ Some one) × (disk_of (view_of one.copy) ≡ disk)
      by true any =
          let slot = any_kept (claims slots group) (has_reference slots at_place.1) (numbers slots) any in
          let shown_by = value_there (λ (reference : ℕ). eqb reference at_place.1) (reference_at slots slot.0) slot.2 in
          let view = has_view (view_in (slot_at slots slot.0)) shown_by.0 shown_by.1 in
          seat_of_slot slot.0 slot.1 view.0 view.1 (view.2 ∙ eqb-true shown_by.0 at_place.1 shown_by.2 ∙ key_is)
        where
          has_view : (found : Option View) (reference : ℕ) → option_map (λ (view : View). view.reference) found ≡ Some reference → (view : View) × (found ≡ Some view) × (view.reference ≡ reference)
          has_view None reference e = absurd cc
          has_view (Some view) reference e = (view, refl, cc)
      by false none =
          let here = (and_parts (bytes_eq entry.0.guid disk.guid) (not entry.0.missing) entry.2).1 in
          let passes : is_absent slots claimed_slots (at_place.1, entry.0) ≡ true = rw (here, none) refl in
          let there = filtered_passes (is_absent slots claimed_slots) other.config.members at_place.0 (at_place.1, entry.0) at_place.2 passes in
          let listed = mapped_at (λ (one : ℕ × Member). one.0) (filter (is_absent slots claimed_slots) other.config.members) there.0 (at_place.1, entry.0) there.1 in
          let among = listed_among (map (λ (one : ℕ × Member). one.0) (filter (is_absent slots claimed_slots) other.config.members)) there.0 at_place.1 listed in
          let absent : is_among other.absent disk.reference ≡ true =
          subst (λ (reference : ℕ). is_among other.absent reference ≡ true) key_is
          (subst (λ (all : List ℕ). is_among all at_place.1 ≡ true) (sym (absent_are newest group other made)) among) in
          absurd (false≢true (sym free ∙ absent))

  -- ---- once the absent ones are lost

  -- What isn't absent stays current then,
  still_current : (disk : Disk) → has_current other.config disk ≡ true → is_among other.absent disk.reference ≡ false → has_current (config_joining other) disk ≡ true
  still_current disk current free = by other.absent refl
    where
      by : (absent : List ℕ) → other.absent ≡ absent → has_current (without_lost other.config absent) disk ≡ true
      by [] e = current
      by (one ∷ others) e =
          stays_current other.config (Lose (one ∷ others)) other.config.sequence disk current
          (lose_leaves other.config (one ∷ others) disk.reference (ap (λ (all : List ℕ). is_among all disk.reference) (sym e) ∙ free) (current_listed other.config disk current))

  -- and what is current then was so, and isn't absent.
  was_current : (disk : Disk) → has_current (config_joining other) disk ≡ true → (has_current other.config disk ≡ true) × (is_among other.absent disk.reference ≡ false)
  was_current disk now = by other.absent refl now
    where
      by : (absent : List ℕ) → other.absent ≡ absent → has_current (without_lost other.config absent) disk ≡ true
          → (has_current other.config disk ≡ true) × (is_among other.absent disk.reference ≡ false)
      by [] e h = (h, ap (λ (all : List ℕ). is_among all disk.reference) e)
      by (one ∷ others) e h =
          let was = (changes_follow group other.config (Lose (one ∷ others)) (other.config.sequence + 1) (omega arith)).no_more disk h in
          (was, go was (is_among (one ∷ others) disk.reference) refl)
        where
          go : has_current other.config disk ≡ true → (b : Bool) → is_among (one ∷ others) disk.reference ≡ b → is_among other.absent disk.reference ≡ false
          go was false free = ap (λ (all : List ℕ). is_among all disk.reference) e ∙ free
          go was true among =
              absurd ((groups_are_sound group).not_both (changed_at other.config (Lose (one ∷ others)) other.config.sequence) disk h
              (lost_missing other.config (one ∷ others) other.config.sequence disk was among))

  pub brings : BringsMembers other
  brings = record {
    are_members = λ place disk at.
        let is_seat = seat_copy place disk at in
        let current = claimed_current disk.seat.slot (view_of disk.copy) is_seat.1 (seat_view place disk at) in
        record { same_reference = is_seat.2; is_current = still_current (disk_of (view_of disk.copy)) current (seat_not_absent place disk at) };
    are_seated = λ disk now. let was = was_current disk now in seat_found disk was.0 was.1;
  }
