-- What histories tell of the seats of an assembled group.
use Rattle.std.proofs.Common.{◌≡◌, ◌⊎◌, ℕ, zero, suc, Bool, true, false, not, ◌&&◌, ◌||◌, eqb, nat_eq, List, [], ◌∷◌, length, map, Option, Some, Ok, if◌then◌else◌, refl, ap, sym, ◌∙◌, inl, inr, arith, subst, zero-add}
use Rattle.std.proofs.lemmas.Bool.{and_parts, eq-eqb, eqb-true, false≢true, or_left, or_right}
use Rattle.std.specs.Prelude.{filter, option_map, slice_get}
use Rattle.std.specs.List.{list_any}
use Rattle.std.specs.Option.{option_and_then, option_map_or}
use Rattle.std.specs.Map.{lookup}
use Rattle.std.specs.Str.{bytes_eq}
use Rattle.std.proofs.lemmas.Map.Keys.{any_passes_from_place}
use Rattle.std.proofs.lemmas.Option.{same_Some}
use Rattle.ddf_lemmas.proofs.Lists.{filtered_passes, mapped_at}
use Rattle.ddf_lemmas.proofs.Options.{value_there}
use Rattle.ddf_bay.specs.State.{BayState}
use Rattle.ddf_config.specs.declared.member.Member.{Member}
use Rattle.ddf_config.specs.declared.seat.Seat.{Seat}
use Rattle.ddf_copy.specs.declared.copy.DiskCopy.{DiskCopy}
use Rattle.ddf_copy.specs.declared.newest_copy.Newest.{Newest}
use Rattle.ddf_copy.specs.Copies.{standing_copy}
use Rattle.ddf_plan.specs.Lose.{is_among}
use Rattle.ddf_view.specs.View.{View, view_of}
use Rattle.ddf_group.specs.declared.shown.Shown.{Shown as GroupShown}
use Rattle.ddf_group.specs.Assembled.{absent, has_reference, is_absent}
use Rattle.ddf_group.specs.Shown.{shown_of}
use Rattle.ddf_group.specs.Slots.{claimed, claims, numbers, slot_at, view_in}
use Rattle.ddf_history.specs.Reading.{Reading, IsSound, Scene, IsCopyOf}
use Rattle.ddf_history.specs.Issued.{Past}
use Rattle.ddf_history.specs.Leaders.{seen}
use Rattle.ddf_history.specs.Promise.{IsKept}
use Rattle.ddf_history.specs.Answer.{HasMember, IsClaimed, IsReadable}
use Rattle.ddf_history.specs.Answered.{AreOfOneGroup}
use Rattle.ddf_history.specs.Calls.{IsAssembled, NoneAbsent}
use Rattle.ddf_history.specs.Groups.{Disk, disk_of, groups, has_current}
use Rattle.ddf_history.specs.Scenes.{scene_in, scene_of}
use Rattle.ddf_history.proofs.AnsweredLists.{map_some}
use Rattle.ddf_history.proofs.AnsweredSlots.{claimed_by, claimed_claims, copy_within, first_is_view}
use Rattle.ddf_history.proofs.Assembling.{read_as}
use Rattle.ddf_history.proofs.Calls.{seen_copy, seen_read}
use Rattle.ddf_history.proofs.Since.{first_is_copy, on_shows, same_number, which}
use Rattle.ddf_history.proofs.Sound.{groups_are_sound}
use Rattle.ddf_seats.specs.declared.seated.Seated.{Seated}
use Rattle.ddf_steps.specs.Committed.{slots_of}
use Rattle.ddf_seats.specs.Group.{GroupValue, copy_at, seat_at, seat_of}
use Rattle.ddf_assembly.specs.Group.{group_as, group_of}
use Rattle.ddf_seats.specs.Seated.{seated}
use Rattle.ddf_assembly.specs.Slots.{newest_from}
use Rattle.ddf_seats.proofs.CommittedSeats.{seated_is}
use Rattle.ddf_rewrite.proofs.AllWanted.{filter_map_get}
use Rattle.ddf_rewrite.proofs.Lists.{get_range}
use Rattle.ddf_history_steps.specs.AtEnd.{IsMember}
use Rattle.ddf_history_steps.specs.Kept.{is_read, is_slot}
use Rattle.ddf_history_steps.proofs.Begun.{IsMadeOf, assembled_kept, assembled_since, found_named}
use Rattle.ddf_history_steps.proofs.Told.{one_group, scene_is}
use Rattle.ddf_history_steps.proofs.Filtered.{any_kept}
use Rattle.ddf_history_steps.proofs.Seats.{absent_are, claims_seat, copy_there, seat_claims, view_at}
use Rattle.ddf_history_steps.proofs.Slots.{slot_is}

-- ---- what is claimed

-- The disk of a claimed slot is a current member of the configuration that was assembled.
claimed_current : (r : Reading) (sound : IsSound r) (past : Past r) (held : Scene r.Copy) (readable : ℕ → Bool) (c : r.Config) → IsAssembled past held readable c
    → (slot : ℕ) (copy : r.Copy) → IsClaimed r (seen readable held) slot copy → r.has_current c (r.disk_of copy) ≡ true
claimed_current r sound past held readable c assembled slot copy claimed =
    let read = assembled.is_read in
    let is = read_as r sound past held assembled.is_kept readable assembled.may_read assembled.member c read in
    let on = is.4 in
    let lowest = claimed.is_lowest in
    let one = lowest.lowest read.leader read.leading read.leads in
    let other = read.lowest claimed.leader lowest.leads.0 lowest.leads.1 in
    let same : claimed.leader ≡ read.leader = omega arith in
    let there = first_is_copy (seen readable held claimed.leader) claimed.leading lowest.is_first in
    let here = subst (λ (s : ℕ). IsCopyOf (held s) claimed.leading) same (seen_copy (readable claimed.leader) (held claimed.leader) claimed.leading there) in
    let shows = on_shows (past.disk read.leader) (held read.leader) on claimed.leading here in
    let config_is : on.config ≡ c = same_number on.number is.0 on.config c on.since is.1 is.5 in
    sym (ap (λ (config : r.Config). r.has_current config (r.disk_of copy)) config_is)
    ∙ sym (sound.same_current claimed.leading on.config (r.disk_of copy) shows)
    ∙ claimed.is_listed

-- ---- the members that aren't absent

-- The entry that a look-up finds is one of the list.
pub entry_there : (test : ℕ → Bool) (entries : List (ℕ × Member)) (member : Member) → lookup test entries ≡ Some member
    → (place key : ℕ) × (slice_get entries place ≡ Some (key, member)) × (test key ≡ true)
entry_there test [] member found = absurd cc
entry_there test (entry ∷ entries) member found = go (entry_there test entries member) (test entry.0) refl found
  where
    go : (lookup test entries ≡ Some member → (place key : ℕ) × (slice_get entries place ≡ Some (key, member)) × (test key ≡ true)) → (b : Bool)
        → test entry.0 ≡ b
        → (if b then Some entry.1 else lookup test entries) ≡ Some member
        → (place key : ℕ) × (slice_get (entry ∷ entries) place ≡ Some (key, member)) × (test key ≡ true)
    go later true is same = let own : entry.1 ≡ member = cc in (0, entry.0, ap (λ (m : Member). Some (entry.0, m)) own, is)
    go later false is same = let rest = later same in (suc rest.0, rest.1, rest.2, rest.3)

-- A slot of this reference shows it.
pub has_its_reference : (slots : List GroupShown) (reference slot : ℕ) (view : View) → view_in (slot_at slots slot) ≡ Some view
    → has_reference slots reference slot ≡ true → view.reference ≡ reference
has_its_reference slots reference slot view is has = eqb-true view.reference reference (rw is at has)

-- A listed reference is among them.
pub listed_among : (references : List ℕ) (place reference : ℕ) → slice_get references place ≡ Some reference → is_among references reference ≡ true
listed_among [] place reference at = absurd cc
listed_among (one ∷ references) zero reference at =
    let same : one ≡ reference = cc in
    or_left (nat_eq reference one) (list_any (nat_eq reference) references) (eq-eqb reference one (sym same))
listed_among (one ∷ references) (suc place) reference at =
    or_right (nat_eq reference one) (list_any (nat_eq reference) references) (listed_among references place reference at)

-- No seat has a reference that is absent.
pub absent_none : (slots : List GroupShown) (seats : List ℕ) (reference : ℕ) (members : List (ℕ × Member)) → is_among (absent slots seats members) reference ≡ true
    → list_any (has_reference slots reference) seats ≡ false
absent_none slots seats reference [] among = absurd (false≢true among)
absent_none slots seats reference (entry ∷ members) among = go (absent_none slots seats reference members) (is_absent slots seats entry) refl among
  where
    by_key : (is_among (absent slots seats members) reference ≡ true → list_any (has_reference slots reference) seats ≡ false) → (b : Bool) → nat_eq reference entry.0 ≡ b
        → is_absent slots seats entry ≡ true → (b || is_among (absent slots seats members) reference) ≡ true → list_any (has_reference slots reference) seats ≡ false
    by_key later true same passes either =
        let none = (and_parts (not entry.1.missing) (not (list_any (has_reference slots entry.0) seats)) passes).1 in
        ap (λ (key : ℕ). list_any (has_reference slots key) seats) (eqb-true reference entry.0 same) ∙ not_so (list_any (has_reference slots entry.0) seats) none
      where
        not_so : (x : Bool) → not x ≡ true → x ≡ false
        not_so true e = absurd (false≢true e)
        not_so false e = refl
    by_key later false same passes either = later either

    go : (is_among (absent slots seats members) reference ≡ true → list_any (has_reference slots reference) seats ≡ false) → (b : Bool) → is_absent slots seats entry ≡ b
        → is_among (map (λ (one : ℕ × Member). one.0) (if b then entry ∷ filter (is_absent slots seats) members else filter (is_absent slots seats) members)) reference ≡ true
        → list_any (has_reference slots reference) seats ≡ false
    go later true passes found = by_key later (nat_eq reference entry.0) refl passes found
    go later false passes found = later found

-- ---- the seats

module _ (group : List ℕ) {D : Type 0} (state : BayState D) (left : List Bool) (newest : List (Option Newest))
    (long : length left ≡ length state.sizes) (is : newest ≡ newest_from state 0 left)
    (past : Past (groups group)) (counted : past.slots ≡ length state.sizes) (kept : IsKept past (scene_of state.sizes state.held))
    (may : IsReadable past (scene_of state.sizes state.held) (is_read left)) (member : HasMember past (scene_of state.sizes state.held) (is_read left))
    (named : Option (List ℕ)) (g : GroupValue) (at : group_of newest named ≡ Ok g) (own : g.config.group ≡ group) where
  abbrev held : Scene View
  held = scene_of state.sizes state.held

  abbrev slots : List GroupShown
  slots = map shown_of newest

  -- the slots that are seen
  abbrev scene : Scene View
  scene = seen (is_read left) held

  -- It is made of what was found.
  pub made : IsMadeOf newest (Some group) g
  made = found_named newest named group g at own

  alike : AreOfOneGroup slots
  alike = one_group state left newest long is

  same_scene : scene_in slots ≡ scene
  same_scene = scene_is state left newest long is

  -- A slot that the group claims is claimed by the copy that stands for it.
  claims_told : (slot : ℕ) → claims slots group slot ≡ true
      → (view : View) × (view_in (slot_at slots slot) ≡ Some view) × IsClaimed (groups group) scene slot view
  claims_told slot claimed =
      let found = claimed_by group slots alike slot claimed in
      (found.0, found.1, subst (λ (one : Scene View). IsClaimed (groups group) one slot found.0) same_scene found.2)

  -- Each slot of a seat is claimed, by its copy.
  pub seats_claimed : (place : ℕ) (seat : Seat) (copy : DiskCopy) → slice_get g.seats place ≡ Some seat → copy_at newest seat.slot ≡ Some copy
      → IsClaimed (groups group) scene seat.slot (view_of copy)
  seats_claimed place seat copy there has =
      let found = claims_told seat.slot (seat_claims newest group g made place seat there) in
      let both : Some found.0 ≡ Some (view_of copy) = sym found.1 ∙ view_at newest seat.slot ∙ ap (option_map view_of) has in
      subst (IsClaimed (groups group) scene seat.slot) (same_Some found.0 (view_of copy) both) found.2

  -- Each seat has such a copy.
  pub seat_has : (place : ℕ) (seat : Seat) → slice_get g.seats place ≡ Some seat → (copy : DiskCopy) × (copy_at newest seat.slot ≡ Some copy)
  seat_has place seat there =
      let found = claims_told seat.slot (seat_claims newest group g made place seat there) in
      let copy = copy_there newest seat.slot found.0 found.1 in
      (copy.0, copy.1)

  -- ---- the disks of the seats

  -- The group's newest copies are those that were read.
  pub newest_is : g.newest ≡ newest
  newest_is = sym (ap (λ (one : GroupValue). one.newest) made.is_group)

  -- A seat is that of the copy of its slot.
  seat_is : (place : ℕ) (seat : Seat) → slice_get g.seats place ≡ Some seat → (copy : DiskCopy) × (copy_at newest seat.slot ≡ Some copy) × (seat_of seat.slot copy ≡ seat)
  seat_is place seat there =
      let here : slice_get (group_as newest made.found).seats place ≡ Some seat = ap (λ (one : GroupValue). slice_get one.seats place) made.is_group ∙ there in
      let from = filter_map_get (seat_at newest) made.found.seats place seat here in
      let has = map_some (seat_of from.1) (copy_at newest from.1) seat from.3 in
      let slot_is : from.1 ≡ seat.slot = ap (λ (one : Seat). one.slot) has.2 in
      (has.0, subst (λ (n : ℕ). copy_at newest n ≡ Some has.0) slot_is has.1, subst (λ (n : ℕ). seat_of n has.0 ≡ seat) slot_is has.2)

  module _ (place : ℕ) (disk : Seated) (there : slice_get (seated g) place ≡ Some disk) where
    -- The copy of a seat's disk stands for its slot.
    pub disk_copy : copy_at g.newest disk.seat.slot ≡ Some disk.copy
    disk_copy =
        let own_seat = seated_is g place disk there in
        ap (λ (one : Option (Option Newest)). option_and_then (λ n. option_and_then standing_copy n) one) own_seat.is_found ∙ own_seat.stands

    copy_read : copy_at newest disk.seat.slot ≡ Some disk.copy
    copy_read = subst (λ (all : List (Option Newest)). copy_at all disk.seat.slot ≡ Some disk.copy) newest_is disk_copy

    -- Its slot is claimed, by this copy.
    pub disk_claimed : IsClaimed (groups group) scene disk.seat.slot (view_of disk.copy)
    disk_claimed = let own_seat = seated_is g place disk there in seats_claimed own_seat.place disk.seat disk.copy own_seat.is_seat copy_read

    -- The copy names the seat's reference.
    pub disk_reference : (view_of disk.copy).reference ≡ disk.seat.reference
    unfolding view_of
    disk_reference =
        let own_seat = seated_is g place disk there in
        let seat = seat_is own_seat.place disk.seat own_seat.is_seat in
        let same : seat.0 ≡ disk.copy = same_Some seat.0 disk.copy (sym seat.1 ∙ copy_read) in
        ap (λ (copy : DiskCopy). copy.disk_data.reference) (sym same) ∙ ap (λ (one : Seat). one.reference) seat.2

  -- A claimed slot is that of a seat.
  pub claimed_seated : (slot : ℕ) (view : View) → IsClaimed (groups group) scene slot view → is_slot (slots_of g.seats) slot ≡ true
  claimed_seated slot view claimed =
      let found = subst (λ (one : Scene View). IsClaimed (groups group) one slot view) (sym same_scene) claimed in
      let below = copy_within slots slot view (first_is_copy (scene_in slots slot) view found.is_first) in
      let copy = copy_there newest slot view (first_is_view (slot_at slots slot) view found.is_first) in
      let seat = claims_seat newest group g made slot copy.0 below (claimed_claims group slots alike slot view found) copy.1 in
      slot_is (slots_of g.seats) seat.0 slot seat.1

  -- Its reference isn't absent.
  pub claimed_not_absent : (slot : ℕ) (view : View) → IsClaimed (groups group) scene slot view → is_among g.absent view.reference ≡ false
  claimed_not_absent slot view is_claimed =
      let found = subst (λ (one : Scene View). IsClaimed (groups group) one slot view) (sym same_scene) is_claimed in
      let below = copy_within slots slot view (first_is_copy (scene_in slots slot) view found.is_first) in
      let number : slice_get (numbers slots) slot ≡ Some slot = (let at = get_range 0 (length slots) slot below in at.2 ∙ ap Some (at.1 ∙ zero-add slot)) in
      let kept_there = filtered_passes (claims slots group) (numbers slots) slot slot number (claimed_claims group slots alike slot view found) in
      let has : has_reference slots view.reference slot ≡ true =
      ap (λ (one : Option View). option_map_or (λ (reference : ℕ). eqb reference view.reference) (option_map (λ (shown : View). shown.reference) one) false)
      (first_is_view (slot_at slots slot) view found.is_first)
      ∙ eq-eqb view.reference view.reference refl in
      let any = any_passes_from_place (has_reference slots view.reference) (filter (claims slots group) (numbers slots)) kept_there.0 slot kept_there.1 has in
      elim (which (is_among g.absent view.reference)) [
        | inr free ↦ free
        | inl among ↦
            let here = subst (λ (all : List ℕ). is_among all view.reference ≡ true) (absent_are newest group g made) among in
            absurd (false≢true (sym (absent_none slots (filter (claims slots group) (numbers slots)) view.reference g.config.members here) ∙ any))
      ]

  -- The disk of a claimed slot is a current member.
  pub claimed_is_current : (slot : ℕ) (view : View) → IsClaimed (groups group) scene slot view → has_current g.config (disk_of view) ≡ true
  claimed_is_current slot view claimed =
      claimed_current (groups group) (groups_are_sound group) past held (is_read left) g.config
      (assembled_kept group state left newest long is past counted kept may member named g at own) slot view claimed

  -- So the disk of a seat is a current member,
  pub disk_member : (place : ℕ) (disk : Seated) → slice_get (seated g) place ≡ Some disk → IsMember g.config disk
  disk_member place disk there = record {
    same_reference = sym (disk_reference place disk there);
    is_current = claimed_is_current disk.seat.slot (view_of disk.copy) (disk_claimed place disk there);
  }

  -- and its copy names the disk of its slot, which was read.
  module _ (place : ℕ) (disk : Seated) (there : slice_get (seated g) place ≡ Some disk) where
    copy_seen : IsCopyOf (scene disk.seat.slot) (view_of disk.copy)
    copy_seen = first_is_copy (scene disk.seat.slot) (view_of disk.copy) (disk_claimed place disk there).is_first

    pub disk_names : disk_of (view_of disk.copy) ≡ past.disk disk.seat.slot
    disk_names =
        let since = assembled_since group state left newest long is past counted kept may member named g at own in
        kept.named disk.seat.slot (view_of disk.copy) (seen_copy (is_read left disk.seat.slot) (held disk.seat.slot) (view_of disk.copy) copy_seen)
        (inr (since.0, g.config, since.1, (disk_member place disk there).is_current))

    pub disk_read : is_read left disk.seat.slot ≡ true
    disk_read = seen_read (is_read left disk.seat.slot) (held disk.seat.slot) (view_of disk.copy) copy_seen

  -- A current member of a reference is claimed where a slot with this reference is.
  member_claimed : (disk : Disk) (slot : ℕ) → has_current g.config disk ≡ true → claims slots group slot ≡ true → has_reference slots disk.reference slot ≡ true
      → (view : View) × IsClaimed (groups group) scene slot view × (disk_of view ≡ disk)
  member_claimed disk slot current claimed has =
      let found = claims_told slot claimed in
      let reference = has_its_reference slots disk.reference slot found.0 found.1 has in
      (found.0, found.2, (groups_are_sound group).one_reference g.config (disk_of found.0) disk (claimed_is_current slot found.0 found.2) current reference)

  module _ (disk : Disk) (current : has_current g.config disk ≡ true) where
    -- the slots that are claimed
    abbrev claimed_slots : List ℕ
    claimed_slots = filter (claims slots group) (numbers slots)

    -- the member of the disk's reference
    entry : (member : Member) × (lookup (λ reference. eqb reference disk.reference) g.config.members ≡ Some member) × ((bytes_eq member.guid disk.guid && not member.missing) ≡ true)
    entry = value_there (λ (one : Member). bytes_eq one.guid disk.guid && not one.missing) (lookup (λ reference. eqb reference disk.reference) g.config.members) current

    at_place : (place key : ℕ) × (slice_get g.config.members place ≡ Some (key, entry.0)) × (eqb key disk.reference ≡ true)
    at_place = entry_there (λ reference. eqb reference disk.reference) g.config.members entry.0 entry.1

    key_is : at_place.1 ≡ disk.reference
    key_is = eqb-true at_place.1 disk.reference at_place.3

    -- A current member is claimed, or it is absent.
    claimed_or_absent : ((slot : ℕ) × (view : View) × IsClaimed (groups group) scene slot view × (disk_of view ≡ disk)) ⊎ (is_among g.absent disk.reference ≡ true)
    claimed_or_absent = by (list_any (has_reference slots at_place.1) claimed_slots) refl
      where
        by : (any : Bool) → list_any (has_reference slots at_place.1) claimed_slots ≡ any
            → ((slot : ℕ) × (view : View) × IsClaimed (groups group) scene slot view × (disk_of view ≡ disk)) ⊎ (is_among g.absent disk.reference ≡ true)
        by true any =
            let slot = any_kept (claims slots group) (has_reference slots at_place.1) (numbers slots) any in
            let found = member_claimed disk slot.0 current slot.1 (subst (λ (key : ℕ). has_reference slots key slot.0 ≡ true) key_is slot.2) in
            inl (slot.0, found.0, found.1, found.2)
        by false none =
            let here = (and_parts (bytes_eq entry.0.guid disk.guid) (not entry.0.missing) entry.2).1 in
            let passes : is_absent slots claimed_slots (at_place.1, entry.0) ≡ true = rw (here, none) refl in
            let there = filtered_passes (is_absent slots claimed_slots) g.config.members at_place.0 (at_place.1, entry.0) at_place.2 passes in
            let listed = mapped_at (λ (one : ℕ × Member). one.0) (filter (is_absent slots claimed_slots) g.config.members) there.0 (at_place.1, entry.0) there.1 in
            let among = listed_among (absent slots claimed_slots g.config.members) there.0 at_place.1 listed in
            inr (subst (λ (reference : ℕ). is_among g.absent reference ≡ true) key_is
            (subst (λ (all : List ℕ). is_among all at_place.1 ≡ true) (sym (absent_are newest group g made)) among))

  -- Where no member is absent, each current member is claimed.
  pub none_absent : g.absent ≡ [] → NoneAbsent (groups group) (is_read left) held g.config
  none_absent none disk current = elim (claimed_or_absent disk current) [
    | inl claimed ↦ claimed
    | inr among ↦ absurd (false≢true (ap (λ (all : List ℕ). is_among all disk.reference) (sym none) ∙ among))
  ]

  -- The slot of a claimed disk is that of the member.
  module _ (slot : ℕ) (current : has_current g.config (past.disk slot) ≡ true) (other : ℕ) (view : View) (claimed : IsClaimed (groups group) scene other view)
      (same : disk_of view ≡ past.disk slot) where
    other_seen : IsCopyOf (scene other) view
    other_seen = first_is_copy (scene other) view claimed.is_first

    same_slot : slot ≡ other
    same_slot =
        let since = assembled_since group state left newest long is past counted kept may member named g at own in
        let names = kept.named other view (seen_copy (is_read left other) (held other) view other_seen) (inr (since.0, g.config, since.1, ap (has_current g.config) same ∙ current)) in
        kept.alone slot other since.0 g.config since.1 current (sym same ∙ names)

    member_read : is_read left slot ≡ true
    member_read = ap (is_read left) same_slot ∙ seen_read (is_read left other) (held other) view other_seen

  -- A current member whose slot isn't read is absent.
  pub left_absent : (slot : ℕ) → has_current g.config (past.disk slot) ≡ true → is_read left slot ≡ false → is_among g.absent (past.disk slot).reference ≡ true
  left_absent slot current out = elim (claimed_or_absent (past.disk slot) current) [
    | inl claimed ↦ absurd (false≢true (sym out ∙ member_read slot current claimed.0 claimed.1 claimed.2 claimed.3))
    | inr among ↦ among
  ]

  -- Then the slot of each current member is that of a seat.
  pub current_seated : g.absent ≡ [] → (slot : ℕ) → has_current g.config (past.disk slot) ≡ true → is_slot (slots_of g.seats) slot ≡ true
  current_seated none slot current =
      let found = none_absent none (past.disk slot) current in
      subst (λ (s : ℕ). is_slot (slots_of g.seats) s ≡ true) (sym (same_slot slot current found.0 found.1 found.2 found.3)) (claimed_seated found.0 found.1 found.2)
