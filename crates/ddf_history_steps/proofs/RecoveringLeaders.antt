-- The leaders of an assembled group without absent members are the slots that histories read to lead.
use Rattle.std.proofs.Common.{◌≡◌, ℕ, zero, suc, Bool, true, false, List, [], ◌∷◌, ◌++◌, length, map, Option, Some, if◌then◌else◌, refl, ap, sym, ◌∙◌, subst}
use Rattle.std.proofs.lemmas.Bool.{and_from, and_parts, eq-eqb, false≢true}
use Rattle.std.proofs.lemmas.List.{length-map, map-append}
use Rattle.std.proofs.lemmas.List.Elements.{filter-append, filter_map-append}
use Rattle.std.specs.Prelude.{filter, filter_map, slice_get}
use Rattle.std.specs.List.{cons_option, range_with_len}
use Rattle.std.specs.Str.{bytes_eq}
use Rattle.ddf_lemmas.proofs.Lists.{bytes_same, range_below}
use Rattle.ddf_bay.specs.State.{BayState}
use Rattle.ddf_config.specs.declared.seat.Seat.{Seat}
use Rattle.ddf_copy.specs.declared.newest_copy.Newest.{Newest}
use Rattle.ddf_copy.specs.Written.{CanBeCopy}
use Rattle.ddf_view.specs.View.{View, lists_itself, view_of}
use Rattle.ddf_view.proofs.Tests.{same_bytes}
use Rattle.ddf_group.specs.declared.shown.Shown.{Shown as GroupShown}
use Rattle.ddf_group.specs.Assembled.{assembled_as}
use Rattle.ddf_group.specs.Shown.{shown_of}
use Rattle.ddf_group.specs.Slots.{claimed, claims, numbers, slot_at}
use Rattle.ddf_rewrite.proofs.Lists.{all_at}
use Rattle.ddf_history.specs.Reading.{IsCopyOf, IsFirstOf, Scene, Shown, stands}
use Rattle.ddf_history.specs.Reading.Shown.{One}
use Rattle.ddf_history.specs.Issued.{Past}
use Rattle.ddf_history.specs.Leaders.{leading_copies, leading_copy, seen}
use Rattle.ddf_history.specs.Answer.{IsClaimed}
use Rattle.ddf_history.specs.Groups.{groups}
use Rattle.ddf_history.specs.Scenes.{scene_in, scene_of}
use Rattle.ddf_history.proofs.AnsweredSlots.{claimed_claims, copy_within, view_is_first}
use Rattle.ddf_history.proofs.Leading.{none_leading}
use Rattle.ddf_history.proofs.Since.{first_is_copy}
use Rattle.ddf_history.proofs.Sound.{groups_are_sound}
use Rattle.ddf_seats.specs.declared.seated.Seated.{Seated}
use Rattle.ddf_steps.specs.Committed.{slots_of}
use Rattle.ddf_seats.specs.Group.{GroupValue, seat_at, seats_of}
use Rattle.ddf_seats.specs.Leading.{leading_disks, leading_views, leads}
use Rattle.ddf_seats.specs.Seated.{seated, seated_at, views_in}
use Rattle.ddf_assembly.specs.Slots.{newest_from}
use Rattle.ddf_assembly.proofs.ClaimedDisks.{HasDisk, disk_at, found_twice, own_disk, own_is}
use Rattle.ddf_assembly.proofs.ClaimedLeaders.{claimed_view}
use Rattle.ddf_seats.proofs.CommittedSeats.{seated_is}
use Rattle.ddf_assembly.proofs.Leaders.{leads_is}
use Rattle.ddf_history_steps.specs.Kept.{is_read}
use Rattle.ddf_history_steps.proofs.MendingLeaders.{IsShowing, leads_showing}
use Rattle.ddf_history_steps.proofs.MendingPlaces.{place_get}
use Rattle.ddf_history_steps.proofs.RecoveringEntry.{IsTaken, assembled, disk_claimed, issued, kept_held, made, member_claimed, newest_is, none_absent, seat_on}
use Rattle.ddf_history_steps.proofs.Seats.{claims_seat, copy_there, group_made}
use Rattle.ddf_history_steps.proofs.Slots.{slot_is}
use Rattle.ddf_history_steps.proofs.Told.{one_group, scene_is}

-- Of one slot what a call shows is its first copy.
only_first : {A : Type 0} (shown : Shown A) (one first : A) → shown ≡ One one → IsFirstOf shown first → first ≡ one
only_first shown one first is there = subst (λ (it : Shown _). IsFirstOf it first) is there

-- So many slots are read.
pub length_read : {D : Type 0} (state : BayState D) (first : ℕ) (left : List Bool) → length (newest_from state first left) ≡ length left
length_read state first [] = refl
length_read state first (out ∷ left) = ap suc (length_read state (suc first) left)

module _ (group : List ℕ) {D : Type 0} (past : Past (groups group)) (state : BayState D) (left : List Bool) (named : Option (List ℕ)) (found : GroupValue)
    (taken : IsTaken group past state left named found) (none : found.absent ≡ []) where
  abbrev held : Scene View
  held = scene_of state.sizes state.held

  -- the slots that were read
  abbrev scene : Scene View
  scene = seen (is_read left) held

  abbrev newest : List (Option Newest)
  newest = newest_from state 0 left

  abbrev slots : List GroupShown
  slots = map shown_of newest

  -- what slots that are claimed say that lead
  abbrev views_over : List ℕ → List View
  views_over numbers = views_in (filter (leads found.config) (filter_map (disk_at newest) (filter (claims slots group) numbers)))

  seats_are : found.seats ≡ seats_of newest (filter (claims slots group) (numbers slots))
  unfolding assembled_as claimed
  seats_are = sym (ap (λ (one : GroupValue). one.seats) (group_made newest group found (made group past state left named found taken)))

  -- The group's leading disks are on those of all slots.
  views_are : leading_views found ≡ views_over (numbers slots)
  unfolding leading_disks seated
  views_are =
      ap (λ (all : List (Option Newest)). views_in (filter (leads found.config) (filter_map (seated_at all) found.seats)))
      (newest_is group past state left named found taken)
      ∙ ap (λ (seats : List Seat). views_in (filter (leads found.config) (filter_map (seated_at newest) seats))) seats_are
      ∙ ap (λ (disks : List Seated). views_in (filter (leads found.config) disks))
      (found_twice (seated_at newest) (seat_at newest) (filter (claims slots group) (numbers slots)))

  -- ---- one slot

  -- A slot that shows a copy of the configuration's sequence number leads.
  showing : (slot : ℕ) (view : View) → IsCopyOf (scene slot) view → stands (groups group) view ≡ true → view.sequence ≡ found.config.sequence
      → IsShowing (groups group) past held held (is_read left) (issued group past state left named found taken).0 found.config slot view
  showing slot view is stand same =
      leads_showing (groups group) (groups_are_sound group) past held held (is_read left) (issued group past state left named found taken).0 found.config
      (assembled group past state left named found taken) (issued group past state left named found taken).1 (kept_held group past state left named found taken)
      (λ s copy one. refl) (none_absent group past state left named found taken none) slot view is stand same

  -- The disk of a claimed slot.
  record IsDiskOn (slot : ℕ) : Type 0 where
    has : HasDisk newest slot
    claimed_by : IsClaimed (groups group) scene slot (view_of has.copy)

  disk_on : (slot : ℕ) → claims slots group slot ≡ true → IsDiskOn slot
  disk_on slot is =
      let view = claimed_view slots group slot is in
      let copy = copy_there newest slot view.0 view.1 in
      let below = copy_within slots slot view.0 (first_is_copy (scene_in slots slot) view.0 (view_is_first (slot_at slots slot) view.0 view.1)) in
      let seat = claims_seat newest group found (made group past state left named found taken) slot copy.0 below is copy.1 in
      let on = seat_on group past state left named found taken slot (slot_is (slots_of found.seats) seat.0 slot seat.1) in
      let own = seated_is found on.place on.disk on.is_there in
      let there : slice_get newest on.disk.seat.slot ≡ Some (Some own.found) =
      subst (λ (all : List (Option Newest)). slice_get all on.disk.seat.slot ≡ Some (Some own.found)) (newest_is group past state left named found taken) own.is_found in
      record {
        has = record {
          found = own.found;
          is_found = subst (λ (n : ℕ). slice_get newest n ≡ Some (Some own.found)) on.slot_is there;
          copy = on.disk.copy;
          stands = own.stands;
          is_copy = all_at (λ (disk : Seated). CanBeCopy disk.copy) (seated found) on.place on.disk taken.assembled.are_copies on.is_there;
        };
        claimed_by = subst (λ (n : ℕ). IsClaimed (groups group) scene n (view_of on.disk.copy)) on.slot_is
            (disk_claimed group past state left named found taken on.place on.disk on.is_there);
      }

  module _ (slot : ℕ) (on : IsDiskOn slot) where
    abbrev disk : Seated
    disk = own_disk newest slot on.has

    abbrev view : View
    view = view_of disk.copy

    -- Where it leads its slot shows its copy.
    leads_there : leads found.config disk ≡ true → leading_copy (groups group) found.config.sequence (scene slot) ≡ view ∷ []
    unfolding view_of
    leads_there is =
        let leading = leads_is found.config disk is in
        let ours : bytes_eq group view.group ≡ true = ap (bytes_eq group) (leading.in_group ∙ taken.same_group) ∙ bytes_same group in
        let shown = showing slot view (first_is_copy (scene slot) view on.claimed_by.is_first)
        (and_from (bytes_eq group view.group) (lists_itself view) ours leading.is_listed) leading.at_sequence in
        place_get (groups group) found.config.sequence scene slot view (record { is_only = shown.is_held; is_standing = shown.is_standing; same = shown.same })

    -- Where its slot shows such a copy, it leads.
    there_leads : (copy : View) → IsCopyOf (scene slot) copy → stands (groups group) copy ≡ true → copy.sequence ≡ found.config.sequence → leads found.config disk ≡ true
    unfolding view_of
    there_leads copy is stand same =
        let shown = showing slot copy is stand same in
        let own : view ≡ copy = only_first (scene slot) copy view shown.is_held on.claimed_by.is_first in
        let parts = and_parts (bytes_eq group view.group) (lists_itself view) (ap (stands (groups group)) own ∙ stand) in
        let of_group : bytes_eq disk.copy.header.guid found.config.group ≡ true =
        ap (λ (guid : List ℕ). bytes_eq guid found.config.group) (sym (same_bytes group view.group parts.0) ∙ sym taken.same_group) ∙ bytes_same found.config.group in
        let at_sequence : disk.copy.header.sequence ≡ found.config.sequence = ap (λ (one : View). one.sequence) own ∙ same in
        let numbered = eq-eqb disk.copy.header.sequence found.config.sequence at_sequence in
        let listed = parts.1 in
        rw (of_group, numbered, listed) refl

    own_leads : (b : Bool) → leads found.config disk ≡ b → views_in (if b then disk ∷ [] else []) ≡ leading_copy (groups group) found.config.sequence (scene slot)
    own_leads true is = sym (leads_there is)
    own_leads false is =
        sym (none_leading (groups group) scene found.config.sequence (scene slot) (λ copy there stand same. false≢true (sym is ∙ there_leads copy there stand same)))

  -- A slot that leads is claimed.
  leads_claimed : (slot : ℕ) (copy : View) → IsCopyOf (scene slot) copy → stands (groups group) copy ≡ true → copy.sequence ≡ found.config.sequence
      → claims slots group slot ≡ true
  leads_claimed slot copy is stand same =
      let shown = showing slot copy is stand same in
      let one = member_claimed group past state left named found taken slot shown.is_here shown.is_read shown.is_member in
      let alike = one_group state left newest taken.every_slot refl in
      let same_scene = scene_is state left newest taken.every_slot refl in
      claimed_claims group slots alike slot one.0 (subst (λ (it : Scene View). IsClaimed (groups group) it slot one.0) (sym same_scene) one.1)

  -- A slot says what it shows to lead.
  one_slot : (slot : ℕ) → views_over (slot ∷ []) ≡ leading_copy (groups group) found.config.sequence (scene slot)
  one_slot slot = go (claims slots group slot) refl
    where
      views_of_one : Bool → List View
      views_of_one b = views_in (filter (leads found.config) (filter_map (disk_at newest) (if b then slot ∷ [] else [])))

      by : (b : Bool) → claims slots group slot ≡ b → views_of_one b ≡ leading_copy (groups group) found.config.sequence (scene slot)
      by true is =
          let on = disk_on slot is in
          ap (λ (o : Option Seated). views_in (filter (leads found.config) (cons_option o []))) (own_is newest slot on.has)
          ∙ own_leads slot on (leads found.config (disk slot on)) refl
      by false is =
          sym (none_leading (groups group) scene found.config.sequence (scene slot)
          (λ copy there stand same. false≢true (sym is ∙ leads_claimed slot copy there stand same)))

      go : (b : Bool) → claims slots group slot ≡ b → views_over (slot ∷ []) ≡ leading_copy (groups group) found.config.sequence (scene slot)
      go b is = ap views_of_one is ∙ by b is

  -- ---- all of them

  all_slots : (count : ℕ) → views_over (range_with_len 0 count) ≡ leading_copies (groups group) found.config.sequence scene count
  all_slots zero = refl
  all_slots (suc count) =
      let fore = range_with_len 0 count in
      let last = count ∷ [] in
      let fore_claims = filter (claims slots group) fore in
      let last_claims = filter (claims slots group) last in
      let fore_disks = filter_map (disk_at newest) fore_claims in
      let last_disks = filter_map (disk_at newest) last_claims in
      let say : Seated → View = λ (one : Seated). view_of one.copy in
      ap views_over (range_below count)
      ∙ ap (λ (ns : List ℕ). views_in (filter (leads found.config) (filter_map (disk_at newest) ns))) (filter-append (claims slots group) fore last)
      ∙ ap (λ (disks : List Seated). views_in (filter (leads found.config) disks)) (filter_map-append (disk_at newest) fore_claims last_claims)
      ∙ ap (λ (disks : List Seated). views_in disks)
      (filter-append (leads found.config) fore_disks last_disks)
      ∙ map-append say (filter (leads found.config) fore_disks) (filter (leads found.config) last_disks)
      ∙ ap (λ (views : List View). views ++ views_over last) (all_slots count)
      ∙ ap (λ (views : List View). leading_copies (groups group) found.config.sequence scene count ++ views) (one_slot count)

  -- What the group's leaders say is what histories read.
  pub leaders_are : leading_views found ≡ leading_copies (groups group) found.config.sequence scene past.slots
  leaders_are =
      let long : length slots ≡ past.slots = length-map newest shown_of ∙ length_read state 0 left ∙ taken.every_slot ∙ sym taken.admitted.same_slots in
      views_are ∙ all_slots (length slots) ∙ ap (leading_copies (groups group) found.config.sequence scene) long
