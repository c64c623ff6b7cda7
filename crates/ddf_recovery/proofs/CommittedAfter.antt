-- A group to which the next step was written: the disks hold it, and the steps that are left were readied for it.
use Rattle.std.proofs.Common.{◌≡◌, ◌≢◌, ℕ, ◌<◌, true, List, [], ◌∷◌, length, map, fold, Option, Some, Ok, refl, sym, ap, subst, ◌∙◌, inl, inr, arith}
use Rattle.std.proofs.Math.Path.{fun_ext}
use Rattle.std.specs.Prelude.{slice_get, slice_index}
use Rattle.std.specs.List.{AllByRecursion}
use Rattle.ddf_lemmas.proofs.Lists.{all_from, in_map, mapped_at, some_at_place}
use Rattle.ddf_bay.specs.State.{BayState, size_of}
use Rattle.ddf_bay.specs.Sectors.{Image}
use Rattle.ddf_bay.specs.Moments.{IsSettled}
use Rattle.ddf_bay.proofs.Steps.{settled_keeps}
use Rattle.ddf_header.specs.declared.reading.Header.{Header}
use Rattle.ddf_copy.specs.declared.copy.DiskCopy.{DiskCopy}
use Rattle.ddf_copy.specs.declared.newest_copy.Newest.{Newest}
use Rattle.ddf_copy.specs.declared.newest_copy.Newest.TheVariants.{Level}
use Rattle.ddf_copy.specs.Anchor.{anchor_at}
use Rattle.ddf_header.specs.declared.kind.HeaderKind.TheVariants.{Anchor}
use Rattle.ddf_header.specs.Header.{IsHeaderOf}
use Rattle.ddf_header.proofs.Encoded.{encoded_again}
use Rattle.ddf_copy.specs.Gate.{header_bytes}
use Rattle.ddf_copy.specs.Headers.{IsAnchor, IsUnder, anchor_header}
use Rattle.ddf_copy.specs.Whole.{IsNewestUnder}
use Rattle.ddf_config.specs.declared.seat.Seat.{Seat}
use Rattle.ddf_view.specs.Shows.{shows}
use Rattle.ddf_view.specs.View.{view_of}
use Rattle.ddf_rewrite.proofs.Lists.{all_at, all_mapped, some_same}
use Rattle.ddf_update.specs.declared.prepared.Mode.{Mode}
use Rattle.ddf_update.specs.declared.prepared.Mode.TheVariants.{Adopt, Change, Found, Move}
use Rattle.ddf_update.specs.Changes.{AreChanged, MayChangeAll, SlotChange, anchor_after}
use Rattle.ddf_update.proofs.Getting.{has_old}
use Rattle.ddf_update.specs.Update.{AreBoth}
use Rattle.ddf_seats.specs.declared.seated.Seated.{Seated}
use Rattle.ddf_seats.specs.Group.{GroupValue}
use Rattle.ddf_assembly.specs.Reading.{HasAnchor, HaveAnchors}
use Rattle.ddf_steps.specs.Ready.{ReadyStep, group_after}
use Rattle.ddf_recovery.specs.Ready.{ReadyValue}
use Rattle.ddf_seats.specs.Seated.{with_level, seated, seats_in, slots_in, levelled}
use Rattle.ddf_assembly.specs.Settled.{IsLevelIn, IsSettledGroup}
use Rattle.ddf_steps.specs.Steps.{in_order}
use Rattle.ddf_steps.specs.Trying.{AreFollowing, Follows, StandOn}
use Rattle.ddf_seats.specs.Changing.{CanBeChanged, IsOfGroup, SlotsRise}
use Rattle.ddf_steps.specs.Committed.{AreRewriting, AreSettled, HaveSequence, IsRewritten}
use Rattle.ddf_recovery.specs.Committed.{HoldsGroup, IsReadyFor, MayWriteNext, group_next, left_behind, next_slots, next_updates}
use Rattle.ddf_assembly.specs.Held.{AreHeldOn, IsHeldOn, StandUnder}
use Rattle.ddf_recovery.proofs.CommittedCopies.{standing_under}
use Rattle.ddf_steps.proofs.CommittedLevels.{changed_levelled, level_else, level_here, seated_after, seats_levelled, slot_or_none}
use Rattle.ddf_seats.proofs.CommittedSeats.{seated_is}
use Rattle.ddf_seats.proofs.Lists.{get_within}
use Rattle.ddf_steps.proofs.Ordered.{order_at, order_from}
use Rattle.ddf_steps.proofs.Rewritten.{none_founded, places_under}

-- ---- a slot that isn't written

module _ {D : Type 0} (old new : BayState D) (same_sizes : new.sizes ≡ old.sizes) (slot : ℕ) (newest : Newest) (same : new.held slot ≡ old.held slot) where
  -- it holds what it held
  pub held_still : IsHeldOn old slot newest → IsHeldOn new slot newest
  held_still held = record { anchor = held.anchor; is_anchored = rw (same_sizes, same) held.is_anchored; is_newest = rw (same_sizes, same) held.is_newest }

  -- which can be written again there
  pub under_still : (anchor : Header) → (anchor_at (size_of old slot) (old.held slot) ≡ Ok anchor → IsNewestUnder (size_of old slot) anchor newest)
      → anchor_at (size_of new slot) (new.held slot) ≡ Ok anchor → IsNewestUnder (size_of new slot) anchor newest
  under_still anchor under anchored = rw same_sizes (under (rw (same_sizes, same) at anchored))

-- Disks of which nothing but syncs was asked since a group was assembled from them hold it, once its seats' slots are synced.
pub recovered_holds : {D : Type 0} (old new : BayState D) → new.sizes ≡ old.sizes → new.held ≡ old.held → (group : GroupValue) → AreHeldOn old group.newest → StandUnder old group.newest
    → AreSettled new group.seats (length group.seats) → HoldsGroup new group
recovered_holds old new same_sizes same_held group held under settled =
    let same = λ (slot : ℕ). ap (λ (image : Image). image slot) same_held in
    record {
      are_held = λ slot newest at. held_still old new same_sizes slot newest (same slot) (held slot newest at);
      are_under = λ slot newest at anchor. under_still old new same_sizes slot newest (same slot) anchor (under slot newest at anchor);
      are_settled = settled;
    }

-- ---- anchors

-- An anchor that is written is spelled so.
anchor_spelled : (copy : DiskCopy) (bytes : List ℕ) → IsHeaderOf Anchor (anchor_header copy) bytes → IsAnchor (anchor_header copy)
anchor_spelled copy bytes is =
    let same : header_bytes (anchor_header copy) ≡ bytes = encoded_again Anchor (anchor_header copy) bytes is in
    subst (IsHeaderOf Anchor (anchor_header copy)) (sym same) is

-- by how a disk is written
mode_elim : {P : Type 0} (mode : Mode) → (mode ≡ Change → P) → (mode ≡ Found → P) → (mode ≡ Adopt → P) → (mode ≡ Move → P) → P
mode_elim Change changes founds adopts moves = changes refl
mode_elim Found changes founds adopts moves = founds refl
mode_elim Adopt changes founds adopts moves = adopts refl
mode_elim Move changes founds adopts moves = moves refl

-- ---- a step's disks

-- The slots of a settled group's disks rise.
settled_rise : (group : GroupValue) → IsSettledGroup group → SlotsRise (seats_in (seated group))
settled_rise group settled = subst SlotsRise (sym settled.are_seated) settled.slots_rise

module _ (group : GroupValue) (one : ReadyStep) (rise : SlotsRise (seats_in (seated group))) (follows : Follows (seated group) one)
    (rewrites : AllByRecursion (IsRewritten (seated group) one.step.config) one.step.disks) where
  disk_is : (k : ℕ) (disk : Seated) → slice_get one.step.disks k ≡ Some disk → IsRewritten (seated group) one.step.config disk
  disk_is k disk at = all_at (IsRewritten (seated group) one.step.config) one.step.disks k disk rewrites at

  -- their slots rise
  pub disks_rise : SlotsRise (seats_in one.step.disks)
  disks_rise = follows.slots_rise rise

  -- each is on a slot that was read
  pub disks_within : (k : ℕ) (disk : Seated) → slice_get one.step.disks k ≡ Some disk → disk.seat.slot < length group.newest
  disks_within k disk at =
      let is = disk_is k disk at in
      let own = seated_is group is.place is.before is.is_there in
      subst (λ (seat : Seat). seat.slot < length group.newest) (sym is.same_seat) (get_within group.newest (Some own.found) is.before.seat.slot own.is_found)

  pub after_is : seated (group_after group one.step) ≡ map levelled one.step.disks
  after_is = seated_after group one.step disks_rise disks_within

  -- the newest copy of its slot then
  level_is : (k : ℕ) (disk : Seated) → slice_get one.step.disks k ≡ Some disk → (newest : Newest)
      → slice_get (fold with_level group.newest one.step.disks) disk.seat.slot ≡ Some (Some newest) → Level disk.copy ≡ newest
  level_is k disk at newest there =
      let here = level_here group.newest one.step.disks disks_rise k disk at (disks_within k disk at) in
      let same : Some (Level disk.copy) ≡ Some newest = some_same here there in
      cc

  -- the group is settled then
  pub settled_after : group.absent ≡ [] → group.lagging ≡ [] → IsSettledGroup (group_after group one.step)
  settled_after none_absent none_lags = record {
    none_absent = none_absent;
    none_lags = none_lags;
    slots_rise = disks_rise;
    are_seated = ap seats_in after_is ∙ seats_levelled one.step.disks;
    can_be_changed = subst (λ (disks : List Seated). CanBeChanged one.step.config disks) (sym after_is) (changed_levelled one.step.config one.step.disks follows.can_be_changed);
    are_level = subst (λ (disks : List Seated). AllByRecursion (IsLevelIn (group_after group one.step)) disks) (sym after_is)
        (all_mapped (IsLevelIn (group_after group one.step)) levelled one.step.disks
        (all_from (λ (disk : Seated). IsLevelIn (group_after group one.step) (levelled disk)) one.step.disks
        (λ k disk at. record {
          is_newest = level_here group.newest one.step.disks disks_rise k disk at (disks_within k disk at);
          is_shown = all_at (λ (other : Seated). shows one.step.config (view_of other.copy) ≡ true) one.step.disks k disk follows.show at;
          same_sequence = (disk_is k disk at).has_sequence;
        })));
  }

  after_settled : IsSettledGroup group → IsSettledGroup (group_after group one.step)
  after_settled settled = settled_after settled.none_absent settled.none_lags

  after_sequence : HaveSequence one.step.config.sequence (seated (group_after group one.step))
  after_sequence =
      subst (λ (disks : List Seated). HaveSequence one.step.config.sequence disks) (sym after_is)
      (all_mapped (λ (disk : Seated). disk.copy.header.sequence ≡ one.step.config.sequence) levelled one.step.disks
      (all_from (λ (disk : Seated). disk.copy.header.sequence ≡ one.step.config.sequence) one.step.disks (λ k disk at. (disk_is k disk at).has_sequence)))

  module _ (sizes : List ℕ) (have : HaveAnchors sizes group.newest) where
    -- the copies of the group's disks in a slot can stand there under the anchor of its newest copy
    stand_on : (slot : ℕ) (found : Newest) → slice_get group.newest slot ≡ Some (Some found) → (size : ℕ) (anchor : Header) → IsNewestUnder size anchor found → StandOn slot size anchor (seated group)
    stand_on slot found is_found size anchor under =
        all_from (λ (disk : Seated). disk.seat.slot ≡ slot → IsUnder size anchor disk.copy) (seated group)
        (λ k disk at here.
        let own = seated_is group k disk at in
        let also = subst (λ (n : ℕ). slice_get group.newest n ≡ Some (Some own.found)) here own.is_found in
        let same : Some found ≡ Some own.found = some_same is_found also in
        let is : found ≡ own.found = cc in
        standing_under size anchor own.found disk.copy own.stands (subst (IsNewestUnder size anchor) is under))

    anchored_here : (k : ℕ) (disk : Seated) → slice_get one.step.disks k ≡ Some disk → (newest : Newest) → slice_get (fold with_level group.newest one.step.disks) disk.seat.slot ≡ Some (Some newest)
        → (disk.seat.slot < length sizes) × HasAnchor (slice_index sizes disk.seat.slot) newest
    anchored_here k disk at newest there =
        let is = disk_is k disk at in
        let own = seated_is group is.place is.before is.is_there in
        let slot_is : is.before.seat.slot ≡ disk.seat.slot = ap (λ (seat : Seat). seat.slot) (sym is.same_seat) in
        let found : slice_get group.newest disk.seat.slot ≡ Some (Some own.found) = subst (λ (n : ℕ). slice_get group.newest n ≡ Some (Some own.found)) slot_is own.is_found in
        let prior = have disk.seat.slot own.found found in
        let size = slice_index sizes disk.seat.slot in
        let seated_under = stand_on disk.seat.slot own.found found size prior.1.anchor prior.1.under in
        let under = all_at (λ (other : Seated). other.seat.slot ≡ disk.seat.slot → other.mode ≡ Change → IsUnder size prior.1.anchor other.copy) one.step.disks k disk
        (follows.stand_on disk.seat.slot size prior.1.anchor seated_under) at refl in
        let before_under = all_at (λ (other : Seated). other.seat.slot ≡ disk.seat.slot → IsUnder size prior.1.anchor other.copy) (seated group) is.place is.before seated_under is.is_there slot_is in
        let can = (all_at (IsOfGroup one.step.config) one.step.disks k disk follows.can_be_changed.of_group at).is_copy in
        let placed = order_at one.step.disks k disk at in
        let update = some_at_place one.updates placed.0 (let below = get_within (in_order one.step.disks) disk placed.0 placed.1 in let counted = follows.are_prepared.counted in omega (arith, below, counted)) in
        let prepared = follows.are_prepared.each placed.0 disk update.0 placed.1 update.1 in
        let anew : HasAnchor size (Level disk.copy) = record {
          anchor = anchor_header disk.copy;
          is_anchor = anchor_spelled disk.copy update.0.anchor prepared.anchor_is;
          under = places_under size prior.1.anchor is.before.copy disk.copy before_under can is.has_places;
        } in
        let anchored = mode_elim disk.mode
        (λ (changes : disk.mode ≡ Change). record { anchor = prior.1.anchor; is_anchor = prior.1.is_anchor; under = under changes })
        (λ founds. absurd (none_founded one.step.config is.before (sym is.has_mode ∙ founds)))
        (λ adopts. anew)
        (λ moves. anew) in
        (prior.0, subst (HasAnchor size) (level_is k disk at newest there) anchored)

    -- Each newest copy can be written again then, under an anchor of its slot.
    pub after_anchored : HaveAnchors sizes (group_after group one.step).newest
    after_anchored slot newest at = elim (slot_or_none one.step.disks slot) [
      | inl found ↦
          let there = subst (λ (n : ℕ). slice_get (fold with_level group.newest one.step.disks) n ≡ Some (Some newest)) found.3 at in
          subst (λ (n : ℕ). (n < length sizes) × HasAnchor (slice_index sizes n) newest) (sym found.3) (anchored_here found.0 found.1 found.2 newest there)
      | inr none ↦ have slot newest (sym (level_else group.newest one.step.disks slot none) ∙ at)
    ]

  -- ---- what the disks hold then

  module _ {D : Type 0} (old new : BayState D) (same_sizes : new.sizes ≡ old.sizes) (holds : HoldsGroup old group) (seat : ℕ → SlotChange)
      (may : MayChangeAll old (slots_in (in_order one.step.disks)) seat one.updates)
      (news : (place : ℕ) (disk : Seated) → slice_get (in_order one.step.disks) place ≡ Some disk → (seat place).new ≡ disk.copy)
      (changed : AreChanged old new (slots_in (in_order one.step.disks)) seat one.updates (length (slots_in (in_order one.step.disks)))) where
    abbrev written : List Seated
    written = in_order one.step.disks

    slot_at : (k : ℕ) (disk : Seated) → slice_get written k ≡ Some disk → slice_get (slots_in written) k ≡ Some disk.seat.slot
    slot_at k disk at = mapped_at (λ (one : Seated). one.seat.slot) written k disk at

    both_of : (k : ℕ) (disk : Seated) → slice_get written k ≡ Some disk → AreBoth (size_of new disk.seat.slot) (new.held disk.seat.slot) (anchor_after (seat k)) disk.copy
    both_of k disk at =
        let slot = disk.seat.slot in
        let here = slot_at k disk at in
        let below = get_within written disk k at in
        let counted = follows.are_prepared.counted in
        let update = some_at_place one.updates k (omega (arith, below, counted)) in
        let is = changed.have_changed k slot update.0 (get_within (slots_in written) slot k here) here update.1 in
        subst (λ (sizes : List ℕ). AreBoth (slice_index sizes slot) (new.held slot) (anchor_after (seat k)) disk.copy) (sym same_sizes)
        (subst (λ (copy : DiskCopy). AreBoth (size_of old slot) (new.held slot) (anchor_after (seat k)) copy) (news k disk at) is.are_both)

    held_here : (k : ℕ) (disk : Seated) → slice_get one.step.disks k ≡ Some disk → IsHeldOn new disk.seat.slot (Level disk.copy)
    held_here k disk at =
        let placed = order_at one.step.disks k disk at in
        let both = both_of placed.0 disk placed.1 in
        record {
          anchor = anchor_after (seat placed.0);
          is_anchored = both.is_anchored;
          is_newest = both.are_level ∙ ap (λ (copy : DiskCopy). Level copy) (disk_is k disk at).as_primary;
        }

    under_here : (k : ℕ) (disk : Seated) → slice_get one.step.disks k ≡ Some disk → (anchor : Header) → anchor_at (size_of new disk.seat.slot) (new.held disk.seat.slot) ≡ Ok anchor
        → IsUnder (size_of new disk.seat.slot) anchor disk.copy
    under_here k disk at anchor anchored =
        let slot = disk.seat.slot in
        let placed = order_at one.step.disks k disk at in
        let both = both_of placed.0 disk placed.1 in
        let same : anchor_after (seat placed.0) ≡ anchor = let two = sym both.is_anchored ∙ anchored in cc in
        subst (λ (sizes : List ℕ). IsUnder (slice_index sizes slot) anchor disk.copy) (sym same_sizes)
        (subst (λ (header : Header). IsUnder (size_of old slot) header disk.copy) same
        (subst (IsUnder (size_of old slot) (anchor_after (seat placed.0))) (news placed.0 disk placed.1) (has_old old slot (seat placed.0) (may.may_change placed.0 slot (slot_at placed.0 disk placed.1))).is_under))

    -- a slot that isn't written
    held_else : (slot : ℕ) → ((k : ℕ) (disk : Seated) → slice_get one.step.disks k ≡ Some disk → slot ≢ disk.seat.slot) → new.held slot ≡ old.held slot
    held_else slot none = fun_ext (λ l. changed.others slot l (λ place below at.
        let found = in_map (λ (one : Seated). one.seat.slot) written place slot at in
        let from = order_from one.step.disks place found.0 found.1 in
        none from.0 found.0 from.1 (sym found.2)))

    newest_else : (slot : ℕ) (newest : Newest) → ((k : ℕ) (disk : Seated) → slice_get one.step.disks k ≡ Some disk → slot ≢ disk.seat.slot)
        → slice_get (fold with_level group.newest one.step.disks) slot ≡ Some (Some newest) → slice_get group.newest slot ≡ Some (Some newest)
    newest_else slot newest none at = sym (level_else group.newest one.step.disks slot none) ∙ at

    pub after_held : (slot : ℕ) (newest : Newest) → slice_get (fold with_level group.newest one.step.disks) slot ≡ Some (Some newest) → IsHeldOn new slot newest
    after_held slot newest at = elim (slot_or_none one.step.disks slot) [
      | inl found ↦
          let there = subst (λ (n : ℕ). slice_get (fold with_level group.newest one.step.disks) n ≡ Some (Some newest)) found.3 at in
          subst (λ (n : ℕ). IsHeldOn new n newest) (sym found.3)
          (subst (IsHeldOn new found.1.seat.slot) (level_is found.0 found.1 found.2 newest there) (held_here found.0 found.1 found.2))
      | inr none ↦ held_still old new same_sizes slot newest (held_else slot none) (holds.are_held slot newest (newest_else slot newest none at))
    ]

    pub after_under : (slot : ℕ) (newest : Newest) → slice_get (fold with_level group.newest one.step.disks) slot ≡ Some (Some newest)
        → (anchor : Header) → anchor_at (size_of new slot) (new.held slot) ≡ Ok anchor → IsNewestUnder (size_of new slot) anchor newest
    after_under slot newest at anchor anchored = elim (slot_or_none one.step.disks slot) [
      | inl found ↦
          let there = subst (λ (n : ℕ). slice_get (fold with_level group.newest one.step.disks) n ≡ Some (Some newest)) found.3 at in
          let here = subst (λ (n : ℕ). anchor_at (size_of new n) (new.held n) ≡ Ok anchor) found.3 anchored in
          subst (λ (n : ℕ). IsNewestUnder (size_of new n) anchor newest) (sym found.3)
          (subst (IsNewestUnder (size_of new found.1.seat.slot) anchor) (level_is found.0 found.1 found.2 newest there) (under_here found.0 found.1 found.2 anchor here))
      | inr none ↦
          under_still old new same_sizes slot newest (held_else slot none) anchor (holds.are_under slot newest (newest_else slot newest none at) anchor) anchored
    ]

    pub after_holds : HoldsGroup new (group_after group one.step)
    after_holds = record {
      are_held = after_held;
      are_under = after_under;
      are_settled = λ place one_seat below at.
          let found = in_map (λ (one : Seated). one.seat) one.step.disks place one_seat at in
          let placed = order_at one.step.disks place found.0 found.1 in
          let here = slot_at placed.0 found.0 placed.1 in
          subst (λ (s : Seat). IsSettled new.may_hold new.held s.slot) found.2
          (changed.are_settled placed.0 found.0.seat.slot (get_within (slots_in written) found.0.seat.slot placed.0 here) here);
    }

-- ---- the next step

steps_hold : {D : Type 0} (old new : BayState D) → new.sizes ≡ old.sizes → (group : GroupValue) (recovery : Option ReadyStep) (steps : List ReadyStep) → HoldsGroup old group → IsReadyFor group (record { recovery = recovery; steps = steps })
    → (may : MayWriteNext old (record { recovery = recovery; steps = steps }))
    → AreChanged old new (next_slots (record { recovery = recovery; steps = steps })) may.seat (next_updates (record { recovery = recovery; steps = steps })) (length (next_slots (record { recovery = recovery; steps = steps })))
    → HoldsGroup new (group_next group (record { recovery = recovery; steps = steps }))
steps_hold old new same_sizes group recovery [] holds is may changed =
    let same = λ (slot l : ℕ). changed.others slot l (λ place below at. absurd (omega (arith, below))) in
    let all = λ (slot : ℕ). fun_ext (same slot) in
    record {
      are_held = λ slot newest at. held_still old new same_sizes slot newest (all slot) (holds.are_held slot newest at);
      are_under = λ slot newest at anchor. under_still old new same_sizes slot newest (all slot) anchor (holds.are_under slot newest at anchor);
      are_settled = λ place seat below at.
          settled_keeps old.may_hold new.may_hold old.held new.held seat.slot (holds.are_settled place seat below at)
          (λ s l bytes left. changed.others_left s l bytes (λ place below at. absurd (omega (arith, below))) left) (same seat.slot);
    }
steps_hold old new same_sizes group recovery (one ∷ others) holds is may changed =
    after_holds group one (settled_rise group is.is_settled) is.follows.0 is.rewrites.0 old new same_sizes holds may.seat may.may_change may.news changed

-- The disks hold the group then.
pub committed_holds : {D : Type 0} (old new : BayState D) → new.sizes ≡ old.sizes → (group : GroupValue) (ready : ReadyValue) → HoldsGroup old group → IsReadyFor group ready
    → (may : MayWriteNext old ready) → AreChanged old new (next_slots ready) may.seat (next_updates ready) (length (next_slots ready)) → HoldsGroup new (group_next group ready)
committed_holds old new same_sizes group ready holds is may changed = steps_hold old new same_sizes group ready.recovery ready.steps holds is may changed

steps_ready : (group : GroupValue) (recovery : Option ReadyStep) (steps : List ReadyStep) → IsReadyFor group (record { recovery = recovery; steps = steps }) → IsReadyFor (group_next group (record { recovery = recovery; steps = steps })) (left_behind (record { recovery = recovery; steps = steps }))
steps_ready group recovery [] is = is
steps_ready group recovery (one ∷ others) is =
    let rise = settled_rise group is.is_settled in
    let after = after_is group one rise is.follows.0 is.rewrites.0 in
    record {
      is_settled = after_settled group one rise is.follows.0 is.rewrites.0 is.is_settled;
      have_sequence = after_sequence group one rise is.follows.0 is.rewrites.0;
      follows = subst (λ (disks : List Seated). AreFollowing disks others) (sym after) is.follows.1;
      rewrites = subst (λ (disks : List Seated). AreRewriting disks others) (sym after) is.rewrites.1;
      rises = is.rises.1;
    }

-- The steps that are left were readied for the group that it is then.
pub left_ready : (group : GroupValue) (ready : ReadyValue) → IsReadyFor group ready → IsReadyFor (group_next group ready) (left_behind ready)
left_ready group ready is = steps_ready group ready.recovery ready.steps is

steps_anchored : (sizes : List ℕ) (group : GroupValue) (recovery : Option ReadyStep) (steps : List ReadyStep) → IsReadyFor group (record { recovery = recovery; steps = steps }) → HaveAnchors sizes group.newest
    → HaveAnchors sizes (group_next group (record { recovery = recovery; steps = steps })).newest
steps_anchored sizes group recovery [] is have = have
steps_anchored sizes group recovery (one ∷ others) is have = after_anchored group one (settled_rise group is.is_settled) is.follows.0 is.rewrites.0 sizes have

-- Each of its newest copies can be written again then.
pub committed_anchored : (sizes : List ℕ) (group : GroupValue) (ready : ReadyValue) → IsReadyFor group ready → HaveAnchors sizes group.newest → HaveAnchors sizes (group_next group ready).newest
committed_anchored sizes group ready is have = steps_anchored sizes group ready.recovery ready.steps is have
