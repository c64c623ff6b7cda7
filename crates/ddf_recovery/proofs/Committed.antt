-- The next step of those that were readied for a group may be written to disks that hold the group.
use Rattle.std.proofs.Common.{◌≡◌, ℕ, zero, suc, ◌<◌, true, List, [], ◌∷◌, length, Option, Some, Ok, refl, sym, ap, subst, ◌∙◌, arith}
use Rattle.std.proofs.lemmas.List.{length-map}
use Rattle.std.specs.Prelude.{slice_get, slice_index}
use Rattle.std.specs.List.{AllByRecursion}
use Rattle.ddf_lemmas.proofs.Lists.{all_from, all_weaken, in_map, some_at_place}
use Rattle.ddf_bay.specs.State.{BayState, size_of}
use Rattle.ddf_bay.specs.Moments.{IsSettled}
use Rattle.ddf_header.specs.declared.kind.Revision.TheVariants.{R200}
use Rattle.ddf_header.specs.declared.reading.Header.{Header}
use Rattle.ddf_copy.specs.declared.copy.DiskCopy.{DiskCopy}
use Rattle.ddf_copy.specs.declared.which.Which.{Which}
use Rattle.ddf_copy.specs.declared.which.Which.TheVariants.{Primary, Secondary}
use Rattle.ddf_copy.specs.Anchor.{anchor_at}
use Rattle.ddf_copy.specs.declared.newest_copy.Newest.{Newest}
use Rattle.ddf_copy.specs.Copies.{copy_of, standing_copy}
use Rattle.ddf_copy.specs.Headers.{IsUnder, anchor_header}
use Rattle.ddf_copy.specs.Shows.{IsNewest, last_of}
use Rattle.ddf_copy.specs.Which.{place_of}
use Rattle.ddf_copy.specs.Written.{is_level}
use Rattle.ddf_copy.proofs.LastCopies.{last_is}
use Rattle.ddf_config.specs.declared.seat.Seat.{Seat}
use Rattle.ddf_config.specs.Seats.{SeatsFit}
use Rattle.ddf_config.specs.Configuration.{Configuration}
use Rattle.ddf_rewrite.proofs.Lists.{all_at}
use Rattle.ddf_update.specs.declared.prepared.Mode.{Mode}
use Rattle.ddf_update.specs.declared.prepared.Mode.TheVariants.{Adopt, Change, Found, Move}
use Rattle.ddf_update.specs.Changes.{MayChangeAll, MayGet, SlotChange}
use Rattle.ddf_update.specs.Group.{LieOnSlots}
use Rattle.ddf_update.specs.declared.new_layout.NewLayout.TheVariants.{Small}
use Rattle.ddf_update.specs.NewCopies.{new_copy}
use Rattle.ddf_update.specs.Prepared.{IsPrepared, LiesOn}
use Rattle.ddf_update.specs.Update.{MayAdopt, MayChange, MayMove}
use Rattle.ddf_update.proofs.AdoptingShows.{one_kind}
use Rattle.ddf_update.proofs.Lies.{lies_on}
use Rattle.ddf_seats.specs.declared.seated.Seated.{Seated}
use Rattle.ddf_seats.specs.Group.{GroupValue}
use Rattle.ddf_assembly.specs.Reading.{HaveAnchors}
use Rattle.ddf_steps.specs.Ready.{ReadyStep}
use Rattle.ddf_recovery.specs.Ready.{ReadyValue}
use Rattle.ddf_seats.specs.Seated.{seated, seats_in, slots_in}
use Rattle.ddf_steps.specs.Steps.{in_order}
use Rattle.ddf_steps.specs.Trying.{Follows, HasPlace, StandOn}
use Rattle.ddf_seats.specs.Changing.{IsOfGroup, SlotsRise}
use Rattle.ddf_steps.specs.Committed.{HasPlacesOf, HaveSequence, HaveSlots, IsRewritten}
use Rattle.ddf_recovery.specs.Committed.{HoldsGroup, IsReadyFor, MayWriteNext, next_slots, next_updates}
use Rattle.ddf_recovery.proofs.CommittedCopies.{standing_is, standing_read, standing_sequence, standing_under}
use Rattle.ddf_seats.proofs.CommittedSeats.{seated_is}
use Rattle.ddf_seats.proofs.Lists.{get_within}
use Rattle.ddf_steps.proofs.Ordered.{order_all, order_differ, order_from}
use Rattle.ddf_steps.proofs.Rewritten.{adopted_other, none_founded, none_moved, places_under}

-- Seats that fit are on slots.
pub seats_on_slots : (sizes : List ℕ) (seats : List Seat) → SeatsFit sizes seats → HaveSlots sizes seats
seats_on_slots sizes seats fit place seat at = (fit place seat at).0

-- ---- what the slot of a disk gets

-- A disk's slot may get the disk's copy in this change, as the disk is to be written.
pub record IsChange {D : Type 0} (disks : BayState D) (disk : Seated) (change : SlotChange) : Type 0 where
  pub may_get : MayGet change.mode disks disk.seat.slot change
  pub has_mode : change.mode ≡ disk.mode
  pub has_last : change.last ≡ disk.last
  pub has_new : change.new ≡ disk.copy

-- a change for places where there is no disk
pub no_copy : DiskCopy
no_copy = new_copy Small R200 (record { seconds = 0; salt = 0 }) [] 0

pub no_change : SlotChange
no_change = record { mode = Change; anchor = anchor_header no_copy; last = Secondary; old = no_copy; new = no_copy }

-- A change for each place, where there is one for each disk.
chosen : {D : Type 0} (state : BayState D) (disks : List Seated)
    → ((place : ℕ) (disk : Seated) → slice_get disks place ≡ Some disk → (change : SlotChange) × IsChange state disk change) → ℕ → SlotChange
chosen state [] each place = no_change
chosen state (disk ∷ disks) each zero = (each 0 disk refl).0
chosen state (disk ∷ disks) each (suc place) = chosen state disks (λ k. each (suc k)) place

chosen_is : {D : Type 0} (state : BayState D) (disks : List Seated)
    (each : (place : ℕ) (disk : Seated) → slice_get disks place ≡ Some disk → (change : SlotChange) × IsChange state disk change)
    → (place : ℕ) (disk : Seated) → slice_get disks place ≡ Some disk → IsChange state disk (chosen state disks each place)
unfolding chosen
chosen_is state [] each place disk at = absurd cc
chosen_is state (first ∷ disks) each zero disk at =
    let same : first ≡ disk = cc in subst (λ (one : Seated). IsChange state one (each 0 first refl).0) same (each 0 first refl).1
chosen_is state (first ∷ disks) each (suc place) disk at = chosen_is state disks (λ k. each (suc k)) place disk at

-- Copies of two sequence numbers are never asked to be level.
pub never_same : (new old standing : DiskCopy) (low high : ℕ) → old.header.sequence ≡ standing.header.sequence → standing.header.sequence ≡ low → new.header.sequence ≡ high → low < high
    → new.header.sequence ≡ old.header.sequence → is_level new old ≡ true
never_same new old standing low high is_standing is_low is_high less same = absurd (omega (arith, is_standing, is_low, is_high, less, same))

-- A disk's new copy is level with the newest copy of its slot, as an update takes it, where they are of one sequence number.
abbrev pub IsNewerOver : GroupValue → (before disk : Seated) → Type 0
IsNewerOver group before disk =
    (found : Newest) → slice_get group.newest before.seat.slot ≡ Some (Some found) → standing_copy found ≡ Some before.copy
    → (old : DiskCopy) → old.header.sequence ≡ before.copy.header.sequence → IsNewest found old
    → disk.copy.header.sequence ≡ old.header.sequence → is_level disk.copy old ≡ true

-- A disk of a step rewrites one of the group, and may be written over it.
pub record MayReplace (group : GroupValue) (config : Configuration) (disk : Seated) : Type 0 where
  pub rewrites : IsRewritten (seated group) config disk
  pub newer : disk.mode ≡ Change → IsNewerOver group rewrites.before disk

-- ---- how a slot gets it

-- by how it is written
get_by : {D : Type 0} (state : BayState D) (slot : ℕ) (change : SlotChange) (mode : Mode)
    → (mode ≡ Change → MayChange state slot change.anchor change.last change.old change.new) → (mode ≡ Found → ⊥)
    → (mode ≡ Adopt → IsSettled state.may_hold state.held slot × MayAdopt state slot change.anchor change.last change.old change.new)
    → (mode ≡ Move → IsSettled state.may_hold state.held slot × MayMove state slot change.anchor change.last change.old change.new) → MayGet mode state slot change
get_by state slot change Change changes founds adopts moves = changes refl
get_by state slot change Found changes founds adopts moves = founds refl
get_by state slot change Adopt changes founds adopts moves = adopts refl
get_by state slot change Move changes founds adopts moves = moves refl

-- A copy in the places of one that stands under an anchor is in the anchor's places.
placed_as : (anchor : Header) (old new : DiskCopy) → HasPlacesOf old new → ((which : Which) → place_of which old.header ≡ place_of which anchor) → (which : Which) → place_of which new.header ≡ place_of which anchor
placed_as anchor old new places in_place Primary = places.same_primary ∙ in_place Primary
placed_as anchor old new places in_place Secondary = places.same_secondary ∙ in_place Secondary

-- ---- the disks of a step

module _ {D : Type 0} (state : BayState D) (group : GroupValue) (holds : HoldsGroup state group) where
  -- the copies of the group's disks in a slot can stand there under its anchor
  seated_under : (slot : ℕ) (anchor : Header) → anchor_at (size_of state slot) (state.held slot) ≡ Ok anchor → StandOn slot (size_of state slot) anchor (seated group)
  seated_under slot anchor anchored =
      all_from (λ (disk : Seated). disk.seat.slot ≡ slot → IsUnder (size_of state slot) anchor disk.copy) (seated group)
      (λ k disk at here.
      let own = seated_is group k disk at in
      let found = subst (λ (n : ℕ). slice_get group.newest n ≡ Some (Some own.found)) here own.is_found in
      standing_under (size_of state slot) anchor own.found disk.copy own.stands (holds.are_under slot own.found found anchor anchored))

  module _ (one : ReadyStep) (follows : Follows (seated group) one) (replace : AllByRecursion (MayReplace group one.step.config) one.step.disks) where
    change_of : (place : ℕ) (disk : Seated) → slice_get (in_order one.step.disks) place ≡ Some disk → (change : SlotChange) × IsChange state disk change
    change_of place disk at =
        let from = order_from one.step.disks place disk at in
        let may = all_at (MayReplace group one.step.config) one.step.disks from.0 disk replace from.1 in
        let is = may.rewrites in
        let own = seated_is group is.place is.before is.is_there in
        let slot = disk.seat.slot in
        let size = size_of state slot in
        let slot_is : is.before.seat.slot ≡ slot = ap (λ (seat : Seat). seat.slot) (sym is.same_seat) in
        let found : slice_get group.newest slot ≡ Some (Some own.found) = subst (λ (n : ℕ). slice_get group.newest n ≡ Some (Some own.found)) slot_is own.is_found in
        let held = holds.are_held slot own.found found in
        let there = last_is own.found size (state.held slot) held.anchor (sym held.is_newest) (standing_is own.found is.before.copy own.stands) in
        let last : last_of own.found ≡ disk.last = sym (is.same_last ∙ own.has_last) in
        let newest = subst (λ (newest : _). IsNewest newest there.copy) held.is_newest there.is_newest in
        let alike = standing_sequence size (state.held slot) held.anchor own.found held.is_newest is.before.copy there.copy own.stands newest in
        let settled = subst (IsSettled state.may_hold state.held) slot_is (holds.are_settled own.place is.before.seat (get_within group.seats is.before.seat own.place own.is_seat) own.is_seat) in
        let last_there = subst (λ (which : Which). copy_of size (state.held slot) held.anchor which ≡ Ok there.copy) last there.is_there in
        let read = standing_read size (state.held slot) held.anchor own.found held.is_newest is.before.copy own.stands in
        let kind = one_kind size (state.held slot) held.anchor read.0 disk.last is.before.copy there.copy read.1 last_there in
        let under = all_at (λ (other : Seated). other.seat.slot ≡ slot → IsUnder size held.anchor other.copy) (seated group) is.place is.before (seated_under slot held.anchor held.is_anchored) is.is_there slot_is in
        let can = (all_at (IsOfGroup one.step.config) one.step.disks from.0 disk follows.can_be_changed.of_group from.1).is_copy in
        let change : SlotChange = record { mode = disk.mode; anchor = held.anchor; last = disk.last; old = there.copy; new = disk.copy } in (
          change,
          record {
            may_get = get_by state slot change disk.mode
                (λ changes. record {
                  is_settled = settled;
                  is_anchored = held.is_anchored;
                  last_is = last_there;
                  is_newest = there.is_newest;
                  is_under = all_at (λ (one : Seated). one.seat.slot ≡ slot → one.mode ≡ Change → IsUnder size held.anchor one.copy) one.step.disks from.0 disk
                      (follows.stand_on slot size held.anchor (seated_under slot held.anchor held.is_anchored)) from.1 refl changes;
                  is_newer = λ same. may.newer changes own.found own.is_found own.stands there.copy alike newest same;
                })
                (λ founds. none_founded one.step.config is.before (sym is.has_mode ∙ founds))
                (λ adopts. (
                  settled,
                  record {
                    is_anchored = held.is_anchored;
                    last_is = last_there;
                    is_newest = there.is_newest;
                    is_under = places_under size held.anchor is.before.copy disk.copy under can is.has_places;
                    same_places = placed_as held.anchor is.before.copy disk.copy is.has_places (λ which. under.in_place which);
                    same_sections = is.has_places.same_sections ∙ kind.1;
                    other_group = λ same. adopted_other one.step.config is.before (sym is.has_mode ∙ adopts) (kind.0 ∙ sym same ∙ is.has_group);
                  },
                ))
                (λ moves. absurd (none_moved one.step.config is.before (sym is.has_mode ∙ moves)));
            has_mode = refl;
            has_last = refl;
            has_new = refl;
          },
        )

    pub seat_of : ℕ → SlotChange
    seat_of = chosen state (in_order one.step.disks) change_of

    pub seat_is : (place : ℕ) (disk : Seated) → slice_get (in_order one.step.disks) place ≡ Some disk → IsChange state disk (seat_of place)
    unfolding seat_of
    seat_is place disk at = chosen_is state (in_order one.step.disks) change_of place disk at

    pub may_change_all : MayChangeAll state (slots_in (in_order one.step.disks)) seat_of one.updates
    may_change_all = record {
      may_change = λ place slot at.
          let there = in_map (λ (disk : Seated). disk.seat.slot) (in_order one.step.disks) place slot at in
          let is = seat_is place there.0 there.1 in
          subst (λ (n : ℕ). MayGet (seat_of place).mode state n (seat_of place)) there.2 is.may_get;
      are_prepared = λ place update at.
          let below : place < length (in_order one.step.disks) = let within = get_within one.updates update place at in let counted = follows.are_prepared.counted in omega (arith, within, counted) in
          let there = some_at_place (in_order one.step.disks) place below in
          let is = seat_is place there.0 there.1 in
          let prepared = follows.are_prepared.each place there.0 update there.1 at in
          subst (λ (mode : Mode). IsPrepared (seat_of place).new (seat_of place).last mode update) (sym is.has_mode)
          (subst (λ (last : Which). IsPrepared (seat_of place).new last there.0.mode update) (sym is.has_last)
          (subst (λ (copy : DiskCopy). IsPrepared copy there.0.last there.0.mode update) (sym is.has_new) prepared));
    }

-- ---- the next step

-- A later step may be written over disks of the sequence number that the group is at.
later_replace : (group : GroupValue) (one : ReadyStep) → HaveSequence group.config.sequence (seated group) → AllByRecursion (IsRewritten (seated group) one.step.config) one.step.disks
    → group.config.sequence < one.step.config.sequence → AllByRecursion (MayReplace group one.step.config) one.step.disks
later_replace group one have_sequence rewrites rises =
    all_weaken (IsRewritten (seated group) one.step.config) (MayReplace group one.step.config)
    (λ disk is. record {
      rewrites = is;
      newer = λ changes found is_found stands old alike newest.
          let before = all_at (λ (other : Seated). other.copy.header.sequence ≡ group.config.sequence) (seated group) is.place is.before have_sequence is.is_there in
          never_same disk.copy old is.before.copy group.config.sequence one.step.config.sequence alike before is.has_sequence rises;
    })
    one.step.disks rewrites

steps_may : {D : Type 0} (state : BayState D) (group : GroupValue) (recovery : Option ReadyStep) (steps : List ReadyStep) → HoldsGroup state group → IsReadyFor group (record { recovery = recovery; steps = steps })
    → MayWriteNext state (record { recovery = recovery; steps = steps })
steps_may state group recovery [] holds is = record {
  seat = λ place. no_change;
  may_change = record { may_change = λ place slot at. absurd cc; are_prepared = λ place update at. absurd cc };
  news = λ place disk at. absurd cc;
}
steps_may state group recovery (one ∷ others) holds is = record {
  seat = seat_of state group holds one is.follows.0 (later_replace group one is.have_sequence is.rewrites.0 is.rises.0);
  may_change = may_change_all state group holds one is.follows.0 (later_replace group one is.have_sequence is.rewrites.0 is.rises.0);
  news = λ place disk at. (seat_is state group holds one is.follows.0 (later_replace group one is.have_sequence is.rewrites.0 is.rises.0) place disk at).has_new;
}

-- It may be written to disks that hold the group.
pub may_write_next : {D : Type 0} (state : BayState D) (group : GroupValue) (ready : ReadyValue) → HoldsGroup state group → IsReadyFor group ready → MayWriteNext state ready
may_write_next state group ready holds is = steps_may state group ready.recovery ready.steps holds is

-- ---- where it is written

module _ (sizes : List ℕ) (group : GroupValue) (have : HaveAnchors sizes group.newest) where
  -- the slot of each of the group's disks is there, and its copy can stand on it
  seated_placed : AllByRecursion (HasPlace sizes) (seated group)
  seated_placed = all_from (HasPlace sizes) (seated group) (λ k disk at.
      let own = seated_is group k disk at in
      let here = have disk.seat.slot own.found own.is_found in
      record { there = here.0; anchor = here.1.anchor; under = standing_under (slice_index sizes disk.seat.slot) here.1.anchor own.found disk.copy own.stands here.1.under })

  pub step_lies : (one : ReadyStep) → Follows (seated group) one → SlotsRise (seats_in (seated group)) → LieOnSlots sizes (slots_in (in_order one.step.disks)) one.updates
  step_lies one follows rise =
      let written = in_order one.step.disks in
      let placed = order_all (HasPlace sizes) one.step.disks (follows.have_places sizes seated_placed) in
      let place_of = λ (place : ℕ) (disk : Seated) (at : slice_get written place ≡ Some disk). all_at (HasPlace sizes) written place disk placed at in
      record {
        are_slots = record {
          there = λ place slot at.
              let found = in_map (λ (disk : Seated). disk.seat.slot) written place slot at in
              subst (λ (n : ℕ). n < length sizes) found.2 (place_of place found.0 found.1).there;
          differ = λ first second slot at also. order_differ one.step.disks (follows.slots_rise rise) first second slot at also;
        };
        counted = follows.are_prepared.counted ∙ sym (length-map written (λ (disk : Seated). disk.seat.slot));
        lie_on = λ place slot update at also.
            let found = in_map (λ (disk : Seated). disk.seat.slot) written place slot at in
            let here = place_of place found.0 found.1 in
            subst (λ (n : ℕ). LiesOn (slice_index sizes n) update) found.2
            (lies_on (slice_index sizes found.0.seat.slot) here.anchor found.0.copy found.0.last found.0.mode update here.under (follows.are_prepared.each place found.0 update found.1 also));
      }

  steps_lie : (recovery : Option ReadyStep) (steps : List ReadyStep) → IsReadyFor group (record { recovery = recovery; steps = steps }) → LieOnSlots sizes (next_slots (record { recovery = recovery; steps = steps })) (next_updates (record { recovery = recovery; steps = steps }))
  steps_lie recovery [] is = record {
    are_slots = record { there = λ place slot at. absurd cc; differ = λ first second slot at also. absurd cc };
    counted = refl;
    lie_on = λ place slot update at also. absurd cc;
  }
  steps_lie recovery (one ∷ others) is = step_lies one is.follows.0 (subst SlotsRise (sym is.is_settled.are_seated) is.is_settled.slots_rise)

  -- Its updates lie on their slots.
  pub next_lies : (ready : ReadyValue) → IsReadyFor group ready → LieOnSlots sizes (next_slots ready) (next_updates ready)
  next_lies ready is = steps_lie ready.recovery ready.steps is
