-- One slot of several gets its new copy, of its own group or of another one.
use Rattle.std.proofs.Common.{◌≡◌, ◌≢◌, ◌⊎◌, ℕ, ◌-◌, true, List, Ok, refl, ap, ◌∙◌, sym, inl, inr, ⊎_elim}
use Rattle.std.specs.Prelude.{if◌then◌else◌}
use Rattle.ddf_bay.specs.State.{BayState, size_of}
use Rattle.ddf_bay.specs.Sectors.{Image, IsLeft}
use Rattle.ddf_bay.specs.Moments.{IsSettled, StopsLeave}
use Rattle.ddf_bay.proofs.Steps.{stops_weaken}
use Rattle.ddf_header.specs.declared.reading.Header.{Header}
use Rattle.ddf_copy.specs.declared.copy.DiskCopy.{DiskCopy}
use Rattle.ddf_copy.specs.declared.which.Which.{Which}
use Rattle.ddf_copy.specs.Headers.{IsUnder, anchor_header}
use Rattle.ddf_copy.specs.Anchor.{anchor_at}
use Rattle.ddf_copy.specs.Copies.{copy_of, newest_of}
use Rattle.ddf_copy.specs.Shows.{IsNewest}
use Rattle.ddf_update.specs.declared.prepared.Mode.{Mode}
use Rattle.ddf_update.specs.declared.prepared.Mode.TheVariants.{Adopt, Change, Found, Move}
use Rattle.ddf_update.specs.declared.prepared.Prepared.{Prepared}
use Rattle.ddf_update.specs.Changes.{IsGetting, MayGet, SlotChange, anchor_after}
use Rattle.ddf_update.specs.Gate.{StopsLeaveSince}
use Rattle.ddf_update.specs.Prepared.{IsPrepared, writes_anchor}
use Rattle.ddf_update.specs.Update.{AreBoth, IsAdopted, IsChanged, IsFormerOrNew, IsInEither, IsMoved, IsMovedOrNot, IsOldOrNew, IsWritten, MayAdopt, MayChange, MayMove}
use Rattle.ddf_update.proofs.AdoptingShows.{adopting_stops}
use Rattle.ddf_update.proofs.MovingShows.{moving_stops}

-- What a slot has that may get a new copy, whichever group it shows.
pub record HasOld {D : Type 0} (disks : BayState D) (slot : ℕ) (seat : SlotChange) : Type 0 where
  pub is_settled : IsSettled disks.may_hold disks.held slot
  pub is_anchored : anchor_at (size_of disks slot) (disks.held slot) ≡ Ok seat.anchor
  pub last_is : copy_of (size_of disks slot) (disks.held slot) seat.anchor seat.last ≡ Ok seat.old
  pub is_newest : IsNewest (newest_of (size_of disks slot) (disks.held slot) seat.anchor) seat.old
  pub is_under : IsUnder (size_of disks slot) (anchor_after seat) seat.new

old_by : {D : Type 0} (mode : Mode) (disks : BayState D) (slot : ℕ) (seat : SlotChange) → seat.mode ≡ mode → MayGet mode disks slot seat → HasOld disks slot seat
old_by Change disks slot seat is can = record { is_settled = can.is_settled; is_anchored = can.is_anchored; last_is = can.last_is; is_newest = can.is_newest; is_under = rw is can.is_under }
old_by Found disks slot seat is can = absurd can
old_by Adopt disks slot seat is can = record { is_settled = can.0; is_anchored = can.1.is_anchored; last_is = can.1.last_is; is_newest = can.1.is_newest; is_under = rw is can.1.is_under }
old_by Move disks slot seat is can = record { is_settled = can.0; is_anchored = can.1.is_anchored; last_is = can.1.last_is; is_newest = can.1.is_newest; is_under = rw is can.1.is_under }

pub has_old : {D : Type 0} (disks : BayState D) (slot : ℕ) (seat : SlotChange) → MayGet seat.mode disks slot seat → HasOld disks slot seat
has_old disks slot seat can = old_by seat.mode disks slot seat refl can

-- What a slot may get it may get still where it is as it was.
pub get_again : {D : Type 0} (mode : Mode) (disks now : BayState D) (slot : ℕ) (seat : SlotChange) → now.sizes ≡ disks.sizes → now.held slot ≡ disks.held slot
    → ((l : ℕ) (bytes : List ℕ) → now.may_hold slot l bytes → disks.may_hold slot l bytes) → MayGet mode disks slot seat → MayGet mode now slot seat
get_again Change disks now slot seat sizes held keeps can = record {
  is_settled = λ l bytes left. can.is_settled l bytes (keeps l bytes left) ∙ ap (λ (sector : ℕ → List ℕ). sector l) (sym held);
  is_anchored = rw (sizes, held) can.is_anchored;
  last_is = rw (sizes, held) can.last_is;
  is_newest = rw (sizes, held) can.is_newest;
  is_under = rw sizes can.is_under;
  is_newer = can.is_newer;
}
get_again Found disks now slot seat sizes held keeps can = absurd can
get_again Adopt disks now slot seat sizes held keeps can = (
  λ l bytes left. can.0 l bytes (keeps l bytes left) ∙ ap (λ (sector : ℕ → List ℕ). sector l) (sym held),
  record {
    is_anchored = rw (sizes, held) can.1.is_anchored;
    last_is = rw (sizes, held) can.1.last_is;
    is_newest = rw (sizes, held) can.1.is_newest;
    is_under = rw sizes can.1.is_under;
    same_places = can.1.same_places;
    same_sections = can.1.same_sections;
    other_group = can.1.other_group;
  },
)
get_again Move disks now slot seat sizes held keeps can = (
  λ l bytes left. can.0 l bytes (keeps l bytes left) ∙ ap (λ (sector : ℕ → List ℕ). sector l) (sym held),
  record {
    is_anchored = rw (sizes, held) can.1.is_anchored;
    last_is = rw (sizes, held) can.1.last_is;
    is_newest = rw (sizes, held) can.1.is_newest;
    is_under = rw sizes can.1.is_under;
    lies_apart = can.1.lies_apart;
  },
)

-- A stop leaves the slot with its old or its new copy, and others as they might be left.
pub record IsLeftGetting {D : Type 0} (mode : Mode) (before : BayState D) (slot : ℕ) (update : Prepared) (seat : SlotChange) (image : Image) : Type 0 where
  pub here : IsGetting mode (size_of before slot) (before.held slot) (image slot) update seat
  pub other_slots : (s l : ℕ) → s ≢ slot → before.may_hold s l (image s l)

-- The slot has its new copy in both places.
pub record HasGot {D : Type 0} (anchor : Header) (old new : BayState D) (slot : ℕ) (update : Prepared) (seat : SlotChange) : Type 0 where
  pub are_both : AreBoth (size_of old slot) (new.held slot) anchor seat.new
  pub is_settled : IsSettled new.may_hold new.held slot
  pub outside : (l : ℕ) → (new.held slot l ≡ old.held slot l) ⊎ IsWritten (size_of old slot) update l
  pub other_slots : (s l : ℕ) → s ≢ slot → new.held s l ≡ old.held s l
  pub others_left : (s l : ℕ) (bytes : List ℕ) → s ≢ slot → new.may_hold s l bytes → old.may_hold s l bytes

module _ {D : Type 0} (now next : BayState D) (slot : ℕ) (update : Prepared) (seat : SlotChange) where
  abbrev Changes : Type 0
  Changes = (anchor : Header) (last : Which) (old copy : DiskCopy) → IsPrepared copy last Change update → MayChange now slot anchor last old copy
      → StopsLeave now next (IsOldOrNew now slot update anchor last old copy)

  abbrev Adopts : Type 0
  Adopts = (anchor : Header) (last : Which) (old copy : DiskCopy) → IsPrepared copy last Adopt update → MayAdopt now slot anchor last old copy
      → StopsLeave now next (IsLeft now.may_hold) ⊎ StopsLeaveSince now next (IsFormerOrNew now slot update last old copy)

  abbrev Moves : Type 0
  Moves = (anchor : Header) (last : Which) (old copy : DiskCopy) → IsPrepared copy last Move update → MayMove now slot anchor last old copy
      → StopsLeave now next (IsLeft now.may_hold) ⊎ StopsLeaveSince now next (IsMovedOrNot now slot update copy)

  pub getting_stops : (mode : Mode) → Changes → Adopts → Moves → IsPrepared seat.new seat.last mode update → MayGet mode now slot seat → StopsLeave now next (IsLeftGetting mode now slot update seat)
  getting_stops Change changes adopts moves is can =
      stops_weaken (changes seat.anchor seat.last seat.old seat.new is can) (λ image left. record { here = left.here; other_slots = left.other_slots })
  getting_stops Found changes adopts moves is can = absurd can
  getting_stops Adopt changes adopts moves is can =
      stops_weaken (adopting_stops now slot seat.anchor seat.last seat.old seat.new update is can.1 next can.0 (adopts seat.anchor seat.last seat.old seat.new is can.1))
      (λ image left. record { here = left.here; other_slots = left.other_slots })
  getting_stops Move changes adopts moves is can =
      stops_weaken (moving_stops now slot seat.anchor seat.last seat.old seat.new update is can.1 next can.0 (moves seat.anchor seat.last seat.old seat.new is can.1))
      (λ image left. record { here = left.here; other_slots = left.other_slots })

  -- the anchor is written too
  either : {mode : Mode} → writes_anchor mode ≡ true → IsPrepared seat.new seat.last mode update → (l : ℕ)
      → (next.held slot l ≡ now.held slot l) ⊎ IsInEither update l ⊎ (l ≡ size_of now slot - 1) → (next.held slot l ≡ now.held slot l) ⊎ IsWritten (size_of now slot) update l
  either writing is l = ⊎_elim inl (λ there. inr (⊎_elim inl (λ at. inr (ap writes_anchor is.mode_is ∙ writing, at)) there))

  pub has_got : (mode : Mode) → ((anchor : Header) (last : Which) (old copy : DiskCopy) → IsPrepared copy last Change update → MayChange now slot anchor last old copy → IsChanged now next slot anchor update copy)
      → ((anchor : Header) (last : Which) (old copy : DiskCopy) → IsPrepared copy last Adopt update → MayAdopt now slot anchor last old copy → IsAdopted now next slot update last old copy)
      → ((anchor : Header) (last : Which) (old copy : DiskCopy) → IsPrepared copy last Move update → MayMove now slot anchor last old copy → IsMoved now next slot update copy)
      → IsPrepared seat.new seat.last mode update → MayGet mode now slot seat → HasGot (if writes_anchor mode then anchor_header seat.new else seat.anchor) now next slot update seat
  has_got Change changes adopts moves is can =
      let done = changes seat.anchor seat.last seat.old seat.new is can in
      record { are_both = done.are_both; is_settled = done.is_settled; outside = λ l. ⊎_elim inl (λ there. inr (inl there)) (done.outside l); other_slots = done.other_slots; others_left = done.others_left }
  has_got Found changes adopts moves is can = absurd can
  has_got Adopt changes adopts moves is can =
      let done = adopts seat.anchor seat.last seat.old seat.new is can.1 in
      record { are_both = done.are_both; is_settled = done.is_settled; outside = λ l. either refl is l (done.outside l); other_slots = done.other_slots; others_left = done.others_left }
  has_got Move changes adopts moves is can =
      let done = moves seat.anchor seat.last seat.old seat.new is can.1 in
      record { are_both = done.are_both; is_settled = done.is_settled; outside = λ l. either refl is l (done.outside l); other_slots = done.other_slots; others_left = done.others_left }
