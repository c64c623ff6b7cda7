-- What is written to a bay whose slots were synced, by what it told before.
use Rattle.std.proofs.Common.{◌≡◌, ◌≢◌, ◌⊎◌, ℕ, zero, suc, Bool, true, false, eqb, List, [], ◌∷◌, length, Some, inl, inr, refl, sym, ap, subst, ◌∙◌}
use Rattle.std.proofs.lemmas.Bool.{eqb-false, eqb-true}
use Rattle.std.specs.Prelude.{slice_get}
use Rattle.ddf_lemmas.proofs.Lists.{in_map, mapped_at}
use Rattle.ddf_bay.specs.Moments.{IsSettled, Keeps}
use Rattle.ddf_bay.specs.Sectors.{Image, IsLeft}
use Rattle.ddf_bay.specs.State.{BayState, size_of}
use Rattle.ddf_config.specs.declared.seat.Seat.{Seat}
use Rattle.ddf_update.specs.declared.prepared.Prepared.{Prepared}
use Rattle.ddf_update.specs.Changes.{AreChanged, HasChanged, IsGetting, IsLeftChangingAll, MayChangeAll, SlotChange}
use Rattle.ddf_update.proofs.Getting.{get_again}
use Rattle.ddf_steps.specs.Committed.{AreSettled, LeavesSynced, slots_of, synced}
use Rattle.ddf_seats.proofs.Lists.{get_within}

-- A number stands in a list, or nowhere in it.
stands_or_not : (numbers : List ℕ) (number : ℕ) → ((place : ℕ) × (slice_get numbers place ≡ Some number)) ⊎ ((place : ℕ) → slice_get numbers place ≢ Some number)
stands_or_not [] number = inr (λ place at. absurd cc)
stands_or_not (first ∷ numbers) number = by (eqb first number) refl (stands_or_not numbers number)
  where
    by : (b : Bool) → eqb first number ≡ b → ((place : ℕ) × (slice_get numbers place ≡ Some number)) ⊎ ((place : ℕ) → slice_get numbers place ≢ Some number)
        → ((place : ℕ) × (slice_get (first ∷ numbers) place ≡ Some number)) ⊎ ((place : ℕ) → slice_get (first ∷ numbers) place ≢ Some number)
    by true e rest = inl (0, ap (λ (n : ℕ). Some n) (eqb-true first number e))
    by false e rest = elim rest [
      | inl found ↦ inl (suc found.0, found.1)
      | inr none ↦ inr (nowhere none)
    ]
      where
        nowhere : ((place : ℕ) → slice_get numbers place ≢ Some number) → (place : ℕ) → slice_get (first ∷ numbers) place ≢ Some number
        nowhere none zero at = let same : first ≡ number = cc in eqb-false first number e same
        nowhere none (suc place) at = none place at

module _ {D : Type 0} (old mid : BayState D) (seats : List Seat) (sizes : mid.sizes ≡ old.sizes) (held : mid.held ≡ old.held) (keeps : Keeps old.may_hold mid.may_hold)
    (settled : AreSettled mid seats (length seats)) where
  -- A stop leaves nothing else of the slots that were synced.
  within : (s l : ℕ) (bytes : List ℕ) → mid.may_hold s l bytes → (synced old (slots_of seats)).may_hold s l bytes
  within s l bytes left = (
    keeps s l bytes left,
    λ place at.
        let found = in_map (λ (seat : Seat). seat.slot) seats place s at in
        let here = subst (λ (n : ℕ). IsSettled mid.may_hold mid.held n) found.2 (settled place found.0 (get_within seats found.0 place found.1) found.1) in
        here l bytes left ∙ ap (λ (image : Image). image s l) held,
  )

  -- What may be written once the slots were synced may be written now.
  pub may_all : (slots : List ℕ) (seat : ℕ → SlotChange) (updates : List Prepared) → MayChangeAll (synced old (slots_of seats)) slots seat updates → MayChangeAll mid slots seat updates
  may_all slots seat updates may = record {
    may_change = λ place slot at.
        get_again (seat place).mode (synced old (slots_of seats)) mid slot (seat place) sizes (ap (λ (image : Image). image slot) held) (λ l bytes left. within slot l bytes left) (may.may_change place slot at);
    are_prepared = may.are_prepared;
  }

  has_changed : (slot : ℕ) (now : ℕ → List ℕ) (update : Prepared) (one : SlotChange) → HasChanged (size_of mid slot) (mid.held slot) now update one → HasChanged (size_of old slot) (old.held slot) now update one
  has_changed slot now update one is = rw (sym sizes, sym held) is

  -- What is changed then is changed.
  pub changed_since : (new : BayState D) (slots : List ℕ) (seat : ℕ → SlotChange) (updates : List Prepared) (count : ℕ) → AreChanged mid new slots seat updates count
      → AreChanged (synced old (slots_of seats)) new slots seat updates count
  changed_since new slots seat updates count is = record {
    have_changed = λ place slot update below at also. has_changed slot (new.held slot) update (seat place) (is.have_changed place slot update below at also);
    are_settled = is.are_settled;
    others = λ s l none. is.others s l none ∙ ap (λ (image : Image). image s l) held;
    others_left = λ s l bytes none left. within s l bytes (is.others_left s l bytes none left);
  }

  -- What a stop leaves then is left.
  pub left_since : (slots : List ℕ) (seat : ℕ → SlotChange) (updates : List Prepared) (image : Image) → IsLeftChangingAll mid slots seat updates image
      → IsLeftChangingAll (synced old (slots_of seats)) slots seat updates image
  left_since slots seat updates image is = record {
    turn = is.turn;
    earlier = λ place slot update below at also. has_changed slot (image slot) update (seat place) (is.earlier place slot update below at also);
    here = λ slot update at also.
        let one : IsGetting (seat is.turn).mode (size_of old slot) (old.held slot) (image slot) update (seat is.turn) = rw (sym sizes, sym held) (is.here slot update at also) in
        one;
    later = λ place slot l behind at. is.later place slot l behind at ∙ ap (λ (one : Image). one slot l) held;
    others = λ s l none. within s l (image s l) (is.others s l none);
  }

  -- What a stop may leave behind a call that went on from there and was cut short.
  pub leaves_since : (new : BayState D) (slots : List ℕ) (seat : ℕ → SlotChange) (updates : List Prepared)
      → ((image : Image) → IsLeft new.may_hold image → IsLeft mid.may_hold image ⊎ IsLeftChangingAll mid slots seat updates image)
      → LeavesSynced old new (slots_of seats) slots seat updates
  leaves_since new slots seat updates each = inr (λ image left. elim (each image left) [
    | inl before ↦ inl (λ s l. within s l (image s l) (before s l))
    | inr changing ↦ inr (left_since slots seat updates image changing)
  ])

-- Where all is changed that was to be, a stop leaves of the slots that were synced before what they hold.
pub settled_since : {D : Type 0} (old new : BayState D) (seats : List Seat) (slots : List ℕ) (seat : ℕ → SlotChange) (updates : List Prepared)
    → AreChanged (synced old (slots_of seats)) new slots seat updates (length slots) → AreSettled new seats (length seats)
settled_since old new seats slots seat updates is place one below at l bytes left = elim (stands_or_not slots one.slot) [
  | inl found ↦ is.are_settled found.0 one.slot (get_within slots one.slot found.0 found.1) found.1 l bytes left
  | inr none ↦
      let was = is.others_left one.slot l bytes (λ k within. none k) left in
      was.1 place (mapped_at (λ (s : Seat). s.slot) seats place one at) ∙ sym (is.others one.slot l (λ k within. none k))
]
