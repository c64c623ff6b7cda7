-- What the writing of a group's changes leaves of slots that are no seats'.
use Rattle.std.proofs.Common.{◌≡◌, ◌≢◌, ℕ, false, List, length, None, Some, inl, inr, sym, ◌∙◌}
use Rattle.std.proofs.lemmas.Bool.{false≢true}
use Rattle.std.specs.Prelude.{slice_get}
use Rattle.ddf_bay.specs.Moments.{StopsLeave}
use Rattle.ddf_bay.specs.ReadsOnly.{ReadsOnly}
use Rattle.ddf_bay.specs.State.{BayState}
use Rattle.ddf_bay.proofs.Steps.{stops_then, stops_weaken}
use Rattle.ddf_plan.specs.declared.change.Change.{Change}
use Rattle.ddf_update.specs.Changes.{AreChanged, IsLeftChangingAll, SlotChange}
use Rattle.ddf_update.specs.Group.{IsOneOf}
use Rattle.ddf_recovery.specs.Committed.{MayRecover, WasReadied, next_slots, next_updates, recovery_slots, recovery_updates}
use Rattle.ddf_steps.specs.Committed.{slots_of, synced}
use Rattle.ddf_seats.specs.Group.{GroupValue}
use Rattle.ddf_recovery.specs.Ready.{ReadyValue}
use Rattle.ddf_recovery.proofs.RecoveryWritten.{recovery_on_seats}
use Rattle.ddf_history_steps.specs.Kept.{is_slot}
use Rattle.ddf_history_steps.proofs.Slots.{slot_is}
use Rattle.ddf_group_commands.specs.GroupRead.{IsReadFrom}
use Rattle.ddf_group_commands.specs.Others.{LeavesOthers}
use Rattle.ddf_group_commands.proofs.Keeping.{MayLeave}
use Rattle.ddf_group_commands.proofs.Recovering.{rest_on_seats}

-- A call that only reads leaves every slot as before.
pub reads_beside : {D : Type 0} (old new : BayState D) (slots : List ℕ) → ReadsOnly old new → LeavesOthers old new slots
reads_beside old new slots reads = stops_weaken reads.any_moment (λ image left s l other. left s l)

-- What is left since the disks were read is left since the call's entry.
pub beside_since : {D : Type 0} (old middle new : BayState D) (slots : List ℕ) → ReadsOnly old middle → LeavesOthers middle new slots → LeavesOthers old new slots
beside_since old middle new slots reads beside =
    stops_then (stops_weaken reads.any_moment (λ image left s l other. left s l)) beside (λ image left s l other. reads.keeps s l (image s l) (left s l other))

-- A slot that is no seat's isn't among slots of seats.
pub not_among : (seats slots : List ℕ) → ((slot : ℕ) → IsOneOf slots slot → IsOneOf seats slot) → (s : ℕ) → is_slot seats s ≡ false → (place : ℕ) → slice_get slots place ≢ Some s
not_among seats slots on s other place at =
    let one = on s (record { place = place; is_there = at }) in
    false≢true (sym other ∙ slot_is seats one.place s one.is_there)

module _ {D : Type 0} (tells : Type 0) (old : BayState D) (found : GroupValue) (changes : List Change) (timestamp : ℕ) (ready : ReadyValue) (from : IsReadFrom tells old found)
    (was : WasReadied found changes timestamp ready) (may : MayRecover old found ready) (middle : BayState D) (moments : StopsLeave old middle (MayLeave old found ready may.seat)) where
  -- no other slot is recovered
  other_slot : (s : ℕ) → is_slot (slots_of found.seats) s ≡ false → (place : ℕ) → slice_get (recovery_slots ready) place ≢ Some s
  other_slot = not_among (slots_of found.seats) (recovery_slots ready) (recovery_on_seats found changes timestamp ready was)

  -- what recovery leaves of it
  pub recovery_beside : LeavesOthers old middle (slots_of found.seats)
  recovery_beside = stops_weaken moments (λ image one s l other. elim one [
    | inl left ↦ left s l
    | inr changing ↦ (changing.others s l (other_slot s other)).0
  ])

  module _ (first : AreChanged (synced old (slots_of found.seats)) middle (recovery_slots ready) may.seat (recovery_updates ready) (length (recovery_slots ready)))
      (seat : ℕ → SlotChange) (new : BayState D)
      (next : StopsLeave middle new (IsLeftChangingAll middle (next_slots (record { recovery = None; steps = ready.steps })) seat (next_updates (record { recovery = None; steps = ready.steps })))) where
    -- and what the step behind it leaves
    pub commit_beside : LeavesOthers old new (slots_of found.seats)
    commit_beside = stops_then recovery_beside next (λ image changing s l other.
        let left = changing.others s l (not_among (slots_of found.seats) (next_slots (record { recovery = None; steps = ready.steps })) (rest_on_seats tells old found changes timestamp ready from was) s other) in
        (first.others_left s l (image s l) (λ place below at. other_slot s other place at) left).0)
