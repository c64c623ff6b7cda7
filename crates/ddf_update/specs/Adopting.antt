-- A slot with copies of one group that gets those of another: its first copy, then its anchor, and then its second copy.
use Rattle.std.specs.Prelude.{◌≡◌, ◌≢◌, ◌⊎◌, ℕ, List}
use Rattle.ddf_bay.specs.State.{BayState}
use Rattle.ddf_bay.specs.Sectors.{Image, Outcomes}
use Rattle.ddf_bay.specs.Moments.{IsSettled}
use Rattle.ddf_copy.specs.declared.run.Run.{Run}
use Rattle.ddf_copy.specs.Runs.{HasCopy, IsInCopy}
use Rattle.ddf_update.specs.declared.gate.Gate.{Gate}
use Rattle.ddf_update.specs.Gate.{IsPartly, IsUntouched, StopsLeaveSince}

-- What a stop leaves of the sectors of the slot: the anchor's sector changes once the first copy is there, and the second copy once the
-- anchor is the new one.
pub record IsTakingOver (before : ℕ → List ℕ) (first second : Gate) (runs : List Run) (last : ℕ) (anchor : List ℕ) (now : ℕ → List ℕ) : Type 0 where
  pub outside : (l : ℕ) → (now l ≡ before l) ⊎ IsInCopy first.lba runs l ⊎ IsInCopy second.lba runs l ⊎ (l ≡ last)
  pub turns : (IsPartly before now first runs × IsUntouched before now second.lba runs × (now last ≡ before last))
      ⊎ (HasCopy now first.lba first.closed runs × (now last ≡ anchor) × IsPartly before now second runs)

-- Other slots are as they might be left before, and this one has so much of the adoption.
pub record IsLeftTakingOver (may : Outcomes) (held : Image) (slot : ℕ) (first second : Gate) (runs : List Run) (last : ℕ) (anchor : List ℕ) (image : Image) : Type 0 where
  pub other_slots : (s l : ℕ) → s ≢ slot → may s l (image s l)
  pub here : IsTakingOver (held slot) first second runs last anchor (image slot)

-- The slot has its anchor and both copies, all of it sure.
pub record IsAdoptionMade {D : Type 0} (old new : BayState D) (slot : ℕ) (first second : Gate) (runs : List Run) (last : ℕ) (anchor : List ℕ) : Type 0 where
  pub other_slots : (s l : ℕ) → s ≢ slot → new.held s l ≡ old.held s l
  pub outside : (l : ℕ) → (new.held slot l ≡ old.held slot l) ⊎ IsInCopy first.lba runs l ⊎ IsInCopy second.lba runs l ⊎ (l ≡ last)
  pub anchor_is : new.held slot last ≡ anchor
  pub first_is : HasCopy (new.held slot) first.lba first.closed runs
  pub second_is : HasCopy (new.held slot) second.lba second.closed runs
  pub durable : IsSettled new.may_hold new.held slot
  pub left : (s l : ℕ) (bytes : List ℕ) → s ≢ slot → new.may_hold s l bytes → old.may_hold s l bytes

-- So it is, and it was made sure of what it had before.
pub record IsAdoptionWritten {D : Type 0} (old new : BayState D) (slot : ℕ) (first second : Gate) (runs : List Run) (last : ℕ) (anchor : List ℕ) : Type 0 where
  pub made : IsAdoptionMade old new slot first second runs last anchor
  pub since : StopsLeaveSince old new (IsLeftTakingOver old.may_hold old.held slot first second runs last anchor)
