-- A copy that is written behind a gate: its header stands open while its sections change.
use Rattle.std.specs.Prelude.{◌≡◌, ◌≢◌, ◌⊎◌, ℕ, ◌≤◌, List, [], ◌∷◌}
use Rattle.ddf_bay.specs.State.{BayState}
use Rattle.ddf_bay.specs.Sectors.{Image, Outcomes, put_run, IsLeft}
use Rattle.ddf_bay.specs.Moments.{StopsLeave, IsSettled}
use Rattle.ddf_copy.specs.declared.run.Run.{Run}
use Rattle.ddf_update.specs.declared.gate.Gate.{Gate}
use Rattle.ddf_copy.specs.Runs.{HasCopy, IsInCopy, put_runs}

-- outside these sectors of a slot a stop leaves what it might leave before
abbrev pub KeepsOutside : (old new : Outcomes) → (slot : ℕ) → (ℕ → Type 0) → Type 0
KeepsOutside old new slot IsThere = (s l : ℕ) (bytes : List ℕ) → new s l bytes → old s l bytes ⊎ ((s ≡ slot) × IsThere l)

-- outside these sectors of a slot the bytes stay
abbrev pub StaysOutside : (old new : Image) → (slot : ℕ) → (ℕ → Type 0) → Type 0
StaysOutside old new slot IsThere = (s l : ℕ) → (new s l ≡ old s l) ⊎ ((s ≡ slot) × IsThere l)

-- What a stop leaves while a copy is written: the slot is as it might be left before, or the copy's header is open, or the
-- copy stands. All outside the copy is as it might be left before.
pub record IsGated (may : Outcomes) (slot : ℕ) (gate : Gate) (runs : List Run) (image : Image) : Type 0 where
  pub outside : (s l : ℕ) → may s l (image s l) ⊎ ((s ≡ slot) × IsInCopy gate.lba runs l)
  pub copy : ((l : ℕ) → may slot l (image slot l)) ⊎ (image slot gate.lba ≡ gate.opened) ⊎ HasCopy (image slot) gate.lba gate.closed runs

-- A copy was written behind its gate and made sure.
pub record IsCopyWritten {D : Type 0} (old new : BayState D) (slot : ℕ) (gate : Gate) (runs : List Run) : Type 0 where
  pub written : (s l : ℕ) → new.held s l ≡ put_run (put_runs old.held slot gate.lba runs) slot gate.lba (gate.closed ∷ []) s l
  pub durable : IsSettled new.may_hold new.held slot
  pub left : (s l : ℕ) (bytes : List ℕ) → new.may_hold s l bytes → old.may_hold s l bytes ⊎ ((s ≡ slot) × IsInCopy gate.lba runs l)
  pub any_moment : StopsLeave old new (IsGated old.may_hold slot gate runs)

-- ---- both copies

-- the sectors of a copy are as they were
abbrev pub IsUntouched : (before now : ℕ → List ℕ) → (lba : ℕ) → List Run → Type 0
IsUntouched before now lba runs = (l : ℕ) → IsInCopy lba runs l → now l ≡ before l

-- a copy is as it was, or its header is open, or it is the new one
abbrev pub IsPartly : (before now : ℕ → List ℕ) → Gate → List Run → Type 0
IsPartly before now gate runs = IsUntouched before now gate.lba runs ⊎ (now gate.lba ≡ gate.opened) ⊎ HasCopy now gate.lba gate.closed runs

-- no copy shares a sector with the other
abbrev pub AreBothApart : (first second : Gate) → List Run → Type 0
AreBothApart first second runs = (l : ℕ) → IsInCopy first.lba runs l → IsInCopy second.lba runs l → ⊥

-- What a stop leaves of the sectors of a slot while its two copies are written, one after the other: the second changes only
-- once the first is there.
pub record IsUpdating (before : ℕ → List ℕ) (first second : Gate) (runs : List Run) (now : ℕ → List ℕ) : Type 0 where
  pub outside : (l : ℕ) → (now l ≡ before l) ⊎ IsInCopy first.lba runs l ⊎ IsInCopy second.lba runs l
  pub copies : (IsPartly before now first runs × IsUntouched before now second.lba runs)
      ⊎ (HasCopy now first.lba first.closed runs × IsPartly before now second runs)

-- Other slots are as they might be left before, and this one has so much of the update.
pub record IsLeftUpdating (may : Outcomes) (held : Image) (slot : ℕ) (first second : Gate) (runs : List Run) (image : Image) : Type 0 where
  pub other_slots : (s l : ℕ) → s ≢ slot → may s l (image s l)
  pub here : IsUpdating (held slot) first second runs (image slot)

-- Both copies were written and made sure.
pub record AreBothWritten {D : Type 0} (old new : BayState D) (slot : ℕ) (first second : Gate) (runs : List Run) : Type 0 where
  pub other_slots : (s l : ℕ) → s ≢ slot → new.held s l ≡ old.held s l
  pub outside : (l : ℕ) → (new.held slot l ≡ old.held slot l) ⊎ IsInCopy first.lba runs l ⊎ IsInCopy second.lba runs l
  pub first_is : HasCopy (new.held slot) first.lba first.closed runs
  pub second_is : HasCopy (new.held slot) second.lba second.closed runs
  pub durable : IsSettled new.may_hold new.held slot
  pub left : (s l : ℕ) (bytes : List ℕ) → s ≢ slot → new.may_hold s l bytes → old.may_hold s l bytes

-- ---- a founding

-- What a stop leaves of the sectors of a slot while it gets its first copies and then its anchor: the anchor's sector is as
-- it was, or it is the new one and both copies are there.
pub record IsFounding (before : ℕ → List ℕ) (first second : Gate) (runs : List Run) (last : ℕ) (anchor : List ℕ) (now : ℕ → List ℕ) : Type 0 where
  pub outside : (l : ℕ) → (now l ≡ before l) ⊎ IsInCopy first.lba runs l ⊎ IsInCopy second.lba runs l ⊎ (l ≡ last)
  pub anchored : (now last ≡ before last)
      ⊎ ((now last ≡ anchor) × HasCopy now first.lba first.closed runs × HasCopy now second.lba second.closed runs)

-- Other slots are as they might be left before, and this one has so much of the founding.
pub record IsLeftFounding (may : Outcomes) (held : Image) (slot : ℕ) (first second : Gate) (runs : List Run) (last : ℕ) (anchor : List ℕ) (image : Image) : Type 0 where
  pub other_slots : (s l : ℕ) → s ≢ slot → may s l (image s l)
  pub here : IsFounding (held slot) first second runs last anchor (image slot)

-- A call made sure of a slot first, at a moment on the way: before it a stop leaves what it might have left at the
-- start, and from it on an image that has P.
pub record StopsLeaveSince {D : Type 0} (old new : BayState D) (P : Image → Type 0) : Type 0 where
  pub synced : ℕ
  pub from : old.moment ≤ synced
  pub until : synced ≤ new.moment
  pub any_moment : StopsLeave old new (λ image. IsLeft old.may_hold image ⊎ P image)
  pub since : (image : Image) → new.left_since synced image → P image

-- The slot got its copies and its anchor, all of it sure.
pub record IsFoundingWritten {D : Type 0} (old new : BayState D) (slot : ℕ) (first second : Gate) (runs : List Run) (last : ℕ) (anchor : List ℕ) : Type 0 where
  pub since : StopsLeaveSince old new (IsLeftFounding old.may_hold old.held slot first second runs last anchor)
  pub other_slots : (s l : ℕ) → s ≢ slot → new.held s l ≡ old.held s l
  pub outside : (l : ℕ) → (new.held slot l ≡ old.held slot l) ⊎ IsInCopy first.lba runs l ⊎ IsInCopy second.lba runs l ⊎ (l ≡ last)
  pub anchor_is : new.held slot last ≡ anchor
  pub first_is : HasCopy (new.held slot) first.lba first.closed runs
  pub second_is : HasCopy (new.held slot) second.lba second.closed runs
  pub durable : IsSettled new.may_hold new.held slot
  pub left : (s l : ℕ) (bytes : List ℕ) → s ≢ slot → new.may_hold s l bytes → old.may_hold s l bytes
