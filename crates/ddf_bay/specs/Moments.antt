-- How a bay goes on from call to call: what stops on the way may leave, and what the calls cost.
use Rattle.std.specs.Prelude.{◌≡◌, ◌≢◌, ◌⊎◌, ℕ, ◌+◌, ◌≤◌, List}
use Rattle.ddf_bay.specs.Sectors.{Image, Outcomes, InRun}
use Rattle.ddf_bay.specs.State.{BayState}

-- A stop at some moment on the way from old to new leaves an image that has P. In new no other images are told since an
-- earlier moment than those that were told of it in old, and those.
pub record StopsLeave {D : Type 0} (old new : BayState D) (P : Image → Type 0) : Type 0 where
  pub later : old.moment ≤ new.moment
  pub since : (t : ℕ) (image : Image) → t ≤ old.moment → new.left_since t image → old.left_since t image ⊎ P image

-- Calls make nothing of the later bay that they might not make of the earlier one.
abbrev pub GoesOn : {D : Type 0} (old new : BayState D) → Type 0
GoesOn {D = D} old new = (bay : D) → new.leads_to bay → old.leads_to bay

-- What stops at the moments up to old might have left is told in new too, while it tells at all.
abbrev pub Remembers : {D : Type 0} (old new : BayState D) → Type 0
Remembers old new = new.tells_left → (t : ℕ) (image : Image) → t ≤ old.moment → old.left_since t image → new.left_since t image

-- At most so many sectors are asked for and written, in at most so many calls, and no such count falls.
pub record Costs {D : Type 0} (old new : BayState D) (sectors most : ℕ) : Type 0 where
  pub asked_up : old.sectors_asked ≤ new.sectors_asked
  pub asked : new.sectors_asked ≤ old.sectors_asked + sectors
  pub written_up : old.sectors_written ≤ new.sectors_written
  pub written : new.sectors_written ≤ old.sectors_written + sectors
  pub calls_up : old.calls ≤ new.calls
  pub calls_most : new.calls ≤ old.calls + most

-- What calls on one slot leave of sizes and counts: one kind of faults stays, and the other rises at most on this slot.
pub record Spends {D : Type 0} (kept rising : BayState D → ℕ → ℕ) (old new : BayState D) (slot sectors most : ℕ) : Type 0 where
  pub goes_on : GoesOn old new
  pub told : new.tells_left → old.tells_left
  pub same_sizes : new.sizes ≡ old.sizes
  pub same : kept new ≡ kept old
  pub rises : (s : ℕ) → rising old s ≤ rising new s
  pub other_slots : (s : ℕ) → s ≢ slot → rising new s ≡ rising old s
  pub costs : Costs old new sectors most

-- one read of a slot
abbrev pub SpendsReads : {D : Type 0} (old new : BayState D) → (slot most : ℕ) → Type 0
SpendsReads old new slot most = Spends (λ disks. disks.failed_writes) (λ disks. disks.failed_reads) old new slot 0 most

-- writes and syncs of a slot
abbrev pub SpendsWrites : {D : Type 0} (old new : BayState D) → (slot sectors most : ℕ) → Type 0
SpendsWrites old new slot sectors most = Spends (λ disks. disks.failed_reads) (λ disks. disks.failed_writes) old new slot sectors most

-- What calls on any slots leave of sizes and counts: no count of faults falls.
pub record SpendsOver {D : Type 0} (old new : BayState D) (sectors most : ℕ) : Type 0 where
  pub goes_on : GoesOn old new
  pub told : new.tells_left → old.tells_left
  pub same_sizes : new.sizes ≡ old.sizes
  pub reads_rise : (s : ℕ) → old.failed_reads s ≤ new.failed_reads s
  pub writes_rise : (s : ℕ) → old.failed_writes s ≤ new.failed_writes s
  pub costs : Costs old new sectors most

-- a stop leaves in no sector what it might not leave before
abbrev pub Keeps : Outcomes → Outcomes → Type 0
Keeps old new = (s l : ℕ) (bytes : List ℕ) → new s l bytes → old s l bytes

-- a stop leaves in each sector what it might leave before, or there the bytes of a run on a slot
abbrev pub Adds : Outcomes → Outcomes → ℕ → ℕ → List (List ℕ) → Type 0
Adds old new slot lba sectors = (s l : ℕ) (bytes : List ℕ) → new s l bytes → old s l bytes ⊎ ((s ≡ slot) × InRun lba sectors l bytes)

-- each sector by itself is as before, or has the bytes of a run on a slot
abbrev pub Mixes : Image → Image → ℕ → ℕ → List (List ℕ) → Type 0
Mixes old new slot lba sectors = (s l : ℕ) → (new s l ≡ old s l) ⊎ ((s ≡ slot) × InRun lba sectors l (new s l))

-- a stop leaves of the slot what it holds, and nothing else
abbrev pub IsSettled : Outcomes → Image → ℕ → Type 0
IsSettled may held slot = (l : ℕ) (bytes : List ℕ) → may slot l bytes → bytes ≡ held slot l

-- an image while a run is written to a slot: each sector by itself has bytes that a stop might leave before, or the run's
abbrev pub IsAmong : Outcomes → ℕ → ℕ → List (List ℕ) → Image → Type 0
IsAmong may slot lba sectors image = (s l : ℕ) → may s l (image s l) ⊎ ((s ≡ slot) × InRun lba sectors l (image s l))
