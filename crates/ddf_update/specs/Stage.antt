-- Writes that are made sure: of sectors that follow one another, and of the runs of a copy.
use Rattle.std.specs.Prelude.{◌≡◌, ◌⊎◌, ℕ, List}
use Rattle.ddf_bay.specs.State.{BayState}
use Rattle.ddf_bay.specs.Sectors.{Image, Outcomes, put_run}
use Rattle.ddf_bay.specs.Moments.{StopsLeave, Adds, IsAmong, IsSettled}
use Rattle.ddf_copy.specs.declared.run.Run.{Run}
use Rattle.ddf_copy.specs.Runs.{InRuns, put_runs}

-- a stop leaves in each sector what it might leave before, or there the bytes of one of the runs
abbrev pub AddsRuns : (old new : Outcomes) → (slot lba : ℕ) → List Run → Type 0
AddsRuns old new slot lba runs = (s l : ℕ) (bytes : List ℕ) → new s l bytes → old s l bytes ⊎ ((s ≡ slot) × InRuns lba runs l bytes)

-- each sector by itself is as before, or has the bytes of one of the runs
abbrev pub MixesRuns : (old new : Image) → (slot lba : ℕ) → List Run → Type 0
MixesRuns old new slot lba runs = (s l : ℕ) → (new s l ≡ old s l) ⊎ ((s ≡ slot) × InRuns lba runs l (new s l))

-- an image while runs are written: each sector by itself has bytes that a stop might leave before, or those of one of the runs
abbrev pub IsAmongRuns : Outcomes → (slot lba : ℕ) → List Run → Image → Type 0
IsAmongRuns may slot lba runs image = (s l : ℕ) → may s l (image s l) ⊎ ((s ≡ slot) × InRuns lba runs l (image s l))

-- Sectors were written to a slot and made sure, and nothing else is pending there.
pub record IsStaged {D : Type 0} (old new : BayState D) (slot lba : ℕ) (sectors : List (List ℕ)) : Type 0 where
  pub written : new.held ≡ put_run old.held slot lba sectors
  pub durable : IsSettled new.may_hold new.held slot
  pub left : Adds old.may_hold new.may_hold slot lba sectors
  pub any_moment : StopsLeave old new (IsAmong old.may_hold slot lba sectors)

-- So were the runs of a copy.
pub record AreStaged {D : Type 0} (old new : BayState D) (slot lba : ℕ) (runs : List Run) : Type 0 where
  pub written : new.held ≡ put_runs old.held slot lba runs
  pub durable : IsSettled new.may_hold new.held slot
  pub left : AddsRuns old.may_hold new.may_hold slot lba runs
  pub any_moment : StopsLeave old new (IsAmongRuns old.may_hold slot lba runs)
