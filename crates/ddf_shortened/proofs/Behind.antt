-- A write of sectors before some end leaves those from that end on.
use Rattle.std.proofs.Common.{◌≡◌, ◌≤◌, ℕ, ◌+◌, List, length, inl, inr, ⊎_elim, ap, ◌∙◌, arith}
use Rattle.std.specs.Prelude.{Result, Ok, Err, OnOk, OnErr}
use Rattle.ddf_bay.specs.Sectors.{InRun, put_run}
use Rattle.ddf_bay.specs.State.{BayState}
use Rattle.ddf_bay.specs.Moments.{StopsLeave, Adds, Mixes, IsAmong}
use Rattle.ddf_bay.proofs.Runs.{after, mixes_outside}
use Rattle.ddf_bay.specs.declared.bay.BayFailed.{BayFailed}
use Rattle.ddf_shortened.specs.ShortenedBays.{KeepsFrom}

module _ {D : Type 0} (old new : BayState D) (slot lba : ℕ) (run : List (List ℕ)) (end : ℕ) (before : lba + length run ≤ end) where
  -- no sector from there on is one of the run
  outside : {bytes : List ℕ} (l : ℕ) → end ≤ l → InRun lba run l bytes → ⊥
  outside l from is = omega (arith, before, from, is.below)

  held_by : (result : Result Unit BayFailed) → OnOk result (new.held ≡ put_run old.held slot lba run) → OnErr result (Mixes old.held new.held slot lba run)
      → (l : ℕ) → end ≤ l → new.held slot l ≡ old.held slot l
  held_by (Ok _) good bad l from =
      ap (λ image. image slot l) good ∙ after old.held slot lba run slot l (omega (arith, before, from))
  held_by (Err _) good bad l from = mixes_outside old.held new.held slot lba run bad l (inr (omega (arith, before, from)))

  pub keeps_from : {tells : Type 0} (result : Result Unit BayFailed)
      → (tells → OnOk result (new.held ≡ put_run old.held slot lba run))
      → (tells → OnErr result (Mixes old.held new.held slot lba run))
      → Adds old.may_hold new.may_hold slot lba run
      → StopsLeave old new (IsAmong old.may_hold slot lba run)
      → KeepsFrom tells old new slot end
  keeps_from result good bad adds stops = record {
    held = λ tells. held_by result (good tells) (bad tells);
    left = λ l bytes from left. ⊎_elim (λ was. was) (λ written. absurd (outside l from written.1)) (adds slot l bytes left);
    any_moment = record {
      later = stops.later;
      since = λ t image le left. ⊎_elim inl
          (λ among. inr (λ l from. ⊎_elim (λ was. was) (λ written. absurd (outside l from written.1)) (among slot l)))
          (stops.since t image le left);
    };
  }
