-- A run of a rebuild, by what the calls promise that it makes.
use Rattle.std.proofs.Common.{◌≡◌, ℕ, false, List, Option, None, Some, Result, Err, inl, inr, subst}
use Rattle.ddf_bay.specs.State.{BayState}
use Rattle.ddf_cells.specs.Touching.{GoesBetween}
use Rattle.ddf_seats.specs.Group.{GroupValue}
use Rattle.ddf_recovery.specs.Ready.{ReadyValue}
use Rattle.ddf_answer.specs.declared.failure.Failure.{Failure}
use Rattle.ddf_write_commands.proofs.Arrays.{goes_then}
use Rattle.ddf_rebuild_command.specs.declared.planning.Filling.{Filling}
use Rattle.ddf_rebuild_command.specs.Filled.{CanFill, GoesFilling, IsFillFault, rounds_in}
use Rattle.ddf_rebuild_command.specs.Opened.{GoesOpening, IsOpened, steps_before}
use Rattle.ddf_rebuild_command.specs.Run.{IsFillRun, IsRun, ready_behind}

module _ {B : Type 0} (disks : B → BayState B) (tells : Type 0) (old new : BayState B) (found : GroupValue) (ready : ReadyValue) (filling : Filling) (middle : B)
    (opens : GoesOpening tells old (disks middle) found (steps_before filling.begins ready)) (mid_found : GroupValue) (failure : Failure) where
  -- What is said of the rows, and of what is ready behind the first steps.
  abbrev Opens : ReadyValue → Type 0
  Opens mid_ready = IsOpened tells old (disks middle) found (steps_before filling.begins ready) mid_found mid_ready

  abbrev Goes : List ℕ → ReadyValue → Type 0
  Goes rows mid_ready = GoesFilling tells (disks middle) new filling.view filling.target filling.from (rounds_in rows mid_ready.steps) mid_found mid_ready false

  abbrev Failed : List ℕ → ReadyValue → Type 0
  Failed rows mid_ready =
      (end : ℕ) → CanFill (disks middle).sizes mid_found.seats filling.view filling.target end filling.from rows
      → IsFillFault tells (disks middle) new filling.view filling.target filling.from (rounds_in rows mid_ready.steps) mid_found mid_ready end failure

  pub fill_failed : (rows : List ℕ) → rows ≡ filling.rows → (mid_ready : ReadyValue) → mid_ready ≡ ready_behind filling ready → Opens mid_ready → Goes rows mid_ready → Failed rows mid_ready
      → IsFillRun disks tells old new found ready filling (Err failure)
  fill_failed rows rows_are mid_ready ready_is opened goes failed = record {
    middle = middle;
    opens = opens;
    opened_found = mid_found;
    opened = subst Opens ready_is opened;
    fills = subst (Goes filling.rows) ready_is (subst (λ (all : List ℕ). Goes all mid_ready) rows_are goes);
    outcome = subst (Failed filling.rows) ready_is (subst (λ (all : List ℕ). Failed all mid_ready) rows_are failed);
  }

-- No count falls in a run.
pub run_goes : {B : Type 0} (disks : B → BayState B) (tells : Type 0) (old new : BayState B) (found : GroupValue) (ready : ReadyValue) (filling : Option Filling) (outcome : Result ℕ Failure)
    → IsRun disks tells old new found ready filling outcome → GoesBetween old new
run_goes disks tells old new found ready None outcome run = run.opens.goes
run_goes disks tells old new found ready (Some filling) outcome (inl run) = goes_then old (disks run.middle) new run.opens.goes run.fills.goes
run_goes disks tells old new found ready (Some filling) outcome (inr none) = none.opens.goes
