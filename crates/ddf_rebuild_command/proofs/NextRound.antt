-- The round of a group's next step, by what the calls promise that fill its rows and write its step.
use Rattle.std.proofs.Common.{◌≡◌, ℕ, ◌≤◌, Bool, true, false, List, [], ◌∷◌, length, Option, arith}
use Rattle.ddf_bay.specs.State.{BayState}
use Rattle.ddf_array.specs.Volume.{Volume}
use Rattle.ddf_rebuild.specs.Rebuilding.{IsRebuildFault}
use Rattle.ddf_repair.specs.declared.first.Target.{Target}
use Rattle.ddf_read.specs.declared.fault.VolumeFault.{VolumeFault}
use Rattle.ddf_steps.specs.Committed.{slots_of}
use Rattle.ddf_seats.specs.Group.{GroupValue}
use Rattle.ddf_steps.specs.Ready.{ReadyStep}
use Rattle.ddf_recovery.specs.Ready.{ReadyValue}
use Rattle.ddf_answer.specs.declared.failure.Failure.{Failure}
use Rattle.ddf_read_commands.specs.Use.{failure_of_volume}
use Rattle.ddf_bay.specs.Told.{IsTold}
use Rattle.ddf_write_commands.proofs.Costs.{with_steps}
use Rattle.ddf_rebuild_command.specs.Filled.{AreFilled, CanFill, GoesFilling, IsFillFault, rounds_in}
use Rattle.ddf_rebuild_command.specs.Standing.{GoesNext, IsNextWritten, IsSlotFault, Stands}
use Rattle.ddf_rebuild_command.proofs.OneRound as one_round
use Rattle.ddf_rebuild_command.proofs.OneRound.{FillsRows}

module _ {D : Type 0} (tells : Type 0) (old middle : BayState D) (volume : Volume) (target : Target) (from row end : ℕ) (found : GroupValue)
    (can : CanFill old.sizes found.seats volume target end from (row ∷ [])) (recovery : Option ReadyStep) (done : Bool) (rows : FillsRows tells old middle volume target from row done) where
  -- Its rows failed.
  pub rows_failed : (steps : List ReadyStep) → 1 ≤ length steps → Stands tells old found (with_steps recovery steps)
      → GoesFilling tells old middle volume target from (rounds_in (row ∷ []) steps) found (with_steps recovery steps) false
  rows_failed [] many stands = absurd (omega (arith, many))
  rows_failed (one ∷ others) many stands = one_round.rows_failed tells old middle volume target from row end found can recovery one others stands done rows

  pub rows_fault : (steps : List ReadyStep) → 1 ≤ length steps → Stands tells old found (with_steps recovery steps) → (fault : VolumeFault)
      → IsRebuildFault old middle volume target.element target.position from row fault
      → IsFillFault tells old middle volume target from (rounds_in (row ∷ []) steps) found (with_steps recovery steps) row (failure_of_volume fault)
  rows_fault [] many stands fault is = absurd (omega (arith, many))
  rows_fault (one ∷ others) many stands fault is = one_round.rows_fault tells old middle volume target from row end found can recovery one others stands done rows fault is

  module _ (is_so : done ≡ true) where
    -- Behind them the next step can be written.
    pub stands_behind : (steps : List ReadyStep) → 1 ≤ length steps → Stands tells old found (with_steps recovery steps) → Stands tells middle found (with_steps recovery steps)
    stands_behind [] many stands = absurd (omega (arith, many))
    stands_behind (one ∷ others) many stands = one_round.stands_behind tells old middle volume target from row end found can recovery one others stands done rows is_so

    module _ (tells_old : IsTold old) (tells_middle : IsTold middle) (new : BayState D) (tells_new : IsTold new) (noted : Bool) where
      pub round_goes : (steps : List ReadyStep) → 1 ≤ length steps → Stands tells old found (with_steps recovery steps) → GoesNext tells middle new found (with_steps recovery steps) noted
          → GoesFilling tells old new volume target from (rounds_in (row ∷ []) steps) found (with_steps recovery steps) noted
      round_goes [] many stands next = absurd (omega (arith, many))
      round_goes (one ∷ others) many stands next =
          one_round.round_goes tells old middle volume target from row end found can recovery one others stands done rows is_so tells_old tells_middle new tells_new noted next

      pub round_filled : (steps : List ReadyStep) → 1 ≤ length steps → Stands tells old found (with_steps recovery steps) → GoesNext tells middle new found (with_steps recovery steps) noted
          → (now_found : GroupValue) (now_ready : ReadyValue) → IsNextWritten tells middle new found (with_steps recovery steps) now_found now_ready
          → AreFilled tells old new volume target from (rounds_in (row ∷ []) steps) found (with_steps recovery steps) now_found now_ready
      round_filled [] many stands next now_found now_ready written = absurd (omega (arith, many))
      round_filled (one ∷ others) many stands next now_found now_ready written =
          one_round.round_filled tells old middle volume target from row end found can recovery one others stands done rows is_so tells_old tells_middle new tells_new noted next now_found now_ready written

      pub round_fault : (steps : List ReadyStep) → 1 ≤ length steps → Stands tells old found (with_steps recovery steps) → GoesNext tells middle new found (with_steps recovery steps) noted
          → (failure : Failure) → IsSlotFault middle new (slots_of found.seats) failure
          → IsFillFault tells old new volume target from (rounds_in (row ∷ []) steps) found (with_steps recovery steps) row failure
      round_fault [] many stands next failure fault = absurd (omega (arith, many))
      round_fault (one ∷ others) many stands next failure fault =
          one_round.round_fault tells old middle volume target from row end found can recovery one others stands done rows is_so tells_old tells_middle new tells_new noted next failure fault
