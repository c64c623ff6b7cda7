-- What is ready of a join.
use Rattle.std.specs.Prelude.{List}
use Rattle.ddf_config.specs.declared.seat.Seat.{Seat}
use Rattle.ddf_steps.specs.Ready.{ReadyStep}

-- the step with the updates of its disks, and the seats of the disks that join
pub record JoinValue : Type 0 where
  pub one : ReadyStep
  pub joining : List Seat
