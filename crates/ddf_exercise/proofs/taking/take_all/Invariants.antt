use Rattle.std.proofs.Common.{◌≡◌, ◌≤◌, ◌*◌, length}
use Rattle.ddf_bay.specs.Memory.{disks_of}
use Rattle.ddf_exercise.proofs.Taken.{SoFar}
use Rattle.ddf_exercise.proofs.taking.take_all.Given as goal

abbrev pub invariant-loop-step : goal.invariant-loop-step
invariant-loop-step l = record {
  so_far : SoFar l.stamp l.steps l.initial.bay l.bay l.sequence l.step-index;
  small : l.sequence ≤ 4 * l.step-index;
  five : length (disks_of l.bay).sizes ≡ 5;
}
