use Rattle.std.proofs.Common.{◌≡◌, ◌++◌, ◌-◌}
use Rattle.ddf_exercise.specs.Draws.{behind_fills}
use Rattle.ddf_exercise.specs.Steps.{write_steps}
use Rattle.ddf_exercise.proofs.steps.add_writes.Given as goal

abbrev pub invariant-loop : goal.invariant-loop
invariant-loop l = record {
  steps : l.steps.items ++ write_steps (l.rounds - l.counter) l.draws.state ≡ l.initial.steps.items ++ write_steps l.rounds l.initial.draws.state;
  state : behind_fills (l.rounds - l.counter) l.draws.state ≡ behind_fills l.rounds l.initial.draws.state;
}
