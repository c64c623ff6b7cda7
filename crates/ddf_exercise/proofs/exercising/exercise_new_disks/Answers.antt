use Rattle.std.proofs.Common.{◌∙◌, ℕ, ◌+◌, ◌*◌, List, replicate, None, refl, ap, inl, inr}
use Rattle.ddf_bay.specs.Memory.{blank}
use Rattle.ddf_exercise.proofs.exercising.exercise_new_disks.Goals as goal

pub returns-in-Ok-clause-done : goal.returns-in-Ok-clause-done
returns-in-Ok-clause-done g c = inl (
  c.in-Ok.bay,
  c.exercise.new.bay,
  c.in-Ok.ensures.state ∙ ap (λ (failing : List ℕ). blank (replicate 5 65536) (25000 + 2100 * c.args.rounds) failing None) c.new.ensures.items,
  c.exercise.ensures.done,
)

pub returns-in-Err-clause-done : goal.returns-in-Err-clause-done
returns-in-Err-clause-done g c = inr (refl, refl)
