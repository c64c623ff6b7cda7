use Rattle.std.proofs.Common.{◌∙◌, ℕ, ◌+◌, ◌*◌, List, replicate, None, ap, sym}
use Rattle.ddf_bay.specs.Memory.{blank}
use Rattle.ddf_exercise_life.proofs.Exercised.{has_lived}
use Rattle.ddf_exercise_life.proofs.living.lives.Goals as goal

pub returns : goal.returns
returns c = λ is.
    has_lived c.args.stamp c.args.seed c.args.rounds c.in-Ok.bay c.exercise-status.new.bay
    (c.in-Ok.ensures.state ∙ ap (λ (failing : List ℕ). blank (replicate 5 65536) (25000 + 2100 * c.args.rounds) failing None) c.new.ensures.items)
    (c.tells_left.ensures.0 is) _ c.exercise-status.ensures.done (sym c.code.ensures ∙ c.if-code-ne0.false)
