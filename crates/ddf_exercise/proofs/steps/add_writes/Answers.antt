use Rattle.std.proofs.Common.{◌≡◌, ◌∙◌, ◌+◌, ◌-◌, ◌++◌, ◌∷◌, [], ap, List, ℕ}
use Rattle.ddf_exercise.specs.Draws.{behind_fills, next_fill}
use Rattle.ddf_exercise.specs.Steps.{write_steps}
use Rattle.ddf_exercise.specs.declared.draws.Fill.{Fill}
use Rattle.ddf_exercise.specs.declared.steps.Step.{Step}
use Rattle.ddf_exercise.specs.declared.steps.Step.TheVariants.{Write}
use Rattle.ddf_exercise.proofs.Listing.{one_more, state_more}
use Rattle.ddf_exercise.proofs.steps.add_writes.Goals as goal

pub loop-preserved : goal.loop-preserved
loop-preserved c =
    let left = c.args.rounds - (c.loop.counter + 1) in
    let pushed : c.push.new.self.items ≡ c.loop.steps.items ++ Write (next_fill c.loop.draws.state) ∷ [] =
    c.in_ok-push.ensures.items ∙ ap (λ (fill : Fill). c.loop.steps.items ++ Write fill ∷ []) c.fill.ensures.fill in
    record {
      steps = ap (λ (items : List Step). items ++ write_steps left c.fill.new.self.state) pushed
          ∙ ap (λ (state : ℕ). (c.loop.steps.items ++ Write (next_fill c.loop.draws.state) ∷ []) ++ write_steps left state) c.fill.ensures.state
          ∙ one_more c.loop.steps.items c.args.rounds c.loop.counter c.loop.draws.state c.loop-test.true ∙ c.loop.invariant.steps;
      state = ap (behind_fills left) c.fill.ensures.state ∙ state_more c.args.rounds c.loop.counter c.loop.draws.state c.loop-test.true ∙ c.loop.invariant.state;
    }
