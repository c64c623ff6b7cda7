use Rattle.std.proofs.Common.{◌∙◌, length, List, ℕ, sym, ap, arith}
use Rattle.ddf_answer.specs.Status.{code_of}
use Rattle.ddf_exercise.proofs.Taken.{taken_on, taken_stop}
use Rattle.ddf_exercise.proofs.taking.take_all.Goals as goal

pub returns-then-code-ne0-clause-taken : goal.returns-then-code-ne0-clause-taken
returns-then-code-ne0-clause-taken c =
    taken_stop c.args.stamp.now c.args.steps.now c.args.bay.now c.loop-step.bay c.loop-step.sequence c.loop-step.step-index c.loop-step.invariant.so_far _ c.try_step-status.new.bay
    c.rise-sequence.result (code_of c.try_step-status.result) c.loop-step-test.true c.rise-sequence.ensures.rise c.try_step-status.ensures.tried
    (λ done. c.if-code-ne0.true (c.code.ensures ∙ done))

pub loop-step-preserved : goal.loop-step-preserved
loop-step-preserved c =
    record {
      so_far = taken_on c.args.stamp.now c.args.steps.now c.args.bay.now c.loop-step.bay c.loop-step.sequence c.loop-step.step-index c.loop-step.invariant.so_far _ c.try_step-status.new.bay
          c.rise-sequence.result (code_of c.try_step-status.result) c.loop-step-test.true c.rise-sequence.ensures.rise c.try_step-status.ensures.tried (sym c.code.ensures ∙ c.if-code-ne0.false);
      small = omega arith;
      five = ap (λ (sizes : List ℕ). length sizes) c.try_step-status.ensures.same_sizes ∙ c.loop-step.invariant.five;
    }
