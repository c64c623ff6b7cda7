use Rattle.std.proofs.Common.{◌≡◌, ◌∙◌, ◌≤◌, ℕ, List, length, sym, subst, arith}
use Rattle.std.specs.Prelude.{IsTrue}
use Rattle.std.specs.List.{list_all}
use Rattle.ddf_answer.specs.Status.{code_of}
use Rattle.ddf_exercise.specs.Steps.{all_steps, fits}
use Rattle.ddf_exercise.specs.Taking.{AreTaken}
use Rattle.ddf_exercise.specs.declared.steps.Step.{Step}
use Rattle.ddf_exercise.proofs.Fitting.{all_fit, all_long}
use Rattle.ddf_exercise.proofs.ReadBack.{read_through}
use Rattle.ddf_exercise.proofs.exercising.exercised.Goals as goal

pub take_all-status-requires-clause-few : goal.take_all-status-requires-clause-few
take_all-status-requires-clause-few c = let long = all_long c.args.seed c.args.rounds in
    subst (λ (some : List Step). length some ≤ 1024) (sym (c.as_slice.ensures.value ∙ c.in-Ok.ensures)) (omega (arith, long, c.requires.few))

pub take_all-status-requires-clause-fit : goal.take_all-status-requires-clause-fit
take_all-status-requires-clause-fit c = subst (λ (some : List Step). IsTrue (list_all fits some)) (sym (c.as_slice.ensures.value ∙ c.in-Ok.ensures)) (all_fit c.args.seed c.args.rounds)

pub read_back-requires-clause-few : goal.read_back-requires-clause-few
read_back-requires-clause-few c = let long = all_long c.args.seed c.args.rounds in
    subst (λ (some : List Step). length some ≤ 1024) (sym (c.as_slice-2.ensures.value ∙ c.in-Ok.ensures)) (omega (arith, long, c.requires.few))

pub read_back-requires-clause-fit : goal.read_back-requires-clause-fit
read_back-requires-clause-fit c = subst (λ (some : List Step). IsTrue (list_all fits some)) (sym (c.as_slice-2.ensures.value ∙ c.in-Ok.ensures)) (all_fit c.args.seed c.args.rounds)

pub returns : goal.returns
returns c =
    let steps = all_steps c.args.seed c.args.rounds in
    let done : code_of c.take_all-status.result ≡ 0 = sym c.code.ensures ∙ c.if-code-ne0.false in
    let some_taken = subst (λ (some : List Step). AreTaken c.args.stamp.now 0 some c.args.bay.now c.take_all-status.new.bay (code_of c.take_all-status.result))
    (c.as_slice.ensures.value ∙ c.in-Ok.ensures) c.take_all-status.ensures.taken in
    let taken = subst (λ (code : ℕ). AreTaken c.args.stamp.now 0 steps c.args.bay.now c.take_all-status.new.bay code) done some_taken in
    read_through c.args.stamp.now c.args.seed c.args.rounds c.args.bay.now c.take_all-status.new.bay c.read_back.new.bay taken c.as_slice-2.result.now c.read_back.result
    (c.as_slice-2.ensures.value ∙ c.in-Ok.ensures) (c.read_back.ensures c.args.stamp.now c.new_guid-group.ensures)
