use Rattle.std.proofs.Common.{◌∙◌, inl, inr, ⊎_elim, refl, arith}
use Rattle.ddf_answer.specs.Call.{answer_of}
use Rattle.ddf_answer.specs.Status.{code_of}
use Rattle.ddf_exercise.proofs.Complete.{exercised_well}
use Rattle.ddf_exercise.proofs.ReadBack.{tells_line}
use Rattle.ddf_exercise.proofs.exercising.exercise.Goals as goal

pub returns-in-Ok-clause-done : goal.returns-in-Ok-clause-done
returns-in-Ok-clause-done g c = record {
  came_to = 0;
  exercised = c.in-Ok.ensures.0;
  answered = inl (
    refl,
    tells_line (answer_of g.K.Sink.tells (g.K.Sink.output c.args.sink.now) (g.K.Sink.output c.tell.new.sink) (code_of c.tell.result)) c.args.seed c.args.rounds
        c.in-Ok.found c.as_bytes.result.now (c.as_bytes.ensures.value ∙ c.deref.ensures.0 ∙ c.line_saying-line.ensures) c.in-Ok.ensures.1 c.tell.ensures.ends,
  );
}

pub returns-in-Ok-clause-told : goal.returns-in-Ok-clause-told
returns-in-Ok-clause-told g c = λ zero tells.
    let closes = tells_line (answer_of g.K.Sink.tells (g.K.Sink.output c.args.sink.now) (g.K.Sink.output c.tell.new.sink) (code_of c.tell.result)) c.args.seed c.args.rounds
    c.in-Ok.found c.as_bytes.result.now (c.as_bytes.ensures.value ∙ c.deref.ensures.0 ∙ c.line_saying-line.ensures) c.in-Ok.ensures.1 c.tell.ensures.ends in
    (closes.tells tells).whole (omega (arith, zero))

pub returns-in-Ok-clause-complete : goal.returns-in-Ok-clause-complete
returns-in-Ok-clause-complete g c = ⊎_elim inl (λ six. inr (inr six)) c.tell.ensures.ends.ends

pub returns-in-Err-clause-complete : goal.returns-in-Err-clause-complete
returns-in-Err-clause-complete g c =
    ⊎_elim (λ zero. absurd (c.in-Err.ensures.1 zero)) (λ five. inr (inl five))
    (exercised_well c.args.stamp c.args.seed c.args.rounds c.requires.few c.args.bay.now c.exercised.new.bay (code_of c.in-Err.status) c.requires.new c.in-Err.ensures.0)
