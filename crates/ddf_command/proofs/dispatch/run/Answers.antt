use Rattle.std.proofs.Common.{◌≡◌, ◌∙◌, inl, inr, ⊎_elim, ℕ, Err, sym, ap, subst}
use Rattle.ddf_words.specs.declared.command.Asked.{Asked}
use Rattle.ddf_words.specs.Words.{words_of, IsAccepted}
use Rattle.ddf_config.specs.declared.refusal.Refusal.TheVariants.{Words}
use Rattle.ddf_text.specs.Refusal.{refusal_line}
use Rattle.ddf_answer.specs.Call.{answer_of, input_of, work_of}
use Rattle.ddf_answer.specs.Tells.{EndsWith}
use Rattle.ddf_command.specs.Run.{IsDone}
use Rattle.ddf_command.proofs.Endings.{done_nothing, good_words, no_fault, one_place, same_asked, slot_rose, status_of, stream_rose}
use Rattle.ddf_command.proofs.dispatch.run.Goals as goal

-- ---- a command was asked for

pub returns-in-Ok-clause-wrong_words : goal.returns-in-Ok-clause-wrong_words
returns-in-Ok-clause-wrong_words g c = λ place wrong. absurd (wrong.refused (record { asked = c.in-Ok.asked; is_asked = c.in-Ok.ensures.ok }))

pub returns-in-Ok-clause-wrong_words_only : goal.returns-in-Ok-clause-wrong_words_only
returns-in-Ok-clause-wrong_words_only g c = λ e. absurd (good_words c.obey.ensures.ends (sym c.code.ensures ∙ e))

pub returns-in-Ok-clause-done : goal.returns-in-Ok-clause-done
returns-in-Ok-clause-done g c = λ asked is.
    let same : c.in-Ok.asked ≡ asked = same_asked c.asked.result c.in-Ok.asked asked c.in-Ok.is (c.asked.ensures.every asked is) in
    let work = work_of g.B.Bay.tells (g.B.Bay.disks c.args.bay.now) (g.B.Bay.disks c.obey.new.bay) in
    let input = input_of g.S.Source.tells (g.S.Source.input c.args.source.now) (g.S.Source.input c.obey.new.source) in
    subst (λ (one : Asked). IsDone work input c.args.stamp one (answer_of g.K.Sink.tells (g.K.Sink.output c.args.sink.now) (g.K.Sink.output c.obey.new.sink) c.code.result)) same
    (rw c.code.ensures c.obey.ensures.done)

pub returns-in-Ok-clause-status : goal.returns-in-Ok-clause-status
returns-in-Ok-clause-status g c = rw c.code.ensures (status_of c.obey.ensures.ends)

pub returns-in-Ok-clause-unwritten : goal.returns-in-Ok-clause-unwritten
returns-in-Ok-clause-unwritten g c = rw c.code.ensures c.obey.ensures.ends.unwritten

pub returns-in-Ok-clause-stays : goal.returns-in-Ok-clause-stays
returns-in-Ok-clause-stays g c = λ no_write. c.obey.ensures.ends.stays (no_write c.in-Ok.asked c.in-Ok.ensures.ok)

pub returns-in-Ok-clause-disk_fault : goal.returns-in-Ok-clause-disk_fault
returns-in-Ok-clause-disk_fault g c = λ e. slot_rose c.obey.ensures.ends (sym c.code.ensures ∙ e)

pub returns-in-Ok-clause-stream_fault : goal.returns-in-Ok-clause-stream_fault
returns-in-Ok-clause-stream_fault g c = λ e. elim (stream_rose c.obey.ensures.ends (sym c.code.ensures ∙ e)) [
  | inl output ↦ inl output
  | inr input ↦ inr (record { asked = c.in-Ok.asked; is_asked = c.in-Ok.ensures.ok; takes = input.0 }, input.1)
]

pub returns-in-Ok-clause-source : goal.returns-in-Ok-clause-source
returns-in-Ok-clause-source g c = λ none. c.obey.ensures.source (none c.in-Ok.asked c.in-Ok.ensures.ok)

pub returns-in-Ok-clause-complete : goal.returns-in-Ok-clause-complete
returns-in-Ok-clause-complete g c = λ asked is none good read.
    let same : c.in-Ok.asked ≡ asked = same_asked c.asked.result c.in-Ok.asked asked c.in-Ok.is (c.asked.ensures.every asked is) in
    rw (c.code.ensures, ← same) (no_fault c.obey.ensures.ends none (λ rose. ⊎_elim good (λ input. (rw (← same) at read) input.0 input.1) rose))

-- ---- the words are no command's, or memory ran out

pub returns-in-Err-Place-clause-wrong_words : goal.returns-in-Err-Place-clause-wrong_words
returns-in-Err-Place-clause-wrong_words g c = λ place wrong.
    let here = c.asked.ensures.place c.in-Err-Place.place (c.in-Err-Place.is ∙ ap Err c.in-Err-Place.field-0-is) in
    let same : c.in-Err-Place.place ≡ place = one_place IsAccepted (words_of c.args.words.now) c.in-Err-Place.place place here wrong in
    let ends : ℕ → Type 0 = λ p. EndsWith 2 (refusal_line (Words p)) (answer_of g.K.Sink.tells (g.K.Sink.output c.args.sink.now) (g.K.Sink.output c.refuse_words.new.sink) c.refuse_words.result) in
    subst ends same (rw (← c.in-Err-Place.place-is) c.refuse_words.ensures.ends)

pub returns-in-Err-Place-clause-wrong_words_only : goal.returns-in-Err-Place-clause-wrong_words_only
returns-in-Err-Place-clause-wrong_words_only g c = λ e. (c.in-Err-Place.place, c.asked.ensures.place c.in-Err-Place.place (c.in-Err-Place.is ∙ ap Err c.in-Err-Place.field-0-is))

pub returns-in-Err-Place-clause-done : goal.returns-in-Err-Place-clause-done
returns-in-Err-Place-clause-done g c = λ asked is. absurd ((c.asked.ensures.place c.in-Err-Place.place (c.in-Err-Place.is ∙ ap Err c.in-Err-Place.field-0-is)).refused (record { asked = asked; is_asked = is }))

pub returns-in-Err-Place-clause-complete : goal.returns-in-Err-Place-clause-complete
returns-in-Err-Place-clause-complete g c = λ asked is none good read. absurd ((c.asked.ensures.place c.in-Err-Place.place (c.in-Err-Place.is ∙ ap Err c.in-Err-Place.field-0-is)).refused (record { asked = asked; is_asked = is }))

pub returns-in-Err-Memory-clause-done : goal.returns-in-Err-Memory-clause-done
returns-in-Err-Memory-clause-done g c = λ asked is. rw c.code-in-Err-Memory.ensures (done_nothing _ _ _ _ _ _ _ asked.group asked.command)
