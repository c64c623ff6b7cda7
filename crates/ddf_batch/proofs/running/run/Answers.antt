use Rattle.std.proofs.Common.{◌≡◌, ℕ, List, Option, sym, subst}
use Rattle.ddf_config.specs.declared.refusal.Refusal.TheVariants.{Words}
use Rattle.ddf_text.specs.Refusal.{refusal_line}
use Rattle.ddf_words.specs.Words.{Word, GoWrongAt, images_of, words_of}
use Rattle.ddf_answer.specs.Call.{answer_of}
use Rattle.ddf_answer.specs.Tells.{EndsWith}
use Rattle.ddf_words.specs.Batch.{AskForBatch, IsOrder, IsServed}
use Rattle.ddf_words.specs.declared.batch_order.Order.{Order}
use Rattle.ddf_batch.specs.Batch.{IsBatchRun, point}
use Rattle.ddf_command.proofs.Endings.{done_nothing, one_place}
use Rattle.ddf_batch.proofs.running.run.Goals as goal

pub returns-in-Ok-Batch-clause-batch : goal.returns-in-Ok-Batch-clause-batch
returns-in-Ok-Batch-clause-batch g c = λ group asks.
    let order : AskForBatch (words_of c.args.words.now) c.in-Ok-Batch.group = subst (λ (order : Order). IsOrder (words_of c.args.words.now) order) c.in-Ok-Batch.field-0-is c.in-Ok-Batch.ensures in
    let ran : List Word → Option (List ℕ) → Type 0 = λ images named.
    IsBatchRun g.B.Bay.tells g.B.Bay.disks g.K.Sink.tells c.args.stamp named images g.S.Source.tells (g.S.Source.input c.args.source.now) (g.S.Source.input c.batch.new.source)
    (point c.args.bay.now (g.K.Sink.output c.args.sink.now)) (point c.batch.new.bay (g.K.Sink.output c.batch.new.sink)) c.batch.result in
    subst (λ (named : Option (List ℕ)). ran (images_of (words_of c.args.words.now)) named) (sym (order.alone group asks))
    (subst (λ (images : List Word). ran images c.in-Ok-Batch.group) c.image_paths.ensures c.batch.ensures.run)

pub returns-in-Ok-Wrong-clause-wrong_words : goal.returns-in-Ok-Wrong-clause-wrong_words
returns-in-Ok-Wrong-clause-wrong_words g c = λ place wrong.
    let here : GoWrongAt IsServed (words_of c.args.words.now) c.in-Ok-Wrong.place = subst (λ (order : Order). IsOrder (words_of c.args.words.now) order) c.in-Ok-Wrong.field-0-is c.in-Ok-Wrong.ensures in
    let same : c.in-Ok-Wrong.place ≡ place = one_place IsServed (words_of c.args.words.now) c.in-Ok-Wrong.place place here wrong in
    let ends : ℕ → Type 0 = λ p. EndsWith 2 (refusal_line (Words p)) (answer_of g.K.Sink.tells (g.K.Sink.output c.args.sink.now) (g.K.Sink.output c.refuse_words.new.sink) c.refuse_words.result) in
    subst ends same (rw (← c.in-Ok-Wrong.place-is) c.refuse_words.ensures.ends)

pub returns-in-Err-clause-done : goal.returns-in-Err-clause-done
returns-in-Err-clause-done g c = λ asked is. rw c.code.ensures (done_nothing _ _ _ _ _ _ _ asked.group asked.command)
