use Rattle.std.proofs.Common.{◌∙◌, Some, ap, sym}
use Rattle.ddf_words.specs.Words.{words_of}
use Rattle.ddf_words.proofs.Batches.{is_asked_for, wrong_in}
use Rattle.ddf_words.proofs.batch_order.order_of.Goals as goal

pub returns-in-None : goal.returns-in-None
returns-in-None c = is_asked_for c.asked.result (words_of c.args.words.now) c.asked.ensures.ok (sym c.err.ensures.value ∙ c.in-None.is)

pub order_at-requires : goal.order_at-requires
order_at-requires c = c.asked.ensures.place c.in-Some-Place.place (wrong_in c.asked.result c.in-Some-Place.place (sym c.err.ensures.value ∙ c.in-Some-Place.is ∙ ap Some c.in-Some-Place.field-0-is))
