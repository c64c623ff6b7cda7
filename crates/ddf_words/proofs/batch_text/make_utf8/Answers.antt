use Rattle.ddf_words.proofs.Texts.{read_ascii}
use Rattle.ddf_words.proofs.batch_text.make_utf8.Goals as goal

pub returns-then-not-is_text : goal.returns-then-not-is_text
returns-then-not-is_text c = rw c.make_ascii.ensures (read_ascii c.args.bytes.now (c.is_text.ensures.no c.if-not-is_text.true))
