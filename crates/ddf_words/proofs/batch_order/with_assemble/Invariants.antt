use Rattle.std.proofs.Common.{◌≡◌, take}
use Rattle.ddf_words.specs.Words.{words_of}
use Rattle.ddf_words.proofs.batch_order.with_assemble.Given as goal

abbrev pub invariant-loop-word : goal.invariant-loop-word
invariant-loop-word l = words_of l.twin.items ≡ take l.word-index (words_of l.words)
