use Rattle.std.proofs.Common.{take}
use Rattle.ddf_words.specs.Words.{words_of, AreImages}
use Rattle.ddf_words.proofs.words.image_count.Given as goal

abbrev pub invariant-loop-place : goal.invariant-loop-place
invariant-loop-place l = AreImages (take l.place (words_of l.words))
