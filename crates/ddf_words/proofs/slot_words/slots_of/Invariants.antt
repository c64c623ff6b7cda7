use Rattle.std.proofs.Common.{take}
use Rattle.ddf_words.specs.Words.{words_of, AreSlotWords}
use Rattle.ddf_words.proofs.slot_words.slots_of.Given as goal

abbrev pub invariant-loop-place : goal.invariant-loop-place
invariant-loop-place l = AreSlotWords l.slots.items (take l.place (words_of l.words))
