use Rattle.std.proofs.Common.{◌≡◌, ◌∷◌, length, take}
use Rattle.ddf_words.specs.Words.{dashes, words_of}
use Rattle.ddf_words.specs.Lines.{parts_of}
use Rattle.ddf_words.proofs.batch_parts.parts.Given as goal

abbrev pub invariant-loop-part : goal.invariant-loop-part
invariant-loop-part l = record {
  can_next : (goal.iterator-loop-part).can_next l.part-iterator;
  is_finite : (goal.iterator-loop-part).is_finite l.part-iterator;
  words : words_of l.words.items ≡ dashes ∷ take (length l.yielded) (parts_of l.line);
}
