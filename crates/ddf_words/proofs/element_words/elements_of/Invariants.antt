use Rattle.std.proofs.Common.{◌≤◌, take}
use Rattle.ddf_words.specs.Words.{words_of, SpellElements}
use Rattle.ddf_words.proofs.element_words.elements_of.Given as goal

abbrev pub invariant-loop-place : goal.invariant-loop-place
invariant-loop-place l = record {
  few : l.place ≤ 16;
  spell : SpellElements l.elements.items (take l.place (words_of l.words));
}
