use Rattle.std.proofs.Common.{◌≡◌, take}
use Rattle.ddf_words.specs.Words.{words_of}
use Rattle.ddf_words.proofs.Names.{AreOthers}
use Rattle.ddf_words.proofs.name_words.names_of.Given as goal

abbrev pub invariant-loop-place : goal.invariant-loop-place
invariant-loop-place l = record {
  names : l.names.items ≡ take l.place (words_of l.words);
  are : AreOthers (take l.place (words_of l.words));
}
