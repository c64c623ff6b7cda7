use Rattle.std.proofs.Common.{◌≡◌, fold, take}
use Rattle.ddf_seal.specs.Crc.{byte_step}
use Rattle.ddf_seal.proofs.crc.after_words.Given as goal

abbrev pub invariant-loop-word : goal.invariant-loop-word
invariant-loop-word l = l.register ≡ fold (fold byte_step) l.fn.register (take l.word-index l.words)
