use Rattle.std.proofs.Common.{◌≡◌, ◌++◌, drop, map, take}
use Rattle.ddf_words.specs.Text.{ascii_of}
use Rattle.ddf_words.proofs.batch_text.make_ascii.Given as goal

abbrev pub invariant-loop-byte : goal.invariant-loop-byte
invariant-loop-byte l = l.bytes ≡ map ascii_of (take l.byte-index l.initial.bytes) ++ drop l.byte-index l.initial.bytes
