use Rattle.std.proofs.Common.{◌≡◌, ◌<◌, ℕ, false}
use Rattle.ddf_linux.specs.Pieces.{turns_at}
use Rattle.ddf_linux.proofs.kind.SlotKind.plain_length.Given as goal

abbrev pub invariant-loop-index : goal.invariant-loop-index
invariant-loop-index l = (k : ℕ) → k < l.index → turns_at l.self l.lba l.sectors k ≡ false
