use Rattle.std.proofs.Common.{◌≡◌, ◌<◌, ◌+◌, ℕ, [], get_or, false}
use Rattle.ddf_hidden_logs.specs.Masks.{turns_by}
use Rattle.ddf_hidden_logs.proofs.masks.plain_length.Given as goal

abbrev pub invariant-loop-index : goal.invariant-loop-index
invariant-loop-index l = (k : ℕ) → k < l.index → turns_by l.mask (l.lba + k) (get_or l.sectors k []) ≡ false
