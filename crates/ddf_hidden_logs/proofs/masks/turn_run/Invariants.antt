use Rattle.std.proofs.Common.{◌≡◌, ◌+◌, ◌<◌, ◌≤◌, ℕ, [], get_or}
use Rattle.ddf_hidden_logs.specs.Masks.{turned_by}
use Rattle.ddf_hidden_logs.proofs.masks.turn_run.Given as goal

abbrev pub invariant-loop-sector : goal.invariant-loop-sector
invariant-loop-sector l = record {
  at : l.at ≡ l.lba + l.sector-index;
  done : (k : ℕ) → k < l.sector-index → get_or l.sectors k [] ≡ turned_by l.mask (l.lba + k) (get_or l.initial.sectors k []);
  rest : (k : ℕ) → l.sector-index ≤ k → get_or l.sectors k [] ≡ get_or l.initial.sectors k [];
}
