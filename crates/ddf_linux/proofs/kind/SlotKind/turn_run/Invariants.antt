use Rattle.std.proofs.Common.{◌≡◌, ◌+◌, ◌<◌, ◌≤◌, ℕ, [], get_or}
use Rattle.ddf_linux.specs.Kinds.{turn}
use Rattle.ddf_linux.proofs.kind.SlotKind.turn_run.Given as goal

abbrev pub invariant-loop-sector : goal.invariant-loop-sector
invariant-loop-sector l = record {
  at : l.at ≡ l.lba + l.sector-index;
  done : (k : ℕ) → k < l.sector-index → get_or l.sectors k [] ≡ turn l.self (l.lba + k) (get_or l.initial.sectors k []);
  rest : (k : ℕ) → l.sector-index ≤ k → get_or l.sectors k [] ≡ get_or l.initial.sectors k [];
}
