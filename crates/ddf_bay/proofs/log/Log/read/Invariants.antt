use Rattle.std.proofs.Common.{◌≡◌, ℕ, ◌+◌, ◌<◌, [], get_or}
use Rattle.ddf_bay.specs.Logged.{held_of}
use Rattle.ddf_bay.proofs.log.Log.read.Given as goal

abbrev pub invariant-loop-sector : goal.invariant-loop-sector
invariant-loop-sector l = record {
  at : l.at ≡ l.lba + l.sector-index;
  read : (k : ℕ) → k < l.sector-index → get_or l.into k [] ≡ held_of l.self.logged.items l.slot (l.lba + k);
}
