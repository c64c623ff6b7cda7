use Rattle.std.proofs.Common.{◌≡◌, ◌+◌, ◌++◌, length}
use Rattle.ddf_bay.specs.Logged.{run_logged}
use Rattle.ddf_bay.proofs.log.Log.push.Given as goal

abbrev pub invariant-loop-rest : goal.invariant-loop-rest
invariant-loop-rest l = record {
  items : l.self.logged.items ++ run_logged l.slot l.at l.now l.rest ≡ l.initial.self.logged.items ++ run_logged l.slot l.lba l.now l.sectors;
  room : l.self.room + length l.sectors ≡ l.initial.self.room + length l.rest;
  last : l.at + length l.rest ≡ l.lba + length l.sectors;
}

abbrev pub decreases-loop-rest : goal.decreases-loop-rest
decreases-loop-rest l = length l.rest
