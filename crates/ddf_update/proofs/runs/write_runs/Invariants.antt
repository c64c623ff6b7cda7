use Rattle.std.proofs.Common.{◌≡◌, ◌+◌, ◌≤◌, drop}
use Rattle.ddf_bay.specs.Moments.{GoesOn, StopsLeave}
use Rattle.ddf_copy.specs.Runs.{put_runs, sector_count}
use Rattle.ddf_update.specs.Stage.{AddsRuns, MixesRuns, IsAmongRuns}
use Rattle.ddf_update.proofs.runs.write_runs.Given as goal

abbrev pub invariant-loop-run : goal.invariant-loop-run
invariant-loop-run g l = record {
  written_runs : g.B.Bay.tells → put_runs (g.B.Bay.disks l.bay).held l.slot l.lba (drop l.run-index l.runs) ≡ put_runs (g.B.Bay.disks l.initial.bay).held l.slot l.lba l.runs;
  held : g.B.Bay.tells → MixesRuns (g.B.Bay.disks l.initial.bay).held (g.B.Bay.disks l.bay).held l.slot l.lba l.runs;
  left : AddsRuns (g.B.Bay.disks l.initial.bay).may_hold (g.B.Bay.disks l.bay).may_hold l.slot l.lba l.runs;
  any_moment : StopsLeave (g.B.Bay.disks l.initial.bay) (g.B.Bay.disks l.bay) (IsAmongRuns (g.B.Bay.disks l.initial.bay).may_hold l.slot l.lba l.runs);
  goes_on : GoesOn (g.B.Bay.disks l.initial.bay) (g.B.Bay.disks l.bay);
  told : (g.B.Bay.disks l.bay).tells_left → (g.B.Bay.disks l.initial.bay).tells_left;
  sizes : (g.B.Bay.disks l.bay).sizes ≡ (g.B.Bay.disks l.initial.bay).sizes;
  writes : (g.B.Bay.disks l.bay).failed_writes ≡ (g.B.Bay.disks l.initial.bay).failed_writes;
  reads : (g.B.Bay.disks l.bay).failed_reads ≡ (g.B.Bay.disks l.initial.bay).failed_reads;
  asked_up : (g.B.Bay.disks l.initial.bay).sectors_asked ≤ (g.B.Bay.disks l.bay).sectors_asked;
  asked : (g.B.Bay.disks l.bay).sectors_asked + sector_count (drop l.run-index l.runs) ≤ (g.B.Bay.disks l.initial.bay).sectors_asked + sector_count l.runs;
  written_up : (g.B.Bay.disks l.initial.bay).sectors_written ≤ (g.B.Bay.disks l.bay).sectors_written;
  written : (g.B.Bay.disks l.bay).sectors_written + sector_count (drop l.run-index l.runs) ≤ (g.B.Bay.disks l.initial.bay).sectors_written + sector_count l.runs;
  calls_up : (g.B.Bay.disks l.initial.bay).calls ≤ (g.B.Bay.disks l.bay).calls;
  calls : (g.B.Bay.disks l.bay).calls ≤ (g.B.Bay.disks l.initial.bay).calls + l.run-index;
}
