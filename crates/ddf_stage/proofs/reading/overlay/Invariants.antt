use Rattle.std.proofs.Common.{◌≡◌, ◌+◌, ◌*◌, ◌≤◌, drop}
use Rattle.ddf_bay.specs.Moments.{SpendsOver}
use Rattle.ddf_bay.specs.ReadsOnly.{ReadsOnly}
use Rattle.ddf_stage.specs.Laid.{first_open, most_reads}
use Rattle.ddf_stage.proofs.reading.overlay.Given as goal

abbrev pub invariant-loop-desk : goal.invariant-loop-desk
invariant-loop-desk g l =
    let old = g.B.Bay.disks l.fn.bay in
    let now = g.B.Bay.disks l.bay in
    record {
      rest : g.B.Bay.tells → first_open l.arrays old.held l.desks ≡ first_open l.arrays old.held (drop l.desk-index l.desks);
      reads : ReadsOnly old now;
      faults : now.failed_reads ≡ old.failed_reads;
      writes : now.failed_writes ≡ old.failed_writes;
      spends : SpendsOver old now 0 (2 * l.desk-index);
      shut : g.B.Bay.tells → now.calls + most_reads l.arrays old.held (drop l.desk-index l.desks) ≤ old.calls + most_reads l.arrays old.held l.desks;
    }
