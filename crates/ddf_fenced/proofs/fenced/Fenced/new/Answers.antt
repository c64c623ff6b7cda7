use Rattle.ddf_fenced.proofs.Counts.{own_first}
use Rattle.ddf_fenced.proofs.fenced.Fenced.new.Goals as goal

pub returns-clause-faults : goal.returns-clause-faults
returns-clause-faults g c = λ s is. (
  own_first c.args.shut.items 64 (g.B.Bay.disks c.args.inner).failed_reads s is,
  own_first c.args.shut.items 64 (g.B.Bay.disks c.args.inner).failed_writes s is,
)
