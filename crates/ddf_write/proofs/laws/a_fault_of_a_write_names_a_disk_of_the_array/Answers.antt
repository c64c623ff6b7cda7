use Rattle.ddf_cells.proofs.FirstSlots.{on_there}
use Rattle.ddf_write.proofs.FaultSlots.{stopped_on}
use Rattle.ddf_write.proofs.laws.a_fault_of_a_write_names_a_disk_of_the_array.Goals as goal

pub returns-clause-on : goal.returns-clause-on
returns-clause-on g c = λ volume start count slot known stopped. stopped_on volume known start count (g.B.Bay.disks c.args.old.now) (g.B.Bay.disks c.args.new.now) slot stopped

pub returns-clause-there : goal.returns-clause-there
returns-clause-there g c = λ volume start count slot known fits stopped.
    on_there (g.B.Bay.disks c.args.old.now).sizes volume fits slot (stopped_on volume known start count (g.B.Bay.disks c.args.old.now) (g.B.Bay.disks c.args.new.now) slot stopped)
