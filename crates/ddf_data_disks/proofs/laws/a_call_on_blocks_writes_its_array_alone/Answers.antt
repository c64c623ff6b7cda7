use Rattle.ddf_data_disks.proofs.Calls.{by_rebuild, by_resync, by_write}
use Rattle.ddf_data_disks.proofs.laws.a_call_on_blocks_writes_its_array_alone.Goals as goal

pub returns-clause-write : goal.returns-clause-write
returns-clause-write g c = λ old new volume known sizes told settled start sectors held adds.
    by_write (g.B.Bay.disks old) (g.B.Bay.disks new) volume known sizes told settled start sectors held adds

pub returns-clause-resync : goal.returns-clause-resync
returns-clause-resync g c = λ old new volume known sizes told settled tells held adds.
    by_resync (g.B.Bay.disks old) (g.B.Bay.disks new) volume known sizes told settled g.B.Bay.tells tells held adds

pub returns-clause-rebuild : goal.returns-clause-rebuild
returns-clause-rebuild g c = λ old new volume known sizes told settled element position from to held adds.
    by_rebuild (g.B.Bay.disks old) (g.B.Bay.disks new) volume known sizes told settled element position from to held adds
