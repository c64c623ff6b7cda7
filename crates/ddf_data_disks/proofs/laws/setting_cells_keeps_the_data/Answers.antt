use Rattle.ddf_data_disks.proofs.Blocks.{while_rebuilding, while_resyncing}
use Rattle.ddf_data_disks.proofs.laws.setting_cells_keeps_the_data.Goals as goal

pub returns-clause-resync : goal.returns-clause-resync
returns-clause-resync g c = λ group past floor found small end on guid volume promises allowed view known promised all tells writable image are among.
    while_resyncing group past (g.B.Bay.disks c.args.bay.now) found end floor small on guid volume view known promises allowed promised all g.B.Bay.tells tells writable image are among

pub returns-clause-rebuild : goal.returns-clause-rebuild
returns-clause-rebuild g c = λ group past floor found small end on guid volume promises allowed view known promised all element position from to behind image are left.
    while_rebuilding group past (g.B.Bay.disks c.args.bay.now) found end floor small on guid volume view known promises allowed promised all element position from to behind image are left
