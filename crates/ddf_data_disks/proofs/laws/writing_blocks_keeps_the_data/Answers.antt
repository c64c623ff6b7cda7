use Rattle.ddf_data_disks.proofs.Blocks.{once_it_is, while_writing}
use Rattle.ddf_data_disks.proofs.laws.writing_blocks_keeps_the_data.Goals as goal

pub returns-clause-interrupted : goal.returns-clause-interrupted
returns-clause-interrupted g c = λ group past floor found small end on guid volume promises allowed view known promised all writable start sectors image are among.
    while_writing group past (g.B.Bay.disks c.args.bay.now) found end floor small on guid volume view known promises allowed promised all start sectors writable image are among

pub returns-clause-done : goal.returns-clause-done
returns-clause-done g c = λ group past floor found small end on guid volume promises allowed view known promised all writable start sectors image are among written.
    once_it_is group past (g.B.Bay.disks c.args.bay.now) found end floor small on guid volume view known promises allowed promised all start sectors writable image are among written
