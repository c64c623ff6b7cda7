use Rattle.ddf_data_disks.proofs.Aside.{still_kept}
use Rattle.ddf_data_disks.proofs.laws.what_is_done_to_blocks_keeps_the_history.Goals as goal

pub returns : goal.returns
returns g c = λ group past found end floors guid volume view known before image left changes.
    still_kept group past (g.B.Bay.disks c.args.bay.now) found end floors guid volume view known before image left changes
