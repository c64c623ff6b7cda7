use Rattle.ddf_data_disks.proofs.Blocks.{once_resynced}
use Rattle.ddf_data_disks.proofs.laws.a_resynced_array_counts.Goals as goal

pub returns : goal.returns
returns g c = λ group past floor config small alone guid volume promises allowed view known promised all settled whole is image left are.
    once_resynced group past (g.B.Bay.disks c.args.bay.now) config floor small alone guid volume view known promises allowed promised all settled whole is image left are
