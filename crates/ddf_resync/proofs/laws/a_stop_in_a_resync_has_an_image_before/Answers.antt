use Rattle.ddf_resync.proofs.Leaves.{stop_before}
use Rattle.ddf_resync.proofs.laws.a_stop_in_a_resync_has_an_image_before.Goals as goal

pub returns : goal.returns
returns g c = λ v first image told among.
    stop_before v g.B.Bay.tells first (g.B.Bay.disks c.args.bay.now).may_hold (g.B.Bay.disks c.args.bay.now).held image ((g.met.B.Bay.told c.args.bay.now).held told) among
