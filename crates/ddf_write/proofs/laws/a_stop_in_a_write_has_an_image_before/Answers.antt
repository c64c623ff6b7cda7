use Rattle.ddf_write.proofs.WriteLeaves.{stop_before}
use Rattle.ddf_write.proofs.laws.a_stop_in_a_write_has_an_image_before.Goals as goal

pub returns : goal.returns
returns g c = λ volume start sectors image told among.
    stop_before volume start sectors (g.B.Bay.disks c.args.bay.now).may_hold (g.B.Bay.disks c.args.bay.now).held image ((g.met.B.Bay.told c.args.bay.now).held told) among
