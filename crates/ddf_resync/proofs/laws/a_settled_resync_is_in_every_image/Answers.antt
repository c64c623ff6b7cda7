use Rattle.ddf_read.specs.Reading.{Failed}
use Rattle.ddf_resync.proofs.Leaves.{settled_resynced}
use Rattle.ddf_resync.proofs.laws.a_settled_resync_is_in_every_image.Goals as goal

pub returns : goal.returns
returns g c = λ v before image known told settled left was.
    let new = g.B.Bay.disks c.args.new.now in
    settled_resynced v known new.may_hold new.held image settled left (Failed (g.B.Bay.disks c.args.old.now) new) before
    (λ s l. ((g.met.B.Bay.told c.args.new.now).whole s l (new.held s l) ((g.met.B.Bay.told c.args.new.now).held told s l)).size) was
