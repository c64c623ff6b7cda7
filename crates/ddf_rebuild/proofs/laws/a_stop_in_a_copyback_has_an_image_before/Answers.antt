use Rattle.ddf_rebuild.specs.Filling.{IsFilled}
use Rattle.ddf_rebuild.proofs.Kept.{image_under}
use Rattle.ddf_rebuild.proofs.laws.a_stop_in_a_copyback_has_an_image_before.Goals as goal

pub returns : goal.returns
returns g c = λ v element slot start held image left but. image_under (IsFilled v element slot start) (g.B.Bay.disks c.args.bay.now).may_hold held image left but
