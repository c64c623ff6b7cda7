use Rattle.std.proofs.Common.{arith}
use Rattle.ddf_bay.specs.Finding.{noted}
use Rattle.ddf_bay.proofs.Finding.{finds_settled, within_settled}
use Rattle.ddf_bay.specs.LoggedLaws.{whole_sync}
use Rattle.ddf_bay.proofs.log.Log.settle.Goals as goal

pub invariant_of-self : goal.invariant_of-self
invariant_of-self c = record {
  fits = omega (arith, c.settle_all.ensures.len, c.settle_all.ensures.capacity, c.args.self.now.fits);
  few = omega (arith, c.settle_all.ensures.len, c.args.self.now.few);
  spare = omega (arith, c.settle_all.ensures.len, c.args.self.now.spare);
  finds = rw c.settle_all.ensures.items (finds_settled (noted c.args.self.now.index) c.args.slot c.args.now c.args.self.now.logged.items c.args.self.now.finds);
  whole = rw c.settle_all.ensures.items (whole_sync c.args.slot c.args.now c.args.self.now.logged.items c.args.self.now.whole);
  within = rw c.settle_all.ensures.items (within_settled (noted c.args.self.now.index) c.args.slot c.args.now c.args.self.now.logged.items c.args.self.now.within);
}
