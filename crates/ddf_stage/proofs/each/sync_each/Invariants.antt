use Rattle.std.proofs.Common.{◌≡◌, ℕ, ◌<◌, Some, slice_get}
use Rattle.ddf_bay.specs.Moments.{IsSettled, Keeps, SpendsOver, StopsLeave}
use Rattle.ddf_bay.specs.Sectors.{IsLeft}
use Rattle.ddf_stage.specs.declared.desk.Desk.{Desk}
use Rattle.ddf_stage.proofs.each.sync_each.Given as goal

abbrev pub invariant-loop-desk : goal.invariant-loop-desk
invariant-loop-desk g l =
    let old = g.B.Bay.disks l.initial.bay in
    let now = g.B.Bay.disks l.bay in
    record {
      settled : (k : ℕ) (desk : Desk) → k < l.desk-index → slice_get l.desks k ≡ Some desk → IsSettled now.may_hold now.held desk.slot;
      held : now.held ≡ old.held;
      left : Keeps old.may_hold now.may_hold;
      any_moment : StopsLeave old now (IsLeft old.may_hold);
      reads : now.failed_reads ≡ old.failed_reads;
      spends : SpendsOver old now 0 l.desk-index;
      writes : now.failed_writes ≡ old.failed_writes;
    }
