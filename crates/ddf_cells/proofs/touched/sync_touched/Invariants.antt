use Rattle.std.proofs.Common.{◌≡◌, ℕ, ◌<◌}
use Rattle.ddf_bay.specs.Moments.{IsSettled, Keeps, SpendsOver, StopsLeave}
use Rattle.ddf_bay.specs.Sectors.{IsLeft}
use Rattle.ddf_cells.specs.Touching.{IsTouchedSlot}
use Rattle.ddf_cells.proofs.touched.sync_touched.Given as goal

abbrev pub invariant-loop-slot : goal.invariant-loop-slot
invariant-loop-slot g l =
    let B = g.B.Bay in
    let old = B.disks l.fn.bay in
    let now = B.disks l.bay in
    record {
      settled : (slot : ℕ) → slot < l.slot → IsTouchedSlot l.touched slot → IsSettled now.may_hold now.held slot;
      held : now.held ≡ old.held;
      left : Keeps old.may_hold now.may_hold;
      any_moment : StopsLeave old now (IsLeft old.may_hold);
      reads : now.failed_reads ≡ old.failed_reads;
      unfailed : now.failed_writes ≡ old.failed_writes;
      spends : SpendsOver old now 0 l.slot;
    }
