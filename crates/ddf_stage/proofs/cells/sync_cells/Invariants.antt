use Rattle.std.proofs.Common.{◌≡◌, ℕ, ◌<◌}
use Rattle.ddf_bay.specs.Moments.{IsSettled, Keeps, SpendsOver, StopsLeave}
use Rattle.ddf_bay.specs.Sectors.{IsLeft}
use Rattle.ddf_stage.specs.Staging.{HasCell}
use Rattle.ddf_stage.proofs.cells.sync_cells.Given as goal

abbrev pub invariant-loop-slot : goal.invariant-loop-slot
invariant-loop-slot g l =
    let old = g.B.Bay.disks l.initial.bay in
    let now = g.B.Bay.disks l.bay in
    record {
      settled : (slot : ℕ) → slot < l.slot → HasCell l.cells slot → IsSettled now.may_hold now.held slot;
      held : now.held ≡ old.held;
      left : Keeps old.may_hold now.may_hold;
      any_moment : StopsLeave old now (IsLeft old.may_hold);
      reads : now.failed_reads ≡ old.failed_reads;
      spends : SpendsOver old now 0 l.slot;
      writes : now.failed_writes ≡ old.failed_writes;
    }
