use Rattle.std.proofs.Common.{◌≡◌}
use Rattle.ddf_cells.specs.CellSources.{HaveEqualCopies}
use Rattle.ddf_cells.specs.Touching.{Writes}
use Rattle.ddf_resync.specs.Copying.{Asks}
use Rattle.ddf_resync.specs.Setting.{AreNotedIn, AreRightIn, SetsParity}
use Rattle.ddf_resync.specs.Several.{parity_cells}
use Rattle.ddf_resync.proofs.setting.set_all.Given as goal

abbrev pub invariant-loop-element : goal.invariant-loop-element
invariant-loop-element g l =
    let B = g.B.Bay in
    let old = B.disks l.fn.bay in
    let now = B.disks l.bay in
    record {
      writes : Writes (SetsParity l.view) B.tells old now l.fn.touched l.touched;
      noted : AreNotedIn l.view l.touched l.element;
      unfailed : now.failed_writes ≡ old.failed_writes;
      asks : Asks old now 0 (parity_cells l.view l.element);
      set : B.tells → HaveEqualCopies l.view old.held → AreRightIn l.view now.held l.element;
    }
