use Rattle.std.proofs.Common.{◌≡◌, ◌-◌, ◌≤◌}
use Rattle.ddf_primary.specs.Cells.{depth_of}
use Rattle.ddf_cells.specs.CellSources.{HaveEqualCopies}
use Rattle.ddf_cells.specs.Touching.{Writes}
use Rattle.ddf_resync.specs.Copying.{Asks}
use Rattle.ddf_resync.specs.Setting.{AreNotedTo, AreRightTo, KeepsRight, SetsParity}
use Rattle.ddf_resync.proofs.setting.set_element.Given as goal

abbrev pub invariant-loop-sector : goal.invariant-loop-sector
invariant-loop-sector g l =
    let B = g.B.Bay in
    let old = B.disks l.fn.bay in
    let now = B.disks l.bay in
    record {
      inside : l.sector ≤ depth_of l.part.shape;
      writes : Writes (SetsParity l.view) B.tells old now l.fn.touched l.touched;
      set : B.tells → HaveEqualCopies l.view old.held → AreRightTo l.view now.held l.element l.sector;
      noted : AreNotedTo l.touched l.part l.sector;
      unfailed : now.failed_writes ≡ old.failed_writes;
      asks : Asks old now 0 l.sector;
      kept : B.tells → HaveEqualCopies l.view old.held → KeepsRight l.view old.held now.held;
    }

abbrev pub decreases-loop-sector : goal.decreases-loop-sector
decreases-loop-sector g l = l.depth - l.sector
