use Rattle.std.proofs.Common.{◌≡◌, ◌-◌, ◌≤◌}
use Rattle.ddf_array.specs.Volume.{capacity}
use Rattle.ddf_read.specs.Reading.{Failed}
use Rattle.ddf_cells.specs.Touching.{Writes}
use Rattle.ddf_resync.specs.Copying.{AreCopied, AreNoted, Asks}
use Rattle.ddf_resync.specs.Resyncing.{MayResync}
use Rattle.ddf_resync.specs.Several.{copied_cells}
use Rattle.ddf_resync.proofs.copying.copy_all.Given as goal

abbrev pub invariant-loop-block : goal.invariant-loop-block
invariant-loop-block g l =
    let B = g.B.Bay in
    let old = B.disks l.fn.bay in
    let now = B.disks l.bay in
    record {
      inside : l.block ≤ capacity l.view;
      writes : Writes (MayResync l.view B.tells old.held) B.tells old now l.fn.touched l.touched;
      copied : B.tells → AreCopied (Failed old now) l.view old.held now.held 0 l.block;
      noted : B.tells → AreNoted l.view l.touched 0 l.block;
      unfailed : now.failed_writes ≡ old.failed_writes;
      asks : Asks old now 0 (copied_cells l.view l.block);
    }

abbrev pub decreases-loop-block : goal.decreases-loop-block
decreases-loop-block g l = l.capacity - l.block
