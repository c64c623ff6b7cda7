use Rattle.std.proofs.Common.{◌∙◌, ◌+◌, refl, arith}
use Rattle.std.proofs.lemmas.Result.{err_from_is_err_and}
use Rattle.ddf_array.specs.Volume.{capacity}
use Rattle.ddf_cells.specs.Touching.{IsTouchedSlot}
use Rattle.ddf_cells.proofs.WriteSteps.{writes_start, writes_then}
use Rattle.ddf_resync.specs.Resyncing.{MayResync}
use Rattle.ddf_resync.specs.Several.{copied_cells}
use Rattle.ddf_resync.proofs.Copied.{copied_start, copied_then, noted_then}
use Rattle.ddf_resync.proofs.SeveralCells.{cells_none}
use Rattle.ddf_resync.proofs.Stops.{asks_then, block_since, failed_before, failed_since}
use Rattle.ddf_resync.proofs.copying.copy_all.Goals as goal

pub loop-block-init : goal.loop-block-init
loop-block-init g c =
    let v = c.args.view.now in
    let old = g.B.Bay.disks c.args.bay.now in
    let none = cells_none v in
    record {
      inside = omega arith;
      writes = writes_start (MayResync v g.B.Bay.tells old.held) g.B.Bay.tells old c.args.touched.now;
      copied = λ tells. copied_start v _ old.held 0;
      noted = λ tells b i one above below several at. absurd (omega (arith, below));
      unfailed = refl;
      asks = record { asked = omega (arith, none); written = omega (arith, none) };
    }

pub copy_first-requires-clause-fits : goal.copy_first-requires-clause-fits
copy_first-requires-clause-fits g c = rw c.loop-block.invariant.writes.same_sizes c.requires.fits

pub returns-in_err-block-clause-writes : goal.returns-in_err-block-clause-writes
returns-in_err-block-clause-writes g c =
    let old = g.B.Bay.disks c.args.bay.now in
    writes_then (MayResync c.args.view.now g.B.Bay.tells old.held) g.B.Bay.tells c.loop-block.invariant.writes (c.in_err-block.ensures.writes old.held (λ tells. (c.loop-block.invariant.copied tells).later))

pub returns-in_err-block-clause-asks : goal.returns-in_err-block-clause-asks
returns-in_err-block-clause-asks g c =
    let v = c.args.view.now in
    asks_then 0 (copied_cells v c.loop-block.block) (copied_cells v (capacity v)) c.loop-block.invariant.asks c.in_err-block.ensures.most

pub returns-in_err-block-clause-cause : goal.returns-in_err-block-clause-cause
returns-in_err-block-clause-cause g c =
    let p = err_from_is_err_and c.from_residual.result c.from_residual.ensures.1 in
    let old = g.B.Bay.disks c.args.bay.now in
    let May = MayResync c.args.view.now g.B.Bay.tells old.held in
    rw (p.1, p.2) (block_since May May g.B.Bay.tells c.loop-block.invariant.writes (c.in_err-block.ensures.writes old.held (λ tells. (c.loop-block.invariant.copied tells).later)) c.args.view.now (IsTouchedSlot c.copy_first.new.touched) _ c.in_err-block.ensures.cause)

pub loop-block-preserved : goal.loop-block-preserved
loop-block-preserved g c =
    let v = c.args.view.now in
    let old = g.B.Bay.disks c.args.bay.now in
    let now = g.B.Bay.disks c.loop-block.bay in
    let new = g.B.Bay.disks c.copy_first.new.bay in
    let so_far = c.loop-block.invariant in
    let next = c.in_ok-block.ensures in
    let at = c.loop-block.block in
    let to = at + c.in_ok-block.field-0 in
    let May = MayResync v g.B.Bay.tells old.held in
    let writes = next.writes old.held (λ tells. (so_far.copied tells).later) in
    record {
      inside = omega (arith, next.within);
      writes = writes_then May g.B.Bay.tells so_far.writes writes;
      copied = λ tells.
          copied_then v old.held now.held new.held 0 at to (omega arith) (omega arith) (failed_before May May g.B.Bay.tells so_far.writes writes) (failed_since May May g.B.Bay.tells so_far.writes writes) (so_far.copied tells) (next.copied tells);
      noted = λ tells. noted_then v c.loop-block.touched c.copy_first.new.touched 0 at to writes.touched_up (so_far.noted tells) (next.noted tells);
      unfailed = next.unfailed ∙ so_far.unfailed;
      asks = asks_then 0 (copied_cells v at) (copied_cells v to) so_far.asks next.asks;
    }
