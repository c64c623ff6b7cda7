use Rattle.std.proofs.Common.{◌∙◌, length, ap, arith, subst, sym}
use Rattle.std.proofs.lemmas.Result.{IfErr-weaker, on_ok_weaker}
use Rattle.ddf_bay.specs.Sectors.{Image}
use Rattle.ddf_bay.proofs.Steps.{rose_since}
use Rattle.ddf_write.specs.Keeping.{AreTheirValues}
use Rattle.ddf_write.specs.Writing.{HasWritten, MayGive}
use Rattle.ddf_write.proofs.WriteEnds.{given_there, noted_written, written_there}
use Rattle.ddf_cells.proofs.Ends.{both_of_err, goes_end, held_end, left_end, moments_end, settled_end}
use Rattle.ddf_cells.proofs.WriteSteps.{none_touched}
use Rattle.ddf_write.proofs.write.write_all.Goals as goal

pub returns-clause-any_moment : goal.returns-clause-any_moment
returns-clause-any_moment g c = moments_end (MayGive c.args.view.now c.args.start c.args.from.now) g.B.Bay.tells c.in_ok-touched.ensures.writes (g.B.Bay.disks c.sync_touched.new.bay) c.sync_touched.ensures.left c.sync_touched.ensures.held c.sync_touched.ensures.any_moment

pub returns-clause-held : goal.returns-clause-held
returns-clause-held g c = held_end (MayGive c.args.view.now c.args.start c.args.from.now) g.B.Bay.tells c.in_ok-touched.ensures.writes (g.B.Bay.disks c.sync_touched.new.bay) c.sync_touched.ensures.left c.sync_touched.ensures.held

pub returns-clause-left : goal.returns-clause-left
returns-clause-left g c = left_end (MayGive c.args.view.now c.args.start c.args.from.now) g.B.Bay.tells c.in_ok-touched.ensures.writes (g.B.Bay.disks c.sync_touched.new.bay) c.sync_touched.ensures.left c.sync_touched.ensures.held

pub returns-clause-goes : goal.returns-clause-goes
returns-clause-goes g c = goes_end (MayGive c.args.view.now c.args.start c.args.from.now) g.B.Bay.tells c.in_ok-touched.ensures.writes (g.B.Bay.disks c.sync_touched.new.bay) c.sync_touched.ensures.left c.sync_touched.ensures.held c.sync_touched.ensures.spends

pub returns-clause-cause : goal.returns-clause-cause
returns-clause-cause g c =
    let w = c.in_ok-touched.ensures.writes in
    IfErr-weaker c.sync_touched.result _ _
    (λ slot both. (noted_written c.args.view.now c.requires.known c.args.start c.args.from.now g.B.Bay.tells w (none_touched 64) slot both.0, rose_since _ _ _ (w.writes_rise slot) both.1))
    (both_of_err c.sync_touched.result _ _ c.sync_touched.ensures.touched c.sync_touched.ensures.failed)

pub returns-clause-written : goal.returns-clause-written
returns-clause-written g c = λ tells.
    let old = g.B.Bay.disks c.args.bay.now in
    on_ok_weaker c.sync_touched.result
    (λ settled.
    subst (λ (f : Image). HasWritten c.args.view.now c.args.start c.args.from.now (AreTheirValues c.args.view.now old.held c.args.kept.now) f) (sym c.sync_touched.ensures.held) (c.in_ok-touched.ensures.written tells))
    c.sync_touched.ensures.settled

pub returns-clause-durable : goal.returns-clause-durable
returns-clause-durable g c = λ tells.
    let w = c.in_ok-touched.ensures.writes in
    on_ok_weaker c.sync_touched.result
    (λ synced slot written.
    let there = written_there c.args.view.now c.requires.known c.args.start c.args.from.now (g.B.Bay.disks c.args.bay.now).sizes c.requires.fits slot written in
    (rw w.same_sizes at synced) slot there (c.in_ok-touched.ensures.noted tells slot written))
    c.sync_touched.ensures.settled

pub returns-clause-settled : goal.returns-clause-settled
returns-clause-settled g c = λ tells.
    let v = c.args.view.now in
    let w = c.in_ok-touched.ensures.writes in
    on_ok_weaker c.sync_touched.result
    (λ synced slot settled.
    settled_end (MayGive v c.args.start c.args.from.now) g.B.Bay.tells w (g.B.Bay.disks c.sync_touched.new.bay) c.sync_touched.ensures.left c.sync_touched.ensures.held tells
    (given_there v c.requires.known c.args.start c.args.from.now (g.B.Bay.disks c.args.bay.now).sizes c.requires.fits) (rw w.same_sizes at synced) slot settled)
    c.sync_touched.ensures.settled

pub returns-clause-asked : goal.returns-clause-asked
returns-clause-asked g c = omega (arith, c.in_ok-touched.ensures.asked, c.sync_touched.ensures.spends.costs.asked)

pub returns-clause-sectors : goal.returns-clause-sectors
returns-clause-sectors g c = omega (arith, c.in_ok-touched.ensures.sectors, c.sync_touched.ensures.spends.costs.written)

pub returns-clause-calls : goal.returns-clause-calls
returns-clause-calls g c = λ none.
    let w = c.in_ok-touched.ensures.writes in
    let sizes = ap length w.same_sizes in
    omega (arith, c.in_ok-touched.ensures.calls none, c.sync_touched.ensures.spends.costs.calls_most, sizes)

pub returns-clause-unfailed : goal.returns-clause-unfailed
returns-clause-unfailed g c = on_ok_weaker c.sync_touched.result (λ same. same ∙ c.in_ok-touched.ensures.unfailed) c.sync_touched.ensures.unfailed

pub returns-clause-reads : goal.returns-clause-reads
returns-clause-reads g c = c.sync_touched.ensures.reads ∙ c.in_ok-touched.ensures.reads
