use Rattle.std.proofs.Common.{◌≡◌, ⊎_elim, ◌+◌, ◌-◌, ◌<◌, ◌≤◌, subst, arith}
use Rattle.std.proofs.lemmas.Bool.{cases_lt, not-false, not-true}
use Rattle.ddf_bay.specs.Sectors.{Image}
use Rattle.ddf_read.proofs.OnlyReading.{only_reads_then}
use Rattle.ddf_resync.specs.Agreeing.{CopyAgrees, IsStep}
use Rattle.ddf_resync.proofs.Failing.{step_bad, step_good}
use Rattle.ddf_resync.proofs.copies.copies_agree.Goals as goal

pub some_agree-requires-clause-fits : goal.some_agree-requires-clause-fits
some_agree-requires-clause-fits g c = rw c.loop-at.invariant.reads.reads.same_sizes c.requires.fits

pub returns-then-not-step-clause-agree : goal.returns-then-not-step-clause-agree
returns-then-not-step-clause-agree g c = λ tells.
    let v = c.args.view.now in
    let part = c.args.part.now in
    let old = g.B.Bay.disks c.args.bay.now in
    let at = c.loop-at.at in
    let step = c.in_ok-step.step in
    let here = subst (λ (image : Image). IsStep step.0 step.1 (c.args.count - at) (λ k. CopyAgrees v image c.args.element part c.args.position (c.args.sector + at + k))) c.loop-at.invariant.reads.reads.same_held (c.in_ok-step.ensures.agree tells) in
    let bad = step_bad (λ k. CopyAgrees v old.held c.args.element part c.args.position (c.args.sector + at + k)) step.0 step.1 (c.args.count - at) (not-true step.0 c.if-not-step.true) here in
    let same : c.args.sector + (at + bad.0) ≡ c.args.sector + at + bad.0 = omega arith in
    (at + bad.0, (omega (arith, bad.1.0), λ agrees. bad.1.1 (subst (λ n. CopyAgrees v old.held c.args.element part c.args.position n) same agrees)))

pub loop-at-preserved : goal.loop-at-preserved
loop-at-preserved g c =
    let v = c.args.view.now in
    let part = c.args.part.now in
    let old = g.B.Bay.disks c.args.bay.now in
    let at = c.loop-at.at in
    let step = c.in_ok-step.step in
    record {
      inside = omega (arith, c.in_ok-step.ensures.within, c.loop-at-test.true);
      reads = only_reads_then c.loop-at.invariant.reads c.in_ok-step.ensures.reads;
      agree = λ tells k below.
          let here = subst (λ (image : Image). IsStep step.0 step.1 (c.args.count - at) (λ k. CopyAgrees v image c.args.element part c.args.position (c.args.sector + at + k))) c.loop-at.invariant.reads.reads.same_held (c.in_ok-step.ensures.agree tells) in
          let good = step_good (λ k. CopyAgrees v old.held c.args.element part c.args.position (c.args.sector + at + k)) step.0 step.1 (c.args.count - at) (not-false step.0 c.if-not-step.false) here in
          ⊎_elim (λ (earlier : k < at). c.loop-at.invariant.agree tells k earlier)
          (λ (later : at ≤ k).
          let same : c.args.sector + at + (k - at) ≡ c.args.sector + k = omega arith in
          subst (λ n. CopyAgrees v old.held c.args.element part c.args.position n) same (good.2 (k - at) (omega (arith, below, later))))
          (cases_lt k at);
    }
