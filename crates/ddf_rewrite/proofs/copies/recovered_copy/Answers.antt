use Rattle.std.proofs.Common.{◌≡◌, sym, subst}
use Rattle.std.proofs.lemmas.Result.{IfOk-weaker}
use Rattle.ddf_copy.specs.Written.{CanBeCopy}
use Rattle.ddf_rewrite.specs.Before.{before}
use Rattle.ddf_rewrite.specs.Copies.{recovered_copy}
use Rattle.ddf_rewrite.proofs.Roomy.{recovery_can}
use Rattle.ddf_rewrite.proofs.Writable.{recovered_copy_can}
use Rattle.ddf_rewrite.proofs.copies.recovered_copy.Goals as goal

pub recovered_copy_over-requires-clause-fits : goal.recovered_copy_over-requires-clause-fits
recovered_copy_over-requires-clause-fits c =
    recovery_can c.args.old.now (before c.args.leaders.now) c.args.config.now c.args.timestamp c.requires.old c.requires.holdable c.requires.leaders c.requires.disks c.requires.members c.ranges.timestamp.fits c.requires.room

pub returns-clause-fits : goal.returns-clause-fits
returns-clause-fits c =
    recovery_can c.args.old.now (before c.args.leaders.now) c.args.config.now c.args.timestamp c.requires.old c.requires.holdable c.requires.leaders c.requires.disks c.requires.members c.ranges.timestamp.fits c.requires.room

pub returns-clause-writable : goal.returns-clause-writable
returns-clause-writable c =
    let old = c.args.old.now in
    let config = c.args.config.now in
    let leaders = before c.args.leaders.now in
    IfOk-weaker c.recovered_copy_over.result (λ copy. copy ≡ recovered_copy old leaders config c.args.timestamp) CanBeCopy
    (λ copy is. subst CanBeCopy (sym is) (recovered_copy_can old leaders config c.args.timestamp c.requires.old (returns-clause-fits c))) c.recovered_copy_over.ensures
