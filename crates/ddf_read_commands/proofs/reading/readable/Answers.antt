use Rattle.std.proofs.Common.{◌∙◌, Err, sym, subst}
use Rattle.std.proofs.lemmas.Result.{err_from_is_err_and}
use Rattle.ddf_recovery.specs.Recovery.{trusted_seats}
use Rattle.ddf_answer.specs.declared.failure.Failure.{Failure}
use Rattle.ddf_read_commands.specs.Read.{MayRead}
use Rattle.ddf_read_commands.proofs.ReadBlocks.{may_not_read, may_not_use, may_read}
use Rattle.ddf_read_commands.proofs.reading.readable.Goals as goal

pub returns-in_err-view-clause-may : goal.returns-in_err-view-clause-may
returns-in_err-view-clause-may c =
    let p = err_from_is_err_and c.from_residual.result c.from_residual.ensures.1 in
    rw (p.1, p.2) (may_not_use c.args.group.now.config (trusted_seats c.args.group.now) c.args.name.now c.args.start c.args.count _ c.in_err-view.ensures.may)

pub returns-in-None-clause-may : goal.returns-in-None-clause-may
returns-in-None-clause-may c =
    may_read c.args.group.now.config (trusted_seats c.args.group.now) c.args.name.now c.args.start c.args.count _ c.in_ok-view.ensures.may (sym c.read_refusal.ensures.value ∙ c.in-None.is)

pub returns-in-Some-clause-may : goal.returns-in-Some-clause-may
returns-in-Some-clause-may c =
    subst (λ (failure : Failure). MayRead c.args.group.now.config (trusted_seats c.args.group.now) c.args.name.now c.args.start c.args.count (Err failure)) (sym c.failure_of.ensures)
    (may_not_read c.args.group.now.config (trusted_seats c.args.group.now) c.args.name.now c.args.start c.args.count _ c.in_ok-view.ensures.may c.in-Some.fault (sym c.read_refusal.ensures.value ∙ c.in-Some.is))
