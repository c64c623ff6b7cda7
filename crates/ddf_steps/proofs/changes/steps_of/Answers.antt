use Rattle.std.proofs.Common.{List, Err, Ok, ◌+◌, sym, subst, arith}
use Rattle.std.specs.Prelude.{IfSome}
use Rattle.std.specs.Result.{result_map_both}
use Rattle.ddf_steps.specs.Ready.{ReadyStep}
use Rattle.ddf_steps.specs.Tried.{AreTried, IsTried, config_reached, disks_reached}
use Rattle.ddf_steps.specs.Trying.{Follows}
use Rattle.ddf_steps.proofs.Reached.{AreReached, reached_all, reached_fault, reached_next}
use Rattle.ddf_steps.proofs.Refused.{fault_passed}
use Rattle.ddf_steps.proofs.changes.steps_of.Goals as goal

pub returns-in_err-next-clause-tried : goal.returns-in_err-next-clause-tried
returns-in_err-next-clause-tried c =
    let fault = c.in_err-next.field-0.0 in
    let tried = subst (λ (steps : List ReadyStep). IsTried c.args.timestamp (config_reached c.args.config.now steps) (disks_reached c.args.disks.now steps) c.change-item.result (Err fault)) c.deref.ensures.value c.in_err-next.ensures.tried in
    subst (λ (result : _). AreTried c.args.timestamp c.args.config.now c.args.disks.now c.args.changes.now (result_map_both (λ steps. steps.items) (λ fault. fault) result)) (sym (fault_passed fault c.from_residual.result c.from_residual.ensures.1))
    (reached_fault c.args.timestamp c.args.config.now c.args.disks.now c.args.changes.now c.loop-change.change-index c.loop-change.steps.items c.change-item.result c.loop-change-test.true c.change-item.is c.loop-change.invariant fault tried)

pub loop-change-preserved : goal.loop-change-preserved
loop-change-preserved c =
    let next = c.in_ok-next.next in
    let tried = subst (λ (steps : List ReadyStep). IsTried c.args.timestamp (config_reached c.args.config.now steps) (disks_reached c.args.disks.now steps) c.change-item.result (Ok next)) c.deref.ensures.value c.in_ok-next.ensures.tried in
    let follows = subst (λ (steps : List ReadyStep). IfSome next (Follows (disks_reached c.args.disks.now steps))) c.deref.ensures.value c.in_ok-next.ensures.follows in
    subst (AreReached c.args.timestamp c.args.config.now c.args.disks.now c.args.changes.now (c.loop-change.change-index + 1)) (sym c.in_ok-push_next.ensures)
    (reached_next c.args.timestamp c.args.config.now c.args.disks.now c.args.changes.now c.loop-change.change-index c.loop-change.steps.items c.change-item.result c.loop-change-test.true c.change-item.is c.loop-change.invariant next tried follows)

pub returns-clause-tried : goal.returns-clause-tried
returns-clause-tried c =
    reached_all c.args.timestamp c.args.config.now c.args.disks.now c.args.changes.now c.loop-change.change-index c.loop-change.steps.items
    (omega (arith, c.loop-change-test.false, c.loop-change.auto.change-index-end)) c.loop-change.invariant
