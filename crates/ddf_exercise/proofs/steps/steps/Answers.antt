use Rattle.ddf_exercise.proofs.Listing.{all_listed}
use Rattle.ddf_exercise.proofs.steps.steps.Goals as goal

pub returns : goal.returns
returns c = all_listed c.args.seed c.args.rounds _ _ _ _ _ _ _ _ _ _ c.new-draws.ensures c.in_ok-steps.ensures.items c.in_ok-add_writes.ensures.steps c.in_ok-add_writes.ensures.state
    c.in_ok-add_loss.ensures c.in_ok-add_writes-2.ensures.steps c.in_ok-add_writes-2.ensures.state c.in_ok-add_loss-2.ensures c.in_ok-add_writes-3.ensures.steps c.in_ok-push.ensures.items
