use Rattle.ddf_stage_promise.proofs.Steps.{loss_keeps, return_keeps}
use Rattle.ddf_stage_promise.proofs.laws.a_loss_keeps_what_is_staged.Goals as goal

pub returns-clause-loss : goal.returns-clause-loss
returns-clause-loss c = loss_keeps

pub returns-clause-back : goal.returns-clause-back
returns-clause-back c = return_keeps
