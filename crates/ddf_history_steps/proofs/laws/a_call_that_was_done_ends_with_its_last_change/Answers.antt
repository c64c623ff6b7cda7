use Rattle.ddf_history_steps.proofs.LastIssued.{over_last, over_length}
use Rattle.ddf_history_steps.proofs.laws.a_call_that_was_done_ends_with_its_last_change.Goals as goal

pub returns-clause-last : goal.returns-clause-last
returns-clause-last c = λ group past now readable found changes over. over_last group past readable found changes now over

pub returns-clause-none_behind : goal.returns-clause-none_behind
returns-clause-none_behind c = λ group past now readable found changes over. over_length group past readable found changes now over
