use Rattle.ddf_rewrite.proofs.Agreeing.{copies_agree}
use Rattle.ddf_history.proofs.Copies.{changed_is_full, changed_is_ours, changed_is_shown, changed_names}
use Rattle.ddf_history.proofs.laws.changed_copies_may_be_written.Goals as goal

pub returns-clause-names : goal.returns-clause-names
returns-clause-names c = λ old leaders config timestamp. changed_names old leaders config timestamp

pub returns-clause-are_ours : goal.returns-clause-are_ours
returns-clause-are_ours c = λ old leaders config timestamp. changed_is_ours old leaders config timestamp

pub returns-clause-show : goal.returns-clause-show
returns-clause-show c = λ old leaders config timestamp change can. changed_is_shown old leaders config timestamp change can

pub returns-clause-are_full : goal.returns-clause-are_full
returns-clause-are_full c = λ old leaders config timestamp change can. changed_is_full old leaders config timestamp change can

pub returns-clause-agree : goal.returns-clause-agree
returns-clause-agree c = λ old other leaders config timestamp names rebuilt room other_room. copies_agree old other leaders config timestamp names rebuilt room other_room
