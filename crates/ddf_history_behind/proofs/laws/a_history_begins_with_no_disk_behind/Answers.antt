use Rattle.ddf_history_behind.proofs.Near.{near_alone}
use Rattle.ddf_history_behind.proofs.laws.a_history_begins_with_no_disk_behind.Goals as goal

pub returns-clause-begins : goal.returns-clause-begins
returns-clause-begins c = λ group past config is. near_alone group past.changes config is

pub returns-clause-lost : goal.returns-clause-lost
returns-clause-lost c = λ group past slot near. near

pub returns-clause-back : goal.returns-clause-back
returns-clause-back c = λ group past slot near. near
