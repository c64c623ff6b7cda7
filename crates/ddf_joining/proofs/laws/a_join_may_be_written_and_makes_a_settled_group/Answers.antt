use Rattle.ddf_joining.proofs.JoinWritten.{join_lies, joined_anchored, joined_holds, joined_settled, may_join}
use Rattle.ddf_joining.proofs.laws.a_join_may_be_written_and_makes_a_settled_group.Goals as goal

pub returns-clause-may : goal.returns-clause-may
returns-clause-may g c = λ timestamp leaders group other join bay is holds. may_join timestamp leaders group other join is (g.B.Bay.disks bay) holds

pub returns-clause-holds : goal.returns-clause-holds
returns-clause-holds g c = λ timestamp leaders group other join old new is same_sizes holds may changed.
    joined_holds timestamp leaders group other join is (g.B.Bay.disks old) (g.B.Bay.disks new) same_sizes holds may changed

pub returns-clause-settled : goal.returns-clause-settled
returns-clause-settled g c = λ timestamp leaders group other join is. joined_settled timestamp leaders group other join is

pub returns-clause-lies : goal.returns-clause-lies
returns-clause-lies g c = λ timestamp leaders group other join sizes is have. join_lies timestamp leaders group other join is sizes have

pub returns-clause-anchored : goal.returns-clause-anchored
returns-clause-anchored g c = λ timestamp leaders group other join sizes is have. joined_anchored timestamp leaders group other join is sizes have
