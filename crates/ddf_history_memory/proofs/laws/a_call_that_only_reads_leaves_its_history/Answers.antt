use Rattle.ddf_history_memory.proofs.Calls.{reads_cut, reads_history}
use Rattle.ddf_history_memory.proofs.laws.a_call_that_only_reads_leaves_its_history.Goals as goal

pub returns-clause-ends : goal.returns-clause-ends
returns-clause-ends c = λ group past old exit history well reads. reads_history group past old exit history well reads

pub returns-clause-cut : goal.returns-clause-cut
returns-clause-cut c = λ group past old exit cut image history well reads was_left is_cut. reads_cut group past old exit history well reads cut image was_left is_cut
