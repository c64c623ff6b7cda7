use Rattle.ddf_rewrite.proofs.Told.{filled_kind, filled_state}
use Rattle.ddf_rewrite.proofs.laws.a_changed_copy_tells_linux_which_disks_are_filled.Goals as goal

pub returns-clause-kind : goal.returns-clause-kind
returns-clause-kind c = λ old leaders config timestamp k entry can linux at current behind plain. filled_kind old leaders config timestamp can linux k entry at current behind plain

pub returns-clause-state : goal.returns-clause-state
returns-clause-state c = λ old leaders config timestamp k entry can linux at current behind. filled_state old leaders config timestamp can linux k entry at current behind
