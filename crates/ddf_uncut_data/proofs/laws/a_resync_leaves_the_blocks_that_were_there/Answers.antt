use Rattle.ddf_bytes.specs.Counts.{Rose}
use Rattle.ddf_uncut_data.proofs.Resync.{holds_resynced, holds_zeros, value_stays}
use Rattle.ddf_uncut_data.proofs.laws.a_resync_leaves_the_blocks_that_were_there.Goals as goal

pub returns-clause-values : goal.returns-clause-values
returns-clause-values c = λ old new volume before image known apart within whole are has.
    holds_resynced (λ slot. Rose (old slot) (new slot)) volume before image known apart within whole are has

pub returns-clause-same : goal.returns-clause-same
returns-clause-same c = λ old new volume before image known apart within whole are has.
    value_stays (λ slot. Rose (old slot) (new slot)) volume before image known apart within whole are has

pub returns-clause-zeros : goal.returns-clause-zeros
returns-clause-zeros c = λ old new volume before image known apart within whole are has.
    holds_zeros (λ slot. Rose (old slot) (new slot)) volume before image known apart within whole are has
