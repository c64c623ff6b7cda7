use Rattle.ddf_moving.proofs.Kept.{element_kept, kept_arrays, kept_disks, stays, unread_kept, vendor_kept}
use Rattle.ddf_moving.proofs.laws.what_a_moved_copy_keeps.Goals as goal

pub returns-clause-disks : goal.returns-clause-disks
returns-clause-disks c = λ old like new is fits. kept_disks old like new is fits

pub returns-clause-arrays : goal.returns-clause-arrays
returns-clause-arrays c = λ old like new is fits. kept_arrays old like new is fits

pub returns-clause-element : goal.returns-clause-element
returns-clause-element c = λ old like new k element is there at few. element_kept old like new k element is there at few

pub returns-clause-vendor : goal.returns-clause-vendor
returns-clause-vendor c = λ old like new k guid rest is there at same unnamed. vendor_kept old like new k guid rest is there at same unnamed

pub returns-clause-unread : goal.returns-clause-unread
returns-clause-unread c = λ old like new k fault kept is there at same. unread_kept old like new k fault kept is there at same

pub returns-clause-stays : goal.returns-clause-stays
returns-clause-stays c = λ old like new is. stays old like new is
