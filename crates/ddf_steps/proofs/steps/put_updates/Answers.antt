use Rattle.std.proofs.Common.{◌++◌, List, filter, subst, take}
use Rattle.ddf_plan.specs.Same.{same_flag}
use Rattle.ddf_seats.specs.declared.seated.Seated.{Seated}
use Rattle.ddf_seats.specs.Seated.{is_adopted}
use Rattle.ddf_steps.specs.Trying.{ArePrepared}
use Rattle.ddf_steps.proofs.Updates.{take_all, where_next}
use Rattle.ddf_steps.proofs.steps.put_updates.Goals as goal

pub loop-disk-preserved : goal.loop-disk-preserved
loop-disk-preserved c = λ before are.
    let i = c.loop-disk.disk-index in
    let test = λ (disk : Seated). same_flag c.args.adopted (is_adopted disk) in
    subst (λ (l : List Seated). ArePrepared l c.put_update.new.updates.items)
    (where_next test c.args.disks.now i c.disk-item.result c.loop-disk-test.true c.disk-item.is before)
    (c.in_ok-put_update.ensures (before ++ filter test (take i c.args.disks.now)) (c.loop-disk.invariant before are))

pub returns : goal.returns
returns c = λ before are.
    let test = λ (disk : Seated). same_flag c.args.adopted (is_adopted disk) in
    subst (λ (l : List Seated). ArePrepared (before ++ filter test l) c.loop-disk.updates.items) (take_all c.args.disks.now c.loop-disk.disk-index c.loop-disk-test.false) (c.loop-disk.invariant before are)
