use Rattle.std.proofs.Common.{◌≡◌, None}
use Rattle.ddf_seats.specs.declared.seated.Seated.{Seated}
use Rattle.ddf_recovery.specs.Recovery.{full_mended}
use Rattle.ddf_seats.specs.Leading.{lags, leading}
use Rattle.ddf_seats.specs.Seated.{seated}
use Rattle.ddf_recovery.proofs.Mended.{can_mend_all, made_copies, mending_follows, mending_room, where_kept}
use Rattle.ddf_recovery.proofs.recovering.mending_step.Goals as goal

pub mended_disks-requires-clause-can : goal.mended_disks-requires-clause-can
mended_disks-requires-clause-can c =
    let group = c.args.group.now in
    rw (c.in_ok-config.ensures, c.config.ensures, c.requires.leaders, c.requires.disks) (can_mend_all group c.requires.assembled (mending_room group c.requires.room).same)

pub mended_disks-requires-clause-room : goal.mended_disks-requires-clause-room
mended_disks-requires-clause-room c =
    let group = c.args.group.now in
    rw (c.in_ok-config.ensures, c.config.ensures, c.requires.leaders, c.requires.disks)
    (where_kept (λ (disk : Seated). full_mended (leading group) group.config disk ≡ None) (lags group) (seated group) (mending_room group c.requires.room).none)

pub step_with-requires : goal.step_with-requires
step_with-requires c =
    let group = c.args.group.now in
    rw (c.in_ok-after.ensures, c.in_ok-config.ensures, c.config.ensures, c.requires.leaders, c.requires.disks)
    (made_copies c.args.timestamp c.ranges.timestamp.fits group c.requires.assembled c.requires.room)

pub returns-clause-step : goal.returns-clause-step
returns-clause-step c = rw (c.in_ok-after.ensures, c.in_ok-config.ensures, c.config.ensures, c.requires.leaders, c.requires.disks) at c.in_ok-step.ensures.step

pub returns-clause-follows : goal.returns-clause-follows
returns-clause-follows c =
    let group = c.args.group.now in
    mending_follows c.args.timestamp c.ranges.timestamp.fits group c.requires.assembled c.requires.room c.in_ok-step.step
    (rw (c.in_ok-after.ensures, c.in_ok-config.ensures, c.config.ensures, c.requires.leaders, c.requires.disks) at c.in_ok-step.ensures.step) c.in_ok-step.ensures.prepared
