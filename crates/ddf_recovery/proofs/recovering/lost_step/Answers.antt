use Rattle.std.proofs.Common.{sym}
use Rattle.ddf_rewrite.specs.Before.{before}
use Rattle.ddf_seats.specs.Changing.{AreCopies, CanBeHeldOn, CanBeLed}
use Rattle.ddf_steps.proofs.Following.{step_follows}
use Rattle.ddf_assembly.proofs.Leaders.{led_on}
use Rattle.ddf_recovery.proofs.Lost.{lost_held}
use Rattle.ddf_steps.proofs.OneLength.{HasRoom, can_try_all, has_room}
use Rattle.ddf_recovery.proofs.recovering.lost_step.Goals as goal

pub make_step-requires-clause-can : goal.make_step-requires-clause-can
make_step-requires-clause-can c =
    let group = c.args.group.now in
    let room = has_room c.args.timestamp (before c.args.leaders.now) _ c.args.disks.now c.requires.room in
    let led : CanBeLed (before c.args.leaders.now) c.args.disks.now = rw (c.requires.leaders, c.requires.disks) (led_on group c.requires.assembled) in
    let held : CanBeHeldOn c.in_ok-next.next c.args.disks.now = rw (c.in_ok-next.ensures, c.requires.disks) (lost_held group c.requires.assembled) in
    let are : AreCopies c.args.disks.now = rw c.requires.disks c.requires.assembled.are_copies in
    can_try_all (before c.args.leaders.now) c.in_ok-next.next c.args.disks.now are room.same led held

pub make_step-requires-clause-room : goal.make_step-requires-clause-room
make_step-requires-clause-room c = rw c.in_ok-next.ensures (has_room c.args.timestamp (before c.args.leaders.now) _ c.args.disks.now c.requires.room).none

pub returns-clause-step : goal.returns-clause-step
returns-clause-step c = rw (c.requires.leaders, c.requires.disks, c.in_ok-next.ensures) at c.in_ok-step.ensures.step

pub returns-clause-follows : goal.returns-clause-follows
returns-clause-follows c =
    let group = c.args.group.now in
    let room : HasRoom c.args.timestamp (before c.args.leaders.now) c.in_ok-next.next c.args.disks.now = rw c.in_ok-next.ensures (has_room c.args.timestamp (before c.args.leaders.now) _ c.args.disks.now c.requires.room) in
    let led : CanBeLed (before c.args.leaders.now) c.args.disks.now = rw (c.requires.leaders, c.requires.disks) (led_on group c.requires.assembled) in
    let held : CanBeHeldOn c.in_ok-next.next c.args.disks.now = rw (c.in_ok-next.ensures, c.requires.disks) (lost_held group c.requires.assembled) in
    let are : AreCopies c.args.disks.now = rw c.requires.disks c.requires.assembled.are_copies in
    rw (sym c.requires.disks)
    (step_follows c.args.timestamp c.ranges.timestamp.fits (before c.args.leaders.now) c.in_ok-next.next c.args.disks.now are led held room c.in_ok-step.step c.in_ok-step.ensures.step c.in_ok-step.ensures.prepared)
