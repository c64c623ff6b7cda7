use Rattle.std.proofs.Common.{◌≡◌, List, None, sym, ap, subst, ◌∙◌}
use Rattle.std.specs.List.{AllByRecursion}
use Rattle.ddf_view.specs.View.{View}
use Rattle.ddf_rewrite.specs.Before.{before}
use Rattle.ddf_seats.specs.declared.seated.Seated.{Seated}
use Rattle.ddf_steps.specs.Full.{full_where_written}
use Rattle.ddf_seats.specs.Seated.{views_in}
use Rattle.ddf_steps.specs.Steps.{disks_after}
use Rattle.ddf_steps.specs.Trying.{CanTry}
use Rattle.ddf_steps.proofs.OneLength.{can_try_all, led_by_all}
use Rattle.ddf_steps.proofs.Following.{copies_are, room_for, step_follows}
use Rattle.ddf_steps.proofs.trying.step_with_room.Goals as goal

pub room_refusal-requires-clause-copies : goal.room_refusal-requires-clause-copies
room_refusal-requires-clause-copies c = copies_are c.args.config.now c.args.disks.now c.requires.changed.of_group

pub make_step-requires-clause-can : goal.make_step-requires-clause-can
make_step-requires-clause-can c =
    let room = room_for c.args.timestamp c.args.config.now c.args.next c.args.disks.now c.args.change.now c.requires.next (sym c.in_ok-refusal.ensures ∙ c.in_default.is) in
    let are = copies_are c.args.config.now c.args.disks.now c.requires.changed.of_group in
    subst (λ (views : List View). AllByRecursion (CanTry (before views) c.args.next) c.args.disks.now) (sym (c.deref-2.ensures.value ∙ c.in_ok-leaders.ensures))
    (can_try_all (before (views_in c.args.disks.now)) c.args.next c.args.disks.now are room.same (led_by_all c.args.disks.now are) c.requires.held)

pub make_step-requires-clause-room : goal.make_step-requires-clause-room
make_step-requires-clause-room c =
    let room = room_for c.args.timestamp c.args.config.now c.args.next c.args.disks.now c.args.change.now c.requires.next (sym c.in_ok-refusal.ensures ∙ c.in_default.is) in
    subst (λ (views : List View). AllByRecursion (λ (disk : Seated). full_where_written (before views) c.args.next c.args.timestamp disk ≡ None) c.args.disks.now) (sym (c.deref-2.ensures.value ∙ c.in_ok-leaders.ensures)) room.none

pub returns-clause-follows : goal.returns-clause-follows
returns-clause-follows c =
    let room = room_for c.args.timestamp c.args.config.now c.args.next c.args.disks.now c.args.change.now c.requires.next (sym c.in_ok-refusal.ensures ∙ c.in_default.is) in
    let leaders = before (views_in c.args.disks.now) in
    let views = c.deref-2.ensures.value ∙ c.in_ok-leaders.ensures in
    let is = c.in_ok-step.ensures.step ∙ ap (λ (some : List View). record { config = c.args.next; disks = disks_after c.args.timestamp (before some) c.args.next c.args.disks.now }) views in
    step_follows c.args.timestamp c.ranges.timestamp.fits leaders c.args.next c.args.disks.now
    (copies_are c.args.config.now c.args.disks.now c.requires.changed.of_group) (led_by_all c.args.disks.now (copies_are c.args.config.now c.args.disks.now c.requires.changed.of_group)) c.requires.held room
    c.in_ok-step.step is c.in_ok-step.ensures.prepared
