use Rattle.std.proofs.Common.{sym}
use Rattle.ddf_write_commands.proofs.PlanMade.{marked_plan, plain_plan}
use Rattle.ddf_write_commands.proofs.planning.planned.Goals as goal

pub returns-then-not-redundant : goal.returns-then-not-redundant
returns-then-not-redundant c = λ array after found after_is.
    plain_plan c.args.config.now c.args.seats.now c.args.guid c.args.view c.requires array found after c.args.behind after_is (sym c.if-not-redundant.ensures) c.is_sound.ensures c.in_ok-changes.changes c.in_ok-changes.ensures

pub returns : goal.returns
returns c = λ array after found after_is.
    marked_plan c.args.config.now c.args.seats.now c.args.guid c.args.view c.requires array found after c.args.behind after_is (sym c.if-not-redundant.ensures) c.in_ok-marks.marks c.in_ok-marks.view
    c.in_ok-marks.unmarked c.in_ok-marks.ensures.0 c.in_ok-marks.ensures.1 c.in_ok-marks.ensures.2 c.is_sound-2.ensures c.is_sound.ensures c.in_ok-changes-2.changes c.in_ok-changes-2.ensures
