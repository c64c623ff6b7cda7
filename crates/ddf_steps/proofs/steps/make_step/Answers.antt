use Rattle.std.proofs.Common.{List, sym, subst}
use Rattle.ddf_rewrite.specs.Before.{before}
use Rattle.ddf_seats.specs.declared.seated.Seated.{Seated}
use Rattle.ddf_seats.specs.Changing.{AreCopies}
use Rattle.ddf_steps.proofs.Following.{made_copies}
use Rattle.ddf_steps.proofs.steps.make_step.Goals as goal

pub step_with-requires : goal.step_with-requires
step_with-requires c =
    subst (λ (disks : List Seated). AreCopies disks) (sym c.in_ok-disks.ensures)
    (made_copies c.args.timestamp c.ranges.timestamp.fits (before c.args.leaders.now) c.args.config c.args.disks.now c.requires.can c.requires.room)
