use Rattle.std.proofs.Common.{List, sym, subst}
use Rattle.ddf_view.specs.View.{View}
use Rattle.ddf_rewrite.specs.Before.{before}
use Rattle.ddf_seats.specs.Changing.{CanBeLed}
use Rattle.ddf_steps.proofs.OneLength.{led_by_all}
use Rattle.ddf_steps.proofs.trying.room_refusal.Goals as goal

pub full_of-requires-clause-leaders : goal.full_of-requires-clause-leaders
full_of-requires-clause-leaders c =
    subst (λ (views : List View). CanBeLed (before views) c.args.disks.now) (sym c.requires.leaders) (led_by_all c.args.disks.now c.requires.copies)
