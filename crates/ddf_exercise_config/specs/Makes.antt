-- What a change makes of the configuration of a group.
use Rattle.std.specs.Prelude.{◌≡◌, true, List, None, Some}
use Rattle.ddf_update.specs.declared.new_layout.NewLayout.TheVariants.{Small}
use Rattle.ddf_update.specs.NewLayouts.{members_of}
use Rattle.ddf_config.specs.declared.seat.Seat.{Seat}
use Rattle.ddf_config.specs.Configuration.{Configuration}
use Rattle.ddf_plan.specs.declared.change.Change.{Change}
use Rattle.ddf_plan.specs.Causes.{causes}
use Rattle.ddf_plan.specs.Floors.{extents_refusal}
use Rattle.ddf_plan.specs.Same.{is_step}
use Rattle.ddf_steps.specs.Steps.{config_after}

-- Nothing refuses the change on these seats, where each record of an element has room for the members of a small new disk's. It is a step, and this is the configuration behind it.
pub record Makes (seats : List Seat) (config : Configuration) (change : Change) (next : Configuration) : Type 0 where
  pub allowed : causes (Some (members_of Small)) config change seats ≡ None
  pub has_room : extents_refusal config change seats seats ≡ None
  pub steps : is_step config change ≡ true
  pub is_next : config_after config change ≡ next
