-- Changes of a configuration that nothing refuses on new disks.
use Rattle.std.specs.Prelude.{◌≡◌, ◌⊎◌, ℕ, ◌≤◌, true, false, List, [], ◌∷◌, ◌++◌, length, None, Some, Ok}
use Rattle.std.specs.List.{AllByRecursion}
use Rattle.ddf_update.specs.declared.new_layout.NewLayout.TheVariants.{Small}
use Rattle.ddf_update.specs.NewLayouts.{members_of}
use Rattle.ddf_config.specs.declared.seat.Seat.{Seat}
use Rattle.ddf_config.specs.Configuration.{Configuration}
use Rattle.ddf_plan.specs.declared.change.Change.{Change}
use Rattle.ddf_plan.specs.Causes.{causes}
use Rattle.ddf_plan.specs.Floors.{extents_refusal}
use Rattle.ddf_plan.specs.Refusals.{greatest_sequence}
use Rattle.ddf_plan.specs.Same.{is_step}
use Rattle.ddf_steps.specs.Asked.{CanBeAsked}
use Rattle.ddf_seats.specs.Group.{GroupValue}
use Rattle.ddf_recovery.specs.Ready.{readied}
use Rattle.ddf_seats.specs.Seated.{seats_in}
use Rattle.ddf_steps.specs.Steps.{Step, config_after}
use Rattle.ddf_uncut_group.specs.Plain.{ArePlain, HasRoom, HavePlain}
use Rattle.ddf_uncut_group.specs.Settled.{AreMembers, IsToldByAll, group_behind}

-- A change alters a configuration to this one, and nothing of it refuses that over these seats, which stay those of members: small new disks have
-- room for it, and for the members of its elements.
pub record IsNext (config : Configuration) (seats : List Seat) (change : Change) (next : Configuration) : Type 0 where
  pub can_be_asked : CanBeAsked change
  pub no_cause : causes (Some (members_of Small)) config change seats ≡ None
  pub has_extents : extents_refusal config change seats seats ≡ None
  pub is_step : is_step config change ≡ true
  pub is_next : config_after config change ≡ next
  pub unspent : next.sequence ≤ greatest_sequence
  pub members : AreMembers next seats
  pub has_room : HasRoom next

-- A change leaves the configuration as it is, its sequence number aside, and nothing of it refuses that.
pub record IsNothing (config : Configuration) (seats : List Seat) (change : Change) : Type 0 where
  pub can_be_asked : CanBeAsked change
  pub no_cause : causes (Some (members_of Small)) config change seats ≡ None
  pub is_no_step : is_step config change ≡ false

-- Changes one after another make this of a configuration.
abbrev pub AreNext : List Seat → Configuration → List Change → Configuration → Type 0
AreNext seats config [] last = last ≡ config
AreNext seats config (change ∷ changes) last =
    (IsNothing config seats change × AreNext seats config changes last) ⊎ ((next : Configuration) × IsNext config seats change next × AreNext seats next changes last)

-- Changes of a settled group are readied as steps that make this of its configuration. All of its disks tell the group behind them, on the same seats, and their copies are plain.
pub record AreReadiedTo (sizes : List ℕ) (timestamp : ℕ) (group : GroupValue) (changes : List Change) (last : Configuration) : Type 0 where
  pub steps : List Step
  pub are_readied : readied group changes timestamp ≡ Ok steps
  pub is_last : (group_behind group steps).config ≡ last
  pub is_told : IsToldByAll (group_behind group steps)
  pub same_seats : (group_behind group steps).seats ≡ group.seats
  pub members : AllByRecursion (λ (step : Step). AreMembers step.config group.seats) steps
  pub plain_newest : HavePlain sizes (group_behind group steps).newest
  pub plain_steps : AllByRecursion (λ (step : Step). ArePlain sizes step.disks) steps
  pub on_all : AllByRecursion (λ (step : Step). seats_in step.disks ≡ group.seats) steps
  pub few : length steps ≤ length changes

-- Some changes are readied and then others, these for the group behind the first; and together they are the steps of both.
pub record AreBothReadied (sizes : List ℕ) (timestamp : ℕ) (group : GroupValue) (changes others : List Change) (middle last : Configuration) : Type 0 where
  pub first : AreReadiedTo sizes timestamp group changes middle
  pub second : AreReadiedTo sizes timestamp (group_behind group first.steps) others last
  pub together : readied group (changes ++ others) timestamp ≡ Ok (first.steps ++ second.steps)
