use Rattle.std.proofs.Common.{◌≡◌, ◌∙◌, Bool, true, false, Option, Some, None, refl, sym, if◌then◌else◌}
use Rattle.ddf_config.specs.Configuration.{Configuration}
use Rattle.ddf_seats.specs.Group.{GroupValue}
use Rattle.ddf_recovery.specs.Recovery.{config_lost, config_recovered, loss_of}
use Rattle.ddf_seats.specs.Leading.{some}
use Rattle.ddf_group_commands.proofs.writing.recovered.Goals as goal

-- where members are lost
lost_is : (group : GroupValue) (config : Configuration) → Some config ≡ loss_of group → config ≡ config_recovered group
unfolding loss_of config_recovered
lost_is group config is = by (some group.absent) is
  where
    by : (lost : Bool) → ◌≡◌ {A = Option Configuration} (Some config) (if lost then Some (config_lost group) else None) → config ≡ (if lost then config_lost group else group.config)
    by true is = cc
    by false is = absurd cc

-- and where none is
none_lost : (group : GroupValue) → None ≡ loss_of group → group.config ≡ config_recovered group
unfolding loss_of config_recovered
none_lost group is = by (some group.absent) is
  where
    by : (lost : Bool) → ◌≡◌ {A = Option Configuration} None (if lost then Some (config_lost group) else None) → group.config ≡ (if lost then config_lost group else group.config)
    by true is = absurd cc
    by false is = refl

pub returns-in-Some : goal.returns-in-Some
returns-in-Some c = lost_is c.args.group.now c.in-Some.config (sym c.in-Some.is ∙ c.requires)

pub returns-in-None : goal.returns-in-None
returns-in-None c = c.config.ensures ∙ none_lost c.args.group.now (sym c.in-None.is ∙ c.requires)
