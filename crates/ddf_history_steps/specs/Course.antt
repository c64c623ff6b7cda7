-- The course of a call that recovers a group, writes steps of it one after another, and blocks between them, as a history of the group tells of it.
use Rattle.std.specs.Prelude.{◌≡◌, ℕ, ◌≤◌, Bool, true, List, ◌++◌, length, map}
use Rattle.ddf_bay.specs.Moments.{StopsLeave}
use Rattle.ddf_bay.specs.State.{BayState}
use Rattle.ddf_config.specs.Configuration.{Configuration}
use Rattle.ddf_history.specs.Groups.{groups}
use Rattle.ddf_history.specs.Issued.{Past}
use Rattle.ddf_history.specs.Promise.{IsKept}
use Rattle.ddf_history.specs.Scenes.{scene_of}
use Rattle.ddf_seats.specs.Group.{GroupValue}
use Rattle.ddf_recovery.specs.Ready.{ReadyValue, all_ready}
use Rattle.ddf_seats.specs.Leading.{some}
use Rattle.ddf_history_steps.specs.Going.{Goes, IsOver, changes_in}
use Rattle.ddf_history_steps.specs.Kept.{is_read}
use Rattle.ddf_history_steps.specs.Steps.{StandsReady}

-- the configurations that all of it issues that was readied for a group
abbrev pub changes_ready : GroupValue → ReadyValue → List Configuration
changes_ready found ready = changes_in found (map (λ one. one.step) (all_ready ready))

module _ (group : List ℕ) where
  -- The first of the call's changes are issued, and all of them acknowledged. The group stands at the end of the history, with the steps ready
  -- that issue the others.
  pub record HasCome {D : Type 0} (past : Past (groups group)) (left : List Bool) (found : GroupValue) (changes : List Configuration) (disks : BayState D)
      (now_found : GroupValue) (ready : ReadyValue) : Type 0 where
    pub first : List Configuration
    pub now : Past (groups group)
    pub is_over : IsOver group past (is_read left) found first now
    pub loses : some found.absent ≡ true → 1 ≤ length first
    pub parts : changes ≡ first ++ map (λ one. one.step.config) ready.steps
    pub stands : StandsReady group now disks now_found ready

  -- On its way whatever a stop left, at any moment since the call's entry, shows what it should; and so far the call has come, where the bay
  -- still tells of it.
  pub record IsUnderWay {D : Type 0} (old disks : BayState D) (past : Past (groups group)) (left : List Bool) (found : GroupValue) (changes : List Configuration)
      (now_found : GroupValue) (ready : ReadyValue) : Type 0 where
    pub same_sizes : disks.sizes ≡ old.sizes
    pub any_moment : StopsLeave old disks (λ image. (now : Past (groups group)) × Goes group past (is_read left) found changes now × IsKept now (scene_of old.sizes image))
    pub has_come : disks.tells_left → HasCome past left found changes disks now_found ready
