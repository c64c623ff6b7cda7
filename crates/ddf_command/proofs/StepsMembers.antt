-- The disks of the steps that are readied are current members of what each step makes of the group.
use Rattle.std.proofs.Common.{◌≡◌, ℕ, Bool, true, false, List, map, filter, Option, Some, None, Ok, if◌then◌else◌, subst}
use Rattle.ddf_lemmas.proofs.Lists.{filter_get, in_map}
use Rattle.ddf_config.specs.Configuration.{Configuration}
use Rattle.ddf_plan.specs.declared.change.Change.{Change}
use Rattle.ddf_rewrite.specs.Before.{before}
use Rattle.ddf_seats.specs.declared.seated.Seated.{Seated}
use Rattle.ddf_seats.specs.Group.{GroupValue}
use Rattle.ddf_recovery.specs.Ready.{readied}
use Rattle.ddf_recovery.specs.Recovery.{config_lost, config_recovered, disks_recovered, loss, lost_step, mended, mended_or_kept, mending_step, recovery_of}
use Rattle.ddf_seats.specs.Leading.{lags, leading, some}
use Rattle.ddf_seats.specs.Seated.{seated, views_in, levelled}
use Rattle.ddf_steps.specs.Steps.{Step}
use Rattle.ddf_history_steps.specs.AtEnd.{IsMember}
use Rattle.ddf_history_steps.proofs.StepMembers.{AreMembers, after_members, levelled_member, mended_member}
use Rattle.ddf_history_steps.proofs.AllSteps.{AllSteps, readied_all}

levelled_members : (config : Configuration) (disks : List Seated) → AreMembers config disks → AreMembers config (map levelled disks)
levelled_members config disks are place disk at =
    let one = in_map levelled disks place disk at in
    subst (IsMember config) one.2 (levelled_member config one.0 (are place one.0 one.1))

module _ (found : GroupValue) (timestamp : ℕ) (are : AreMembers found.config (seated found)) where
  -- A step's disks are current members of its configuration.
  abbrev HasMembers : Step → Type 0
  HasMembers step = AreMembers step.config step.disks

  lost_members : HasMembers (lost_step timestamp found)
  lost_members = after_members timestamp (leading found) found.config (loss found) (seated found) are

  mending_members : HasMembers (mending_step timestamp found)
  mending_members place disk at =
      let one = in_map (mended (leading found) found.config timestamp) (filter (lags found) (seated found)) place disk at in
      let from = filter_get (lags found) (seated found) place one.0 one.1 in
      subst (IsMember found.config) one.2 (mended_member (leading found) found.config timestamp one.0 (are from.0 one.0 from.1))

  recovery_members : (step : Step) → recovery_of timestamp found ≡ Some step → HasMembers step
  unfolding recovery_of
  recovery_members step is = by (some found.absent) (some found.lagging) is
    where
      by : (absent lagging : Bool)
          → ◌≡◌ {A = Option Step} (if absent then Some (lost_step timestamp found) else if lagging then Some (mending_step timestamp found) else None) (Some step)
          → HasMembers step
      by true lagging is = let same : lost_step timestamp found ≡ step = cc in subst HasMembers same lost_members
      by false true is = let same : mending_step timestamp found ≡ step = cc in subst HasMembers same mending_members
      by false false is = absurd cc

  behind_members : AreMembers (config_recovered found) (disks_recovered timestamp found)
  unfolding config_recovered disks_recovered
  behind_members = by (some found.absent)
    where
      kept : (lag : Bool) (disk : Seated) → IsMember found.config disk
          → IsMember found.config (if lag then levelled (mended (leading found) found.config timestamp disk) else disk)
      kept true disk is = levelled_member found.config (mended (leading found) found.config timestamp disk) (mended_member (leading found) found.config timestamp disk is)
      kept false disk is = is

      by : (absent : Bool) → AreMembers (if absent then config_lost found else found.config)
          (if absent then map levelled (lost_step timestamp found).disks else map (mended_or_kept timestamp found) (seated found))
      by true = levelled_members (config_lost found) (lost_step timestamp found).disks lost_members
      by false = λ place disk at.
          let one = in_map (mended_or_kept timestamp found) (seated found) place disk at in
          subst (IsMember found.config) one.2 (kept (lags found one.0) one.0 (are place one.0 one.1))

  pub steps_members : (changes : List Change) (steps : List Step) → readied found changes timestamp ≡ Ok steps → AllSteps HasMembers steps
  steps_members =
      readied_all HasMembers AreMembers timestamp
      (λ config disks change from.
      let here = after_members timestamp (before (views_in disks)) config change disks from in
      (here, levelled_members _ _ here))
      found (λ own. recovery_members) (λ own. behind_members)
