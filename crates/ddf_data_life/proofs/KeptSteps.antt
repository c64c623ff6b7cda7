-- A current member stays one through the steps of changes, and of the recovery before them, where it does through each of these changes.
use Rattle.std.proofs.Common.{◌≡◌, ℕ, zero, suc, ◌++◌, Bool, true, false, List, [], ◌∷◌, map, Option, Some, None, Result, Ok, Err, if◌then◌else◌, refl, sym, subst}
use Rattle.std.specs.Prelude.{option_to_list}
use Rattle.std.specs.List.{AllByRecursion}
use Rattle.ddf_config.specs.declared.refusal.Refusal.{Refusal}
use Rattle.ddf_config.specs.Configuration.{Configuration}
use Rattle.ddf_plan.specs.declared.change.Change.{Change}
use Rattle.ddf_plan.specs.Same.{is_step}
use Rattle.ddf_rewrite.proofs.Lists.{some_same}
use Rattle.ddf_history.specs.Groups.{Disk, has_current}
use Rattle.ddf_seats.specs.declared.seated.Seated.{Seated}
use Rattle.ddf_seats.specs.Group.{GroupValue}
use Rattle.ddf_seats.specs.Leading.{some}
use Rattle.ddf_seats.specs.Seated.{levelled}
use Rattle.ddf_steps.specs.Ready.{steps_from, with_step}
use Rattle.ddf_steps.specs.Refusing.{step_refusal}
use Rattle.ddf_steps.specs.Steps.{Step, config_after, step_of}
use Rattle.ddf_recovery.specs.Ready.{readied}
use Rattle.ddf_recovery.specs.Recovery.{config_lost, config_recovered, disks_recovered, lost_step, mending_step, recovery_of}
use Rattle.ddf_recovery.proofs.ReadiedSteps.{are_tried, behind, steps_are}
use Rattle.ddf_history_life.specs.Commands.{KeepDisk}

module _ (disk : Disk) where
  cons_keep : (step : Step) (others : List Step) → has_current step.config disk ≡ true → KeepDisk others disk → KeepDisk (step ∷ others) disk
  cons_keep step others here rest zero one at = let same : step ≡ one = some_same refl at in subst (λ (each : Step). has_current each.config disk ≡ true) same here
  cons_keep step others here rest (suc place) one at = rest place one at

  none_keep : KeepDisk [] disk
  none_keep place step at = absurd cc

  made_keep : (made : Step) (rest : Result (List Step) Refusal) (steps : List Step) → has_current made.config disk ≡ true
      → ((others : List Step) → rest ≡ Ok others → KeepDisk others disk) → with_step made rest ≡ Ok steps → KeepDisk steps disk
  made_keep made (Err refusal) steps here all is = absurd cc
  made_keep made (Ok others) steps here all is = let same : made ∷ others ≡ steps = cc in subst (λ (each : List Step). KeepDisk each disk) same (cons_keep made others here (all others refl))

  next_keep : (refusal : Option Refusal) (alters : Bool) (made : Step) (rest stay : Result (List Step) Refusal) (steps : List Step) → has_current made.config disk ≡ true
      → ((others : List Step) → rest ≡ Ok others → KeepDisk others disk) → ((others : List Step) → stay ≡ Ok others → KeepDisk others disk)
      → ◌≡◌ {A = Result (List Step) Refusal} (elim refusal [ Some one ↦ Err one | None ↦ if alters then with_step made rest else stay ]) (Ok steps) → KeepDisk steps disk
  next_keep (Some one) alters made rest stay steps here all same is = absurd cc
  next_keep None true made rest stay steps here all same is = made_keep made rest steps here all is
  next_keep None false made rest stay steps here all same is = same steps is

  -- ---- the recovery

  module _ (found : GroupValue) (timestamp : ℕ) (current : has_current (config_recovered found) disk ≡ true) where
    recovery_keeps : (step : Step) → recovery_of timestamp found ≡ Some step → has_current step.config disk ≡ true
    unfolding recovery_of config_recovered
    recovery_keeps step is = by (some found.absent) (some found.lagging) current is
      where
        by : (absent lagging : Bool) → has_current (if absent then config_lost found else found.config) disk ≡ true
            → (if absent then Some (lost_step timestamp found) else if lagging then Some (mending_step timestamp found) else None) ≡ Some step → has_current step.config disk ≡ true
        by true lagging now at = subst (λ (one : Step). has_current one.config disk ≡ true) (some_same refl at) now
        by false true now at = subst (λ (one : Step). has_current one.config disk ≡ true) (some_same refl at) now
        by false false now at = absurd cc

    with_recovery : (next : Option Step) (others : List Step) → ((step : Step) → next ≡ Some step → has_current step.config disk ≡ true) → KeepDisk others disk
        → KeepDisk (option_to_list next ++ others) disk
    with_recovery None others first rest = rest
    with_recovery (Some step) others first rest = cons_keep step others (first step refl) rest

    pub recovered_keep : KeepDisk (option_to_list (recovery_of timestamp found)) disk
    recovered_keep = by (recovery_of timestamp found) recovery_keeps
      where
        by : (next : Option Step) → ((step : Step) → next ≡ Some step → has_current step.config disk ≡ true) → KeepDisk (option_to_list next) disk
        by None first = none_keep
        by (Some step) first = cons_keep step [] (first step refl) none_keep

  -- ---- the changes

  module _ (Fine : Change → Type 0) (goes : (config : Configuration) (change : Change) → Fine change → has_current config disk ≡ true → has_current (config_after config change) disk ≡ true) where
    steps_keep : (timestamp : ℕ) (changes : List Change) → AllByRecursion Fine changes → (config : Configuration) (disks : List Seated) (steps : List Step) → has_current config disk ≡ true
        → steps_from timestamp None changes config disks ≡ Ok steps → KeepDisk steps disk
    steps_keep timestamp [] fine config disks steps from is = let same : [] ≡ steps = cc in subst (λ (each : List Step). KeepDisk each disk) same none_keep
    steps_keep timestamp (change ∷ changes) fine config disks steps from is =
        let made = step_of timestamp config disks change in
        next_keep (step_refusal timestamp None config disks change) (is_step config change) made (steps_from timestamp None changes made.config (map levelled made.disks))
        (steps_from timestamp None changes config disks) steps (goes config change fine.0 from)
        (λ others are. steps_keep timestamp changes fine.1 made.config (map levelled made.disks) others (goes config change fine.0 from) are)
        (λ others are. steps_keep timestamp changes fine.1 config disks others from are)
        is

    -- So each step of the changes keeps it, the recovery too.
    pub each_keep : (found : GroupValue) (timestamp : ℕ) → has_current (config_recovered found) disk ≡ true → (changes : List Change) → AllByRecursion Fine changes → (steps : List Step)
        → readied found changes timestamp ≡ Ok steps → KeepDisk steps disk
    each_keep found timestamp current changes fine steps are =
        subst (λ (each : List Step). KeepDisk each disk) (sym (steps_are found changes timestamp steps are))
        (with_recovery found timestamp current (recovery_of timestamp found) (behind found changes timestamp steps are) (recovery_keeps found timestamp current)
        (steps_keep timestamp changes fine (config_recovered found) (disks_recovered timestamp found) (behind found changes timestamp steps are) current (are_tried found changes timestamp steps are)))
