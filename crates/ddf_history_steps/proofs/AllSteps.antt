-- What each of the steps has that are readied for changes, where each step hands it on to the one behind it.
use Rattle.std.proofs.Common.{◌≡◌, ℕ, zero, suc, Bool, true, false, List, [], ◌∷◌, ◌++◌, map, Option, Some, None, Result, Ok, Err, if◌then◌else◌, refl, sym, subst}
use Rattle.std.specs.Prelude.{option_to_list, slice_get}
use Rattle.ddf_config.specs.declared.refusal.Refusal.{Refusal}
use Rattle.ddf_config.specs.Configuration.{Configuration}
use Rattle.ddf_plan.specs.declared.change.Change.{Change}
use Rattle.ddf_plan.specs.Same.{is_step}
use Rattle.ddf_seats.specs.declared.seated.Seated.{Seated}
use Rattle.ddf_seats.specs.Group.{GroupValue}
use Rattle.ddf_recovery.specs.Ready.{readied}
use Rattle.ddf_steps.specs.Ready.{steps_from, with_step}
use Rattle.ddf_recovery.specs.Recovery.{config_recovered, disks_recovered, has_stray, recovery_of}
use Rattle.ddf_steps.specs.Refusing.{step_refusal}
use Rattle.ddf_steps.specs.Steps.{Step, step_of}
use Rattle.ddf_seats.specs.Seated.{levelled}
use Rattle.ddf_recovery.proofs.ReadiedSteps.{are_tried, behind, none_stray, steps_are}

-- each step has it
abbrev pub AllSteps : (Step → Type 0) → List Step → Type 0
AllSteps Has steps = (number : ℕ) (step : Step) → slice_get steps number ≡ Some step → Has step

module _ (Has : Step → Type 0) where
  cons_all : (step : Step) (others : List Step) → Has step → AllSteps Has others → AllSteps Has (step ∷ others)
  cons_all step others here rest zero one at = let same : step ≡ one = cc in subst Has same here
  cons_all step others here rest (suc number) one at = rest number one at

  with_all : (step : Step) (rest : Result (List Step) Refusal) (steps : List Step) → Has step
      → ((others : List Step) → rest ≡ Ok others → AllSteps Has others) → with_step step rest ≡ Ok steps → AllSteps Has steps
  with_all step (Err refusal) steps here all is = absurd cc
  with_all step (Ok others) steps here all is = let same : step ∷ others ≡ steps = cc in subst (AllSteps Has) same (cons_all step others here (all others refl))

  next_all : (refusal : Option Refusal) (alters : Bool) (step : Step) (rest stay : Result (List Step) Refusal) (steps : List Step) → Has step
      → ((others : List Step) → rest ≡ Ok others → AllSteps Has others) → ((others : List Step) → stay ≡ Ok others → AllSteps Has others)
      → ◌≡◌ {A = Result (List Step) Refusal} (elim refusal [ Some one ↦ Err one | None ↦ if alters then with_step step rest else stay ]) (Ok steps) → AllSteps Has steps
  next_all (Some one) alters step rest stay steps here all same is = absurd cc
  next_all None true step rest stay steps here all same is = with_all step rest steps here all is
  next_all None false step rest stay steps here all same is = same steps is

  -- A recovery, where there is one, and the steps behind it.
  recovered_all : (next : Option Step) (others : List Step) → ((step : Step) → next ≡ Some step → Has step) → AllSteps Has others → AllSteps Has (option_to_list next ++ others)
  recovered_all None others first rest = rest
  recovered_all (Some step) others first rest = cons_all step others (first step refl) rest

  -- What a configuration and its disks have makes that a step from them has it, and what the step gives has the same.
  module _ (From : Configuration → List Seated → Type 0) (timestamp : ℕ)
      (goes : (config : Configuration) (disks : List Seated) (change : Change) → From config disks
      → Has (step_of timestamp config disks change) × From (step_of timestamp config disks change).config (map levelled (step_of timestamp config disks change).disks)) where
    from_all : (changes : List Change) (config : Configuration) (disks : List Seated) (steps : List Step) → From config disks
        → steps_from timestamp None changes config disks ≡ Ok steps → AllSteps Has steps
    from_all [] config disks steps from is = let none : [] ≡ steps = cc in subst (AllSteps Has) none (λ number step at. absurd cc)
    from_all (change ∷ changes) config disks steps from is =
        let step = step_of timestamp config disks change in
        let next = goes config disks change from in
        next_all (step_refusal timestamp None config disks change) (is_step config change) step (steps_from timestamp None changes step.config (map levelled step.disks))
        (steps_from timestamp None changes config disks) steps next.0
        (λ others are. from_all changes step.config (map levelled step.disks) others next.1 are)
        (λ others are. from_all changes config disks others from are)
        is

    -- So have the recovery of a group and the steps behind it. None are readied where recovery can't write to each disk.
    pub readied_all : (found : GroupValue) → (has_stray found ≡ false → (step : Step) → recovery_of timestamp found ≡ Some step → Has step)
        → (has_stray found ≡ false → From (config_recovered found) (disks_recovered timestamp found))
        → (changes : List Change) (steps : List Step) → readied found changes timestamp ≡ Ok steps → AllSteps Has steps
    readied_all found recovery from changes steps are =
        let own = none_stray found changes timestamp steps are in
        let others = behind found changes timestamp steps are in
        subst (AllSteps Has) (sym (steps_are found changes timestamp steps are))
        (recovered_all (recovery_of timestamp found) others (recovery own)
        (from_all changes (config_recovered found) (disks_recovered timestamp found) others (from own) (are_tried found changes timestamp steps are)))
