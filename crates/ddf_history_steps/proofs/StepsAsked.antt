-- The steps that changes are: the first is that of one of them, and the others are those of the changes behind it.
use Rattle.std.proofs.Common.{◌≡◌, ℕ, Bool, true, false, List, [], ◌∷◌, map, Option, Some, None, Result, Ok, Err, if◌then◌else◌, refl, ap, sym, subst}
use Rattle.std.specs.List.{AllByRecursion}
use Rattle.ddf_config.specs.declared.refusal.Refusal.{Refusal}
use Rattle.ddf_config.specs.Configuration.{Configuration}
use Rattle.ddf_plan.specs.declared.change.Change.{Change}
use Rattle.ddf_plan.specs.Same.{is_step}
use Rattle.ddf_seats.specs.declared.seated.Seated.{Seated}
use Rattle.ddf_steps.specs.Asked.{CanBeAsked}
use Rattle.ddf_steps.specs.Ready.{ReadyStep, steps_from, with_step}
use Rattle.ddf_steps.specs.Refusing.{step_refusal}
use Rattle.ddf_steps.specs.Steps.{Step, step_of}
use Rattle.ddf_seats.specs.Seated.{levelled}

-- the steps of what is ready
abbrev pub steps_in : List ReadyStep → List Step
steps_in steps = map (λ (one : ReadyStep). one.step) steps

-- The first of the steps that changes are, by the change that it is of, and those behind it.
pub record IsNextStep (timestamp : ℕ) (config : Configuration) (disks : List Seated) (one : ReadyStep) (others : List ReadyStep) : Type 0 where
  pub change : Change
  pub can_be_asked : CanBeAsked change
  pub not_refused : step_refusal timestamp None config disks change ≡ None
  pub is_change : is_step config change ≡ true
  pub step_is : one.step ≡ step_of timestamp config disks change
  pub behind : List Change
  pub behind_can : AllByRecursion CanBeAsked behind
  pub behind_are : steps_from timestamp None behind one.step.config (map levelled one.step.disks) ≡ Ok (steps_in others)

-- What isn't refused goes on.
goes_on : (refusal : Option Refusal) (rest : Result (List Step) Refusal) (steps : List Step)
    → ◌≡◌ {A = Result (List Step) Refusal} (elim refusal [ Some one ↦ Err one | None ↦ rest ]) (Ok steps) → (refusal ≡ None) × (rest ≡ Ok steps)
goes_on None rest steps is = (refl, is)
goes_on (Some one) rest steps is = absurd cc

-- A step with those behind it.
front : (step : Step) (rest : Result (List Step) Refusal) (one : ReadyStep) (others : List ReadyStep) → with_step step rest ≡ Ok (steps_in (one ∷ others))
    → (one.step ≡ step) × (rest ≡ Ok (steps_in others))
front step (Err refusal) one others is = absurd cc
front step (Ok steps) one others is =
    let same : steps ≡ steps_in others = cc in
    (cc, ap (λ (all : List Step). Ok all) same)

-- A change with others behind it.
module _ (timestamp : ℕ) (change : Change) (asked : List Change) (config : Configuration) (disks : List Seated) where
  abbrev made : Step
  made = step_of timestamp config disks change

  -- what they are where the change is a step, and where it isn't
  abbrev given : (step : Bool) → Result (List Step) Refusal
  given step = if step then with_step made (steps_from timestamp None asked made.config (map levelled made.disks)) else steps_from timestamp None asked config disks

  module _ (one : ReadyStep) (others : List ReadyStep) (can : CanBeAsked change) (behind_can : AllByRecursion CanBeAsked asked)
      (not_refused : step_refusal timestamp None config disks change ≡ None) where
    -- A change that alters nothing is no step.
    by_step : (steps_from timestamp None asked config disks ≡ Ok (steps_in (one ∷ others)) → IsNextStep timestamp config disks one others)
        → (b : Bool) → is_step config change ≡ b → given b ≡ Ok (steps_in (one ∷ others)) → IsNextStep timestamp config disks one others
    by_step later false same all = later all
    by_step later true alters all =
        let first = front made (steps_from timestamp None asked made.config (map levelled made.disks)) one others all in
        record {
          change = change;
          can_be_asked = can;
          not_refused = not_refused;
          is_change = alters;
          step_is = first.0;
          behind = asked;
          behind_can = behind_can;
          behind_are = subst (λ (step : Step). steps_from timestamp None asked step.config (map levelled step.disks) ≡ Ok (steps_in others)) (sym first.0) first.1;
        }

-- Where steps are those of changes, the first is that of one of them.
pub next_step : (timestamp : ℕ) (asked : List Change) → AllByRecursion CanBeAsked asked → (config : Configuration) (disks : List Seated) (one : ReadyStep) (others : List ReadyStep)
    → steps_from timestamp None asked config disks ≡ Ok (steps_in (one ∷ others)) → IsNextStep timestamp config disks one others
next_step timestamp [] can config disks one others is = absurd cc
next_step timestamp (change ∷ asked) can config disks one others is =
    let parts = goes_on (step_refusal timestamp None config disks change) (given timestamp change asked config disks (is_step config change)) (steps_in (one ∷ others)) is in
    by_step timestamp change asked config disks one others can.0 can.1 parts.0 (next_step timestamp asked can.1 config disks one others) (is_step config change) refl parts.1
