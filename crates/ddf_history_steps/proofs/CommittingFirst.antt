-- The step of one change that was readied behind a group's recovery.
use Rattle.std.proofs.Common.{◌≡◌, ℕ, Bool, true, false, List, [], ◌∷◌, Option, Some, None, Result, Ok, Err, if◌then◌else◌, refl, ap, sym, ◌∙◌, subst}
use Rattle.std.specs.List.{list_any}
use Rattle.ddf_lemmas.proofs.Tests.{or_first}
use Rattle.ddf_config.specs.declared.refusal.Refusal.{Refusal}
use Rattle.ddf_config.specs.Configuration.{Configuration}
use Rattle.ddf_plan.specs.declared.change.Change.{Change}
use Rattle.ddf_plan.specs.Same.{is_step}
use Rattle.ddf_seats.specs.declared.seated.Seated.{Seated}
use Rattle.ddf_recovery.specs.Committed.{WasReadied, group_recovered}
use Rattle.ddf_seats.specs.Group.{GroupValue}
use Rattle.ddf_steps.specs.Ready.{ReadyStep, is_spent, steps_from, with_step}
use Rattle.ddf_recovery.specs.Ready.{ReadyValue}
use Rattle.ddf_recovery.specs.Recovery.{config_recovered}
use Rattle.ddf_steps.specs.Refusing.{step_refusal}
use Rattle.ddf_seats.specs.Seated.{seated}
use Rattle.ddf_steps.specs.Steps.{Step, step_of}
use Rattle.ddf_recovery.proofs.CommittedReadied.{NoneSpent}
use Rattle.ddf_recovery.proofs.ReadiedParts.{are_tried, none_spent}
use Rattle.ddf_recovery.proofs.RecoveredGroup.{is_recovered}
use Rattle.ddf_history_steps.proofs.StepsAsked.{steps_in}

-- The only step of what was readied is that of the change, which nothing refuses.
pub record IsFirstStep (timestamp : ℕ) (group : GroupValue) (change : Change) (one : ReadyStep) (others : List ReadyStep) : Type 0 where
  pub none_behind : others ≡ []
  pub not_refused : step_refusal timestamp None group.config (seated group) change ≡ None
  pub is_change : is_step group.config change ≡ true
  pub step_is : one.step ≡ step_of timestamp group.config (seated group) change
  pub not_spent : is_spent one.step ≡ false

-- ---- steps

-- Where none is left there is none.
none_in : (steps : List ReadyStep) → ◌≡◌ {A = Result (List Step) Refusal} (Ok []) (Ok (steps_in steps)) → steps ≡ []
none_in [] is = refl
none_in (one ∷ others) is = absurd cc

-- What isn't refused goes on.
goes_on : (refusal : Option Refusal) (rest : Result (List Step) Refusal) (steps : List Step)
    → ◌≡◌ {A = Result (List Step) Refusal} (elim refusal [ Some one ↦ Err one | None ↦ rest ]) (Ok steps) → (refusal ≡ None) × (rest ≡ Ok steps)
goes_on None rest steps is = (refl, is)
goes_on (Some one) rest steps is = absurd cc

module _ (timestamp : ℕ) (change : Change) where
  -- what one change gives, where it is a step or not
  abbrev given : Configuration → List Seated → (step : Bool) → Result (List Step) Refusal
  given config disks step = if step then with_step (step_of timestamp config disks change) (Ok []) else Ok []

  -- A change that isn't refused gives its step, where it is one.
  parts : (config : Configuration) (disks : List Seated) (steps : List ReadyStep) → steps_from timestamp None (change ∷ []) config disks ≡ Ok (steps_in steps)
      → (step_refusal timestamp None config disks change ≡ None) × (given config disks (is_step config change) ≡ Ok (steps_in steps))
  parts config disks steps is = goes_on (step_refusal timestamp None config disks change) (given config disks (is_step config change)) (steps_in steps) is

  module _ (group : GroupValue) (one : ReadyStep) (others : List ReadyStep) (spent : NoneSpent (one ∷ others))
      (tried : steps_from timestamp None (change ∷ []) group.config (seated group) ≡ Ok (steps_in (one ∷ others))) where
    is_first : IsFirstStep timestamp group change one others
    is_first = go (is_step group.config change) refl (parts group.config (seated group) (one ∷ others) tried).1
      where
        go : (b : Bool) → is_step group.config change ≡ b → given group.config (seated group) b ≡ Ok (steps_in (one ∷ others))
            → IsFirstStep timestamp group change one others
        go true step is = record {
          none_behind = none_in others (let rest : [] ≡ steps_in others = cc in ap (λ (all : List Step). Ok all) rest);
          not_refused = (parts group.config (seated group) (one ∷ others) tried).0;
          is_change = step;
          step_is = cc;
          not_spent = or_first (is_spent one.step) (list_any is_spent (steps_in others)) spent;
        }
        go false step is = absurd cc

-- ---- what was readied

module _ (found : GroupValue) (timestamp : ℕ) (ready : ReadyValue) where
  abbrev now : GroupValue
  now = group_recovered found ready.recovery

  -- The changes are tried on the group as it is recovered.
  pub tried_on : (changes : List Change) → WasReadied found changes timestamp ready
      → steps_from timestamp None changes now.config (seated now) ≡ Ok (steps_in ready.steps)
  tried_on changes was =
      let is = is_recovered found changes timestamp ready was in
      ap (λ (config : Configuration). steps_from timestamp None changes config (seated now)) is.config_is
      ∙ ap (λ (disks : List Seated). steps_from timestamp None changes (config_recovered found) disks) is.disks_are
      ∙ are_tried found changes timestamp ready was

  -- Without a change there is no step behind the recovery.
  pub no_change : WasReadied found [] timestamp ready → ready.steps ≡ []
  no_change was = none_in ready.steps (tried_on [] was)

  module _ (change : Change) (was : WasReadied found (change ∷ []) timestamp ready) where
    -- Nor is there where the change alters nothing.
    pub no_step : is_step now.config change ≡ false → ready.steps ≡ []
    no_step same =
        none_in ready.steps
        (sym (ap (given timestamp change now.config (seated now)) same)
        ∙ (parts timestamp change now.config (seated now) ready.steps (tried_on (change ∷ []) was)).1)

    -- The step behind the recovery is that of the change.
    pub first_step : (one : ReadyStep) (others : List ReadyStep) → ready.steps ≡ one ∷ others → IsFirstStep timestamp now change one others
    first_step one others first =
        is_first timestamp change now one others (subst NoneSpent first (none_spent found (change ∷ []) timestamp ready was))
        (subst (λ (steps : List ReadyStep). steps_from timestamp None (change ∷ []) now.config (seated now) ≡ Ok (steps_in steps)) first (tried_on (change ∷ []) was))
