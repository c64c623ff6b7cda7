-- The steps that a call with one change makes, by what they make of the configuration and of the disks.
use Rattle.std.proofs.Common.{◌≡◌, ◌⊎◌, ◌∙◌, inl, inr, ⊎_elim, ℕ, ◌≤◌, Bool, true, false, List, [], ◌∷◌, ◌++◌, length, Option, Some, None, Result, Ok, Err, if◌then◌else◌, refl, ap, sym, subst, arith}
use Rattle.std.proofs.lemmas.Bool.{eq-eqb}
use Rattle.std.specs.Prelude.{option_to_list}
use Rattle.ddf_bay.specs.Sectors.{Image}
use Rattle.ddf_config.specs.declared.refusal.Refusal.{Refusal}
use Rattle.ddf_config.specs.declared.seat.Seat.{Seat}
use Rattle.ddf_config.specs.Configuration.{Configuration}
use Rattle.ddf_plan.specs.declared.change.Change.{Change}
use Rattle.ddf_plan.specs.Causes.{steps_of as change_steps}
use Rattle.ddf_plan.specs.Same.{is_step}
use Rattle.ddf_data_group.specs.Grouped.{Promises}
use Rattle.ddf_seats.specs.declared.seated.Seated.{Seated}
use Rattle.ddf_seats.specs.Group.{GroupValue}
use Rattle.ddf_steps.specs.Ready.{steps_from, with_step}
use Rattle.ddf_recovery.specs.Ready.{readied}
use Rattle.ddf_recovery.specs.Recovery.{config_lost, config_recovered, disks_recovered, loss, lost_step, mending_step, recovery_of}
use Rattle.ddf_seats.specs.Leading.{some}
use Rattle.ddf_steps.specs.Refusing.{step_refusal}
use Rattle.ddf_steps.specs.Steps.{Step, raised, step_of}
use Rattle.ddf_recovery.proofs.Numbered.{steps_numbered}
use Rattle.ddf_recovery.proofs.ReadiedSteps.{are_tried, behind, loss_rises, none_spent, steps_are}
use Rattle.ddf_history_steps.specs.Going.{changes_in}
use Rattle.ddf_history_steps.proofs.LastStep.{AreAbove, configs, first_issued, above_issued, numbered_above}
use Rattle.ddf_data_calls.specs.Calls.{AreMade, MayAsk}

-- ---- the steps behind the recovery

-- They are those of one change: none where it alters nothing.
pub record AreOfChange (timestamp : ℕ) (config : Configuration) (disks : List Seated) (change : Change) (steps : List Step) : Type 0 where
  pub not_refused : step_refusal timestamp None config disks change ≡ None
  pub steps_are : (steps ≡ []) ⊎ (steps ≡ step_of timestamp config disks change ∷ [])

module _ (timestamp : ℕ) (config : Configuration) (disks : List Seated) where
  of_none : (steps : List Step) → steps_from timestamp None [] config disks ≡ Ok steps → steps ≡ []
  of_none steps is = let same : ◌≡◌ {A = List Step} [] steps = cc in sym same

  pub of_change : (change : Change) (steps : List Step) → steps_from timestamp None (change ∷ []) config disks ≡ Ok steps → AreOfChange timestamp config disks change steps
  of_change change steps is = by_refusal (step_refusal timestamp None config disks change) refl is
    where
      by_step : step_refusal timestamp None config disks change ≡ None → (b : Bool)
          → ◌≡◌ {A = Result (List Step) Refusal} (if b then with_step (step_of timestamp config disks change) (Ok []) else Ok []) (Ok steps) → AreOfChange timestamp config disks change steps
      by_step none true e = record { not_refused = none; steps_are = inr (let same : step_of timestamp config disks change ∷ [] ≡ steps = cc in sym same) }
      by_step none false e = record { not_refused = none; steps_are = inl (let same : ◌≡◌ {A = List Step} [] steps = cc in sym same) }

      by_refusal : (o : Option Refusal) → step_refusal timestamp None config disks change ≡ o
          → ◌≡◌ {A = Result (List Step) Refusal} (elim o [
            | Some refusal ↦ Err refusal
            | None ↦ if is_step config change then with_step (step_of timestamp config disks change) (Ok []) else Ok []
          ]) (Ok steps) → AreOfChange timestamp config disks change steps
      by_refusal None none e = by_step none (is_step config change) e
      by_refusal (Some refusal) some_one e = absurd cc

  -- There is one at the most.
  pub few_asked : (asked : Option Change) (steps : List Step) → steps_from timestamp None (option_to_list asked) config disks ≡ Ok steps → length (configs steps) ≤ 1
  few_asked None steps is = subst (λ (all : List Step). length (configs all) ≤ 1) (sym (of_none steps is)) (omega arith)
  few_asked (Some change) steps is = ⊎_elim
      (λ none. subst (λ (all : List Step). length (configs all) ≤ 1) (sym none) (omega arith))
      (λ one. subst (λ (all : List Step). length (configs all) ≤ 1) (sym one) (omega arith))
      (of_change change steps is).steps_are

  -- what they make of the configuration
  pub asked_made : (seats : Configuration → List Seat) (image : Image) (promises : Promises) (asked : Option Change) (steps : List Step)
      → steps_from timestamp None (option_to_list asked) config disks ≡ Ok steps → MayAsk config (seats config) image promises asked → AreMade seats image promises config (configs steps)
  asked_made seats image promises None steps is may = subst (λ (all : List Step). AreMade seats image promises config (configs all)) (sym (of_none steps is)) tt
  asked_made seats image promises (Some change) steps is may = ⊎_elim
      (λ none. subst (λ (all : List Step). AreMade seats image promises config (configs all)) (sym none) tt)
      (λ one. subst (λ (all : List Step). AreMade seats image promises config (configs all)) (sym one)
      (record { change = change; sequence = raised config.sequence (change_steps change); is_next = refl; may = may }, tt))
      (of_change change steps is).steps_are

-- ---- the changes that a call issues

module _ (found : GroupValue) (changes : List Change) (timestamp : ℕ) (steps : List Step) (are : readied found changes timestamp ≡ Ok steps) where
  -- the steps behind the recovery
  abbrev pub others : List Step
  others = behind found changes timestamp steps are

  lost_is : some found.absent ≡ true → recovery_of timestamp found ≡ Some (lost_step timestamp found)
  unfolding recovery_of
  lost_is absent = rw absent refl

  mending_is : some found.absent ≡ false → some found.lagging ≡ true → recovery_of timestamp found ≡ Some (mending_step timestamp found)
  unfolding recovery_of
  mending_is present lagging = rw (present, lagging) refl

  none_is : some found.absent ≡ false → some found.lagging ≡ false → recovery_of timestamp found ≡ None
  unfolding recovery_of
  none_is present level = rw (present, level) refl

  -- The steps, by the recovery.
  after : (next : Option Step) → recovery_of timestamp found ≡ next → steps ≡ option_to_list next ++ others
  after next is = steps_are found changes timestamp steps are ∙ ap (λ (one : Option Step). option_to_list one ++ others) is

  -- The recovery doesn't lower the sequence number.
  no_lower : found.config.sequence ≤ (config_recovered found).sequence
  unfolding config_recovered
  no_lower = by (some found.absent) refl
    where
      by : (absent : Bool) → some found.absent ≡ absent → found.config.sequence ≤ (if absent then config_lost found else found.config).sequence
      by true absent = let rises = loss_rises found changes timestamp steps are (lost_step timestamp found) (lost_is absent) absent in omega (arith, rises)
      by false present = omega arith

  others_above : AreAbove found.config.sequence others
  others_above =
      numbered_above found.config.sequence (config_recovered found).sequence others no_lower
      (steps_numbered timestamp changes (config_recovered found) (disks_recovered timestamp found) others (are_tried found changes timestamp steps are) (none_spent found changes timestamp steps are))

  -- What the call issues: the loss of absent members first, and then what the other steps make of it.
  abbrev pub issued : List Configuration
  issued = if some found.absent then config_lost found ∷ configs others else configs others

  pub issued_are : changes_in found steps ≡ issued
  issued_are = by (some found.absent) refl (some found.lagging) refl
    where
      from : (all : List Step) → steps ≡ all → changes_in found steps ≡ changes_in found all
      from all same = ap (changes_in found) same

      by : (absent : Bool) → some found.absent ≡ absent → (lagging : Bool) → some found.lagging ≡ lagging → changes_in found steps ≡ (if absent then config_lost found ∷ configs others else configs others)
      by true absent lagging l =
          from (lost_step timestamp found ∷ others) (after (Some (lost_step timestamp found)) (lost_is absent))
          ∙ above_issued found (lost_step timestamp found ∷ others) (loss_rises found changes timestamp steps are (lost_step timestamp found) (lost_is absent) absent, others_above)
      by false present true lagging =
          from (mending_step timestamp found ∷ others) (after (Some (mending_step timestamp found)) (mending_is present lagging))
          ∙ first_issued found (mending_step timestamp found) others true (eq-eqb found.config.sequence found.config.sequence refl)
          ∙ above_issued found others others_above
      by false present false level = from others (after None (none_is present level)) ∙ above_issued found others others_above

-- Each of them is what a change makes of the one before it.
pub issued_made : (found : GroupValue) (asked : Option Change) (timestamp : ℕ) (steps : List Step) → (are : readied found (option_to_list asked) timestamp ≡ Ok steps)
    → (seats : Configuration → List Seat) (image : Image) (promises : Promises) → MayAsk (config_recovered found) (seats (config_recovered found)) image promises asked
    → AreMade seats image promises found.config (changes_in found steps)
unfolding config_recovered
issued_made found asked timestamp steps are seats image promises may =
    subst (AreMade seats image promises found.config) (sym (issued_are found (option_to_list asked) timestamp steps are))
    (by (some found.absent) (asked_made timestamp (config_recovered found) (disks_recovered timestamp found) seats image promises asked (behind found (option_to_list asked) timestamp steps are)
    (are_tried found (option_to_list asked) timestamp steps are) may))
  where
    by : (absent : Bool) → AreMade seats image promises (if absent then config_lost found else found.config) (configs (behind found (option_to_list asked) timestamp steps are))
        → AreMade seats image promises found.config
        (if absent then config_lost found ∷ configs (behind found (option_to_list asked) timestamp steps are) else configs (behind found (option_to_list asked) timestamp steps are))
    by true made = (record { change = loss found; sequence = raised found.config.sequence (change_steps (loss found)); is_next = refl; may = tt }, made)
    by false made = made
