-- The configuration of the last of the steps that were readied is the last that a call issues.
use Rattle.std.proofs.Common.{◌≡◌, ℕ, suc, ◌+◌, ◌<◌, ◌≤◌, ◌==◌, not, cond, Bool, true, false, List, [], ◌∷◌, ◌++◌, length, map, filter, Option, Some, None, Ok, if◌then◌else◌, refl, ap, sym, ◌∙◌, subst, arith}
use Rattle.std.proofs.lemmas.Bool.{eq-eqb, ne_eqb}
use Rattle.std.proofs.lemmas.List.{length-map}
use Rattle.std.specs.Prelude.{option_to_list, slice_get}
use Rattle.std.specs.List.{AllByRecursion}
use Rattle.ddf_lemmas.proofs.Lists.{mapped_at}
use Rattle.ddf_config.specs.Configuration.{Configuration}
use Rattle.ddf_plan.specs.declared.change.Change.{Change}
use Rattle.ddf_seats.specs.Group.{GroupValue}
use Rattle.ddf_steps.specs.Ready.{AreNumbered}
use Rattle.ddf_recovery.specs.Ready.{readied}
use Rattle.ddf_recovery.specs.Recovery.{config_lost, config_recovered, disks_recovered, lost_step, mending_step, recovery_of}
use Rattle.ddf_seats.specs.Leading.{some}
use Rattle.ddf_steps.specs.Steps.{Step}
use Rattle.ddf_recovery.proofs.Numbered.{steps_numbered}
use Rattle.ddf_recovery.proofs.ReadiedSteps.{are_tried, behind, loss_rises, none_spent, steps_are}
use Rattle.ddf_history_steps.specs.Going.{changes_in}

-- The sequence number of each of these steps is greater.
abbrev pub AreAbove : ℕ → List Step → Type 0
AreAbove sequence = AllByRecursion (λ (step : Step). sequence < step.config.sequence)

pub numbered_above : (first sequence : ℕ) (steps : List Step) → first ≤ sequence → AreNumbered sequence steps → AreAbove first steps
numbered_above first sequence [] le are = tt
numbered_above first sequence (step ∷ steps) le are =
    let more = are.0 in
    (omega (arith, le, more), numbered_above first step.config.sequence steps (omega (arith, le, more)) are.2)

-- what the steps make of the configuration, one after another
abbrev pub configs : List Step → List Configuration
configs steps = map (λ (step : Step). step.config) steps

-- whether a step raises the sequence number
abbrev pub raises : GroupValue → Step → Bool
raises found step = not (step.config.sequence == found.config.sequence)

-- A step that does issues its configuration.
pub first_issued : (found : GroupValue) (step : Step) (others : List Step) (same : Bool) → (step.config.sequence == found.config.sequence) ≡ same
    → changes_in found (step ∷ others) ≡ (if same then changes_in found others else step.config ∷ changes_in found others)
first_issued found step others true is = ap (λ (same : Bool). configs (cond (not same) (step ∷ filter (raises found) others) (filter (raises found) others))) is
first_issued found step others false is = ap (λ (same : Bool). configs (cond (not same) (step ∷ filter (raises found) others) (filter (raises found) others))) is

-- Where all do each of them is issued.
pub above_issued : (found : GroupValue) (steps : List Step) → AreAbove found.config.sequence steps → changes_in found steps ≡ configs steps
above_issued found [] above = refl
above_issued found (step ∷ steps) above =
    let more = above.0 in
    first_issued found step steps false (ne_eqb step.config.sequence found.config.sequence (λ same. omega (arith, more, same)))
    ∙ ap (λ (others : List Configuration). step.config ∷ others) (above_issued found steps above.1)

-- The last step's configuration is the last of theirs.
last_config : (first : Configuration) (steps : List Step) (number : ℕ) (step : Step) → slice_get steps number ≡ Some step → number + 1 ≡ length steps
    → slice_get (first ∷ configs steps) (length (configs steps)) ≡ Some step.config
last_config first steps number step at last =
    let long : length (configs steps) ≡ suc number = length-map steps (λ (one : Step). one.config) ∙ sym last ∙ omega arith in
    subst (λ (n : ℕ). slice_get (first ∷ configs steps) n ≡ Some step.config) (sym long) (mapped_at (λ (one : Step). one.config) steps number step at)

module _ (found : GroupValue) (changes : List Change) (timestamp : ℕ) (steps : List Step) (are : readied found changes timestamp ≡ Ok steps) where
  -- the steps behind the recovery
  abbrev others : List Step
  others = behind found changes timestamp steps are

  pub lost_is : some found.absent ≡ true → recovery_of timestamp found ≡ Some (lost_step timestamp found)
  unfolding recovery_of
  lost_is absent = rw absent refl

  mending_is : some found.absent ≡ false → some found.lagging ≡ true → recovery_of timestamp found ≡ Some (mending_step timestamp found)
  unfolding recovery_of
  mending_is present lagging = rw (present, lagging) refl

  none_is : some found.absent ≡ false → some found.lagging ≡ false → recovery_of timestamp found ≡ None
  unfolding recovery_of
  none_is present level = rw (present, level) refl

  -- The steps, by the recovery.
  after : (next : Option Step) → recovery_of timestamp found ≡ next → steps ≡ option_to_list next ++ others
  after next is = steps_are found changes timestamp steps are ∙ ap (λ (one : Option Step). option_to_list one ++ others) is

  -- Where members are absent their loss is the first.
  pub lost_first : some found.absent ≡ true → steps ≡ lost_step timestamp found ∷ others
  lost_first absent = after (Some (lost_step timestamp found)) (lost_is absent)

  -- The recovery doesn't lower the sequence number.
  no_lower : found.config.sequence ≤ (config_recovered found).sequence
  unfolding config_recovered
  no_lower = by (some found.absent) refl
    where
      by : (absent : Bool) → some found.absent ≡ absent → found.config.sequence ≤ (if absent then config_lost found else found.config).sequence
      by true absent = let rises = loss_rises found changes timestamp steps are (lost_step timestamp found) (lost_is absent) absent in omega (arith, rises)
      by false present = omega arith

  others_above : AreAbove found.config.sequence others
  others_above =
      numbered_above found.config.sequence (config_recovered found).sequence others no_lower
      (steps_numbered timestamp changes (config_recovered found) (disks_recovered timestamp found) others (are_tried found changes timestamp steps are) (none_spent found changes timestamp steps are))

  module _ (number : ℕ) (step : Step) (at : slice_get steps number ≡ Some step) (last : number + 1 ≡ length steps) where
    abbrev IsLastOf : List Step → Type 0
    IsLastOf all = slice_get (found.config ∷ changes_in found all) (length (changes_in found all)) ≡ Some step.config

    where_above : (all : List Step) → steps ≡ all → AreAbove found.config.sequence all → IsLastOf steps
    where_above all same above =
        subst IsLastOf (sym same)
        (subst (λ (issued : List Configuration). slice_get (found.config ∷ issued) (length issued) ≡ Some step.config) (sym (above_issued found all above))
        (last_config found.config all number step (subst (λ (list : List Step). slice_get list number ≡ Some step) same at) (last ∙ ap (λ (list : List Step). length list) same)))

    -- Seats that lag get the configuration as it is, which is issued before.
    where_mended : steps ≡ mending_step timestamp found ∷ others → IsLastOf steps
    where_mended same =
        let first = mending_step timestamp found in
        let none : changes_in found (first ∷ others) ≡ configs others =
        first_issued found first others true (eq-eqb found.config.sequence found.config.sequence refl) ∙ above_issued found others others_above in
        let there = mapped_at (λ (one : Step). one.config) (first ∷ others) number step (subst (λ (list : List Step). slice_get list number ≡ Some step) same at) in
        let long : number ≡ length (configs others) = let all = last ∙ ap (λ (list : List Step). length list) same in let mapped = length-map others (λ (one : Step). one.config) in omega (arith, all, mapped) in
        subst IsLastOf (sym same)
        (subst (λ (issued : List Configuration). slice_get (found.config ∷ issued) (length issued) ≡ Some step.config) (sym none)
        (subst (λ (n : ℕ). slice_get (found.config ∷ configs others) n ≡ Some step.config) long there))

    pub last_change : slice_get (found.config ∷ changes_in found steps) (length (changes_in found steps)) ≡ Some step.config
    last_change = by (some found.absent) refl (some found.lagging) refl
      where
        by : (absent : Bool) → some found.absent ≡ absent → (lagging : Bool) → some found.lagging ≡ lagging → IsLastOf steps
        by true absent lagging l =
            where_above (lost_step timestamp found ∷ others) (lost_first absent)
            (loss_rises found changes timestamp steps are (lost_step timestamp found) (lost_is absent) absent, others_above)
        by false present true lagging = where_mended (after (Some (mending_step timestamp found)) (mending_is present lagging))
        by false present false level = where_above others (after None (none_is present level)) others_above
