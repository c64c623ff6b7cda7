-- What a command issues is near: the loss of absent members first, and then what each step makes of the configuration before it.
use Rattle.std.proofs.Common.{◌≡◌, ◌∙◌, ℕ, ◌+◌, ◌<◌, ◌≤◌, ◌&&◌, ◌||◌, nat_lt, Bool, true, false, List, [], ◌∷◌, ◌++◌, Option, Some, None, Ok, if◌then◌else◌, refl, ap, sym, subst, arith}
use Rattle.std.proofs.lemmas.Bool.{eq-eqb, false≢true, ltb-false}
use Rattle.std.specs.Prelude.{option_to_list}
use Rattle.std.specs.List.{AllByRecursion}
use Rattle.ddf_config.specs.declared.refusal.Refusal.{Refusal}
use Rattle.ddf_config.specs.Configuration.{Configuration}
use Rattle.ddf_plan.specs.declared.change.Change.{Change}
use Rattle.ddf_plan.specs.declared.change.Change.TheVariants.{Lose}
use Rattle.ddf_plan.specs.Lose.{is_among}
use Rattle.ddf_plan.specs.Refusals.{greatest_sequence}
use Rattle.ddf_seats.specs.Group.{GroupValue}
use Rattle.ddf_seats.specs.Leading.{some}
use Rattle.ddf_steps.specs.Steps.{Step}
use Rattle.ddf_recovery.specs.Ready.{readied}
use Rattle.ddf_recovery.specs.Recovery.{config_lost, config_recovered, disks_recovered, loss_spent, lost_step, mending_step, recovery_of}
use Rattle.ddf_recovery.proofs.Numbered.{steps_numbered, raised_above}
use Rattle.ddf_recovery.proofs.ReadiedSteps.{are_tried, behind, loss_rises, none_spent, steps_are}
use Rattle.ddf_joining.specs.Joining.{Joining, join_config, join_refusal, join_spent, join_step, joining, joining_of, joining_unless}
use Rattle.ddf_history_steps.specs.Going.{changes_in}
use Rattle.ddf_history_steps.specs.Steps.{recovery_changes}
use Rattle.ddf_history_steps.proofs.Recovering.{lost_changes, no_changes}
use Rattle.ddf_history_steps.proofs.LastStep.{AreAbove, configs, first_issued, above_issued, numbered_above}
use Rattle.ddf_history_behind.specs.Behind.{AbsentAreCurrent, AreNearSteps, LosesSome, most_between}
use Rattle.ddf_history_behind.proofs.InTurn.{AreNearOn}
use Rattle.ddf_history_behind.proofs.Recovering.{first_absent}
use Rattle.ddf_history_behind.proofs.Steps.{first_among, loses_near, raised_most, steps_near}

-- ---- the loss

module _ (found : GroupValue) (current : AbsentAreCurrent found) where
  loss_on : some found.absent ≡ true → (config_lost found).sequence ≤ found.config.sequence + most_between found.config (config_lost found)
  loss_on absent =
      let first = first_absent found.config found.absent absent current in
      loses_near found.config (Lose found.absent) first.0 refl first.3
      (subst (λ (all : List ℕ). is_among all first.0 ≡ true) (sym first.2) (first_among first.0 first.1))

-- ---- the steps of a command

steps_on : (config : Configuration) (steps : List Step) → AreNearSteps config steps → AreNearOn config (configs steps)
steps_on config [] near = tt
steps_on config (step ∷ steps) near = (near.0, steps_on step.config steps near.1)

module _ (found : GroupValue) (current : AbsentAreCurrent found) (asked : List Change) (timestamp : ℕ) (steps : List Step) (are : readied found asked timestamp ≡ Ok steps) where
  -- those behind the recovery
  abbrev others : List Step
  others = behind found asked timestamp steps are

  lost_is : some found.absent ≡ true → recovery_of timestamp found ≡ Some (lost_step timestamp found)
  unfolding recovery_of
  lost_is absent = rw absent refl

  mending_is : some found.absent ≡ false → some found.lagging ≡ true → recovery_of timestamp found ≡ Some (mending_step timestamp found)
  unfolding recovery_of
  mending_is present lagging = rw (present, lagging) refl

  none_is : some found.absent ≡ false → some found.lagging ≡ false → recovery_of timestamp found ≡ None
  unfolding recovery_of
  none_is present level = rw (present, level) refl

  after : (next : Option Step) → recovery_of timestamp found ≡ next → steps ≡ option_to_list next ++ others
  after next is = steps_are found asked timestamp steps are ∙ ap (λ (one : Option Step). option_to_list one ++ others) is

  no_lower : found.config.sequence ≤ (config_recovered found).sequence
  unfolding config_recovered
  no_lower = by (some found.absent) refl
    where
      by : (absent : Bool) → some found.absent ≡ absent → found.config.sequence ≤ (if absent then config_lost found else found.config).sequence
      by true absent = let rises = loss_rises found asked timestamp steps are (lost_step timestamp found) (lost_is absent) absent in omega (arith, rises)
      by false present = omega arith

  others_above : AreAbove found.config.sequence others
  others_above =
      numbered_above found.config.sequence (config_recovered found).sequence others no_lower
      (steps_numbered timestamp asked (config_recovered found) (disks_recovered timestamp found) others (are_tried found asked timestamp steps are) (none_spent found asked timestamp steps are))

  -- What the command issues: the loss of absent members first, and then what the other steps make of it.
  abbrev issued : Bool → List Configuration
  issued absent = if absent then config_lost found ∷ configs others else configs others

  issued_are : changes_in found steps ≡ issued (some found.absent)
  issued_are = by (some found.absent) refl (some found.lagging) refl
    where
      from : (all : List Step) → steps ≡ all → changes_in found steps ≡ changes_in found all
      from all same = ap (changes_in found) same

      by : (absent : Bool) → some found.absent ≡ absent → (lagging : Bool) → some found.lagging ≡ lagging
          → changes_in found steps ≡ (if absent then config_lost found ∷ configs others else configs others)
      by true absent lagging l =
          from (lost_step timestamp found ∷ others) (after (Some (lost_step timestamp found)) (lost_is absent))
          ∙ above_issued found (lost_step timestamp found ∷ others) (loss_rises found asked timestamp steps are (lost_step timestamp found) (lost_is absent) absent, others_above)
      by false present true lagging =
          from (mending_step timestamp found ∷ others) (after (Some (mending_step timestamp found)) (mending_is present lagging))
          ∙ first_issued found (mending_step timestamp found) others true (eq-eqb found.config.sequence found.config.sequence refl)
          ∙ above_issued found others others_above
      by false present false level = from others (after None (none_is present level)) ∙ above_issued found others others_above

  -- Each is near the one before it,
  pub issued_near : AllByRecursion LosesSome asked → AreNearOn found.config (changes_in found steps)
  unfolding config_recovered
  issued_near lose =
      subst (AreNearOn found.config) (sym issued_are)
      (by (some found.absent) refl
      (steps_on (config_recovered found) others (steps_near timestamp asked lose (config_recovered found) (disks_recovered timestamp found) others (are_tried found asked timestamp steps are))))
    where
      by : (absent : Bool) → some found.absent ≡ absent → AreNearOn (if absent then config_lost found else found.config) (configs others)
          → AreNearOn found.config (if absent then config_lost found ∷ configs others else configs others)
      by true absent near = (loss_on found current absent, near)
      by false present near = near

  -- and where members are absent their loss is the first.
  pub issued_loss : some found.absent ≡ true → (rest : List Configuration) × (changes_in found steps ≡ config_lost found ∷ rest)
  issued_loss absent = (configs others, issued_are ∙ ap issued absent)

-- ---- a join

module _ (native : GroupValue) (current : AbsentAreCurrent native) (other : GroupValue) (timestamp : ℕ) (made : Joining) (is : joining timestamp native other ≡ Ok made) where
  unspent : (join_spent timestamp native other ≡ false) × (joining_of timestamp native other ≡ made)
  unfolding joining
  unspent = by (join_refusal timestamp native other) (join_spent timestamp native other) refl is
    where
      by : (refusal : Option Refusal) (spent : Bool) → join_spent timestamp native other ≡ spent → joining_unless refusal spent (joining_of timestamp native other) ≡ Ok made
          → (join_spent timestamp native other ≡ false) × (joining_of timestamp native other ≡ made)
      by (Some refusal) spent e h = absurd cc
      by None true e h = absurd cc
      by None false e h = (e, let same : joining_of timestamp native other ≡ made = cc in same)

  neither : (a b : Bool) → (a || b) ≡ false → a ≡ false
  neither true b e = absurd (false≢true (sym e))
  neither false b e = refl

  rises : some native.absent ≡ true → native.config.sequence < (config_lost native).sequence
  rises absent =
      let free = neither (loss_spent native) (nat_lt greatest_sequence (join_config native other).sequence) unspent.0 in
      let below : nat_lt greatest_sequence (config_lost native).sequence ≡ false = sym (ap (λ (b : Bool). b && nat_lt greatest_sequence (config_lost native).sequence) absent) ∙ free in
      raised_above native.config.sequence 2 (omega arith) (ltb-false greatest_sequence (config_lost native).sequence below)

  made_is : join_config native other ≡ made.step.config
  unfolding join_step
  made_is = ap (λ (one : Joining). one.step.config) unspent.1

  -- It takes one number.
  one_further : (before : Configuration) → config_recovered native ≡ before → made.step.config.sequence ≤ before.sequence + most_between before made.step.config
  one_further before same =
      let own : (join_config native other).sequence ≡ made.step.config.sequence = ap (λ (config : Configuration). config.sequence) made_is in
      let from : (config_recovered native).sequence ≡ before.sequence = ap (λ (config : Configuration). config.sequence) same in
      let most = raised_most (config_recovered native).sequence 1 in
      omega (arith, own, from, most)

  recovered : (absent : Bool) → some native.absent ≡ absent → config_recovered native ≡ (if absent then config_lost native else native.config)
  unfolding config_recovered
  recovered absent is_so = ap (λ (b : Bool). if b then config_lost native else native.config) is_so

  pub join_near : AreNearOn native.config (recovery_changes timestamp native ++ made.step.config ∷ [])
  join_near = by (some native.absent) refl
    where
      by : (absent : Bool) → some native.absent ≡ absent → AreNearOn native.config (recovery_changes timestamp native ++ made.step.config ∷ [])
      by true absent =
          subst (λ (first : List Configuration). AreNearOn native.config (first ++ made.step.config ∷ [])) (sym (lost_changes timestamp native absent (rises absent)))
          (loss_on native current absent, (one_further (config_lost native) (recovered true absent), tt))
      by false present =
          subst (λ (first : List Configuration). AreNearOn native.config (first ++ made.step.config ∷ [])) (sym (no_changes timestamp native present))
          (one_further native.config (recovered false present), tt)

  pub join_loss : some native.absent ≡ true → (rest : List Configuration) × (recovery_changes timestamp native ++ made.step.config ∷ [] ≡ config_lost native ∷ rest)
  join_loss absent = (made.step.config ∷ [], ap (λ (first : List Configuration). first ++ made.step.config ∷ []) (lost_changes timestamp native absent (rises absent)))
