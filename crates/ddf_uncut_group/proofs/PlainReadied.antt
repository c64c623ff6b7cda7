-- What the disks of all steps have that were readied for a group, where each step keeps it; and how many steps there are.
use Rattle.std.proofs.Common.{◌≡◌, ℕ, suc, ◌+◌, ◌≤◌, Bool, true, false, List, [], ◌∷◌, length, map, Option, Some, None, Result, Ok, Err, if◌then◌else◌, refl, ap, subst, arith}
use Rattle.std.specs.List.{AllByRecursion, list_any}
use Rattle.std.specs.Option.{option_to_list}
use Rattle.ddf_config.specs.declared.refusal.FullTable.{FullTable}
use Rattle.ddf_config.specs.declared.refusal.Refusal.{Refusal}
use Rattle.ddf_config.specs.declared.refusal.Refusal.TheVariants.{Unsettled}
use Rattle.ddf_config.specs.Configuration.{Configuration}
use Rattle.ddf_plan.specs.declared.change.Change.{Change}
use Rattle.ddf_plan.specs.Same.{is_step}
use Rattle.ddf_rewrite.specs.Before.{Before, before}
use Rattle.ddf_seats.specs.declared.fault.GroupFault.{GroupFault}
use Rattle.ddf_seats.specs.declared.fault.GroupFault.TheVariants.{Refused, SequenceSpent}
use Rattle.ddf_seats.specs.declared.seated.Seated.{Seated}
use Rattle.ddf_seats.specs.Group.{GroupValue}
use Rattle.ddf_steps.specs.Ready.{is_spent, steps_from, unless_spent, with_step}
use Rattle.ddf_recovery.specs.Ready.{readied, with_recovery}
use Rattle.ddf_recovery.specs.Recovery.{config_lost, config_recovered, disks_recovered, full_of_recovery, has_stray, loss_spent, lost_step, mended_or_kept, mending_step, recovery_of}
use Rattle.ddf_seats.specs.Leading.{leading, some}
use Rattle.ddf_steps.specs.Refusing.{step_refusal}
use Rattle.ddf_seats.specs.Seated.{seated, views_in, levelled}
use Rattle.ddf_steps.specs.Steps.{Step, config_after, disks_after, step_of}

module _ (Q : List Seated → Type 0)
    (after : (timestamp : ℕ) (leaders : Before) (config : Configuration) (disks : List Seated) → Q disks → Q (disks_after timestamp leaders config disks))
    (level : (disks : List Seated) → Q disks → Q (map levelled disks))
    (mend : (timestamp : ℕ) (group : GroupValue) → Q (seated group) → Q (mending_step timestamp group).disks)
    (keep : (timestamp : ℕ) (group : GroupValue) → Q (seated group) → Q (map (mended_or_kept timestamp group) (seated group))) where
  -- the disks of each step have it
  abbrev AllHave : List Step → Type 0
  AllHave steps = AllByRecursion (λ step. Q step.disks) steps

  -- ---- recovery

  module _ (timestamp : ℕ) (group : GroupValue) (are : Q (seated group)) where
    lost_have : Q (lost_step timestamp group).disks
    lost_have = after timestamp (leading group) (config_lost group) (seated group) are

    -- The disks behind the recovery have it.
    recovered_have : Q (disks_recovered timestamp group)
    unfolding disks_recovered
    recovered_have = by (some group.absent)
      where
        by : (lacks : Bool) → Q (if lacks then map levelled (lost_step timestamp group).disks else map (mended_or_kept timestamp group) (seated group))
        by true = level (lost_step timestamp group).disks lost_have
        by false = keep timestamp group are

    -- Those that it writes do.
    recovery_has : (step : Step) → recovery_of timestamp group ≡ Some step → Q step.disks
    unfolding recovery_of
    recovery_has step = by (some group.absent) (some group.lagging)
      where
        same_step : (one other : Step) → ◌≡◌ {A = Option Step} (Some one) (Some other) → one ≡ other
        same_step one other same = cc

        by : (lacks behind : Bool) → ◌≡◌ {A = Option Step} (if lacks then Some (lost_step timestamp group) else (if behind then Some (mending_step timestamp group) else None)) (Some step) → Q step.disks
        by true behind is = subst (λ (one : Step). Q one.disks) (same_step (lost_step timestamp group) step is) lost_have
        by false true is = subst (λ (one : Step). Q one.disks) (same_step (mending_step timestamp group) step is) (mend timestamp group are)
        by false false is = absurd (let no : ◌≡◌ {A = Option Step} None (Some step) = is in cc)

  -- ---- changes

  same_steps : (one other : List Step) → ◌≡◌ {A = Result (List Step) Refusal} (Ok one) (Ok other) → one ≡ other
  same_steps one other same = cc

  -- A step with those behind it.
  with_have : (step : Step) (behind : Result (List Step) Refusal) (steps : List Step) → Q step.disks → ((rest : List Step) → behind ≡ Ok rest → AllHave rest)
      → with_step step behind ≡ Ok steps → AllHave steps
  with_have step (Ok rest) steps are others is = subst AllHave (same_steps (step ∷ rest) steps is) (are, others rest refl)
  with_have step (Err refusal) steps are others is = absurd cc

  -- The steps of changes.
  steps_have : (timestamp : ℕ) (full : Option FullTable) (changes : List Change) (config : Configuration) (disks : List Seated) (steps : List Step) → Q disks
      → steps_from timestamp full changes config disks ≡ Ok steps → AllHave steps
  steps_have timestamp None [] config disks steps are is = subst AllHave (same_steps [] steps is) tt
  steps_have timestamp (Some table) [] config disks steps are is = absurd cc
  steps_have timestamp full (change ∷ changes) config disks steps are is =
      let step = step_of timestamp config disks change in
      let own = after timestamp (before (views_in disks)) (config_after config change) disks are in
      by (step_refusal timestamp full config disks change) (is_step config change)
      (λ rest behind. steps_have timestamp None changes step.config (map levelled step.disks) rest (level step.disks own) behind)
      (λ rest behind. steps_have timestamp None changes config disks rest are behind) own is
    where
      by : (refusal : Option Refusal) (counts : Bool)
          → ((rest : List Step) → steps_from timestamp None changes (step_of timestamp config disks change).config (map levelled (step_of timestamp config disks change).disks) ≡ Ok rest → AllHave rest)
          → ((rest : List Step) → steps_from timestamp None changes config disks ≡ Ok rest → AllHave rest)
          → Q (step_of timestamp config disks change).disks
          → ◌≡◌ {A = Result (List Step) Refusal} (elim refusal [
            | Some one ↦ Err one
            | None ↦
                if counts
                then with_step (step_of timestamp config disks change)
                (steps_from timestamp None changes (step_of timestamp config disks change).config (map levelled (step_of timestamp config disks change).disks))
                else steps_from timestamp None changes config disks
          ]) (Ok steps) → AllHave steps
      by (Some one) counts behind others own is = absurd (let no : ◌≡◌ {A = Result (List Step) Refusal} (Err one) (Ok steps) = is in cc)
      by None true behind others own is =
          with_have (step_of timestamp config disks change) (steps_from timestamp None changes (step_of timestamp config disks change).config (map levelled (step_of timestamp config disks change).disks)) steps own behind is
      by None false behind others own is = others steps is

  -- ---- all

  spent_have : (answer : Result (List Step) Refusal) (steps : List Step) → ((rest : List Step) → answer ≡ Ok rest → AllHave rest) → unless_spent answer ≡ Ok steps → AllHave steps
  spent_have (Ok rest) steps all is = by (list_any is_spent rest) is
    where
      by : (spent : Bool) → ◌≡◌ {A = Result (List Step) GroupFault} (if spent then Err SequenceSpent else Ok rest) (Ok steps) → AllHave steps
      by true is = absurd (let no : ◌≡◌ {A = Result (List Step) GroupFault} (Err SequenceSpent) (Ok steps) = is in cc)
      by false is = let same : rest ≡ steps = (let alike : ◌≡◌ {A = Result (List Step) GroupFault} (Ok rest) (Ok steps) = is in cc) in subst AllHave same (all rest refl)
  spent_have (Err refusal) steps all is = absurd cc

  behind_have : (spent : Bool) (recovery : Option Step) (answer : Result (List Step) GroupFault) (steps : List Step) → ((step : Step) → recovery ≡ Some step → Q step.disks)
      → ((rest : List Step) → answer ≡ Ok rest → AllHave rest) → with_recovery spent recovery answer ≡ Ok steps → AllHave steps
  behind_have spent None answer steps first all is = all steps is
  behind_have true (Some step) (Ok rest) steps first all is = absurd cc
  behind_have false (Some step) (Ok rest) steps first all is =
      let same : step ∷ rest ≡ steps = (let alike : ◌≡◌ {A = Result (List Step) GroupFault} (Ok (step ∷ rest)) (Ok steps) = is in cc) in
      subst AllHave same (first step refl, all rest refl)
  behind_have spent (Some step) (Err fault) steps first all is = absurd cc

  -- All that was readied has it.
  pub readied_have : (group : GroupValue) (changes : List Change) (timestamp : ℕ) (steps : List Step) → Q (seated group) → readied group changes timestamp ≡ Ok steps
      → AllByRecursion (λ step. Q step.disks) steps
  unfolding readied
  readied_have group changes timestamp steps are = by (has_stray group)
    where
      by : (stray : Bool)
          → ◌≡◌ {A = Result (List Step) GroupFault} (if stray then Err (Refused Unsettled)
          else with_recovery (loss_spent group) (recovery_of timestamp group)
          (unless_spent (steps_from timestamp (full_of_recovery timestamp group) changes (config_recovered group) (disks_recovered timestamp group)))) (Ok steps) → AllHave steps
      by true is = absurd (let no : ◌≡◌ {A = Result (List Step) GroupFault} (Err (Refused Unsettled)) (Ok steps) = is in cc)
      by false is =
          behind_have (loss_spent group) (recovery_of timestamp group)
          (unless_spent (steps_from timestamp (full_of_recovery timestamp group) changes (config_recovered group) (disks_recovered timestamp group))) steps
          (recovery_has timestamp group are)
          (λ rest behind. spent_have (steps_from timestamp (full_of_recovery timestamp group) changes (config_recovered group) (disks_recovered timestamp group)) rest
          (λ own known. steps_have timestamp (full_of_recovery timestamp group) changes (config_recovered group) (disks_recovered timestamp group) own (recovered_have timestamp group are) known) behind) is

-- ---- how many there are

-- what a change adds to the steps behind it
with_few : (step : Step) (behind : Result (List Step) Refusal) (steps : List Step) (count : ℕ) → ((rest : List Step) → behind ≡ Ok rest → length rest ≤ count)
    → with_step step behind ≡ Ok steps → length steps ≤ suc count
with_few step (Ok rest) steps count few is =
    let all : step ∷ rest ≡ steps = (let alike : ◌≡◌ {A = Result (List Step) Refusal} (Ok (step ∷ rest)) (Ok steps) = is in cc) in
    let below = few rest refl in
    let long : suc (length rest) ≡ length steps = ap length all in
    omega (arith, below, long)
with_few step (Err refusal) steps count few is = absurd cc

-- There are no more steps than changes.
steps_few : (timestamp : ℕ) (full : Option FullTable) (changes : List Change) (config : Configuration) (disks : List Seated) (steps : List Step)
    → steps_from timestamp full changes config disks ≡ Ok steps → length steps ≤ length changes
steps_few timestamp None [] config disks steps is =
    let none : [] ≡ steps = (let alike : ◌≡◌ {A = Result (List Step) Refusal} (Ok []) (Ok steps) = is in cc) in
    let long : 0 ≡ length steps = ap length none in
    omega (arith, long)
steps_few timestamp (Some table) [] config disks steps is = absurd cc
steps_few timestamp full (change ∷ changes) config disks steps is =
    let step = step_of timestamp config disks change in
    by (step_refusal timestamp full config disks change) (is_step config change)
    (λ rest behind. steps_few timestamp None changes step.config (map levelled step.disks) rest behind)
    (λ rest behind. steps_few timestamp None changes config disks rest behind) is
  where
    by : (refusal : Option Refusal) (counts : Bool)
        → ((rest : List Step) → steps_from timestamp None changes (step_of timestamp config disks change).config (map levelled (step_of timestamp config disks change).disks) ≡ Ok rest
        → length rest ≤ length changes)
        → ((rest : List Step) → steps_from timestamp None changes config disks ≡ Ok rest → length rest ≤ length changes)
        → ◌≡◌ {A = Result (List Step) Refusal} (elim refusal [
          | Some one ↦ Err one
          | None ↦
              if counts
              then with_step (step_of timestamp config disks change)
              (steps_from timestamp None changes (step_of timestamp config disks change).config (map levelled (step_of timestamp config disks change).disks))
              else steps_from timestamp None changes config disks
        ]) (Ok steps) → length steps ≤ suc (length changes)
    by (Some one) counts behind others is = absurd (let no : ◌≡◌ {A = Result (List Step) Refusal} (Err one) (Ok steps) = is in cc)
    by None true behind others is =
        with_few (step_of timestamp config disks change)
        (steps_from timestamp None changes (step_of timestamp config disks change).config (map levelled (step_of timestamp config disks change).disks)) steps (length changes) behind is
    by None false behind others is = let few = others steps is in omega (arith, few)

spent_few : (answer : Result (List Step) Refusal) (steps : List Step) (count : ℕ) → ((rest : List Step) → answer ≡ Ok rest → length rest ≤ count) → unless_spent answer ≡ Ok steps → length steps ≤ count
spent_few (Ok rest) steps count few is = by (list_any is_spent rest) is
  where
    by : (spent : Bool) → ◌≡◌ {A = Result (List Step) GroupFault} (if spent then Err SequenceSpent else Ok rest) (Ok steps) → length steps ≤ count
    by true is = absurd (let no : ◌≡◌ {A = Result (List Step) GroupFault} (Err SequenceSpent) (Ok steps) = is in cc)
    by false is =
        let same : rest ≡ steps = (let alike : ◌≡◌ {A = Result (List Step) GroupFault} (Ok rest) (Ok steps) = is in cc) in
        subst (λ (all : List Step). length all ≤ count) same (few rest refl)
spent_few (Err refusal) steps count few is = absurd cc

behind_few : (spent : Bool) (recovery : Option Step) (answer : Result (List Step) GroupFault) (steps : List Step) (count : ℕ) → ((rest : List Step) → answer ≡ Ok rest → length rest ≤ count)
    → with_recovery spent recovery answer ≡ Ok steps → length steps ≤ length (option_to_list recovery) + count
behind_few spent None answer steps count few is = let below = few steps is in omega (arith, below)
behind_few true (Some step) (Ok rest) steps count few is = absurd cc
behind_few false (Some step) (Ok rest) steps count few is =
    let all : step ∷ rest ≡ steps = (let alike : ◌≡◌ {A = Result (List Step) GroupFault} (Ok (step ∷ rest)) (Ok steps) = is in cc) in
    let below = few rest refl in
    let long : suc (length rest) ≡ length steps = ap length all in
    omega (arith, below, long)
behind_few spent (Some step) (Err fault) steps count few is = absurd cc

-- There are no more than the changes, and the recovery where there is one.
pub readied_few : (group : GroupValue) (changes : List Change) (timestamp : ℕ) (steps : List Step) → readied group changes timestamp ≡ Ok steps
    → length steps ≤ length (option_to_list (recovery_of timestamp group)) + length changes
unfolding readied
readied_few group changes timestamp steps = by (has_stray group)
  where
    by : (stray : Bool)
        → ◌≡◌ {A = Result (List Step) GroupFault} (if stray then Err (Refused Unsettled)
        else with_recovery (loss_spent group) (recovery_of timestamp group)
        (unless_spent (steps_from timestamp (full_of_recovery timestamp group) changes (config_recovered group) (disks_recovered timestamp group)))) (Ok steps)
        → length steps ≤ length (option_to_list (recovery_of timestamp group)) + length changes
    by true is = absurd (let no : ◌≡◌ {A = Result (List Step) GroupFault} (Err (Refused Unsettled)) (Ok steps) = is in cc)
    by false is =
        behind_few (loss_spent group) (recovery_of timestamp group)
        (unless_spent (steps_from timestamp (full_of_recovery timestamp group) changes (config_recovered group) (disks_recovered timestamp group))) steps (length changes)
        (λ rest behind. spent_few (steps_from timestamp (full_of_recovery timestamp group) changes (config_recovered group) (disks_recovered timestamp group)) rest (length changes)
        (λ own known. steps_few timestamp (full_of_recovery timestamp group) changes (config_recovered group) (disks_recovered timestamp group) own known) behind) is
