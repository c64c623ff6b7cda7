-- The steps that were readied, taken apart: the group has no disk that recovery can't write, no table is full, and no sequence number is spent.
use Rattle.std.proofs.Common.{◌≡◌, ℕ, ◌<◌, Bool, true, false, ◌&&◌, nat_lt, List, [], ◌∷◌, ◌++◌, Option, Some, None, Result, Ok, Err, refl, sym, ap, ◌∙◌, arith, if◌then◌else◌}
use Rattle.std.proofs.lemmas.Bool.{ltb-false}
use Rattle.std.specs.Prelude.{option_to_list}
use Rattle.std.specs.List.{list_any}
use Rattle.ddf_config.specs.declared.refusal.FullTable.{FullTable}
use Rattle.ddf_config.specs.declared.refusal.Refusal.{Refusal}
use Rattle.ddf_config.specs.declared.refusal.Refusal.TheVariants.{Unsettled}
use Rattle.ddf_config.specs.Configuration.{Configuration}
use Rattle.ddf_plan.specs.declared.change.Change.{Change}
use Rattle.ddf_plan.specs.Refusals.{greatest_sequence}
use Rattle.ddf_seats.specs.declared.fault.GroupFault.{GroupFault}
use Rattle.ddf_seats.specs.declared.fault.GroupFault.TheVariants.{Refused}
use Rattle.ddf_seats.specs.declared.seated.Seated.{Seated}
use Rattle.ddf_seats.specs.Group.{GroupValue}
use Rattle.ddf_steps.specs.Ready.{is_spent, steps_from, unless_spent}
use Rattle.ddf_recovery.specs.Ready.{readied, with_recovery}
use Rattle.ddf_recovery.specs.Recovery.{config_lost, config_recovered, disks_recovered, full_of_recovery, has_stray, loss_spent, recovery_of}
use Rattle.ddf_seats.specs.Leading.{some}
use Rattle.ddf_steps.specs.Steps.{Step}
use Rattle.ddf_recovery.proofs.CommittedReadied.{steps_or_spent}
use Rattle.ddf_recovery.proofs.WhenFull.{full_first}
use Rattle.ddf_recovery.proofs.Numbered.{raised_above}

abbrev Steps : Type 0
Steps = Result (List Step) Refusal

abbrev pub Answer : Type 0
Answer = Result (List Step) GroupFault

-- Where a table is full changes are refused.
none_full : (timestamp : ℕ) (full : Option FullTable) (changes : List Change) (config : Configuration) (disks : List Seated) (steps : List Step)
    → ◌≡◌ {A = Steps} (steps_from timestamp full changes config disks) (Ok steps) → full ≡ None
none_full timestamp None changes config disks steps h = refl
none_full timestamp (Some table) [] config disks steps h = absurd cc
none_full timestamp (Some table) (change ∷ changes) config disks steps h =
    let refused = sym (full_first timestamp table config disks change changes) ∙ h in absurd cc

-- The steps behind a recovery, and whether that is spent.
record HasBehind (spent : Bool) (next : Option Step) (answer : Answer) (steps : List Step) : Type 0 where
  behind : List Step
  steps_are : steps ≡ option_to_list next ++ behind
  is_answer : answer ≡ Ok behind
  not_spent : (step : Step) → next ≡ Some step → spent ≡ false

has_behind : (spent : Bool) (next : Option Step) (answer : Answer) (steps : List Step) → ◌≡◌ {A = Answer} (with_recovery spent next answer) (Ok steps) → HasBehind spent next answer steps
has_behind spent None answer steps is = record { behind = steps; steps_are = refl; is_answer = is; not_spent = λ step none. absurd cc }
has_behind spent (Some step) (Err fault) steps is = absurd cc
has_behind true (Some step) (Ok behind) steps is = absurd cc
has_behind false (Some step) (Ok behind) steps is =
    let same : step ∷ behind ≡ steps = cc in
    record { behind = behind; steps_are = sym same; is_answer = refl; not_spent = λ one has. refl }

module _ (group : GroupValue) (changes : List Change) (timestamp : ℕ) (steps : List Step) (is : readied group changes timestamp ≡ Ok steps) where
  abbrev tried : Steps
  tried = steps_from timestamp (full_of_recovery timestamp group) changes (config_recovered group) (disks_recovered timestamp group)

  abbrev answered : Bool → Answer
  answered stray = if stray then Err (Refused Unsettled) else with_recovery (loss_spent group) (recovery_of timestamp group) (unless_spent tried)

  is_answered : answered (has_stray group) ≡ Ok steps
  unfolding readied
  is_answered = is

  -- No seat's disk is one that recovery can't write.
  pub none_stray : has_stray group ≡ false
  none_stray = by (has_stray group) is_answered
    where
      by : (b : Bool) → answered b ≡ Ok steps → b ≡ false
      by true h = absurd cc
      by false h = refl

  parts : HasBehind (loss_spent group) (recovery_of timestamp group) (unless_spent tried) steps
  parts = has_behind (loss_spent group) (recovery_of timestamp group) (unless_spent tried) steps (sym (ap answered none_stray) ∙ is_answered)

  -- They are the recovery, where there is one, and the steps of the changes behind it.
  pub behind : List Step
  behind = parts.behind

  pub steps_are : steps ≡ option_to_list (recovery_of timestamp group) ++ behind
  unfolding behind
  steps_are = parts.steps_are

  both : (tried ≡ Ok behind) × (list_any is_spent behind ≡ false)
  unfolding behind
  both = steps_or_spent tried parts.behind parts.is_answer

  -- No table is full.
  pub has_room : full_of_recovery timestamp group ≡ None
  has_room = none_full timestamp (full_of_recovery timestamp group) changes (config_recovered group) (disks_recovered timestamp group) behind both.0

  pub are_tried : steps_from timestamp None changes (config_recovered group) (disks_recovered timestamp group) ≡ Ok behind
  are_tried = ap (λ (full : Option FullTable). steps_from timestamp full changes (config_recovered group) (disks_recovered timestamp group)) (sym has_room) ∙ both.0

  -- None of these is spent.
  pub none_spent : list_any is_spent behind ≡ false
  none_spent = both.1

  -- The sequence number of a loss is greater than the group's.
  pub loss_rises : (step : Step) → recovery_of timestamp group ≡ Some step → some group.absent ≡ true → group.config.sequence < (config_lost group).sequence
  loss_rises step next lost =
      let unspent : nat_lt greatest_sequence (config_lost group).sequence ≡ false =
      sym (ap (λ (b : Bool). b && nat_lt greatest_sequence (config_lost group).sequence) lost) ∙ parts.not_spent step next in
      raised_above group.config.sequence 2 (omega arith) (ltb-false greatest_sequence (config_lost group).sequence unspent)
