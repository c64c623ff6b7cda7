-- What is ready to be written, taken apart as the steps are that were readied.
use Rattle.std.proofs.Common.{◌≡◌, ℕ, ◌<◌, true, false, List, ◌++◌, map, Option, Some, None, Ok, sym, ap, ◌∙◌, subst}
use Rattle.std.specs.Prelude.{option_map, option_to_list}
use Rattle.std.specs.List.{AllByRecursion, list_any}
use Rattle.ddf_plan.specs.declared.change.Change.{Change}
use Rattle.ddf_view.specs.Reading.{are_noted}
use Rattle.ddf_group.specs.Shown.{shown_of}
use Rattle.ddf_recovery.specs.Committed.{WasReadied}
use Rattle.ddf_seats.specs.Group.{GroupValue}
use Rattle.ddf_steps.specs.Ready.{ReadyStep, is_spent, steps_from}
use Rattle.ddf_recovery.specs.Ready.{ReadyValue, all_ready}
use Rattle.ddf_recovery.specs.Recovery.{config_lost, config_recovered, disks_recovered, full_of_recovery, has_stray, recovery_of}
use Rattle.ddf_seats.specs.Leading.{leading_views, some}
use Rattle.ddf_seats.specs.Seated.{seated}
use Rattle.ddf_steps.specs.Steps.{Step}
use Rattle.ddf_recovery.proofs.Behind.{IsBehind, is_behind}
use Rattle.ddf_recovery.proofs.CommittedReadied.{NoneSpent}
use Rattle.ddf_recovery.proofs.ReadiedSteps as readied_steps
use Rattle.ddf_recovery.proofs.Recovered.{IsOwn, all_own}

-- Where two lists begin with the same recovery they go on alike.
same_rest : (one : Option ReadyStep) (next : Option Step) (steps : List ReadyStep) (rest : List Step) → option_map (λ (one : ReadyStep). one.step) one ≡ next
    → map (λ (one : ReadyStep). one.step) (option_to_list one ++ steps) ≡ option_to_list next ++ rest → rest ≡ map (λ (one : ReadyStep). one.step) steps
same_rest None None steps rest next is = sym is
same_rest None (Some step) steps rest next is = absurd cc
same_rest (Some one) None steps rest next is = absurd cc
same_rest (Some one) (Some step) steps rest next is = cc

module _ (group : GroupValue) (changes : List Change) (timestamp : ℕ) (ready : ReadyValue) (was : WasReadied group changes timestamp ready) where
  -- all that is ready
  abbrev steps : List Step
  steps = map (λ one. one.step) (all_ready ready)

  -- No seat's disk is one that recovery can't write.
  pub none_stray : has_stray group ≡ false
  none_stray = readied_steps.none_stray group changes timestamp steps was.is_readied

  -- So each that is of the group is no later than its configuration.
  pub own : AllByRecursion (IsOwn group.config) (seated group)
  own = all_own (map shown_of group.newest) group.newest (are_noted (leading_views group)) group.config (seated group) none_stray

  -- The steps behind the recovery are those that are ready.
  behind_are : readied_steps.behind group changes timestamp steps was.is_readied ≡ map (λ one. one.step) ready.steps
  behind_are =
      same_rest ready.recovery (recovery_of timestamp group) ready.steps (readied_steps.behind group changes timestamp steps was.is_readied) was.is_recovery
      (readied_steps.steps_are group changes timestamp steps was.is_readied)

  -- No table is full.
  pub has_room : full_of_recovery timestamp group ≡ None
  has_room = readied_steps.has_room group changes timestamp steps was.is_readied

  -- They are those of the changes behind the recovery.
  pub are_tried : steps_from timestamp None changes (config_recovered group) (disks_recovered timestamp group) ≡ Ok (map (λ one. one.step) ready.steps)
  are_tried = readied_steps.are_tried group changes timestamp steps was.is_readied ∙ ap (λ (all : List Step). Ok all) behind_are

  -- None of them is spent.
  pub none_spent : NoneSpent ready.steps
  none_spent = subst (λ (all : List Step). list_any is_spent all ≡ false) behind_are (readied_steps.none_spent group changes timestamp steps was.is_readied)

  -- The sequence number of a loss is greater than the group's.
  pub loss_rises : (one : ReadyStep) → ready.recovery ≡ Some one → some group.absent ≡ true → group.config.sequence < (config_lost group).sequence
  loss_rises one is =
      readied_steps.loss_rises group changes timestamp steps was.is_readied one.step
      (sym was.is_recovery ∙ ap (λ (next : Option ReadyStep). option_map (λ (one : ReadyStep). one.step) next) is)

  -- The configuration and the disks are those behind the recovery.
  pub behind : IsBehind timestamp group ready.recovery
  behind = is_behind timestamp was.time group was.assembled ready.recovery was.is_recovery has_room was.recovers
