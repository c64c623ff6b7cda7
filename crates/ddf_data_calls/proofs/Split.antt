-- The steps of a call on the blocks of an array, those before the blocks and the one behind them, by what they make of the configuration.
use Rattle.std.proofs.Common.{◌≡◌, ◌⊎◌, ◌∙◌, inl, inr, ⊎_elim, ℕ, ◌≤◌, Bool, true, false, List, [], ◌∷◌, ◌++◌, length, map, Option, Some, None, Result, Ok, Err, if◌then◌else◌, refl, ap, sym, subst, arith, append_assoc}
use Rattle.std.proofs.lemmas.List.{append_cancel_left}
use Rattle.std.specs.Prelude.{option_to_list, slice_get}
use Rattle.ddf_lemmas.proofs.Lists.{same_rest}
use Rattle.ddf_bay.specs.Sectors.{Image}
use Rattle.ddf_config.specs.declared.refusal.Refusal.{Refusal}
use Rattle.ddf_config.specs.declared.seat.Seat.{Seat}
use Rattle.ddf_config.specs.Configuration.{Configuration}
use Rattle.ddf_plan.specs.declared.change.Change.{Change}
use Rattle.ddf_plan.specs.Same.{is_step}
use Rattle.ddf_data_group.specs.Grouped.{Promises}
use Rattle.ddf_history.specs.Groups.{groups}
use Rattle.ddf_history.specs.Issued.{IsSince, Past}
use Rattle.ddf_seats.specs.declared.seated.Seated.{Seated}
use Rattle.ddf_seats.specs.Group.{GroupValue}
use Rattle.ddf_recovery.specs.Ready.{readied}
use Rattle.ddf_steps.specs.Ready.{steps_from, with_step}
use Rattle.ddf_recovery.specs.Recovery.{config_lost, config_recovered, disks_recovered, lost_step, mending_step, recovery_of}
use Rattle.ddf_seats.specs.Leading.{some}
use Rattle.ddf_steps.specs.Refusing.{step_refusal}
use Rattle.ddf_steps.specs.Steps.{Step, config_after, step_of}
use Rattle.ddf_seats.specs.Seated.{levelled}
use Rattle.ddf_recovery.proofs.ReadiedSteps.{are_tried, behind, steps_are}
use Rattle.ddf_history_steps.specs.Going.{IsOver, changes_in}
use Rattle.ddf_history_steps.proofs.LastIssued.{over_last}
use Rattle.ddf_history_steps.proofs.CommittingGoes.{changes_of_both}
use Rattle.ddf_history_steps.proofs.LastStep.{configs}
use Rattle.ddf_write_commands.specs.Around.{config_behind}
use Rattle.ddf_data_calls.specs.Calls.{AreMade, MayAsk}
use Rattle.ddf_data_calls.proofs.Begun.{done_is, last_of}
use Rattle.ddf_data_calls.proofs.Steps.{asked_made, few_asked, issued_are}

-- ---- lists

configs_parts : (one other : List Step) → configs (one ++ other) ≡ configs one ++ configs other
configs_parts [] other = refl
configs_parts (step ∷ one) other = ap (λ (all : List Configuration). step.config ∷ all) (configs_parts one other)

-- ---- the steps behind a recovery

-- The changes behind a first one are made of what that one makes of the configuration, where it is a step.
pub record HasLast (timestamp : ℕ) (before : Configuration) (first_disks : List Seated) (mark : Option Change) (asked : List Change) (one last : List Step) : Type 0 where
  pub config : Configuration
  pub disks : List Seated
  pub from : steps_from timestamp None asked config disks ≡ Ok last
  pub is_config : ((config ≡ before) × (one ≡ []) × ((change : Change) → mark ≡ Some change → is_step before change ≡ false)) ⊎ ((change : Change) × (mark ≡ Some change) × (config ≡ config_after before change) × (one ≡ step_of timestamp before first_disks change ∷ []))

module _ (timestamp : ℕ) (config : Configuration) (disks : List Seated) (asked : List Change) where
  none_first : (one last : List Step) → steps_from timestamp None [] config disks ≡ Ok one → steps_from timestamp None asked config disks ≡ Ok (one ++ last)
      → HasLast timestamp config disks None asked one last
  none_first one last first both =
      let none : ◌≡◌ {A = List Step} [] one = cc in
      record {
        config = config;
        disks = disks;
        from = subst (λ (all : List Step). steps_from timestamp None asked config disks ≡ Ok (all ++ last)) (sym none) both;
        is_config = inl (refl, sym none, λ change none_marked. absurd cc);
      }

  module _ (change : Change) (one last : List Step) where
    abbrev made : Step
    made = step_of timestamp config disks change

    stepped : (more : Result (List Step) Refusal) → steps_from timestamp None asked (step_of timestamp config disks change).config (map levelled (step_of timestamp config disks change).disks) ≡ more
        → ◌≡◌ {A = Result (List Step) Refusal} (Ok (step_of timestamp config disks change ∷ [])) (Ok one) → with_step (step_of timestamp config disks change) more ≡ Ok (one ++ last)
        → HasLast timestamp config disks (Some change) asked one last
    stepped (Err refusal) is first both = absurd cc
    stepped (Ok more) is first both =
        let own : step_of timestamp config disks change ∷ [] ≡ one = cc in
        let all : step_of timestamp config disks change ∷ more ≡ one ++ last = cc in
        let rest : step_of timestamp config disks change ∷ more ≡ step_of timestamp config disks change ∷ last = all ∙ ap (λ (l : List Step). l ++ last) (sym own) in
        let same : more ≡ last = same_rest (step_of timestamp config disks change) (step_of timestamp config disks change) more last rest in
        record {
          config = (step_of timestamp config disks change).config;
          disks = map levelled (step_of timestamp config disks change).disks;
          from = is ∙ ap (λ (l : List Step). Ok l) same;
          is_config = inr (change, refl, refl, sym own);
        }

    by_step : (is : Bool) → is_step config change ≡ is
        → ◌≡◌ {A = Result (List Step) Refusal} (if is then with_step (step_of timestamp config disks change) (Ok []) else Ok []) (Ok one)
        → ◌≡◌ {A = Result (List Step) Refusal} (if is then with_step (step_of timestamp config disks change)
        (steps_from timestamp None asked (step_of timestamp config disks change).config (map levelled (step_of timestamp config disks change).disks))
        else steps_from timestamp None asked config disks) (Ok (one ++ last))
        → HasLast timestamp config disks (Some change) asked one last
    by_step true stepped_is first both =
        stepped (steps_from timestamp None asked (step_of timestamp config disks change).config (map levelled (step_of timestamp config disks change).disks)) refl first both
    by_step false unstepped first both =
        let none : ◌≡◌ {A = List Step} [] one = cc in
        record {
          config = config;
          disks = disks;
          from = subst (λ (all : List Step). steps_from timestamp None asked config disks ≡ Ok (all ++ last)) (sym none) both;
          is_config = inl (refl, sym none, λ other same. only_one other (some_change other same) unstepped);
        }
      where
        some_change : (other : Change) → Some change ≡ Some other → change ≡ other
        some_change other e = cc

        only_one : (other : Change) → change ≡ other → is_step config change ≡ false → is_step config other ≡ false
        only_one other e is = ap (is_step config) (sym e) ∙ is

    by_refusal : (refusal : Option Refusal) (is : Bool) → is_step config change ≡ is
        → ◌≡◌ {A = Result (List Step) Refusal} (elim refusal [ Some one ↦ Err one | None ↦ if is then with_step (step_of timestamp config disks change) (Ok []) else Ok [] ]) (Ok one)
        → ◌≡◌ {A = Result (List Step) Refusal} (elim refusal [
          | Some one ↦ Err one
          | None ↦ if is then with_step (step_of timestamp config disks change)
              (steps_from timestamp None asked (step_of timestamp config disks change).config (map levelled (step_of timestamp config disks change).disks))
              else steps_from timestamp None asked config disks
        ]) (Ok (one ++ last))
        → HasLast timestamp config disks (Some change) asked one last
    by_refusal (Some refusal) is is_so first both = absurd cc
    by_refusal None is is_so first both = by_step is is_so first both

  pub has_last : (mark : Option Change) (one last : List Step) → steps_from timestamp None (option_to_list mark) config disks ≡ Ok one
      → steps_from timestamp None (option_to_list mark ++ asked) config disks ≡ Ok (one ++ last) → HasLast timestamp config disks mark asked one last
  has_last None one last first both = none_first one last first both
  has_last (Some change) one last first both = by_refusal change one last (step_refusal timestamp None config disks change) (is_step config change) refl first both

-- ---- the steps of a group

module _ (found : GroupValue) (timestamp : ℕ) (mark : Option Change) (asked : List Change) (first last : List Step) (are_first : readied found (option_to_list mark) timestamp ≡ Ok first)
    (are_all : readied found (option_to_list mark ++ asked) timestamp ≡ Ok (first ++ last)) where
  -- those behind the recovery
  abbrev pub one : List Step
  one = behind found (option_to_list mark) timestamp first are_first

  abbrev both : List Step
  both = behind found (option_to_list mark ++ asked) timestamp (first ++ last) are_all

  both_are : behind found (option_to_list mark ++ asked) timestamp (first ++ last) are_all ≡ behind found (option_to_list mark) timestamp first are_first ++ last
  both_are =
      append_cancel_left (option_to_list (recovery_of timestamp found)) (behind found (option_to_list mark ++ asked) timestamp (first ++ last) are_all)
      (behind found (option_to_list mark) timestamp first are_first ++ last)
      (sym (steps_are found (option_to_list mark ++ asked) timestamp (first ++ last) are_all)
      ∙ ap (λ (all : List Step). all ++ last) (steps_are found (option_to_list mark) timestamp first are_first)
      ∙ append_assoc (option_to_list (recovery_of timestamp found)) (behind found (option_to_list mark) timestamp first are_first) last)

  pub split : HasLast timestamp (config_recovered found) (disks_recovered timestamp found) mark asked (behind found (option_to_list mark) timestamp first are_first) last
  split =
      has_last timestamp (config_recovered found) (disks_recovered timestamp found) asked mark (behind found (option_to_list mark) timestamp first are_first) last
      (are_tried found (option_to_list mark) timestamp first are_first)
      (are_tried found (option_to_list mark ++ asked) timestamp (first ++ last) are_all ∙ ap (λ (all : List Step). Ok all) both_are)

  -- Each of the last steps issues its configuration.
  pub last_issued : changes_in found last ≡ configs last
  last_issued =
      append_cancel_left (changes_in found first) (changes_in found last) (configs last)
      (sym (changes_of_both found first last) ∙ issued_are found (option_to_list mark ++ asked) timestamp (first ++ last) are_all
      ∙ by (some found.absent) ∙ ap (λ (all : List Configuration). all ++ configs last) (sym (issued_are found (option_to_list mark) timestamp first are_first)))
    where
      by : (absent : Bool)
          → (if absent then config_lost found ∷ configs (behind found (option_to_list mark ++ asked) timestamp (first ++ last) are_all)
          else configs (behind found (option_to_list mark ++ asked) timestamp (first ++ last) are_all))
          ≡ (if absent then config_lost found ∷ configs (behind found (option_to_list mark) timestamp first are_first) else configs (behind found (option_to_list mark) timestamp first are_first))
          ++ configs last
      by true = ap (λ (all : List Step). config_lost found ∷ configs all) both_are ∙ ap (λ (all : List Configuration). config_lost found ∷ all) (configs_parts (behind found (option_to_list mark) timestamp first are_first) last)
      by false = ap configs both_are ∙ configs_parts (behind found (option_to_list mark) timestamp first are_first) last

  -- Where one change is asked behind the blocks at the most, they issue one.
  pub last_few : (ask : Option Change) → asked ≡ option_to_list ask → length (changes_in found last) ≤ 1
  last_few ask is =
      subst (λ (all : List Configuration). length all ≤ 1) (sym last_issued)
      (few_asked timestamp (split).config (split).disks ask last
      (subst (λ (all : List Change). steps_from timestamp None all (split).config (split).disks ≡ Ok last) is (split).from))

  -- the configuration between the steps
  pub between : Configuration
  between = (split).config

  -- from which the last steps go on,
  pub steps_last : steps_from timestamp None asked between (split).disks ≡ Ok last
  unfolding between
  steps_last = (split).from

  -- is the recovered one, or what a change of that is
  pub between_config : (between ≡ config_recovered found) ⊎ ((change : Change) × (mark ≡ Some change) × (between ≡ config_after (config_recovered found) change))
  unfolding between
  between_config = ⊎_elim (λ same. inl same.0) (λ made. inr (made.0, made.1, made.2)) (split).is_config

  -- where it is the recovered one, what stands before the blocks is no step
  pub between_steps : ((between ≡ config_recovered found) × ((change : Change) → mark ≡ Some change → is_step (config_recovered found) change ≡ false))
      ⊎ ((change : Change) × (mark ≡ Some change) × (between ≡ config_after (config_recovered found) change))
  unfolding between
  between_steps = ⊎_elim (λ same. inl (same.0, same.2)) (λ made. inr (made.0, made.1, made.2)) (split).is_config

  between_last : slice_get (config_recovered found ∷ configs (behind found (option_to_list mark) timestamp first are_first)) (length (configs (behind found (option_to_list mark) timestamp first are_first))) ≡ Some between
  unfolding between
  between_last = ⊎_elim
      (λ same. subst (λ (all : List Step). slice_get (config_recovered found ∷ configs all) (length (configs all)) ≡ Some (split).config) (sym same.1) (ap Some (sym same.0)))
      (λ made. subst (λ (all : List Step). slice_get (config_recovered found ∷ configs all) (length (configs all)) ≡ Some (split).config) (sym made.3) (ap Some (sym made.2)))
      (split).is_config

  -- what steps behind the recovery make of the group's configuration is what they make of the recovered one
  recovered_behind : (steps : List Step) → config_behind found.config (option_to_list (recovery_of timestamp found) ++ steps) ≡ config_behind (config_recovered found) steps
  unfolding recovery_of config_recovered
  recovered_behind steps = by (some found.absent) (some found.lagging)
    where
      by : (absent lagging : Bool)
          → config_behind found.config (option_to_list (if absent then Some (lost_step timestamp found) else if lagging then Some (mending_step timestamp found) else None) ++ steps)
          ≡ config_behind (if absent then config_lost found else found.config) steps
      by true lagging = refl
      by false true = refl
      by false false = refl

  -- It is that behind the first of these,
  pub between_is : config_behind found.config first ≡ between
  unfolding between
  between_is =
      ap (config_behind found.config) (steps_are found (option_to_list mark) timestamp first are_first)
      ∙ recovered_behind (behind found (option_to_list mark) timestamp first are_first)
      ∙ ⊎_elim
      (λ same. ap (config_behind (config_recovered found)) same.1 ∙ sym same.0)
      (λ made. ap (config_behind (config_recovered found)) made.3 ∙ sym made.2)
      (split).is_config

  -- and the last of the changes that these issue.
  pub between_issued : slice_get (found.config ∷ changes_in found first) (length (changes_in found first)) ≡ Some between
  between_issued =
      ap (λ (all : List Configuration). slice_get (found.config ∷ all) (length all)) (issued_are found (option_to_list mark) timestamp first are_first)
      ∙ sym (last_of found (configs (behind found (option_to_list mark) timestamp first are_first))) ∙ between_last

  module _ (group : List ℕ) (past now : Past (groups group)) (readable : ℕ → Bool) (over : IsOver group past readable found (changes_in found first) now) where
    -- Once these are acknowledged it is the one configuration,
    pub between_alone : (number : ℕ) (other : Configuration) → IsSince now.changes number other → other ≡ between
    between_alone number other since =
        let same : ◌≡◌ {A = Option Configuration} (Some other) (Some between) = sym (done_is group past now readable found (changes_in found first) over number other since) ∙ between_issued in cc

    pub between_since : IsSince now.changes now.changes.acked between
    between_since = record { late = omega arith; is_there = over_last group past readable found (changes_in found first) now over ∙ between_issued }

  -- What the last steps make of it is what the changes behind the blocks make of it.
  pub last_made : (ask : Option Change) → asked ≡ option_to_list ask → (seats : Configuration → List Seat) (image : Image) (promises : Promises)
      → MayAsk between (seats between) image promises ask → AreMade seats image promises between (changes_in found last)
  unfolding between
  last_made ask is seats image promises may =
      subst (AreMade seats image promises (split).config) (sym last_issued)
      (asked_made timestamp (split).config (split).disks seats image promises ask last
      (subst (λ (all : List Change). steps_from timestamp None all (split).config (split).disks ≡ Ok last) is (split).from) may)
