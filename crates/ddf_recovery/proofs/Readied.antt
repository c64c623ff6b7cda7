-- The steps of changes, one after another.
use Rattle.std.proofs.Common.{◌≡◌, ℕ, Bool, true, false, List, ◌∷◌, ◌++◌, map, Option, Some, None, Result, Ok, Err, ◌&&◌, ◌||◌, nat_lt, option_map, refl, sym, ap, ◌∙◌, if◌then◌else◌}
use Rattle.std.specs.Option.{option_map_or}
use Rattle.ddf_config.specs.declared.refusal.FullTable.{FullTable}
use Rattle.ddf_config.specs.declared.refusal.Refusal.TheVariants.{Unsettled}
use Rattle.std.proofs.lemmas.List.{reverse-reverse}
use Rattle.std.specs.Prelude.{option_to_list, reverse}
use Rattle.std.specs.List.{list_any}
use Rattle.ddf_config.specs.declared.refusal.Refusal.{Refusal}
use Rattle.ddf_config.specs.Configuration.{Configuration}
use Rattle.ddf_plan.specs.declared.change.Change.{Change}
use Rattle.ddf_plan.specs.Refusals.{greatest_sequence}
use Rattle.ddf_rewrite.proofs.Stays.{any_mapped}
use Rattle.ddf_seats.specs.declared.fault.GroupFault.{GroupFault}
use Rattle.ddf_seats.specs.declared.fault.GroupFault.TheVariants.{Refused, SequenceSpent, Memory}
use Rattle.ddf_seats.specs.declared.seated.Seated.{Seated}
use Rattle.ddf_steps.specs.Steps.{Step}
use Rattle.ddf_seats.specs.Group.{GroupValue}
use Rattle.ddf_seats.specs.Seated.{seated}
use Rattle.ddf_recovery.specs.Ready.{IsReadied, readied, with_recovery}
use Rattle.ddf_steps.specs.Ready.{ReadyStep, is_spent, steps_from, unless_spent}
use Rattle.ddf_steps.specs.Tried.{AreTried}
use Rattle.ddf_recovery.specs.Behind.{IsRecovered, config_behind, disks_behind}
use Rattle.ddf_recovery.specs.Recovery.{config_lost, config_recovered, disks_recovered, full_of_recovery, has_stray, loss_spent, lost_step, mending_step, recovery_of}
use Rattle.ddf_seats.specs.Leading.{some}
use Rattle.ddf_recovery.proofs.Behind.{IsBehind}

-- ---- the answer

-- A fault behind a recovery is one of both.
recovery_fault : (spent : Bool) (next : Option Step) (fault : GroupFault) → with_recovery spent next (Err fault) ≡ Err fault
recovery_fault spent None fault = refl
recovery_fault spent (Some step) fault = refl

-- A loss or a step behind it passes the greatest sequence number.
abbrev pub are_over : (spent : Bool) → List ReadyStep → Bool
are_over spent steps = spent || list_any (λ one. is_spent one.step) steps

-- A recovery passes the greatest sequence number where it is a loss that does.
pub spent_is : (timestamp : ℕ) (group : GroupValue) (next : Option ReadyStep) → option_map (λ one. one.step) next ≡ recovery_of timestamp group
    → option_map_or (λ (one : ReadyStep). some group.absent && is_spent one.step) next false ≡ loss_spent group
unfolding recovery_of
spent_is timestamp group next same = by (some group.absent) refl (some group.lagging) next same
  where
    by : (a : Bool) → some group.absent ≡ a → (l : Bool) (made : Option ReadyStep)
        → option_map (λ one. one.step) made ≡ (if a then Some (lost_step timestamp group) else if l then Some (mending_step timestamp group) else None)
        → option_map_or (λ (one : ReadyStep). a && is_spent one.step) made false ≡ (a && nat_lt greatest_sequence (config_lost group).sequence)
    by true e l None same = absurd cc
    by true e l (Some one) same = let is : one.step ≡ lost_step timestamp group = cc in ap is_spent is
    by false e l None same = refl
    by false e l (Some one) same = refl

-- Without a recovery no loss does.
none_lost : (timestamp : ℕ) (group : GroupValue) → recovery_of timestamp group ≡ None → loss_spent group ≡ false
unfolding recovery_of
none_lost timestamp group none = by (some group.absent) (some group.lagging) none
  where
    by : (a l : Bool) → ◌≡◌ {A = Option Step} (if a then Some (lost_step timestamp group) else if l then Some (mending_step timestamp group) else None) None
        → (a && nat_lt greatest_sequence (config_lost group).sequence) ≡ false
    by true l h = absurd cc
    by false l h = refl

module _ (group : GroupValue) (changes : List Change) (timestamp : ℕ) where
  abbrev answer_by : (stray : Bool) → Option FullTable → Result (List Step) GroupFault
  answer_by stray full =
      if stray then Err (Refused Unsettled)
      else with_recovery (loss_spent group) (recovery_of timestamp group)
      (unless_spent (steps_from timestamp full changes (config_recovered group) (disks_recovered timestamp group)))

  -- A group with a disk that recovery can't write isn't changed.
  pub readied_stray : has_stray group ≡ true → readied group changes timestamp ≡ Err (Refused Unsettled)
  unfolding readied
  readied_stray stray = ap (λ (b : Bool). answer_by b (full_of_recovery timestamp group)) stray

  module _ (own : has_stray group ≡ false) where
    readied_from : (full : Option FullTable) → full_of_recovery timestamp group ≡ full → (found : Result (List Step) Refusal)
        → steps_from timestamp full changes (config_recovered group) (disks_recovered timestamp group) ≡ found
        → readied group changes timestamp ≡ with_recovery (loss_spent group) (recovery_of timestamp group) (unless_spent found)
    unfolding readied
    readied_from full room found are =
        ap (λ (b : Bool). answer_by b (full_of_recovery timestamp group)) own
        ∙ ap (answer_by false) room
        ∙ ap (λ (r : Result (List Step) Refusal). with_recovery (loss_spent group) (recovery_of timestamp group) (unless_spent r)) are

    -- A fault of the recovery is the answer.
    pub readied_first : (fault : GroupFault) → IsRecovered timestamp group changes (Err fault) → IsReadied (Err fault) (readied group changes timestamp)
    readied_first Memory tried = tt
    readied_first (Refused refusal) tried =
        readied_from (full_of_recovery timestamp group) refl (Err refusal) tried ∙ recovery_fault (loss_spent group) (recovery_of timestamp group) (Refused refusal)
    readied_first SequenceSpent tried = absurd tried

    module _ (next : Option ReadyStep) (recovered : IsRecovered timestamp group changes (Ok next)) (behind : IsBehind timestamp group next) where
      abbrev tried_behind : Result (List Step) Refusal
      tried_behind = steps_from timestamp None changes (config_behind group next) (disks_behind group next (seated group))

      readied_behind : (found : Result (List Step) Refusal) → tried_behind ≡ found
          → readied group changes timestamp ≡ with_recovery (loss_spent group) (option_map (λ one. one.step) next) (unless_spent found)
      readied_behind found are =
          readied_from None recovered.0 found
          (ap (λ (config : Configuration). steps_from timestamp None changes config (disks_recovered timestamp group)) (sym behind.config_is)
          ∙ ap (λ (disks : List Seated). steps_from timestamp None changes (config_behind group next) disks) (sym behind.disks_are) ∙ are)
          ∙ ap (λ (step : Option Step). with_recovery (loss_spent group) step (unless_spent found)) (sym recovered.1)

      -- A fault of the steps is the answer.
      pub readied_fault : (fault : GroupFault) → AreTried timestamp (config_behind group next) (disks_behind group next (seated group)) changes (Err fault) → IsReadied (Err fault) (readied group changes timestamp)
      readied_fault Memory tried = tt
      readied_fault (Refused refusal) tried = readied_behind (Err refusal) tried ∙ recovery_fault (loss_spent group) (option_map (λ one. one.step) next) (Refused refusal)
      readied_fault SequenceSpent tried = absurd tried

      module _ (steps : List ReadyStep) (tried : AreTried timestamp (config_behind group next) (disks_behind group next (seated group)) changes (Ok steps)) where
        abbrev all_steps : List ReadyStep → List Step
        all_steps all = map (λ one. one.step) all

        abbrev or_spent : Bool → List Step → Result (List Step) GroupFault
        or_spent spent all = if spent then Err SequenceSpent else Ok all

        all_spent : (spent : Bool) (made : Option ReadyStep) → (made ≡ None → spent ≡ false)
            → with_recovery spent (option_map (λ one. one.step) made) (unless_spent (Ok (all_steps steps))) ≡ or_spent (are_over spent steps) (all_steps (option_to_list made ++ steps))
        all_spent true None alone = absurd (let no : true ≡ false = alone refl in cc)
        all_spent false None alone = ap (λ (b : Bool). or_spent b (all_steps steps)) (any_mapped is_spent (λ (one : ReadyStep). one.step) steps)
        all_spent spent (Some made) alone =
            ap (λ (b : Bool). with_recovery spent (Some made.step) (or_spent b (all_steps steps))) (any_mapped is_spent (λ (one : ReadyStep). one.step) steps)
            ∙ by spent (list_any (λ one. is_spent one.step) steps)
          where
            by : (a b : Bool) → with_recovery a (Some made.step) (or_spent b (all_steps steps)) ≡ or_spent (a || b) (made.step ∷ all_steps steps)
            by true true = refl
            by true false = refl
            by false true = refl
            by false false = refl

        readied_by : (over : Bool) → are_over (loss_spent group) steps ≡ over → readied group changes timestamp ≡ or_spent over (all_steps (option_to_list next ++ steps))
        readied_by over is =
            readied_behind (Ok (all_steps steps)) tried
            ∙ all_spent (loss_spent group) next (λ none. none_lost timestamp group (sym recovered.1 ∙ ap (option_map (λ (one : ReadyStep). one.step)) none))
            ∙ ap (λ (b : Bool). or_spent b (all_steps (option_to_list next ++ steps))) is

        -- Where a sequence number is spent, so it is answered.
        pub readied_spent : are_over (loss_spent group) steps ≡ true → readied group changes timestamp ≡ Err SequenceSpent
        readied_spent is = readied_by true is

        -- Where none is, the steps are the answer.
        pub readied_steps : are_over (loss_spent group) steps ≡ false → (turned : List ReadyStep) → turned ≡ reverse steps
            → readied group changes timestamp ≡ Ok (map (λ one. one.step) (option_to_list next ++ reverse turned))
        readied_steps is turned so =
            readied_by false is
            ∙ ap (λ (l : List ReadyStep). Ok (map (λ (one : ReadyStep). one.step) (option_to_list next ++ l))) (sym (ap (λ (l : List ReadyStep). reverse l) so ∙ reverse-reverse steps))
