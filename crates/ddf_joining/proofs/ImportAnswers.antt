-- What making an import ready answers, by what its parts answer.
use Rattle.std.proofs.Common.{◌≡◌, ℕ, Bool, true, false, not, ◌&&◌, ◌||◌, List, [], ◌∷◌, ◌++◌, Option, Some, None, Result, Ok, Err, refl, sym, ap, subst, ◌∙◌, if◌then◌else◌}
use Rattle.std.specs.Prelude.{IfOk, IfSome, option_map}
use Rattle.std.specs.Option.{option_map_or, option_or}
use Rattle.ddf_config.specs.declared.refusal.FullTable.{FullTable}
use Rattle.ddf_config.specs.declared.refusal.Refusal.{Refusal}
use Rattle.ddf_config.specs.declared.refusal.Refusal.TheVariants as refusals
use Rattle.ddf_config.specs.declared.seat.Seat.{Seat}
use Rattle.ddf_config.specs.Refusals.{first_refusal, refuse_if}
use Rattle.ddf_config.proofs.Firsts.{all_pass, first_append}
use Rattle.ddf_plan.proofs.Made.{not_refused}
use Rattle.ddf_import.specs.Clash.{join_cause}
use Rattle.ddf_seats.specs.declared.fault.GroupFault.{GroupFault}
use Rattle.ddf_seats.specs.declared.fault.GroupFault.TheVariants.{Refused, SequenceSpent, Memory}
use Rattle.ddf_joining.specs.declared.importing.ReadyImport.{ReadyImport}
use Rattle.ddf_seats.specs.Group.{GroupValue}
use Rattle.ddf_joining.specs.Importing.{IsEarly, IsFinished, IsImportReadied, early_causes, last_cause, was_readied}
use Rattle.ddf_joining.specs.Joining.{Joining, bad_refusal, config_joining, full_of_join, has_no_seats, has_strays, join_refusal, join_spent, join_step, joining, joining_of, joining_unless, numbers_differ}
use Rattle.ddf_joining.specs.JoinValue.{JoinValue}
use Rattle.ddf_steps.specs.Ready.{ReadyStep, full_or_none, is_spent}
use Rattle.ddf_recovery.specs.Ready.{ReadyValue}
use Rattle.ddf_recovery.specs.Recovery.{config_recovered, disks_recovered, full_of_recovery, recovery_of}
use Rattle.ddf_seats.specs.Leading.{some}
use Rattle.ddf_seats.specs.Seated.{seated}
use Rattle.ddf_steps.specs.Steps.{Step}
use Rattle.ddf_joining.specs.Telling.{IsMadeBehind, native_side, other_side, refusal_behind, sides_step}
use Rattle.ddf_recovery.specs.Behind.{IsRecovered}
use Rattle.ddf_recovery.proofs.Readied.{spent_is}

abbrev spent_by : Bool → Option GroupFault
spent_by spent = if spent then Some SequenceSpent else None

abbrev last_by : Bool → Option Refusal → Option GroupFault
last_by spent found = elim found [ Some refusal ↦ Some (Refused refusal) | None ↦ if spent then Some SequenceSpent else None ]

-- ---- lists of causes

abbrev Checks : Type 0
Checks = List (Option Refusal)

-- Where nothing before a list refuses, it decides.
behind_none : (before behind : Checks) → first_refusal before ≡ None → first_refusal (before ++ behind) ≡ first_refusal behind
behind_none before behind none = first_append before behind ∙ ap (λ (first : Option Refusal). option_or first (first_refusal behind)) none

refuses : (check : Option Refusal) (behind : Checks) (refusal : Refusal) → check ≡ Some refusal → first_refusal (check ∷ behind) ≡ Some refusal
refuses None behind refusal h = absurd cc
refuses (Some one) behind refusal h = h

passes : (check : Option Refusal) (behind : Checks) → check ≡ None → first_refusal (check ∷ behind) ≡ first_refusal behind
passes None behind h = refl
passes (Some one) behind h = absurd cc

pub first_refuses : (before behind : Checks) (refusal : Refusal) → first_refusal before ≡ Some refusal → first_refusal (before ++ behind) ≡ Some refusal
first_refuses before behind refusal h = first_append before behind ∙ ap (λ (first : Option Refusal). option_or first (first_refusal behind)) h

module _ (timestamp : ℕ) (native other : GroupValue) where
  -- ---- the causes

  abbrev full : Option Refusal
  full = option_map refusals.Full (full_of_recovery timestamp native)

  abbrev none_left : Option Refusal
  none_left = refuse_if (not (some (disks_recovered timestamp native))) refusals.NoGroup

  abbrev full_then : Option Refusal
  full_then = option_map refusals.Full (full_of_join timestamp native other)

  abbrev bad : Option Refusal
  bad = bad_refusal other.seats

  refused : (refusal : Refusal) → join_refusal timestamp native other ≡ Some refusal → joining timestamp native other ≡ Err (Refused refusal)
  unfolding joining
  refused refusal h = ap (λ (first : Option Refusal). joining_unless first (join_spent timestamp native other) (joining_of timestamp native other)) h

  free : join_refusal timestamp native other ≡ None → joining timestamp native other ≡ (if join_spent timestamp native other then Err SequenceSpent else Ok (joining_of timestamp native other))
  unfolding joining
  free h = ap (λ (first : Option Refusal). joining_unless first (join_spent timestamp native other) (joining_of timestamp native other)) h

  refused_first : (refusal : Refusal) → first_refusal (early_causes native other) ≡ Some refusal → joining timestamp native other ≡ Err (Refused refusal)
  unfolding join_refusal
  refused_first refusal h = refused refusal (first_refuses (early_causes native other) (full ∷ none_left ∷ full_then ∷ bad ∷ []) refusal h)

  -- what is asked first refuses it
  pub refused_early : (fault : GroupFault) → IsEarly native other (Err fault) → (result : Result ReadyImport GroupFault) → result ≡ Err fault → IsImportReadied result (joining timestamp native other)
  refused_early Memory h result is = rw is tt
  refused_early (Refused refusal) h result is = rw is (refused_first refusal h)
  refused_early SequenceSpent h result is = absurd h

  module _ (early : first_refusal (early_causes native other) ≡ None) where
    pub early_seats : has_no_seats native other ≡ false
    early_seats =
        not_refused (has_no_seats native other) refusals.NoGroup
        (all_pass [] (refuse_if (has_no_seats native other) refusals.NoGroup)
        (refuse_if (has_strays native other) refusals.Unsettled ∷ join_cause (config_recovered native) (config_joining other) ∷ refuse_if (numbers_differ (seated native ++ seated other)) refusals.Geometry ∷ []) early)

    pub early_cause : join_cause (config_recovered native) (config_joining other) ≡ None
    early_cause =
        all_pass (refuse_if (has_no_seats native other) refusals.NoGroup ∷ refuse_if (has_strays native other) refusals.Unsettled ∷ [])
        (join_cause (config_recovered native) (config_joining other)) (refuse_if (numbers_differ (seated native ++ seated other)) refusals.Geometry ∷ []) early

    after_geometry : join_refusal timestamp native other ≡ first_refusal (full ∷ none_left ∷ full_then ∷ bad ∷ [])
    unfolding join_refusal
    after_geometry = behind_none (early_causes native other) (full ∷ none_left ∷ full_then ∷ bad ∷ []) early

    full_is : (found : Option FullTable) (refusal : Refusal) → full_or_none found ≡ Err refusal → option_map refusals.Full found ≡ Some refusal
    full_is None refusal h = absurd cc
    full_is (Some table) refusal h = let same : refusals.Full table ≡ refusal = cc in ap (λ (one : Refusal). Some one) same

    -- no room for the recovery
    pub refused_recovery : (fault : GroupFault) → IsRecovered timestamp native [] (Err fault) → (result : Result ReadyImport GroupFault) → result ≡ Err fault → IsImportReadied result (joining timestamp native other)
    refused_recovery Memory h result is = rw is tt
    refused_recovery (Refused refusal) h result is =
        rw is
        (refused refusal (after_geometry ∙ refuses full (none_left ∷ full_then ∷ bad ∷ []) refusal (full_is (full_of_recovery timestamp native) refusal h)))
    refused_recovery SequenceSpent h result is = absurd h

    module _ (room : full_of_recovery timestamp native ≡ None) where
      after_recovery : join_refusal timestamp native other ≡ first_refusal (none_left ∷ full_then ∷ bad ∷ [])
      after_recovery = after_geometry ∙ passes full (none_left ∷ full_then ∷ bad ∷ []) (ap (option_map refusals.Full) room)

      -- no disk that is left, or no room for the join
      pub refused_join : (fault : GroupFault) → IsMadeBehind timestamp native other (Err fault) → (result : Result ReadyImport GroupFault) → result ≡ Err fault → IsImportReadied result (joining timestamp native other)
      refused_join Memory h result is = rw is tt
      refused_join (Refused refusal) h result is =
          rw is
          (refused refusal (after_recovery ∙ first_refuses (none_left ∷ full_then ∷ []) (bad ∷ []) refusal h))
      refused_join SequenceSpent h result is = absurd h

      module _ (made : refusal_behind timestamp native other ≡ None) (one : ReadyStep) (is : one.step ≡ sides_step timestamp (native_side timestamp native) (other_side other))
          (next : Option ReadyStep) (recovered : option_map (λ one. one.step) next ≡ recovery_of timestamp native) where
        after_join : join_refusal timestamp native other ≡ first_refusal (bad ∷ [])
        after_join = after_recovery ∙ behind_none (none_left ∷ full_then ∷ []) (bad ∷ []) made

        step_is : join_step timestamp native other ≡ sides_step timestamp (native_side timestamp native) (other_side other)
        unfolding join_step
        step_is = refl

        abbrev loss_is : Bool
        loss_is = option_map_or (λ one. some native.absent && is_spent one.step) next false

        spent_same : join_spent timestamp native other ≡ (loss_is || is_spent one.step)
        spent_same =
            ap (λ (b : Bool). b || is_spent (sides_step timestamp (native_side timestamp native) (other_side other))) (sym (spent_is timestamp native next recovered))
            ∙ ap (λ (step : Step). loss_is || is_spent step) (sym is)

        by_bad : (found : Option Refusal) → found ≡ bad → (fault : GroupFault)
            → last_by (loss_is || is_spent one.step) found ≡ Some fault
            → IsImportReadied (Err fault) (joining timestamp native other)
        by_bad (Some refusal) e fault h =
            let same : Refused refusal ≡ fault = cc in
            rw (sym same) (refused refusal (after_join ∙ refuses bad [] refusal (sym e)))
        by_bad None e fault h = by_spent (loss_is || is_spent one.step) refl fault h
          where
            by_spent : (b : Bool) → (loss_is || is_spent one.step) ≡ b → (fault : GroupFault) → spent_by b ≡ Some fault → IsImportReadied (Err fault) (joining timestamp native other)
            by_spent true f fault h =
                let same : SequenceSpent ≡ fault = cc in
                rw (sym same)
                (free (after_join ∙ passes bad [] (sym e)) ∙ ap (λ (b : Bool). if b then Err SequenceSpent else Ok (joining_of timestamp native other)) (spent_same ∙ f))
            by_spent false f fault h = absurd cc

        -- a bad block, or a sequence number that is spent
        pub refused_last : (fault : GroupFault) → last_cause loss_is other.seats one.step ≡ Some fault → IsImportReadied (Err fault) (joining timestamp native other)
        refused_last fault h = by_bad bad refl fault h

        ok_bad : (found : Option Refusal) → found ≡ bad → last_by (loss_is || is_spent one.step) found ≡ None
            → joining timestamp native other ≡ Ok (joining_of timestamp native other)
        ok_bad (Some refusal) e h = absurd cc
        ok_bad None e h = by_spent (loss_is || is_spent one.step) refl h
          where
            by_spent : (b : Bool) → (loss_is || is_spent one.step) ≡ b → spent_by b ≡ None → joining timestamp native other ≡ Ok (joining_of timestamp native other)
            by_spent true f h = absurd cc
            by_spent false f h = free (after_join ∙ passes bad [] (sym e)) ∙ ap (λ (b : Bool). if b then Err SequenceSpent else Ok (joining_of timestamp native other)) (spent_same ∙ f)

        -- all is ready
        pub ready_is : last_cause loss_is other.seats one.step ≡ None → (seats : List Seat) → seats ≡ other.seats → (recovery : ReadyValue) (join : JoinValue)
            → recovery ≡ record { recovery = next; steps = [] } → join ≡ record { one = one; joining = seats }
            → joining timestamp native other ≡ Ok (was_readied recovery join)
        ready_is none seats same recovery join e f =
            ok_bad bad refl none
            ∙ ap (λ (found : Option Step). Ok (as_joining found (join_step timestamp native other) other.seats)) (sym recovered)
            ∙ ap (λ (step : Step). Ok (as_joining (option_map (λ one. one.step) next) step other.seats)) (step_is ∙ sym is)
            ∙ ap (λ (all : List Seat). Ok (as_joining (option_map (λ one. one.step) next) one.step all)) (sym same)
            ∙ ap (λ (made : JoinValue). Ok (was_readied (record { recovery = next; steps = [] }) made)) (sym f)
            ∙ ap (λ (made : ReadyValue). Ok (was_readied made join)) (sym e)
          where
            as_joining : Option Step → Step → List Seat → Joining
            as_joining found step all = record { recovery = found; step = step; joining = all }

        -- what comes last decides
        pub finished_readied : (result : Result ReadyImport GroupFault) → IsFinished loss_is other.seats next one result → IsImportReadied result (joining timestamp native other)
        finished_readied (Ok ready) h = ready_is h.0 other.seats refl ready.recovery ready.join h.1 h.2
        finished_readied (Err Memory) h = tt
        finished_readied (Err (Refused refusal)) h = refused_last (Refused refusal) h
        finished_readied (Err SequenceSpent) h = refused_last SequenceSpent h

-- ---- what was made ready

module _ (loss : Bool) (seats : List Seat) (next : Option ReadyStep) (one : ReadyStep) where
  pub finished_recovers : (P : ReadyStep → Type 0) (result : Result ReadyImport GroupFault) → IsFinished loss seats next one result → IfSome next P → IfOk result (λ ready. IfSome ready.recovery.recovery P)
  finished_recovers P (Ok ready) h follows = subst (λ (value : ReadyValue). IfSome value.recovery P) (sym h.1) follows
  finished_recovers P (Err fault) h follows = tt

  pub finished_none : (result : Result ReadyImport GroupFault) → IsFinished loss seats next one result → IfOk result (λ ready. ready.recovery.steps ≡ [])
  finished_none (Ok ready) h = ap (λ (value : ReadyValue). value.steps) h.1
  finished_none (Err fault) h = tt

  pub finished_follows : (P : ReadyStep → Type 0) (result : Result ReadyImport GroupFault) → IsFinished loss seats next one result → P one → IfOk result (λ ready. P ready.join.one)
  finished_follows P (Ok ready) h follows = subst (λ (value : JoinValue). P value.one) (sym h.2) follows
  finished_follows P (Err fault) h follows = tt
