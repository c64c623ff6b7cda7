-- What was readied for an import: the recovery is that of no change, and the join is one of the group behind it.
use Rattle.std.proofs.Common.{◌≡◌, ℕ, ◌^◌, ◌<◌, ◌≤◌, Bool, true, false, not, List, [], ◌∷◌, ◌++◌, map, Option, Some, None, Ok, Err, nat_lt, refl, sym, ap, subst, ◌∙◌, arith, if◌then◌else◌}
use Rattle.std.proofs.lemmas.Bool.{ltb-false}
use Rattle.std.specs.Prelude.{IfSome, option_map, option_to_list, slice_get}
use Rattle.std.specs.List.{AllByRecursion}
use Rattle.ddf_lemmas.proofs.Tests.{or_first, or_second}
use Rattle.ddf_config.specs.declared.refusal.FullTable.{FullTable}
use Rattle.ddf_config.specs.declared.refusal.Refusal.{Refusal}
use Rattle.ddf_config.specs.declared.refusal.Refusal.TheVariants as refusals
use Rattle.ddf_config.specs.Configuration.{Configuration}
use Rattle.ddf_config.specs.Refusals.{refuse_if}
use Rattle.ddf_config.proofs.Firsts.{all_pass}
use Rattle.ddf_import.specs.Clash.{join_cause}
use Rattle.ddf_plan.specs.Refusals.{greatest_sequence}
use Rattle.ddf_plan.proofs.Made.{not_refused}
use Rattle.ddf_seats.specs.declared.fault.GroupFault.TheVariants.{Refused, SequenceSpent}
use Rattle.ddf_seats.specs.declared.seated.Seated.{Seated}
use Rattle.ddf_assembly.specs.Assembled.{IsAssembledGroup}
use Rattle.ddf_recovery.specs.Committed.{WasReadied, group_recovered}
use Rattle.ddf_seats.specs.Group.{GroupValue}
use Rattle.ddf_joining.specs.Importing.{AreApart, IsJoinOf, IsOfAnother, was_readied}
use Rattle.ddf_joining.specs.Joining.{Joining, bad_refusal, both_disks, config_joining, full_of_join, has_no_seats, has_strays, join_config, join_disks, join_leaders, join_refusal, join_spent, join_step, joining, joining_of, joining_unless, numbers_differ}
use Rattle.ddf_joining.specs.JoinValue.{JoinValue}
use Rattle.ddf_steps.specs.Ready.{ReadyStep, steps_from, unless_spent}
use Rattle.ddf_recovery.specs.Ready.{ReadyValue, all_ready, readied, with_recovery}
use Rattle.ddf_recovery.specs.Recovery.{config_recovered, disks_recovered, full_of_recovery, has_stray, loss_spent, recovery_of}
use Rattle.ddf_seats.specs.Leading.{some}
use Rattle.ddf_seats.specs.Seated.{seated}
use Rattle.ddf_steps.specs.Steps.{Step, disks_after, raised}
use Rattle.ddf_steps.specs.Trying.{AreFollowing, Follows}
use Rattle.ddf_recovery.proofs.RecoveredGroup.{is_recovered}
use Rattle.ddf_recovery.proofs.Numbered.{raised_above}

pub none_full : (full : Option FullTable) → option_map refusals.Full full ≡ None → full ≡ None
none_full None h = refl
none_full (Some table) h = absurd cc

-- What an answer that is Ok says.
record IsFree (timestamp : ℕ) (native other : GroupValue) (made : Joining) : Type 0 where
  free : join_refusal timestamp native other ≡ None
  unspent : join_spent timestamp native other ≡ false
  is_made : joining_of timestamp native other ≡ made

free_by : (timestamp : ℕ) (native other : GroupValue) (made : Joining) (refusal : Option Refusal) (spent : Bool) → join_refusal timestamp native other ≡ refusal → join_spent timestamp native other ≡ spent
    → joining_unless refusal spent (joining_of timestamp native other) ≡ Ok made → IsFree timestamp native other made
free_by timestamp native other made (Some refusal) spent e f h = absurd cc
free_by timestamp native other made None true e f h = absurd cc
free_by timestamp native other made None false e f h = record { free = e; unspent = f; is_made = let same : joining_of timestamp native other ≡ made = cc in same }

is_free : (timestamp : ℕ) (native other : GroupValue) (made : Joining) → joining timestamp native other ≡ Ok made → IsFree timestamp native other made
unfolding joining
is_free timestamp native other made h = free_by timestamp native other made (join_refusal timestamp native other) (join_spent timestamp native other) refl refl h

module _ (timestamp : ℕ) (native other : GroupValue) (recovery : ReadyValue) (join : JoinValue) (ready : joining timestamp native other ≡ Ok (was_readied recovery join)) where
  is : IsFree timestamp native other (was_readied recovery join)
  is = is_free timestamp native other (was_readied recovery join) ready

  abbrev behind_full : List (Option Refusal)
  behind_full = refuse_if (not (some (disks_recovered timestamp native))) refusals.NoGroup ∷ option_map refusals.Full (full_of_join timestamp native other) ∷ bad_refusal other.seats ∷ []

  abbrev geometry : Option Refusal
  geometry = refuse_if (numbers_differ (seated native ++ seated other)) refusals.Geometry

  none_stray : has_stray native ≡ false
  unfolding join_refusal
  none_stray =
      or_first (has_stray native) (has_stray other)
      (not_refused (has_strays native other) refusals.Unsettled
      (all_pass (refuse_if (has_no_seats native other) refusals.NoGroup ∷ []) (refuse_if (has_strays native other) refusals.Unsettled)
      (join_cause (config_recovered native) (config_joining other) ∷ geometry ∷ option_map refusals.Full (full_of_recovery timestamp native) ∷ behind_full) is.free))

  has_room : full_of_recovery timestamp native ≡ None
  unfolding join_refusal
  has_room =
      none_full (full_of_recovery timestamp native)
      (all_pass
      (refuse_if (has_no_seats native other) refusals.NoGroup ∷ refuse_if (has_strays native other) refusals.Unsettled ∷ join_cause (config_recovered native) (config_joining other) ∷ geometry ∷ [])
      (option_map refusals.Full (full_of_recovery timestamp native)) behind_full is.free)

  recovery_is : option_map (λ one. one.step) recovery.recovery ≡ recovery_of timestamp native
  recovery_is = ap (λ (made : Joining). made.recovery) (sym is.is_made)

  module _ (none_behind : recovery.steps ≡ []) where
    no_change_by : (found : Option Step) (spent : Bool) → spent ≡ false → with_recovery spent found (Ok []) ≡ Ok (option_to_list found)
    no_change_by None spent e = refl
    no_change_by (Some step) spent e = ap (λ (b : Bool). if b then Err SequenceSpent else Ok (step ∷ [])) e

    listed : (next : Option ReadyStep) → option_to_list (option_map (λ (one : ReadyStep). one.step) next) ≡ map (λ (one : ReadyStep). one.step) (option_to_list next ++ [])
    listed None = refl
    listed (Some one) = refl

    -- The recovery is what no change at all is.
    no_change : readied native [] timestamp ≡ Ok (map (λ one. one.step) (all_ready recovery))
    unfolding readied
    no_change =
        ap (λ (b : Bool). if b then Err (Refused refusals.Unsettled)
        else with_recovery (loss_spent native) (recovery_of timestamp native) (unless_spent (steps_from timestamp (full_of_recovery timestamp native) [] (config_recovered native) (disks_recovered timestamp native)))) none_stray
        ∙ ap (λ (full : Option FullTable). with_recovery (loss_spent native) (recovery_of timestamp native) (unless_spent (steps_from timestamp full [] (config_recovered native) (disks_recovered timestamp native)))) has_room
        ∙ no_change_by (recovery_of timestamp native) (loss_spent native) (or_first (loss_spent native) (nat_lt greatest_sequence (join_config native other).sequence) is.unspent)
        ∙ ap (λ (found : Option Step). Ok (option_to_list found)) (sym recovery_is)
        ∙ ap (λ (steps : List Step). Ok steps) (listed recovery.recovery)
        ∙ ap (λ (steps : List ReadyStep). Ok (map (λ (one : ReadyStep). one.step) (option_to_list recovery.recovery ++ steps))) (sym none_behind)

    module _ (time : timestamp < 2 ^ 32) (native_is : IsAssembledGroup native) (other_is : IsAssembledGroup other) (recovers : IfSome recovery.recovery (Follows (seated native)))
        (follows : Follows (join_disks timestamp native other) join.one) where
      pub was : WasReadied native [] timestamp recovery
      was = record {
        assembled = native_is;
        time = time;
        is_readied = no_change;
        is_recovery = recovery_is;
        recovers = recovers;
        follows = subst (λ (steps : List ReadyStep). AreFollowing (disks_recovered timestamp native) steps) (sym none_behind) tt;
      }

      abbrev behind : GroupValue
      behind = group_recovered native recovery.recovery

      step_is : join.one.step ≡ record {
        config = join_config native other;
        disks = disks_after timestamp (join_leaders timestamp native other) (join_config native other) (join_disks timestamp native other);
      }
      unfolding join_step
      step_is = ap (λ (made : Joining). made.step) (sym is.is_made)

      config_is : join.one.step.config ≡ join_config native other
      config_is = ap (λ (step : Step). step.config) step_is

      -- The join is one of the group behind its recovery.
      pub is_join : AllByRecursion (λ disk. slice_get behind.newest disk.seat.slot ≡ slice_get other.newest disk.seat.slot) (seated other) → AreApart (disks_recovered timestamp native) (seated other)
          → IsOfAnother (join_config native other) (seated other) → IsJoinOf timestamp (join_leaders timestamp native other) behind other join
      is_join same apart others =
          let recovered = is_recovered native [] timestamp recovery was in
          let at : (join_config native other).sequence ≤ greatest_sequence = ltb-false greatest_sequence (join_config native other).sequence (or_second (loss_spent native) (nat_lt greatest_sequence (join_config native other).sequence) is.unspent) in
          let more : (config_recovered native).sequence < raised (config_recovered native).sequence 1 = raised_above (config_recovered native).sequence 1 (omega arith) at in
          record {
            is_settled = recovered.is_settled;
            other_assembled = other_is;
            step = step_is
                ∙ ap (λ (config : Configuration). record { config = config; disks = disks_after timestamp (join_leaders timestamp native other) config (join_disks timestamp native other) }) (sym config_is)
                ∙ ap (λ (disks : List Seated). record { config = join.one.step.config; disks = disks_after timestamp (join_leaders timestamp native other) join.one.step.config (both_disks disks (seated other)) }) (sym recovered.disks_are);
            follows = subst (λ (disks : List Seated). Follows (both_disks disks (seated other)) join.one) (sym recovered.disks_are) follows;
            joining = ap (λ (made : Joining). made.joining) (sym is.is_made);
            rises = subst (λ (config : Configuration). behind.config.sequence < config.sequence) (sym config_is)
                (subst (λ (config : Configuration). config.sequence < raised (config_recovered native).sequence 1) (sym recovered.config_is) more);
            same_newest = same;
            are_apart = subst (λ (disks : List Seated). AreApart disks (seated other)) (sym recovered.disks_are) apart;
            of_another = subst (λ (config : Configuration). IsOfAnother config (seated other)) (sym config_is) others;
          }
