-- What an import wrote: the recovery, where there is one, and then the join.
use Rattle.std.proofs.Common.{◌≡◌, ℕ, Bool, ◌<◌, ◌^◌, List, [], ◌∷◌, ◌++◌, length, Option, Some, None, refl, ap, sym, subst, ◌∙◌}
use Rattle.std.specs.Prelude.{option_map, option_to_list, slice_get}
use Rattle.std.specs.List.{AllByRecursion}
use Rattle.ddf_lemmas.proofs.Lists.{all_from}
use Rattle.ddf_bay.specs.State.{BayState}
use Rattle.ddf_config.specs.declared.seat.Seat.{Seat}
use Rattle.ddf_copy.specs.declared.newest_copy.Newest.{Newest}
use Rattle.ddf_rewrite.proofs.Lists.{all_at}
use Rattle.ddf_update.specs.Changes.{AreChanged, MayChangeAll, SlotChange}
use Rattle.ddf_seats.specs.declared.seated.Seated.{Seated}
use Rattle.ddf_steps.specs.Committed.{AreSettled, IsRewritten, slots_of, synced}
use Rattle.ddf_recovery.specs.Committed.{HoldsGroup, MayRecover, group_recovered, recovery_slots, recovery_updates}
use Rattle.ddf_seats.specs.Group.{GroupValue}
use Rattle.ddf_joining.specs.Importing.{IsJoinOf, MayJoinDisks, join_slots, join_updates, was_readied}
use Rattle.ddf_joining.specs.Joining.{Joining, join_config, join_disks, join_leaders}
use Rattle.ddf_joining.specs.JoinValue.{JoinValue}
use Rattle.ddf_steps.specs.Ready.{ReadyStep}
use Rattle.ddf_recovery.specs.Ready.{ReadyValue}
use Rattle.ddf_seats.specs.Seated.{seated}
use Rattle.ddf_steps.specs.Steps.{Step}
use Rattle.ddf_steps.proofs.CommittedLevels.{level_else}
use Rattle.ddf_seats.proofs.CommittedSeats.{seated_is}
use Rattle.ddf_joining.proofs.JoinReadied.{is_join}
use Rattle.ddf_joining.proofs.JoinWritten.{may_join}
use Rattle.ddf_assembly.proofs.LeftOut.{kept_there}
use Rattle.ddf_recovery.proofs.RecoveredGroup.{rewriting}
use Rattle.ddf_recovery.proofs.RecoveryWritten.{may_recover, recovered_held}
use Rattle.ddf_history_joins.proofs.JoinTaken.{one_held}
use Rattle.ddf_answer.specs.Call.{work_of}
use Rattle.ddf_group_commands.specs.GroupRead.{IsReadFrom}
use Rattle.ddf_group_commands.specs.Written.{AreWritten, IsWritten}
use Rattle.ddf_group_commands.proofs.StepsWritten.{recovery_written, settled_still, step_written, steps_in}
use Rattle.ddf_import_command.specs.Import.{IsImportReady, IsJoined, import_asked, import_steps}
use Rattle.ddf_import_command.proofs.Placed.{apart_before, are_apart, joining_seats, kept_each, step_joined, was_first}

-- the steps of a recovery and a join
steps_are : (next : Option ReadyStep) (join : ReadyStep) → steps_in (option_to_list next ++ join ∷ []) ≡ option_to_list (option_map (λ one. one.step) next) ++ join.step ∷ []
steps_are None join = refl
steps_are (Some one) join = refl

module _ {D : Type 0} (tells : Type 0) (old : BayState D) (native other : GroupValue) (timestamp : ℕ) (left_out : List Bool) (recovery : ReadyValue) (join : JoinValue)
    (from : IsReadFrom tells old native) (also : IsReadFrom tells old other) (time : timestamp < 2 ^ 32) (ready : IsImportReady timestamp left_out native other recovery join) where
  abbrev made : Joining
  made = was_readied recovery join

  abbrev behind : GroupValue
  behind = group_recovered native recovery.recovery

  pub config_joined : join.one.step.config ≡ join_config native other
  config_joined = ap (λ (step : Step). step.config) (step_joined tells old native other timestamp left_out recovery join from also time ready)

  -- The recovery leaves what the group keeps of the slots that join.
  still_kept : (k : ℕ) (disk : Seated) → slice_get (seated other) k ≡ Some disk → slice_get behind.newest disk.seat.slot ≡ slice_get native.newest disk.seat.slot
  still_kept k disk at = by recovery.recovery refl
    where
      by : (next : Option ReadyStep) → recovery.recovery ≡ next → slice_get (group_recovered native next).newest disk.seat.slot ≡ slice_get native.newest disk.seat.slot
      by None e = refl
      by (Some one) e =
          level_else native.newest one.step.disks disk.seat.slot (λ i written there same.
          let first = was_first tells old native other timestamp left_out recovery join from also time ready in
          let is = all_at (IsRewritten (seated native) one.step.config) one.step.disks i written (rewriting native [] timestamp recovery first one e) there in
          apart_before tells old native other timestamp left_out recovery join from also time ready k disk at is.place is.before is.is_there
          (ap (λ (seat : Seat). seat.slot) (sym is.same_seat) ∙ sym same))

  module _ (told : tells) where
    same_newest : AllByRecursion (λ disk. slice_get behind.newest disk.seat.slot ≡ slice_get other.newest disk.seat.slot) (seated other)
    same_newest = all_from (λ (disk : Seated). slice_get behind.newest disk.seat.slot ≡ slice_get other.newest disk.seat.slot) (seated other) (λ k disk at.
        let own = seated_is other k disk at in
        let kept = kept_there native.newest disk.seat.slot
        (kept_each tells old native other timestamp left_out recovery join from also time ready own.place disk.seat own.is_seat) in
        let same = one_held old native.newest other.newest (from.held told) (also.held told) disk.seat.slot kept.0 own.found kept.1 own.is_found in
        still_kept k disk at ∙ kept.1 ∙ ap (λ (n : Newest). Some (Some n)) same ∙ sym own.is_found)

    -- It may be written over what the disks hold.
    pub may_first : MayRecover old native recovery
    may_first =
        may_recover native [] timestamp recovery (was_first tells old native other timestamp left_out recovery join from also time ready) old (from.held told) (from.stand told)

    is_a_join : IsJoinOf timestamp (join_leaders timestamp native other) behind other join
    is_a_join =
        is_join timestamp native other recovery join ready.is_readied ready.none_behind time from.assembled also.assembled ready.recovers ready.follows same_newest
        (are_apart tells old native other timestamp left_out recovery join from also time ready)
        ready.of_another

    module _ (middle : BayState D) (same_sizes : middle.sizes ≡ old.sizes)
        (recovered : (seat : ℕ → SlotChange) → MayChangeAll (synced old (slots_of native.seats)) (recovery_slots recovery) seat (recovery_updates recovery)
        → AreChanged (synced old (slots_of native.seats)) middle (recovery_slots recovery) seat (recovery_updates recovery) (length (recovery_slots recovery))) where
      holds : HoldsGroup middle behind
      holds =
          recovered_held native [] timestamp recovery (was_first tells old native other timestamp left_out recovery join from also time ready) old middle
          same_sizes (from.held told) (from.stand told) may_first (recovered may_first.seat may_first.may_change)

      -- The join may be written to them behind the recovery.
      pub may : MayJoinDisks middle join
      may = may_join timestamp (join_leaders timestamp native other) behind other join is_a_join middle holds

      module _ (new : BayState D) (joined : (seat : ℕ → SlotChange) → MayChangeAll (synced middle (slots_of join.joining)) (join_slots join) seat (join_updates join)
          → AreChanged (synced middle (slots_of join.joining)) new (join_slots join) seat (join_updates join) (length (join_slots join))) where
        join_written : AreWritten old.sizes middle.held (join.one.step ∷ []) new.held
        join_written = (
          new.held,
          subst (λ (sizes : List ℕ). IsWritten sizes middle.held join.one.step new.held) same_sizes
              (step_written (synced middle (slots_of join.joining)) new (join_disks timestamp native other) join.one ready.follows may.seat may.news may.may_change (joined may.seat may.may_change)),
          λ slot l. refl,
        )

        -- Both steps were written.
        pub all_written : AreWritten old.sizes old.held (import_steps made) new.held
        all_written =
            subst (λ (steps : List Step). AreWritten old.sizes old.held steps new.held) (steps_are recovery.recovery join.one)
            (recovery_written old middle native (seated native) recovery.recovery (join.one ∷ []) new.held ready.recovers
            (record { seat = may_first.seat; may_change = may_first.may_change; news = may_first.news; olds = may_first.olds })
            (recovered may_first.seat may_first.may_change) join_written)

        -- Of each disk of both groups a stop leaves then what it holds.
        pub native_settled : ((seat : ℕ → SlotChange) → MayChangeAll (synced old (slots_of native.seats)) (recovery_slots recovery) seat (recovery_updates recovery)
            → AreSettled middle native.seats (length native.seats)) → AreSettled new native.seats (length native.seats)
        native_settled settles place seat below at =
            settled_still (synced middle (slots_of join.joining)) new (join.one ∷ []) may.seat (joined may.seat may.may_change) seat.slot
            (λ l bytes might. settles may_first.seat may_first.may_change place seat below at l bytes might.0)

        pub joins_settled : ((seat : ℕ → SlotChange) → MayChangeAll (synced middle (slots_of join.joining)) (join_slots join) seat (join_updates join)
            → AreSettled new join.joining (length join.joining)) → AreSettled new other.seats (length other.seats)
        joins_settled settles =
            subst (λ (seats : List Seat). AreSettled new seats (length seats)) (joining_seats tells old native other timestamp left_out recovery join from also time ready)
            (settles may.seat may.may_change)

  -- The import was written.
  pub joined_to : (new : BayState D) (sequence : ℕ) → sequence ≡ join.one.step.config.sequence → (tells → AreWritten old.sizes old.held (import_steps made) new.held)
      → (tells → AreSettled new native.seats (length native.seats)) → (tells → AreSettled new other.seats (length other.seats))
      → IsJoined (work_of tells old new) native other (import_asked timestamp left_out native other) sequence
  joined_to new sequence last written settled also_settled = record {
    made = made;
    are_asked = ready.are_asked;
    is_last = last;
    are_written = written;
    are_settled = settled;
    joined_settled = also_settled;
  }
