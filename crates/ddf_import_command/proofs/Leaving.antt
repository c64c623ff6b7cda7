-- What the writing of an import leaves of the disks.
use Rattle.std.proofs.Common.{◌≡◌, ◌⊎◌, ℕ, Bool, ◌<◌, ◌^◌, List, [], ◌∷◌, ◌++◌, Option, Some, None, Ok, refl, sym, subst, ◌∙◌, inl, inr, ⊎_elim, arith, length}
use Rattle.std.specs.Prelude.{option_map, slice_get}
use Rattle.std.specs.Option.{option_to_list}
use Rattle.ddf_bay.specs.Moments.{StopsLeave}
use Rattle.ddf_bay.specs.Sectors.{Image, IsLeft}
use Rattle.ddf_bay.specs.State.{BayState}
use Rattle.ddf_update.specs.Changes.{AreChanged, IsLeftChangingAll, MayChangeAll, SlotChange}
use Rattle.ddf_update.specs.Group.{LieOnSlots}
use Rattle.ddf_recovery.specs.Committed.{MayRecover, recovery_slots, recovery_updates, slots_written, updates_written}
use Rattle.ddf_steps.specs.Committed.{slots_of, synced}
use Rattle.ddf_seats.specs.Group.{GroupValue}
use Rattle.ddf_joining.specs.Importing.{MayJoinDisks, join_slots, join_updates, was_readied}
use Rattle.ddf_joining.specs.Joining.{Joining}
use Rattle.ddf_joining.specs.JoinValue.{JoinValue}
use Rattle.ddf_steps.specs.Ready.{ReadyStep}
use Rattle.ddf_recovery.specs.Ready.{ReadyValue}
use Rattle.ddf_steps.specs.Steps.{Step}
use Rattle.ddf_recovery.proofs.RecoveredGroup.{recovery_follows}
use Rattle.ddf_history_steps.specs.Kept.{ReadsTrue}
use Rattle.ddf_group_commands.specs.GroupRead.{IsReadFrom}
use Rattle.ddf_group_commands.specs.Writing.{IsLeftWriting}
use Rattle.ddf_group_commands.proofs.Keeping.{MayLeave, Moments, Tells}
use Rattle.ddf_group_commands.proofs.LeftWriting.{left_still, says_one, step_leaves, writing_by, writing_more}
use Rattle.ddf_import_command.specs.Import.{IsImportReady, import_asked, import_steps}
use Rattle.ddf_import_command.proofs.Keeping.{made_is}
use Rattle.ddf_import_command.proofs.Placed.{first_lies, join_lies, was_first}
use Rattle.ddf_import_command.proofs.Written.{may, may_first}

-- the steps of a recovery, where there is one, and of a join
abbrev steps_with : Option ReadyStep → ReadyStep → List Step
steps_with next join = option_to_list (option_map (λ one. one.step) next) ++ join.step ∷ []

-- The join is the last of them.
join_in : (next : Option ReadyStep) (join : ReadyStep) → (number : ℕ) × (slice_get (steps_with next join) number ≡ Some join.step)
join_in None join = (0, refl)
join_in (Some first) join = (1, refl)

module _ {D : Type 0} (tells : Type 0) (old : BayState D) (native other : GroupValue) (timestamp : ℕ) (left_out : List Bool) (recovery : ReadyValue) (join : JoinValue)
    (from : IsReadFrom tells old native) (also : IsReadFrom tells old other) (time : timestamp < 2 ^ 32) (ready : IsImportReady timestamp left_out native other recovery join) (told : tells) (reads_true : old.tells_left → ReadsTrue old)
    (only_now : (image : Image) → old.left_since old.moment image → IsLeft old.may_hold image) (made : Joining) (are_asked : import_asked timestamp left_out native other ≡ Ok made) where
  can_first : MayRecover old native recovery
  can_first = may_first tells old native other timestamp left_out recovery join from also time ready told

  abbrev sure : BayState D
  sure = synced old (slots_of native.seats)

  abbrev own_steps : List Step
  own_steps = import_steps (was_readied recovery join)

  same_made : was_readied recovery join ≡ made
  same_made = made_is made (was_readied recovery join) (sym are_asked ∙ ready.are_asked)

  recovery_by : ReadsTrue old → (next : Option ReadyStep) → recovery.recovery ≡ next → (can : MayRecover old native (record { recovery = next; steps = [] }))
      → LieOnSlots old.sizes (slots_written next) (updates_written next) → (image : Image)
      → IsLeftChangingAll sure (slots_written next) can.seat (updates_written next) image → IsLeftWriting old (steps_with next join.one) image
  recovery_by reads None is can lies image changing = left_still old (steps_with None join.one) image (λ s l. (changing.others s l (λ place at. absurd cc)).0)
  recovery_by reads (Some one) is can lies image changing =
      let first = was_first tells old native other timestamp left_out recovery join from also time ready in
      let behind = recovery_follows native [] timestamp recovery first one is in
      let leaves = step_leaves sure one can.seat image lies can.may_change can.news behind.are_prepared (λ s l. (reads.is_left s l, λ place at. refl))
      (says_one old reads) changing (steps_with (Some one) join.one) 0 refl in
      record { before = leaves.before; is_left = λ s l. (leaves.is_left s l).0; shows = leaves.shows; outside = leaves.outside; floors = leaves.floors }

  recovery_leaves : ReadsTrue old → (image : Image) → MayLeave old native recovery can_first.seat image → IsLeftWriting old own_steps image
  recovery_leaves reads image (inl before) = left_still old own_steps image before
  recovery_leaves reads image (inr changing) =
      recovery_by reads recovery.recovery refl (record { seat = can_first.seat; may_change = can_first.may_change; news = can_first.news; olds = can_first.olds })
      (first_lies tells old native other timestamp left_out recovery join from also time ready) image changing

  module _ (middle : BayState D) (same_sizes : middle.sizes ≡ old.sizes) (moments : Moments old native recovery middle) (tell : Tells old middle) where
    stops : StopsLeave old middle (MayLeave old native recovery can_first.seat)
    stops = moments can_first.seat can_first.may_change

    since_entry : StopsLeave old middle (IsLeftWriting old own_steps)
    since_entry = record {
      later = stops.later;
      since = λ t image le was_left. ⊎_elim inl (λ now. inr (recovery_leaves (reads_true (tell.back (tell.told t image was_left))) image now)) (stops.since t image le was_left);
    }

    -- A stop while the group is recovered leaves the recovery's copies, and what might be left before.
    pub recover_leaves : StopsLeave old middle (IsLeftWriting old (import_steps made))
    recover_leaves = subst (λ (one : Joining). StopsLeave old middle (IsLeftWriting old (import_steps one))) same_made since_entry

    -- So does one once it was.
    left_behind : ReadsTrue old → (image : Image) → IsLeft middle.may_hold image → IsLeftWriting old own_steps image
    left_behind reads image left =
        ⊎_elim (λ before. left_still old own_steps image (only_now image before)) (λ now. recovery_leaves reads image now)
        (stops.since old.moment image (omega arith) (tell.counts old.moment image stops.later left))

    module _ (recovered : (seat : ℕ → SlotChange) → MayChangeAll (synced old (slots_of native.seats)) (recovery_slots recovery) seat (recovery_updates recovery)
        → AreChanged (synced old (slots_of native.seats)) middle (recovery_slots recovery) seat (recovery_updates recovery) (length (recovery_slots recovery)))
        (reads_then : middle.tells_left → ReadsTrue middle) where
      abbrev both_sure : BayState D
      both_sure = synced middle (slots_of join.joining)

      can : MayJoinDisks middle join
      can =
          may tells old native other timestamp left_out recovery join from also time ready told middle same_sizes recovered

      module _ (new : BayState D)
          (next : (seat : ℕ → SlotChange) → MayChangeAll both_sure (join_slots join) seat (join_updates join)
          → StopsLeave middle new (λ image. IsLeft middle.may_hold image ⊎ IsLeftChangingAll both_sure (join_slots join) seat (join_updates join) image))
          (tell_new : Tells middle new) where
        joined_leaves : ReadsTrue old → ReadsTrue middle → (image : Image) → IsLeftChangingAll both_sure (join_slots join) can.seat (join_updates join) image → IsLeftWriting old own_steps image
        joined_leaves reads reads_middle image changing =
            let at = join_in recovery.recovery join.one in
            let lies = join_lies tells old native other timestamp left_out recovery join from also time ready in
            let leaves = step_leaves both_sure join.one can.seat image (rw same_sizes lies) can.may_change can.news ready.follows.are_prepared
            (λ s l. (reads_middle.is_left s l, λ place there. refl)) (says_one middle reads_middle) changing own_steps at.0 at.1 in
            let now = writing_more both_sure middle refl (λ s l bytes might. might.0) own_steps image leaves in
            writing_by old middle own_steps image same_sizes now (left_behind reads now.before now.is_left)

        next_leaves : (t : ℕ) (image : Image) → new.left_since t image
            → IsLeft middle.may_hold image ⊎ IsLeftChangingAll both_sure (join_slots join) can.seat (join_updates join) image → IsLeftWriting old own_steps image
        next_leaves t image was_left moment =
            let tells_then = tell_new.back (tell_new.told t image was_left) in
            let reads = reads_true (tell.back tells_then) in
            ⊎_elim (λ before. left_behind reads image before) (λ changing. joined_leaves reads (reads_then tells_then) image changing) moment

        -- And so does one in the join behind it.
        pub import_leaves : StopsLeave old new (IsLeftWriting old (import_steps made))
        import_leaves =
            let behind = next can.seat can.may_change in
            subst (λ (one : Joining). StopsLeave old new (IsLeftWriting old (import_steps one))) same_made (record {
              later = let one = stops.later in let two = behind.later in omega (arith, one, two);
              since = λ t image le was_left. ⊎_elim
                  (λ before. since_entry.since t image le before)
                  (λ moment. inr (next_leaves t image was_left moment))
                  (behind.since t image (let one = stops.later in omega (arith, le, one)) was_left);
            })
