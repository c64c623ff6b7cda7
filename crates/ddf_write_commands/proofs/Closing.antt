-- The last step of a group, by what the call promises that writes it.
use Rattle.std.proofs.Common.{◌≡◌, ℕ, ◌+◌, ◌*◌, ◌≤◌, Bool, true, false, List, [], ◌∷◌, length, None, Some, refl, sym, ◌∙◌, inl, inr, ⊎_elim, arith}
use Rattle.std.proofs.lemmas.Bool.{false≢true}
use Rattle.std.proofs.lemmas.List.{length-map}
use Rattle.std.specs.Prelude.{slice_get}
use Rattle.ddf_bay.specs.Moments.{Costs, StopsLeave}
use Rattle.ddf_bay.specs.Sectors.{Image}
use Rattle.ddf_bay.specs.State.{BayState}
use Rattle.ddf_bay.proofs.Steps.{costs_start, stops_weaken}
use Rattle.ddf_config.specs.Configuration.{Configuration}
use Rattle.ddf_update.specs.Changes.{IsLeftChangingAll}
use Rattle.ddf_update.specs.Group.{IsOneOf, LieOnSlots}
use Rattle.ddf_update.specs.Prepared.{all_calls, all_sectors}
use Rattle.ddf_history.specs.Groups.{groups}
use Rattle.ddf_history.specs.Issued.{Past}
use Rattle.ddf_recovery.specs.Committed.{IsReadyFor, MayWriteNext, group_next, left_behind, next_slots, next_updates}
use Rattle.ddf_steps.specs.Committed.{slots_of}
use Rattle.ddf_seats.specs.Group.{GroupValue}
use Rattle.ddf_seats.specs.Seated.{seated}
use Rattle.ddf_steps.specs.Steps.{in_order}
use Rattle.ddf_steps.specs.Trying.{AreFollowing}
use Rattle.ddf_steps.specs.Ready.{ReadyStep}
use Rattle.ddf_recovery.specs.Ready.{ReadyValue}
use Rattle.ddf_recovery.proofs.Committed.{may_write_next, next_lies}
use Rattle.ddf_history_steps.specs.Going.{KeepsHistory}
use Rattle.ddf_history_steps.specs.Kept.{ReadsTrue, is_slot}
use Rattle.ddf_history_steps.specs.Steps.{IsCommit}
use Rattle.ddf_history_steps.proofs.Slots.{slot_is}
use Rattle.ddf_history_steps.specs.Course.{IsUnderWay}
use Rattle.ddf_history_steps.proofs.Course.{course_ends}
use Rattle.ddf_group_commands.specs.Others.{LeavesOthers}
use Rattle.ddf_group_commands.specs.Writing.{IsLeftWriting}
use Rattle.ddf_group_commands.proofs.FewCalls.{prepared_few, slots_few}
use Rattle.ddf_group_commands.proofs.Keeping.{reads_true}
use Rattle.ddf_group_commands.proofs.LeftWriting.{left_still, says_one, step_leaves}
use Rattle.ddf_group_commands.proofs.Recovering.{next_on_seat}
use Rattle.ddf_group_commands.proofs.StepsWritten.{committed_written, next_sequence, none_asked, settled_still, steps_in}
use Rattle.ddf_write_commands.specs.Closed.{IsLastWritten}
use Rattle.ddf_write_commands.specs.Opened.{CanGoOn, steps_left}
use Rattle.ddf_write_commands.proofs.Courses.{commit_fails, commits}
use Rattle.ddf_bay.specs.Told.{IsTold}

module _ {D : Type 0} (tells : Type 0) (old : BayState D) (found : GroupValue) (ready : ReadyValue) (can : CanGoOn tells old found ready) where
  pub lies_next : LieOnSlots old.sizes (next_slots ready) (next_updates ready)
  lies_next = next_lies old.sizes found can.anchored ready can.is_ready

  -- It is written with few calls.
  pub closed_few : (new : BayState D) → Costs old new (all_sectors (next_updates ready)) (all_calls (next_updates ready)) → new.calls ≤ old.calls + 25 * length old.sizes
  closed_few new costs =
      let slots = slots_few old.sizes (next_slots ready) lies_next.are_slots in
      let counted = lies_next.counted in
      let few = by ready.steps can.is_ready.follows in
      let most = costs.calls_most in
      omega (arith, few, slots, counted, most)
    where
      by : (steps : List ReadyStep) → AreFollowing (seated found) steps
          → all_calls (next_updates (record { recovery = ready.recovery; steps = steps })) ≤ 25 * length (next_updates (record { recovery = ready.recovery; steps = steps }))
      by [] follows = omega arith
      by (one ∷ others) follows = prepared_few (in_order one.step.disks) one.updates follows.0.are_prepared

  may : tells → MayWriteNext old ready
  may told = may_write_next old found ready (can.holds told) can.is_ready

  -- the same, where nothing but the steps counts
  abbrev plain : ReadyValue
  plain = record { recovery = None; steps = ready.steps }

  abbrev may_plain : (told : tells) → MayWriteNext old plain
  may_plain told = record { seat = (may told).seat; may_change = (may told).may_change; news = (may told).news }

  few_steps : length (steps_in ready.steps) ≤ 1
  few_steps = let few = can.few in let long = length-map ready.steps (λ (one : ReadyStep). one.step) in omega (arith, few, long)

  pub on_seats : (slot : ℕ) → IsOneOf (next_slots ready) slot → IsOneOf (slots_of found.seats) slot
  on_seats slot one = next_on_seat found ready.steps can.is_ready.rewrites slot one

  not_written : (s : ℕ) → is_slot (slots_of found.seats) s ≡ false → (place : ℕ) → slice_get (next_slots ready) place ≡ Some s → ⊥
  not_written s other place at =
      let one = on_seats s (record { place = place; is_there = at }) in
      false≢true (sym other ∙ slot_is (slots_of found.seats) one.place s one.is_there)

  -- It was written.
  pub last_written : (new : BayState D) (calls : ℕ) → (tells → IsCommit old new ready true) → Costs old new (all_sectors (next_updates ready)) calls
      → IsLastWritten tells old new found ready (group_next found ready).config.sequence
  last_written new calls is costs = record {
    is_last = next_sequence found ready.steps few_steps;
    are_written = λ told.
        committed_written old new _ ready.steps few_steps can.is_ready.follows (may_plain told) ((is told).changed refl (may told).seat (may told).may_change);
    are_settled = λ told place seat below at.
        settled_still old new ready.steps (may told).seat ((is told).changed refl (may told).seat (may told).may_change) seat.slot ((can.holds told).are_settled place seat below at);
    none_asked = λ none. none_asked old old new 0 calls None ready.steps (costs_start old) costs none;
  }

  -- ---- what a stop leaves

  abbrev Leaves : (steps : List ReadyStep) → Type 0
  Leaves steps =
      (can_write : MayWriteNext old (record { recovery = None; steps = steps })) → IsReadyFor found (record { recovery = None; steps = steps })
      → LieOnSlots old.sizes (next_slots (record { recovery = None; steps = steps })) (next_updates (record { recovery = None; steps = steps })) → (image : Image)
      → IsLeftChangingAll old (next_slots (record { recovery = None; steps = steps })) can_write.seat (next_updates (record { recovery = None; steps = steps })) image
      → IsLeftWriting old (steps_in steps) image

  leaves_by : ReadsTrue old → (steps : List ReadyStep) → Leaves steps
  leaves_by reads [] can_write is lies image changing = left_still old [] image (λ s l. changing.others s l (λ place at. absurd cc))
  leaves_by reads (one ∷ others) can_write is lies image changing =
      step_leaves old one can_write.seat image lies can_write.may_change can_write.news is.follows.0.are_prepared reads.is_left (says_one old reads) changing (steps_in (one ∷ others)) 0 refl

  module _ (tells_old : IsTold old) (new : BayState D) (tells_new : IsTold new) (done : Bool) (told : tells) (is : IsCommit old new ready done) where
    pub last_leaves : StopsLeave old new (IsLeftWriting old (steps_left ready))
    last_leaves =
        let moments = is.any_moment (may told).seat (may told).may_change in
        record {
          later = moments.later;
          since = λ t image le was_left. ⊎_elim inl
              (λ changing.
              let reads = reads_true old tells_old.held tells_old.whole (is.spends.told (tells_new.since t image was_left)) in
              inr (leaves_by reads ready.steps (may_plain told) (record {
                is_settled = can.is_ready.is_settled;
                have_sequence = can.is_ready.have_sequence;
                follows = can.is_ready.follows;
                rewrites = can.is_ready.rewrites;
                rises = can.is_ready.rises;
              }) lies_next image changing))
              (moments.since t image le was_left);
        }

    pub last_aside : LeavesOthers old new (slots_of found.seats)
    last_aside = stops_weaken (is.any_moment (may told).seat (may told).may_change) (λ image changing s l other. changing.others s l (λ place at. not_written s other place at))

  -- ---- what it keeps

  none_left : (steps : List ReadyStep) → length steps ≤ 1 → (left_behind (record { recovery = ready.recovery; steps = steps })).steps ≡ []
  none_left [] few = refl
  none_left (one ∷ []) few = refl
  none_left (one ∷ other ∷ others) few = absurd (omega (arith, few))

  pub last_keeps : tells → (tells_old : IsTold old) (new : BayState D) (tells_new : IsTold new) (group : List ℕ) (past : Past (groups group)) (entry : BayState D) (left : List Bool) (first : GroupValue)
      (changes : List Configuration) → IsUnderWay group entry old past left first changes found ready → (done : Bool) → IsCommit old new ready done
      → KeepsHistory group entry new past left first changes done
  last_keeps told tells_old new tells_new group past entry left first changes way true is =
      let later = (is.any_moment (may told).seat (may told).may_change).later in
      course_ends group entry new past left first changes (group_next found ready) (left_behind ready)
      (commits group past entry old new tells_old tells_new left first changes found ready way later is) (none_left ready.steps can.few)
  last_keeps told tells_old new tells_new group past entry left first changes way false is =
      let later = (is.any_moment (may told).seat (may told).may_change).later in
      commit_fails group past entry old new tells_old tells_new left first changes found ready way later is
