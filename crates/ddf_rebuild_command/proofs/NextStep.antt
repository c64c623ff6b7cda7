-- The next step of a group that stands on its disks, by what the call promises that writes it.
use Rattle.std.proofs.Common.{◌≡◌, ℕ, Bool, true, false, List, [], ◌∷◌, length, Option, None, Some, refl, sym, subst, inl, inr, ⊎_elim, arith}
use Rattle.std.specs.Prelude.{slice_get}
use Rattle.ddf_bay.specs.Moments.{Costs, StopsLeave}
use Rattle.ddf_bay.specs.Sectors.{Image, IsLeft}
use Rattle.ddf_bay.specs.State.{BayState}
use Rattle.ddf_bay.proofs.Steps.{costs_start, stops_all, stops_weaken}
use Rattle.ddf_cells.specs.Touching.{GoesBetween}
use Rattle.ddf_config.specs.declared.seat.Seat.{Seat}
use Rattle.ddf_update.specs.Changes.{AreChanged, IsLeftChangingAll}
use Rattle.ddf_update.specs.Group.{IsOneOf, LieOnSlots}
use Rattle.ddf_update.specs.Prepared.{all_sectors}
use Rattle.ddf_history.specs.Groups.{groups}
use Rattle.ddf_history.specs.Issued.{Past}
use Rattle.ddf_recovery.specs.Committed.{MayWriteNext, group_next, left_behind, next_slots, next_updates}
use Rattle.ddf_steps.specs.Committed.{slots_of}
use Rattle.ddf_seats.specs.Group.{GroupValue}
use Rattle.ddf_assembly.specs.Reading.{HaveAnchors}
use Rattle.ddf_steps.specs.Ready.{ReadyStep}
use Rattle.ddf_recovery.specs.Ready.{ReadyValue}
use Rattle.ddf_seats.specs.Seated.{seated}
use Rattle.ddf_steps.specs.Trying.{AreFollowing}
use Rattle.ddf_recovery.proofs.Committed.{may_write_next, next_lies}
use Rattle.ddf_recovery.proofs.CommittedAfter.{committed_anchored, committed_holds, left_ready}
use Rattle.ddf_history_steps.specs.Kept.{ReadsTrue, is_slot}
use Rattle.ddf_history_steps.specs.Steps.{IsCommit, KeepsStep, StandsReady, behind_next}
use Rattle.ddf_history_steps.proofs.CommittingKeeps as committing
use Rattle.ddf_history_steps.proofs.CommittingKeeps.{commit_keeps, stands_behind}
use Rattle.ddf_history_steps.proofs.Floored.{next_floored}
use Rattle.ddf_group_commands.specs.Writing.{IsLeftWriting}
use Rattle.ddf_group_commands.specs.Written.{AreWritten}
use Rattle.ddf_group_commands.proofs.Keeping.{reads_true}
use Rattle.ddf_group_commands.proofs.LeftWriting.{left_still, says_one, step_leaves}
use Rattle.ddf_group_commands.proofs.Recovering.{next_on_seat}
use Rattle.ddf_group_commands.proofs.StepsWritten.{committed_written, none_asked}
use Rattle.ddf_bay.specs.Told.{IsTold}
use Rattle.ddf_group_commands.proofs.Beside.{not_among}
use Rattle.ddf_write_commands.proofs.Costs.{with_steps}
use Rattle.ddf_rebuild_command.specs.Standing.{AddsNothing, GoesNext, IsNextWritten, KeepSeats, Stands, next_in}

-- What is left at the end of a call is left on its way, or was so before.
pub left_at_end : {D : Type 0} (old new : BayState D) → IsTold old → IsTold new → (P : Image → Type 0) → StopsLeave old new P → ((image : Image) → IsLeft old.may_hold image → P image)
    → (image : Image) → IsLeft new.may_hold image → P image
left_at_end old new tells_old tells_new P moments before image left =
    stops_all tells_old.only_now moments before image (tells_new.counts old.moment image moments.later left)

-- ---- the group behind it

next_seats : (found : GroupValue) (recovery : Option ReadyStep) (steps : List ReadyStep) → KeepSeats found.seats steps → (group_next found (with_steps recovery steps)).seats ≡ found.seats
next_seats found recovery [] keep = refl
next_seats found recovery (one ∷ others) keep = keep.0

keep_behind : (seats : List Seat) (recovery : Option ReadyStep) (steps : List ReadyStep) → KeepSeats seats steps → KeepSeats seats (left_behind (with_steps recovery steps)).steps
keep_behind seats recovery [] keep = keep
keep_behind seats recovery (one ∷ others) keep = keep.1

-- ---- what is written

abbrev Changed : {D : Type 0} (old new : BayState D) (ready : ReadyValue) → MayWriteNext old ready → Type 0
Changed old new ready may = AreChanged old new (next_slots ready) may.seat (next_updates ready) (length (next_slots ready))

next_written : {D : Type 0} (old new : BayState D) (found : GroupValue) (recovery : Option ReadyStep) (steps : List ReadyStep) → AreFollowing (seated found) steps
    → (may : MayWriteNext old (with_steps recovery steps)) → Changed old new (with_steps recovery steps) may → AreWritten old.sizes old.held (next_in steps) new.held
next_written old new found recovery [] follows may changed = λ slot l. changed.others slot l (λ place below at. absurd (omega (arith, below)))
next_written old new found recovery (one ∷ others) follows may changed =
    committed_written old new (seated found) (one ∷ []) (omega arith) (follows.0, tt) (record { seat = may.seat; may_change = may.may_change; news = may.news }) changed

-- without a step no sector is asked for
next_asked : {D : Type 0} (old new : BayState D) (calls : ℕ) (recovery : Option ReadyStep) (steps : List ReadyStep)
    → Costs old new (all_sectors (next_updates (with_steps recovery steps))) calls → next_in steps ≡ [] → new.sectors_asked ≡ old.sectors_asked
next_asked old new calls recovery [] costs none = none_asked old old new 0 calls None [] (costs_start old) costs refl
next_asked old new calls recovery (one ∷ others) costs none = absurd cc

module _ {D : Type 0} (tells : Type 0) (old : BayState D) (found : GroupValue) (ready : ReadyValue) (stands : Stands tells old found ready) where
  pub lies : LieOnSlots old.sizes (next_slots ready) (next_updates ready)
  lies = next_lies old.sizes found stands.anchored ready stands.is_ready

  may : tells → MayWriteNext old ready
  may told = may_write_next old found ready (stands.holds told) stands.is_ready

  pub on_seats : (slot : ℕ) → IsOneOf (next_slots ready) slot → IsOneOf (slots_of found.seats) slot
  on_seats slot one = next_on_seat found ready.steps stands.is_ready.rewrites slot one

  not_written : (s : ℕ) → is_slot (slots_of found.seats) s ≡ false → (place : ℕ) → slice_get (next_slots ready) place ≡ Some s → ⊥
  not_written s other = not_among (slots_of found.seats) (next_slots ready) on_seats s other

  -- ---- what a stop leaves

  abbrev Leaves : (steps : List ReadyStep) → Type 0
  Leaves steps =
      (can_write : MayWriteNext old (with_steps ready.recovery steps)) → AreFollowing (seated found) steps
      → LieOnSlots old.sizes (next_slots (with_steps ready.recovery steps)) (next_updates (with_steps ready.recovery steps)) → (image : Image)
      → IsLeftChangingAll old (next_slots (with_steps ready.recovery steps)) can_write.seat (next_updates (with_steps ready.recovery steps)) image
      → IsLeftWriting old (next_in steps) image

  leaves_by : ReadsTrue old → (steps : List ReadyStep) → Leaves steps
  leaves_by reads [] can_write follows on image changing = left_still old [] image (λ s l. changing.others s l (λ place at. absurd cc))
  leaves_by reads (one ∷ others) can_write follows on image changing =
      step_leaves old one can_write.seat image on can_write.may_change can_write.news follows.0.are_prepared reads.is_left (says_one old reads) changing (one.step ∷ []) 0 refl

  module _ (tells_old : IsTold old) (new : BayState D) (tells_new : IsTold new) (done : Bool) (is : tells → IsCommit old new ready done) where
    next_leaves : tells → StopsLeave old new (IsLeftWriting old (next_in ready.steps))
    next_leaves told =
        let moments = (is told).any_moment (may told).seat (may told).may_change in
        record {
          later = moments.later;
          since = λ t image le was_left. ⊎_elim inl
              (λ changing.
              let reads = reads_true old tells_old.held tells_old.whole ((is told).spends.told (tells_new.since t image was_left)) in
              inr (leaves_by reads ready.steps (may told) stands.is_ready.follows lies image changing))
              (moments.since t image le was_left);
        }

    next_keeps : tells → (group : List ℕ) (past : Past (groups group)) → StandsReady group past old found ready → KeepsStep group old new past ready done
    next_keeps told group past at_end =
        commit_keeps group past old found ready.recovery new (is told).spends.same_sizes tells_new.counts tells_old.only_now ready.steps at_end done (is told) tells_new.held

    -- What holds of the call, whatever came of it.
    pub goes_next : GoesBetween old new → (new.tells_left → old.tells_left) → new.failed_reads ≡ old.failed_reads → (calls : ℕ) → Costs old new (all_sectors (next_updates ready)) calls
        → GoesNext tells old new found ready done
    goes_next goes back same_reads calls costs = record {
      goes = goes;
      told = back;
      same_reads = same_reads;
      beside = λ told.
          stops_weaken ((is told).any_moment (may told).seat (may told).may_change) (λ image changing s l other. changing.others s l (λ place at. not_written s other place at));
      leaves = next_leaves;
      ends = λ told. left_at_end old new tells_old tells_new (IsLeftWriting old (next_in ready.steps)) (next_leaves told) (left_still old (next_in ready.steps));
      none_asked = λ none. next_asked old new calls ready.recovery ready.steps costs none;
      keeps = next_keeps;
    }

  module _ (new : BayState D) (tells_new : IsTold new) (is : tells → IsCommit old new ready true) (same_sizes : new.sizes ≡ old.sizes) where
    abbrev changed : (told : tells) → Changed old new ready (may told)
    changed told = (is told).changed refl (may told).seat (may told).may_change

    seats_same : (group_next found ready).seats ≡ found.seats
    seats_same = next_seats found ready.recovery ready.steps stands.keep_seats

    stands_next : Stands tells new (group_next found ready) (left_behind ready)
    stands_next = record {
      is_ready = left_ready found ready stands.is_ready;
      anchored = committed_anchored new.sizes found ready stands.is_ready (subst (λ (sizes : List ℕ). HaveAnchors sizes found.newest) (sym same_sizes) stands.anchored);
      holds = λ told. committed_holds old new same_sizes found ready (stands.holds told) stands.is_ready (may told) (changed told);
      floored = next_floored found ready stands.is_ready stands.floored;
      keep_seats = subst (λ (seats : List Seat). KeepSeats seats (left_behind ready).steps) (sym seats_same) (keep_behind found.seats ready.recovery ready.steps stands.keep_seats);
    }

    adds_nothing : tells → AddsNothing old new (slots_of found.seats)
    adds_nothing told s l bytes other left = (changed told).others_left s l bytes (λ place below at. not_written s other place at) left

    stands_at_end : tells → (group : List ℕ) (past : Past (groups group)) → StandsReady group past old found ready → new.tells_left
        → StandsReady group (behind_next group past ready) new (group_next found ready) (left_behind ready)
    stands_at_end told group past at_end left =
        let to = committing.may group past old found ready.recovery ready.steps at_end in
        stands_behind group past old found ready.recovery new same_sizes ready.steps at_end ((is told).changed refl to.seat to.may_change) (tells_new.held left)

    -- It was written.
    pub is_written : (now_found : GroupValue) → now_found ≡ group_next found ready → (now_ready : ReadyValue) → now_ready ≡ left_behind ready
        → IsNextWritten tells old new found ready now_found now_ready
    is_written now_found found_is now_ready ready_is =
        subst (λ (one : GroupValue). IsNextWritten tells old new found ready one now_ready) (sym found_is)
        (subst (λ (one : ReadyValue). IsNextWritten tells old new found ready (group_next found ready) one) (sym ready_is) (record {
          found_is = refl;
          ready_is = refl;
          stands = stands_next;
          same_seats = seats_same;
          are_written = λ told. next_written old new found ready.recovery ready.steps stands.is_ready.follows (may told) (changed told);
          others_left = adds_nothing;
          at_end = stands_at_end;
        }))
