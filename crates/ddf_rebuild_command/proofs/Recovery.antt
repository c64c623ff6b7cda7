-- The recovery of a group that was read from disks, by what the call promises that writes it.
use Rattle.std.proofs.Common.{◌≡◌, ℕ, ◌≤◌, Bool, true, false, List, [], ◌∷◌, ◌++◌, length, map, Option, None, Some, append-nil, refl, sym, ap, subst, ◌∙◌, inl, inr, ⊎_elim}
use Rattle.std.specs.Prelude.{option_map, option_to_list}
use Rattle.ddf_bay.specs.Moments.{Costs, StopsLeave}
use Rattle.ddf_bay.specs.Sectors.{Image}
use Rattle.ddf_bay.specs.State.{BayState}
use Rattle.ddf_bay.proofs.Steps.{costs_start}
use Rattle.ddf_cells.specs.Touching.{GoesBetween}
use Rattle.ddf_config.specs.declared.seat.Seat.{Seat}
use Rattle.ddf_config.specs.Configuration.{Configuration}
use Rattle.ddf_update.specs.Changes.{AreChanged, IsLeftChangingAll}
use Rattle.ddf_update.specs.Group.{IsOneOf, LieOnSlots}
use Rattle.ddf_update.specs.Prepared.{all_sectors}
use Rattle.ddf_history.specs.Groups.{groups}
use Rattle.ddf_history.specs.Issued.{Past}
use Rattle.ddf_steps.specs.Committed.{HaveSlots, slots_of, synced}
use Rattle.ddf_recovery.specs.Committed.{MayRecover, group_recovered, recovery_slots, recovery_updates, slots_written, updates_written}
use Rattle.ddf_seats.specs.Group.{GroupValue}
use Rattle.ddf_assembly.specs.Reading.{HaveAnchors}
use Rattle.ddf_steps.specs.Ready.{ReadyStep}
use Rattle.ddf_recovery.specs.Ready.{ReadyValue}
use Rattle.ddf_seats.specs.Leading.{some}
use Rattle.ddf_seats.specs.Seated.{seated}
use Rattle.ddf_steps.specs.Steps.{Step}
use Rattle.ddf_recovery.proofs.RecoveredGroup.{is_recovered, recovered_ready, recovery_follows}
use Rattle.ddf_recovery.proofs.RecoveryWritten.{may_recover, recovered_anchored, recovered_held, recovery_lies, recovery_on_seats}
use Rattle.ddf_history_steps.specs.Going.{Goes, IsAdmitted, IsOver, KeepsHistory, changes_in}
use Rattle.ddf_history_steps.specs.Kept.{AreAllKept, ReadsTrue, is_read}
use Rattle.ddf_history_steps.specs.Steps.{IsRecovery, StandsReady, WasTaken, recovery_changes}
use Rattle.ddf_history_steps.proofs.CommittingGoes.{no_lower}
use Rattle.ddf_history_steps.proofs.Entering.{keeps_where_told}
use Rattle.ddf_history_steps.proofs.RecoveringKeeps as recovering
use Rattle.ddf_history_steps.proofs.Course.{recovery_loses}
use Rattle.ddf_history_steps.proofs.Floored.{recovered_floored}
use Rattle.ddf_group_commands.specs.Change.{last_sequence}
use Rattle.ddf_group_commands.specs.GroupRead.{IsFoundBy}
use Rattle.ddf_group_commands.specs.Writing.{IsLeftWriting}
use Rattle.ddf_group_commands.specs.Written.{AreWritten}
use Rattle.ddf_group_commands.proofs.Beside.{recovery_beside, not_among}
use Rattle.ddf_group_commands.proofs.Keeping.{reads_true}
use Rattle.ddf_group_commands.proofs.LeftWriting.{left_still, says_one, step_leaves}
use Rattle.ddf_group_commands.proofs.Recovering.{first_lies, slots_there}
use Rattle.ddf_group_commands.proofs.StepsWritten.{none_asked, recovery_written}
use Rattle.ddf_bay.specs.Told.{IsTold}
use Rattle.ddf_rebuild_command.specs.Opened.{CanOpen, GoesOpening, IsOpened}
use Rattle.ddf_rebuild_command.specs.Standing.{AddsNothing, KeepSeats, Stands, recovery_in}
use Rattle.ddf_rebuild_command.proofs.Coming.{over_goes}
use Rattle.ddf_rebuild_command.proofs.SeatsKept.{recovered_seats}
use Rattle.ddf_rebuild_command.proofs.NextStep.{left_at_end}

-- ---- the step of a recovery

-- it is the one that is ready
recovery_is : (recovery : Option ReadyStep) → recovery_in recovery ≡ option_to_list (option_map (λ (one : ReadyStep). one.step) recovery)
recovery_is None = refl
recovery_is (Some one) = refl

recovery_last : (found : GroupValue) (recovery : Option ReadyStep) → (group_recovered found recovery).config.sequence ≡ last_sequence found.config.sequence (recovery_in recovery)
recovery_last found None = refl
recovery_last found (Some one) = refl

pub alone : (recovery : Option ReadyStep) → map (λ (one : ReadyStep). one.step) (option_to_list recovery ++ []) ≡ recovery_in recovery
alone None = refl
alone (Some one) = refl

module _ {D : Type 0} (tells : Type 0) (old : BayState D) (found : GroupValue) (ready : ReadyValue) (can : CanOpen tells old found ready) where
  abbrev recovered : GroupValue
  recovered = group_recovered found ready.recovery

  abbrev rest : ReadyValue
  rest = record { recovery = None; steps = ready.steps }

  abbrev first : List Step
  first = recovery_in ready.recovery

  abbrev sure : BayState D
  sure = synced old (slots_of found.seats)

  -- it can be written
  pub there : HaveSlots old.sizes found.seats
  there = slots_there tells old found can.changes can.timestamp ready can.from can.was

  pub lies : LieOnSlots old.sizes (recovery_slots ready) (recovery_updates ready)
  lies = first_lies tells old found can.changes can.timestamp ready can.from can.was

  pub on_seats : (slot : ℕ) → IsOneOf (recovery_slots ready) slot → IsOneOf (slots_of found.seats) slot
  on_seats slot one = recovery_on_seats found can.changes can.timestamp ready can.was slot one

  may : tells → MayRecover old found ready
  may told = may_recover found can.changes can.timestamp ready can.was old (can.from.held told) (can.from.stand told)

  taken : tells → (left : List Bool) (named : Option (List ℕ)) → IsFoundBy old left named found → WasTaken old left named found can.changes can.timestamp ready
  taken told left named by = record {
    every_slot = by.every_slot;
    is_found = by.is_found;
    stand = can.from.stand told;
    under = can.from.under;
    fit = can.from.seats;
    can_be_asked = can.can_be_asked;
    was_readied = can.was;
  }

  -- what it issues
  changes_same : recovery_changes can.timestamp found ≡ changes_in found first
  changes_same =
      ap (λ (step : Option Step). changes_in found (option_to_list step)) (sym can.was.is_recovery) ∙ ap (changes_in found) (sym (recovery_is ready.recovery))

  -- the seats stay
  seats_same : recovered.seats ≡ found.seats
  seats_same = recovered_seats found can.changes can.timestamp ready can.was can.members

  -- ---- what a stop leaves

  abbrev Leaves : (recovery : Option ReadyStep) → Type 0
  Leaves recovery =
      (to : MayRecover old found (record { recovery = recovery; steps = ready.steps })) → LieOnSlots old.sizes (slots_written recovery) (updates_written recovery) → (image : Image)
      → IsLeftChangingAll sure (slots_written recovery) to.seat (updates_written recovery) image → IsLeftWriting old (recovery_in recovery) image

  leaves_by : ReadsTrue old → (recovery : Option ReadyStep) → ready.recovery ≡ recovery → Leaves recovery
  leaves_by reads None is to on image changing = left_still old [] image (λ s l. (changing.others s l (λ place at. absurd cc)).0)
  leaves_by reads (Some one) is to on image changing =
      let follows = recovery_follows found can.changes can.timestamp ready can.was one is in
      let leaves = step_leaves sure one to.seat image on to.may_change to.news follows.are_prepared (λ s l. (reads.is_left s l, λ place at. refl)) (says_one old reads) changing (one.step ∷ []) 0 refl in
      record { before = leaves.before; is_left = λ s l. (leaves.is_left s l).0; shows = leaves.shows; outside = leaves.outside; floors = leaves.floors }

  module _ (tells_old : IsTold old) (new : BayState D) (tells_new : IsTold new) where
    module _ (done : Bool) (is : tells → IsRecovery old new found ready done) where
      recovery_leaves : tells → StopsLeave old new (IsLeftWriting old first)
      recovery_leaves told =
          let moments = (is told).any_moment (may told).seat (may told).may_change in
          record {
            later = moments.later;
            since = λ t image le was_left. ⊎_elim inl
                (λ either.
                let reads = reads_true old tells_old.held tells_old.whole ((is told).spends.told (tells_new.since t image was_left)) in
                inr (⊎_elim (left_still old first image)
                (λ changing. leaves_by reads ready.recovery refl (may told) (recovery_lies found can.changes can.timestamp ready can.was old.sizes can.from.under) image changing) either))
                (moments.since t image le was_left);
          }

      recovery_keeps : tells → (left : List Bool) (named : Option (List ℕ)) → IsFoundBy old left named found → (group : List ℕ) → found.config.group ≡ group → (past : Past (groups group))
          → AreAllKept group past old → IsAdmitted group past old left found → KeepsHistory group old new past left found (changes_in found first) done
      recovery_keeps told left named by group same past kept admitted =
          let take = taken told left named by in
          let to = recovering.may past old left named found can.changes can.timestamp ready take same kept admitted in
          subst (λ (changes : List Configuration). KeepsHistory group old new past left found changes done) changes_same
          (keeps_where_told group past left found (recovery_changes can.timestamp found) done old new ((is told).any_moment to.seat to.may_change).later tells_new.since
          (λ left_told. reads_true old tells_old.held tells_old.whole ((is told).spends.told left_told))
          (λ reads. recovering.recovery_keeps past old left named found can.changes can.timestamp ready take same kept admitted reads new done (is told) tells_new.held))

      -- What holds of the call, whatever came of it, by what it keeps at its end.
      abbrev Ends : Type 0
      Ends = tells → new.tells_left → (left : List Bool) (named : Option (List ℕ)) → IsFoundBy old left named found → (group : List ℕ) → found.config.group ≡ group → (past : Past (groups group))
          → AreAllKept group past old → IsAdmitted group past old left found
          → (now : Past (groups group)) × Goes group past (is_read left) found (changes_in found first) now × AreAllKept group now new

      goes_by : GoesBetween old new → (new.tells_left → old.tells_left) → new.failed_reads ≡ old.failed_reads → Ends → GoesOpening tells old new found first
      goes_by goes back same_reads ends = record {
        goes = goes;
        told = back;
        same_reads = same_reads;
        beside = λ told. recovery_beside tells old found can.changes can.timestamp ready can.from can.was (may told) new ((is told).any_moment (may told).seat (may told).may_change);
        leaves = recovery_leaves;
        ends = λ told. left_at_end old new tells_old tells_new (IsLeftWriting old first) (recovery_leaves told) (left_still old first);
        any_moment = λ told left named by group same past kept admitted. (recovery_keeps told left named by group same past kept admitted).any_moment;
        all_kept = ends;
      }

    -- It failed.
    pub recovery_failed : (tells → IsRecovery old new found ready false) → GoesBetween old new → (new.tells_left → old.tells_left) → new.failed_reads ≡ old.failed_reads
        → GoesOpening tells old new found first
    recovery_failed is goes back same_reads =
        goes_by false is goes back same_reads (λ told left_told left named by group same past kept admitted. (recovery_keeps false is told left named by group same past kept admitted).ends left_told)

    -- It was written.
    module _ (is : tells → IsRecovery old new found ready true) (same_sizes : new.sizes ≡ old.sizes) where
      abbrev changed : (told : tells) → AreChanged sure new (recovery_slots ready) (may told).seat (recovery_updates ready) (length (recovery_slots ready))
      changed told = (is told).changed refl (may told).seat (may told).may_change

      stands_recovered : Stands tells new recovered rest
      stands_recovered = record {
        is_ready = recovered_ready found can.changes can.timestamp ready can.was;
        anchored = recovered_anchored found can.changes can.timestamp ready can.was new.sizes
            (subst (λ (sizes : List ℕ). HaveAnchors sizes found.newest) (sym same_sizes) can.from.under);
        holds = λ told.
            recovered_held found can.changes can.timestamp ready can.was old new same_sizes (can.from.held told) (can.from.stand told) (may told) (changed told);
        floored = recovered_floored found can.changes can.timestamp ready can.was can.floored;
        keep_seats = subst (λ (seats : List Seat). KeepSeats seats ready.steps) (sym seats_same) can.keep_seats;
      }

      written_first : tells → AreWritten old.sizes old.held first new.held
      written_first told =
          subst (λ (steps : List Step). AreWritten old.sizes old.held steps new.held) (alone ready.recovery)
          (recovery_written old new found (seated found) ready.recovery [] new.held can.was.recovers
          (record { seat = (may told).seat; may_change = (may told).may_change; news = (may told).news; olds = (may told).olds }) (changed told) (λ s l. refl))

      adds_nothing : tells → AddsNothing old new (slots_of found.seats)
      adds_nothing told s l bytes other left =
          ((changed told).others_left s l bytes (λ place below at. not_among (slots_of found.seats) (recovery_slots ready) on_seats s other place at) left).0

      loses : some found.absent ≡ true → 1 ≤ length (changes_in found first)
      loses absent = subst (λ (changes : List Configuration). 1 ≤ length changes) changes_same (recovery_loses found can.changes can.timestamp ready can.was absent)

      stands_ready : tells → new.tells_left → (left : List Bool) (named : Option (List ℕ)) → IsFoundBy old left named found → (group : List ℕ) → found.config.group ≡ group → (past : Past (groups group))
          → AreAllKept group past old → IsAdmitted group past old left found
          → (now : Past (groups group)) × IsOver group past (is_read left) found (changes_in found first) now × StandsReady group now new recovered rest
      stands_ready told left_told left named by group same past kept admitted =
          let reads = reads_true old tells_old.held tells_old.whole ((is told).spends.told left_told) in
          let stands = recovering.recovery_stands past old left named found can.changes can.timestamp ready (taken told left named by) same kept admitted reads new (is told) (tells_new.held left_told) in
          (stands.0, subst (λ (changes : List Configuration). IsOver group past (is_read left) found changes stands.0) changes_same stands.1, stands.2)

      pub recovery_done : GoesBetween old new → (new.tells_left → old.tells_left) → new.failed_reads ≡ old.failed_reads → GoesOpening tells old new found first
      recovery_done goes back same_reads =
          goes_by true is goes back same_reads (λ told left_told left named by group same past kept admitted.
          let stands = stands_ready told left_told left named by group same past kept admitted in (
            stands.0,
            subst (λ (changes : List Configuration). Goes group past (is_read left) found changes stands.0) (append-nil (changes_in found first))
                (over_goes group past (is_read left) found (changes_in found first) stands.0 stands.1 loses []),
            stands.2.at_end.all_kept,
          ))

      pub recovery_opened : (syncs : ℕ) → Costs old new (all_sectors (recovery_updates ready)) syncs → (now_found : GroupValue) → now_found ≡ recovered → (now_ready : ReadyValue) → now_ready ≡ rest
          → IsOpened tells old new found first now_found now_ready
      recovery_opened syncs costs now_found found_is now_ready ready_is =
          subst (λ (one : GroupValue). IsOpened tells old new found first one now_ready) (sym found_is)
          (subst (λ (one : ReadyValue). IsOpened tells old new found first recovered one) (sym ready_is) (record {
            stands = stands_recovered;
            same_seats = seats_same;
            no_lower = subst (λ (config : Configuration). found.config.sequence ≤ config.sequence) (sym (is_recovered found can.changes can.timestamp ready can.was).config_is)
                (no_lower found can.changes can.timestamp ready can.was);
            is_last = recovery_last found ready.recovery;
            are_written = written_first;
            none_asked = λ none. none_asked old new new syncs 0 ready.recovery [] costs (costs_start new) (alone ready.recovery ∙ none);
            others_left = adds_nothing;
            loses = loses;
            at_end = stands_ready;
          }))
