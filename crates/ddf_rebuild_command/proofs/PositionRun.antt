-- A rebuild of a position since the entry of its call: its group is read, the first steps are written, and then the rounds are done.
use Rattle.std.proofs.Common.{◌≡◌, ℕ, ◌+◌, ◌<◌, ◌≤◌, Bool, true, false, List, [], ◌++◌, length, take, Option, Ok, Err, refl, sym, ap, subst, ◌∙◌, inl, inr, ⊎_elim, arith}
use Rattle.std.proofs.Math.Seq.{take-length}
use Rattle.ddf_lemmas.proofs.Lists.{in_map}
use Rattle.ddf_bay.specs.Moments.{StopsLeave}
use Rattle.ddf_bay.specs.ReadsOnly.{ReadsOnly}
use Rattle.ddf_bay.specs.Sectors.{Image, IsLeft}
use Rattle.ddf_bay.specs.State.{BayState}
use Rattle.ddf_bay.proofs.Steps.{stops_then, stops_weaken, rose_since}
use Rattle.ddf_config.specs.declared.seat.Seat.{Seat}
use Rattle.ddf_config.specs.Configuration.{Configuration}
use Rattle.ddf_config.specs.Seats.{SeatsFit}
use Rattle.ddf_update.specs.Group.{IsOneOf}
use Rattle.ddf_read.specs.Reading.{Failed}
use Rattle.ddf_history.specs.Groups.{groups}
use Rattle.ddf_history.specs.Issued.{Past, acknowledge, issue}
use Rattle.ddf_history.specs.Promise.{IsKept}
use Rattle.ddf_history.specs.Scenes.{scene_of}
use Rattle.ddf_steps.specs.Committed.{AreSettled, slots_of}
use Rattle.ddf_seats.specs.Group.{GroupValue}
use Rattle.ddf_recovery.specs.Ready.{ReadyValue}
use Rattle.ddf_steps.specs.Steps.{Step}
use Rattle.ddf_history_steps.specs.Going.{Ends, Goes, IsAdmitted, IsOver, KeepsHistory, changes_in, issue_all}
use Rattle.ddf_history_steps.specs.Kept.{AreAllKept, is_read}
use Rattle.ddf_history_steps.specs.Steps.{StandsReady}
use Rattle.ddf_answer.specs.declared.failure.Failure.{Failure}
use Rattle.ddf_answer.specs.declared.failure.Failure.TheVariants.{Conflict, Disk, Memory, Refused, Split}
use Rattle.ddf_answer.specs.Call.{Work, work_of}
use Rattle.ddf_group_commands.specs.Change.{last_sequence}
use Rattle.ddf_group_commands.specs.GroupRead.{IsFoundBy}
use Rattle.ddf_group_commands.specs.Others.{LeavesOthers}
use Rattle.ddf_group_commands.specs.Writing.{IsLeftWriting}
use Rattle.ddf_group_commands.specs.Written.{AreWritten}
use Rattle.ddf_group_commands.proofs.Beside.{beside_since}
use Rattle.ddf_group_commands.proofs.LeftWriting.{left_still}
use Rattle.ddf_rebuild_command.specs.Along.{ComesAlong, HasCome, IsAlong, IsOverRounds}
use Rattle.ddf_rebuild_command.specs.Asked.{rows_in}
use Rattle.ddf_rebuild_command.specs.Filled.{AreFilled, EndsAmidst, GoesFilling, HasComeIn, IsFillFault, IsLeftIn, behind_rounds}
use Rattle.ddf_rebuild_command.specs.Opened.{GoesOpening, IsOpened}
use Rattle.ddf_rebuild_command.specs.Planned.{IsPlanned, first_row}
use Rattle.ddf_rebuild_command.specs.Rebuilt.{IsRebuiltOf, MayBeLeft}
use Rattle.ddf_rebuild_command.specs.Rounds.{AreRounds, Round, steps_of}
use Rattle.ddf_rebuild_command.specs.Stages.{IsLeftAt, Stage}
use Rattle.ddf_rebuild_command.specs.Stages.Stage.{Filling, Noting, Opening}
use Rattle.ddf_rebuild_command.specs.Standing.{AddsNothing}
use Rattle.ddf_rebuild_command.proofs.Coming.{AreAbove, above_at, above_first, change_of, changes_both, goes_more, over_counts, over_rounds, rounds_goes}
use Rattle.ddf_rebuild_command.proofs.OneRound.{stops_both}
use Rattle.ddf_rebuild_command.proofs.RoundsMore.{left_more, none_left_more, rounds_more}
use Rattle.ddf_rebuild_command.proofs.Writings.{last_then}
use Rattle.ddf_history_steps.proofs.Entering.{admitted_still, kept_still}
use Rattle.ddf_group_commands.proofs.LeftWriting.{writing_since}
use Rattle.ddf_write_commands.proofs.Sparing.{written_since}

-- ---- since the entry of a call that read its group

pub seat_there : (sizes : List ℕ) (seats : List Seat) → SeatsFit sizes seats → (slot : ℕ) → IsOneOf (slots_of seats) slot → slot < length sizes
seat_there sizes seats fit slot one =
    let seat = in_map (λ (each : Seat). each.slot) seats one.place slot one.is_there in
    subst (λ (n : ℕ). n < length sizes) seat.2 (fit one.place seat.0 seat.1).0

module _ {D : Type 0} (tells : Type 0) (entry start mid new : BayState D) (reads : ReadsOnly entry start) (reads_rise : (slot : ℕ) → entry.failed_reads slot ≤ start.failed_reads slot)
    (writes_rise : (slot : ℕ) → entry.failed_writes slot ≤ start.failed_writes slot) (told_since : (t : ℕ) (image : Image) → new.left_since t image → new.tells_left)
    (found : GroupValue) (timestamp : ℕ) (word : List ℕ) (plan : IsPlanned found timestamp word) (fit : SeatsFit entry.sizes found.seats) (opens : GoesOpening tells start mid found plan.first)
    (opened_found : GroupValue) (opened_ready : ReadyValue) (opened : IsOpened tells start mid found plan.first opened_found opened_ready) (done : Bool)
    (fills : GoesFilling tells mid new plan.volume plan.target (first_row plan) plan.rounds opened_found opened_ready done) (above : AreAbove found.config.sequence plan.rounds)
    (some_rounds : plan.rounds ≡ [] → ⊥) where
  abbrev work : Work D
  work = work_of tells entry new

  abbrev slots : List ℕ
  slots = slots_of found.seats

  abbrev all_steps : List Step
  all_steps = plan.first ++ steps_of plan.rounds

  since_entry : (slot : ℕ) → Failed mid new slot → Failed entry new slot
  since_entry slot failed =
      rose_since (entry.failed_reads slot) (mid.failed_reads slot) (new.failed_reads slot) (let one = reads_rise slot in let other = opens.goes.reads_rise slot in omega (arith, one, other)) failed

  sizes_mid : mid.sizes ≡ entry.sizes
  sizes_mid = opens.goes.same_sizes ∙ reads.same_sizes

  adds_mid : tells → AddsNothing entry mid slots
  adds_mid told s l bytes other left = reads.keeps s l bytes (opened.others_left told s l bytes other left)

  -- ---- what a stop leaves

  opening_left : (image : Image) → IsLeftWriting start plan.first image → IsLeftAt work found plan Opening image
  opening_left image writing = writing_since entry start reads plan.first image writing

  first_written : tells → AreWritten entry.sizes entry.held plan.first mid.held
  first_written told = written_since entry start reads plan.first mid.held (opened.are_written told)

  at_stage : tells → (stage : Stage) (image : Image) → IsLeftIn (Failed entry new) new.tells_left (record entry { held = mid.held }) slots plan.volume plan.target (first_row plan) plan.rounds stage image
      → IsLeftAt work found plan stage image
  at_stage told Opening image left = absurd left
  at_stage told (Filling number) image left = record {
    before = left.before;
    is_behind = record { opened = mid.held; first_written = first_written told; rounds_done = left.rounds_done };
    round = left.round;
    is_round = left.is_round;
    is_left = left.is_left;
  }
  at_stage told (Noting number) image left = record {
    before = left.before;
    is_behind = record { opened = mid.held; first_written = first_written told; rounds_done = left.rounds_done };
    round = left.round;
    is_round = left.is_round;
    filled = left.filled;
    is_filled = left.is_filled;
    is_left = left.is_left;
  }

  round_left : tells → (stage : Stage) (image : Image) → IsLeftIn (Failed mid new) new.tells_left mid (slots_of opened_found.seats) plan.volume plan.target (first_row plan) plan.rounds stage image
      → IsLeftAt work found plan stage image
  round_left told stage image left =
      at_stage told stage image
      (left_more (Failed mid new) (Failed entry new) since_entry new.tells_left new.tells_left (λ told. told) mid (record entry { held = mid.held }) sizes_mid refl slots (adds_mid told) plan.volume plan.target (first_row plan) plan.rounds stage image
      (subst (λ (seats : List Seat). IsLeftIn (Failed mid new) new.tells_left mid (slots_of seats) plan.volume plan.target (first_row plan) plan.rounds stage image) opened.same_seats left))

  pub run_leaves : tells → (steps : List Step) → StopsLeave entry new (MayBeLeft work found timestamp word steps)
  run_leaves told steps =
      stops_then (stops_then (stops_weaken reads.any_moment (λ image left. inl left)) (opens.leaves told)
      (λ image writing. inr (inr (record { plan = plan; stage = Opening; is_left = opening_left image writing })))) (fills.leaves told)
      (λ image now. inr (inr (record { plan = plan; stage = now.stage; is_left = round_left told now.stage image now.is_left })))

  pub run_beside : tells → LeavesOthers entry new slots
  run_beside told =
      stops_then (beside_since entry start mid slots reads (opens.beside told)) (subst (λ (seats : List Seat). LeavesOthers mid new (slots_of seats)) opened.same_seats (fills.beside told))
      (λ image may s l other. adds_mid told s l (image s l) other (may s l other))

  -- ---- what it means to a history

  module _ (told : tells) (left : List Bool) (named : Option (List ℕ)) (by : IsFoundBy start left named found) (group : List ℕ) (same : found.config.group ≡ group) (past : Past (groups group))
      (kept : AreAllKept group past entry) (admitted : IsAdmitted group past entry left found) where
    kept_start : AreAllKept group past start
    kept_start = kept_still group past entry start reads kept

    admitted_start : IsAdmitted group past start left found
    admitted_start = admitted_still group past entry start reads left found admitted

    abbrev First : Type 0
    First = (now : Past (groups group)) × IsOver group past (is_read left) found (changes_in found plan.first) now × StandsReady group now mid opened_found opened_ready

    first : new.tells_left → First
    first left_told = opened.at_end told (fills.told left_told) left named by group same past kept_start admitted_start

    -- All that a stop left since the entry has what holds of it in each part.
    moments_by : (P : Image → Type 0) → ((image : Image) → IsLeft entry.may_hold image → P image)
        → ((image : Image) → IsLeftWriting start plan.first image → (now : Past (groups group)) → Goes group past (is_read left) found (changes_in found plan.first) now → IsKept now (scene_of entry.sizes image) → P image)
        → ((at : First) (image : Image) (stage : Stage) → IsLeftAt work found plan stage image → (now : Past (groups group)) → HasComeIn group at.0 plan.rounds stage now
        → IsKept now (scene_of entry.sizes image) → P image)
        → StopsLeave entry new P
    moments_by P before opening filling =
        let look = stops_weaken reads.any_moment before in
        let opening_too = stops_then look
        (stops_both start mid (IsLeftWriting start plan.first) (λ image. (now : Past (groups group)) × Goes group past (is_read left) found (changes_in found plan.first) now × IsKept now (scene_of start.sizes image))
        (opens.leaves told) (opens.any_moment told left named by group same past kept_start admitted_start))
        (λ image both. opening image both.0 both.1.0 both.1.1 (subst (λ (sizes : List ℕ). IsKept both.1.0 (scene_of sizes image)) reads.same_sizes both.1.2)) in
        let up : mid.moment ≤ new.moment = (fills.leaves told).later in
        record {
          later = let one = opening_too.later in omega (arith, one, up);
          since = λ t image le was_left.
              let at = first (told_since t image was_left) in
              ⊎_elim (λ earlier. opening_too.since t image le earlier)
              (λ now. inr (filling at image now.stage (round_left told now.stage image now.is_left) now.shows.0 now.shows.1
              (subst (λ (sizes : List ℕ). IsKept now.shows.0 (scene_of sizes image)) sizes_mid now.shows.2)))
              ((fills.any_moment told group at.0 at.2).since t image (let one = opening_too.later in omega (arith, le, one)) was_left);
        }

    -- the history has come as far as the rounds have
    over_some : (at : First) (number : ℕ) → IsOverRounds group work past left found plan number (behind_rounds group at.0 (take number plan.rounds))
    over_some at number =
        over_rounds group past (is_read left) found (take number plan.rounds) (above_first found.config.sequence number plan.rounds above) plan.first at.0 at.1 opened.loses

    come_by : (at : First) (stage : Stage) (now : Past (groups group)) → HasComeIn group at.0 plan.rounds stage now → HasCome group work past left found plan stage now
    come_by at Opening now come = absurd come
    come_by at (Filling number) now come = subst (λ (one : Past (groups group)). IsOverRounds group work past left found plan number one) (sym come) (over_some at number)
    come_by at (Noting number) now come =
        let before = behind_rounds group at.0 (take number plan.rounds) in
        let over = over_some at number in
        let round = come.0 in
        let one = change_of found round.step (above_at found.config.sequence number plan.rounds round above come.1) in
        let counts = over_counts group past (is_read left) found (changes_in found (plan.first ++ steps_of (take number plan.rounds))) before over in (
          before,
          over,
          round,
          come.1,
          ⊎_elim
              (λ issued. inl (issued ∙ ap (λ (changes : List Configuration). issue_all group before changes) (sym one)))
              (λ acked. inr (acked ∙ ap (λ (n : ℕ). acknowledge (issue before round.step.config) n) counts
              ∙ ap (λ (changes : List Configuration). acknowledge (issue_all group before changes) (before.changes.acked + length changes)) (sym one)))
              come.2,
        )

    goes_all : (at : First) (stage : Stage) (now : Past (groups group)) → HasComeIn group at.0 plan.rounds stage now → Goes group past (is_read left) found (changes_in found all_steps) now
    goes_all at stage now come = rounds_goes group past (is_read left) found plan.rounds above plan.first at.0 at.1 opened.loses stage now come

    goes_opening : (now : Past (groups group)) → Goes group past (is_read left) found (changes_in found plan.first) now → Goes group past (is_read left) found (changes_in found all_steps) now
    goes_opening now goes =
        subst (λ (changes : List Configuration). Goes group past (is_read left) found changes now) (sym (changes_both found plan.first (steps_of plan.rounds)))
        (goes_more group past (is_read left) found (changes_in found plan.first) (changes_in found (steps_of plan.rounds)) now goes)

    ends_amidst : new.tells_left → (at : First) → EndsAmidst tells mid new plan.volume plan.target (first_row plan) plan.rounds opened_found opened_ready group at.0 done
    ends_amidst left_told at = ⊎_elim (λ ends. ends) (λ none. absurd (some_rounds none.0)) (fills.ends told left_told group at.0 at.2)

    over_all : (at : First) → IsOver group past (is_read left) found (changes_in found all_steps) (behind_rounds group at.0 plan.rounds)
    over_all at = over_rounds group past (is_read left) found plan.rounds above plan.first at.0 at.1 opened.loses

    over_length : (at : First) → IsOverRounds group work past left found plan (length plan.rounds) (behind_rounds group at.0 plan.rounds)
    over_length at =
        subst (λ (rounds : List Round). IsOver group past (is_read left) found (changes_in found (plan.first ++ steps_of rounds)) (behind_rounds group at.0 plan.rounds)) (sym (take-length plan.rounds)) (over_all at)

    pub run_along : ComesAlong group work past left found plan done
    run_along = record {
      any_moment = moments_by (IsAlong group work past left found plan)
          (λ image before. record { stage = Opening; now = past; has_come = inl refl; is_left = left_still entry plan.first image before; is_kept = kept image before })
          (λ image writing now goes is. record { stage = Opening; now = now; has_come = goes; is_left = opening_left image writing; is_kept = is })
          (λ at image stage is_left now come is. record { stage = stage; now = now; has_come = come_by at stage now come; is_left = is_left; is_kept = is });
      ends = λ left_told.
          let at = first left_told in
          let ends = ends_amidst left_told at in
          record {
            stage = ends.stage;
            now = ends.now;
            has_come = come_by at ends.stage ends.now ends.has_come;
            is_over = λ so. subst (λ (now : Past (groups group)). IsOverRounds group work past left found plan (length plan.rounds) now) (sym (ends.is_over so)) (over_length at);
            is_left = λ image is_left. round_left told ends.stage image (ends.is_left image is_left);
            all_kept = ends.all_kept;
          };
    }

    keeps_by : (b : Bool) → done ≡ b → KeepsHistory group entry new past left found (changes_in found all_steps) b
    keeps_by b e = record {
      any_moment = moments_by (λ image. (now : Past (groups group)) × Goes group past (is_read left) found (changes_in found all_steps) now × IsKept now (scene_of entry.sizes image))
          (λ image before. (past, inl refl, kept image before))
          (λ image writing now goes is. (now, goes_opening now goes, is))
          (λ at image stage is_left now come is. (now, goes_all at stage now come, is));
      ends = λ left_told. ends_by b e left_told;
    }
      where
        ends_by : (b : Bool) → done ≡ b → new.tells_left → (now : Past (groups group)) × Ends group past (is_read left) found (changes_in found all_steps) b now × AreAllKept group now new
        ends_by true e left_told =
            let at = first left_told in
            let ends = ends_amidst left_told at in
            (ends.now, subst (λ (now : Past (groups group)). IsOver group past (is_read left) found (changes_in found all_steps) now) (sym (ends.is_over e)) (over_all at), ends.all_kept)
        ends_by false e left_told =
            let at = first left_told in
            let ends = ends_amidst left_told at in
            (ends.now, goes_all at ends.stage ends.now ends.has_come, ends.all_kept)

    pub run_keeps : KeepsHistory group entry new past left found (changes_in found all_steps) done
    run_keeps = keeps_by done refl

  -- ---- what came of it

  pub run_done : (now_found : GroupValue) (now_ready : ReadyValue) → AreFilled tells mid new plan.volume plan.target (first_row plan) plan.rounds opened_found opened_ready now_found now_ready
      → (sequence : ℕ) → sequence ≡ now_found.config.sequence → IsRebuiltOf work found timestamp word (Ok sequence)
  run_done now_found now_ready filled sequence is = inl (record {
    plan = plan;
    is_last = is ∙ filled.is_last ∙ ap (λ (n : ℕ). last_sequence n (steps_of plan.rounds)) opened.is_last ∙ sym (last_then found.config.sequence plan.first (steps_of plan.rounds));
    done = λ told. record {
      before = mid.held;
      first_written = first_written told;
      rounds_done = subst (λ (sizes : List ℕ). AreRounds (Failed entry new) new.tells_left sizes plan.volume plan.target (first_row plan) mid.held plan.rounds new.held) sizes_mid
          (rounds_more (Failed mid new) (Failed entry new) since_entry new.tells_left new.tells_left (λ told. told) plan.volume plan.target mid.sizes (first_row plan) mid.held plan.rounds new.held (filled.are_done told));
      are_settled = subst (λ (seats : List Seat). AreSettled new seats (length seats)) (filled.same_seats ∙ opened.same_seats) (filled.stands.holds told).are_settled;
    };
  })

  pub run_fault : (failure : Failure)
      → IsFillFault tells mid new plan.volume plan.target (first_row plan) plan.rounds opened_found opened_ready (rows_in plan.entry.1 plan.target.element) failure
      → IsRebuiltOf work found timestamp word (Err failure)
  run_fault (Disk slot) fault =
      let seat : IsOneOf slots slot = subst (λ (seats : List Seat). IsOneOf (slots_of seats) slot) opened.same_seats fault.0 in
      ⊎_elim
      (λ wrote. inl (record {
        steps = all_steps;
        are_asked = plan.are_asked;
        is_seat = seat;
        there = seat_there entry.sizes found.seats fit slot seat;
        rose = rose_since (entry.failed_writes slot) (mid.failed_writes slot) (new.failed_writes slot) (let one = writes_rise slot in let other = opens.goes.writes_rise slot in omega (arith, one, other)) wrote;
      }))
      (λ none. inr (record {
        plan = plan;
        is_seat = seat;
        there = seat_there entry.sizes found.seats fit slot seat;
        none_left = none_left_more (Failed mid new) (Failed entry new) since_entry plan.volume plan.target.element plan.target.position (first_row plan) (rows_in plan.entry.1 plan.target.element) (first_row plan)
            (rows_in plan.entry.1 plan.target.element) slot (omega arith) (omega arith) none;
      }))
      fault.1
  run_fault Memory fault = absurd fault
  run_fault (Refused refusal) fault = absurd fault
  run_fault (Conflict i j sequence differ) fault = absurd fault
  run_fault (Split i j) fault = absurd fault
