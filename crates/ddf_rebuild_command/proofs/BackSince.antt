-- A copyback since the entry of its call: its group is read and recovered, the room is filled, and then the last step is written.
use Rattle.std.proofs.Common.{◌≡◌, ◌⊎◌, ℕ, ◌+◌, ◌<◌, ◌≤◌, Bool, true, false, List, [], ◌∷◌, ◌++◌, length, Option, Some, Ok, Err, if◌then◌else◌, refl, sym, ap, subst, ◌∙◌, inl, inr, ⊎_elim, arith}
use Rattle.std.proofs.lemmas.Bool.{false≢true}
use Rattle.ddf_bytes.proofs.Common.{rose_behind}
use Rattle.ddf_bay.specs.Moments.{StopsLeave}
use Rattle.ddf_bay.specs.ReadsOnly.{ReadsOnly}
use Rattle.ddf_bay.specs.Sectors.{Image, IsLeft}
use Rattle.ddf_bay.specs.State.{BayState}
use Rattle.ddf_bay.proofs.Steps.{stops_then, stops_weaken, rose_since}
use Rattle.ddf_cells.specs.Writing.{IsLeftBut}
use Rattle.ddf_cells.proofs.GivenSteps.{wanted_wider}
use Rattle.ddf_cells.specs.CellSources.{cell_sources}
use Rattle.ddf_config.specs.declared.seat.Seat.{Seat}
use Rattle.ddf_config.specs.Configuration.{Configuration}
use Rattle.ddf_config.specs.Seats.{SeatsFit}
use Rattle.ddf_rebuild.specs.Filling.{IsFilled}
use Rattle.ddf_update.specs.Group.{IsOneOf}
use Rattle.ddf_read.specs.Reading.{Failed}
use Rattle.ddf_read.proofs.Tries.{NotRead-wider}
use Rattle.ddf_history.specs.Groups.{groups}
use Rattle.ddf_history.specs.Issued.{Past, acknowledge, issue}
use Rattle.ddf_history.specs.Promise.{IsKept}
use Rattle.ddf_history.specs.Scenes.{scene_of}
use Rattle.ddf_steps.specs.Committed.{AreSettled, slots_of}
use Rattle.ddf_steps.specs.Ready.{ReadyStep}
use Rattle.ddf_steps.specs.Steps.{Step}
use Rattle.ddf_seats.specs.Group.{GroupValue}
use Rattle.ddf_recovery.specs.Ready.{ReadyValue}
use Rattle.ddf_history_steps.specs.Going.{Ends, Goes, IsAdmitted, IsOver, KeepsHistory, changes_in, issue_all}
use Rattle.ddf_history_steps.specs.Kept.{AreAllKept, is_read}
use Rattle.ddf_history_steps.specs.Steps.{StandsReady, behind_next, with_next}
use Rattle.ddf_history_steps.proofs.Entering.{admitted_still, kept_still}
use Rattle.ddf_answer.specs.declared.failure.Failure.{Failure}
use Rattle.ddf_answer.specs.declared.failure.Failure.TheVariants.{Conflict, Disk, Memory, Refused, Split}
use Rattle.ddf_answer.specs.Call.{Work, work_of}
use Rattle.ddf_group_commands.specs.GroupRead.{IsFoundBy}
use Rattle.ddf_group_commands.specs.Others.{LeavesOthers}
use Rattle.ddf_group_commands.specs.Writing.{IsLeftWriting}
use Rattle.ddf_group_commands.specs.Written.{AreWritten}
use Rattle.ddf_group_commands.proofs.Beside.{beside_since}
use Rattle.ddf_group_commands.proofs.LeftWriting.{left_still, writing_more, writing_since}
use Rattle.ddf_write_commands.specs.Holding.{holding}
use Rattle.ddf_write_commands.proofs.Sparing.{written_since}
use Rattle.ddf_rebuild_command.specs.BackAlong.{ComesAlongBack, EndsAlongBack, HasGone, IsAlongBack}
use Rattle.ddf_rebuild_command.specs.BackPlanned.{IsBackLeftAt, IsBackPlanned, IsCopied, IsLeftGoingBack}
use Rattle.ddf_rebuild_command.specs.BackPlanned.BackStage.{Copying, Opening, Returning}
use Rattle.ddf_rebuild_command.specs.BackRun.{GoesCopying, IsCopyFault, IsRoomFilled}
use Rattle.ddf_rebuild_command.specs.CopiedBack.{IsBackOf}
use Rattle.ddf_rebuild_command.specs.Filled.{made}
use Rattle.ddf_rebuild_command.specs.Opened.{GoesOpening, IsOpened}
use Rattle.ddf_rebuild_command.specs.Rounds.{IsSure}
use Rattle.ddf_rebuild_command.specs.Standing.{AddsNothing, GoesNext, IsNextWritten, IsSlotFault}
use Rattle.ddf_rebuild_command.proofs.Coming.{change_of, changes_both, goes_more, issue_goes, next_over, over_counts, over_goes}
use Rattle.ddf_rebuild_command.proofs.OneRound.{stops_both}
use Rattle.ddf_rebuild_command.proofs.PositionRun.{seat_there}
use Rattle.ddf_rebuild_command.proofs.RoundsMore.{left_holding}
use Rattle.ddf_rebuild_command.proofs.Writings.{last_then}

-- what is said of any of these images
abbrev MayHave : {D : Type 0} (tells : Type 0) (entry new : BayState D) (found : GroupValue) (timestamp : ℕ) (word : List ℕ) (slot : ℕ) → Image → Type 0
MayHave tells entry new found timestamp word slot image = IsLeft entry.may_hold image ⊎ IsLeftGoingBack (work_of tells entry new) found timestamp word slot image

module _ {D : Type 0} (tells : Type 0) (entry start mid behind new : BayState D) (reads : ReadsOnly entry start) (reads_rise : (s : ℕ) → entry.failed_reads s ≤ start.failed_reads s)
    (writes_rise : (s : ℕ) → entry.failed_writes s ≤ start.failed_writes s) (behind_told : (t : ℕ) (image : Image) → behind.left_since t image → behind.tells_left)
    (found : GroupValue) (timestamp : ℕ) (word : List ℕ) (slot : ℕ) (plan : IsBackPlanned entry.sizes found timestamp word slot) (fit : SeatsFit entry.sizes found.seats)
    (opens : GoesOpening tells start mid found plan.first) (opened_found : GroupValue) (opened_ready : ReadyValue) (opened : IsOpened tells start mid found plan.first opened_found opened_ready)
    (copying : GoesCopying tells mid behind plan.volume plan.target plan.to plan.room.start opened_found opened_ready) where
  abbrev work : Work D
  work = work_of tells entry new

  abbrev slots : List ℕ
  slots = slots_of found.seats

  abbrev all_steps : List Step
  all_steps = plan.first ++ plan.last ∷ []

  abbrev Cells : ℕ → ℕ → Type 0
  Cells = IsFilled plan.volume plan.target.element plan.to plan.room.start

  sizes_mid : mid.sizes ≡ entry.sizes
  sizes_mid = opens.goes.same_sizes ∙ reads.same_sizes

  adds_mid : tells → AddsNothing entry mid slots
  adds_mid told s l bytes other left = reads.keeps s l bytes (opened.others_left told s l bytes other left)

  first_written : tells → AreWritten entry.sizes entry.held plan.first mid.held
  first_written told = written_since entry start reads plan.first mid.held (opened.are_written told)

  held_mid : tells → (s l : ℕ) (bytes : List ℕ) → mid.may_hold s l bytes → (holding entry slots mid.held).may_hold s l bytes
  held_mid told s l bytes left =
      subst (λ (seats : List Seat). (holding entry (slots_of seats) mid.held).may_hold s l bytes) opened.same_seats
      (left_holding entry mid opened_found (opened.stands.holds told) (subst (λ (seats : List Seat). AddsNothing entry mid (slots_of seats)) (sym opened.same_seats) (adds_mid told)) s l bytes left)

  -- ---- what a stop leaves

  opening_left : (image : Image) → IsLeftWriting start plan.first image → IsBackLeftAt work found plan Opening image
  opening_left image writing = writing_since entry start reads plan.first image writing

  copying_left : tells → (image : Image) → IsLeftBut Cells mid.may_hold image → IsBackLeftAt work found plan Copying image
  copying_left told image but = record {
    before = mid.held;
    first_written = first_written told;
    is_left = λ s l. ⊎_elim (λ before. inl (held_mid told s l (image s l) before)) inr (but s l);
  }

  behind_leaves : tells → StopsLeave entry behind (MayHave tells entry new found timestamp word slot)
  behind_leaves told =
      stops_then (stops_then (stops_weaken reads.any_moment (λ image left. inl left)) (opens.leaves told)
      (λ image writing. inr (record { plan = plan; stage = Opening; is_left = opening_left image writing }))) (copying.leaves told)
      (λ image but. inr (record { plan = plan; stage = Copying; is_left = copying_left told image but }))

  behind_beside : tells → LeavesOthers entry behind slots
  behind_beside told =
      stops_then (beside_since entry start mid slots reads (opens.beside told)) (subst (λ (seats : List Seat). LeavesOthers mid behind (slots_of seats)) opened.same_seats (copying.beside told))
      (λ image may s l other. adds_mid told s l (image s l) other (may s l other))

  -- ---- what it means to a history

  module _ (told : tells) (left : List Bool) (named : Option (List ℕ)) (by : IsFoundBy start left named found) (group : List ℕ) (same : found.config.group ≡ group) (past : Past (groups group))
      (kept : AreAllKept group past entry) (admitted : IsAdmitted group past entry left found) where
    kept_start : AreAllKept group past start
    kept_start = kept_still group past entry start reads kept

    admitted_start : IsAdmitted group past start left found
    admitted_start = admitted_still group past entry start reads left found admitted

    abbrev GoesBy : List Step → Past (groups group) → Type 0
    GoesBy steps now = Goes group past (is_read left) found (changes_in found steps) now

    abbrev First : Type 0
    First = (now : Past (groups group)) × IsOver group past (is_read left) found (changes_in found plan.first) now × StandsReady group now mid opened_found opened_ready

    first : behind.tells_left → First
    first left_told = opened.at_end told (copying.told left_told) left named by group same past kept_start admitted_start

    -- All that a stop left until the room was filled, or wasn't, has what holds of it in each part.
    moments_behind : (P : Image → Type 0) → ((image : Image) → IsLeft entry.may_hold image → P image)
        → ((image : Image) → IsLeftWriting start plan.first image → (now : Past (groups group)) → GoesBy plan.first now → IsKept now (scene_of entry.sizes image) → P image)
        → ((at : First) (image : Image) → IsLeftBut Cells mid.may_hold image → IsKept at.0 (scene_of entry.sizes image) → P image) → StopsLeave entry behind P
    moments_behind P before opening filling =
        let look = stops_weaken reads.any_moment before in
        let opening_too = stops_then look
        (stops_both start mid (IsLeftWriting start plan.first) (λ image. (now : Past (groups group)) × GoesBy plan.first now × IsKept now (scene_of start.sizes image))
        (opens.leaves told) (opens.any_moment told left named by group same past kept_start admitted_start))
        (λ image both. opening image both.0 both.1.0 both.1.1 (subst (λ (sizes : List ℕ). IsKept both.1.0 (scene_of sizes image)) reads.same_sizes both.1.2)) in
        let up : mid.moment ≤ behind.moment = (copying.leaves told).later in
        record {
          later = let one = opening_too.later in omega (arith, one, up);
          since = λ t image le was_left.
              let at = first (behind_told t image was_left) in
              ⊎_elim (λ earlier. opening_too.since t image le earlier)
              (λ both. inr (filling at image both.0 (subst (λ (sizes : List ℕ). IsKept at.0 (scene_of sizes image)) sizes_mid both.1)))
              ((stops_both mid behind (IsLeftBut Cells mid.may_hold) (λ image. IsKept at.0 (scene_of mid.sizes image)) (copying.leaves told) (copying.any_moment told group at.0 at.2)).since
              t image (let one = opening_too.later in omega (arith, le, one)) was_left);
        }

    goes_opening : (now : Past (groups group)) → GoesBy plan.first now → GoesBy all_steps now
    goes_opening now goes =
        subst (λ (changes : List Configuration). Goes group past (is_read left) found changes now) (sym (changes_both found plan.first (plan.last ∷ [])))
        (goes_more group past (is_read left) found (changes_in found plan.first) (changes_in found (plan.last ∷ [])) now goes)

    goes_copying : (at : First) → GoesBy all_steps at.0
    goes_copying at =
        subst (λ (changes : List Configuration). Goes group past (is_read left) found changes at.0) (sym (changes_both found plan.first (plan.last ∷ [])))
        (over_goes group past (is_read left) found (changes_in found plan.first) at.0 at.1 opened.loses (changes_in found (plan.last ∷ [])))

    along_before : (image : Image) → IsLeft entry.may_hold image → IsAlongBack group work past left found plan image
    along_before image before = record { stage = Opening; now = past; has_gone = inl refl; is_left = left_still entry plan.first image before; is_kept = kept image before }

    along_opening : (image : Image) → IsLeftWriting start plan.first image → (now : Past (groups group)) → GoesBy plan.first now → IsKept now (scene_of entry.sizes image) → IsAlongBack group work past left found plan image
    along_opening image writing now goes is = record { stage = Opening; now = now; has_gone = goes; is_left = opening_left image writing; is_kept = is }

    along_copying : (at : First) (image : Image) → IsLeftBut Cells mid.may_hold image → IsKept at.0 (scene_of entry.sizes image) → IsAlongBack group work past left found plan image
    along_copying at image but is = record { stage = Copying; now = at.0; has_gone = at.1; is_left = copying_left told image but; is_kept = is }

-- It wasn't filled: what the run comes to.
module _ {D : Type 0} (tells : Type 0) (entry start mid new : BayState D) (reads : ReadsOnly entry start) (reads_rise : (s : ℕ) → entry.failed_reads s ≤ start.failed_reads s)
    (writes_rise : (s : ℕ) → entry.failed_writes s ≤ start.failed_writes s) (new_told : (t : ℕ) (image : Image) → new.left_since t image → new.tells_left)
    (found : GroupValue) (timestamp : ℕ) (word : List ℕ) (slot : ℕ) (plan : IsBackPlanned entry.sizes found timestamp word slot) (fit : SeatsFit entry.sizes found.seats)
    (opens : GoesOpening tells start mid found plan.first) (opened_found : GroupValue) (opened_ready : ReadyValue) (opened : IsOpened tells start mid found plan.first opened_found opened_ready)
    (copying : GoesCopying tells mid new plan.volume plan.target plan.to plan.room.start opened_found opened_ready) where
  pub unfilled_leaves_all : tells → StopsLeave entry new (MayHave tells entry new found timestamp word slot)
  unfilled_leaves_all told =
      behind_leaves tells entry start mid new new reads reads_rise writes_rise new_told found timestamp word slot plan fit opens opened_found opened_ready opened copying told

  pub unfilled_beside : tells → LeavesOthers entry new (slots_of found.seats)
  unfilled_beside told =
      behind_beside tells entry start mid new new reads reads_rise writes_rise new_told found timestamp word slot plan fit opens opened_found opened_ready opened copying told

  module _ (told : tells) (left : List Bool) (named : Option (List ℕ)) (by : IsFoundBy start left named found) (group : List ℕ) (same : found.config.group ≡ group) (past : Past (groups group))
      (kept : AreAllKept group past entry) (admitted : IsAdmitted group past entry left found) where
    abbrev At : Type 0
    At = (now : Past (groups group)) × IsOver group past (is_read left) found (changes_in found plan.first) now × StandsReady group now mid opened_found opened_ready

    at_first : new.tells_left → At
    at_first = first tells entry start mid new new reads reads_rise writes_rise new_told found timestamp word slot plan fit opens opened_found opened_ready opened copying told left named by group same past kept admitted

    moments : (P : Image → Type 0) → ((image : Image) → IsLeft entry.may_hold image → P image)
        → ((image : Image) → IsLeftWriting start plan.first image → (now : Past (groups group)) → Goes group past (is_read left) found (changes_in found plan.first) now → IsKept now (scene_of entry.sizes image) → P image)
        → ((at : At) (image : Image) → IsLeftBut (IsFilled plan.volume plan.target.element plan.to plan.room.start) mid.may_hold image → IsKept at.0 (scene_of entry.sizes image) → P image) → StopsLeave entry new P
    moments = moments_behind tells entry start mid new new reads reads_rise writes_rise new_told found timestamp word slot plan fit opens opened_found opened_ready opened copying told left named by group same past kept admitted

    pub unfilled_keeps : KeepsHistory group entry new past left found (changes_in found (plan.first ++ plan.last ∷ [])) false
    unfilled_keeps = record {
      any_moment = moments (λ image. (now : Past (groups group)) × Goes group past (is_read left) found (changes_in found (plan.first ++ plan.last ∷ [])) now × IsKept now (scene_of entry.sizes image))
          (λ image before. (past, inl refl, kept image before))
          (λ image writing now goes is. (now, goes_opening tells entry start mid new new reads reads_rise writes_rise new_told found timestamp word slot plan fit opens opened_found opened_ready opened copying told left named by group same past kept admitted now goes, is))
          (λ at image but is. (at.0, goes_copying tells entry start mid new new reads reads_rise writes_rise new_told found timestamp word slot plan fit opens opened_found opened_ready opened copying told left named by group same past kept admitted at, is));
      ends = λ left_told.
          let at = at_first left_told in (
            at.0,
            goes_copying tells entry start mid new new reads reads_rise writes_rise new_told found timestamp word slot plan fit opens opened_found opened_ready opened copying told left named by group same past kept admitted at,
            copying.all_kept told left_told group at.0 at.2,
          );
    }

    pub unfilled_along : ComesAlongBack group (work_of tells entry new) past left found plan false
    unfilled_along = record {
      any_moment = moments (IsAlongBack group (work_of tells entry new) past left found plan)
          (along_before tells entry start mid new new reads reads_rise writes_rise new_told found timestamp word slot plan fit opens opened_found opened_ready opened copying told left named by group same past kept admitted)
          (along_opening tells entry start mid new new reads reads_rise writes_rise new_told found timestamp word slot plan fit opens opened_found opened_ready opened copying told left named by group same past kept admitted)
          (along_copying tells entry start mid new new reads reads_rise writes_rise new_told found timestamp word slot plan fit opens opened_found opened_ready opened copying told left named by group same past kept admitted);
      ends = λ left_told.
          let at = at_first left_told in
          record {
            stage = Copying;
            now = at.0;
            has_gone = at.1;
            is_over = λ so. absurd (false≢true so);
            is_left = λ image is_left.
                copying_left tells entry start mid new new reads reads_rise writes_rise new_told found timestamp word slot plan fit opens opened_found opened_ready opened copying told image (copying.ends told image is_left);
            all_kept = copying.all_kept told left_told group at.0 at.2;
          };
    }

  since_mid : (s : ℕ) → Failed mid new s → Failed entry new s
  since_mid s failed =
      rose_since (entry.failed_reads s) (mid.failed_reads s) (new.failed_reads s) (let one = reads_rise s in let other = opens.goes.reads_rise s in omega (arith, one, other)) failed

  pub unfilled_fault : (failure : Failure) → IsCopyFault tells mid new plan.volume plan.target plan.to plan.room.start opened_found opened_ready failure → IsBackOf (work_of tells entry new) found timestamp word slot (Err failure)
  unfilled_fault (Disk failed) fault =
      let seat : IsOneOf (slots_of found.seats) failed = subst (λ (seats : List Seat). IsOneOf (slots_of seats) failed) opened.same_seats fault.0 in
      ⊎_elim
      (λ wrote. inl (record {
        steps = plan.first ++ plan.last ∷ [];
        are_asked = plan.are_asked;
        is_seat = seat;
        there = seat_there entry.sizes found.seats fit failed seat;
        rose = rose_since (entry.failed_writes failed) (mid.failed_writes failed) (new.failed_writes failed) (let one = writes_rise failed in let other = opens.goes.writes_rise failed in omega (arith, one, other)) wrote.1;
      }))
      (λ none. inr (record {
        plan = plan;
        is_seat = seat;
        there = seat_there entry.sizes found.seats fit failed seat;
        none_left = record {
          part = none.part;
          is_part = none.is_part;
          sector = none.sector;
          below = none.below;
          number = none.number;
          other = none.other;
          is_needed = none.is_needed;
          none_left = NotRead-wider since_mid (cell_sources plan.volume plan.target.element none.part none.sector none.other) (Some failed) none.none_left;
        };
      }))
      fault.1
  unfilled_fault Memory fault = absurd fault
  unfilled_fault (Refused refusal) fault = absurd fault
  unfilled_fault (Conflict i j sequence differ) fault = absurd fault
  unfilled_fault (Split i j) fault = absurd fault

-- The room was filled, and the last step was written, or wasn't.
module _ {D : Type 0} (tells : Type 0) (entry start mid behind new : BayState D) (reads : ReadsOnly entry start) (reads_rise : (s : ℕ) → entry.failed_reads s ≤ start.failed_reads s)
    (writes_rise : (s : ℕ) → entry.failed_writes s ≤ start.failed_writes s) (behind_told : (t : ℕ) (image : Image) → behind.left_since t image → behind.tells_left)
    (new_told : (t : ℕ) (image : Image) → new.left_since t image → new.tells_left)
    (found : GroupValue) (timestamp : ℕ) (word : List ℕ) (slot : ℕ) (plan : IsBackPlanned entry.sizes found timestamp word slot) (fit : SeatsFit entry.sizes found.seats)
    (opens : GoesOpening tells start mid found plan.first) (opened_found : GroupValue) (recovery : Option ReadyStep) (one : ReadyStep) (last_is : plan.last ≡ one.step)
    (opened : IsOpened tells start mid found plan.first opened_found (record { recovery = recovery; steps = one ∷ [] }))
    (copying : GoesCopying tells mid behind plan.volume plan.target plan.to plan.room.start opened_found (record { recovery = recovery; steps = one ∷ [] }))
    (filled : IsRoomFilled tells mid behind plan.volume plan.target plan.to plan.room.start opened_found (record { recovery = recovery; steps = one ∷ [] })) (done : Bool)
    (returning : GoesNext tells behind new opened_found (record { recovery = recovery; steps = one ∷ [] }) done) (rises : found.config.sequence < one.step.config.sequence) where
  abbrev ready : ReadyValue
  ready = record { recovery = recovery; steps = one ∷ [] }

  abbrev own_work : Work D
  own_work = work_of tells entry new

  abbrev own_slots : List ℕ
  own_slots = slots_of found.seats

  abbrev both_steps : List Step
  both_steps = plan.first ++ plan.last ∷ []

  sizes_behind : behind.sizes ≡ entry.sizes
  sizes_behind = copying.goes.same_sizes ∙ opens.goes.same_sizes ∙ reads.same_sizes

  adds_behind : tells → AddsNothing entry behind own_slots
  adds_behind told s l bytes other left =
      reads.keeps s l bytes (opened.others_left told s l bytes other
      ((subst (λ (seats : List Seat). AddsNothing mid behind (slots_of seats)) opened.same_seats (filled.others_left told)) s l bytes other left))

  held_behind : tells → (s l : ℕ) (bytes : List ℕ) → behind.may_hold s l bytes → (holding entry own_slots behind.held).may_hold s l bytes
  held_behind told s l bytes left =
      subst (λ (seats : List Seat). (holding entry (slots_of seats) behind.held).may_hold s l bytes) opened.same_seats
      (left_holding entry behind opened_found (filled.stands.holds told) (subst (λ (seats : List Seat). AddsNothing entry behind (slots_of seats)) (sym opened.same_seats) (adds_behind told)) s l bytes left)

  to_new : (s : ℕ) → Failed mid behind s → Failed entry new s
  to_new s failed =
      rose_since (entry.failed_reads s) (mid.failed_reads s) (new.failed_reads s) (let low = reads_rise s in let other = opens.goes.reads_rise s in omega (arith, low, other))
      (rose_behind (mid.failed_reads s) (behind.failed_reads s) (new.failed_reads s) (copying.goes.reads_rise s) (returning.goes.reads_rise s) failed)

  is_copied : tells → IsCopied (Failed entry new) new.tells_left plan.volume plan.target plan.to plan.room.start mid.held behind.held
  is_copied told =
      let copied = filled.is_copied told in
      record {
        copied = λ sure. copied.copied (sure_by sure);
        was_given = λ part sector at below.
            wanted_wider to_new plan.volume mid.held plan.target.element part sector plan.target.position (behind.held plan.to (plan.room.start + sector)) (copied.was_given part sector at below);
        stays = copied.stays;
        are_sectors = λ left_told. copied.are_sectors (returning.told left_told);
      }
    where
      sure_by : IsSure (Failed entry new) plan.volume mid.held → IsSure (Failed mid behind) plan.volume mid.held
      sure_by (inl none) = inl (λ s on failed. none s on (to_new s failed))
      sure_by (inr redundant) = inr redundant

  written_first : tells → AreWritten entry.sizes entry.held plan.first mid.held
  written_first told = written_since entry start reads plan.first mid.held (opened.are_written told)

  returning_left : tells → (image : Image) → IsLeftWriting behind (one.step ∷ []) image → IsBackLeftAt own_work found plan Returning image
  returning_left told image writing = record {
    before = mid.held;
    first_written = written_first told;
    filled = behind.held;
    is_filled = is_copied told;
    is_left = subst (λ (step : Step). IsLeftWriting (holding entry own_slots behind.held) (step ∷ []) image) (sym last_is)
        (writing_more behind (holding entry own_slots behind.held) sizes_behind (held_behind told) (one.step ∷ []) image writing);
  }

  pub run_leaves : tells → StopsLeave entry new (MayHave tells entry new found timestamp word slot)
  run_leaves told =
      stops_then (behind_leaves tells entry start mid behind new reads reads_rise writes_rise behind_told found timestamp word slot plan fit opens opened_found ready opened copying told) (returning.leaves told)
      (λ image writing. inr (record { plan = plan; stage = Returning; is_left = returning_left told image writing }))

  pub run_beside : tells → LeavesOthers entry new own_slots
  run_beside told =
      stops_then (behind_beside tells entry start mid behind new reads reads_rise writes_rise behind_told found timestamp word slot plan fit opens opened_found ready opened copying told)
      (subst (λ (seats : List Seat). LeavesOthers behind new (slots_of seats)) opened.same_seats (returning.beside told))
      (λ image may s l other. adds_behind told s l (image s l) other (may s l other))

  module _ (told : tells) (left : List Bool) (named : Option (List ℕ)) (by : IsFoundBy start left named found) (group : List ℕ) (same : found.config.group ≡ group) (past : Past (groups group))
      (kept : AreAllKept group past entry) (admitted : IsAdmitted group past entry left found) where
    abbrev At_mid : Type 0
    At_mid = (now : Past (groups group)) × IsOver group past (is_read left) found (changes_in found plan.first) now × StandsReady group now mid opened_found ready

    at_mid : new.tells_left → At_mid
    at_mid left_told =
        first tells entry start mid behind new reads reads_rise writes_rise behind_told found timestamp word slot plan fit opens opened_found ready opened copying told left named by group same past kept admitted
        (returning.told left_told)

    at_behind : new.tells_left → (at : At_mid) → StandsReady group at.0 behind opened_found ready
    at_behind left_told at = filled.at_end told group at.0 at.2 (returning.told left_told)

    all_moments : (P : Image → Type 0) → ((image : Image) → IsLeft entry.may_hold image → P image)
        → ((image : Image) → IsLeftWriting start plan.first image → (now : Past (groups group)) → Goes group past (is_read left) found (changes_in found plan.first) now → IsKept now (scene_of entry.sizes image) → P image)
        → ((at : At_mid) (image : Image) → IsLeftBut (IsFilled plan.volume plan.target.element plan.to plan.room.start) mid.may_hold image → IsKept at.0 (scene_of entry.sizes image) → P image)
        → ((at : At_mid) (image : Image) → IsLeftWriting behind (one.step ∷ []) image → IsKept (issue at.0 one.step.config) (scene_of entry.sizes image) → P image) → StopsLeave entry new P
    all_moments P before opening filling writing =
        let earlier =
        moments_behind tells entry start mid behind new reads reads_rise writes_rise behind_told found timestamp word slot plan fit opens opened_found ready opened copying told left named by group same past kept admitted
        P before opening filling in
        let up : behind.moment ≤ new.moment = (returning.leaves told).later in
        record {
          later = let low = earlier.later in omega (arith, low, up);
          since = λ t image le was_left.
              let left_told = new_told t image was_left in
              let at = at_mid left_told in
              ⊎_elim (λ sooner. earlier.since t image le sooner)
              (λ both. inr (writing at image both.0 (subst (λ (sizes : List ℕ). IsKept (issue at.0 one.step.config) (scene_of sizes image)) sizes_behind both.1)))
              ((stops_both behind new (IsLeftWriting behind (one.step ∷ [])) (λ image. IsKept (with_next group at.0 ready) (scene_of behind.sizes image)) (returning.leaves told)
              (returning.keeps told group at.0 (at_behind left_told at)).any_moment).since t image (let low = earlier.later in omega (arith, le, low)) was_left);
        }

    last_change : changes_in found (plan.last ∷ []) ≡ one.step.config ∷ []
    last_change = ap (λ (step : Step). changes_in found (step ∷ [])) last_is ∙ change_of found one.step rises

    all_changes : changes_in found both_steps ≡ changes_in found plan.first ++ one.step.config ∷ []
    all_changes = changes_both found plan.first (plan.last ∷ []) ∙ ap (λ (changes : List Configuration). changes_in found plan.first ++ changes) last_change

    goes_issued : (at : At_mid) → Goes group past (is_read left) found (changes_in found both_steps) (issue at.0 one.step.config)
    goes_issued at =
        subst (λ (changes : List Configuration). Goes group past (is_read left) found changes (issue at.0 one.step.config)) (sym all_changes)
        (issue_goes group past (is_read left) found (changes_in found plan.first) at.0 at.1 opened.loses one.step.config [])

    over_all : (at : At_mid) → IsOver group past (is_read left) found (changes_in found both_steps) (made group at.0 one.step.config)
    over_all at =
        subst (λ (changes : List Configuration). IsOver group past (is_read left) found changes (made group at.0 one.step.config)) (sym all_changes)
        (next_over group past (is_read left) found (changes_in found plan.first) at.0 at.1 opened.loses one.step.config)

    gone_issued : (at : At_mid) → HasGone group own_work past left found plan Returning (issue at.0 one.step.config)
    gone_issued at = (at.0, at.1, inl (ap (λ (changes : List Configuration). issue_all group at.0 changes) (sym last_change)))

    gone_made : (at : At_mid) → HasGone group own_work past left found plan Returning (made group at.0 one.step.config)
    gone_made at =
        let counts = over_counts group past (is_read left) found (changes_in found plan.first) at.0 at.1 in (
          at.0,
          at.1,
          inr (ap (λ (n : ℕ). acknowledge (issue at.0 one.step.config) n) counts
              ∙ ap (λ (changes : List Configuration). acknowledge (issue_all group at.0 changes) (at.0.changes.acked + length changes)) (sym last_change)),
        )

    along_by : (b : Bool) → done ≡ b → new.tells_left → EndsAlongBack group own_work past left found plan b
    along_by true e left_told =
        let at = at_mid left_told in
        record {
          stage = Returning;
          now = made group at.0 one.step.config;
          has_gone = gone_made at;
          is_over = λ so. over_all at;
          is_left = λ image is_left. returning_left told image (returning.ends told image is_left);
          all_kept = subst (λ (b : Bool). AreAllKept group (if b then behind_next group at.0 ready else with_next group at.0 ready) new) e ((returning.keeps told group at.0 (at_behind left_told at)).ends left_told);
        }
    along_by false e left_told =
        let at = at_mid left_told in
        record {
          stage = Returning;
          now = issue at.0 one.step.config;
          has_gone = gone_issued at;
          is_over = λ so. absurd (false≢true so);
          is_left = λ image is_left. returning_left told image (returning.ends told image is_left);
          all_kept = subst (λ (b : Bool). AreAllKept group (if b then behind_next group at.0 ready else with_next group at.0 ready) new) e ((returning.keeps told group at.0 (at_behind left_told at)).ends left_told);
        }

    pub run_along : ComesAlongBack group own_work past left found plan done
    run_along = record {
      any_moment = all_moments (IsAlongBack group own_work past left found plan)
          (along_before tells entry start mid behind new reads reads_rise writes_rise behind_told found timestamp word slot plan fit opens opened_found ready opened copying told left named by group same past kept admitted)
          (along_opening tells entry start mid behind new reads reads_rise writes_rise behind_told found timestamp word slot plan fit opens opened_found ready opened copying told left named by group same past kept admitted)
          (along_copying tells entry start mid behind new reads reads_rise writes_rise behind_told found timestamp word slot plan fit opens opened_found ready opened copying told left named by group same past kept admitted)
          (λ at image writing is. record { stage = Returning; now = issue at.0 one.step.config; has_gone = gone_issued at; is_left = returning_left told image writing; is_kept = is });
      ends = along_by done refl;
    }

    keeps_by : (b : Bool) → done ≡ b → new.tells_left
        → (now : Past (groups group)) × Ends group past (is_read left) found (changes_in found both_steps) b now × AreAllKept group now new
    keeps_by true e left_told =
        let at = at_mid left_told in (
          made group at.0 one.step.config,
          over_all at,
          subst (λ (b : Bool). AreAllKept group (if b then behind_next group at.0 ready else with_next group at.0 ready) new) e ((returning.keeps told group at.0 (at_behind left_told at)).ends left_told),
        )
    keeps_by false e left_told =
        let at = at_mid left_told in (
          issue at.0 one.step.config,
          goes_issued at,
          subst (λ (b : Bool). AreAllKept group (if b then behind_next group at.0 ready else with_next group at.0 ready) new) e ((returning.keeps told group at.0 (at_behind left_told at)).ends left_told),
        )

    pub run_keeps : KeepsHistory group entry new past left found (changes_in found both_steps) done
    run_keeps = record {
      any_moment = all_moments (λ image. (now : Past (groups group)) × Goes group past (is_read left) found (changes_in found both_steps) now × IsKept now (scene_of entry.sizes image))
          (λ image before. (past, inl refl, kept image before))
          (λ image writing now goes is. (now, goes_opening tells entry start mid behind new reads reads_rise writes_rise behind_told found timestamp word slot plan fit opens opened_found ready opened copying told left named by group same past kept admitted now goes, is))
          (λ at image but is. (at.0, goes_copying tells entry start mid behind new reads reads_rise writes_rise behind_told found timestamp word slot plan fit opens opened_found ready opened copying told left named by group same past kept admitted at, is))
          (λ at image writing is. (issue at.0 one.step.config, goes_issued at, is));
      ends = keeps_by done refl;
    }

  -- ---- what came of it

  pub run_done : (now_found : GroupValue) (now_ready : ReadyValue) → IsNextWritten tells behind new opened_found ready now_found now_ready → (sequence : ℕ) → sequence ≡ now_found.config.sequence
      → IsBackOf own_work found timestamp word slot (Ok sequence)
  run_done now_found now_ready written sequence is = record {
    plan = plan;
    is_last = is ∙ ap (λ (group : GroupValue). group.config.sequence) written.found_is ∙ ap (λ (step : Step). step.config.sequence) (sym last_is)
        ∙ sym (last_then found.config.sequence plan.first (plan.last ∷ []));
    done = λ told. record {
      before = mid.held;
      first_written = written_first told;
      filled = behind.held;
      is_filled = is_copied told;
      last_written = subst (λ (step : Step). AreWritten entry.sizes behind.held (step ∷ []) new.held) (sym last_is)
          (subst (λ (sizes : List ℕ). AreWritten sizes behind.held (one.step ∷ []) new.held) sizes_behind (written.are_written told));
      are_settled = subst (λ (seats : List Seat). AreSettled new seats (length seats)) (written.same_seats ∙ opened.same_seats) (written.stands.holds told).are_settled;
    };
  }

  pub run_fault : (failure : Failure) → IsSlotFault behind new (slots_of opened_found.seats) failure → IsBackOf own_work found timestamp word slot (Err failure)
  run_fault (Disk failed) fault =
      let seat : IsOneOf own_slots failed = subst (λ (seats : List Seat). IsOneOf (slots_of seats) failed) opened.same_seats fault.0 in
      inl (record {
        steps = both_steps;
        are_asked = plan.are_asked;
        is_seat = seat;
        there = seat_there entry.sizes found.seats fit failed seat;
        rose = rose_since (entry.failed_writes failed) (behind.failed_writes failed) (new.failed_writes failed)
            (let low = writes_rise failed in let other = opens.goes.writes_rise failed in let more = copying.goes.writes_rise failed in omega (arith, low, other, more)) fault.1;
      })
  run_fault Memory fault = absurd fault
  run_fault (Refused refusal) fault = absurd fault
  run_fault (Conflict i j sequence differ) fault = absurd fault
  run_fault (Split i j) fault = absurd fault
