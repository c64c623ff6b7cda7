-- One round of a rebuild, by what the calls promise that fill its rows and write its step.
use Rattle.std.proofs.Common.{◌≡◌, ℕ, ◌+◌, ◌<◌, ◌≤◌, Bool, true, false, List, [], ◌∷◌, Option, if◌then◌else◌, refl, sym, ap, subst, ◌∙◌, inl, inr, ⊎_elim, arith}
use Rattle.std.proofs.lemmas.Bool.{false≢true}
use Rattle.ddf_bytes.proofs.Common.{rose_behind}
use Rattle.ddf_bay.specs.Moments.{StopsLeave}
use Rattle.ddf_bay.specs.Sectors.{Image}
use Rattle.ddf_bay.specs.State.{BayState}
use Rattle.ddf_bay.proofs.Steps.{stops_then, stops_weaken, rose_since}
use Rattle.ddf_array.specs.Volume.{Volume}
use Rattle.ddf_cells.specs.CellSources as cells
use Rattle.ddf_cells.proofs.GivenSteps.{wanted_wider}
use Rattle.ddf_cells.specs.Touching.{GoesBetween}
use Rattle.ddf_cells.specs.Writing.{AddsBut, IsLeftBut, StaysBut}
use Rattle.ddf_rebuild.specs.Rebuilding.{HasGiven, HasRebuilt, IsRebuildFault}
use Rattle.ddf_rebuild.specs.Target.{IsTargetCell}
use Rattle.ddf_repair.specs.declared.first.Target.{Target}
use Rattle.ddf_read.specs.declared.fault.VolumeFault.{VolumeFault}
use Rattle.ddf_read.specs.declared.fault.VolumeFault.TheVariants as volumes
use Rattle.ddf_read.specs.Reading.{Failed}
use Rattle.ddf_history.specs.Groups.{groups}
use Rattle.ddf_history.specs.Issued.{Past, issue}
use Rattle.ddf_history.specs.Promise.{IsKept}
use Rattle.ddf_history.specs.Scenes.{scene_of}
use Rattle.ddf_steps.specs.Committed.{slots_of}
use Rattle.ddf_seats.specs.Group.{GroupValue}
use Rattle.ddf_assembly.specs.Reading.{HaveAnchors}
use Rattle.ddf_steps.specs.Ready.{ReadyStep}
use Rattle.ddf_recovery.specs.Ready.{ReadyValue}
use Rattle.ddf_seats.specs.Changing.{SlotsRise}
use Rattle.ddf_history_steps.specs.Kept.{AreAllKept}
use Rattle.ddf_history_steps.specs.Steps.{StandsReady, behind_next, with_next}
use Rattle.ddf_history_steps.specs.BlockFloors.{HaveFloors, StaySettled, WritesBelow, floor_in}
use Rattle.ddf_history_steps.proofs.Below.{all_kept, moments_kept, stands_still}
use Rattle.ddf_history_steps.proofs.Course.{ready_still}
use Rattle.ddf_history_steps.proofs.Floored.{seats_have_floors}
use Rattle.ddf_answer.specs.declared.failure.Failure.{Failure}
use Rattle.ddf_answer.specs.declared.failure.Failure.TheVariants.{Conflict, Disk, Memory, Refused, Split}
use Rattle.ddf_read_commands.specs.Use.{failure_of_volume}
use Rattle.ddf_group_commands.specs.Others.{LeavesOthers}
use Rattle.ddf_group_commands.specs.Writing.{IsLeftWriting}
use Rattle.ddf_group_commands.specs.Written.{AreWritten}
use Rattle.ddf_write_commands.specs.Holding.{holding}
use Rattle.ddf_write_commands.proofs.Arrays.{goes_then}
use Rattle.ddf_bay.specs.Told.{IsTold}
use Rattle.ddf_write_commands.proofs.Unmoved.{have_floors, holds_still}
use Rattle.ddf_rebuild_command.specs.Filled.{AreFilled, CanFill, EndsAmidst, GoesFilling, IsAmidst, IsFillFault, IsLeftIn, ShowsIn, made}
use Rattle.ddf_rebuild_command.specs.Rounds.{IsFilled, IsSure, Round}
use Rattle.ddf_rebuild_command.specs.Stages.Stage.{Filling, Noting}
use Rattle.ddf_rebuild_command.specs.Standing.{AddsNothing, GoesNext, IsNextWritten, IsSlotFault, Stands}
use Rattle.ddf_rebuild_command.proofs.RoundsMore.{left_holding}
use Rattle.ddf_rebuild_command.proofs.TargetCells.{cell_below, none_left_seat, not_cell, target_seat}
use Rattle.ddf_group_commands.proofs.LeftWriting.{writing_more}

-- What the filling of rows promises, done or not.
pub record FillsRows {D : Type 0} (tells : Type 0) (old new : BayState D) (volume : Volume) (target : Target) (from row : ℕ) (done : Bool) : Type 0 where
  pub goes : GoesBetween old new
  pub told : new.tells_left → old.tells_left
  pub any_moment : StopsLeave old new (IsLeftBut (IsTargetCell volume target.element target.position from row) old.may_hold)
  pub left : AddsBut (IsTargetCell volume target.element target.position from row) old.may_hold new.may_hold
  pub held : tells → StaysBut (IsTargetCell volume target.element target.position from row) old.held new.held
  pub stays : tells → done ≡ true → StaySettled old new
  pub rebuilt : tells → done ≡ true → cells.IsSure volume old new → HasRebuilt volume target.element target.position from row old.held new.held
  pub was_given : tells → done ≡ true → HasGiven (Failed old new) volume target.element target.position from row old.held new.held

pub stops_both : {D : Type 0} (old new : BayState D) (P Q : Image → Type 0) → StopsLeave old new P → StopsLeave old new Q → StopsLeave old new (λ image. P image × Q image)
stops_both old new P Q one other = record {
  later = one.later;
  since = λ t image le left. ⊎_elim inl (λ first. ⊎_elim inl (λ second. inr (first, second)) (other.since t image le left)) (one.since t image le left);
}

module _ {D : Type 0} (tells : Type 0) (old middle : BayState D) (volume : Volume) (target : Target) (from row end : ℕ) (found : GroupValue)
    (can : CanFill old.sizes found.seats volume target end from (row ∷ [])) (recovery : Option ReadyStep) (one : ReadyStep) (others : List ReadyStep)
    (stands : Stands tells old found (record { recovery = recovery; steps = one ∷ others })) (done : Bool) (rows : FillsRows tells old middle volume target from row done) where
  abbrev ready : ReadyValue
  ready = record { recovery = recovery; steps = one ∷ others }

  abbrev slots : List ℕ
  slots = slots_of found.seats

  abbrev round : Round
  round = record { row = row; step = one.step }

  abbrev rounds : List Round
  rounds = round ∷ []

  abbrev Cells : ℕ → ℕ → Type 0
  Cells = IsTargetCell volume target.element target.position from row

  abbrev rise : SlotsRise found.seats
  rise = stands.is_ready.is_settled.slots_rise

  under : (s l : ℕ) → Cells s l → l < floor_in found.seats s
  under = cell_below can.config can.guid found.seats volume can.is_view rise target.element target.position from row

  below : tells → WritesBelow (floor_in found.seats) old middle
  below told = record {
    same_sizes = rows.goes.same_sizes;
    told = rows.told;
    held = λ s l. ⊎_elim inl (λ cell. inr (under s l cell)) (rows.held told s l);
    left = λ s l bytes may. ⊎_elim inl (λ cell. inr (under s l cell)) (rows.left s l bytes may);
    any_moment = stops_weaken rows.any_moment (λ image but s l. ⊎_elim inl (λ cell. inr (under s l cell)) (but s l));
  }

  beside_rows : LeavesOthers old middle slots
  beside_rows = stops_weaken rows.any_moment (λ image but s l other.
      ⊎_elim (λ before. before) (λ cell. absurd (not_cell can.config can.guid found.seats volume can.is_view rise target.element target.position from row s l other cell)) (but s l))

  adds_rows : AddsNothing old middle slots
  adds_rows s l bytes other left =
      ⊎_elim (λ before. before) (λ cell. absurd (not_cell can.config can.guid found.seats volume can.is_view rise target.element target.position from row s l other cell)) (rows.left s l bytes left)

  -- ---- while the rows are filled

  filling_left : tells → (failed : ℕ → Type 0) (whole : Type 0) (image : Image) → IsLeftBut Cells old.may_hold image → IsLeftIn failed whole old slots volume target from rounds (Filling 0) image
  filling_left told failed whole image but = record {
    before = old.held;
    rounds_done = λ s l. refl;
    round = round;
    is_round = refl;
    is_left = λ s l. ⊎_elim (λ before. inl (left_holding old old found (stands.holds told) (λ slot lba bytes other left. left) s l (image s l) before)) inr (but s l);
  }

  module _ (told : tells) (group : List ℕ) (past : Past (groups group)) (at : StandsReady group past old found ready) where
    floors : HaveFloors old (floor_in found.seats)
    floors = seats_have_floors group past old found at.at_end stands.floored

    rows_kept : StopsLeave old middle (λ image. IsKept past (scene_of old.sizes image))
    rows_kept = moments_kept (floor_in found.seats) old middle floors (below told) group past found at.at_end

    rows_all_kept : AreAllKept group past middle
    rows_all_kept = all_kept (floor_in found.seats) old middle floors (below told) group past found at.at_end

  module _ (new : BayState D) where
    rows_leave : tells → StopsLeave old middle (IsAmidst tells old new volume target from rounds found ready (λ stage image. Unit {0}))
    rows_leave told = stops_weaken rows.any_moment (λ image but. record { stage = Filling 0; is_left = filling_left told (Failed old new) new.tells_left image but; shows = tt })

    rows_moments : tells → (group : List ℕ) (past : Past (groups group)) → StandsReady group past old found ready
        → StopsLeave old middle (IsAmidst tells old new volume target from rounds found ready (ShowsIn tells old new volume target from rounds found ready group past))
    rows_moments told group past at =
        stops_weaken (stops_both old middle (IsLeftBut Cells old.may_hold) (λ image. IsKept past (scene_of old.sizes image)) rows.any_moment (rows_kept told group past at))
        (λ image both. record { stage = Filling 0; is_left = filling_left told (Failed old new) new.tells_left image both.0; shows = (past, refl, both.1) })

  -- They weren't.
  pub rows_failed : GoesFilling tells old middle volume target from rounds found ready false
  rows_failed = record {
    goes = rows.goes;
    told = rows.told;
    beside = λ told. beside_rows;
    leaves = rows_leave middle;
    any_moment = rows_moments middle;
    ends = λ told left_told group past at. inl (record {
      stage = Filling 0;
      now = past;
      has_come = refl;
      is_over = λ e. absurd (false≢true e);
      is_left = λ image left. filling_left told (Failed old middle) middle.tells_left image (λ s l. rows.left s l (image s l) (left s l));
      all_kept = rows_all_kept told group past at;
    });
  }

  -- ---- behind the rows

  module _ (is_so : done ≡ true) where
    pub stands_behind : Stands tells middle found ready
    stands_behind = record {
      is_ready = stands.is_ready;
      anchored = subst (λ (sizes : List ℕ). HaveAnchors sizes found.newest) (sym rows.goes.same_sizes) stands.anchored;
      holds = λ told.
          holds_still old middle (floor_in found.seats) (have_floors old found stands.is_ready.is_settled (stands.holds told) stands.floored) rows.goes.same_sizes (below told).held found (stands.holds told)
          (rows.stays told is_so);
      floored = stands.floored;
      keep_seats = stands.keep_seats;
    }

    module _ (tells_old : IsTold old) (tells_middle : IsTold middle) (new : BayState D) (tells_new : IsTold new) (noted : Bool) (next : GoesNext tells middle new found ready noted) where
      to_new : (slot : ℕ) → Failed old middle slot → Failed old new slot
      to_new slot failed = rose_behind (old.failed_reads slot) (middle.failed_reads slot) (new.failed_reads slot) (rows.goes.reads_rise slot) (next.goes.reads_rise slot) failed

      sure_by : IsSure (Failed old new) volume old.held → cells.IsSure volume old middle
      sure_by (inl none) = inl (λ slot on failed. none slot on (to_new slot failed))
      sure_by (inr redundant) = inr (inl redundant)

      is_filled : tells → IsFilled (Failed old new) new.tells_left volume target from row old.held middle.held
      is_filled told = record {
        rebuilt = λ sure. rows.rebuilt told is_so (sure_by sure);
        was_given = λ part place slot sector at below.
            wanted_wider to_new volume old.held target.element part sector target.position (middle.held slot (place.start + sector)) (rows.was_given told is_so part place slot sector at below);
        stays = rows.held told;
        are_sectors = λ left_told s l. (tells_old.whole s l (old.held s l) (tells_old.held (rows.told (next.told left_told)) s l)).size;
      }

      noting_left : tells → (image : Image) → IsLeftWriting middle (one.step ∷ []) image → IsLeftIn (Failed old new) new.tells_left old slots volume target from rounds (Noting 0) image
      noting_left told image writing = record {
        before = old.held;
        rounds_done = λ s l. refl;
        round = round;
        is_round = refl;
        filled = middle.held;
        is_filled = is_filled told;
        is_left = writing_more middle (holding old slots middle.held) rows.goes.same_sizes (left_holding old middle found (stands_behind.holds told) adds_rows) (one.step ∷ []) image writing;
      }

      -- the group stands where it stood
      still : tells → (group : List ℕ) (past : Past (groups group)) → StandsReady group past old found ready → middle.tells_left → StandsReady group past middle found ready
      still told group past at left_told =
          ready_still group past old middle found ready at
          (stands_still (floor_in found.seats) old middle (floors told group past at) (below told) group past found at.at_end (rows.stays told is_so) (tells_middle.held left_told))

      noting_moments : tells → (group : List ℕ) (past : Past (groups group)) → StandsReady group past old found ready
          → StopsLeave old new (IsAmidst tells old new volume target from rounds found ready (ShowsIn tells old new volume target from rounds found ready group past))
      noting_moments told group past at =
          let first = rows_moments new told group past at in
          let later : middle.moment ≤ new.moment = (next.leaves told).later in
          record {
            later = let before = first.later in omega (arith, before, later);
            since = λ t image le was_left.
                let now_at = still told group past at (next.told (tells_new.since t image was_left)) in
                ⊎_elim (λ earlier. first.since t image le earlier)
                (λ both. inr (record {
                  stage = Noting 0;
                  is_left = noting_left told image both.0;
                  shows = (with_next group past ready, (round, refl, inl refl), subst (λ (sizes : List ℕ). IsKept (with_next group past ready) (scene_of sizes image)) rows.goes.same_sizes both.1);
                }))
                ((stops_both middle new (IsLeftWriting middle (one.step ∷ [])) (λ image. IsKept (with_next group past ready) (scene_of middle.sizes image)) (next.leaves told) (next.keeps told group past now_at).any_moment).since
                t image (let before = first.later in omega (arith, le, before)) was_left);
          }

      noting_ends : (b : Bool) → noted ≡ b → tells → new.tells_left → (group : List ℕ) (past : Past (groups group)) → StandsReady group past old found ready
          → EndsAmidst tells old new volume target from rounds found ready group past b
      noting_ends true e told left_told group past at = record {
        stage = Noting 0;
        now = made group past one.step.config;
        has_come = (round, refl, inr refl);
        is_over = λ so. refl;
        is_left = λ image left. noting_left told image (next.ends told image left);
        all_kept = subst (λ (b : Bool). AreAllKept group (if b then behind_next group past ready else with_next group past ready) new) e
            ((next.keeps told group past (still told group past at (next.told left_told))).ends left_told);
      }
      noting_ends false e told left_told group past at = record {
        stage = Noting 0;
        now = issue past one.step.config;
        has_come = (round, refl, inl refl);
        is_over = λ so. absurd (false≢true so);
        is_left = λ image left. noting_left told image (next.ends told image left);
        all_kept = subst (λ (b : Bool). AreAllKept group (if b then behind_next group past ready else with_next group past ready) new) e
            ((next.keeps told group past (still told group past at (next.told left_told))).ends left_told);
      }

      -- The round, whatever came of its step.
      pub round_goes : GoesFilling tells old new volume target from rounds found ready noted
      round_goes = record {
        goes = goes_then old middle new rows.goes next.goes;
        told = λ left_told. rows.told (next.told left_told);
        beside = λ told. stops_then beside_rows (next.beside told) (λ image may s l other. adds_rows s l (image s l) other (may s l other));
        leaves = λ told. stops_then (rows_leave new told) (next.leaves told) (λ image writing. record { stage = Noting 0; is_left = noting_left told image writing; shows = tt });
        any_moment = noting_moments;
        ends = λ told left_told group past at. inl (noting_ends noted refl told left_told group past at);
      }

      -- It is done.
      pub round_filled : (now_found : GroupValue) (now_ready : ReadyValue) → IsNextWritten tells middle new found ready now_found now_ready
          → AreFilled tells old new volume target from rounds found ready now_found now_ready
      round_filled now_found now_ready written = record {
        stands = written.stands;
        same_seats = written.same_seats;
        is_last = ap (λ (group : GroupValue). group.config.sequence) written.found_is;
        are_done = λ told. (
          middle.held,
          is_filled told,
          new.held,
          subst (λ (sizes : List ℕ). AreWritten sizes middle.held (one.step ∷ []) new.held) rows.goes.same_sizes (written.are_written told),
          λ s l. refl,
        );
        others_left = λ told s l bytes other left. adds_rows s l bytes other (written.others_left told s l bytes other left);
        at_end = λ told group past at left_told. written.at_end told group past (still told group past at (next.told left_told)) left_told;
      }

      -- Its step failed.
      pub round_fault : (failure : Failure) → IsSlotFault middle new slots failure → IsFillFault tells old new volume target from rounds found ready row failure
      round_fault (Disk slot) fault = (fault.0, inl (rose_since (old.failed_writes slot) (middle.failed_writes slot) (new.failed_writes slot) (rows.goes.writes_rise slot) fault.1))
      round_fault Memory fault = absurd fault
      round_fault (Refused refusal) fault = absurd fault
      round_fault (Conflict i j sequence differ) fault = absurd fault
      round_fault (Split i j) fault = absurd fault

  -- Its rows did.
  pub rows_fault : (fault : VolumeFault) → IsRebuildFault old middle volume target.element target.position from row fault
      → IsFillFault tells old middle volume target from rounds found ready row (failure_of_volume fault)
  rows_fault (volumes.Range most) fault = absurd fault
  rows_fault volumes.Degraded fault = absurd fault
  rows_fault volumes.Lost fault = absurd (false≢true (sym fault.0 ∙ can.is_within))
  rows_fault volumes.Unsure fault = absurd fault
  rows_fault (volumes.Disk slot) fault = ⊎_elim
      (λ wrote. (target_seat can.config can.guid found.seats volume can.is_view rise target.element target.position from row slot wrote.0, inl wrote.1))
      (λ none. (none_left_seat can.config can.guid found.seats volume can.is_view rise target.element target.position from row (Failed old middle) slot none, inr none))
      fault.1
