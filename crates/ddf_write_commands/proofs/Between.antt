-- A work on the blocks of an array between the steps of its group, by what the three calls promise that make these.
use Rattle.std.proofs.Common.{◌≡◌, ℕ, ◌<◌, ◌≤◌, Bool, true, false, List, [], ◌∷◌, ◌++◌, length, Option, Some, Result, Ok, Err, refl, sym, ap, subst, ◌∙◌, inl, inr, ⊎_elim, arith}
use Rattle.std.proofs.lemmas.Bool.{false≢true}
use Rattle.std.proofs.lemmas.Option.{slice_get_within}
use Rattle.std.specs.Prelude.{slice_get}
use Rattle.ddf_lemmas.proofs.Lists.{in_map}
use Rattle.ddf_lemmas.proofs.Options.{same_ok_value}
use Rattle.ddf_bytes.specs.Counts.{Rose}
use Rattle.ddf_bytes.proofs.Common.{rose_behind}
use Rattle.ddf_bay.specs.Moments.{IsSettled, StopsLeave}
use Rattle.ddf_bay.specs.Sectors.{Image}
use Rattle.ddf_bay.specs.State.{BayState}
use Rattle.ddf_bay.proofs.Steps.{stops_then, stops_weaken, rose_since}
use Rattle.ddf_config.specs.declared.seat.Seat.{Seat}
use Rattle.ddf_config.specs.Configuration.{Configuration}
use Rattle.ddf_config.specs.Seats.{SeatsFit}
use Rattle.ddf_plan.specs.declared.change.Change.{Change}
use Rattle.ddf_array.specs.Sound.{AreSectors}
use Rattle.ddf_array.specs.Volume.{Volume}
use Rattle.ddf_read.specs.Reading.{Failed}
use Rattle.ddf_update.specs.Group.{IsOneOf}
use Rattle.ddf_history.specs.Groups.{groups}
use Rattle.ddf_history.specs.Issued.{Past}
use Rattle.ddf_history.specs.Promise.{IsKept}
use Rattle.ddf_history.specs.Scenes.{scene_of}
use Rattle.ddf_steps.specs.Committed.{AreSettled, slots_of}
use Rattle.ddf_seats.specs.Group.{GroupValue}
use Rattle.ddf_assembly.specs.Reading.{HaveAnchors}
use Rattle.ddf_recovery.specs.Ready.{ReadyValue, readied}
use Rattle.ddf_seats.specs.Seated.{seated}
use Rattle.ddf_steps.specs.Steps.{Step}
use Rattle.ddf_history_steps.specs.Going.{Goes, IsAdmitted, KeepsHistory, changes_in}
use Rattle.ddf_history_steps.specs.Kept.{AreAllKept, is_read, is_slot}
use Rattle.ddf_history_steps.specs.Steps.{IsCommit}
use Rattle.ddf_history_steps.proofs.Slots.{slot_placed}
use Rattle.ddf_history_steps.specs.Course.{IsUnderWay}
use Rattle.ddf_history_steps.specs.BlockFloors.{AreFloored, WritesBelow, floor_in}
use Rattle.ddf_answer.specs.declared.failure.Failure.{Failure}
use Rattle.ddf_answer.specs.declared.failure.Failure.TheVariants.{Conflict, Disk, Memory, Refused, Split}
use Rattle.ddf_answer.specs.Call.{Work, work_of}
use Rattle.ddf_group_commands.specs.Change.{IsChanged, KeepsHistories, Request, last_sequence, steps_of}
use Rattle.ddf_group_commands.specs.GroupRead.{IsFoundBy, IsReadFrom}
use Rattle.ddf_group_commands.specs.Others.{LeavesOthers}
use Rattle.ddf_group_commands.specs.Writing.{IsLeftWriting}
use Rattle.ddf_group_commands.specs.Written.{AreWritten}
use Rattle.ddf_write_commands.specs.Along.{ComesAlong}
use Rattle.ddf_write_commands.specs.Around.{config_behind}
use Rattle.ddf_write_commands.specs.Closed.{IsClosed, IsLastWritten}
use Rattle.ddf_write_commands.specs.Doing.{Doing}
use Rattle.ddf_write_commands.specs.Holding.{holding}
use Rattle.ddf_write_commands.specs.Opened.{CanGoOn, IsOpened, steps_left}
use Rattle.ddf_write_commands.specs.Planned.{IsPlanned}
use Rattle.ddf_write_commands.specs.Worked.{HasBegun, IsArrayDone, IsArrayLeft, IsArrayStopped, IsLeftClosing, IsLeftDoing, IsLeftWorking, IsWorkedOf}
use Rattle.ddf_write_commands.proofs.BelowFloors.{floor_slot}
use Rattle.ddf_write_commands.proofs.Closing.{last_keeps}
use Rattle.ddf_write_commands.proofs.Courses.{write_fails, writes}
use Rattle.ddf_bay.specs.Told.{IsTold}
use Rattle.ddf_history_steps.proofs.Course.{configs_of}
use Rattle.ddf_write_commands.proofs.Parts.{comes_along, work_fails}
use Rattle.ddf_write_commands.proofs.Unmoved.{have_floors, holds_still}
use Rattle.ddf_write_commands.proofs.Works.{HasStopped, HasWorked, IsSteady}
use Rattle.ddf_group_commands.proofs.LeftWriting.{left_still, writing_more}

-- ---- small things

-- the sequence number behind two parts
last_behind : (config : Configuration) (first last : List Step) → last_sequence config.sequence (first ++ last) ≡ last_sequence (config_behind config first).sequence last
last_behind config [] last = refl
last_behind config (step ∷ first) last = last_behind step.config first last

-- ---- a call that failed before the blocks

module _ {D : Type 0} (doing : Doing) (work : Work D) (found : GroupValue) (timestamp : ℕ) (word : List ℕ) (request : Request) where
  pub seat_there : SeatsFit work.old.sizes found.seats → (slot : ℕ) → IsOneOf (slots_of found.seats) slot → slot < length work.old.sizes
  seat_there fit slot one =
      let seat = in_map (λ (each : Seat). each.slot) found.seats one.place slot one.is_there in
      subst (λ (n : ℕ). n < length work.old.sizes) seat.2 (fit one.place seat.0 seat.1).0

  pub not_opened : IsPlanned found timestamp word request → (failure : Failure) → IsChanged work found (steps_of found timestamp request) (Err failure)
      → IsWorkedOf doing work found timestamp word request (Err failure)
  not_opened plan (Refused refusal) is = is
  not_opened plan (Disk slot) is = record { plan = plan; is_seat = is.is_seat; there = is.there; stopped = inl is.rose }
  not_opened plan Memory is = is
  not_opened plan (Conflict i j sequence differ) is = absurd is
  not_opened plan (Split i j) is = absurd is

-- ---- behind the steps before the blocks

module _ {D : Type 0} (tells : Type 0) (doing : Doing) (steady : IsSteady doing) (old opened : BayState D) (found now_found : GroupValue) (asked changes : List Change) (timestamp : ℕ) (ready : ReadyValue)
    (from : IsReadFrom tells old found) (opens : IsOpened tells old opened found asked changes timestamp now_found ready) (floored : AreFloored (seated found))
    (beside : tells → LeavesOthers old opened (slots_of found.seats))
    (leaves : tells → StopsLeave old opened (IsLeftWriting old opens.steps))
    (same_sizes : opened.sizes ≡ old.sizes) (same_reads : opened.failed_reads ≡ old.failed_reads) (opened_rise : (slot : ℕ) → old.failed_writes slot ≤ opened.failed_writes slot)
    (tells_opened : IsTold opened) (volume : Volume) where
  abbrev slots : List ℕ
  slots = slots_of found.seats

  abbrev floor : ℕ → ℕ
  floor = floor_in found.seats

  abbrev last : List Step
  last = steps_left ready

  now_floored : AreFloored (seated now_found)
  now_floored = opens.floored floored

  -- each slot of a seat is settled
  settled_at : tells → (s : ℕ) → is_slot slots s ≡ true → IsSettled opened.may_hold opened.held s
  settled_at told s is =
      let place = slot_placed slots s is in
      let seat = in_map (λ (one : Seat). one.slot) found.seats place.0 s place.1 in
      let at : slice_get now_found.seats place.0 ≡ Some seat.0 = ap (λ (seats : List Seat). slice_get seats place.0) opens.same_seats ∙ seat.1 in
      subst (λ (slot : ℕ). IsSettled opened.may_hold opened.held slot) seat.2
      ((opens.can_go_on.holds told).are_settled place.0 seat.0 (slice_get_within now_found.seats place.0 seat.0 at) at)

  -- What a stop leaves then is what the seats' slots hold, and of every other slot what it might leave before.
  left_opened : tells → (s l : ℕ) (bytes : List ℕ) → opened.may_hold s l bytes → (holding old slots opened.held).may_hold s l bytes
  left_opened told s l bytes left = by (is_slot slots s) refl
    where
      by : (b : Bool) → is_slot slots s ≡ b → (holding old slots opened.held).may_hold s l bytes
      by true e = inl (e, settled_at told s e l bytes left)
      by false e = inr (e, opens.others_left told s l bytes e left)

  module _ (behind : BayState D) (tells_behind : IsTold behind) (done : Bool) (works : HasWorked doing tells floor volume opened behind done) where
    below_now : tells → WritesBelow (floor_in now_found.seats) opened behind
    below_now told = subst (λ (seats : List Seat). WritesBelow (floor_in seats) opened behind) (sym opens.same_seats) (works.below told)

    -- a slot that is no seat's isn't written
    not_below : (s l : ℕ) → is_slot slots s ≡ false → l < floor s → ⊥
    not_below s l other under = false≢true (sym other ∙ floor_slot found.seats s l under)

    left_beside : tells → (s l : ℕ) (bytes : List ℕ) → is_slot slots s ≡ false → behind.may_hold s l bytes → old.may_hold s l bytes
    left_beside told s l bytes other left = ⊎_elim (λ before. opens.others_left told s l bytes other before) (λ under. absurd (not_below s l other under)) ((works.below told).left s l bytes left)

    -- what is left on the way
    pub work_aside : tells → LeavesOthers old behind slots
    work_aside told =
        stops_then (beside told) (works.below told).any_moment
        (λ image may s l other. ⊎_elim (λ before. opens.others_left told s l (image s l) other before) (λ under. absurd (not_below s l other under)) (may s l))

    -- ---- it wasn't done

    more_failed : (new : BayState D) → ((slot : ℕ) → behind.failed_reads slot ≤ new.failed_reads slot) → (slot : ℕ) → Failed opened behind slot → Failed old new slot
    more_failed new rise slot failed =
        rose_behind (old.failed_reads slot) (behind.failed_reads slot) (new.failed_reads slot)
        (let up = works.goes.reads_rise slot in let same = ap (λ (counts : ℕ → ℕ). counts slot) same_reads in omega (arith, up, same)) (rise slot)
        (subst (λ (counts : ℕ → ℕ). Rose (counts slot) (behind.failed_reads slot)) same_reads failed)

    same_sizes_behind : behind.sizes ≡ old.sizes
    same_sizes_behind = works.goes.same_sizes ∙ same_sizes

    module _ (word : List ℕ) (request : Request) (plan : IsPlanned found timestamp word request) (first_is : plan.first ≡ opens.steps) (last_is : plan.last ≡ last) (volume_is : plan.volume ≡ volume) where
      first_written : tells → AreWritten old.sizes old.held plan.first opened.held
      first_written told = subst (λ (steps : List Step). AreWritten old.sizes old.held steps opened.held) (sym first_is) (opens.are_written told)

      begun_so_far : tells → HasBegun doing (work_of tells old behind) plan.first plan.volume
      begun_so_far told = (opened.held, first_written told, subst (λ (v : Volume). doing.IsLeft v opened.held behind.held) (sym volume_is) (works.is_left told))

      pub work_stopped : (slot : ℕ) → HasStopped doing found.seats volume opened behind slot → IsWorkedOf doing (work_of tells old behind) found timestamp word request (Err (Disk slot))
      work_stopped slot stops = record {
        plan = plan;
        is_seat = stops.is_seat;
        there = seat_there doing (work_of tells old behind) found timestamp word request from.seats slot stops.is_seat;
        stopped = ⊎_elim
            (λ rose. inl (rose_since (old.failed_writes slot) (opened.failed_writes slot) (behind.failed_writes slot) (opened_rise slot) rose))
            (λ none. inr (
              subst (λ (v : Volume). doing.NoneLeft (Failed old behind) v slot) (sym volume_is)
                  (steady.more_left (Failed opened behind) (Failed old behind) (more_failed behind (λ s. omega arith)) volume slot none),
              inr begun_so_far,
            ))
            stops.stopped;
      }

      -- it was, and nothing behind it
      pub work_left : done ≡ true → IsArrayLeft doing (work_of tells old behind) found timestamp word request
      work_left so = record {
        plan = plan;
        left = λ told. (
          opened.held,
          first_written told,
          subst (λ (v : Volume). doing.HasDone (Failed old behind) v opened.held behind.held) (sym volume_is)
              (steady.more_done (Failed opened behind) (Failed old behind) (more_failed behind (λ s. omega arith)) volume opened.held behind.held (works.has_done told so)),
          subst (λ (v : Volume). doing.IsLeft v opened.held behind.held) (sym volume_is) (works.is_left told),
        );
      }

      is_working : tells → (new : BayState D) (image : Image) → doing.IsAmong volume opened.held opened.may_hold image → IsLeftWorking doing (work_of tells old new) found plan.first plan.volume image
      is_working told new image among = record {
        before = opened.held;
        first_written = first_written told;
        is_among = subst (λ (v : Volume). doing.IsAmong v opened.held (holding old slots opened.held).may_hold image) (sym volume_is)
            (steady.among_more volume opened.held opened.may_hold (holding old slots opened.held).may_hold (left_opened told) image among);
      }

      among_working : tells → (new : BayState D) (image : Image) → doing.IsAmong volume opened.held opened.may_hold image → IsLeftDoing doing (work_of tells old new) found timestamp word request image
      among_working told new image among = record { plan = plan; is_left = inr (inl (is_working told new image among)) }

      among_first : (new : BayState D) (image : Image) → IsLeftWriting old opens.steps image → IsLeftDoing doing (work_of tells old new) found timestamp word request image
      among_first new image writing = record { plan = plan; is_left = inl (subst (λ (steps : List Step). IsLeftWriting old steps image) (sym first_is) writing) }

      first_leaves : tells → (new : BayState D) → StopsLeave old opened (IsLeftDoing doing (work_of tells old new) found timestamp word request)
      first_leaves told new = stops_weaken (leaves told) (among_first new)

      work_leaves_in : tells → (new : BayState D) → StopsLeave old behind (IsLeftDoing doing (work_of tells old new) found timestamp word request)
      work_leaves_in told new = stops_then (first_leaves told new) (works.among told) (λ image among. among_working told new image among)

      pub work_leaves : tells → StopsLeave old behind (IsLeftDoing doing (work_of tells old behind) found timestamp word request)
      work_leaves told = work_leaves_in told behind

      -- ---- its histories

      both_steps : opens.steps ++ last ≡ plan.first ++ plan.last
      both_steps = sym (ap (λ (steps : List Step). steps ++ plan.last) first_is ∙ ap (λ (steps : List Step). opens.steps ++ steps) last_is)

      issues_last : changes_in found plan.last ≡ configs_of ready.steps
      issues_last = ap (changes_in found) last_is ∙ opens.issues

      module _ (left : List Bool) (named : Option (List ℕ)) (by : IsFoundBy old left named found) (told : tells) (group : List ℕ) (same : found.config.group ≡ group) (past : Past (groups group))
          (kept : AreAllKept group past old) (admitted : IsAdmitted group past old left found) where
        way_opened : IsUnderWay group old opened past left found (changes_in found (plan.first ++ plan.last)) now_found ready
        way_opened =
            subst (λ (steps : List Step). IsUnderWay group old opened past left found (changes_in found steps) now_found ready) both_steps (opens.under_way told left named by group same past kept admitted)

        begun : StopsLeave old opened (λ image. (now : Past (groups group)) × Goes group past (is_read left) found (changes_in found plan.first) now × IsKept now (scene_of old.sizes image))
        begun =
            (subst (λ (steps : List Step). IsUnderWay group old opened past left found (changes_in found steps) now_found (record ready { steps = [] })) (sym first_is)
            (opens.no_further told left named by group same past kept admitted)).any_moment

        first_writing : StopsLeave old opened (IsLeftWriting old plan.first)
        first_writing = subst (λ (steps : List Step). StopsLeave old opened (IsLeftWriting old steps)) (sym first_is) (leaves told)

        pub work_along : ComesAlong group doing (work_of tells old behind) past left found plan false
        work_along =
            work_fails tells group past left found timestamp word request plan doing old opened behind behind tells_opened tells_behind now_found ready opens.can_go_on.few issues_last way_opened begun first_writing
            now_floored (below_now told) (stops_weaken (works.among told) (is_working told behind)) refl
            (λ image is_left. is_working told behind image (steady.among_first volume opened.held opened.may_hold image is_left))

    -- the histories
    module _ (left : List Bool) (named : Option (List ℕ)) (by : IsFoundBy old left named found) (steps : List Step) (are : readied found changes timestamp ≡ Ok steps) where
      all_steps : opens.steps ++ last ≡ steps
      all_steps = same_ok_value (readied found changes timestamp) (opens.steps ++ last) steps opens.are_all are

      pub work_keeps : tells → KeepsHistories old behind left found steps false
      work_keeps told group same past kept admitted =
          subst (λ (all : List Step). KeepsHistory group old behind past left found (changes_in found all) false) all_steps
          (write_fails group past old opened behind tells_opened tells_behind left found (changes_in found (opens.steps ++ last)) now_found ready
          (opens.under_way told left named by group same past kept admitted) now_floored (below_now told))

      -- ---- it was done

      pub work_way : tells → done ≡ true → (group : List ℕ) → found.config.group ≡ group → (past : Past (groups group)) → AreAllKept group past old
          → IsAdmitted group past old left found → IsUnderWay group old behind past left found (changes_in found steps) now_found ready
      work_way told is group same past kept admitted =
          subst (λ (all : List Step). IsUnderWay group old behind past left found (changes_in found all) now_found ready) all_steps
          (writes group past old opened behind tells_opened tells_behind left found (changes_in found (opens.steps ++ last)) now_found ready
          (opens.under_way told left named by group same past kept admitted) now_floored (below_now told) (works.stays told is))

    module _ (is_done_so : done ≡ true) where
      -- The next step can be written.
      pub can_close : CanGoOn tells behind now_found ready
      can_close = record {
        few = opens.can_go_on.few;
        is_ready = opens.can_go_on.is_ready;
        anchored = subst (λ (sizes : List ℕ). HaveAnchors sizes now_found.newest) (sym works.goes.same_sizes) opens.can_go_on.anchored;
        holds = λ told.
            holds_still opened behind (floor_in now_found.seats) (have_floors opened now_found opens.can_go_on.is_ready.is_settled (opens.can_go_on.holds told) now_floored)
            works.goes.same_sizes (below_now told).held now_found (opens.can_go_on.holds told) (works.stays told is_done_so);
      }

      left_behind : tells → (s l : ℕ) (bytes : List ℕ) → behind.may_hold s l bytes → (holding old slots behind.held).may_hold s l bytes
      left_behind told s l bytes left = by (is_slot slots s) refl
        where
          by : (b : Bool) → is_slot slots s ≡ b → (holding old slots behind.held).may_hold s l bytes
          by true e = inl (e, works.stays told is_done_so s (settled_at told s e) l bytes left)
          by false e = inr (e, left_beside told s l bytes e left)

      module _ (new : BayState D) (tells_new : IsTold new) (back : new.tells_left → behind.tells_left) (aside : tells → LeavesOthers behind new (slots_of now_found.seats)) (closing : tells → StopsLeave behind new (IsLeftWriting behind last))
          (new_reads : new.failed_reads ≡ behind.failed_reads) where
        -- what the disks held in between has whole sectors
        sectors_behind : new.tells_left → AreSectors behind.held
        sectors_behind left s l = (tells_behind.whole s l (behind.held s l) (tells_behind.held (back left) s l)).size

        pub close_aside : tells → LeavesOthers old new slots
        close_aside told =
            let late : LeavesOthers behind new slots = subst (λ (seats : List Seat). LeavesOthers behind new (slots_of seats)) opens.same_seats (aside told) in
            stops_then (work_aside told) late (λ image may s l other. left_beside told s l (image s l) other (may s l other))

        module _ (word : List ℕ) (request : Request) (plan : IsPlanned found timestamp word request) (first_is : plan.first ≡ opens.steps) (last_is : plan.last ≡ last) (volume_is : plan.volume ≡ volume) where
          abbrev all : Work D
          all = work_of tells old new

          was_done : tells → doing.HasDone (Failed old new) plan.volume opened.held behind.held
          was_done told =
              subst (λ (v : Volume). doing.HasDone (Failed old new) v opened.held behind.held) (sym volume_is)
              (steady.more_done (Failed opened behind) (Failed old new)
              (more_failed new (λ s. let same = ap (λ (counts : ℕ → ℕ). counts s) new_reads in omega (arith, same))) volume opened.held behind.held (works.has_done told is_done_so))

          was_left : tells → doing.IsLeft plan.volume opened.held behind.held
          was_left told = subst (λ (v : Volume). doing.IsLeft v opened.held behind.held) (sym volume_is) (works.is_left told)

          is_closing : tells → new.tells_left → (image : Image) → IsLeftWriting behind last image → IsLeftClosing doing all found plan.first plan.last plan.volume image
          is_closing told left image writing = record {
            before = opened.held;
            behind = behind.held;
            first_written = first_written word request plan first_is last_is volume_is told;
            has_done = was_done told;
            is_left = was_left told;
            are_sectors = sectors_behind left;
            is_writing = subst (λ (steps : List Step). IsLeftWriting (holding old slots behind.held) steps image) (sym last_is)
                (writing_more behind (holding old slots behind.held) same_sizes_behind (left_behind told) last image writing);
          }

          among_closing : tells → new.tells_left → (image : Image) → IsLeftWriting behind last image → IsLeftDoing doing all found timestamp word request image
          among_closing told left image writing = record { plan = plan; is_left = inr (inr (is_closing told left image writing)) }

          pub close_leaves : tells → StopsLeave old new (IsLeftDoing doing all found timestamp word request)
          close_leaves told =
              let before = work_leaves_in word request plan first_is last_is volume_is told new in
              let last = closing told in
              record {
                later = let one = before.later in let two = last.later in omega (arith, one, two);
                since = λ t image le was_left. ⊎_elim
                    (λ earlier. before.since t image le earlier)
                    (λ writing. inr (among_closing told (tells_new.since t image was_left) image writing))
                    (last.since t image (let one = before.later in omega (arith, le, one)) was_left);
              }

          close_done : (sequence : ℕ) → IsLastWritten tells behind new now_found ready sequence → IsArrayDone doing all found timestamp word request sequence
          close_done sequence written = record {
            plan = plan;
            is_last = written.is_last ∙ ap (λ (config : Configuration). last_sequence config.sequence last) opens.is_config ∙ sym (last_behind found.config opens.steps last)
                ∙ ap (λ (steps : List Step). last_sequence found.config.sequence (steps ++ last)) (sym first_is)
                ∙ ap (λ (steps : List Step). last_sequence found.config.sequence (plan.first ++ steps)) (sym last_is);
            done = λ told. record {
              before = opened.held;
              behind = behind.held;
              first_written = first_written word request plan first_is last_is volume_is told;
              has_done = was_done told;
              is_left = was_left told;
              are_sectors = sectors_behind;
              last_written = subst (λ (steps : List Step). AreWritten old.sizes behind.held steps new.held) (sym last_is)
                  (subst (λ (sizes : List ℕ). AreWritten sizes behind.held last new.held) same_sizes_behind (written.are_written told));
              are_settled = subst (λ (seats : List Seat). AreSettled new seats (length seats)) opens.same_seats (written.are_settled told);
            };
          }

          close_failed : (slot : ℕ) → IsOneOf (slots_of now_found.seats) slot → Rose (behind.failed_writes slot) (new.failed_writes slot) → IsArrayStopped doing all found timestamp word request slot
          close_failed slot one rose =
              let is_seat : IsOneOf slots slot = subst (λ (seats : List Seat). IsOneOf (slots_of seats) slot) opens.same_seats one in
              record {
                plan = plan;
                is_seat = is_seat;
                there = seat_there doing all found timestamp word request from.seats slot is_seat;
                stopped = inl (rose_since (old.failed_writes slot) (behind.failed_writes slot) (new.failed_writes slot)
                    (let one = opened_rise slot in let two = works.goes.writes_rise slot in omega (arith, one, two)) rose);
              }

          pub closed : (outcome : Result ℕ Failure) → IsClosed tells behind new now_found ready outcome → IsWorkedOf doing all found timestamp word request outcome
          closed (Ok sequence) is = close_done sequence is
          closed (Err (Disk slot)) is = close_failed slot is.0 is.1
          closed (Err (Refused refusal)) is = absurd is
          closed (Err Memory) is = absurd is
          closed (Err (Conflict i j sequence differ)) is = absurd is
          closed (Err (Split i j)) is = absurd is

          -- So far come the histories.
          pub close_along : (done_all : Bool) → (tells → IsCommit behind new ready done_all) → (left : List Bool) (named : Option (List ℕ)) → IsFoundBy old left named found → tells → (group : List ℕ)
              → found.config.group ≡ group → (past : Past (groups group)) → AreAllKept group past old → IsAdmitted group past old left found → ComesAlong group doing all past left found plan done_all
          close_along done_all commits left named by told group same past kept admitted =
              let last_writing = closing told in
              comes_along tells group past left found timestamp word request plan doing old opened behind new tells_opened tells_behind now_found ready opens.can_go_on.few
              (issues_last word request plan first_is last_is volume_is) (way_opened word request plan first_is last_is volume_is left named by told group same past kept admitted)
              (begun word request plan first_is last_is volume_is left named by told group same past kept admitted)
              (first_writing word request plan first_is last_is volume_is left named by told group same past kept admitted) now_floored (below_now told)
              (stops_weaken (works.among told) (is_working word request plan first_is last_is volume_is told new)) (works.stays told is_done_so) tells_new done_all (commits told)
              (record {
                later = last_writing.later;
                since = λ t image le was_left. ⊎_elim inl (λ writing. inr (is_closing told (tells_new.since t image was_left) image writing)) (last_writing.since t image le was_left);
              })
              (λ tells_left image is_left. is_closing told tells_left image (left_still behind last image is_left))

        -- and each of them is kept.
        pub close_keeps : (done_all : Bool) → (tells → IsCommit behind new ready done_all) → (left : List Bool) (named : Option (List ℕ)) → IsFoundBy old left named found → (steps : List Step)
            → readied found changes timestamp ≡ Ok steps → tells → KeepsHistories old new left found steps done_all
        close_keeps done_all commits left named by steps are told group same past kept admitted =
            last_keeps tells behind now_found ready can_close told tells_behind new tells_new group past old left found (changes_in found steps)
            (work_way left named by steps are told is_done_so group same past kept admitted) done_all (commits told)
