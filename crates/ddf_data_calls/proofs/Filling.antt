-- A rebuild of a position keeps the data of its group, wherever a stop leaves it.
use Rattle.std.proofs.Common.{◌≡◌, ◌∙◌, ◌⊎◌, inl, inr, ⊎_elim, ℕ, zero, suc, ◌+◌, ◌<◌, ◌≤◌, Bool, true, false, ◌&&◌, List, [], ◌∷◌, ◌++◌, length, min, take, Option, Some, None, Ok, refl, ap, sym, subst, arith, if◌then◌else◌}
use Rattle.std.proofs.lemmas.Bool.{lt-ltb}
use Rattle.std.specs.Prelude.{is_some, nat_lt, slice_get}
use Rattle.std.specs.Map.{lookup}
use Rattle.ddf_lemmas.proofs.Options.{some_is}
use Rattle.ddf_lemmas.proofs.Tests.{min_le}
use Rattle.ddf_bay.specs.Sectors.{Image, IsLeft}
use Rattle.ddf_bay.specs.State.{BayState}
use Rattle.ddf_config.specs.declared.array.Array.{Array}
use Rattle.ddf_config.specs.declared.seat.Seat.{Seat}
use Rattle.ddf_config.specs.Configuration.{Configuration}
use Rattle.ddf_config.specs.Members.{is_current, same_guid}
use Rattle.ddf_config.specs.Seats.{floor_of}
use Rattle.ddf_copy.specs.declared.newest_copy.Newest.{Newest}
use Rattle.ddf_array.specs.declared.part.Part.{Part}
use Rattle.ddf_array.specs.declared.place.Place.{Place}
use Rattle.ddf_array.specs.Sound.{AreSectors}
use Rattle.ddf_array.specs.Viewing.{view_of}
use Rattle.ddf_array.specs.Volume.{IsVolume, Volume}
use Rattle.ddf_read.specs.Reading.{Failed}
use Rattle.ddf_cells.specs.Writing.{StaysBut}
use Rattle.ddf_cells.proofs.Alike.{depth_below}
use Rattle.ddf_rebuild.specs.Rebuilding.{HasRebuilt}
use Rattle.ddf_rebuild.specs.Target.{IsTarget, IsTargetCell}
use Rattle.ddf_data_array.specs.Allowed.{Allowed}
use Rattle.ddf_data_array.specs.Rows.{GoesOnBehind, NoneAbsent}
use Rattle.ddf_data_array.proofs.Resynced.{kept_rebuilding}
use Rattle.ddf_data_group.specs.Clear.{IsItsCell}
use Rattle.ddf_data_group.specs.Clearing.{MayBeInSync, MayBeNoted}
use Rattle.ddf_data_group.specs.Grouped.{KeepsArrays, Promises}
use Rattle.ddf_data_group.specs.Over.{IsOver as IsSeatedOver, absent_in}
use Rattle.ddf_data_group.proofs.Clearly.{IsUsed, rebuild_changes}
use Rattle.ddf_data_group.proofs.Firsts.{first_over}
use Rattle.ddf_data_group.proofs.Readied.{none_absent}
use Rattle.ddf_history.specs.Groups.{Disk, groups, has_current}
use Rattle.ddf_history.specs.Issued.{IsSince, Past, acknowledge, issue}
use Rattle.ddf_seats.specs.declared.seated.Seated.{Seated}
use Rattle.ddf_steps.specs.Committed.{slots_of}
use Rattle.ddf_seats.specs.Group.{GroupValue}
use Rattle.ddf_recovery.specs.Recovery.{config_recovered}
use Rattle.ddf_seats.specs.Seated.{seated}
use Rattle.ddf_steps.specs.Steps.{Step}
use Rattle.ddf_history_steps.specs.Going.{Goes, IsOver, begun, changes_in, issue_all}
use Rattle.ddf_history_steps.specs.Kept.{is_read, is_slot}
use Rattle.ddf_history_steps.proofs.CommittingGoes.{changes_of_both}
use Rattle.ddf_history_steps.proofs.LastStep.{configs}
use Rattle.ddf_data_history.specs.Promised.{IsAlone, KeepsData, seats_in}
use Rattle.ddf_data_history.proofs.Steps.{below_floors, by_acknowledge, by_issue, seats_are}
use Rattle.ddf_data_history.proofs.Viewed.{over_unique}
use Rattle.ddf_data_disks.specs.Seats.{AreAlikeSeats}
use Rattle.ddf_answer.specs.Call.{work_of}
use Rattle.ddf_group_commands.specs.Writing.{IsLeftWriting}
use Rattle.ddf_group_commands.specs.Written.{AreWritten}
use Rattle.ddf_write_commands.specs.Holding.{holding}
use Rattle.ddf_data_calls.specs.Calls.{AreMade, left_over}
use Rattle.ddf_rebuild_command.specs.Along.{AreIssued, HasCome, IsOverRounds}
use Rattle.ddf_rebuild_command.specs.Asked.{rows_in}
use Rattle.ddf_rebuild_command.specs.Filled.{RiseTo}
use Rattle.ddf_rebuild_command.specs.Notes.{notes}
use Rattle.ddf_rebuild_command.specs.Planned.{IsPlanned, first_row}
use Rattle.ddf_rebuild_command.specs.Rounds.{Round, row_before, rows_of, steps_of}
use Rattle.ddf_rebuild_command.specs.Stages.{IsBehind, IsLeftAt, IsLeftFilling, IsLeftNoting, Stage}
use Rattle.ddf_rebuild_command.specs.Stages.Stage.{Filling, Noting, Opening}
use Rattle.ddf_rebuild_command.proofs.Noting.{notes_below, notes_rise}
use Rattle.ddf_rebuild_command.proofs.PlanFitted.{rise_to}
use Rattle.ddf_rebuild_command.proofs.SeatsThere.{have_seats}
use Rattle.ddf_rebuild_command.proofs.Views.{is_at}
use Rattle.ddf_data_calls.proofs.Begins as begins
use Rattle.ddf_data_calls.proofs.Begins.{HasBegun, has_begun, mark_in}
use Rattle.ddf_data_calls.proofs.Below.{now, now_below, now_gets, now_sectors, was, was_left}
use Rattle.ddf_data_calls.proofs.Counted as counted
use Rattle.ddf_data_calls.proofs.Counted.{at_start}
use Rattle.ddf_data_calls.proofs.First as start
use Rattle.ddf_data_calls.proofs.First.{IsCalled}
use Rattle.ddf_data_calls.proofs.NotedSteps.{AllIssue, IsRoundOf, all_issue, at_round, config_at, issue_at, issue_first, issued_of, last_at, noted_at, noted_row, rise_at, rise_between}
use Rattle.ddf_data_calls.proofs.OneArray as one
use Rattle.ddf_data_calls.proofs.RowsSet as rows
use Rattle.ddf_data_calls.proofs.RowsSet.{kept_cell, wider_cell}
use Rattle.ddf_data_calls.proofs.Split as split
use Rattle.ddf_data_calls.proofs.Standing as standing
use Rattle.ddf_data_calls.proofs.Standing.{over_slots, seats_same}
use Rattle.ddf_write_commands.proofs.BelowSteps.{writing_same, written_same}
use Rattle.ddf_write_commands.proofs.StepFloors.{AllFloored, HaveFloorsOf}

pub true_false : {A : Type 0} (b : Bool) → b ≡ true → b ≡ false → A
true_false b x y = absurd cc

-- a sector that a rebuild writes is one of the array
pub target_its : (v : Volume) → IsVolume v → (element position from to slot lba : ℕ) → IsTargetCell v element position from to slot lba → IsItsCell v slot lba
target_its v known element position from to slot lba cell = record {
  element = element;
  position = position;
  sector = cell.sector;
  lies = record {
    part = cell.part;
    place = cell.place;
    is_part = cell.is_target.is_part;
    is_place = cell.is_target.is_place;
    below = depth_below v known cell.part cell.sector cell.in_rows.below;
    is_there = cell.is_target.is_there;
    lba_is = cell.lba_is;
  };
}

-- the step of a round is floored as all are
pub one_floored : (seats : List Seated) (rounds : List Round) → AllFloored seats (steps_of rounds) → (number : ℕ) (round : Round) → slice_get rounds number ≡ Some round → AllFloored seats (round.step ∷ [])
one_floored seats [] all number round at = absurd cc
one_floored seats (first ∷ rounds) all zero round at = subst (λ (each : Round). AllFloored seats (each.step ∷ [])) (some_is at) (λ k step there. by k step there)
  where
    by : (k : ℕ) (step : Step) → slice_get (first.step ∷ []) k ≡ Some step → HaveFloorsOf seats step.disks
    by zero step there = all zero step there
    by (suc k) step there = absurd cc
one_floored seats (first ∷ rounds) all (suc number) round at = one_floored seats rounds (λ k step there. all (suc k) step there) number round at

-- an image with sectors of another one, on slots below their floors
abbrev mixed : (here : ℕ → Bool) (floor : ℕ → ℕ) → (image before : Image) → Image
mixed here floor image before s l = if here s && nat_lt l (floor s) then image s l else before s l

module _ {D : Type 0} (group : List ℕ) (old new : BayState D) (tell : new.tells_left) (past : Past (groups group)) (floor : ℕ → ℕ) (promises : Promises) (left : List Bool) (newest : List (Option Newest)) (named : Option (List ℕ)) (found : GroupValue)
    (called : IsCalled group old past floor promises left newest named found) (tells : Type 0) (timestamp : ℕ) (word : List ℕ) (plan : IsPlanned found timestamp word) where
  abbrev v : Volume
  v = plan.volume

  abbrev guid : List ℕ
  guid = plan.entry.0

  abbrev e : ℕ
  e = plan.target.element

  abbrev p : ℕ
  p = plan.target.position

  -- all rows of the position's element
  abbrev end : ℕ
  end = rows_in plan.entry.1 plan.target.element

  abbrev here : ℕ → Bool
  here slot = is_slot (slots_of found.seats) slot

  started : HasBegun group found timestamp word plan
  started = has_begun group found timestamp word plan

  abbrev between : Configuration
  between = begins.between group found timestamp word plan

  abbrev is_view : view_of between plan.entry.0 found.seats ≡ Ok plan.volume
  is_view = begins.is_view group found timestamp word plan

  cells_on : (s l : ℕ) → IsItsCell v s l → (is_slot (slots_of found.seats) s ≡ true) × (l < floor s)
  cells_on = start.cells_on group old past floor promises left newest named found called between plan.entry.0 plan.volume is_view plan.known

  low : (s l : ℕ) → IsItsCell v s l → l < floor s
  low s l its = (cells_on s l its).1

  -- ---- the first steps

  -- While they are written the data are kept.
  pub opening_keeps : (image : Image) → AreSectors image → IsLeftWriting old plan.first image → (now : Past (groups group)) → Goes group past (is_read left) found (changes_in found plan.first) now
      → KeepsData group now floor image promises
  opening_keeps =
      start.opening_keeps group old past floor promises left newest named found called timestamp (mark_in plan.before) (begins.asked group found timestamp word plan) plan.first (steps_of plan.rounds)
      (begins.are_first group found timestamp word plan) (begins.are_all group found timestamp word plan)
      (λ image. started.may (seats_in group (left_over group past (is_read left) found) floor (config_recovered found)) image promises)

  made_first : (image : Image) → AreMade (seats_in group (left_over group past (is_read left) found) floor) image promises found.config (changes_in found plan.first)
  made_first =
      start.made_first group old past floor promises left newest named found called timestamp (mark_in plan.before) (begins.asked group found timestamp word plan) plan.first (steps_of plan.rounds)
      (begins.are_first group found timestamp word plan) (begins.are_all group found timestamp word plan)
      (λ image. started.may (seats_in group (left_over group past (is_read left) found) floor (config_recovered found)) image promises)

  floored_first : (s l : ℕ) (opened : Image) → AreWritten old.sizes old.held plan.first opened → l < floor s → opened s l ≡ old.held s l
  floored_first =
      start.floored_first group old past floor promises left newest named found called timestamp (mark_in plan.before) (begins.asked group found timestamp word plan) plan.first (steps_of plan.rounds)
      (begins.are_first group found timestamp word plan) (begins.are_all group found timestamp word plan)

  -- ---- the rounds

  rounds_floored : AllFloored (seated found) (steps_of plan.rounds)
  rounds_floored =
      start.last_floored group old past floor promises left newest named found called timestamp (mark_in plan.before) (begins.asked group found timestamp word plan) plan.first (steps_of plan.rounds)
      (begins.are_first group found timestamp word plan) (begins.are_all group found timestamp word plan)

  abbrev WriteHigh : List Round → Type 0
  WriteHigh = rows.WriteHigh (Failed old new) new.tells_left tell old.sizes plan.volume plan.known plan.apart plan.target floor low

  abbrev AreSet : ℕ → Image → Type 0
  AreSet = rows.AreSet (Failed old new) new.tells_left tell old.sizes plan.volume plan.known plan.apart plan.target floor low

  abbrev Reaches : Image → Image → Type 0
  Reaches = rows.Reaches (Failed old new) new.tells_left tell old.sizes plan.volume plan.known plan.apart plan.target floor low (first_row plan) end

  high_of : (rounds : List Round) → AllFloored (seated found) (steps_of rounds) → WriteHigh rounds
  high_of [] all = tt
  high_of (round ∷ rounds) all = (
    λ before after written s l below.
        written_same old floor (seated found) (start.seats_floor group old past floor promises left newest named found called) (round.step ∷ []) (one_floored (seated found) (round ∷ rounds) all 0 round refl) before after written s l below,
    high_of rounds (λ k step there. all (suc k) step there),
  )

  high : WriteHigh plan.rounds
  high = high_of plan.rounds rounds_floored

  rise : RiseTo end (first_row plan) (rows_of plan.rounds)
  rise =
      let few = min_le plan.kept end in
      subst (RiseTo end (first_row plan)) (sym plan.rows_are) (rise_to end (min plan.kept end) plan.kept (notes plan.kept end) (notes_rise plan.kept end) (notes_below plan.kept end) few.0 few.1)

  fill_between : rows.AreBetween (Failed old new) new.tells_left tell old.sizes plan.volume plan.known plan.apart plan.target floor low (first_row plan) end plan.rounds
  fill_between = rise_between end (first_row plan) (first_row plan) (omega arith) plan.rounds rise

  all_issued : AllIssue found (steps_of plan.rounds)
  all_issued =
      all_issue found (steps_of plan.rounds)
      (split.last_issued found timestamp (mark_in plan.before) (begins.asked group found timestamp word plan) plan.first (steps_of plan.rounds)
      (begins.are_first group found timestamp word plan) (begins.are_all group found timestamp word plan))

  issued_is : slice_get (found.config ∷ changes_in found plan.first) (length (changes_in found plan.first)) ≡ Some between
  issued_is =
      split.between_issued found timestamp (mark_in plan.before) (begins.asked group found timestamp word plan) plan.first (steps_of plan.rounds)
      (begins.are_first group found timestamp word plan) (begins.are_all group found timestamp word plan)

  -- what the step of a round makes of the configuration
  round_at : (number : ℕ) (round : Round) → slice_get plan.rounds number ≡ Some round → IsRoundOf group between plan.entry.0 plan.target end None between plan.rounds number round
  round_at number round at =
      at_round group between plan.entry.0 plan.target end timestamp (notes plan.kept end) plan.kept (notes_rise plan.kept end) between
      (split.split found timestamp (mark_in plan.before) (begins.asked group found timestamp word plan) plan.first (steps_of plan.rounds)
      (begins.are_first group found timestamp word plan) (begins.are_all group found timestamp word plan)).disks
      started.out plan.rounds
      (split.steps_last found timestamp (mark_in plan.before) (begins.asked group found timestamp word plan) plan.first (steps_of plan.rounds)
      (begins.are_first group found timestamp word plan) (begins.are_all group found timestamp word plan))
      plan.rows_are None (at_start plan.entry.0 plan.target.element plan.target.position between) (λ disk. refl) number round at

  -- ---- the position

  place_row : (part : Part) (place : Place) (slot : ℕ) → IsTarget v e p part place slot → place.row ≡ plan.kept
  place_row part place slot target =
      let at = is_at between plan.entry.0 found.seats plan.volume is_view plan.target.element plan.target.position (started).out.held (started).out.is_held in
      let same : at.part ≡ part = some_is (sym at.is_part ∙ target.is_part) in
      let own : at.place ≡ place = some_is (sym at.is_place ∙ ap (λ (one : Part). slice_get one.places plan.target.position) same ∙ target.is_place) in
      ap (λ (one : Place). one.row) (sym own) ∙ at.row_is ∙ (started).out.row_is

  goes_behind : GoesOnBehind v e p plan.kept
  goes_behind part place slot target = let row = place_row part place slot target in omega (arith, row)

  -- ---- images

  -- Below the floors the seats' slots have what the disks held, but for the position's sectors, and the others what a stop might have left.
  pub record IsReached (image : Image) : Type 0 where
    pub beside : (s l : ℕ) → is_slot (slots_of found.seats) s ≡ false → l < floor s → old.may_hold s l (image s l)
    pub given : (s l : ℕ) → is_slot (slots_of found.seats) s ≡ true → l < floor s → (image s l ≡ old.held s l) ⊎ IsTargetCell plan.volume plan.target.element plan.target.position (first_row plan) end s l

  on_seats : (from to s l : ℕ) → IsTargetCell v e p from to s l → is_slot (slots_of found.seats) s ≡ true
  on_seats from to s l cell = (cells_on s l (target_its v plan.known e p from to s l cell)).0

  -- ---- the history behind the first steps

  module _ (begin : Past (groups group)) (over : IsOver group past (is_read left) found (changes_in found plan.first) begin) where
    alone : IsAlone group begin between
    alone =
        standing.alone group old past floor called.small left newest named found called.long called.read called.is_found called.own called.admitted called.floors (changes_in found plan.first) between issued_is
        started.current begin over

    since : IsSince begin.changes begin.changes.acked between
    since =
        standing.since group old past floor called.small left newest named found called.long called.read called.is_found called.own called.admitted called.floors (changes_in found plan.first) between issued_is
        started.current begin over

    view : view_of between plan.entry.0 (seats_in group begin floor between) ≡ Ok plan.volume
    view =
        standing.view group old past floor called.small left newest named found called.long called.read called.is_found called.own called.admitted called.floors (changes_in found plan.first) between issued_is
        started.current begin over plan.entry.0 plan.volume is_view

    alike : AreAlikeSeats found.seats (seats_in group begin floor between)
    alike =
        standing.alike group old past floor called.small left newest named found called.long called.read called.is_found called.own called.admitted called.floors (changes_in found plan.first) between issued_is
        started.current begin over

    before_keeps : (image : Image) → IsLeft old.may_hold image → KeepsData group begin floor image promises
    before_keeps image was_left =
        standing.keeps group old past floor called.small left newest named found called.long called.read called.is_found called.own called.admitted called.floors (changes_in found plan.first) between issued_is
        started.current begin over promises called.all image was_left (made_first image)

    abbrev listed : List Seat
    listed = seats_in group begin floor between

    abbrev use_of : IsUsed between plan.entry.0 (seats_in group begin floor between) plan.volume
    use_of = one.use_of group floor called.small begin between alone plan.entry.0 plan.volume view plan.known

    seat_there : (reference : ℕ) → is_current (between).members reference ≡ true → is_some (floor_of listed reference) ≡ true
    seat_there reference current =
        sym (ap (λ (o : Option ℕ). is_some o) (alike.same_floors reference)) ∙ have_seats newest named found called.is_found reference (sym (started.members reference) ∙ current)

    lacks_none : (array : Array) → lookup (same_guid plan.entry.0) (between).arrays ≡ Some array → (element : ℕ) → NoneAbsent (absent_in (between).members listed array.elements) element
    lacks_none array there = none_absent between plan.entry.0 listed plan.volume view array there seat_there

    -- ---- the array, where something is promised of it

    -- It was redundant, and the rows that are kept are set.
    held_set : (allowed : Allowed) → promises plan.entry.0 ≡ Some allowed → AreSet (first_row plan) old.held
    held_set allowed promised =
        let kept = one.own_kept group floor called.small begin between alone plan.entry.0 plan.volume view plan.known old.held promises (before_keeps old.held called.told) begin.changes.acked since allowed promised in
        let out = plan.is_out in
        let few = min_le plan.kept end in
        let set : HasRebuilt v e p 0 plan.kept old.held old.held =
        subst (λ (n : ℕ). HasRebuilt v e p 0 n old.held old.held) (place_row out.part out.place out.slot out.is_target)
        (kept.rows.rebuilt plan.unmarked plan.within e p out.part out.place out.slot out.is_target (λ parity. inr (lacks_none (use_of).array (use_of).is_found e))) in
        rows.set_fewer (Failed old new) new.tells_left tell old.sizes plan.volume plan.known plan.apart plan.target floor low (first_row plan) plan.kept old.held few.0
        (record { redundant = kept.sound.redundant plan.unmarked plan.within; rows = set })

    -- So they are behind so many rounds.
    module _ (number : ℕ) (before : Image) (behind : IsBehind (work_of tells old new) found plan number before) where
      behind_set : (allowed : Allowed) → promises plan.entry.0 ≡ Some allowed → AreSet (row_before (first_row plan) plan.rounds number) before
      behind_set allowed promised =
          rows.rows_set (Failed old new) new.tells_left tell old.sizes plan.volume plan.known plan.apart plan.target floor low plan.rounds high number (first_row plan) behind.opened before behind.rounds_done
          (rows.set_same (Failed old new) new.tells_left tell old.sizes plan.volume plan.known plan.apart plan.target floor low (first_row plan) old.held behind.opened
          (rows.below_alike (Failed old new) new.tells_left tell old.sizes plan.volume plan.known plan.apart plan.target floor low old.held behind.opened
          (λ s l below. floored_first s l behind.opened behind.first_written below))
          (held_set allowed promised))

      behind_reaches : Reaches old.held before
      behind_reaches =
          rows.rows_reach (Failed old new) new.tells_left tell old.sizes plan.volume plan.known plan.apart plan.target floor low (first_row plan) end plan.rounds high fill_between number (first_row plan) (omega arith)
          old.held behind.opened before behind.rounds_done (λ s l below. inl (floored_first s l behind.opened behind.first_written below))

    -- ---- the data, by the configuration between the first steps and the rows

    module _ (image : Image) (are : AreSectors image) (reached : IsReached image) where
      abbrev earlier : Image
      earlier = was old floor (λ slot. is_slot (slots_of found.seats) slot) image

      abbrev later : Image
      later = now old floor (λ slot. is_slot (slots_of found.seats) slot) image

      written_now : StaysBut (IsTargetCell plan.volume plan.target.element plan.target.position (first_row plan) end) earlier later
      written_now =
          now_gets old floor (λ slot. is_slot (slots_of found.seats) slot) image
          (λ s l bytes. IsTargetCell plan.volume plan.target.element plan.target.position (first_row plan) end s l) reached.given

      written_kept : StaysBut (IsTargetCell plan.volume plan.target.element plan.target.position plan.kept end) earlier later
      written_kept s l = ⊎_elim inl (λ cell. inr (kept_cell v e p plan.kept end s l cell)) (written_now s l)

      earlier_keeps : KeepsData group begin floor earlier promises
      earlier_keeps = before_keeps earlier (was_left old floor (λ slot. is_slot (slots_of found.seats) slot) image called.told reached.beside)

      later_sectors : AreSectors later
      later_sectors = now_sectors old floor (λ slot. is_slot (slots_of found.seats) slot) image are called.whole

      begin_keeps : KeepsData group begin floor image promises
      begin_keeps =
          below_floors group floor called.small begin later promises
          (one.stays group floor called.small begin between alone plan.entry.0 plan.volume view plan.known earlier later promises earlier_keeps later_sectors
          (rebuild_changes plan.volume plan.target.element plan.target.position (first_row plan) end earlier later written_now)
          (λ allowed promised.
          kept_rebuilding (one.absent group floor called.small begin between alone plan.entry.0 plan.volume view plan.known) plan.volume plan.target.element plan.target.position plan.kept end earlier later allowed
          plan.known plan.apart later_sectors goes_behind written_kept
          (one.own_kept group floor called.small begin between alone plan.entry.0 plan.volume view plan.known earlier promises earlier_keeps begin.changes.acked since allowed promised)))
          image are (now_below old floor (λ slot. is_slot (slots_of found.seats) slot) image)

      -- ---- by those behind it

      own_over : (array : Array) → lookup (same_guid plan.entry.0) (between).arrays ≡ Some array → IsSeatedOver listed array v
      own_over array there = subst (λ (a : Array). IsSeatedOver listed a v) (some_is (sym (use_of).is_found ∙ there)) (use_of).over

      may_note : (row : ℕ) → ((allowed : Allowed) → promises plan.entry.0 ≡ Some allowed → AreSet row image)
          → (allowed : Allowed) (array : Array) (w : Volume) → promises plan.entry.0 ≡ Some allowed → lookup (same_guid plan.entry.0) (between).arrays ≡ Some array → IsSeatedOver listed array w → MayBeNoted w image e p row
      may_note row set allowed array w promised there over_w =
          subst (λ (x : Volume). MayBeNoted x image e p row) (over_unique listed array v w (own_over array there) over_w)
          (record { first = first_over listed array v e p (own_over array there) (started.first array there); rebuilt = (set allowed promised).rows })

      may_sync : ((allowed : Allowed) → promises plan.entry.0 ≡ Some allowed → AreSet end image)
          → (allowed : Allowed) (array : Array) (w : Volume) → promises plan.entry.0 ≡ Some allowed → lookup (same_guid plan.entry.0) (between).arrays ≡ Some array → IsSeatedOver listed array w
          → MayBeInSync (absent_in (between).members listed array.elements) w image e p
      may_sync set allowed array w promised there over_w =
          subst (λ (x : Volume). MayBeInSync (absent_in (between).members listed array.elements) x image e p) (over_unique listed array v w (own_over array there) over_w) (record {
            unmarked = plan.unmarked;
            within = plan.within;
            target = plan.is_out;
            all_read = lacks_none array there e;
            first = first_over listed array v e p (own_over array there) (started.first array there);
            rebuilt = λ part at. subst (λ (n : ℕ). HasRebuilt v e p 0 n image image) (plan.all_rows part at) (set allowed promised).rows;
          })

      module _ (number : ℕ) (round : Round) (at : slice_get plan.rounds number ≡ Some round) where
        abbrev of_round : IsRoundOf group between plan.entry.0 plan.target end None between plan.rounds number round
        of_round = round_at number round at

        begin_arrays : KeepsArrays between listed image promises
        begin_arrays = begin_keeps begin.changes.acked between since

        -- Behind so many rounds the arrays keep what is promised, where the rows that are noted are set,
        behind_arrays : ((allowed : Allowed) → promises plan.entry.0 ≡ Some allowed → AreSet (row_before (first_row plan) plan.rounds number) image)
            → KeepsArrays (config_at between plan.rounds number) listed image promises
        behind_arrays set =
            counted.after_keeps plan.entry.0 plan.target.element plan.target.position between (config_at between plan.rounds number) listed image promises begin_arrays (noted_at None plan.rounds number) (of_round).after
            (λ row is.
            subst (λ (n : ℕ). (allowed : Allowed) (array : Array) (w : Volume) → promises plan.entry.0 ≡ Some allowed → lookup (same_guid plan.entry.0) (between).arrays ≡ Some array → IsSeatedOver listed array w
            → MayBeNoted w image e p n)
            (sym (noted_row None (first_row plan) (λ (other : ℕ) (none : None ≡ Some other). absurd cc) plan.rounds number row is))
            (may_note (row_before (first_row plan) plan.rounds number) set))

        -- and by the step of the next one, where its rows are.
        next_arrays : ((allowed : Allowed) → promises plan.entry.0 ≡ Some allowed → AreSet round.row image) → KeepsArrays round.step.config listed image promises
        next_arrays set = ⊎_elim
            (λ noted. counted.after_keeps plan.entry.0 plan.target.element plan.target.position between round.step.config listed image promises begin_arrays (Some round.row) noted
            (λ row is. subst (λ (n : ℕ). (allowed : Allowed) (array : Array) (w : Volume) → promises plan.entry.0 ≡ Some allowed → lookup (same_guid plan.entry.0) (between).arrays ≡ Some array → IsSeatedOver listed array w
            → MayBeNoted w image e p n) (some_is is) (may_note round.row set)))
            (λ ended. counted.ended_keeps plan.entry.0 plan.target.element plan.target.position between round.step.config listed image promises begin_arrays (noted_at None plan.rounds number) ended.1
            (seats_are group floor called.small begin between)
            (may_sync (λ allowed promised. subst (λ (n : ℕ). AreSet n image) ended.0 (set allowed promised))))
            (of_round).how

    -- ---- the history behind so many rounds

    module _ (number : ℕ) (round : Round) (at : slice_get plan.rounds number ≡ Some round) (midway : Past (groups group)) (over_then : IsOverRounds group (work_of tells old new) past left found plan number midway) where
      abbrev changes : List Configuration
      changes = changes_in found (plan.first ++ steps_of (take number plan.rounds))

      changes_are : changes_in found plan.first ++ configs (steps_of (take number plan.rounds)) ≡ changes_in found (plan.first ++ steps_of (take number plan.rounds))
      changes_are =
          ap (λ (all : List Configuration). changes_in found plan.first ++ all) (sym (issued_of found (steps_of (take number plan.rounds)) (issue_first found plan.rounds all_issued number)))
          ∙ sym (changes_of_both found plan.first (steps_of (take number plan.rounds)))

      last : slice_get (found.config ∷ changes) (length changes) ≡ Some (config_at between plan.rounds number)
      last =
          subst (λ (all : List Configuration). slice_get (found.config ∷ all) (length all) ≡ Some (config_at between plan.rounds number)) changes_are
          (last_at found.config (changes_in found plan.first) between plan.rounds number issued_is)

      current : (disk : Disk) → has_current (config_at between plan.rounds number) disk ≡ has_current (config_recovered found) disk
      current disk = (round_at number round at).current disk ∙ started.current disk

      next_current : (disk : Disk) → has_current round.step.config disk ≡ has_current (config_recovered found) disk
      next_current disk = (round_at number round at).next_current disk ∙ started.current disk

      then_alone : IsAlone group midway (config_at between plan.rounds number)
      then_alone =
          standing.alone group old past floor called.small left newest named found called.long called.read called.is_found called.own called.admitted called.floors changes (config_at between plan.rounds number) last
          current midway over_then

      same_listed : (config : Configuration) → ((disk : Disk) → has_current config disk ≡ has_current (config_recovered found) disk) → listed ≡ seats_in group midway floor config
      same_listed config is =
          seats_same group floor begin (left_over group past (is_read left) found) (over_slots group past begin (is_read left) found (changes_in found plan.first) over) between (config_recovered found) started.current
          ∙ sym (seats_same group floor midway (left_over group past (is_read left) found) (over_slots group past midway (is_read left) found changes over_then) config (config_recovered found) is)

      module _ (image : Image) where
        then_keeps : KeepsArrays (config_at between plan.rounds number) listed image promises → KeepsData group midway floor image promises
        then_keeps keeps k other is =
            subst (λ (c : Configuration). KeepsArrays c (seats_in group midway floor c) image promises) (sym (then_alone k other is))
            (subst (λ (seats : List Seat). KeepsArrays (config_at between plan.rounds number) seats image promises) (same_listed (config_at between plan.rounds number) current) keeps)

        issued_keeps : KeepsArrays (config_at between plan.rounds number) listed image promises → KeepsArrays round.step.config listed image promises → KeepsData group (issue midway round.step.config) floor image promises
        issued_keeps keeps next =
            by_issue group floor called.small midway image promises (then_keeps keeps) round.step.config
            (subst (λ (seats : List Seat). KeepsArrays round.step.config seats image promises) (same_listed round.step.config next_current) next)

  -- ---- what a stop leaves

  -- the history behind the first steps, as that of a later moment tells of it
  begin_of : (changes : List Configuration) (midway : Past (groups group)) → IsOver group past (is_read left) found changes midway → Past (groups group)
  begin_of all midway over = acknowledge (issue_all group (begun group past (is_read left) found over.number) (changes_in found plan.first)) (over.number + length (changes_in found plan.first))

  over_of : (changes : List Configuration) (midway : Past (groups group)) (over : IsOver group past (is_read left) found changes midway) → IsOver group past (is_read left) found (changes_in found plan.first) (begin_of changes midway over)
  unfolding begin_of
  over_of all midway over = record { number = over.number; since = over.since; is_now = refl }

  mixed_at : (image before : Image) (s l : ℕ) → is_slot (slots_of found.seats) s ≡ true → l < floor s → mixed here floor image before s l ≡ image s l
  mixed_at image before s l there below = by (is_slot (slots_of found.seats) s) (nat_lt l (floor s)) there (lt-ltb l (floor s) below)
    where
      by : (a b : Bool) → a ≡ true → b ≡ true → (if a && b then image s l else before s l) ≡ image s l
      by true true x y = refl
      by true false x y = absurd cc
      by false b x y = absurd cc

  module _ (number : ℕ) (image : Image) (are : AreSectors image) (midway : Past (groups group)) (over_then : IsOverRounds group (work_of tells old new) past left found plan number midway) where
    abbrev changes_then : List Configuration
    changes_then = changes_in found (plan.first ++ steps_of (take number plan.rounds))

    abbrev begin_then : Past (groups group)
    begin_then = begin_of changes_then midway over_then

    abbrev begin_over : IsOver group past (is_read left) found (changes_in found plan.first) begin_then
    begin_over = over_of changes_then midway over_then

    abbrev from : ℕ
    from = row_before (first_row plan) plan.rounds number

    from_up : first_row plan ≤ from
    from_up =
        rows.before_between (Failed old new) new.tells_left tell old.sizes plan.volume plan.known plan.apart plan.target floor low (first_row plan) end plan.rounds fill_between number (first_row plan) (omega arith)

    row_down : (round : Round) → slice_get plan.rounds number ≡ Some round → round.row ≤ end
    row_down round at =
        (rows.between_at (Failed old new) new.tells_left tell old.sizes plan.volume plan.known plan.apart plan.target floor low (first_row plan) end plan.rounds fill_between number round at).1

    -- while rows are filled
    module _ (at : IsLeftFilling (work_of tells old new) found plan number image) where
      filling_reaches : Reaches old.held at.before
      filling_reaches = behind_reaches begin_then begin_over number at.before at.is_behind

      filling_reached : IsReached image
      filling_reached = record {
        beside = λ s l away below. ⊎_elim
            (⊎_elim (λ on. true_false (is_slot (slots_of found.seats) s) on.0 away) (λ other. other.1))
            (λ cell. true_false (is_slot (slots_of found.seats) s) (on_seats from (at.round).row s l cell) away) (at.is_left s l);
        given = λ s l there below. ⊎_elim
            (⊎_elim
            (λ on. ⊎_elim (λ early. inl (on.1 ∙ early)) (λ cell. inr cell) (filling_reaches s l below))
            (λ other. true_false (is_slot (slots_of found.seats) s) there other.0))
            (λ cell. inr (wider_cell v e p from (at.round).row (first_row plan) end s l from_up (row_down at.round at.is_round) cell)) (at.is_left s l);
      }

      filling_stays : StaysBut (IsTargetCell v e p from (at.round).row) at.before (mixed here floor image at.before)
      filling_stays s l = by (is_slot (slots_of found.seats) s) (nat_lt l (floor s)) refl
        where
          by : (a b : Bool) → is_slot (slots_of found.seats) s ≡ a
              → ((if a && b then image s l else (at.before) s l) ≡ (at.before) s l) ⊎ IsTargetCell v e p from (at.round).row s l
          by true true there = ⊎_elim
              (⊎_elim (λ on. inl on.1) (λ other. true_false (is_slot (slots_of found.seats) s) there other.0))
              (λ cell. inr cell) (at.is_left s l)
          by true false there = inl refl
          by false b there = inl refl

      filling_set : (allowed : Allowed) → promises plan.entry.0 ≡ Some allowed → AreSet from image
      filling_set allowed promised =
          rows.set_same (Failed old new) new.tells_left tell old.sizes plan.volume plan.known plan.apart plan.target floor low from (mixed here floor image at.before) image
          (λ element position sector slot lba lies.
          let on = cells_on slot lba (record { element = element; position = position; sector = sector; lies = lies }) in mixed_at image at.before slot lba on.0 on.1)
          (rows.set_amid (Failed old new) new.tells_left tell old.sizes plan.volume plan.known plan.apart plan.target floor low from (at.round).row at.before (mixed here floor image at.before) filling_stays
          (behind_set begin_then begin_over number at.before at.is_behind allowed promised))

      pub filling_keeps : KeepsData group midway floor image promises
      filling_keeps =
          then_keeps begin_then begin_over number at.round at.is_round midway over_then image
          (behind_arrays begin_then begin_over image are filling_reached number at.round at.is_round filling_set)

    -- while the step is written that tells of them
    module _ (at : IsLeftNoting (work_of tells old new) found plan number image) where
      abbrev writing : IsLeftWriting (holding old (slots_of found.seats) at.filled) ((at.round).step ∷ []) image
      writing = at.is_left

      noting_same : (s l : ℕ) → l < floor s → image s l ≡ writing.before s l
      noting_same s l below =
          writing_same old floor (seated found) (start.seats_floor group old past floor promises left newest named found called) ((at.round).step ∷ [])
          (one_floored (seated found) plan.rounds rounds_floored number at.round at.is_round) writing.before image writing.outside s l below

      filled_reaches : Reaches old.held at.filled
      filled_reaches =
          rows.reach_filled (Failed old new) new.tells_left tell old.sizes plan.volume plan.known plan.apart plan.target floor low (first_row plan) end from (at.round).row old.held at.before at.filled
          from_up (row_down at.round at.is_round) (at.is_filled).stays (behind_reaches begin_then begin_over number at.before at.is_behind)

      noting_held : (s l : ℕ) → is_slot (slots_of found.seats) s ≡ true → l < floor s → image s l ≡ (at.filled) s l
      noting_held s l there below =
          noting_same s l below ∙ ⊎_elim (λ on. on.1) (λ other. true_false (is_slot (slots_of found.seats) s) there other.0) (writing.is_left s l)

      noting_reached : IsReached image
      noting_reached = record {
        beside = λ s l away below.
            subst (old.may_hold s l) (sym (noting_same s l below))
            (⊎_elim (λ on. true_false (is_slot (slots_of found.seats) s) on.0 away) (λ other. other.1) (writing.is_left s l));
        given = λ s l there below. ⊎_elim (λ early. inl (noting_held s l there below ∙ early)) (λ cell. inr cell) (filled_reaches s l below);
      }

      noting_set : (allowed : Allowed) → promises plan.entry.0 ≡ Some allowed → AreSet (at.round).row image
      noting_set allowed promised =
          rows.set_same (Failed old new) new.tells_left tell old.sizes plan.volume plan.known plan.apart plan.target floor low (at.round).row at.filled image
          (λ element position sector slot lba lies.
          let on = cells_on slot lba (record { element = element; position = position; sector = sector; lies = lies }) in sym (noting_held slot lba on.0 on.1))
          (rows.set_filled (Failed old new) new.tells_left tell old.sizes plan.volume plan.known plan.apart plan.target floor low from (at.round).row at.before at.filled at.is_filled
          (behind_set begin_then begin_over number at.before at.is_behind allowed promised))

      before_set : (allowed : Allowed) → promises plan.entry.0 ≡ Some allowed → AreSet from image
      before_set allowed promised =
          rows.set_fewer (Failed old new) new.tells_left tell old.sizes plan.volume plan.known plan.apart plan.target floor low from (at.round).row image
          (rise_at end (first_row plan) plan.rounds rise number at.round at.is_round) (noting_set allowed promised)

      noted_keeps : KeepsData group (issue midway ((at.round).step).config) floor image promises
      noted_keeps =
          issued_keeps begin_then begin_over number at.round at.is_round midway over_then image
          (behind_arrays begin_then begin_over image are noting_reached number at.round at.is_round before_set)
          (next_arrays begin_then begin_over image are noting_reached number at.round at.is_round noting_set)

      step_issued : changes_in found ((at.round).step ∷ []) ≡ ((at.round).step).config ∷ []
      step_issued = issued_of found ((at.round).step ∷ []) (issue_at found plan.rounds all_issued number at.round at.is_round)

      pub noting_keeps : (round : Round) → slice_get plan.rounds number ≡ Some round → (last : Past (groups group)) → AreIssued group midway (changes_in found (round.step ∷ [])) last → KeepsData group last floor image promises
      noting_keeps round is last issued =
          let same : round ≡ at.round = some_is (sym is ∙ at.is_round) in
          let changes : changes_in found (round.step ∷ []) ≡ ((at.round).step).config ∷ [] = ap (λ (each : Round). changes_in found (each.step ∷ [])) same ∙ step_issued in
          by (changes_in found (round.step ∷ [])) changes issued
        where
          by : (all : List Configuration) → all ≡ ((at.round).step).config ∷ [] → AreIssued group midway all last → KeepsData group last floor image promises
          by all are_one (inl is_issued) =
              subst (λ (one : Past (groups group)). KeepsData group one floor image promises)
              (sym (is_issued ∙ ap (λ (some : List Configuration). issue_all group midway some) are_one)) noted_keeps
          by all are_one (inr is_acked) =
              subst (λ (one : Past (groups group)). KeepsData group one floor image promises)
              (sym (is_acked ∙ ap (λ (some : List Configuration). acknowledge (issue_all group midway some) (midway.changes.acked + length some)) are_one))
              (by_acknowledge group floor called.small (issue midway ((at.round).step).config) image promises noted_keeps (midway.changes.acked + 1) (omega arith))

  -- So they are at each stage.
  pub stage_keeps : (image : Image) → AreSectors image → (stage : Stage) (last : Past (groups group)) → HasCome group (work_of tells old new) past left found plan stage last
      → IsLeftAt (work_of tells old new) found plan stage image → KeepsData group last floor image promises
  stage_keeps image are Opening last come at = opening_keeps image are at last come
  stage_keeps image are (Filling number) last come at = filling_keeps number image are last come at
  stage_keeps image are (Noting number) last come at = noting_keeps number image are come.0 come.1 at come.2 come.3 last come.4
