-- The group of an exercise behind a rebuild.
use Rattle.std.proofs.Common.{◌≡◌, ◌≢◌, ◌∙◌, ◌⊎◌, ℕ, zero, suc, ◌+◌, ◌*◌, ◌^◌, ◌<◌, ◌≤◌, Bool, true, false, List, [], ◌∷◌, ◌++◌, length, Option, Some, Result, Ok, refl, sym, ap, subst, inl, inr, ⊎_elim, arith, lit<}
use Rattle.std.specs.Prelude.{IsTrue, slice_get, slice_index_or, slice_set}
use Rattle.std.proofs.Math.Path.{fun_ext}
use Rattle.ddf_bytes.specs.Streams.{SinkState}
use Rattle.ddf_bay.specs.Memory.{disks_of, state_of, without as unplugged}
use Rattle.ddf_bay.specs.Moments.{GoesOn}
use Rattle.ddf_bay.specs.ReadsOnly.{LookFailed, SlotRose}
use Rattle.ddf_bay.specs.Sectors.{Image}
use Rattle.ddf_bay.specs.declared.memory.MemoryBay.{MemoryBay}
use Rattle.ddf_copy.specs.declared.newest_copy.Newest.{Newest}
use Rattle.ddf_primary.specs.Cells.{depth_of}
use Rattle.ddf_config.specs.declared.seat.Seat.{Seat}
use Rattle.ddf_config.specs.Configuration.{Configuration}
use Rattle.ddf_plan.specs.Refusals.{greatest_sequence}
use Rattle.ddf_array.specs.declared.part.Part.{Part}
use Rattle.ddf_array.specs.declared.place.Place.{Place}
use Rattle.ddf_array.specs.Volume.{Volume}
use Rattle.ddf_rebuild.specs.Target.{IsTargetCell}
use Rattle.ddf_repair.specs.declared.first.Target.{Target}
use Rattle.ddf_read.specs.Reading.{Failed}
use Rattle.ddf_update.specs.Group.{IsOneOf}
use Rattle.ddf_steps.specs.Committed.{slots_of}
use Rattle.ddf_seats.specs.Group.{GroupValue}
use Rattle.ddf_assembly.specs.Group.{group_of}
use Rattle.ddf_assembly.specs.Slots.{AreOut, newest_from}
use Rattle.ddf_steps.specs.Steps.{Step}
use Rattle.ddf_history_steps.specs.BlockFloors.{floor_in}
use Rattle.ddf_answer.specs.declared.failure.Failure.{Failure}
use Rattle.ddf_answer.specs.Call.{Answer, Work, answer_of, work_of}
use Rattle.ddf_text.specs.Done.{sequence_line}
use Rattle.ddf_group_commands.specs.Change.{last_sequence}
use Rattle.ddf_group_commands.specs.Costs.{steps_sectors}
use Rattle.ddf_group_commands.specs.Written.{AreWritten}
use Rattle.ddf_rebuild_command.specs.Costs.{CostsOf, CostsOfFilling}
use Rattle.ddf_rebuild_command.specs.Planned.{IsPlanned, first_row}
use Rattle.ddf_rebuild_command.specs.Rebuilt.{AreRoundsDone, IsArrayInSync, IsArrayRebuilt, IsRebuildDone}
use Rattle.ddf_rebuild_command.specs.Rounds.{AreRounds, IsFilled, Round, steps_of as steps_in}
use Rattle.ddf_exercise_config.specs.Disks.{AreApart, Disks}
use Rattle.ddf_exercise_config.specs.Stages.{lost_position, seats_at, spare_disk, whole}
use Rattle.ddf_exercise_config.specs.Turns.{Loss, turn_before, turn_behind}
use Rattle.ddf_exercise_config.specs.Turns.Loss.{OfSecond, OfThird}
use Rattle.ddf_exercise_config.specs.Views.{part, place as place_on, places_begun, view_begun}
use Rattle.ddf_exercise_config.specs.Words.{word}
use Rattle.ddf_uncut_group.specs.Blocks.{LeavesRecords}
use Rattle.ddf_uncut_group.specs.Settled.{AreSettledAs, group_behind, newest_held}
use Rattle.ddf_uncut_group.specs.Without.{without_seat}
use Rattle.ddf_uncut_group.proofs.AskingReadied.{all_asked}
use Rattle.ddf_uncut_group.proofs.BlocksBelow.{blocks_settled}
use Rattle.ddf_uncut_group.proofs.LostHeld.{held_without, lost_settled}
use Rattle.ddf_uncut_group.proofs.SettledDone.{newest_is}
use Rattle.ddf_uncut_group.proofs.StepsSettled.{steps_settled}
use Rattle.ddf_exercise_disks.specs.Ending.{EndsWell, unused}
use Rattle.ddf_exercise_disks.specs.Lost.{lost_slot}
use Rattle.ddf_exercise_disks.specs.Standing.{StandsAt}
use Rattle.ddf_exercise_disks.specs.Well.{IsWell, sizes_made}
use Rattle.ddf_exercise_disks.proofs.Healthy.{left_is, no_rise, stays_well}
use Rattle.ddf_exercise_disks.proofs.Outcomes.{rebuild_ends}
use Rattle.ddf_exercise_disks.proofs.RebuildingSteps as steps
use Rattle.ddf_exercise_disks.proofs.RebuildingUnplugged.{bit_beside, same_asked, same_held, unplugged_well}
use Rattle.ddf_exercise_disks.proofs.Standing.{memory_or, memory_told}

low : (loss : Loss) → lost_slot loss < 5
low OfSecond = lit< tt
low OfThird = lit< tt

-- ---- the seats that are left

second_left : (slot place : ℕ) → slice_get (0 ∷ 2 ∷ 3 ∷ 4 ∷ []) place ≡ Some slot → IsOneOf (0 ∷ 1 ∷ 2 ∷ 3 ∷ 4 ∷ []) slot × (slot ≢ 1)
second_left slot zero at = let own : 0 ≡ slot = cc in (record { place = 0; is_there = at }, λ same. omega (arith, own, same))
second_left slot (suc zero) at = let own : 2 ≡ slot = cc in (record { place = 2; is_there = at }, λ same. omega (arith, own, same))
second_left slot (suc (suc zero)) at = let own : 3 ≡ slot = cc in (record { place = 3; is_there = at }, λ same. omega (arith, own, same))
second_left slot (suc (suc (suc zero))) at = let own : 4 ≡ slot = cc in (record { place = 4; is_there = at }, λ same. omega (arith, own, same))
second_left slot (suc (suc (suc (suc place)))) at = absurd (cc)

third_left : (slot place : ℕ) → slice_get (0 ∷ 3 ∷ 4 ∷ []) place ≡ Some slot → IsOneOf (0 ∷ 2 ∷ 3 ∷ 4 ∷ []) slot × (slot ≢ 2)
third_left slot zero at = let own : 0 ≡ slot = cc in (record { place = 0; is_there = at }, λ same. omega (arith, own, same))
third_left slot (suc zero) at = let own : 3 ≡ slot = cc in (record { place = 2; is_there = at }, λ same. omega (arith, own, same))
third_left slot (suc (suc zero)) at = let own : 4 ≡ slot = cc in (record { place = 3; is_there = at }, λ same. omega (arith, own, same))
third_left slot (suc (suc (suc place))) at = absurd (cc)

-- Each is that of a seat before, and not of the one that is lost.
seat_left : (disks : Disks) (loss : Loss) (slot : ℕ) → IsOneOf (slots_of (seats_at disks (turn_behind loss))) slot → IsOneOf (slots_of (seats_at disks (turn_before loss))) slot × (slot ≢ lost_slot loss)
seat_left disks OfSecond slot one = second_left slot one.place one.is_there
seat_left disks OfThird slot one = third_left slot one.place one.is_there

-- ---- the sectors that are filled

-- They are on the spare, below its floor.
second_low : (disks : Disks) (slot lba : ℕ) → 3 ≡ slot → lba < 4096 → lba < floor_in (seats_at disks (turn_behind OfSecond)) slot
second_low disks slot lba on below = subst (λ (n : ℕ). lba < floor_in (seats_at disks (turn_behind OfSecond)) n) on (let room : lba < 32687 = omega (arith, below) in room)

third_low : (disks : Disks) (slot lba : ℕ) → 4 ≡ slot → lba < 4096 → lba < floor_in (seats_at disks (turn_behind OfThird)) slot
third_low disks slot lba on below = subst (λ (n : ℕ). lba < floor_in (seats_at disks (turn_behind OfThird)) n) on (let room : lba < 32687 = omega (arith, below) in room)

pub begun_part : (loss : Loss) (one : Part) → slice_get (view_begun loss).parts 0 ≡ Some one → part (places_begun loss) ≡ one
begun_part loss one at = cc

record IsOnSpare (loss : Loss) (slot lba : ℕ) : Type 0 where
  place : Place
  is_place : slice_get (places_begun loss) (lost_position loss) ≡ Some place
  is_there : place.slot ≡ Some slot
  lba_below : lba < place.start + 4096

on_spare : (loss : Loss) (from to slot lba : ℕ) → IsTargetCell (view_begun loss) 0 (lost_position loss) from to slot lba → IsOnSpare loss slot lba
on_spare loss from to slot lba cell =
    let same = begun_part loss cell.part cell.is_target.is_part in
    let below : cell.sector < 4096 = subst (λ (one : Part). cell.sector < depth_of one.shape) (sym same) cell.in_rows.below in
    let at = cell.lba_is in
    record {
      place = cell.place;
      is_place = ap (λ (one : Part). slice_get one.places (lost_position loss)) same ∙ cell.is_target.is_place;
      is_there = cell.is_target.is_there;
      lba_below = omega (arith, below, at);
    }

pub target_low : (disks : Disks) (loss : Loss) (from to slot lba : ℕ) → IsTargetCell (view_begun loss) 0 (lost_position loss) from to slot lba → lba < floor_in (seats_at disks (turn_behind loss)) slot
target_low disks loss from to slot lba cell = by loss (on_spare loss from to slot lba cell)
  where
    by : (which : Loss) → IsOnSpare which slot lba → lba < floor_in (seats_at disks (turn_behind which)) slot
    by OfSecond on =
        let own : place_on 3 false ≡ on.place = (let at = on.is_place in cc) in
        let start : 0 ≡ on.place.start = ap (λ (one : Place). one.start) own in
        let there : Some 3 ≡ Some slot = ap (λ (one : Place). one.slot) own ∙ on.is_there in
        let below = on.lba_below in
        second_low disks slot lba (let same : 3 ≡ slot = cc in same) (omega (arith, below, start))
    by OfThird on =
        let own : place_on 4 false ≡ on.place = (let at = on.is_place in cc) in
        let start : 0 ≡ on.place.start = ap (λ (one : Place). one.start) own in
        let there : Some 4 ≡ Some slot = ap (λ (one : Place). one.slot) own ∙ on.is_there in
        let below = on.lba_below in
        third_low disks slot lba (let same : 4 ≡ slot = cc in same) (omega (arith, below, start))

-- ---- one round

-- Rows are filled, and then these steps are written.
pub record IsOneDone (failed : ℕ → Type 0) (told : Type 0) (sizes : List ℕ) (volume : Volume) (target : Target) (from to : ℕ) (before : Image) (writes : List Step) (after : Image) : Type 0 where
  pub filled : Image
  pub is_filled : IsFilled failed told volume target from to before filled
  pub is_written : AreWritten sizes filled writes after

pub one_done : (failed : ℕ → Type 0) (told : Type 0) (sizes : List ℕ) (volume : Volume) (target : Target) (from : ℕ) (before after : Image) (round : Round)
    → AreRounds failed told sizes volume target from before (round ∷ []) after → IsOneDone failed told sizes volume target from round.row before (round.step ∷ []) after
one_done failed told sizes volume target from before after round done =
    let same : done.2 ≡ after = fun_ext (λ slot. fun_ext (λ l. sym (done.4 slot l))) in
    record { filled = done.0; is_filled = done.1; is_written = subst (λ (image : Image). AreWritten sizes done.0 (round.step ∷ []) image) same done.3 }

-- ---- the group

-- A slot of an exercise's disks was unplugged, and calls went on from there: there is room for a rebuild, and numbers are left for its steps.
pub record IsRebuilding (name : List ℕ) (total asked : ℕ) (out : List Bool) (disks : Disks) (guid : List ℕ) (loss : Loss) (sequence timestamp : ℕ) (old between new : MemoryBay) : Type 0 where
  pub apart : AreApart disks
  pub unspent : sequence + 4 ≤ greatest_sequence
  pub fits : spare_disk disks loss < 2 ^ 32
  pub stands : StandsAt name total asked out (whole name disks guid (turn_before loss) sequence) (seats_at disks (turn_before loss)) old
  pub is : state_of between ≡ unplugged (state_of old) (lost_slot loss)
  pub gone : (disks_of between).gone (lost_slot loss)
  pub goes : GoesOn (disks_of between) (disks_of new)
  pub time : timestamp < 2 ^ 32
  pub enough : asked + 249 * length (seats_at disks (turn_behind loss)) + 4096 ≤ total

module _ {name : List ℕ} {total asked : ℕ} {out : List Bool} {disks : Disks} {guid : List ℕ} {loss : Loss} {sequence timestamp : ℕ} {old between new : MemoryBay}
    (run : IsRebuilding name total asked out disks guid loss sequence timestamp old between new) where
  pub losing : steps.IsLosing name disks guid loss sequence timestamp run.stands.group
  losing = record {
    apart = run.apart;
    unspent = run.unspent;
    fits = run.fits;
    told = run.stands.settled.is_told;
    plain = run.stands.plain;
    config_was = run.stands.config_is;
    seats_were = run.stands.seats_are;
    time = run.time;
  }

  abbrev pub left_out : List Bool
  left_out = slice_set out (lost_slot loss) true

  abbrev pub most : ℕ
  most = asked + 249 * length (seats_at disks (turn_behind loss)) + 4096

  abbrev pub found : GroupValue
  found = without_seat run.stands.group (steps.lost_seat disks loss)

  abbrev pub work : Work MemoryBay
  work = work_of (Unit {0}) (disks_of between) (disks_of new)

  well : IsWell total left_out between
  well = unplugged_well total out (lost_slot loss) (low loss) old between run.is run.gone run.stands.well

  pub held_same : (disks_of between).held ≡ (disks_of old).held
  held_same = same_held total out (lost_slot loss) (low loss) old between run.is run.gone run.stands.well

  found_held : newest_held sizes_made (disks_of between).held 0 left_out ≡ found.newest
  found_held =
      ap (λ (image : Image). newest_held sizes_made image 0 left_out) held_same
      ∙ ap (λ (slot : ℕ). newest_held sizes_made (disks_of old).held 0 (slice_set out slot true)) (sym (steps.its_slot disks loss))
      ∙ held_without sizes_made (disks_of old).held out run.stands.group (steps.lost_seat disks loss) run.stands.settled

  name_is : run.stands.group.config.group ≡ name
  name_is = ap (λ (config : Configuration). config.group) run.stands.config_is ∙ run.stands.named

  -- It finds the group without that disk.
  finds : (left : List Bool) (newest : List (Option Newest)) → length left ≡ length (disks_of between).sizes
      → ((slot : ℕ) → slot < length left → IsTrue (slice_index_or left slot false) → LookFailed (disks_of between) (disks_of new) slot) → AreOut (disks_of between) left
      → newest ≡ newest_from (disks_of between) 0 left → group_of newest (Some name) ≡ Ok found
  finds left newest long failed are_gone read =
      let is_out : left ≡ left_out = left_is total left_out left between new well run.goes long failed are_gone in
      let is_held : newest ≡ found.newest =
      read ∙ ap (newest_from (disks_of between) 0) is_out ∙ newest_is (disks_of between) 0 left_out
      ∙ ap (λ (sizes : List ℕ). newest_held sizes (disks_of between).held 0 left_out) well.sizes_are ∙ found_held in
      ap (λ (all : List (Option Newest)). group_of all (Some name)) is_held
      ∙ ap (λ (one : List ℕ). group_of found.newest (Some one)) (sym name_is)
      ∙ (steps.without_told losing).is_found

  -- each seat that is left is on a slot that is plugged in
  pub here : (slot : ℕ) → IsOneOf (slots_of (seats_at disks (turn_behind loss))) slot → (slot < 5) × (slice_index_or left_out slot false ≡ false)
  here slot seat =
      let was = seat_left disks loss slot seat in
      let at = run.stands.here slot was.0 in
      (at.0, bit_beside out (lost_slot loss) slot was.1 ∙ at.1)

  pub found_seats : found.seats ≡ seats_at disks (turn_behind loss)
  found_seats = steps.without_seats losing

  pub calm : (state_of new).asked ≤ total → (slot : ℕ) → IsOneOf (slots_of found.seats) slot → SlotRose (disks_of between) (disks_of new) slot → ⊥
  calm few slot seat rose =
      let at = here slot (subst (λ (all : List Seat). IsOneOf (slots_of all) slot) found_seats seat) in
      no_rise total left_out between new well run.goes few slot at.0 at.1 rose

  -- ---- what it costs

  asked_before : (state_of between).asked ≤ asked
  asked_before = subst (λ (n : ℕ). n ≤ asked) (sym (same_asked total out (lost_slot loss) (low loss) old between run.is run.gone run.stands.well)) run.stands.few

  abbrev all_steps : List Step
  all_steps = steps.all_steps losing

  filling_few : CostsOfFilling work found timestamp word → (state_of new).asked ≤ most
  filling_few costs =
      let before = asked_before in
      let cost = costs.most.asked in
      let same : steps_sectors (costs.plan.first ++ steps_in costs.plan.rounds) ≡ steps_sectors all_steps = ap steps_sectors (steps.all_are losing costs.plan) in
      let all = steps.all_cost losing in
      let fill = steps.fill_cost losing costs.plan in
      omega (arith, before, cost, same, all, fill)

  pub costs_few : CostsOf work timestamp word (Ok found) → (state_of new).asked ≤ most
  costs_few (inl none) = let before = asked_before in let cost = none.asked in omega (arith, before, cost)
  costs_few (inr (inl idle)) = absurd (steps.not_idle losing idle.idle)
  costs_few (inr (inr filling)) = filling_few filling

  -- ---- what the disks are then

  module _ (plan : IsPlanned found timestamp word) (done : AreRoundsDone work found plan) where
    pub first_written : AreWritten sizes_made (disks_of old).held (steps.first_steps losing) done.before
    first_written =
        subst (λ (image : Image). AreWritten sizes_made image (steps.first_steps losing) done.before) held_same
        (subst (λ (some : List Step). AreWritten sizes_made (disks_of between).held some done.before)
        (steps.first_is losing plan)
        (subst (λ (sizes : List ℕ). AreWritten sizes (disks_of between).held plan.first done.before) well.sizes_are done.first_written))

    abbrev one : steps.IsOneRound plan.rounds
    one = steps.is_one losing plan

    abbrev pub Done : (volume : Volume) (target : Target) (from to : ℕ) (some : List Step) → Type 0
    Done volume target from to some = IsOneDone (Failed (disks_of between) (disks_of new)) (disks_of new).tells_left sizes_made volume target from to done.before some (disks_of new).held

    abbrev Rounds : List ℕ → List Round → Type 0
    Rounds sizes rounds = AreRounds (Failed (disks_of between) (disks_of new)) (disks_of new).tells_left sizes plan.volume plan.target (first_row plan) done.before rounds (disks_of new).held

    round_done : Done plan.volume plan.target (first_row plan) one.round.row (one.round.step ∷ [])
    round_done =
        one_done (Failed (disks_of between) (disks_of new)) (disks_of new).tells_left sizes_made plan.volume plan.target (first_row plan) done.before (disks_of new).held one.round
        (subst (λ (sizes : List ℕ). Rounds sizes (one.round ∷ [])) well.sizes_are (subst (λ (rounds : List Round). Rounds (disks_of between).sizes rounds) one.rounds_are done.rounds_done))

    last_are : one.round.step ∷ [] ≡ (steps.both losing).second.steps
    last_are =
        ap steps_in (sym one.rounds_are)
        ∙ steps.rest_is losing plan

    -- By the array as its disks then give it, all of its rows are filled, and then the last step is written.
    pub its_round : Done (view_begun loss) (steps.its_target losing) 0 512
        (steps.both losing).second.steps
    its_round =
        subst (λ (some : List Step). Done (view_begun loss) (steps.its_target losing) 0 512 some) last_are
        (subst (λ (to : ℕ). Done (view_begun loss) (steps.its_target losing) 0 to (one.round.step ∷ [])) one.row_is
        (subst (λ (from : ℕ). Done (view_begun loss) (steps.its_target losing) from one.round.row (one.round.step ∷ []))
        (steps.from_is losing plan)
        (subst (λ (target : Target). Done (view_begun loss) target (first_row plan) one.round.row (one.round.step ∷ []))
        (steps.target_is losing plan)
        (subst (λ (volume : Volume). Done volume plan.target (first_row plan) one.round.row (one.round.step ∷ []))
        (steps.volume_is losing plan)
        round_done))))

    settled_lost : AreSettledAs sizes_made first_written.0 left_out (steps.after losing)
    settled_lost =
        subst (λ (slot : ℕ). AreSettledAs sizes_made first_written.0 (slice_set out slot true) (steps.after losing)) (steps.its_slot disks loss)
        (lost_settled run.stands.group run.stands.settled.is_told 1 (steps.lost_seat disks loss) (steps.is_seat losing) (steps.two losing) timestamp run.time (steps.free losing) sizes_made
        (disks_of old).held first_written.0 out run.stands.settled first_written.1)

    abbrev middle : GroupValue
    middle = group_behind (steps.after losing) (steps.both losing).first.steps

    settled_before : AreSettledAs sizes_made done.before left_out middle
    settled_before =
        steps_settled timestamp run.time (steps.begins losing ∷ []) sizes_made first_written.0 done.before left_out (steps.after losing) (steps.both losing).first.steps settled_lost
        (all_asked (steps.begins losing ∷ []) (steps.seats losing) (steps.is_lost losing) (steps.has_begun losing) (steps.next_begins losing)) (steps.both losing).first.are_readied
        (steps.both losing).first.members first_written.2

    middle_seats : middle.seats ≡ seats_at disks (turn_behind loss)
    middle_seats = (steps.both losing).first.same_seats ∙ steps.after_seats losing

    leaves : LeavesRecords middle.seats done.before its_round.filled
    leaves slot l = ⊎_elim
        (λ same. inl same)
        (λ cell. inr (subst (λ (all : List Seat). l < floor_in all slot) (sym middle_seats) (target_low disks loss 0 512 slot l cell)))
        (its_round.is_filled.stays slot l)

    settled_filled : AreSettledAs sizes_made its_round.filled left_out middle
    settled_filled = blocks_settled sizes_made done.before its_round.filled left_out middle settled_before leaves

    abbrev last : GroupValue
    last = group_behind middle (steps.both losing).second.steps

    settled_new : AreSettledAs sizes_made (disks_of new).held left_out last
    settled_new =
        steps_settled timestamp run.time (steps.ends losing ∷ []) sizes_made its_round.filled (disks_of new).held left_out middle (steps.both losing).second.steps settled_filled
        (all_asked (steps.ends losing ∷ []) (steps.seats losing) (steps.has_begun losing) (steps.is_whole losing) (steps.next_ends losing)) (steps.both losing).second.are_readied (steps.both losing).second.members
        its_round.is_written

    -- The disks that are left are the group, whole again.
    pub stands_behind : (state_of new).asked ≤ most → StandsAt name total most left_out (whole name disks guid (turn_behind loss) (sequence + 4)) (seats_at disks (turn_behind loss)) new
    stands_behind few = record {
      well = stays_well total left_out between new well run.goes (let room = run.enough in omega (arith, few, room));
      few = few;
      group = last;
      settled = settled_new;
      plain = (steps.both losing).second.plain_newest;
      config_is = (steps.both losing).second.is_last ∙ ap (λ (number : ℕ). whole name disks guid (turn_behind loss) number) (let four : sequence + 2 + 1 + 1 ≡ sequence + 4 = omega arith in four);
      seats_are = (steps.both losing).second.same_seats ∙ middle_seats;
      named = refl;
      here = here;
    }

  -- ---- how it ends

  module _ (after : SinkState) (status : ℕ) (done : IsRebuildDone work (Some name) timestamp word (answer_of (Unit {0}) unused after status)) {P : Type 0}
      (makes : (plan : IsPlanned found timestamp word) → AreRoundsDone work found plan → (state_of new).asked ≤ most → P) where
    abbrev answer : Answer
    answer = answer_of (Unit {0}) unused after status

    abbrev Filled : Type 0
    Filled =
        IsArrayRebuilt work found timestamp word (last_sequence found.config.sequence (steps.all_steps losing))
        ⊎ IsArrayInSync work found timestamp word (last_sequence found.config.sequence (steps.all_steps losing))

    made_by : (state_of new).asked ≤ most → Filled → P
    made_by few (inl rebuilt) = makes rebuilt.plan (rebuilt.done tt) few
    made_by few (inr idle) = absurd (steps.not_idle losing idle.idle)

    along : (number other : ℕ) → number ≡ other → (Filled → P) → EndsWell answer (sequence_line number) Filled → EndsWell answer (sequence_line other) P
    along number other same to (inl five) = inl five
    along number other same to (inr (inl six)) = inr (inl six)
    along number other same to (inr (inr (told, taken, filled))) = inr (inr (told, taken ∙ ap (λ (n : ℕ). unused.taken ++ sequence_line n) same, to filled))

    found_ends : group_of done.has.taken.newest (Some name) ≡ Ok found → EndsWell answer (sequence_line (sequence + 4)) P
    found_ends is_found =
        let few : (state_of new).asked ≤ most = costs_few (subst (CostsOf work timestamp word) is_found done.has.costs) in
        along (last_sequence found.config.sequence (steps.all_steps losing)) (sequence + 4) (steps.last_number losing) (made_by few)
        (rebuild_ends work answer tt found timestamp word (steps.all_steps losing) (calm (let room = run.enough in omega (arith, few, room))) (steps.asks losing) (Some name) done is_found)

    pub ends_so : EndsWell answer (sequence_line (sequence + 4)) P
    ends_so = by_memory done.outcome refl
      where
        by_memory : (outcome : Result ℕ Failure) → done.outcome ≡ outcome → EndsWell answer (sequence_line (sequence + 4)) P
        by_memory outcome same = ⊎_elim
            (λ memory. inl (memory_told done.outcome answer (same ∙ memory) done.ends))
            (λ ample. found_ends (finds done.has.taken.left done.has.taken.newest done.has.taken.every_slot done.has.taken.failed (done.has.gone (λ none. ample (sym same ∙ none))) (done.has.taken.read tt)))
            (memory_or outcome)

  -- The rebuild is done, and the disks are the group behind it.
  pub rebuild_stands : (after : SinkState) (status : ℕ) → IsRebuildDone work (Some name) timestamp word (answer_of (Unit {0}) unused after status)
      → EndsWell (answer_of (Unit {0}) unused after status) (sequence_line (sequence + 4))
      (StandsAt name total most left_out (whole name disks guid (turn_behind loss) (sequence + 4)) (seats_at disks (turn_behind loss)) new)
  rebuild_stands after status done = ends_so after status done (λ plan rounds few. stands_behind plan rounds few)
