-- A write of blocks, where nothing refuses it and no slot of a seat fails.
use Rattle.std.proofs.Common.{◌≡◌, ◌∙◌, ◌⊎◌, ℕ, ◌+◌, ◌*◌, ◌^◌, ◌<◌, ◌≤◌, Bool, true, false, List, [], ◌∷◌, ◌++◌, length, replicate, Some, Result, Ok, refl, sym, ap, subst, inl, inr, ⊎_elim, arith}
use Rattle.std.specs.Prelude.{slice_index_or}
use Rattle.std.proofs.Math.Nat.{mul-le-mul_left}
use Rattle.std.proofs.lemmas.List.{length-replicate, append_cancel_left}
use Rattle.ddf_lemmas.proofs.Options.{same_ok_value, same_some}
use Rattle.ddf_bytes.specs.Streams.{SinkState, SourceState}
use Rattle.ddf_bay.specs.Memory.{disks_of, state_of}
use Rattle.ddf_bay.specs.Moments.{GoesOn}
use Rattle.ddf_bay.specs.declared.memory.MemoryBay.{MemoryBay}
use Rattle.ddf_update.specs.Group.{IsOneOf}
use Rattle.ddf_config.specs.declared.seat.Seat.{Seat}
use Rattle.ddf_config.specs.Configuration.{Configuration}
use Rattle.ddf_plan.specs.declared.change.Change.{Change}
use Rattle.ddf_plan.specs.declared.change.Change.TheVariants.{Mark, Unmark}
use Rattle.ddf_plan.specs.Refusals.{greatest_sequence}
use Rattle.ddf_array.specs.Viewing.{view_of}
use Rattle.ddf_array.specs.Volume.{Volume}
use Rattle.ddf_read.specs.Reading.{Failed, IsOn}
use Rattle.ddf_cells.specs.CellsOn.{copy_cells}
use Rattle.ddf_write.specs.RowWrites.{IsSure, row_cells}
use Rattle.ddf_write.specs.Writing.{HasWritten, IsLeftByWrite}
use Rattle.ddf_data_group.specs.Clear.{ChangesItsCells, IsItsCell}
use Rattle.ddf_data_group.proofs.Clearly.{write_changes}
use Rattle.ddf_group.specs.declared.answer.Assembly.{Assembly}
use Rattle.ddf_steps.specs.Committed.{slots_of}
use Rattle.ddf_seats.specs.Group.{GroupValue}
use Rattle.ddf_assembly.specs.Group.{group_of}
use Rattle.ddf_recovery.specs.Ready.{readied}
use Rattle.ddf_recovery.specs.Recovery.{config_recovered}
use Rattle.ddf_steps.specs.Steps.{Step}
use Rattle.ddf_history_steps.specs.BlockFloors.{floor_in}
use Rattle.ddf_request.specs.Named.{named_array}
use Rattle.ddf_text.specs.Done.{sequence_line}
use Rattle.ddf_answer.specs.declared.failure.Failure.TheVariants.{Conflict, Disk, Memory, Refused, Split}
use Rattle.ddf_answer.specs.Call.{Answer, Input, Work, answer_of, input_of, work_of}
use Rattle.ddf_answer.specs.Costs.{WritesAtMost}
use Rattle.ddf_group_commands.specs.Change.{Request, last_sequence, steps_of}
use Rattle.ddf_group_commands.specs.Costs.{steps_sectors}
use Rattle.ddf_group_commands.specs.Written.{AreWritten}
use Rattle.ddf_write_commands.specs.Around.{config_behind, marking}
use Rattle.ddf_write_commands.specs.Costs.{CostsOfDoing}
use Rattle.ddf_write_commands.specs.Payload.{Pieces}
use Rattle.ddf_write_commands.specs.Planned.{Entry, IsPlanned}
use Rattle.ddf_write_commands.specs.Worked.{AreBlocksDone}
use Rattle.ddf_write_commands.specs.Write.{CostsOfWriting, IsWriteDone, IsWriteIn, IsWriteTold, Outcome, write_request, writing}
use Rattle.ddf_write_commands.specs.Write.Outcome.{Broken, NotRead, Short, Taken, Unfit}
use Rattle.ddf_rebuild_command.proofs.Writings.{last_then}
use Rattle.ddf_uncut_group.specs.Asking.{AreBothReadied, AreNext}
use Rattle.ddf_uncut_group.specs.Blocks.{LeavesRecords}
use Rattle.ddf_uncut_group.specs.Settled.{AreSettledAs, group_behind}
use Rattle.ddf_uncut_group.proofs.AskingReadied.{all_asked, both_readied}
use Rattle.ddf_uncut_group.proofs.BlocksBelow.{blocks_settled}
use Rattle.ddf_uncut_group.proofs.StepsSettled.{steps_settled}
use Rattle.ddf_uncut_data.specs.Blocks.{HoldsBlocks, with_sectors}
use Rattle.ddf_uncut_data.proofs.Held.{holds_equal}
use Rattle.ddf_exercise_config.specs.Disks.{AreApart, Disks}
use Rattle.ddf_exercise_config.specs.Stages.{array, optimal, positions_at, seats_at, whole, wholly, written_on}
use Rattle.ddf_exercise_config.specs.Turns.{Turn}
use Rattle.ddf_exercise_config.specs.Views.{view_at}
use Rattle.ddf_exercise_config.specs.Words.{word}
use Rattle.ddf_exercise_config.proofs.Asked as wanted
use Rattle.ddf_exercise_config.proofs.Made as made
use Rattle.ddf_exercise_config.proofs.Readable as readable
use Rattle.ddf_exercise_config.proofs.Used as used
use Rattle.ddf_exercise_disks.specs.Ending.{EndsWell, unused}
use Rattle.ddf_exercise_disks.specs.Standing.{StandsAt}
use Rattle.ddf_exercise_disks.specs.Storing.{StoresAt, filled_with}
use Rattle.ddf_exercise_disks.specs.Well.{sizes_made}
use Rattle.ddf_exercise_disks.proofs.Aside.{AreOnFive, steps_aside}
use Rattle.ddf_exercise_disks.proofs.Clip.{memory_sectors, view_below}
use Rattle.ddf_exercise_disks.proofs.Healthy.{stays_well}
use Rattle.ddf_exercise_disks.proofs.Outcomes.{write_ends}
use Rattle.ddf_exercise_disks.proofs.Standing.{asks, calm as calm_on, ends_then, finds, last_is, on_five, recovered, steps_cost}
use Rattle.ddf_exercise_disks.proofs.WritingBytes.{block_filled, rewritten, sectors_filled}
use Rattle.ddf_exercise_disks.proofs.WritingCosts.{write_few}
use Rattle.ddf_exercise_disks.proofs.WritingImage.{holds_behind}
use Rattle.ddf_exercise_disks.proofs.Next.{makes_next}
use Rattle.ddf_exercise_disks.proofs.WritingRoom.{behind_is, cell_floor, marking_is, place_seat, room_at, sectors_of_both, view_whole}

-- ---- results

memory_or : (outcome : Outcome) → (outcome ≡ Unfit Memory) ⊎ (outcome ≡ Unfit Memory → ⊥)
memory_or (Taken sectors worked) = inr (λ is. cc)
memory_or (Broken sectors) = inr (λ is. cc)
memory_or (Short least) = inr (λ is. cc)
memory_or NotRead = inr (λ is. cc)
memory_or (Unfit (Refused refusal)) = inr (λ is. cc)
memory_or (Unfit (Disk slot)) = inr (λ is. cc)
memory_or (Unfit (Conflict i j sequence differ)) = inr (λ is. cc)
memory_or (Unfit (Split i j)) = inr (λ is. cc)
memory_or (Unfit Memory) = inl refl

memory_told : (count : ℕ) (outcome : Outcome) (answer : Answer) → outcome ≡ Unfit Memory → IsWriteTold count outcome answer → answer.status ≡ 5
memory_told count outcome answer is ends = (subst (λ (one : Outcome). IsWriteTold count one answer) is ends).0

one_step : (seats steps : ℕ) → steps ≤ 1 → 83 * seats * steps ≤ 83 * seats
one_step seats steps few = let less = mul-le-mul_left (83 * seats) few in omega (arith, less)

two_steps : (both first second n : ℕ) → both ≡ first + second → first ≤ 83 * n → second ≤ 83 * n → both ≤ 166 * n
two_steps both first second n is one other = omega (arith, is, one, other)

asked_most : (new old asked steps most n : ℕ) → new ≤ old + (steps + most) → old ≤ asked → steps ≤ 166 * n → most ≤ 32 → new ≤ asked + 166 * n + 32
asked_most new old asked steps most n cost before few small = omega (arith, cost, before, few, small)

few_sectors : (most long count : ℕ) → most ≤ 2 * long → long ≤ count → count ≤ 16 → most ≤ 32
few_sectors most long count cost within few = omega (arith, cost, within, few)

-- an input of these bytes
abbrev pub given_bytes : List ℕ → SourceState
given_bytes bytes = record { left = bytes; faults = 0 }

module _ (name : List ℕ) (total asked : ℕ) (out : List Bool) (disks : Disks) (apart : AreApart disks) (guid : List ℕ) (turn : Turn) (sequence : ℕ) (within : sequence + 2 ≤ greatest_sequence) (bytes : List ℕ)
    (old new : MemoryBay) (stores : StoresAt name total asked out (whole name disks guid turn sequence) (seats_at disks turn) (view_at turn false) bytes old) (goes : GoesOn (disks_of old) (disks_of new))
    (timestamp : ℕ) (time : timestamp < 2 ^ 32) (start count : ℕ) (fits : start + count ≤ 8192) (small : count ≤ 16) (enough : asked + 166 * length (seats_at disks turn) + 32 ≤ total) where
  abbrev work : Work MemoryBay
  work = work_of (Unit {0}) (disks_of old) (disks_of new)

  abbrev seats : List Seat
  seats = seats_at disks turn

  abbrev config : Configuration
  config = whole name disks guid turn sequence

  abbrev middle : Configuration
  middle = written_on name disks guid turn (sequence + 1)

  abbrev next : Configuration
  next = whole name disks guid turn (sequence + 2)

  abbrev stands : StandsAt name total asked out config seats old
  stands = stores.stands

  abbrev group : GroupValue
  group = stands.group

  abbrev asking : Request
  asking = write_request word start count

  abbrev most : ℕ
  most = asked + 166 * length seats + 32

  -- ---- the steps around the blocks

  first_next : AreNext group.seats group.config (Mark guid ∷ []) middle
  first_next =
      subst (λ (some : Configuration). AreNext group.seats some (Mark guid ∷ []) middle) (sym stands.config_is)
      (subst (λ (all : List Seat). AreNext all config (Mark guid ∷ []) middle) (sym stands.seats_are)
      (makes_next seats config (Mark guid) middle (made.marking name disks apart guid sequence turn (omega (arith, within))) tt (omega (arith, within))
      (readable.turn_current name disks apart guid (sequence + 1) turn (array (positions_at disks turn) 16 2)).seats_are (room_at name disks guid (positions_at disks turn) 16 2 (sequence + 1) turn)))

  two_more : sequence + 1 + 1 ≡ sequence + 2
  two_more = omega arith

  last_next : AreNext group.seats middle (Unmark guid wholly ∷ []) next
  last_next =
      subst (λ (all : List Seat). AreNext all middle (Unmark guid wholly ∷ []) next) (sym stands.seats_are)
      (subst (λ (number : ℕ). AreNext seats middle (Unmark guid wholly ∷ []) (whole name disks guid turn number)) two_more
      (makes_next seats middle (Unmark guid wholly) (whole name disks guid turn (sequence + 1 + 1)) (made.clearing name disks apart guid (sequence + 1) turn (omega (arith, within))) tt (omega (arith, within))
      (readable.turn_current name disks apart guid (sequence + 1 + 1) turn (array (positions_at disks turn) 0 2)).seats_are (room_at name disks guid (positions_at disks turn) 0 2 (sequence + 1 + 1) turn)))

  both : AreBothReadied sizes_made timestamp group (Mark guid ∷ []) (Unmark guid wholly ∷ []) middle next
  both = both_readied sizes_made timestamp time (Mark guid ∷ []) (Unmark guid wholly ∷ []) group middle next stands.settled.is_told stands.plain first_next last_next

  abbrev steps : List Step
  steps = both.first.steps ++ both.second.steps

  abbrev marked_group : GroupValue
  marked_group = group_behind group both.first.steps

  marked_seats : marked_group.seats ≡ seats
  marked_seats = both.first.same_seats ∙ stands.seats_are

  steps_are : steps_of group timestamp asking ≡ Ok steps
  steps_are = asks name total asked out config seats old new stands goes timestamp asking (Mark guid ∷ Unmark guid wholly ∷ []) steps (wanted.writes name disks apart guid sequence turn start count fits) both.together

  first_few : steps_sectors both.first.steps ≤ 83 * length seats
  first_few =
      let cost = steps_cost group.seats both.first.steps both.first.plain_steps both.first.on_all in
      let same : 83 * length group.seats * length both.first.steps ≡ 83 * length seats * length both.first.steps = ap (λ (all : List Seat). 83 * length all * length both.first.steps) stands.seats_are in
      let less = one_step (length seats) (length both.first.steps) both.first.few in
      omega (arith, cost, same, less)

  second_few : steps_sectors both.second.steps ≤ 83 * length seats
  second_few =
      let cost = steps_cost marked_group.seats both.second.steps both.second.plain_steps both.second.on_all in
      let same : 83 * length marked_group.seats * length both.second.steps ≡ 83 * length seats * length both.second.steps = ap (λ (all : List Seat). 83 * length all * length both.second.steps) marked_seats in
      let less = one_step (length seats) (length both.second.steps) both.second.few in
      omega (arith, cost, same, less)

  steps_few : steps_sectors steps ≤ 166 * length seats
  steps_few = two_steps (steps_sectors steps) (steps_sectors both.first.steps) (steps_sectors both.second.steps) (length seats) (sectors_of_both both.first.steps both.second.steps) first_few second_few

  sequence_is : last_sequence group.config.sequence steps ≡ sequence + 2
  sequence_is =
      last_then group.config.sequence both.first.steps both.second.steps
      ∙ ap (λ (number : ℕ). last_sequence number both.second.steps) (last_is group both.first.steps)
      ∙ last_is marked_group both.second.steps
      ∙ ap (λ (some : Configuration). some.sequence) both.second.is_last

  -- ---- what is planned

  module _ (plan : IsPlanned group timestamp word asking) where
    entry_is : plan.entry ≡ (guid, array (positions_at disks turn) optimal wholly)
    entry_is =
        same_some (named_array (config_recovered group).arrays word) plan.entry (guid, array (positions_at disks turn) optimal wholly) plan.is_named
        (ap (λ (some : Configuration). named_array some.arrays word) (recovered name total asked out config seats old new stands goes) ∙ used.is_named guid (positions_at disks turn) 0 2)

    first_are : plan.first ≡ both.first.steps
    first_are =
        same_ok_value (readied group (Mark guid ∷ []) timestamp) plan.first both.first.steps
        (sym
        (ap (λ (entry : Entry). readied group (marking entry) timestamp) entry_is ∙ ap (λ (changes : List Change). readied group changes timestamp) (marking_is disks guid turn 0 2))
        ∙ plan.are_first) both.first.are_readied

    all_are : plan.first ++ plan.last ≡ steps
    all_are = same_ok_value (steps_of group timestamp asking) (plan.first ++ plan.last) steps plan.are_asked steps_are

    last_are : plan.last ≡ both.second.steps
    last_are = append_cancel_left both.first.steps plan.last both.second.steps (sym (ap (λ (first : List Step). first ++ plan.last) first_are) ∙ all_are)

    config_is : config_behind group.config plan.first ≡ middle
    config_is = ap (λ (first : List Step). config_behind group.config first) first_are ∙ behind_is group both.first.steps ∙ both.first.is_last

    volume_is : plan.volume ≡ view_at turn true
    volume_is =
        same_ok_value (view_of middle guid seats) plan.volume (view_at turn true)
        (sym
        (ap (λ (some : Configuration). view_of some plan.entry.0 group.seats) config_is
        ∙ ap (λ (entry : Entry). view_of middle entry.0 group.seats) entry_is
        ∙ ap (λ (all : List Seat). view_of middle guid all) stands.seats_are)
        ∙ plan.is_view)
        (used.turn_view name disks apart guid 16 2 (sequence + 1) turn)

    costs_few : (sectors : List (List ℕ)) → length sectors ≤ count → WritesAtMost work (steps_sectors (plan.first ++ plan.last) + (writing start sectors).most_sectors plan.volume) → (state_of new).asked ≤ most
    costs_few sectors long cost =
        let blocks : (writing start sectors).most_sectors plan.volume ≤ 2 * length sectors =
        subst (λ (v : Volume). copy_cells v start (length sectors) + row_cells v (length sectors) ≤ 2 * length sectors) (sym volume_is) (write_few turn true start (length sectors)) in
        asked_most (state_of new).asked (state_of old).asked asked (steps_sectors (plan.first ++ plan.last)) ((writing start sectors).most_sectors plan.volume) (length seats) cost.asked stands.few
        (subst (λ (all : List Step). steps_sectors all ≤ 166 * length seats) (sym all_are) steps_few)
        (few_sectors ((writing start sectors).most_sectors plan.volume) (length sectors) count blocks long small)

    -- ---- what it did

    module _ (sectors : List (List ℕ)) (blocks : AreBlocksDone (writing start sectors) work group plan.first plan.last plan.volume) where
      five : AreOnFive group.seats
      five = on_five name total asked out config seats old stands

      first_written : AreWritten sizes_made (disks_of old).held both.first.steps blocks.before
      first_written =
          subst (λ (sizes : List ℕ). AreWritten sizes (disks_of old).held both.first.steps blocks.before) stands.well.sizes_are
          (subst (λ (all : List Step). AreWritten (disks_of old).sizes (disks_of old).held all blocks.before) first_are blocks.first_written)

      last_written : AreWritten sizes_made blocks.behind both.second.steps (disks_of new).held
      last_written =
          subst (λ (sizes : List ℕ). AreWritten sizes blocks.behind both.second.steps (disks_of new).held) stands.well.sizes_are
          (subst (λ (all : List Step). AreWritten (disks_of old).sizes blocks.behind all (disks_of new).held) last_are blocks.last_written)

      before_same : (slot l : ℕ) → l < 32687 → blocks.before slot l ≡ (disks_of old).held slot l
      before_same slot l low = steps_aside both.first.steps group.seats (disks_of old).held blocks.before first_written both.first.plain_steps both.first.on_all five slot l low

      last_same : (slot l : ℕ) → l < 32687 → (disks_of new).held slot l ≡ blocks.behind slot l
      last_same slot l low =
          steps_aside both.second.steps marked_group.seats blocks.behind (disks_of new).held last_written both.second.plain_steps both.second.on_all (subst AreOnFive (sym both.first.same_seats) five) slot l low

      is_left : IsLeftByWrite (view_at turn true) start sectors blocks.before blocks.behind
      is_left = subst (λ (v : Volume). IsLeftByWrite v start sectors blocks.before blocks.behind) volume_is blocks.is_left

      has_done : HasWritten (view_at turn true) start sectors (IsSure (Failed (disks_of old) (disks_of new)) (view_at turn true) blocks.before) blocks.behind
      has_done = subst (λ (v : Volume). HasWritten v start sectors (IsSure (Failed (disks_of old) (disks_of new)) v blocks.before) blocks.behind) volume_is blocks.has_done

      changes : ChangesItsCells (view_at turn true) blocks.before blocks.behind
      changes = write_changes (view_at turn true) start sectors blocks.before blocks.behind (used.is_volume_at turn true) is_left

      -- The disks are the group, settled, behind the blocks and behind the last step.
      leaves : LeavesRecords marked_group.seats blocks.before blocks.behind
      leaves slot l = ⊎_elim
          (λ stayed. inl stayed)
          (λ (cell : IsItsCell (view_at turn true) slot l).
          let low = view_below turn true cell.element cell.position cell.sector slot l cell.lies in
          let floor : floor_in marked_group.seats slot ≡ 32687 =
          ap (λ (all : List Seat). floor_in all slot) marked_seats ∙ cell_floor disks turn true cell.element cell.position cell.sector slot l cell.lies in
          inr (omega (arith, low, floor)))
          (changes slot l)

      settled_before : AreSettledAs sizes_made blocks.before out marked_group
      settled_before =
          steps_settled timestamp time (Mark guid ∷ []) sizes_made (disks_of old).held blocks.before out group both.first.steps stands.settled
          (all_asked (Mark guid ∷ []) group.seats group.config middle first_next) both.first.are_readied both.first.members first_written

      settled_then : AreSettledAs sizes_made (disks_of new).held out (group_behind marked_group both.second.steps)
      settled_then =
          steps_settled timestamp time (Unmark guid wholly ∷ []) sizes_made blocks.behind (disks_of new).held out marked_group both.second.steps
          (blocks_settled sizes_made blocks.before blocks.behind out marked_group settled_before leaves)
          (all_asked (Unmark guid wholly ∷ []) group.seats middle next last_next) both.second.are_readied both.second.members last_written

      module _ (few : (state_of new).asked ≤ most) where
        none_failed : (slot : ℕ) → IsOn (view_at turn true) slot → Failed (disks_of old) (disks_of new) slot → ⊥
        none_failed slot on failed =
            calm_on name total asked out config seats old new stands goes (omega (arith, few, enough)) slot
            (subst (λ (all : List Seat). IsOneOf (slots_of all) slot) (sym stands.seats_are) (place_seat disks turn true slot on)) (inl failed)

        holds_then : HoldsBlocks (view_at turn false) (disks_of new).held (with_sectors start sectors (filled_with bytes))
        holds_then =
            holds_behind (Failed (disks_of old) (disks_of new)) true (view_at turn false) (view_below turn false) (view_below turn true) (used.is_volume_at turn true) (view_whole turn false) (inl refl) none_failed
            start sectors (filled_with bytes) (disks_of old).held blocks.before blocks.behind (disks_of new).held (memory_sectors old) (memory_sectors new) before_same last_same is_left has_done stores.holds

        stands_then : StandsAt name total most out next seats new
        stands_then = record {
          well = stays_well total out old new stands.well goes (omega (arith, few, enough));
          few = few;
          group = group_behind marked_group both.second.steps;
          settled = settled_then;
          plain = both.second.plain_newest;
          config_is = both.second.is_last;
          seats_are = both.second.same_seats ∙ marked_seats;
          named = stands.named;
          here = stands.here;
        }

        -- The blocks that were written are filled with the byte.
        stores_then : (byte : ℕ) → length bytes ≡ 8192 → length sectors ≡ count → ((k : ℕ) → k < length sectors → slice_index_or sectors k [] ≡ replicate 512 byte)
            → StoresAt name total most out next seats (view_at turn false) (rewritten start count byte bytes) new
        stores_then byte long all are = record {
          stands = stands_then;
          holds = holds_equal (view_at turn false) (disks_of new).held (with_sectors start sectors (filled_with bytes)) (filled_with (rewritten start count byte bytes))
              (λ block low. block_filled start count byte bytes (omega (arith, fits, long)) sectors all are block) holds_then;
        }

  -- ---- how it ends

  module _ (long : length bytes ≡ 8192) (some : 1 ≤ count) (byte : ℕ) (left : SourceState) (after : SinkState) (status : ℕ)
      (done : IsWriteDone work (input_of (Unit {0}) (given_bytes (replicate (512 * count) byte)) left) (Some name) timestamp word start count (answer_of (Unit {0}) unused after status)) where
    abbrev input : Input
    input = input_of (Unit {0}) (given_bytes (replicate (512 * count) byte)) left

    abbrev answer : Answer
    answer = answer_of (Unit {0}) unused after status

    abbrev Then : Type 0
    Then = StoresAt name total most out next seats (view_at turn false) (rewritten start count byte bytes) new

    nothing_asked : WritesAtMost work 0 → (state_of new).asked ≤ most
    nothing_asked none = let cost = none.asked in let before = stands.few in omega (arith, cost, before)

    doing_asked : (sectors : List (List ℕ)) → length sectors ≤ count → CostsOfDoing (writing start sectors) work timestamp word asking (Ok group) → (state_of new).asked ≤ most
    doing_asked sectors within_count costs = ⊎_elim nothing_asked (λ plan. costs_few plan.plan sectors within_count plan.most) costs

    asks_few : (pieces : Pieces) (outcome : Outcome) → IsWriteIn work input timestamp word start count pieces (Ok group) outcome → CostsOfWriting work input timestamp word start count (Ok group) outcome → (state_of new).asked ≤ most
    asks_few pieces (Taken sectors worked) is costs = doing_asked sectors is.0.1.ends.within costs
    asks_few pieces (Broken sectors) is costs = doing_asked sectors is.0.1.ends.within costs
    asks_few pieces (Short least) is costs = nothing_asked costs
    asks_few pieces NotRead is costs = nothing_asked costs
    asks_few pieces (Unfit failure) is costs = nothing_asked costs

    module _ (is_found : group_of done.has.taken.newest (Some name) ≡ Ok group) where
      few_asked : (state_of new).asked ≤ most
      few_asked =
          asks_few done.has.pieces done.outcome
          (subst (λ (meaning : Result GroupValue Assembly). IsWriteIn work input timestamp word start count done.has.pieces meaning done.outcome) is_found done.has.gives)
          (subst (λ (meaning : Result GroupValue Assembly). CostsOfWriting work input timestamp word start count meaning done.outcome) is_found done.has.costs)

      enough_given : 512 * count ≤ length (replicate (512 * count) byte)
      enough_given = let is = length-replicate (512 * count) byte in omega (arith, is)

      found_ends : EndsWell answer (sequence_line (sequence + 2)) Then
      found_ends =
          subst (λ (number : ℕ). EndsWell answer (sequence_line number) Then) sequence_is
          (ends_then answer (sequence_line (last_sequence group.config.sequence steps))
          (λ put.
          stores_then put.4.plan put.0 (put.4.done tt) few_asked byte long put.3
          (sectors_filled byte (512 * count) put.0 put.1 put.2.1.whole (put.2.1.bytes tt)))
          (write_ends work answer tt group timestamp word steps (calm_on name total asked out config seats old new stands goes (let few = few_asked in omega (arith, few, enough)))
          input tt start count (omega (arith, small)) some enough_given steps_are (Some name) done is_found))

    -- It is done, and the blocks that were written are filled with the byte.
    pub write_stores : EndsWell answer (sequence_line (sequence + 2)) Then
    write_stores = ⊎_elim
        (λ memory. inl (memory_told count done.outcome answer memory done.ends))
        (λ ample. found_ends (finds name total asked out config seats old new stands goes done.has.taken.left done.has.taken.newest done.has.taken.every_slot done.has.taken.failed (done.has.gone ample) (done.has.taken.read tt)))
        (memory_or done.outcome)
