-- Blocks of an array that are written piece by piece between the steps of its group: each end of it, by what the calls promise.
use Rattle.std.proofs.Common.{◌≡◌, ◌∙◌, ◌⊎◌, ⊎_elim, arith, ℕ, ◌-◌, ◌*◌, ◌<◌, ◌≤◌, Bool, true, false, List, [], length, Option, None, Ok, Err, Some, refl, sym, subst, inl, inr}
use Rattle.std.proofs.lemmas.Bool.{false≢true}
use Rattle.std.proofs.lemmas.List.{drop_all}
use Rattle.ddf_bytes.specs.Streams.{SourceState}
use Rattle.ddf_bay.specs.Moments.{GoesOn, StopsLeave}
use Rattle.ddf_bay.specs.State.{BayState}
use Rattle.ddf_plan.specs.declared.change.Change.{Change}
use Rattle.ddf_update.specs.Prepared.{all_sectors}
use Rattle.ddf_read.specs.declared.fault.VolumeFault.{VolumeFault}
use Rattle.ddf_read.specs.declared.fault.VolumeFault.TheVariants as volumes
use Rattle.ddf_cells.specs.Touching.{GoesBetween}
use Rattle.ddf_pieces.specs.declared.fault.PieceFault.TheVariants as piece_faults
use Rattle.ddf_pieces.specs.Writing.{ArePiecesWritten, AreWritten, IsWrittenTo, LeaveWrites}
use Rattle.ddf_write.specs.Keeping.{Keeping}
use Rattle.ddf_write.specs.Looking.{piece_of}
use Rattle.ddf_write.specs.WriteRefused.{IsStopped, write_refusal}
use Rattle.ddf_recovery.specs.Committed.{WasReadied, next_updates}
use Rattle.ddf_steps.specs.Committed.{slots_of}
use Rattle.ddf_seats.specs.Group.{GroupValue}
use Rattle.ddf_recovery.specs.Ready.{ReadyValue, readied}
use Rattle.ddf_recovery.specs.Recovery.{config_recovered}
use Rattle.ddf_seats.specs.Seated.{seated}
use Rattle.ddf_steps.specs.Steps.{Step}
use Rattle.ddf_history_steps.specs.Steps.{IsCommit}
use Rattle.ddf_history_steps.specs.BlockFloors.{AreFloored, floor_in}
use Rattle.ddf_answer.specs.declared.failure.Failure.{Failure}
use Rattle.ddf_answer.specs.declared.failure.Failure.TheVariants.{Disk}
use Rattle.ddf_answer.specs.Call.{work_of}
use Rattle.ddf_answer.specs.Costs.{WritesAtMost}
use Rattle.ddf_read_commands.specs.Use.{failure_of_volume}
use Rattle.ddf_group_commands.specs.Change.{IsChanged, KeepsHistories, steps_or}
use Rattle.ddf_group_commands.specs.GroupRead.{IsFoundBy, IsReadFrom}
use Rattle.ddf_group_commands.specs.Others.{LeavesOthers}
use Rattle.ddf_group_commands.specs.Writing.{IsLeftWriting}
use Rattle.ddf_write_commands.specs.declared.planning.Plan.{Plan}
use Rattle.ddf_write_commands.specs.declared.writing.Done.{Done}
use Rattle.ddf_write_commands.specs.declared.writing.WriteFault.TheVariants as faults
use Rattle.ddf_write_commands.specs.Around.{front, rest}
use Rattle.ddf_write_commands.specs.Closed.{IsClosed}
use Rattle.ddf_write_commands.specs.Costs.{sectors_before}
use Rattle.ddf_write_commands.specs.Opened.{CanGoOn, IsOpened, steps_left}
use Rattle.ddf_write_commands.specs.Payload.{Pieces}
use Rattle.ddf_write_commands.specs.Plans.{IsPlanOf}
use Rattle.ddf_write_commands.specs.Write.{HasWrittenBlocks, IsGivenFor, write_behind, write_refusals, writing_beside}
use Rattle.ddf_write_commands.proofs.Arrays.{along_of, aside_of, can_close_of, closed_along, closed_aside, closed_keeps, closed_leaves, closed_of, keeps_of, left_of, not_opened_along, not_opened_keeps, not_opened_leaves, not_opened_of, stopped_leaves, stopped_of}
use Rattle.ddf_write_commands.proofs.Costs.{closed_costs, opened_costs, worked_costs}
use Rattle.ddf_bay.specs.Told.{IsTold}
use Rattle.ddf_write_commands.proofs.PlanWritten.{few_behind}
use Rattle.ddf_write_commands.proofs.WriteArray.{accepted, under, write_ended}
use Rattle.ddf_write_commands.proofs.WriteWorks.{beside_steady, write_worked}
use Rattle.ddf_write_commands.proofs.Works.{HasWorked}

module _ {D : Type 0} (tells : Type 0) (old : BayState D) (group : GroupValue) (plan : Plan) (timestamp start count : ℕ) (ready : ReadyValue) (from : IsReadFrom tells old group) (was : WasReadied group plan.changes timestamp ready)
    (planned : (word : List ℕ) × IsPlanOf (write_refusals start count) write_behind (config_recovered group) group.seats word plan) (floored : AreFloored (seated group)) (kept : Keeping) (pieces : Pieces) (source_tells : Type 0) (before : SourceState) (first : List ℕ) where
  abbrev asked : List Change
  asked = front plan.redundant plan.changes

  -- The steps before the blocks weren't written.
  pub blocks_not_opened : (opened : BayState D) (failure : Failure) → WritesAtMost (work_of tells old opened) (sectors_before plan.marks ready) → IsChanged (work_of tells old opened) group (steps_or (readied group plan.changes timestamp)) (Err failure)
      → (tells → LeavesOthers old opened (slots_of group.seats))
      → (tells → (left : List Bool) (named : Option (List ℕ)) → IsFoundBy old left named group → (steps : List Step) → readied group asked timestamp ≡ Ok steps → KeepsHistories old opened left group steps false)
      → (tells → (steps : List Step) → readied group asked timestamp ≡ Ok steps → StopsLeave old opened (IsLeftWriting old steps)) → IsTold old → IsTold opened
      → HasWrittenBlocks tells old opened group plan timestamp start count kept pieces source_tells before before first [] (Err (faults.Failure failure))
  blocks_not_opened opened failure opens changed beside keeps leaves tells_old tells_opened = record {
    given = inl (refl, refl);
    worked = λ word is.
        not_opened_of tells (writing_beside kept start []) (beside_steady kept start []) old group (write_refusals start count) write_behind plan timestamp ready was word is (few_behind is.entry) opened failure changed;
    leaves = λ told word is.
        not_opened_leaves tells (writing_beside kept start []) (beside_steady kept start []) old group (write_refusals start count) write_behind plan timestamp ready was word is (few_behind is.entry) opened (leaves told);
    beside = beside;
    keeps = λ told left named by steps are.
        not_opened_keeps tells (writing_beside kept start []) (beside_steady kept start []) old group (write_refusals start count) write_behind plan timestamp ready was planned.0 planned.1 (few_behind planned.1.entry) opened left
        (keeps told left named by) steps are;
    along = λ told left named by word is.
        not_opened_along tells (writing_beside kept start []) (beside_steady kept start []) old group (write_refusals start count) write_behind plan timestamp ready was word is (few_behind is.entry) opened left
        (keeps told left named by) (leaves told) tells_old tells_opened;
    costs = λ steps are. opened_costs tells group plan.changes timestamp ready was plan.marks ((writing_beside kept start []).most_sectors plan.view) steps are opens;
  }

  module _ (opened : BayState D) (now_group : GroupValue) (left_ready : ReadyValue) (opens : IsOpened tells old opened group asked plan.changes timestamp now_group left_ready)
      (before_costs : WritesAtMost (work_of tells old opened) (sectors_before plan.marks ready)) (left_is : left_ready ≡ record { recovery = None; steps = rest plan.marks ready.steps })
      (beside : tells → LeavesOthers old opened (slots_of group.seats)) (leaves : tells → (steps : List Step) → readied group asked timestamp ≡ Ok steps → StopsLeave old opened (IsLeftWriting old steps))
      (goes_on : GoesOn old opened) (same_sizes : opened.sizes ≡ old.sizes) (same_reads : opened.failed_reads ≡ old.failed_reads)
      (opened_rise : (slot : ℕ) → old.failed_writes slot ≤ opened.failed_writes slot) (tells_opened : IsTold opened)
      (behind : BayState D) (tells_behind : IsTold behind) (told_back : behind.tells_left → opened.tells_left) (goes : GoesBetween opened behind) where
    module _ (sectors : List (List ℕ)) (leave : LeaveWrites tells opened behind plan.view start sectors) where
      works : (done : Bool) → (done ≡ true → AreWritten tells opened behind plan.view start sectors kept) → HasWorked (writing_beside kept start sectors) tells (floor_in group.seats) plan.view opened behind done
      works done is =
          write_worked tells plan.view kept start sectors opened behind (floor_in group.seats) (under tells start count sectors old opened behind group planned.0 plan planned.1 from same_sizes) done told_back leave.any_moment leave.left
          leave.held (λ told so. (is so).written told) (λ told so. (is so).settled told) goes

      works_cost : WritesAtMost (work_of tells opened behind) ((writing_beside kept start sectors).most_sectors plan.view)
      works_cost = record { asked = leave.asked; written = leave.written }

      works_false : HasWorked (writing_beside kept start sectors) tells (floor_in group.seats) plan.view opened behind false
      works_false = works false (λ so. absurd (false≢true so))

      -- The write stopped at a slot.
      blocks_stopped : (slot : ℕ) → IsStopped opened behind plan.view start (length sectors) slot → (after : SourceState)
          → IsGivenFor source_tells before after first pieces count sectors (Err (faults.Failure (Disk slot))) → HasWrittenBlocks tells old behind group plan timestamp start count kept pieces source_tells before after first sectors (Err (faults.Failure (Disk slot)))
      blocks_stopped slot stopped after given = record {
        given = given;
        worked = λ word is.
            stopped_of tells (writing_beside kept start sectors) (beside_steady kept start sectors) old group (write_refusals start count) write_behind plan timestamp ready was word is (few_behind is.entry) opened now_group left_ready from opens floored
            beside leaves goes_on same_sizes same_reads opened_rise tells_opened behind tells_behind false works_false slot
            (write_ended tells start count sectors old opened behind group word plan is from same_sizes kept slot stopped);
        leaves = λ told word is.
            stopped_leaves tells (writing_beside kept start sectors) (beside_steady kept start sectors) old group (write_refusals start count) write_behind plan timestamp ready was word is (few_behind is.entry) opened now_group left_ready from opens floored
            beside leaves goes_on same_sizes same_reads opened_rise tells_opened behind tells_behind false works_false told;
        beside = aside_of tells (writing_beside kept start sectors) (beside_steady kept start sectors) old group (write_refusals start count) write_behind plan timestamp ready was planned.0 planned.1 (few_behind planned.1.entry) opened now_group left_ready from
            opens floored beside leaves goes_on same_sizes same_reads opened_rise tells_opened behind tells_behind false works_false;
        keeps = λ told left named by steps are.
            keeps_of tells (writing_beside kept start sectors) (beside_steady kept start sectors) old group (write_refusals start count) write_behind plan timestamp ready was planned.0 planned.1 (few_behind planned.1.entry) opened now_group left_ready from
            opens floored beside leaves goes_on same_sizes same_reads opened_rise tells_opened behind tells_behind false works_false left named by steps are told;
        along = λ told left named by word is.
            along_of tells (writing_beside kept start sectors) (beside_steady kept start sectors) old group (write_refusals start count) write_behind plan timestamp ready was word is (few_behind is.entry) opened now_group left_ready from opens floored
            beside leaves goes_on same_sizes same_reads opened_rise tells_opened behind tells_behind false works_false told left named by;
        costs = λ steps are. worked_costs tells group plan.changes timestamp ready was plan.marks ((writing_beside kept start sectors).most_sectors plan.view) steps are before_costs works_cost;
      }

      module _ (is_written : AreWritten tells opened behind plan.view start sectors kept) where
        works_true : HasWorked (writing_beside kept start sectors) tells (floor_in group.seats) plan.view opened behind true
        works_true = works true (λ so. is_written)

        -- The blocks are written, and then the source failed.
        blocks_broken : (after : SourceState) → IsGivenFor source_tells before after first pieces count sectors (Err faults.Input)
            → HasWrittenBlocks tells old behind group plan timestamp start count kept pieces source_tells before after first sectors (Err faults.Input)
        blocks_broken after given = record {
          given = given;
          worked = λ word is.
              left_of tells (writing_beside kept start sectors) (beside_steady kept start sectors) old group (write_refusals start count) write_behind plan timestamp ready was word is (few_behind is.entry) opened now_group left_ready from opens floored
              beside leaves goes_on same_sizes same_reads opened_rise tells_opened behind tells_behind true works_true refl;
          leaves = λ told word is.
              stopped_leaves tells (writing_beside kept start sectors) (beside_steady kept start sectors) old group (write_refusals start count) write_behind plan timestamp ready was word is (few_behind is.entry) opened now_group left_ready from opens floored
              beside leaves goes_on same_sizes same_reads opened_rise tells_opened behind tells_behind true works_true told;
          beside = aside_of tells (writing_beside kept start sectors) (beside_steady kept start sectors) old group (write_refusals start count) write_behind plan timestamp ready was planned.0 planned.1 (few_behind planned.1.entry) opened now_group left_ready
              from opens floored beside leaves goes_on same_sizes same_reads opened_rise tells_opened behind tells_behind true works_true;
          keeps = λ told left named by steps are.
              keeps_of tells (writing_beside kept start sectors) (beside_steady kept start sectors) old group (write_refusals start count) write_behind plan timestamp ready was planned.0 planned.1 (few_behind planned.1.entry) opened now_group left_ready from
              opens floored beside leaves goes_on same_sizes same_reads opened_rise tells_opened behind tells_behind true works_true left named by steps are told;
          along = λ told left named by word is.
              along_of tells (writing_beside kept start sectors) (beside_steady kept start sectors) old group (write_refusals start count) write_behind plan timestamp ready was word is (few_behind is.entry) opened now_group left_ready from opens floored
              beside leaves goes_on same_sizes same_reads opened_rise tells_opened behind tells_behind true works_true told left named by;
          costs = λ steps are. worked_costs tells group plan.changes timestamp ready was plan.marks ((writing_beside kept start sectors).most_sectors plan.view) steps are before_costs works_cost;
        }

        -- They are, so that the last step can be.
        pub can_close : CanGoOn tells behind now_group left_ready
        can_close =
            can_close_of tells (writing_beside kept start sectors) (beside_steady kept start sectors) old group (write_refusals start count) write_behind plan timestamp ready was planned.0 planned.1 (few_behind planned.1.entry) opened now_group left_ready from
            opens floored beside leaves goes_on same_sizes same_reads opened_rise tells_opened behind tells_behind true works_true refl

        module _ (new : BayState D) (tells_new : IsTold new) (back : new.tells_left → behind.tells_left) (aside : tells → LeavesOthers behind new (slots_of now_group.seats))
            (closing : tells → StopsLeave behind new (IsLeftWriting behind (steps_left left_ready))) (new_reads : new.failed_reads ≡ behind.failed_reads)
            (last_costs : WritesAtMost (work_of tells behind new) (all_sectors (next_updates left_ready))) (after : SourceState) where
          -- It was,
          pub blocks_done : (done : Done) → IsClosed tells behind new now_group left_ready (Ok done.sequence) → (tells → IsCommit behind new left_ready true)
              → IsGivenFor source_tells before after first pieces count sectors (Ok done) → HasWrittenBlocks tells old new group plan timestamp start count kept pieces source_tells before after first sectors (Ok done)
          blocks_done done closes commits given = record {
            given = given;
            worked = λ word is.
                closed_of tells (writing_beside kept start sectors) (beside_steady kept start sectors) old group (write_refusals start count) write_behind plan timestamp ready was word is (few_behind is.entry) opened now_group left_ready from opens floored
                beside leaves goes_on same_sizes same_reads opened_rise tells_opened behind tells_behind true works_true refl new tells_new back aside closing new_reads (Ok done.sequence) closes;
            leaves = λ told word is.
                closed_leaves tells (writing_beside kept start sectors) (beside_steady kept start sectors) old group (write_refusals start count) write_behind plan timestamp ready was word is (few_behind is.entry) opened now_group left_ready from opens
                floored beside leaves goes_on same_sizes same_reads opened_rise tells_opened behind tells_behind true works_true refl new tells_new back aside closing new_reads told;
            beside = closed_aside tells (writing_beside kept start sectors) (beside_steady kept start sectors) old group (write_refusals start count) write_behind plan timestamp ready was planned.0 planned.1 (few_behind planned.1.entry) opened now_group
                left_ready from opens floored beside leaves goes_on same_sizes same_reads opened_rise tells_opened behind tells_behind true works_true refl new tells_new back aside closing new_reads;
            keeps = closed_keeps tells (writing_beside kept start sectors) (beside_steady kept start sectors) old group (write_refusals start count) write_behind plan timestamp ready was planned.0 planned.1 (few_behind planned.1.entry) opened now_group
                left_ready from opens floored beside leaves goes_on same_sizes same_reads opened_rise tells_opened behind tells_behind true works_true refl new tells_new back aside closing new_reads true commits;
            along = λ told left named by word is.
                closed_along tells (writing_beside kept start sectors) (beside_steady kept start sectors) old group (write_refusals start count) write_behind plan timestamp ready was word is (few_behind is.entry) opened now_group left_ready from opens floored
                beside leaves goes_on same_sizes same_reads opened_rise tells_opened behind tells_behind true works_true refl new tells_new back aside closing new_reads true commits told left named by;
            costs = λ steps are. closed_costs tells group plan.changes timestamp ready was plan.marks ((writing_beside kept start sectors).most_sectors plan.view) steps are before_costs works_cost left_ready left_is last_costs;
          }

          -- or its write failed.
          pub blocks_unclosed : (failure : Failure) → IsClosed tells behind new now_group left_ready (Err failure) → (tells → IsCommit behind new left_ready false)
              → IsGivenFor source_tells before after first pieces count sectors (Err (faults.Failure failure))
              → HasWrittenBlocks tells old new group plan timestamp start count kept pieces source_tells before after first sectors (Err (faults.Failure failure))
          blocks_unclosed failure closes commits given = record {
            given = given;
            worked = λ word is.
                closed_of tells (writing_beside kept start sectors) (beside_steady kept start sectors) old group (write_refusals start count) write_behind plan timestamp ready was word is (few_behind is.entry) opened now_group left_ready from opens floored
                beside leaves goes_on same_sizes same_reads opened_rise tells_opened behind tells_behind true works_true refl new tells_new back aside closing new_reads (Err failure) closes;
            leaves = λ told word is.
                closed_leaves tells (writing_beside kept start sectors) (beside_steady kept start sectors) old group (write_refusals start count) write_behind plan timestamp ready was word is (few_behind is.entry) opened now_group left_ready from opens
                floored beside leaves goes_on same_sizes same_reads opened_rise tells_opened behind tells_behind true works_true refl new tells_new back aside closing new_reads told;
            beside = closed_aside tells (writing_beside kept start sectors) (beside_steady kept start sectors) old group (write_refusals start count) write_behind plan timestamp ready was planned.0 planned.1 (few_behind planned.1.entry) opened now_group
                left_ready from opens floored beside leaves goes_on same_sizes same_reads opened_rise tells_opened behind tells_behind true works_true refl new tells_new back aside closing new_reads;
            keeps = closed_keeps tells (writing_beside kept start sectors) (beside_steady kept start sectors) old group (write_refusals start count) write_behind plan timestamp ready was planned.0 planned.1 (few_behind planned.1.entry) opened now_group
                left_ready from opens floored beside leaves goes_on same_sizes same_reads opened_rise tells_opened behind tells_behind true works_true refl new tells_new back aside closing new_reads false commits;
            along = λ told left named by word is.
                closed_along tells (writing_beside kept start sectors) (beside_steady kept start sectors) old group (write_refusals start count) write_behind plan timestamp ready was word is (few_behind is.entry) opened now_group left_ready from opens floored
                beside leaves goes_on same_sizes same_reads opened_rise tells_opened behind tells_behind true works_true refl new tells_new back aside closing new_reads false commits told left named by;
            costs = λ steps are. closed_costs tells group plan.changes timestamp ready was plan.marks ((writing_beside kept start sectors).most_sectors plan.view) steps are before_costs works_cost left_ready left_is last_costs;
          }

    -- ---- by the answer of the write

    not_refused : (fault : VolumeFault) {X : Type 0} → write_refusal plan.view start count ≡ Some fault → X
    not_refused fault is = let none = sym (accepted tells start count [] old opened behind group planned.0 plan planned.1 from same_sizes) ∙ is in absurd cc

    module _ (after : SourceState) where
      pub blocks_failed : (fault : VolumeFault) → ArePiecesWritten tells opened behind plan.view start count pieces.each pieces.ahead kept source_tells before after first (Err (piece_faults.Volume fault))
          → (sectors : List (List ℕ)) × HasWrittenBlocks tells old behind group plan timestamp start count kept pieces source_tells before after first sectors (Err (faults.Failure (failure_of_volume fault)))
      blocks_failed (volumes.Range most) is = not_refused (volumes.Range most) is.refused
      blocks_failed volumes.Lost is = not_refused volumes.Lost is.refused
      blocks_failed volumes.Unsure is = absurd is
      blocks_failed volumes.Degraded is = not_refused volumes.Degraded is.refused
      blocks_failed (volumes.Disk slot) is = (
        is.sectors,
        blocks_stopped is.sectors is.are.leave slot is.stopped after
            (inr (
              is.left,
              record { ends = is.are.whole; come = is.are.come },
              λ told. ⊎_elim (λ none. record { count = 0; enough = omega arith; others = none.1 told }) (λ more. more.1 told) is.rest,
            )),
      )

      pub blocks_cut_off : ArePiecesWritten tells opened behind plan.view start count pieces.each pieces.ahead kept source_tells before after first (Err piece_faults.Source)
          → (sectors : List (List ℕ)) × HasWrittenBlocks tells old behind group plan timestamp start count kept pieces source_tells before after first sectors (Err faults.Input)
      blocks_cut_off is = (
        is.sectors,
        blocks_broken is.sectors is.are.leave is.is_written after (is.left, record { ends = is.are.whole; come = is.are.come }, is.more, is.rose, is.came),
      )

      pub given_all : (blocks sequence : ℕ) (is : IsWrittenTo tells opened behind plan.view start count pieces.each pieces.ahead kept source_tells before after first blocks)
          → IsGivenFor source_tells before after first pieces count is.sectors (Ok (record { blocks = blocks; sequence = sequence }))
      given_all blocks sequence is = (
        is.many,
        is.same_faults,
        (
          is.left,
          record { ends = is.are.whole; come = is.are.come },
          subst
              (λ n. ((n ≡ count) × (source_tells → after.left ≡ is.left))
              ⊎ ((0 < n) × (n < count) × (source_tells → (length is.left < 512 * piece_of pieces.each pieces.ahead n (count - n)) × (after.left ≡ []))))
              (sym is.many) is.ends,
        ),
      )

      pub given_unclosed : (blocks : ℕ) (failure : Failure) (is : IsWrittenTo tells opened behind plan.view start count pieces.each pieces.ahead kept source_tells before after first blocks)
          → IsGivenFor source_tells before after first pieces count is.sectors (Err (faults.Failure failure))
      given_unclosed blocks failure is = inr (
        is.left,
        record { ends = is.are.whole; come = is.are.come },
        λ told. ⊎_elim
            (λ all. record { count = 0; enough = omega arith; others = all.1 told })
            (λ cut. record { count = length is.left; enough = omega arith; others = (cut.2 told).1 ∙ sym (drop_all (length is.left) is.left (omega arith)) })
            is.ends,
      )
