-- What a write of blocks came to since its entry, by what its calls promise: what it read of its group, the first piece of the input, and what it wrote.
use Rattle.std.proofs.Common.{◌≡◌, ◌∙◌, ⊎_elim, ℕ, ◌+◌, ◌*◌, ◌<◌, ◌≤◌, true, List, [], ◌∷◌, ◌++◌, length, take, drop, Option, Result, Ok, Err, refl, sym, ap, subst, inr, arith, length-append}
use Rattle.std.specs.Prelude.{OnOk}
use Rattle.std.proofs.lemmas.List.{append_assoc, drop-drop, drop_at, length-take-le}
use Rattle.ddf_bytes.specs.Counts.{Rose}
use Rattle.ddf_bytes.specs.Streams.{GivesFront, SourceState}
use Rattle.ddf_bay.specs.ReadsOnly.{ReadsOnly}
use Rattle.ddf_bay.specs.Sectors.{Image}
use Rattle.ddf_bay.specs.State.{BayState}
use Rattle.ddf_array.specs.Volume.{Volume}
use Rattle.ddf_read.specs.Reading.{Failed, OnlyReads}
use Rattle.ddf_cells.specs.Touching.{GoesBetween}
use Rattle.ddf_write.specs.Keeping.{AreTheirValues, Keeping}
use Rattle.ddf_write.specs.RowWrites.{IsSure}
use Rattle.ddf_write.proofs.Looked.{piece_some}
use Rattle.ddf_pieces.specs.Pieces.{bytes_of}
use Rattle.ddf_group.specs.declared.answer.Assembly.{Assembly}
use Rattle.ddf_seats.specs.Group.{GroupValue}
use Rattle.ddf_assembly.specs.Group.{group_of}
use Rattle.ddf_recovery.specs.Ready.{readied}
use Rattle.ddf_recovery.specs.Recovery.{config_recovered}
use Rattle.ddf_steps.specs.Steps.{Step}
use Rattle.ddf_answer.specs.declared.failure.Failure.{Failure}
use Rattle.ddf_answer.specs.Call.{input_of, work_of}
use Rattle.ddf_group_commands.specs.Change.{Request}
use Rattle.ddf_group_commands.specs.GroupRead.{IsGroupRead}
use Rattle.ddf_group_commands.specs.Written.{AreWritten}
use Rattle.ddf_group_commands.proofs.Outcomes.{asked_of}
use Rattle.ddf_write_commands.specs.declared.planning.Plan.{Plan}
use Rattle.ddf_write_commands.specs.declared.writing.Done.{Done}
use Rattle.ddf_write_commands.specs.declared.writing.WriteFault.{WriteFault}
use Rattle.ddf_write_commands.specs.declared.writing.WriteFault.TheVariants as faults
use Rattle.ddf_write_commands.specs.Doing.{Doing}
use Rattle.ddf_write_commands.specs.Payload.{ArePiecesOf, IsFirstPiece, IsPayload, Pieces, first_piece}
use Rattle.ddf_write_commands.specs.Planned.{IsPlanned}
use Rattle.ddf_write_commands.specs.Plans.{IsPlanOf}
use Rattle.ddf_write_commands.specs.Worked.{IsArrayLeft, IsLeftIn, IsWorkedIn, IsWorkedOf}
use Rattle.ddf_write_commands.specs.Write.{AreGiven, CallsOfPlan, CallsOfWriting, HasWrittenBlocks, IsAccepted, IsWrittenAs, is_all_done, write_behind, write_refusals, write_request, writing, writing_beside}
use Rattle.ddf_write_commands.specs.Write.Outcome.{Broken, Taken}
use Rattle.ddf_write_commands.proofs.BehindLook.{made_behind}
use Rattle.ddf_write_commands.proofs.Costs.{plan_costs}
use Rattle.ddf_write_commands.proofs.FirstPiece.{first_within}
use Rattle.ddf_write_commands.proofs.Looked.{goes_looked}
use Rattle.ddf_write_commands.proofs.PlanKept.{IsPlannedAs, steps_are}
use Rattle.ddf_write_commands.proofs.PlanWritten.{few_behind}
use Rattle.ddf_write_commands.proofs.Since.{HaveBeenMade, HaveSince, array_left_since, made_since, worked_since}
use Rattle.ddf_write_commands.proofs.Surely.{left_surely, made_surely, worked_surely}
use Rattle.ddf_write_commands.proofs.WriteWorks.{beside_steady, write_steady}

-- what holds at Ok holds where all blocks that came were written
where_written : {P : Type 0} (result : Result Done WriteFault) → OnOk result P → is_all_done result ≡ true → P
where_written (Ok done) holds is = holds
where_written (Err fault) holds is = absurd cc

-- ---- what was taken from the input

module _ (tells : Type 0) (before between after : SourceState) (pieces : Pieces) (some_each : 0 < pieces.each) (count : ℕ) (room : List ℕ) (is_first : IsFirstPiece (input_of tells before between) pieces count room) where
  abbrev pub first : List ℕ
  first = take (512 * first_piece pieces count) room

  bytes_given : (sectors : List (List ℕ)) (left : List ℕ) → AreGiven tells between first pieces count sectors left → tells → before.left ≡ bytes_of sectors ++ left
  bytes_given sectors left given told =
      let come = given.come in
      is_first.bytes told ∙ ap (λ rest. first ++ rest) (come.from told) ∙ sym (append_assoc first come.came left) ∙ ap (λ front. front ++ left) (sym come.are)

  payload_given : (sectors : List (List ℕ)) (left : List ℕ) → AreGiven tells between first pieces count sectors left → IsPayload (input_of tells before after) pieces count sectors left
  payload_given sectors left given = record { whole = given.come.whole; ends = given.ends; bytes = bytes_given sectors left given }

  -- where more blocks are asked for than came, the first piece has some, and it came
  first_long : 0 < count → 0 < length first
  first_long some =
      let within = first_within pieces count in
      let long : length first ≡ 512 * first_piece pieces count = length-take-le (512 * first_piece pieces count) room (omega (arith, is_first.size, within)) in
      let one : 0 < first_piece pieces count = piece_some pieces.each pieces.ahead 0 count some_each some in
      omega (arith, one, long)

  some_came : (sectors : List (List ℕ)) (left : List ℕ) → AreGiven tells between first pieces count sectors left → length sectors < count → 0 < length sectors
  some_came [] left given less =
      let none : 0 ≡ length first + length given.come.came = ap length given.come.are ∙ length-append first given.come.came in omega (arith, none, first_long less)
  some_came (one ∷ more) left given less = omega arith

  -- a front of what is left behind a front is a front
  front_behind : (front left : List ℕ) → before.left ≡ front ++ left → GivesFront (record between { left = left }) after → GivesFront before after
  front_behind front left is gives =
      let long : length before.left ≡ length front + length left = ap length is ∙ length-append front left in
      record {
        count = length front + gives.count;
        enough = omega (arith, long, gives.enough);
        others =
            gives.others ∙ ap (drop gives.count) (sym (drop_at front left (length front) refl)) ∙ drop-drop gives.count (length front) (front ++ left)
            ∙ ap (drop (length front + gives.count)) (sym is);
      }

  none_payload : IsPayload (input_of tells before after) pieces count [] before.left
  none_payload = record { whole = λ k sector is. absurd cc; ends = record { within = omega arith; pieces = 0; are = λ some less. absurd (omega (arith, some)) }; bytes = λ told. refl }

  only_first : after ≡ between → tells → GivesFront before after
  only_first same told = record {
    count = length first;
    enough = let long : length before.left ≡ length first + length between.left = ap length (is_first.bytes told) ∙ length-append first between.left in omega (arith, long);
    others = ap (λ (one : SourceState). one.left) same ∙ sym (drop_at first between.left (length first) refl) ∙ ap (drop (length first)) (sym (is_first.bytes told));
  }

  -- ---- what the command came to

  module _ {D : Type 0} (bay_tells : Type 0) (old middle looked new : BayState D) (reads : ReadsOnly old middle) (reads_rise : (slot : ℕ) → old.failed_reads slot ≤ middle.failed_reads slot)
      (writes_rise : (slot : ℕ) → old.failed_writes slot ≤ middle.failed_writes slot) (looks : OnlyReads middle looked) (named : Option (List ℕ)) (timestamp : ℕ) (word : List ℕ) (start : ℕ) (group : GroupValue)
      (read : IsGroupRead (work_of bay_tells old middle) named (Ok group)) (plan : Plan) (is : IsPlanOf (write_refusals start count) write_behind (config_recovered group) group.seats word plan)
      {before_blocks behind_blocks : List Step} (plans : IsPlannedAs group timestamp word (write_request word start count) before_blocks behind_blocks plan.view)
      (are_pieces : ArePiecesOf plan.view start count pieces) (kept : Keeping)
      (values : bay_tells → (any_plan : IsPlanned group timestamp word (write_request word start count)) (image : Image) → AreWritten middle.sizes middle.held any_plan.first image
      → IsSure (Failed middle new) any_plan.volume image → AreTheirValues any_plan.volume image kept) (goes : GoesBetween looked new) where
    abbrev request : Request
    request = write_request word start count

    module _ (sectors : List (List ℕ)) (result : Result Done WriteFault)
        (has : HasWrittenBlocks bay_tells looked new group plan timestamp start count kept pieces tells between after first sectors result) (unfailed : OnOk result (new.failed_writes ≡ looked.failed_writes)) where
      abbrev inner : Doing
      inner = writing_beside kept start sectors

      -- what the calls behind the look promise,
      made_then : HaveBeenMade inner bay_tells looked new group timestamp word request (is_all_done result)
      made_then = record {
        leaves = λ told. has.leaves told word is;
        beside = has.beside;
        keeps = λ told left by found all asked.
            has.keeps told left by found all
            (asked_of (readied group plan.changes timestamp) all (sym (steps_are group (write_refusals start count) write_behind word plan timestamp is (few_behind is.entry)) ∙ asked));
        along = λ told left by found. has.along told left by found word is;
        unfailed = where_written result unfailed;
        goes = goes;
        costs = plan_costs inner (work_of bay_tells looked new) group (write_refusals start count) write_behind word plan timestamp is (few_behind is.entry) plans has.costs;
      }

      -- with what this kept,
      made : HaveBeenMade (writing start sectors) bay_tells middle new group timestamp word request (is_all_done result)
      made =
          made_surely bay_tells middle new group timestamp word request kept start sectors values (is_all_done result)
          (made_behind bay_tells inner (beside_steady kept start sectors) middle looked new looks group timestamp word request plans.planned (is_all_done result) made_then)

      -- and since the entry of the command.
      since : HaveSince (writing start sectors) (work_of bay_tells old new) named timestamp word request group (is_all_done result)
      since = made_since bay_tells (writing start sectors) (write_steady start sectors) old middle new reads reads_rise writes_rise named timestamp word request group read (is_all_done result) made

      is_accepted : IsAccepted timestamp word start count pieces (group_of since.taken.newest named)
      is_accepted = record {
        found = group;
        is_found = since.is_group;
        steps = plans.planned.first ++ plans.planned.last;
        are_asked = plans.planned.are_asked;
        plan = plans.planned;
        are_pieces = subst (λ (v : Volume). ArePiecesOf v start count pieces) (sym plans.volume_is) are_pieces;
      }

    look_writes : (slot : ℕ) → middle.failed_writes slot ≤ looked.failed_writes slot
    look_writes = (goes_looked middle looked looks).writes_rise

    -- what came of the work
    worked : (sectors : List (List ℕ)) (outcome : Result ℕ Failure) → IsWorkedOf (writing_beside kept start sectors) (work_of bay_tells looked new) group timestamp word request outcome
        → IsWorkedOf (writing start sectors) (work_of bay_tells old new) group timestamp word request outcome
    worked sectors outcome done =
        worked_since bay_tells (writing start sectors) (write_steady start sectors) old middle new reads reads_rise writes_rise group timestamp word request outcome
        (worked_surely (work_of bay_tells middle new) group timestamp word request kept start sectors values outcome
        (worked_since bay_tells (writing_beside kept start sectors) (beside_steady kept start sectors) middle looked new looks.reads looks.never_falls look_writes group timestamp word request outcome done))

    left_in : (sectors : List (List ℕ)) → IsArrayLeft (writing_beside kept start sectors) (work_of bay_tells looked new) group timestamp word request
        → IsArrayLeft (writing start sectors) (work_of bay_tells old new) group timestamp word request
    left_in sectors left =
        array_left_since bay_tells (writing start sectors) (write_steady start sectors) old middle new reads reads_rise writes_rise group timestamp word request
        (left_surely (work_of bay_tells middle new) group timestamp word request kept start sectors values
        (array_left_since bay_tells (writing_beside kept start sectors) (beside_steady kept start sectors) middle looked new looks.reads looks.never_falls look_writes group timestamp word request left))

    pub come : (sectors : List (List ℕ)) (result : Result Done WriteFault)
        → HasWrittenBlocks bay_tells looked new group plan timestamp start count kept pieces tells between after first sectors result → OnOk result (new.failed_writes ≡ looked.failed_writes)
        → CallsOfPlan (work_of bay_tells old new) group timestamp word start count → IsWrittenAs (work_of bay_tells old new) (input_of tells before after) named timestamp word start count result
    come sectors (Ok done) has unfailed calls =
        let now = since sectors (Ok done) has unfailed in
        let left = has.given.2.0 in
        record {
          outcome = Taken sectors (Ok done.sequence);
          is_answered = ap (λ blocks. Ok (record { blocks = blocks; sequence = done.sequence })) (sym has.given.0);
          has = record {
            taken = now.taken;
            gone = λ given. now.gone;
            pieces = pieces;
            gives = (
              (left, payload_given sectors left has.given.2.1, has.given.2.2),
              is_accepted sectors (Ok done) has unfailed,
              subst (λ (one : Result GroupValue Assembly). IsWorkedIn (writing start sectors) (work_of bay_tells old new) timestamp word request one (Ok done.sequence)) (sym now.is_group)
                  (worked sectors (Ok done.sequence) (has.worked word is)),
            );
            leaves = now.leaves;
            along = now.along;
            costs = now.costs;
            calls = subst (λ (one : Result GroupValue Assembly). CallsOfWriting (work_of bay_tells old new) timestamp word start count one) (sym now.is_group) (inr calls);
          };
        }
    come sectors (Err (faults.Failure failure)) has unfailed calls =
        let now = since sectors (Err (faults.Failure failure)) has unfailed in
        record {
          outcome = Taken sectors (Err failure);
          is_answered = refl;
          has = record {
            taken = now.taken;
            gone = λ given. now.gone;
            pieces = pieces;
            gives = (
              ⊎_elim
                  (λ none. (
                    before.left,
                    subst (λ (some : List (List ℕ)). IsPayload (input_of tells before after) pieces count some before.left) (sym none.0) none_payload,
                    only_first none.1,
                  ))
                  (λ given. (
                    given.0,
                    payload_given sectors given.0 given.1,
                    λ told. front_behind (bytes_of sectors) given.0 (bytes_given sectors given.0 given.1 told) (given.2 told),
                  ))
                  has.given,
              is_accepted sectors (Err (faults.Failure failure)) has unfailed,
              subst (λ (one : Result GroupValue Assembly). IsWorkedIn (writing start sectors) (work_of bay_tells old new) timestamp word request one (Err failure)) (sym now.is_group)
                  (worked sectors (Err failure) (has.worked word is)),
            );
            leaves = now.leaves;
            along = now.along;
            costs = now.costs;
            calls = subst (λ (one : Result GroupValue Assembly). CallsOfWriting (work_of bay_tells old new) timestamp word start count one) (sym now.is_group) (inr calls);
          };
        }
    come sectors (Err faults.Input) has unfailed calls =
        let now = since sectors (Err faults.Input) has unfailed in
        record {
          outcome = Broken sectors;
          is_answered = refl;
          has = record {
            taken = now.taken;
            gone = λ given. now.gone;
            pieces = pieces;
            gives = (
              (
                has.given.0,
                payload_given sectors has.given.0 has.given.1,
                some_came sectors has.given.0 has.given.1 has.given.2,
                has.given.2,
                subst (λ n. Rose n after.faults) is_first.same_faults has.given.3,
              ),
              is_accepted sectors (Err faults.Input) has unfailed,
              subst (λ (one : Result GroupValue Assembly). IsLeftIn (writing start sectors) (work_of bay_tells old new) timestamp word request one) (sym now.is_group)
                  (left_in sectors (has.worked word is)),
            );
            leaves = now.leaves;
            along = now.along;
            costs = now.costs;
            calls = subst (λ (one : Result GroupValue Assembly). CallsOfWriting (work_of bay_tells old new) timestamp word start count one) (sym now.is_group) (inr calls);
          };
        }
