-- A command that was done where a disk stands is a turn of its life.
use Rattle.std.proofs.Common.{◌≡◌, ◌∙◌, ℕ, ◌++◌, ◌==◌, ◌<◌, Bool, true, false, List, length, Option, Some, None, Result, Ok, Err, refl, sym, ap, subst, inl, inr, ⊎_elim, arith}
use Rattle.std.proofs.lemmas.Bool.{eqb-true}
use Rattle.ddf_bytes.specs.Streams.{SourceState}
use Rattle.ddf_bytes.specs.declared.stamp.Stamp.{Stamp}
use Rattle.ddf_bay.specs.Memory.{disks_of, state_of, without}
use Rattle.ddf_bay.specs.ReadsOnly.{ReadsOnly}
use Rattle.ddf_bay.specs.Sectors.{Image}
use Rattle.ddf_bay.specs.declared.memory.MemoryBay.{MemoryBay}
use Rattle.ddf_config.specs.declared.refusal.Refusal.{Refusal}
use Rattle.ddf_config.specs.declared.refusal.Refusal.TheVariants.{ShortPayload}
use Rattle.ddf_config.specs.declared.seat.Seat.{Seat}
use Rattle.ddf_config.specs.Configuration.{Configuration}
use Rattle.ddf_plan.specs.declared.change.Change.{Change}
use Rattle.ddf_plan.specs.Lose.{is_among}
use Rattle.ddf_plan.specs.Members.{lost_by}
use Rattle.ddf_history.specs.Groups.{Disk}
use Rattle.ddf_group.specs.declared.answer.Assembly.{Assembly}
use Rattle.ddf_seats.specs.Group.{GroupValue}
use Rattle.ddf_assembly.specs.Group.{group_of}
use Rattle.ddf_assembly.specs.Slots.{AreOut}
use Rattle.ddf_recovery.specs.Recovery.{config_recovered}
use Rattle.ddf_steps.specs.Steps.{Step as GroupStep}
use Rattle.ddf_words.specs.declared.command.Creation.{Creation}
use Rattle.ddf_words.specs.declared.command.SpareWord.{SpareWord}
use Rattle.ddf_words.specs.declared.command.Wish.{Wish}
use Rattle.ddf_words.specs.declared.command.Wish.TheVariants as wishes
use Rattle.ddf_request.specs.NewArray.{new_array_guid}
use Rattle.ddf_request.specs.Request.{request_of}
use Rattle.ddf_answer.specs.declared.failure.Failure.{Failure}
use Rattle.ddf_answer.specs.declared.failure.Failure.TheVariants.{Memory, Refused}
use Rattle.ddf_answer.specs.Answers.{failure_of}
use Rattle.ddf_answer.specs.Call.{Answer, Work, input_of, work_of}
use Rattle.ddf_answer.proofs.Common.{no_failure}
use Rattle.ddf_group_commands.specs.Change.{HasChanged, IsChangedIn, Request, TakesGroup, is_done, steps_asked, steps_of}
use Rattle.ddf_group_commands.specs.Requests.{IsWished, at_most_one, linux_members, request_for}
use Rattle.ddf_write_commands.specs.Planned.{IsPlanned}
use Rattle.ddf_write_commands.specs.Resync.{IsResyncDone, resync_request, resyncing}
use Rattle.ddf_write_commands.specs.Worked.{IsWorkedIn}
use Rattle.ddf_write_commands.specs.Write.{HasWrittenArray, IsSequenceTold, IsWriteDone, IsWriteTold, Outcome}
use Rattle.ddf_write_commands.specs.Write.Outcome.{Broken, NotRead, Short, Taken, Unfit}
use Rattle.ddf_rebuild_command.specs.Asked.{rebuild_request}
use Rattle.ddf_rebuild_command.specs.Rebuilt.{IsRebuildDone, IsRebuiltIn}
use Rattle.ddf_rebuild_command.specs.Rounds.{steps_of as steps_of_rounds}
use Rattle.ddf_history_memory.specs.Histories.{GoesWell}
use Rattle.ddf_history_memory.proofs.Slots.{before_told}
use Rattle.ddf_data_calls.specs.Calls.{MayWish}
use Rattle.ddf_data_calls.proofs.Wished.{wish_may}
use Rattle.ddf_data_events.specs.Calls.{ChangeCall}
use Rattle.ddf_data_events.specs.Calls.Call.{Changes, Reads, Rebuilds, Resyncs, Writes}
use Rattle.ddf_data_events.specs.Moments.{Moment}
use Rattle.ddf_data_life.specs.Histories.{CallOn, FindsOn, exit_on, read_as}
use Rattle.ddf_data_life.proofs.Calls.{finds}
use Rattle.ddf_data_lives.specs.Sparing.{FailsNot}
use Rattle.ddf_data_lives.specs.Standing.{Behind, KeepsDisk, Stands, Turn}
use Rattle.ddf_data_lives.specs.Standing.Turn.{Ended, Unplugged}
use Rattle.ddf_data_lives.proofs.Keeping.{keeps_on}
use Rattle.ddf_data_lives.proofs.Standing.{follows, member, unread}
use Rattle.ddf_exercise.specs.declared.steps.Step.{Step}
use Rattle.ddf_exercise.specs.declared.steps.Step.TheVariants as steps
use Rattle.ddf_exercise.specs.declared.draws.Fill.{Fill}
use Rattle.ddf_exercise_life.specs.Lived.{IsTurnOf}
use Rattle.ddf_exercise_life.proofs.Told.{change_done, closes_other, creation_spares, spare_spares}

not_ok : (sequence : ℕ) (failure : Failure) → ◌≡◌ {A = Result ℕ Failure} (Ok sequence) (Err failure) → ⊥
not_ok sequence failure is = cc

ample : (outcome : Result ℕ Failure) (sequence : ℕ) → outcome ≡ Ok sequence → outcome ≡ Err Memory → ⊥
ample outcome sequence is memory = not_ok sequence Memory (sym is ∙ memory)

asked_by : (found : GroupValue) (timestamp : ℕ) (answer : Result (Option Change) Refusal) (steps_are : List GroupStep) → steps_asked found timestamp (at_most_one answer) ≡ Ok steps_are
    → (asked : Option Change) × (answer ≡ Ok asked)
asked_by found timestamp (Ok asked) steps_are is = (asked, refl)
asked_by found timestamp (Err refusal) steps_are is = absurd cc

module _ (group : List ℕ) (kept : ℕ) (disk : Disk) where
  -- A step of a life was made: from this moment on to another one, whose bay is this.
  pub record Made (step : Step) (old : Moment group MemoryBay) (bay : MemoryBay) : Type 0 where
    pub turn : Turn group kept disk old
    pub is_of : IsTurnOf group kept disk step turn
    pub next : Moment group MemoryBay
    pub comes : Behind group kept disk old turn next
    pub next_stands : Stands group kept disk next
    pub is_bay : next.bay ≡ bay

  module _ (old : Moment group MemoryBay) (stands : Stands group kept disk old) where
    by_call : (step : Step) (call : CallOn group old) (well : GoesWell old.bay (exit_on group old call)) (told : (disks_of (exit_on group old call)).tells_left) → FailsNot group disk old call
        → ((keeps : KeepsDisk group kept disk old call) → IsTurnOf group kept disk step (Ended call well told keeps)) → Made step old (exit_on group old call)
    by_call step call well told spares is_of =
        let keeps = keeps_on group kept disk old stands call well told spares in
        let on = follows group kept disk old stands (Ended call well told keeps) in
        record { turn = Ended call well told keeps; is_of = is_of keeps; next = on.next; comes = on.behind_it; next_stands = on.next_stands; is_bay = on.behind_it.is_bay }

    -- Another slot that is unplugged is a turn.
    pub unplug_made : (slot : ℕ) (bay : MemoryBay) → state_of bay ≡ without (state_of old.bay) slot → ((disks_of bay).gone kept → ⊥) → Made (steps.Unplug slot) old bay
    unplug_made slot bay is plugged =
        let on = follows group kept disk old stands (Unplugged bay slot is plugged) in
        record { turn = Unplugged bay slot is plugged; is_of = refl; next = on.next; comes = on.behind_it; next_stands = on.next_stands; is_bay = on.behind_it.is_bay }

    module _ (exit : MemoryBay) (well : GoesWell old.bay exit) (told : (disks_of exit).tells_left) (answer : Answer) (zero : answer.status ≡ 0) where
      abbrev work : Work MemoryBay
      work = work_of (Unit {0}) (disks_of old.bay) (disks_of exit)

      -- What it took is what the history admits.
      abbrev found_by : {timestamp : ℕ} {request : Request} {done : Bool} (taken : TakesGroup work (Some group) timestamp request done) → AreOut (disks_of old.bay) taken.left
          → (found : GroupValue) → group_of taken.newest (Some group) ≡ Ok found → FindsOn group old taken.left taken.newest
      found_by taken out found is_found =
          finds group old stands.data_history exit (member group kept disk old stands (before_told old.bay exit well told)) well told taken.left taken.every_slot taken.failed (unread group kept disk old stands taken.left taken.every_slot out) taken.newest found is_found

      -- ---- changes of the group

      changed_in : (timestamp : ℕ) (request : Request) (sequence : ℕ) (meaning : Result GroupValue Assembly) → IsChangedIn work timestamp request meaning (Ok sequence)
          → (found : GroupValue) × (meaning ≡ Ok found) × (steps_are : List GroupStep) × (steps_of found timestamp request ≡ Ok steps_are)
      changed_in timestamp request sequence (Ok found) done = (found, refl, done.steps, done.are_asked)
      changed_in timestamp request sequence (Err fault) done = absurd (⊎_elim (not_ok sequence (failure_of fault)) (not_ok sequence Memory) done.0)

      module _ (step : Step) (stamp : Stamp) (slots timestamp : ℕ) (wish : Wish) where
        -- no change of this wish fails the disk,
        abbrev SparesDisk : Type 0
        SparesDisk =
            (config : Configuration) (seats : List Seat) (linux : List ℕ) (asked : Option Change) → request_of slots config seats linux stamp wish ≡ Ok asked → (change : Change) → asked ≡ Some change
            → is_among (lost_by change) disk.reference ≡ false

        -- it may be asked for,
        abbrev MayBeAsked : Type 0
        MayBeAsked = (config : Configuration) (seats : List Seat) (image : Image) → MayWish config seats stamp image old.promises wish

        -- and a call that changes the group is the turn of this step.
        abbrev IsItsTurn : Type 0
        IsItsTurn =
            (call : ChangeCall {tells = Unit {0}} tt disks_of (Unit {0}) read_as group old) (its_well : GoesWell old.bay call.exit) (its_told : (disks_of call.exit).tells_left)
            (keeps : KeepsDisk group kept disk old (Changes call)) → is_done call.outcome ≡ true → IsTurnOf group kept disk step (Ended (Changes call) its_well its_told keeps)

        changed_made : (linux : List ℕ) (sequence : ℕ) (outcome : Result ℕ Failure) → outcome ≡ Ok sequence → HasChanged work (Some group) timestamp (request_for slots stamp wish linux) outcome
            → SparesDisk → MayBeAsked → IsItsTurn → Made step old exit
        changed_made linux sequence outcome ok has spares may is_of =
            let request : Request = request_for slots stamp wish linux in
            let at = changed_in timestamp request sequence (group_of has.taken.newest (Some group))
            (subst (λ (some : Result ℕ Failure). IsChangedIn work timestamp request (group_of has.taken.newest (Some group)) some) ok has.gives) in
            let asked = asked_by at.0 timestamp (request_of slots (config_recovered at.0) at.0.seats linux stamp wish) at.2 at.3 in
            let call : ChangeCall {tells = Unit {0}} tt disks_of (Unit {0}) read_as group old = record {
              exit = exit;
              named = Some group;
              timestamp = timestamp;
              request = request;
              outcome = outcome;
              changed = has;
              finds = found_by has.taken (has.gone (ample outcome sequence ok)) at.0 at.1;
              steps = at.2;
              are_asked = at.3;
              change = asked.0;
              is_change = ap at_most_one asked.1;
              may = λ image left. wish_may (config_recovered at.0) at.0.seats linux stamp image old.promises slots wish asked.0 asked.1 (may (config_recovered at.0) at.0.seats image);
            } in
            by_call step (Changes call) well told (λ change named. spares (config_recovered at.0) at.0.seats linux asked.0 asked.1 change named) (λ keeps. is_of call well told keeps (ap is_done ok))

        change_made : IsWished work (Some group) timestamp (request_for slots stamp wish) answer → SparesDisk → MayBeAsked → IsItsTurn → Made step old exit
        change_made done spares may is_of =
            let ok = change_done done.outcome answer done.ends zero in
            changed_made done.wished.linux ok.0 done.outcome ok.1 done.wished.has spares may is_of

      pub create_made : (stamp : Stamp) (slots timestamp : ℕ) (creation : Creation) → ((guid : List ℕ) → old.promises guid ≡ None)
          → IsWished work (Some group) timestamp (request_for slots stamp (wishes.Create creation)) answer → Made steps.Create old exit
      create_made stamp slots timestamp creation nothing done =
          change_made steps.Create stamp slots timestamp (wishes.Create creation) done
          (λ config seats linux asked is change named. creation_spares config seats linux stamp slots disk.reference creation asked is change named)
          (λ config seats image. nothing (new_array_guid config stamp)) (λ call its_well its_told keeps done. done)

      pub spare_made : (stamp : Stamp) (slots timestamp slot : ℕ) (word : SpareWord) → IsWished work (Some group) timestamp (request_for slots stamp (wishes.Spare slot word)) answer
          → Made (steps.Spare slot) old exit
      spare_made stamp slots timestamp slot word done =
          change_made (steps.Spare slot) stamp slots timestamp (wishes.Spare slot word) done
          (λ config seats linux asked is change named. spare_spares config seats linux stamp slots disk.reference slot word asked is change named)
          (λ config seats image. tt) (λ call its_well its_told keeps done. done)

      -- ---- a resync

      resynced_in : (timestamp : ℕ) (word : List ℕ) (sequence : ℕ) (meaning : Result GroupValue Assembly) → IsWorkedIn resyncing work timestamp word (resync_request word) meaning (Ok sequence)
          → (found : GroupValue) × (meaning ≡ Ok found) × IsPlanned found timestamp word (resync_request word)
      resynced_in timestamp word sequence (Ok found) done = (found, refl, done.plan)
      resynced_in timestamp word sequence (Err fault) done = absurd (⊎_elim (not_ok sequence (failure_of fault)) (not_ok sequence Memory) done.0)

      pub resync_made : (timestamp : ℕ) (word : List ℕ) → IsResyncDone work (Some group) timestamp word answer → Made steps.Resync old exit
      resync_made timestamp word done =
          let ok = change_done done.outcome answer done.ends zero in
          let at = resynced_in timestamp word ok.0 (group_of done.has.taken.newest (Some group))
          (subst (λ (outcome : Result ℕ Failure). IsWorkedIn resyncing work timestamp word (resync_request word) (group_of done.has.taken.newest (Some group)) outcome) ok.1 done.has.gives) in
          by_call steps.Resync (Resyncs (record {
            exit = exit;
            named = Some group;
            timestamp = timestamp;
            word = word;
            outcome = done.outcome;
            resynced = done.has;
            finds = found_by done.has.taken (done.has.gone (ample done.outcome ok.0 ok.1)) at.0 at.1;
            plan = at.2;
            counts = true;
          })) well told tt (λ keeps. ap is_done ok.1)

      -- ---- a rebuild

      rebuilt_in : (timestamp : ℕ) (word : List ℕ) (sequence : ℕ) (meaning : Result GroupValue Assembly) → IsRebuiltIn work timestamp word meaning (Ok sequence)
          → (found : GroupValue) × (meaning ≡ Ok found) × (steps_are : List GroupStep) × (steps_of found timestamp (rebuild_request word (linux_members found)) ≡ Ok steps_are)
      rebuilt_in timestamp word sequence (Ok found) (inl rebuilt) = (found, refl, rebuilt.plan.first ++ steps_of_rounds rebuilt.plan.rounds, rebuilt.plan.are_asked)
      rebuilt_in timestamp word sequence (Ok found) (inr idle) = (found, refl, idle.recovered.steps, idle.recovered.are_asked)
      rebuilt_in timestamp word sequence (Err fault) done = absurd (⊎_elim (not_ok sequence (failure_of fault)) (not_ok sequence Memory) done.0)

      pub rebuild_made : (timestamp : ℕ) (word : List ℕ) → IsRebuildDone work (Some group) timestamp word answer → Made steps.Rebuild old exit
      rebuild_made timestamp word done =
          let ok = change_done done.outcome answer done.ends zero in
          let at = rebuilt_in timestamp word ok.0 (group_of done.has.taken.newest (Some group))
          (subst (λ (outcome : Result ℕ Failure). IsRebuiltIn work timestamp word (group_of done.has.taken.newest (Some group)) outcome) ok.1 done.has.gives) in
          by_call steps.Rebuild (Rebuilds (record {
            exit = exit;
            named = Some group;
            timestamp = timestamp;
            word = word;
            outcome = done.outcome;
            rebuilt = done.has;
            finds = found_by done.has.taken (done.has.gone (ample done.outcome ok.0 ok.1)) at.0 at.1;
            steps = at.2;
            are_asked = at.3;
          })) well told tt (λ keeps. ap is_done ok.1)

      -- ---- a write

      module _ (fill : Fill) (before after : SourceState) (timestamp : ℕ) (word : List ℕ) where
        not_unfit : (sectors : List (List ℕ)) (sequence : ℕ) → ◌≡◌ {A = Outcome} (Taken sectors (Ok sequence)) (Unfit Memory) → ⊥
        not_unfit sectors sequence is = cc

        -- It was cut by no end of its input.
        all_told : (all : Bool) (blocks sequence : ℕ) → IsSequenceTold all blocks sequence answer → all ≡ true
        all_told true blocks sequence told_so = refl
        all_told false blocks sequence told_so = absurd (closes_other answer.status 7 (omega arith) told_so.ends zero)

        written_made : (outcome : Outcome) → HasWrittenArray work (input_of (Unit {0}) before after) (Some group) timestamp word fill.start fill.count outcome → IsWriteTold fill.count outcome answer
            → Made (steps.Write fill) old exit
        written_made (Taken sectors (Ok sequence)) has ends =
            let accepted = has.gives.1 in
            let all : length sectors ≡ fill.count = eqb-true (length sectors) fill.count (all_told (length sectors == fill.count) (length sectors) sequence ends) in
            by_call (steps.Write fill) (Writes (record {
              exit = exit;
              source_old = before;
              source_new = after;
              named = Some group;
              timestamp = timestamp;
              word = word;
              start = fill.start;
              count = fill.count;
              sectors = sectors;
              outcome = Taken sectors (Ok sequence);
              given = refl;
              wrote = has;
              finds = found_by has.taken (has.gone (not_unfit sectors sequence)) accepted.found accepted.is_found;
              plan = accepted.plan;
            })) well told tt (λ keeps. (refl, all, refl))
        written_made (Taken sectors (Err failure)) has ends = absurd (no_failure failure answer ends zero)
        written_made (Broken sectors) has ends = absurd (let six = ends.0 in omega (arith, six, zero))
        written_made (Short least) has ends = absurd (no_failure (Refused (ShortPayload least)) answer ends zero)
        written_made NotRead has ends = absurd (let six = ends.0 in omega (arith, six, zero))
        written_made (Unfit failure) has ends = absurd (no_failure failure answer ends zero)

        pub write_made : IsWriteDone work (input_of (Unit {0}) before after) (Some group) timestamp word fill.start fill.count answer → Made (steps.Write fill) old exit
        write_made done = written_made done.outcome done.has done.ends

      -- ---- a scrub

      pub scrub_made : ReadsOnly (disks_of old.bay) (disks_of exit) → Made steps.Scrub old exit
      scrub_made reads = by_call steps.Scrub (Reads exit reads) well told tt (λ keeps. tt)
