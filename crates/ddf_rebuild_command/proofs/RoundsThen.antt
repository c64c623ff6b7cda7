-- A round of a rebuild and those behind it.
use Rattle.std.proofs.Common.{◌≡◌, ℕ, zero, suc, ◌≤◌, Bool, true, false, List, [], ◌∷◌, take, refl, sym, ap, subst, ◌∙◌, inl, inr, ⊎_elim, arith}
use Rattle.std.proofs.lemmas.Bool.{false≢true}
use Rattle.ddf_bytes.proofs.Common.{rose_behind}
use Rattle.ddf_bay.specs.Moments.{Keeps, StopsLeave}
use Rattle.ddf_bay.specs.Sectors.{Image}
use Rattle.ddf_bay.specs.State.{BayState}
use Rattle.ddf_bay.proofs.Steps.{stops_start, stops_then, stops_weaken, rose_since}
use Rattle.ddf_array.specs.Volume.{Volume}
use Rattle.ddf_cells.specs.Touching.{GoesBetween}
use Rattle.ddf_config.specs.declared.seat.Seat.{Seat}
use Rattle.ddf_repair.specs.declared.first.Target.{Target}
use Rattle.ddf_update.specs.Group.{IsOneOf}
use Rattle.ddf_read.specs.Reading.{Failed}
use Rattle.ddf_history.specs.Groups.{groups}
use Rattle.ddf_history.specs.Issued.{Past}
use Rattle.ddf_history.specs.Promise.{IsKept}
use Rattle.ddf_history.specs.Scenes.{scene_of}
use Rattle.ddf_steps.specs.Committed.{slots_of}
use Rattle.ddf_seats.specs.Group.{GroupValue}
use Rattle.ddf_recovery.specs.Ready.{ReadyValue}
use Rattle.ddf_history_steps.specs.Kept.{is_slot}
use Rattle.ddf_history_steps.specs.Steps.{StandsReady}
use Rattle.ddf_answer.specs.declared.failure.Failure.{Failure}
use Rattle.ddf_answer.specs.declared.failure.Failure.TheVariants.{Conflict, Disk, Memory, Refused, Split}
use Rattle.ddf_group_commands.specs.Change.{last_sequence}
use Rattle.ddf_group_commands.specs.Others.{LeavesOthers}
use Rattle.ddf_write_commands.proofs.Arrays.{goes_then}
use Rattle.ddf_bay.specs.Told.{IsTold}
use Rattle.ddf_rebuild_command.specs.Filled.{AreFilled, EndsAmidst, GoesFilling, HasComeIn, IsAmidst, IsFillFault, IsLeftIn, ShowsIn, behind_rounds, made}
use Rattle.ddf_rebuild_command.specs.Rounds.{AreRounds, Round, steps_of}
use Rattle.ddf_rebuild_command.specs.Stages.{Stage}
use Rattle.ddf_rebuild_command.specs.Stages.Stage.{Filling, Noting, Opening}
use Rattle.ddf_rebuild_command.specs.Standing.{AddsNothing, Stands}
use Rattle.ddf_rebuild_command.proofs.RoundsMore.{left_more, none_left_more, rounds_from, rounds_more}

-- ---- none

none_goes_between : {D : Type 0} (state : BayState D) → GoesBetween state state
none_goes_between state = record { goes_on = λ bay leads. leads; same_sizes = refl; reads_rise = λ s. omega arith; writes_rise = λ s. omega arith }

module _ {D : Type 0} (tells : Type 0) (state : BayState D) (volume : Volume) (target : Target) (from : ℕ) (found : GroupValue) (ready : ReadyValue) where
  -- Without a round nothing is done.
  pub none_goes : GoesFilling tells state state volume target from [] found ready true
  none_goes = record {
    goes = none_goes_between state;
    told = λ told. told;
    beside = λ told. stops_start state _;
    leaves = λ told. stops_start state _;
    any_moment = λ told group past at. stops_start state _;
    ends = λ told left_told group past at. inr (refl, λ s l bytes left. left);
  }

  pub none_filled : Stands tells state found ready → AreFilled tells state state volume target from [] found ready found ready
  none_filled stands = record {
    stands = stands;
    same_seats = refl;
    is_last = refl;
    are_done = λ told s l. refl;
    others_left = λ told s l bytes other left. left;
    at_end = λ told group past at left_told. at;
  }

-- ---- a stage of the first round is one of all

module _ (round : Round) (rest : List Round) where
  module _ {D : Type 0} (failed : ℕ → Type 0) (told : Type 0) (start : BayState D) (slots : List ℕ) (volume : Volume) (target : Target) (from : ℕ) where
    one_left : (stage : Stage) (image : Image) → IsLeftIn failed told start slots volume target from (round ∷ []) stage image → IsLeftIn failed told start slots volume target from (round ∷ rest) stage image
    one_left Opening image left = left
    one_left (Filling zero) image left =
        record { before = left.before; rounds_done = left.rounds_done; round = left.round; is_round = left.is_round; is_left = left.is_left }
    one_left (Filling (suc number)) image left = let none = left.is_round in absurd cc
    one_left (Noting zero) image left = record {
      before = left.before;
      rounds_done = left.rounds_done;
      round = left.round;
      is_round = left.is_round;
      filled = left.filled;
      is_filled = left.is_filled;
      is_left = left.is_left;
    }
    one_left (Noting (suc number)) image left = let none = left.is_round in absurd cc

    one_come : (stage : Stage) (image : Image) → IsLeftIn failed told start slots volume target from (round ∷ []) stage image → (group : List ℕ) (past now : Past (groups group))
        → HasComeIn group past (round ∷ []) stage now → HasComeIn group past (round ∷ rest) stage now
    one_come Opening image left group past now come = come
    one_come (Filling zero) image left group past now come = come
    one_come (Filling (suc number)) image left group past now come = let none = left.is_round in absurd cc
    one_come (Noting zero) image left group past now come = come
    one_come (Noting (suc number)) image left group past now come = let none = left.is_round in absurd cc

  -- and one of the others comes behind it
  abbrev later : Stage → Stage
  later Opening = Opening
  later (Filling number) = Filling (suc number)
  later (Noting number) = Noting (suc number)

  later_come : (stage : Stage) (group : List ℕ) (past now : Past (groups group)) → HasComeIn group (made group past round.step.config) rest stage now
      → HasComeIn group past (round ∷ rest) (later stage) now
  later_come Opening group past now come = come
  later_come (Filling number) group past now come = come
  later_come (Noting number) group past now come = come

  -- the rounds before it are done behind the first
  module _ (failed : ℕ → Type 0) (told : Type 0) (sizes : List ℕ) (volume : Volume) (target : Target) (from : ℕ) (before between : Image) (first : AreRounds failed told sizes volume target from before (round ∷ []) between) where
    behind_first : (others : List Round) (after : Image) → AreRounds failed told sizes volume target round.row between others after → AreRounds failed told sizes volume target from before (round ∷ others) after
    behind_first others after done = (first.0, first.1, first.2, first.3, rounds_from failed told sizes volume target round.row between first.2 after others first.4 done)

  module _ {D : Type 0} (failed : ℕ → Type 0) (told : Type 0) (start : BayState D) (slots : List ℕ) (volume : Volume) (target : Target) (from : ℕ) (between : Image)
      (first : AreRounds failed told start.sizes volume target from start.held (round ∷ []) between) where
    later_left : (stage : Stage) (image : Image) → IsLeftIn failed told (record start { held = between }) slots volume target round.row rest stage image
        → IsLeftIn failed told start slots volume target from (round ∷ rest) (later stage) image
    later_left Opening image left = left
    later_left (Filling number) image left = record {
      before = left.before;
      rounds_done = behind_first failed told start.sizes volume target from start.held between first (take number rest) left.before left.rounds_done;
      round = left.round;
      is_round = left.is_round;
      is_left = left.is_left;
    }
    later_left (Noting number) image left = record {
      before = left.before;
      rounds_done = behind_first failed told start.sizes volume target from start.held between first (take number rest) left.before left.rounds_done;
      round = left.round;
      is_round = left.is_round;
      filled = left.filled;
      is_filled = left.is_filled;
      is_left = left.is_left;
    }

-- ---- the first failed

module _ {D : Type 0} (tells : Type 0) (old new : BayState D) (tells_new : IsTold new) (volume : Volume) (target : Target) (from : ℕ) (round : Round) (rest : List Round) (found : GroupValue)
    (ready : ReadyValue) (first : GoesFilling tells old new volume target from (round ∷ []) found ready false) where
  pub first_failed : GoesFilling tells old new volume target from (round ∷ rest) found ready false
  first_failed = record {
    goes = first.goes;
    told = first.told;
    beside = first.beside;
    leaves = λ told. stops_weaken (first.leaves told)
        (λ image at. record { stage = at.stage; is_left = one_left round rest (Failed old new) new.tells_left old (slots_of found.seats) volume target from at.stage image at.is_left; shows = tt });
    any_moment = λ told group past at. stops_weaken (first.any_moment told group past at) (λ image now. record {
      stage = now.stage;
      is_left = one_left round rest (Failed old new) new.tells_left old (slots_of found.seats) volume target from now.stage image now.is_left;
      shows = (now.shows.0, one_come round rest (Failed old new) new.tells_left old (slots_of found.seats) volume target from now.stage image now.is_left group past now.shows.0 now.shows.1, now.shows.2);
    });
    ends = λ told left_told group past at. ⊎_elim
        (λ ends. inl (record {
          stage = ends.stage;
          now = ends.now;
          has_come = one_come round rest (Failed old new) new.tells_left old (slots_of found.seats) volume target from ends.stage new.held (ends.is_left new.held (tells_new.held left_told)) group past ends.now ends.has_come;
          is_over = λ so. absurd (false≢true so);
          is_left = λ image left. one_left round rest (Failed old new) new.tells_left old (slots_of found.seats) volume target from ends.stage image (ends.is_left image left);
          all_kept = ends.all_kept;
        }))
        (λ none. let no = none.0 in absurd cc)
        (first.ends told left_told group past at);
  }

  pub first_fault : (row end : ℕ) → row ≤ end → (failure : Failure) → IsFillFault tells old new volume target from (round ∷ []) found ready row failure
      → IsFillFault tells old new volume target from (round ∷ rest) found ready end failure
  first_fault row end le (Disk slot) fault = (
    fault.0,
    ⊎_elim inl
        (λ none. inr (none_left_more (Failed old new) (Failed old new) (λ s failed. failed) volume target.element target.position from row from end slot (omega arith) le none))
        fault.1,
  )
  first_fault row end le Memory fault = absurd fault
  first_fault row end le (Refused refusal) fault = absurd fault
  first_fault row end le (Conflict i j sequence differ) fault = absurd fault
  first_fault row end le (Split i j) fault = absurd fault

-- ---- the first is done

module _ {D : Type 0} (tells : Type 0) (old middle new : BayState D) (tells_middle : IsTold middle) (tells_new : IsTold new) (volume : Volume) (target : Target) (from : ℕ) (round : Round)
    (rest : List Round) (found mid_found : GroupValue) (ready mid_ready : ReadyValue) (first : GoesFilling tells old middle volume target from (round ∷ []) found ready true)
    (filled : AreFilled tells old middle volume target from (round ∷ []) found ready mid_found mid_ready) (done : Bool)
    (last : GoesFilling tells middle new volume target round.row rest mid_found mid_ready done) where
  abbrev slots : List ℕ
  slots = slots_of found.seats

  abbrev all : List Round
  all = round ∷ rest

  before_new : (slot : ℕ) → Failed old middle slot → Failed old new slot
  before_new slot failed = rose_behind (old.failed_reads slot) (middle.failed_reads slot) (new.failed_reads slot) (first.goes.reads_rise slot) (last.goes.reads_rise slot) failed

  since_old : (slot : ℕ) → Failed middle new slot → Failed old new slot
  since_old slot failed = rose_since (old.failed_reads slot) (middle.failed_reads slot) (new.failed_reads slot) (first.goes.reads_rise slot) failed

  first_done : tells → AreRounds (Failed old new) new.tells_left old.sizes volume target from old.held (round ∷ []) middle.held
  first_done told = rounds_more (Failed old middle) (Failed old new) before_new middle.tells_left new.tells_left last.told volume target old.sizes from old.held (round ∷ []) middle.held (filled.are_done told)

  adds_now : tells → AddsNothing old middle (slots_of mid_found.seats)
  adds_now told = subst (λ (seats : List Seat). AddsNothing old middle (slots_of seats)) (sym filled.same_seats) (filled.others_left told)

  -- what a stop leaves in the first, and behind it
  first_left : (stage : Stage) (image : Image) → IsLeftIn (Failed old middle) middle.tells_left old slots volume target from (round ∷ []) stage image
      → IsLeftIn (Failed old new) new.tells_left old slots volume target from all stage image
  first_left stage image left =
      one_left round rest (Failed old new) new.tells_left old slots volume target from stage image
      (left_more (Failed old middle) (Failed old new) before_new middle.tells_left new.tells_left last.told old old refl refl slots (λ s l bytes other may. may) volume target from (round ∷ []) stage image left)

  last_left : tells → (stage : Stage) (image : Image) → IsLeftIn (Failed middle new) new.tells_left middle (slots_of mid_found.seats) volume target round.row rest stage image
      → IsLeftIn (Failed old new) new.tells_left old slots volume target from all (later round rest stage) image
  last_left told stage image left =
      let more = left_more (Failed middle new) (Failed old new) since_old new.tells_left new.tells_left (λ told. told) middle (record old { held = middle.held }) first.goes.same_sizes refl (slots_of mid_found.seats) (adds_now told) volume target round.row
      rest stage image left in
      later_left round rest (Failed old new) new.tells_left old slots volume target from middle.held (first_done told) stage image
      (subst (λ (seats : List Seat). IsLeftIn (Failed old new) new.tells_left (record old { held = middle.held }) (slots_of seats) volume target round.row rest stage image) filled.same_seats more)

  module _ (told : tells) (group : List ℕ) (past : Past (groups group)) (at : StandsReady group past old found ready) where
    abbrev mid_past : Past (groups group)
    mid_past = made group past round.step.config

    stands_mid : new.tells_left → StandsReady group mid_past middle mid_found mid_ready
    stands_mid left_told = filled.at_end told group past at (last.told left_told)

    moments_then : StopsLeave old new (IsAmidst tells old new volume target from all found ready (ShowsIn tells old new volume target from all found ready group past))
    moments_then =
        let one = first.any_moment told group past at in
        let up : middle.moment ≤ new.moment = (last.leaves told).later in
        record {
          later = let before = one.later in omega (arith, before, up);
          since = λ t image le was_left.
              ⊎_elim
              (λ earlier. ⊎_elim inl
              (λ now. inr (record {
                stage = now.stage;
                is_left = first_left now.stage image now.is_left;
                shows = (now.shows.0, one_come round rest (Failed old middle) middle.tells_left old slots volume target from now.stage image now.is_left group past now.shows.0 now.shows.1, now.shows.2);
              }))
              (one.since t image le earlier))
              (λ now. inr (record {
                stage = later round rest now.stage;
                is_left = last_left told now.stage image now.is_left;
                shows = (
                  now.shows.0,
                  later_come round rest now.stage group past now.shows.0 now.shows.1,
                  subst (λ (sizes : List ℕ). IsKept now.shows.0 (scene_of sizes image)) first.goes.same_sizes now.shows.2,
                );
              }))
              ((last.any_moment told group mid_past (stands_mid (tells_new.since t image was_left))).since t image (let before = one.later in omega (arith, le, before)) was_left);
        }

    -- where nothing came behind it
    carried : rest ≡ [] → Keeps middle.may_hold new.may_hold → new.tells_left → EndsAmidst tells old middle volume target from (round ∷ []) found ready group past true
        → EndsAmidst tells old new volume target from all found ready group past done
    carried none keeps left_told ends = record {
      stage = ends.stage;
      now = ends.now;
      has_come = one_come round rest (Failed old middle) middle.tells_left old slots volume target from ends.stage middle.held (ends.is_left middle.held (tells_middle.held (last.told left_told))) group past ends.now ends.has_come;
      is_over = λ so. ends.is_over refl ∙ ap (λ (others : List Round). behind_rounds group past (round ∷ others)) (sym none);
      is_left = λ image left. first_left ends.stage image (ends.is_left image (λ s l. keeps s l (image s l) (left s l)));
      all_kept = λ image left. rw last.goes.same_sizes (ends.all_kept image (λ s l. keeps s l (image s l) (left s l)));
    }

    ends_then : new.tells_left → EndsAmidst tells old new volume target from all found ready group past done
    ends_then left_told = ⊎_elim
        (λ ends. record {
          stage = later round rest ends.stage;
          now = ends.now;
          has_come = later_come round rest ends.stage group past ends.now ends.has_come;
          is_over = ends.is_over;
          is_left = λ image left. last_left told ends.stage image (ends.is_left image left);
          all_kept = ends.all_kept;
        })
        (λ none. ⊎_elim (λ ends. carried none.0 none.1 left_told ends) (λ no. let is = no.0 in absurd cc) (first.ends told (last.told left_told) group past at))
        (last.ends told left_told group mid_past (stands_mid left_told))

  pub goes_behind : GoesFilling tells old new volume target from all found ready done
  goes_behind = record {
    goes = goes_then old middle new first.goes last.goes;
    told = λ left_told. first.told (last.told left_told);
    beside = λ told.
        stops_then (first.beside told) (subst (λ (seats : List Seat). LeavesOthers middle new (slots_of seats)) filled.same_seats (last.beside told))
        (λ image may s l other. filled.others_left told s l (image s l) other (may s l other));
    leaves = λ told.
        stops_then (stops_weaken (first.leaves told) (λ image now. record { stage = now.stage; is_left = first_left now.stage image now.is_left; shows = tt })) (last.leaves told)
        (λ image now. record { stage = later round rest now.stage; is_left = last_left told now.stage image now.is_left; shows = tt });
    any_moment = λ told group past at. moments_then told group past at;
    ends = λ told left_told group past at. inl (ends_then told group past at left_told);
  }

  -- So are all.
  pub filled_behind : (now_found : GroupValue) (now_ready : ReadyValue) → AreFilled tells middle new volume target round.row rest mid_found mid_ready now_found now_ready
      → AreFilled tells old new volume target from all found ready now_found now_ready
  filled_behind now_found now_ready others = record {
    stands = others.stands;
    same_seats = others.same_seats ∙ filled.same_seats;
    is_last = others.is_last ∙ ap (λ (n : ℕ). last_sequence n (steps_of rest)) filled.is_last;
    are_done = λ told.
        behind_first round rest (Failed old new) new.tells_left old.sizes volume target from old.held middle.held (first_done told) rest new.held
        (subst (λ (sizes : List ℕ). AreRounds (Failed old new) new.tells_left sizes volume target round.row middle.held rest new.held) first.goes.same_sizes
        (rounds_more (Failed middle new) (Failed old new) since_old new.tells_left new.tells_left (λ told. told) volume target middle.sizes round.row middle.held rest new.held (others.are_done told)));
    others_left = λ told s l bytes other left.
        filled.others_left told s l bytes other
        (others.others_left told s l bytes (subst (λ (seats : List Seat). is_slot (slots_of seats) s ≡ false) (sym filled.same_seats) other) left);
    at_end = λ told group past at left_told. others.at_end told group (made group past round.step.config) (stands_mid told group past at left_told) left_told;
  }

  -- One of the others failed.
  pub fault_behind : from ≤ round.row → (end : ℕ) (failure : Failure) → IsFillFault tells middle new volume target round.row rest mid_found mid_ready end failure
      → IsFillFault tells old new volume target from all found ready end failure
  fault_behind le end (Disk slot) fault = (
    subst (λ (seats : List Seat). IsOneOf (slots_of seats) slot) filled.same_seats fault.0,
    ⊎_elim (λ wrote. inl (rose_since (old.failed_writes slot) (middle.failed_writes slot) (new.failed_writes slot) (first.goes.writes_rise slot) wrote))
        (λ none. inr (none_left_more (Failed middle new) (Failed old new) since_old volume target.element target.position round.row end from end slot le (omega arith) none))
        fault.1,
  )
  fault_behind le end Memory fault = absurd fault
  fault_behind le end (Refused refusal) fault = absurd fault
  fault_behind le end (Conflict i j sequence differ) fault = absurd fault
  fault_behind le end (Split i j) fault = absurd fault
