-- The round of a group's next step and those of the steps behind it.
use Rattle.std.proofs.Common.{◌≡◌, ℕ, suc, ◌≤◌, Bool, true, false, List, [], ◌∷◌, length, Option, ap, ◌∙◌, arith}
use Rattle.ddf_bay.specs.State.{BayState}
use Rattle.ddf_array.specs.Volume.{Volume}
use Rattle.ddf_config.specs.declared.seat.Seat.{Seat}
use Rattle.ddf_repair.specs.declared.first.Target.{Target}
use Rattle.ddf_recovery.specs.Committed.{left_behind}
use Rattle.ddf_seats.specs.Group.{GroupValue}
use Rattle.ddf_steps.specs.Ready.{ReadyStep}
use Rattle.ddf_recovery.specs.Ready.{ReadyValue}
use Rattle.ddf_answer.specs.declared.failure.Failure.{Failure}
use Rattle.ddf_bay.specs.Told.{IsTold}
use Rattle.ddf_write_commands.proofs.Costs.{with_steps}
use Rattle.ddf_rebuild_command.specs.Filled.{AreFilled, CanFill, GoesFilling, IsFillFault, RiseTo, rounds_in}
use Rattle.ddf_rebuild_command.proofs.RoundsThen as rounds_then

-- ---- rows that can be filled

rise_end : (end from : ℕ) (rows : List ℕ) → RiseTo end from rows → from ≤ end
rise_end end from [] rise = rise
rise_end end from (row ∷ rows) rise = let first = rise.0 in let last = rise_end end row rows rise.1 in omega (arith, first, last)

module _ (sizes : List ℕ) (seats : List Seat) (volume : Volume) (target : Target) (end from row : ℕ) (later : List ℕ) (can : CanFill sizes seats volume target end from (row ∷ later)) where
  -- The first can,
  pub can_first : CanFill sizes seats volume target end from (row ∷ [])
  can_first = record {
    config = can.config;
    guid = can.guid;
    is_view = can.is_view;
    fit = can.fit;
    apart = can.apart;
    unmarked = can.unmarked;
    is_within = can.is_within;
    is_out = can.is_out;
    rise = (can.rise.0, rise_end end row later can.rise.1);
    ends = can.ends;
  }

  -- and those behind it.
  pub can_later : CanFill sizes seats volume target end row later
  can_later = record {
    config = can.config;
    guid = can.guid;
    is_view = can.is_view;
    fit = can.fit;
    apart = can.apart;
    unmarked = can.unmarked;
    is_within = can.is_within;
    is_out = can.is_out;
    rise = can.rise.1;
    ends = can.ends;
  }

  pub row_end : row ≤ end
  row_end = rise_end end row later can.rise.1

  pub from_row : from ≤ row
  from_row = can.rise.0

-- ---- their rounds

module _ {D : Type 0} (tells : Type 0) (volume : Volume) (target : Target) (from row : ℕ) (later : List ℕ) (found : GroupValue) (recovery : Option ReadyStep) where
  abbrev First : List ReadyStep → (old new : BayState D) → Bool → Type 0
  First steps old new done = GoesFilling tells old new volume target from (rounds_in (row ∷ []) steps) found (with_steps recovery steps) done

  abbrev All : List ReadyStep → (old new : BayState D) → Bool → Type 0
  All steps old new done = GoesFilling tells old new volume target from (rounds_in (row ∷ later) steps) found (with_steps recovery steps) done

  module _ (old new : BayState D) (tells_new : IsTold new) where
    -- The first failed.
    pub first_failed : (steps : List ReadyStep) → length steps ≡ suc (length later) → First steps old new false → All steps old new false
    first_failed [] many first = absurd (omega (arith, many))
    first_failed (one ∷ others) many first =
        rounds_then.first_failed tells old new tells_new volume target from (record { row = row; step = one.step }) (rounds_in later others) found (with_steps recovery (one ∷ others)) first

    pub first_fault : (steps : List ReadyStep) → length steps ≡ suc (length later) → First steps old new false → (end : ℕ) → row ≤ end → (failure : Failure)
        → IsFillFault tells old new volume target from (rounds_in (row ∷ []) steps) found (with_steps recovery steps) row failure
        → IsFillFault tells old new volume target from (rounds_in (row ∷ later) steps) found (with_steps recovery steps) end failure
    first_fault [] many first end le failure fault = absurd (omega (arith, many))
    first_fault (one ∷ others) many first end le failure fault =
        rounds_then.first_fault tells old new tells_new volume target from (record { row = row; step = one.step }) (rounds_in later others) found (with_steps recovery (one ∷ others)) first row end le failure fault

  -- It is done.
  module _ (old middle new : BayState D) (tells_middle : IsTold middle) (tells_new : IsTold new) (mid_found : GroupValue) (done : Bool) where
    abbrev Behind : List ReadyStep → ReadyValue
    Behind steps = left_behind (with_steps recovery steps)

    abbrev Last : List ReadyStep → Type 0
    Last steps = GoesFilling tells middle new volume target row (rounds_in later (Behind steps).steps) mid_found (Behind steps) done

    abbrev Done : List ReadyStep → Type 0
    Done steps = AreFilled tells old middle volume target from (rounds_in (row ∷ []) steps) found (with_steps recovery steps) mid_found (Behind steps)

    pub goes_behind : (steps : List ReadyStep) → length steps ≡ suc (length later) → First steps old middle true → Done steps → Last steps → All steps old new done
    goes_behind [] many first filled last = absurd (omega (arith, many))
    goes_behind (one ∷ others) many first filled last =
        rounds_then.goes_behind tells old middle new tells_middle tells_new volume target from (record { row = row; step = one.step }) (rounds_in later others) found mid_found
        (with_steps recovery (one ∷ others)) (with_steps recovery others) first filled done last

    pub filled_behind : (steps : List ReadyStep) → length steps ≡ suc (length later) → First steps old middle true → Done steps → Last steps → (now_found : GroupValue) (now_ready : ReadyValue)
        → AreFilled tells middle new volume target row (rounds_in later (Behind steps).steps) mid_found (Behind steps) now_found now_ready
        → AreFilled tells old new volume target from (rounds_in (row ∷ later) steps) found (with_steps recovery steps) now_found now_ready
    filled_behind [] many first filled last now_found now_ready others_filled = absurd (omega (arith, many))
    filled_behind (one ∷ others) many first filled last now_found now_ready others_filled =
        rounds_then.filled_behind tells old middle new tells_middle tells_new volume target from (record { row = row; step = one.step }) (rounds_in later others) found mid_found
        (with_steps recovery (one ∷ others)) (with_steps recovery others) first filled done last now_found now_ready others_filled

    pub fault_behind : (steps : List ReadyStep) → length steps ≡ suc (length later) → First steps old middle true → Done steps → Last steps → from ≤ row → (end : ℕ) (failure : Failure)
        → IsFillFault tells middle new volume target row (rounds_in later (Behind steps).steps) mid_found (Behind steps) end failure
        → IsFillFault tells old new volume target from (rounds_in (row ∷ later) steps) found (with_steps recovery steps) end failure
    fault_behind [] many first filled last le end failure fault = absurd (omega (arith, many))
    fault_behind (one ∷ others) many first filled last le end failure fault =
        rounds_then.fault_behind tells old middle new tells_middle tells_new volume target from (record { row = row; step = one.step }) (rounds_in later others) found mid_found
        (with_steps recovery (one ∷ others)) (with_steps recovery others) first filled done last le end failure fault

-- Behind the first step there is one for each of the other rows.
pub many_behind : (steps : List ReadyStep) (later : List ℕ) (recovery : Option ReadyStep) (behind : ReadyValue) → behind ≡ left_behind (with_steps recovery steps) → length steps ≡ suc (length later)
    → length behind.steps ≡ length later
many_behind [] later recovery behind is many = absurd (omega (arith, many))
many_behind (one ∷ others) later recovery behind is many = ap (λ (ready : ReadyValue). length ready.steps) is ∙ omega (arith, many)
