-- What a resync promises as a work on the blocks of an array.
use Rattle.std.proofs.Common.{◌≡◌, ◌⊎◌, ℕ, ◌+◌, ◌<◌, ◌≤◌, Bool, true, false, List, map, Some, if◌then◌else◌, inl, inr, ⊎_elim, refl}
use Rattle.ddf_bay.specs.Moments.{StopsLeave}
use Rattle.ddf_bay.specs.Sectors.{Image}
use Rattle.ddf_bay.specs.State.{BayState}
use Rattle.ddf_bay.proofs.Steps.{stops_weaken}
use Rattle.ddf_config.specs.declared.seat.Seat.{Seat}
use Rattle.ddf_array.specs.Sources.{copies, copy, sources}
use Rattle.ddf_array.specs.Values.{bytes_at}
use Rattle.ddf_array.specs.Volume.{Volume}
use Rattle.ddf_array.specs.Within.{is_redundant}
use Rattle.ddf_read.specs.Reading.{Failed}
use Rattle.ddf_read.proofs.Tries.{IsGivenBy-wider, NotRead-wider}
use Rattle.ddf_cells.specs.CellSources.{cell_sources}
use Rattle.ddf_cells.specs.Touching.{GoesBetween}
use Rattle.ddf_resync.specs.Resyncing.{AddsResynced, HasResynced, IsAmongResynced, IsLeftByResync, IsStopped, IsUntouched, MayResync, NoneLeftOfBlock, NoneLeftOfRow}
use Rattle.ddf_resync.specs.Several.{resync_sectors}
use Rattle.ddf_update.specs.Group.{IsOneOf}
use Rattle.ddf_steps.specs.Committed.{slots_of}
use Rattle.ddf_history_steps.specs.BlockFloors.{StaySettled}
use Rattle.ddf_answer.specs.Call.{work_of}
use Rattle.ddf_answer.specs.Costs.{WritesAtMost}
use Rattle.ddf_answer.proofs.Costs.{none_written}
use Rattle.ddf_write_commands.specs.Resync.{resyncing}
use Rattle.ddf_write_commands.proofs.Works.{HasStopped, HasWorked, IsSteady}

-- ---- more failures, and more that may be left

module _ (P Q : ℕ → Type 0) (more : (slot : ℕ) → P slot → Q slot) (volume : Volume) where
  done_more : (before image : Image) → HasResynced P volume before image → HasResynced Q volume before image
  done_more before image is = record {
    redundant = is.redundant;
    given = λ block i one at. IsGivenBy-wider more before (map copy (copies volume block)) (bytes_at image one) (is.given block i one at);
  }

  block_more : (slot : ℕ) → NoneLeftOfBlock P volume slot → NoneLeftOfBlock Q volume slot
  block_more slot none = record { block = none.block; below = none.below; several = none.several; none_left = NotRead-wider more (sources volume none.block) (Some slot) none.none_left }

  row_more : (slot : ℕ) → NoneLeftOfRow P volume slot → NoneLeftOfRow Q volume slot
  row_more slot none = record {
    element = none.element;
    part = none.part;
    is_part = none.is_part;
    sector = none.sector;
    count = none.count;
    keeps = none.keeps;
    inside = none.inside;
    for_sum = record {
      cell = none.for_sum.cell;
      is_in = none.for_sum.is_in;
      number = none.for_sum.number;
      other = none.for_sum.other;
      is_data = none.for_sum.is_data;
      none_left = NotRead-wider more (cell_sources volume none.element none.part (none.sector + none.for_sum.cell) none.for_sum.other) (Some slot) none.for_sum.none_left;
    };
  }

  left_more : (slot : ℕ) → NoneLeftOfBlock P volume slot ⊎ NoneLeftOfRow P volume slot → NoneLeftOfBlock Q volume slot ⊎ NoneLeftOfRow Q volume slot
  left_more slot none = ⊎_elim (λ block. inl (block_more slot block)) (λ row. inr (row_more slot row)) none

pub resync_steady : IsSteady resyncing
resync_steady = record {
  more_done = λ P Q more volume before image is. done_more P Q more volume before image is;
  more_left = λ P Q more volume slot none. left_more P Q more volume slot none;
  left_failed = λ P volume slot none. ⊎_elim (λ block. block.none_left.this_failed) (λ row. row.for_sum.none_left.this_failed) none;
  among_first = λ volume before may image left s l. inl (left s l);
  among_more = λ volume before may further more image among s l. ⊎_elim (λ left. inl (more s l (image s l) left)) inr (among s l);
}

-- ---- what the call promises

module _ {D : Type 0} (tells : Type 0) (volume : Volume) (old new : BayState D) where
  costs_by : (b : Bool) → (b ≡ false → IsUntouched old new) → WritesAtMost (work_of tells old new) (resync_sectors volume) → WritesAtMost (work_of tells old new) (if b then resync_sectors volume else 0)
  costs_by true idle writes = writes
  costs_by false idle writes = none_written (work_of tells old new) (idle refl).0

  -- It asks for no more than its sectors, and for none where the array keeps what it holds in one place.
  pub resync_costs : new.sectors_asked ≤ old.sectors_asked + resync_sectors volume → new.sectors_written ≤ old.sectors_written + resync_sectors volume
      → (is_redundant volume ≡ false → IsUntouched old new) → WritesAtMost (work_of tells old new) (resyncing.most_sectors volume)
  resync_costs asked written idle = costs_by (is_redundant volume) idle (record { asked = asked; written = written })

module _ {D : Type 0} (tells : Type 0) (volume : Volume) (old new : BayState D) (floor : ℕ → ℕ)
    (under : (s l : ℕ) (bytes : List ℕ) → MayResync volume tells old.held s l bytes → l < floor s) where
  -- what it gives a sector, where the bay tells what it holds
  told_given : tells → (s l : ℕ) (bytes : List ℕ) → MayResync volume tells old.held s l bytes → MayResync volume (Unit {0}) old.held s l bytes
  told_given told s l bytes may = ⊎_elim
      (λ taken. inl (record { block = taken.block; i = taken.i; is_cell = taken.is_cell; several = taken.several; held = λ unit. taken.held told }))
      (λ parity. inr parity) may

  pub resync_worked : (done : Bool) → (told_back : new.tells_left → old.tells_left)
      → StopsLeave old new (IsAmongResynced volume tells old.held old.may_hold) → AddsResynced volume tells old.held old.may_hold new.may_hold
      → (tells → IsLeftByResync volume tells old.held new.held) → (tells → done ≡ true → HasResynced (Failed old new) volume old.held new.held)
      → (tells → done ≡ true → StaySettled old new) → GoesBetween old new → HasWorked resyncing tells floor volume old new done
  resync_worked done told_back moments left held resynced settled goes = record {
    below = λ told. record {
      same_sizes = goes.same_sizes;
      told = told_back;
      held = λ s l. ⊎_elim inl (λ may. inr (under s l (new.held s l) may)) (held told s l);
      left = λ s l bytes may. ⊎_elim inl (λ given. inr (under s l bytes given)) (left s l bytes may);
      any_moment = stops_weaken moments (λ image among s l. ⊎_elim inl (λ given. inr (under s l (image s l) given)) (among s l));
    };
    stays = settled;
    among = λ told. stops_weaken moments (λ image among s l. ⊎_elim inl (λ given. inr (told_given told s l (image s l) given)) (among s l));
    is_left = λ told s l. ⊎_elim inl (λ given. inr (told_given told s l (new.held s l) given)) (held told s l);
    has_done = resynced;
    goes = goes;
  }

  pub resync_stopped : (seats : List Seat) (slot : ℕ) → IsOneOf (slots_of seats) slot → IsStopped old new volume slot → HasStopped resyncing seats volume old new slot
  resync_stopped seats slot is_seat is = record { is_seat = is_seat; stopped = ⊎_elim (λ wrote. inl wrote.1) inr is }
