-- What a write of blocks promises as a work on the blocks of an array.
use Rattle.std.proofs.Common.{◌≡◌, ℕ, ◌<◌, Bool, true, List, [], length, inl, inr, ⊎_elim}
use Rattle.ddf_bay.specs.Moments.{StopsLeave}
use Rattle.ddf_bay.specs.Sectors.{Image}
use Rattle.ddf_bay.specs.State.{BayState}
use Rattle.ddf_bay.proofs.Steps.{stops_weaken}
use Rattle.ddf_config.specs.declared.seat.Seat.{Seat}
use Rattle.ddf_array.specs.Volume.{Volume}
use Rattle.ddf_cells.specs.Touching.{GoesBetween}
use Rattle.ddf_write.specs.Keeping.{AreTheirValues, Keeping}
use Rattle.ddf_write.specs.RowWrites.{IsSure}
use Rattle.ddf_write.specs.WriteRefused.{IsStopped}
use Rattle.ddf_write.specs.Writing.{AddsWrites, HasWritten, IsAmongWrites, IsLeftByWrite, MayGive}
use Rattle.ddf_write.proofs.Gathered.{beside_wider}
use Rattle.ddf_update.specs.Group.{IsOneOf}
use Rattle.ddf_steps.specs.Committed.{slots_of}
use Rattle.ddf_history_steps.specs.BlockFloors.{StaySettled}
use Rattle.ddf_write_commands.specs.Write.{looking, writing, writing_beside}
use Rattle.ddf_write_commands.proofs.Works.{HasStopped, HasWorked, IsSteady}

-- ---- more failures, and more that may be left

module _ (P Q : ℕ → Type 0) (more : (slot : ℕ) → P slot → Q slot) (volume : Volume) where
  -- what is sure where reads of more slots failed
  pub sure_fewer : (before : Image) → IsSure Q volume before → IsSure P volume before
  sure_fewer before sure = ⊎_elim (λ none. inl (λ slot on failed. none slot on (more slot failed))) inr sure

  done_more : (start : ℕ) (sectors : List (List ℕ)) (before image : Image) → HasWritten volume start sectors (IsSure P volume before) image → HasWritten volume start sectors (IsSure Q volume before) image
  done_more start sectors before image is = record {
    cells = is.cells;
    parity = λ sure. is.parity (sure_fewer before sure);
  }

pub write_steady : (start : ℕ) (sectors : List (List ℕ)) → IsSteady (writing start sectors)
write_steady start sectors = record {
  more_done = λ P Q more volume before image is. done_more P Q more volume start sectors before image is;
  more_left = λ P Q more volume slot none. none;
  left_failed = λ P volume slot none. absurd none;
  among_first = λ volume before may image left s l. inl (left s l);
  among_more = λ volume before may further more image among s l. ⊎_elim (λ left. inl (more s l (image s l) left)) inr (among s l);
}

pub beside_steady : (kept : Keeping) (start : ℕ) (sectors : List (List ℕ)) → IsSteady (writing_beside kept start sectors)
beside_steady kept start sectors = record {
  more_done = λ P Q more volume before image is. is;
  more_left = λ P Q more volume slot none. none;
  left_failed = λ P volume slot none. absurd none;
  among_first = λ volume before may image left s l. inl (left s l);
  among_more = λ volume before may further more image among s l. ⊎_elim (λ left. inl (more s l (image s l) left)) inr (among s l);
}

pub look_steady : (start count : ℕ) → IsSteady (looking start count)
look_steady start count = record {
  more_done = λ P Q more volume before image is. done_more P Q more volume start [] before image is;
  more_left = λ P Q more volume slot none. beside_wider more volume start count slot none;
  left_failed = λ P volume slot none. none.none_left.this_failed;
  among_first = λ volume before may image left s l. inl (left s l);
  among_more = λ volume before may further more image among s l. ⊎_elim (λ left. inl (more s l (image s l) left)) inr (among s l);
}

-- ---- what the call promises

module _ {D : Type 0} (tells : Type 0) (volume : Volume) (kept : Keeping) (start : ℕ) (sectors : List (List ℕ)) (old new : BayState D) (floor : ℕ → ℕ)
    (under : (s l : ℕ) (bytes : List ℕ) → MayGive volume start sectors s l bytes → l < floor s) where
  pub write_worked : (done : Bool) → (told_back : new.tells_left → old.tells_left)
      → StopsLeave old new (IsAmongWrites volume start sectors old.may_hold) → AddsWrites volume start sectors old.may_hold new.may_hold
      → (tells → IsLeftByWrite volume start sectors old.held new.held) → (tells → done ≡ true → HasWritten volume start sectors (AreTheirValues volume old.held kept) new.held)
      → (tells → done ≡ true → StaySettled old new) → GoesBetween old new → HasWorked (writing_beside kept start sectors) tells floor volume old new done
  write_worked done told_back moments left held written settled goes = record {
    below = λ told. record {
      same_sizes = goes.same_sizes;
      told = told_back;
      held = λ s l. ⊎_elim inl (λ may. inr (under s l (new.held s l) may)) (held told s l);
      left = λ s l bytes may. ⊎_elim inl (λ given. inr (under s l bytes given)) (left s l bytes may);
      any_moment = stops_weaken moments (λ image among s l. ⊎_elim inl (λ given. inr (under s l (image s l) given)) (among s l));
    };
    stays = settled;
    among = λ told. moments;
    is_left = held;
    has_done = written;
    goes = goes;
  }

  pub write_stopped : (seats : List Seat) (slot : ℕ) → IsOneOf (slots_of seats) slot → IsStopped old new volume start (length sectors) slot → HasStopped (writing_beside kept start sectors) seats volume old new slot
  write_stopped seats slot is_seat is = record { is_seat = is_seat; stopped = inl is.1 }
