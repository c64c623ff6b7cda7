-- A write of blocks of an array between the steps of its group, by what the call promises.
use Rattle.std.proofs.Common.{◌≡◌, ℕ, ◌<◌, List, [], length, None, refl, sym, subst, inl, inr}
use Rattle.std.specs.Prelude.{slice_index_or}
use Rattle.ddf_bay.specs.State.{BayState}
use Rattle.ddf_config.specs.Seats.{SeatsFit}
use Rattle.ddf_update.specs.Group.{IsOneOf}
use Rattle.ddf_write.specs.Beside.{NoneLeftBeside}
use Rattle.ddf_write.specs.Keeping.{Keeping}
use Rattle.ddf_write.specs.WriteRefused.{IsStopped, write_refusal}
use Rattle.ddf_write.specs.Writing.{IsWritten, MayGive}
use Rattle.ddf_write.proofs.Gathered.{left_on}
use Rattle.ddf_steps.specs.Committed.{slots_of}
use Rattle.ddf_seats.specs.Group.{GroupValue}
use Rattle.ddf_recovery.specs.Recovery.{config_recovered}
use Rattle.ddf_history_steps.proofs.Slots.{slot_placed}
use Rattle.ddf_history_steps.specs.BlockFloors.{floor_in}
use Rattle.ddf_group_commands.specs.GroupRead.{IsReadFrom}
use Rattle.ddf_write_commands.specs.declared.planning.Plan.{Plan}
use Rattle.ddf_write_commands.specs.Marking.{marked_config}
use Rattle.ddf_write_commands.specs.Plans.{IsPlanOf}
use Rattle.ddf_write_commands.specs.Write.{write_behind, write_refusals, writing_beside}
use Rattle.ddf_write_commands.proofs.BelowFloors.{floor_slot, write_below}
use Rattle.ddf_write_commands.proofs.PlanWritten.{write_accepted}
use Rattle.ddf_write_commands.proofs.SlotsThere.{on_seats}
use Rattle.ddf_write_commands.proofs.WriteWorks.{write_stopped}
use Rattle.ddf_write_commands.proofs.Works.{HasStopped}

module _ {D : Type 0} (tells : Type 0) (start count : ℕ) (sectors : List (List ℕ)) (old opened behind : BayState D) (found : GroupValue) (word : List ℕ) (plan : Plan)
    (is : IsPlanOf (write_refusals start count) write_behind (config_recovered found) found.seats word plan) (from : IsReadFrom tells old found) (same_sizes : opened.sizes ≡ old.sizes) where
  fit : SeatsFit opened.sizes found.seats
  fit = subst (λ (sizes : List ℕ). SeatsFit sizes found.seats) (sym same_sizes) from.seats

  -- what it gives bytes lies below the floors of the seats
  pub under : (s l : ℕ) (bytes : List ℕ) → MayGive plan.view start sectors s l bytes → l < floor_in found.seats s
  under s l bytes may =
      write_below (marked_config (config_recovered found) is.entry) is.entry.0 found.seats plan.view opened.sizes is.is_for.is_marked_view.is_view is.is_for.known from.assembled.slots_rise fit start sectors s l bytes may

  abbrev OnSeat : ℕ → Type 0
  OnSeat slot = IsOneOf (slots_of found.seats) slot

  below_seat : (slot l : ℕ) → l < floor_in found.seats slot → OnSeat slot
  below_seat slot l below = let placed = slot_placed (slots_of found.seats) slot (floor_slot found.seats slot l below) in record { place = placed.0; is_there = placed.1 }

  written_seat : (slot : ℕ) → IsWritten plan.view start (length sectors) slot → OnSeat slot
  written_seat slot (l, inl cell) = below_seat slot l (under slot l (slice_index_or sectors cell.k []) (inl (cell, refl)))
  written_seat slot (l, inr parity) = below_seat slot l (under slot l [] (inr parity))

  pub accepted : write_refusal plan.view start count ≡ None
  accepted = write_accepted start count (config_recovered found) found.seats word plan is

  -- Where a write stopped, it stopped at the slot of a seat.
  pub write_ended : (kept : Keeping) (slot : ℕ) → IsStopped opened behind plan.view start (length sectors) slot → HasStopped (writing_beside kept start sectors) found.seats plan.view opened behind slot
  write_ended kept slot stopped = write_stopped tells plan.view kept start sectors opened behind (floor_in found.seats) under found.seats slot (written_seat slot stopped.0) stopped

  -- A look ends at one too.
  pub look_on_seat : (failed : ℕ → Type 0) (slot : ℕ) → NoneLeftBeside failed plan.view start count slot → OnSeat slot
  look_on_seat failed slot left =
      let on = left_on plan.view is.is_for.known failed start count slot left in
      on_seats (marked_config (config_recovered found) is.entry) is.entry.0 found.seats plan.view is.is_for.is_marked_view.is_view on.element on.part on.is_part on.position on.place slot on.is_place on.is_there
