-- Each call of a history of data goes on in it, over disks in memory.
use Rattle.std.proofs.Common.{◌≡◌, ◌∙◌, ℕ, ◌<◌, Bool, false, List, length, Option, Some, Ok}
use Rattle.std.proofs.Math.Path.{fun_ext}
use Rattle.std.specs.Prelude.{IsTrue, slice_index_or}
use Rattle.ddf_bay.specs.Memory.{disks_of}
use Rattle.ddf_bay.specs.ReadsOnly.{LookFailed}
use Rattle.ddf_bay.specs.Sectors.{Image}
use Rattle.ddf_bay.specs.declared.memory.MemoryBay.{MemoryBay}
use Rattle.ddf_config.specs.Configuration.{Configuration}
use Rattle.ddf_copy.specs.declared.newest_copy.Newest.{Newest}
use Rattle.ddf_history.specs.Groups.{groups}
use Rattle.ddf_history.specs.History.{KeepsAcked}
use Rattle.ddf_history.specs.Issued.{Past}
use Rattle.ddf_seats.specs.Group.{GroupValue}
use Rattle.ddf_assembly.specs.Group.{group_of}
use Rattle.ddf_history_steps.specs.Going.{Ends, KeepsSlots}
use Rattle.ddf_history_steps.specs.Kept.{AreAllKept, is_read}
use Rattle.ddf_history_steps.proofs.SlotsKept.{ends_slots}
use Rattle.ddf_history_steps.proofs.Told.{found_name}
use Rattle.ddf_history_memory.specs.Histories.{GoesWell, HasMemberOn, IsCutAt, IsHistoryOn}
use Rattle.ddf_history_memory.proofs.Slots.{becomes, before_told}
use Rattle.ddf_data_events.specs.Calls.{comes_in, ends_in, exit_in}
use Rattle.ddf_data_events.specs.Calls.Course.{Passing, Stepping}
use Rattle.ddf_data_events.specs.Events.{Resumes}
use Rattle.ddf_data_events.specs.Moments.{Moment}
use Rattle.ddf_data_events.proofs.Happening.{ended, was_cut}
use Rattle.ddf_data_life.specs.Histories.{CallOn, CourseOn, CutOn, EndsOn, FindsOn, IsDataHistoryOn, LeavesLostOut, course_on, exit_on, read_as}
use Rattle.ddf_data_life.proofs.Goes.{admitted, cut_history, ended_history, still_cut, still_ended}
use Rattle.ddf_data_life.proofs.Memory.{bays}

module _ (group : List ℕ) (old : Moment group MemoryBay) (all : IsDataHistoryOn group old) where
  -- ---- what a command finds

  abbrev pub finds : (exit : MemoryBay) → HasMemberOn group old.past old.bay → GoesWell old.bay exit → (disks_of exit).tells_left → (left : List Bool) → length left ≡ length (disks_of old.bay).sizes
      → ((slot : ℕ) → slot < length left → IsTrue (slice_index_or left slot false) → LookFailed (disks_of old.bay) (disks_of exit) slot) → LeavesLostOut group old.past left
      → (newest : List (Option Newest)) (found : GroupValue) → group_of newest (Some group) ≡ Ok found → FindsOn group old left newest
  finds exit member well told left every_slot failed unread newest found is_found = record {
    tells_left = before_told old.bay exit well told;
    found = found;
    is_found = is_found;
    own = found_name newest group found is_found;
    admitted = admitted group old.past old.bay exit all.history well told left every_slot failed member unread found;
  }

  -- ---- where it ends

  module _ (exit : MemoryBay) (well : GoesWell old.bay exit) (told : (disks_of exit).tells_left) (left : List Bool) (every_slot : length left ≡ length (disks_of old.bay).sizes)
      (failed : (slot : ℕ) → slot < length left → IsTrue (slice_index_or left slot false) → LookFailed (disks_of old.bay) (disks_of exit) slot)
      (found : GroupValue) (changes : List Configuration) (done : Bool) (now : Past (groups group)) (ends : Ends group old.past (is_read left) found changes done now) (acked : KeepsAcked old.past now) where
    slots : KeepsSlots group old.past now (is_read left) found
    slots = ends_slots group old.past (is_read left) found changes done now ends

    took_ends : AreAllKept group now (disks_of exit) → IsHistoryOn group now exit
    took_ends kept = ended_history group old.past old.bay exit all.history well told left every_slot failed now found slots acked kept

    took_cut : (cut : MemoryBay) (image : Image) → IsCutAt old.bay image cut → AreAllKept group now (disks_of cut) → IsHistoryOn group now cut
    took_cut cut image is_cut kept = cut_history group old.past old.bay exit all.history well told left every_slot failed now found slots acked cut image is_cut kept

  ends_history : (course : CourseOn group old) → GoesWell old.bay (exit_in {tells = Unit {0}} tt disks_of (Unit {0}) read_as group course)
      → (disks_of (exit_in {tells = Unit {0}} tt disks_of (Unit {0}) read_as group course)).tells_left → (now : Past (groups group))
      → ends_in {tells = Unit {0}} tt disks_of (Unit {0}) read_as group course now → KeepsAcked old.past now
      → AreAllKept group now (disks_of (exit_in {tells = Unit {0}} tt disks_of (Unit {0}) read_as group course)) → IsHistoryOn group now (exit_in {tells = Unit {0}} tt disks_of (Unit {0}) read_as group course)
  ends_history (Stepping by) well told now ends acked kept = took_ends by.exit well told by.left by.every_slot by.failed by.finds.found by.issued by.done now ends acked kept
  ends_history (Passing exit) well told now same acked kept = still_ended group old.past old.bay exit all.history well now same kept

  pub ends_on : (call : CallOn group old) → GoesWell old.bay (exit_on group old call) → (disks_of (exit_on group old call)).tells_left → EndsOn group old call
  ends_on call well told =
      let on = ended {tells = Unit {0}} tt disks_of (Unit {0}) read_as group bays old all.keeps call told (becomes old.bay (exit_on group old call) well).same_sizes in
      record {
        past = on.now;
        promises = on.promised;
        comes = on.comes;
        is_promised = on.is_so;
        history = record { history = ends_history (course_on group old call) well told on.now on.comes on.acked on.keeps.shows; keeps = on.keeps };
        acked = on.acked;
      }

  -- ---- where a stop cut it

  module _ (image : Image) (cut : MemoryBay) (is_cut : IsCutAt old.bay image cut) where
    come_history : (course : CourseOn group old) → GoesWell old.bay (exit_in {tells = Unit {0}} tt disks_of (Unit {0}) read_as group course)
        → (disks_of (exit_in {tells = Unit {0}} tt disks_of (Unit {0}) read_as group course)).tells_left → (now : Past (groups group))
        → comes_in {tells = Unit {0}} tt disks_of (Unit {0}) read_as group course now → KeepsAcked old.past now → AreAllKept group now (disks_of cut) → IsHistoryOn group now cut
    come_history (Stepping by) well told now come acked kept =
        took_cut by.exit well told by.left by.every_slot by.failed by.finds.found by.issued false now come acked cut image is_cut kept
    come_history (Passing exit) well told now same acked kept = still_cut group old.past old.bay exit all.history well now same cut image is_cut kept

    pub cut_on : (call : CallOn group old) → GoesWell old.bay (exit_on group old call) → (disks_of (exit_on group old call)).left_since (disks_of old.bay).moment image → (disks_of cut).tells_left → CutOn group old call cut
    cut_on call well was_left told =
        let resumes : Resumes (disks_of old.bay) (disks_of cut) (λ left. left ≡ image) = record {
          tells_left = told;
          same_sizes = is_cut.same_sizes;
          is_left = λ one left. fun_ext (λ s. fun_ext (λ l. is_cut.settled s l (one s l) (left s l))) ∙ is_cut.same_held;
        } in
        let on = was_cut {tells = Unit {0}} tt disks_of (Unit {0}) read_as group bays old all.keeps call image was_left cut resumes in
        record {
          past = on.now;
          promises = on.promised;
          comes = on.comes;
          is_promised = on.is_so;
          history = record { history = come_history (course_on group old call) well was_left.0 on.now on.comes on.acked on.keeps.shows; keeps = on.keeps };
          acked = on.acked;
        }
