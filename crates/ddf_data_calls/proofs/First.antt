-- The first steps of a call that works on an array of a group that it found: its recovery, and a change of the array.
use Rattle.std.proofs.Common.{◌≡◌, ◌∙◌, ℕ, ◌<◌, ◌^◌, Bool, true, false, List, ◌++◌, length, Option, Some, None, Ok, refl, ap, sym, arith}
use Rattle.std.specs.Prelude.{find, nat_eq, option_map, option_to_list, slice_get}
use Rattle.ddf_lemmas.proofs.Lists.{mapped_at}
use Rattle.ddf_bay.specs.Sectors.{Image, IsLeft}
use Rattle.ddf_bay.specs.State.{BayState, size_of}
use Rattle.ddf_config.specs.declared.seat.Seat.{Seat}
use Rattle.ddf_config.specs.Configuration.{Configuration}
use Rattle.ddf_config.specs.Seats.{floor_of, slot_of}
use Rattle.ddf_copy.specs.declared.newest_copy.Newest.{Newest}
use Rattle.ddf_plan.specs.declared.change.Change.{Change}
use Rattle.ddf_array.specs.Sound.{AreSectors}
use Rattle.ddf_array.specs.Viewing.{view_of}
use Rattle.ddf_array.specs.Volume.{IsVolume, Volume}
use Rattle.ddf_data_group.specs.Clear.{IsItsCell}
use Rattle.ddf_data_group.specs.Grouped.{Promises}
use Rattle.ddf_data_group.proofs.Clearly.{below_floor, used}
use Rattle.ddf_history.specs.Groups.{groups}
use Rattle.ddf_history.specs.Issued.{Past}
use Rattle.ddf_seats.specs.declared.seated.Seated.{Seated}
use Rattle.ddf_steps.specs.Committed.{slots_of}
use Rattle.ddf_seats.specs.Group.{GroupValue}
use Rattle.ddf_assembly.specs.Group.{group_of}
use Rattle.ddf_recovery.specs.Ready.{readied}
use Rattle.ddf_recovery.specs.Recovery.{config_recovered}
use Rattle.ddf_seats.specs.Seated.{seated}
use Rattle.ddf_assembly.specs.Slots.{newest_from}
use Rattle.ddf_steps.specs.Steps.{Step}
use Rattle.ddf_history_steps.specs.Going.{Goes, IsAdmitted, changes_in}
use Rattle.ddf_history_steps.specs.Kept.{is_read, is_slot}
use Rattle.ddf_history_steps.proofs.Slots.{slot_is}
use Rattle.ddf_data_history.specs.Carried.{IsAllData}
use Rattle.ddf_data_history.specs.Promised.{KeepsData, seats_in}
use Rattle.ddf_data_history.proofs.Steps.{below_floors}
use Rattle.ddf_data_disks.specs.Seats.{AreOnSlots}
use Rattle.ddf_answer.specs.Call.{work_of}
use Rattle.ddf_group_commands.specs.Change.{Request, TakesGroup}
use Rattle.ddf_group_commands.specs.Writing.{IsLeftWriting}
use Rattle.ddf_group_commands.specs.Written.{AreWritten}
use Rattle.ddf_write_commands.specs.Holding.{holding}
use Rattle.ddf_data_calls.specs.Calls.{AdmitsCall, AreMade, MayAsk, left_over}
use Rattle.ddf_data_calls.specs.Floors.{HaveFloors}
use Rattle.ddf_data_calls.proofs.Issued.{ends_keep}
use Rattle.ddf_data_calls.proofs.Seats as seating
use Rattle.ddf_data_calls.proofs.Seats.{found_at}
use Rattle.ddf_data_calls.proofs.Steps.{issued_made}
use Rattle.ddf_data_calls.proofs.Untouched.{seated_floor}
use Rattle.ddf_write_commands.proofs.BelowSteps.{IsFloored, writing_same, written_same}
use Rattle.ddf_write_commands.proofs.StepFloors.{AllFloored, floors_first, floors_last, readied_floors}

-- ---- what a call found

pub record IsCalled {D : Type 0} (group : List ℕ) (old : BayState D) (past : Past (groups group)) (floor : ℕ → ℕ) (promises : Promises) (left : List Bool) (newest : List (Option Newest)) (named : Option (List ℕ)) (found : GroupValue) : Type 0 where
  pub small : (slot : ℕ) → floor slot < 2 ^ 64
  pub long : length left ≡ length old.sizes
  pub read : newest ≡ newest_from old 0 left
  pub is_found : group_of newest named ≡ Ok found
  pub own : found.config.group ≡ group
  pub admitted : IsAdmitted group past old left found
  pub floors : HaveFloors group past old floor
  pub all : IsAllData group past floor old promises
  pub told : IsLeft old.may_hold old.held
  pub whole : AreSectors old.held

-- It found what the slots give that it looked at, where the history of the group admits it.
pub called_by : {D : Type 0} (tells : Type 0) → tells → (old new : BayState D) (group : List ℕ) (past : Past (groups group)) (floor : ℕ → ℕ) → ((slot : ℕ) → floor slot < 2 ^ 64) → (promises : Promises)
    (named : Option (List ℕ)) (timestamp : ℕ) (request : Request) (done : Bool) (taken : TakesGroup (work_of tells old new) named timestamp request done) (found : GroupValue)
    → group_of taken.newest named ≡ Ok found → found.config.group ≡ group → AdmitsCall group past floor promises old taken.left found → IsLeft old.may_hold old.held → AreSectors old.held
    → IsCalled group old past floor promises taken.left taken.newest named found
called_by tells told old new group past floor small promises named timestamp request done taken found is_found own admits left whole = record {
  small = small;
  long = taken.every_slot;
  read = taken.read told;
  is_found = is_found;
  own = own;
  admitted = admits.admitted;
  floors = admits.have_floors;
  all = admits.all_data;
  told = left;
  whole = whole;
}

module _ {D : Type 0} (group : List ℕ) (old : BayState D) (past : Past (groups group)) (floor : ℕ → ℕ) (promises : Promises) (left : List Bool) (newest : List (Option Newest)) (named : Option (List ℕ)) (found : GroupValue)
    (called : IsCalled group old past floor promises left newest named found) where
  -- ---- an array's sectors

  on_slots : AreOnSlots group past floor found.seats
  on_slots =
      seating.seats_on_slots group old left newest called.long called.read past called.admitted.same_slots called.admitted.is_kept called.admitted.may_read called.admitted.member named found called.is_found
      called.own floor called.floors

  pub seats_floor : (place : ℕ) (disk : Seated) → slice_get (seated found) place ≡ Some disk → IsFloored (size_of old disk.seat.slot) floor disk
  seats_floor = seated_floor group old past floor left newest named found called.long called.read called.is_found called.own called.admitted called.floors

  -- Each is on the slot of a seat, below its floor.
  pub cells_on : (config : Configuration) (guid : List ℕ) (v : Volume) → view_of config guid found.seats ≡ Ok v → IsVolume v → (s l : ℕ) → IsItsCell v s l
      → (is_slot (slots_of found.seats) s ≡ true) × (l < floor s)
  cells_on config guid v is_view known s l its =
      let use_of = used config guid found.seats v is_view known in
      let below = below_floor found.seats use_of.array v use_of.over its.element its.position its.sector s l its.lies in
      by below.0 below.1 below.2 below.3 below.4
    where
      at : (reference f : ℕ) (seat : Seat) → find (λ (one : Seat). nat_eq one.reference reference) found.seats ≡ Some seat → seat.floor ≡ f → seat.slot ≡ s → l < f
          → (is_slot (slots_of found.seats) s ≡ true) × (l < floor s)
      at reference f seat found_seat floor_is slot_same low =
          let there = found_at found.seats reference seat found_seat in
          let on = on_slots.same_floor there.place seat there.is_at in (
            slot_is (slots_of found.seats) there.place s (mapped_at (λ (one : Seat). one.slot) found.seats there.place seat there.is_at ∙ ap Some slot_same),
            let same : floor s ≡ f = ap floor (sym slot_same) ∙ sym on ∙ floor_is in omega (arith, low, same),
          )

      by : (reference f : ℕ) → floor_of found.seats reference ≡ Some f → slot_of found.seats reference ≡ s → l < f → (is_slot (slots_of found.seats) s ≡ true) × (l < floor s)
      by reference f floor_is slot_same low = by_found (find (λ (one : Seat). nat_eq one.reference reference) found.seats) refl floor_is slot_same
        where
          by_found : (o : Option Seat) → find (λ (one : Seat). nat_eq one.reference reference) found.seats ≡ o
              → option_map (λ (one : Seat). one.floor) o ≡ Some f → ◌≡◌ {A = ℕ} (elim o [ None ↦ 64 | Some one ↦ one.slot ]) s → (is_slot (slots_of found.seats) s ≡ true) × (l < floor s)
          by_found None e floor_is slot_same = absurd cc
          by_found (Some seat) e floor_is slot_same = at reference f seat e (let same : seat.floor ≡ f = cc in same) slot_same low

  -- ---- its steps

  module _ (timestamp : ℕ) (mark : Option Change) (asked : List Change) (first last : List Step) (are_first : readied found (option_to_list mark) timestamp ≡ Ok first)
      (are_all : readied found (option_to_list mark ++ asked) timestamp ≡ Ok (first ++ last)) where
    all_floored : AllFloored (seated found) (first ++ last)
    all_floored = readied_floors found timestamp (option_to_list mark ++ asked) (first ++ last) are_all

    pub last_floored : AllFloored (seated found) last
    last_floored = floors_last (seated found) first last all_floored

    -- They write nothing below the floors.
    pub floored_first : (s l : ℕ) (before : Image) → AreWritten old.sizes old.held first before → l < floor s → before s l ≡ old.held s l
    floored_first s l before written low = written_same old floor (seated found) seats_floor first (floors_first (seated found) first last all_floored) old.held before written s l low

    first_same : (image : Image) (writing : IsLeftWriting old first image) (s l : ℕ) → l < floor s → image s l ≡ writing.before s l
    first_same image writing s l low = writing_same old floor (seated found) seats_floor first (floors_first (seated found) first last all_floored) writing.before image writing.outside s l low

    pub last_same : (behind image : Image) (writing : IsLeftWriting (holding old (slots_of found.seats) behind) last image) (s l : ℕ) → l < floor s → image s l ≡ writing.before s l
    last_same behind image writing s l low = writing_same old floor (seated found) seats_floor last last_floored writing.before image writing.outside s l low

    module _ (may : (image : Image) → MayAsk (config_recovered found) (seats_in group (left_over group past (is_read left) found) floor (config_recovered found)) image promises mark) where
      -- The changes of the first have what they ask for.
      pub made_first : (image : Image) → AreMade (seats_in group (left_over group past (is_read left) found) floor) image promises found.config (changes_in found first)
      made_first image = issued_made found mark timestamp first are_first (seats_in group (left_over group past (is_read left) found) floor) image promises (may image)

      -- While they are written the data are kept, however far the changes have come.
      pub opening_keeps : (image : Image) → AreSectors image → IsLeftWriting old first image → (now : Past (groups group)) → Goes group past (is_read left) found (changes_in found first) now
          → KeepsData group now floor image promises
      opening_keeps image are writing now goes =
          below_floors group floor called.small now writing.before promises
          (ends_keep group floor called.small writing.before promises past called.admitted.is_kept.alone (called.all writing.before writing.is_left) (is_read left) found (changes_in found first)
          (made_first writing.before) false now goes)
          image are (λ s l low. first_same image writing s l low)
