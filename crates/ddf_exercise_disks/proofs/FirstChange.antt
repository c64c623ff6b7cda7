-- The changes of a new group: its array is created, and two of its disks become spares.
use Rattle.std.proofs.Common.{◌≡◌, ◌∙◌, ℕ, zero, suc, ◌+◌, ◌^◌, ◌<◌, ◌≤◌, Bool, false, List, [], ◌∷◌, length, Some, refl, sym, ap, subst, arith}
use Rattle.std.specs.Prelude.{slice_get}
use Rattle.ddf_bytes.specs.declared.stamp.Stamp.{Stamp}
use Rattle.ddf_bytes.specs.Streams.{SinkState}
use Rattle.ddf_bay.specs.Memory.{disks_of}
use Rattle.ddf_bay.specs.Moments.{GoesOn}
use Rattle.ddf_bay.specs.declared.memory.MemoryBay.{MemoryBay}
use Rattle.ddf_config.specs.declared.member.SpareUse.{SpareUse}
use Rattle.ddf_config.specs.declared.member.SpareUse.TheVariants.{Global, No}
use Rattle.ddf_config.specs.declared.seat.Seat.{Seat}
use Rattle.ddf_config.specs.Configuration.{Configuration}
use Rattle.ddf_config.specs.ElementValue.{ElementValue}
use Rattle.ddf_plan.specs.declared.change.Change.TheVariants.{Create, Spare}
use Rattle.ddf_plan.specs.Refusals.{greatest_sequence}
use Rattle.ddf_words.specs.declared.command.SpareWord.TheVariants as spare_words
use Rattle.ddf_words.specs.declared.command.Wish.{Wish}
use Rattle.ddf_words.specs.declared.command.Wish.TheVariants as wishes
use Rattle.ddf_update.specs.NewCopies.{group_of, reference_at}
use Rattle.ddf_rewrite.specs.Wanted.{all_wanted}
use Rattle.ddf_steps.specs.Asked.{IsNewArray, IsNewPlan}
use Rattle.ddf_text.specs.Done.{sequence_line}
use Rattle.ddf_answer.specs.Call.{answer_of, work_of}
use Rattle.ddf_request.specs.NewArray.{new_array_guid}
use Rattle.ddf_group_commands.specs.Change.{IsChangeDone}
use Rattle.ddf_group_commands.specs.Requests.{IsWished, request_for}
use Rattle.ddf_uncut_group.specs.Asking.{AreNext}
use Rattle.ddf_uncut_group.specs.Plain.{HasRoom}
use Rattle.ddf_uncut_data.proofs.Held.{holds_same}
use Rattle.ddf_exercise_config.specs.Disks.{AreApart, Disks}
use Rattle.ddf_exercise_config.specs.Founded.{new_disks}
use Rattle.ddf_exercise_config.specs.Stages.{array, created, element, founded, group_with, members, not_at_all, optimal, positions_at, resynced, seats_at, whole, with_spare}
use Rattle.ddf_exercise_config.specs.Turns.Turn.{Opening}
use Rattle.ddf_exercise_config.specs.Views.{view_at}
use Rattle.ddf_exercise_config.specs.Words.{creation}
use Rattle.ddf_exercise_config.proofs.Asked as wanted
use Rattle.ddf_exercise_config.proofs.Labelled.{are_apart}
use Rattle.ddf_exercise_config.proofs.Made as made
use Rattle.ddf_exercise_config.proofs.Readable as readable
use Rattle.ddf_exercise_disks.specs.Ending.{EndsWell, unused}
use Rattle.ddf_exercise_disks.specs.Standing.{StandsAt}
use Rattle.ddf_exercise_disks.specs.Storing.{StoresAt, filled_with}
use Rattle.ddf_exercise_disks.specs.Zeros.{IsZero, none_out}
use Rattle.ddf_exercise_disks.proofs.Clip.{alike_low, memory_sectors, view_below}
use Rattle.ddf_exercise_disks.proofs.Next.{makes_next}
use Rattle.ddf_exercise_disks.proofs.Standing.{StaysLow, change_leaves, ends_then}

-- ---- one change

-- What is asked on the slots of the disks is asked on five.
on_five_slots : (total asked : ℕ) (out : List Bool) (config : Configuration) (seats : List Seat) (name : List ℕ) (stamp : Stamp) (wish : Wish) (old new : MemoryBay) → StandsAt name total asked out config seats old
    → (timestamp : ℕ) (after : SinkState) (status : ℕ)
    → (done : IsWished (work_of (Unit {0}) (disks_of old) (disks_of new)) (Some name) timestamp (request_for (length (disks_of old).sizes) stamp wish) (answer_of (Unit {0}) unused after status))
    → IsChangeDone (work_of (Unit {0}) (disks_of old) (disks_of new)) (Some name) timestamp (request_for 5 stamp wish done.wished.linux) (answer_of (Unit {0}) unused after status)
on_five_slots total asked out config seats name stamp wish old new stands timestamp after status done =
    subst
    (λ (slots : ℕ). IsChangeDone (work_of (Unit {0}) (disks_of old) (disks_of new)) (Some name) timestamp (request_for slots stamp wish done.wished.linux) (answer_of (Unit {0}) unused after status))
    (ap (λ (sizes : List ℕ). length sizes) stands.well.sizes_are) (record { outcome = done.outcome; has = done.wished.has; ends = done.ends })

-- New disks have room for the group with its array, whatever its fourth and fifth disk may stand in for.
module _ (name : List ℕ) (disks : Disks) (guid : List ℕ) (state init sequence : ℕ) where
  abbrev early : (fourth fifth : SpareUse) → Configuration
  early fourth fifth = group_with name sequence (members disks false false fourth fifth) guid (array (positions_at disks Opening) state init)

  early_elements : (fourth fifth : SpareUse) → length (all_wanted (early fourth fifth)) ≤ 14
  unfolding all_wanted
  early_elements fourth fifth = omega arith

  pub room_none : HasRoom (early No No)
  room_none = record { members = omega arith; arrays = omega arith; elements = early_elements No No; none_dedicated = (refl, (refl, (refl, (refl, (refl, tt))))) }

  pub room_one : HasRoom (early Global No)
  room_one = record { members = omega arith; arrays = omega arith; elements = early_elements Global No; none_dedicated = (refl, (refl, (refl, (refl, (refl, tt))))) }

  pub room_both : HasRoom (early Global Global)
  room_both = record { members = omega arith; arrays = omega arith; elements = early_elements Global Global; none_dedicated = (refl, (refl, (refl, (refl, (refl, tt))))) }

-- ---- a creation

reference_small : (stamp : Stamp) (place : ℕ) → place < 5 → reference_at stamp place < 2 ^ 32
reference_small stamp place few = grind arith

plan_new : (stamp : Stamp) (index : ℕ) (plan : ElementValue) → slice_get (array (positions_at (new_disks stamp) Opening) optimal not_at_all).elements index ≡ Some (Some plan) → IsNewPlan plan
plan_new stamp zero plan at =
    let is : element (positions_at (new_disks stamp) Opening) ≡ plan = cc in
    subst IsNewPlan is (record {
      few = omega arith;
      strip = omega arith;
      level = omega arith;
      qualifier = omega arith;
      blocks = omega arith;
      stand_in = omega arith;
      positions = (
        record { fits = record { reference = reference_small stamp 0 (omega arith); start = omega arith; row = omega arith }; no_row = refl },
        (
          record { fits = record { reference = reference_small stamp 1 (omega arith); start = omega arith; row = omega arith }; no_row = refl },
          (record { fits = record { reference = reference_small stamp 2 (omega arith); start = omega arith; row = omega arith }; no_row = refl }, tt),
        ),
      );
    })
plan_new stamp (suc index) plan at = absurd cc

module _ (stamp : Stamp) where
  abbrev pub first_name : List ℕ
  first_name = group_of stamp

  abbrev pub first_disks : Disks
  first_disks = new_disks stamp

  -- the GUID of the array
  abbrev pub first_guid : List ℕ
  first_guid = new_array_guid (founded first_name first_disks 1) stamp

  array_new : IsNewArray first_guid (array (positions_at first_disks Opening) optimal not_at_all)
  array_new = record {
    fits = record { guid = refl; used = refl; number = omega arith; state = omega arith; init = omega arith; name = refl; secondary = omega arith };
    complete = refl;
    plans = plan_new stamp;
  }

  creation_next : AreNext (seats_at first_disks Opening) (founded first_name first_disks 1) (Create first_guid (array (positions_at first_disks Opening) optimal not_at_all) ∷ []) (created first_name first_disks first_guid 2)
  creation_next =
      makes_next (seats_at first_disks Opening) (founded first_name first_disks 1) (Create first_guid (array (positions_at first_disks Opening) optimal not_at_all)) (created first_name first_disks first_guid 2)
      (made.creation first_name first_disks (are_apart stamp) first_guid 1 (omega arith)) array_new (omega arith)
      (readable.early_current first_name first_disks (are_apart stamp) first_guid 2 No No (array (positions_at first_disks Opening) 16 0)).seats_are
      (room_none first_name first_disks first_guid 16 0 2)

  module _ (total asked : ℕ) (old new : MemoryBay) (stands : StandsAt first_name total asked none_out (founded first_name first_disks 1) (seats_at first_disks Opening) old) (empty : IsZero old)
      (goes : GoesOn (disks_of old) (disks_of new)) (timestamp : ℕ) (time : timestamp < 2 ^ 32) (enough : asked + 415 ≤ total) (after : SinkState) (status : ℕ)
      (done : IsWished (work_of (Unit {0}) (disks_of old) (disks_of new)) (Some first_name) timestamp (request_for (length (disks_of old).sizes) stamp (wishes.Create creation)) (answer_of (Unit {0}) unused after status)) where
    pub creation_stands : EndsWell (answer_of (Unit {0}) unused after status) (sequence_line 2)
        (StandsAt first_name total (asked + 415) none_out (created first_name first_disks first_guid 2) (seats_at first_disks Opening) new × IsZero new)
    creation_stands =
        ends_then (answer_of (Unit {0}) unused after status) (sequence_line 2) (λ both. (both.0, λ slot l low. both.1 slot l low ∙ empty slot l low))
        (change_leaves first_name total asked none_out (founded first_name first_disks 1) (seats_at first_disks Opening) old new stands goes timestamp time (request_for 5 stamp (wishes.Create creation) done.wished.linux)
        (Create first_guid (array (positions_at first_disks Opening) optimal not_at_all) ∷ []) (created first_name first_disks first_guid 2) (wanted.creation_is first_name first_disks 1 stamp done.wished.linux) creation_next refl enough after status
        (on_five_slots total asked none_out (founded first_name first_disks 1) (seats_at first_disks Opening) first_name stamp (wishes.Create creation) old new stands timestamp after status done))

-- ---- spares

module _ (name : List ℕ) (total asked : ℕ) (out : List Bool) (disks : Disks) (apart : AreApart disks) (guid : List ℕ) (sequence : ℕ) (within : sequence + 1 ≤ greatest_sequence) (bytes : List ℕ)
    (old new : MemoryBay) (goes : GoesOn (disks_of old) (disks_of new)) (stamp : Stamp) (timestamp : ℕ) (time : timestamp < 2 ^ 32) (enough : asked + 415 ≤ total) (after : SinkState) (status : ℕ) where
  -- A change that leaves the blocks' sectors leaves the blocks.
  stores_then : (config : Configuration) → StoresAt name total asked out config (seats_at disks Opening) (view_at Opening false) bytes old → (next : Configuration)
      → StandsAt name total (asked + 415) out next (seats_at disks Opening) new × StaysLow old new → StoresAt name total (asked + 415) out next (seats_at disks Opening) (view_at Opening false) bytes new
  stores_then config stores next both = record {
    stands = both.0;
    holds = holds_same (view_at Opening false) (disks_of old).held (disks_of new).held (filled_with bytes) (memory_sectors new)
        (alike_low (view_at Opening false) (view_below Opening false) (disks_of old).held (disks_of new).held (λ slot l low. sym (both.1 slot l low))) stores.holds;
  }

  pub first_spare_stores : StoresAt name total asked out (resynced name disks guid sequence) (seats_at disks Opening) (view_at Opening false) bytes old
      → IsWished (work_of (Unit {0}) (disks_of old) (disks_of new)) (Some name) timestamp (request_for (length (disks_of old).sizes) stamp (wishes.Spare 3 spare_words.Global)) (answer_of (Unit {0}) unused after status)
      → EndsWell (answer_of (Unit {0}) unused after status) (sequence_line (sequence + 1))
      (StoresAt name total (asked + 415) out (with_spare name disks guid (sequence + 1)) (seats_at disks Opening) (view_at Opening false) bytes new)
  first_spare_stores stores done =
      ends_then (answer_of (Unit {0}) unused after status) (sequence_line (sequence + 1)) (stores_then (resynced name disks guid sequence) stores (with_spare name disks guid (sequence + 1)))
      (change_leaves name total asked out (resynced name disks guid sequence) (seats_at disks Opening) old new stores.stands goes timestamp time (request_for 5 stamp (wishes.Spare 3 spare_words.Global) done.wished.linux)
      (Spare disks.fourth.reference Global ∷ []) (with_spare name disks guid (sequence + 1)) (wanted.first_spare_is name disks sequence stamp guid done.wished.linux)
      (makes_next (seats_at disks Opening) (resynced name disks guid sequence) (Spare disks.fourth.reference Global) (with_spare name disks guid (sequence + 1)) (made.first_spare name disks apart guid sequence within) tt within
      (readable.early_current name disks apart guid (sequence + 1) Global No (array (positions_at disks Opening) 0 2)).seats_are (room_one name disks guid 0 2 (sequence + 1)))
      refl enough after status
      (on_five_slots total asked out (resynced name disks guid sequence) (seats_at disks Opening) name stamp (wishes.Spare 3 spare_words.Global) old new stores.stands timestamp after status done))

  pub second_spare_stores : StoresAt name total asked out (with_spare name disks guid sequence) (seats_at disks Opening) (view_at Opening false) bytes old
      → IsWished (work_of (Unit {0}) (disks_of old) (disks_of new)) (Some name) timestamp (request_for (length (disks_of old).sizes) stamp (wishes.Spare 4 spare_words.Global)) (answer_of (Unit {0}) unused after status)
      → EndsWell (answer_of (Unit {0}) unused after status) (sequence_line (sequence + 1))
      (StoresAt name total (asked + 415) out (whole name disks guid Opening (sequence + 1)) (seats_at disks Opening) (view_at Opening false) bytes new)
  second_spare_stores stores done =
      ends_then (answer_of (Unit {0}) unused after status) (sequence_line (sequence + 1)) (stores_then (with_spare name disks guid sequence) stores (whole name disks guid Opening (sequence + 1)))
      (change_leaves name total asked out (with_spare name disks guid sequence) (seats_at disks Opening) old new stores.stands goes timestamp time (request_for 5 stamp (wishes.Spare 4 spare_words.Global) done.wished.linux)
      (Spare disks.fifth.reference Global ∷ []) (whole name disks guid Opening (sequence + 1)) (wanted.second_spare_is name disks sequence stamp guid done.wished.linux)
      (makes_next (seats_at disks Opening) (with_spare name disks guid sequence) (Spare disks.fifth.reference Global) (whole name disks guid Opening (sequence + 1)) (made.second_spare name disks apart guid sequence within) tt within
      (readable.early_current name disks apart guid (sequence + 1) Global Global (array (positions_at disks Opening) 0 2)).seats_are (room_both name disks guid 0 2 (sequence + 1)))
      refl enough after status
      (on_five_slots total asked out (with_spare name disks guid sequence) (seats_at disks Opening) name stamp (wishes.Spare 4 spare_words.Global) old new stores.stands timestamp after status done))
