-- What disks hold of a settled group once its steps were written to them.
use Rattle.std.proofs.Common.{◌≡◌, ◌≢◌, ℕ, zero, suc, ◌+◌, ◌<◌, ◌^◌, Bool, true, false, List, [], ◌∷◌, length, map, fold, Option, Some, None, Ok, refl, ap, sym, ◌∙◌, subst, inl, inr, arith, zero-add, if◌then◌else◌}
use Rattle.std.proofs.Math.Path.{fun_ext}
use Rattle.std.specs.Prelude.{slice_get, slice_index}
use Rattle.std.specs.List.{AllByRecursion}
use Rattle.std.proofs.lemmas.Option.{slice_get_within}
use Rattle.ddf_lemmas.proofs.Lists.{all_from, in_map, some_at_place}
use Rattle.ddf_bay.specs.Sectors.{Image}
use Rattle.ddf_header.specs.declared.reading.Header.{Header}
use Rattle.ddf_copy.specs.declared.copy.DiskCopy.{DiskCopy}
use Rattle.ddf_copy.specs.declared.newest_copy.Newest.{Newest}
use Rattle.ddf_copy.specs.declared.newest_copy.Newest.TheVariants.{Level}
use Rattle.ddf_copy.specs.declared.which.Which.TheVariants.{Primary}
use Rattle.ddf_copy.specs.Copies.{newest_at, newest_under}
use Rattle.ddf_copy.specs.Headers.{written_as}
use Rattle.ddf_config.specs.declared.seat.Seat.{Seat}
use Rattle.ddf_plan.specs.declared.change.Change.{Change}
use Rattle.ddf_rewrite.specs.Before.{before}
use Rattle.ddf_rewrite.proofs.Lists.{all_at, some_same}
use Rattle.ddf_update.specs.Update.{AreBoth}
use Rattle.ddf_seats.specs.declared.seated.Seated.{Seated}
use Rattle.ddf_steps.specs.Asked.{CanBeAsked}
use Rattle.ddf_steps.specs.Committed.{IsRewritten}
use Rattle.ddf_seats.specs.Group.{GroupValue, floor_of}
use Rattle.ddf_steps.specs.Ready.{group_after}
use Rattle.ddf_recovery.specs.Ready.{readied}
use Rattle.ddf_seats.specs.Seated.{with_level, seated, seats_in, views_in, levelled}
use Rattle.ddf_steps.specs.Steps.{Step, config_after}
use Rattle.ddf_seats.specs.Changing.{SlotsRise}
use Rattle.ddf_steps.proofs.CommittedLevels.{level_else, level_here, slot_or_none}
use Rattle.ddf_recovery.proofs.CommittedReadied.{disks_rewritten}
use Rattle.ddf_seats.proofs.CommittedSeats.{seated_is}
use Rattle.ddf_recovery.proofs.LeftGroup.{one_step}
use Rattle.ddf_recovery.proofs.LeftStep.{long_still}
use Rattle.ddf_history_steps.specs.Floors.{HasFloor}
use Rattle.ddf_group_commands.specs.Written.{IsBeside, IsWritten}
use Rattle.ddf_history_steps.specs.BlockFloors.{AreFloored, IsFloored}
use Rattle.ddf_history_steps.proofs.Floored.{group_floored}
use Rattle.ddf_uncut_group.specs.Settled.{AreMembers, AreSettledAs, IsToldByAll, newest_held}
use Rattle.ddf_uncut_group.proofs.SettledLists.{same_list}
use Rattle.ddf_uncut_group.proofs.SettledStep.{disk_there, disks_behind, settled_behind, told_behind}

-- ---- newest copies

-- how many there are
pub length_held : (sizes : List ℕ) (image : Image) (first : ℕ) (left : List Bool) → length (newest_held sizes image first left) ≡ length left
length_held sizes image first [] = refl
length_held sizes image first (out ∷ left) = ap suc (length_held sizes image (suc first) left)

abbrev pub held_or : (sizes : List ℕ) → Image → (slot : ℕ) → (out : Bool) → Option Newest
held_or sizes image slot out = if out then None else newest_at (slice_index sizes slot) (image slot)

-- that of one of the slots
pub held_at : (sizes : List ℕ) (image : Image) (first : ℕ) (left : List Bool) (slot : ℕ) (out : Bool) → slice_get left slot ≡ Some out
    → slice_get (newest_held sizes image first left) slot ≡ Some (held_or sizes image (first + slot) out)
held_at sizes image first [] slot out at = absurd cc
held_at sizes image first (here ∷ left) zero out at =
    let same : here ≡ out = cc in
    let place : first ≡ first + 0 = omega arith in
    ap (λ (b : Bool). Some (held_or sizes image first b)) same ∙ ap (λ (s : ℕ). Some (held_or sizes image s out)) place
held_at sizes image first (here ∷ left) (suc slot) out at =
    let place : suc first + slot ≡ first + suc slot = omega arith in
    held_at sizes image (suc first) left slot out at ∙ ap (λ (s : ℕ). Some (held_or sizes image s out)) place

-- that of a slot from the first on
pub held_first : (sizes : List ℕ) (image : Image) (left : List Bool) (slot : ℕ) (out : Bool) → slice_get left slot ≡ Some out
    → slice_get (newest_held sizes image 0 left) slot ≡ Some (held_or sizes image slot out)
held_first sizes image left slot out at = held_at sizes image 0 left slot out at ∙ ap (λ (s : ℕ). Some (held_or sizes image s out)) (zero-add slot)

-- a slot that is left out has none
not_out : (sizes : List ℕ) (image : Image) (slot : ℕ) (out : Bool) (one : Newest) → held_or sizes image slot out ≡ Some one → out ≡ false
not_out sizes image slot true one is = absurd cc
not_out sizes image slot false one is = refl

-- A slot that has a copy in both places has it as its newest.
newest_both : (size : ℕ) (sector : ℕ → List ℕ) (copy : DiskCopy) (anchor : Header) → AreBoth size sector anchor copy → written_as copy Primary ≡ copy → newest_at size sector ≡ Some (Level copy)
newest_both size sector copy anchor both as_primary =
    ap (newest_under size sector) both.is_anchored ∙ ap (λ (newest : Newest). Some newest) (both.are_level ∙ ap (λ (one : DiskCopy). Level one) as_primary)

-- ---- a step

module _ (sizes : List ℕ) (before_it after_it : Image) (left : List Bool) (group : GroupValue) (are_held : newest_held sizes before_it 0 left ≡ group.newest)
    (step : Step) (rise : SlotsRise (seats_in step.disks)) (rewrites : AllByRecursion (IsRewritten (seated group) step.config) step.disks)
    (written : IsWritten sizes before_it step after_it) where
  abbrev kept : List (Option Newest)
  kept = group.newest

  long : length left ≡ length kept
  long = sym (length_held sizes before_it 0 left) ∙ ap (λ (all : List (Option Newest)). length all) are_held

  before_at : (slot : ℕ) (out : Bool) → slice_get left slot ≡ Some out → slice_get kept slot ≡ Some (held_or sizes before_it slot out)
  before_at slot out at = sym (ap (λ (all : List (Option Newest)). slice_get all slot) are_held) ∙ held_first sizes before_it left slot out at

  disk_is : (k : ℕ) (disk : Seated) → slice_get step.disks k ≡ Some disk → IsRewritten (seated group) step.config disk
  disk_is k disk at = all_at (IsRewritten (seated group) step.config) step.disks k disk rewrites at

  -- a slot that the step writes had a newest copy
  had : (k : ℕ) (disk : Seated) → slice_get step.disks k ≡ Some disk → (one : Newest) × (slice_get kept disk.seat.slot ≡ Some (Some one))
  had k disk at =
      let is = disk_is k disk at in
      let own = seated_is group is.place is.before is.is_there in
      (own.found, subst (λ (seat : Seat). slice_get kept seat.slot ≡ Some (Some own.found)) (sym is.same_seat) own.is_found)

  after_here : (k : ℕ) (disk : Seated) (slot : ℕ) (out : Bool) → slice_get step.disks k ≡ Some disk → slot ≡ disk.seat.slot → slice_get left slot ≡ Some out
      → held_or sizes after_it slot out ≡ Some (Level disk.copy)
  after_here k disk slot out at same out_is =
      let own = had k disk at in
      let one : held_or sizes before_it slot out ≡ Some own.0 = some_same (before_at slot out out_is) (ap (λ (n : ℕ). slice_get kept n) same ∙ own.1) in
      let in_use : out ≡ false = not_out sizes before_it slot out own.0 one in
      let has = written.have_copies k disk at in
      ap (held_or sizes after_it slot) in_use
      ∙ ap (λ (n : ℕ). newest_at (slice_index sizes n) (after_it n)) same
      ∙ newest_both (slice_index sizes disk.seat.slot) (after_it disk.seat.slot) disk.copy has.anchor has.are_both (disk_is k disk at).as_primary

  after_else : (slot : ℕ) (out : Bool) → ((k : ℕ) (disk : Seated) → slice_get step.disks k ≡ Some disk → slot ≢ disk.seat.slot) → held_or sizes after_it slot out ≡ held_or sizes before_it slot out
  after_else slot out none =
      let beside : IsBeside step slot = λ k disk at same. none k disk at (sym same) in
      ap (λ (sector : ℕ → List ℕ). if out then None else newest_at (slice_index sizes slot) sector) (fun_ext (λ l. written.others slot l beside))

  -- The slots hold the newest copies of the group behind it.
  pub held_behind : newest_held sizes after_it 0 left ≡ fold with_level kept step.disks
  held_behind =
      same_list (newest_held sizes after_it 0 left) (fold with_level kept step.disks)
      (length_held sizes after_it 0 left ∙ long ∙ sym (long_still kept step.disks))
      (λ slot below.
      let counted : length (newest_held sizes after_it 0 left) ≡ length left = length_held sizes after_it 0 left in
      let out = some_at_place left slot (omega (arith, below, counted)) in
      held_first sizes after_it left slot out.0 out.1 ∙ by slot out.0 out.1)
    where
      by : (slot : ℕ) (out : Bool) → slice_get left slot ≡ Some out → Some (held_or sizes after_it slot out) ≡ slice_get (fold with_level kept step.disks) slot
      by slot out at = elim (slot_or_none step.disks slot) [
        | inl found ↦
            let own = had found.0 found.1 found.2 in
            ap (λ (newest : Option Newest). Some newest) (after_here found.0 found.1 slot out found.2 found.3 at)
            ∙ sym (ap (λ (n : ℕ). slice_get (fold with_level kept step.disks) n) found.3 ∙ level_here kept step.disks rise found.0 found.1 found.2 (slice_get_within kept found.1.seat.slot (Some own.0) own.1))
        | inr none ↦
            ap (λ (newest : Option Newest). Some newest) (after_else slot out none)
            ∙ sym (before_at slot out at) ∙ sym (level_else kept step.disks slot none)
      ]

  -- Each disk that it writes has the floor of its seat.
  pub floors_behind : AllByRecursion (λ (seat : Seat). HasFloor (slice_index sizes seat.slot) (before_it seat.slot) seat.floor) group.seats → AreFloored step.disks
      → AllByRecursion (λ (seat : Seat). HasFloor (slice_index sizes seat.slot) (after_it seat.slot) seat.floor) (seats_in step.disks)
  floors_behind have floored =
      all_from (λ (seat : Seat). HasFloor (slice_index sizes seat.slot) (after_it seat.slot) seat.floor) (seats_in step.disks)
      (λ k seat at.
      let disk = in_map (λ (one : Seated). one.seat) step.disks k seat at in
      let is = disk_is k disk.0 disk.1 in
      let own = seated_is group is.place is.before is.is_there in
      let had_floor = all_at (λ (one : Seat). HasFloor (slice_index sizes one.slot) (before_it one.slot) one.floor) group.seats own.place is.before.seat have own.is_seat in
      let floor : HasFloor (slice_index sizes disk.0.seat.slot) (before_it disk.0.seat.slot) disk.0.seat.floor =
      subst (λ (one : Seat). HasFloor (slice_index sizes one.slot) (before_it one.slot) one.floor) (sym is.same_seat) had_floor in
      let same : floor_of disk.0.copy ≡ disk.0.seat.floor = sym (all_at IsFloored step.disks k disk.0 floored disk.1) in
      subst (λ (one : Seat). HasFloor (slice_index sizes one.slot) (after_it one.slot) one.floor) disk.2
      ((written.have_copies k disk.0 disk.1).floors disk.0.seat.floor floor same))

-- ---- a step that was readied

-- What a step writes are new copies of the group's disks.
pub step_rewrites : (group : GroupValue) (told : IsToldByAll group) (change : Change) (timestamp : ℕ) (step : Step) → readied group (change ∷ []) timestamp ≡ Ok (step ∷ [])
    → AllByRecursion (IsRewritten (seated group) step.config) step.disks
step_rewrites group told change timestamp step ready =
    subst (λ (s : Step). AllByRecursion (IsRewritten (seated group) s.config) s.disks) (one_step timestamp group change step told.is_settled ready).step_is
    (disks_rewritten timestamp (before (views_in (seated group))) (config_after group.config change) (seated group))

pub levelled_floored : (disks : List Seated) → AreFloored (map levelled disks) → AreFloored disks
levelled_floored [] floored = tt
levelled_floored (disk ∷ disks) floored = (floored.0, levelled_floored disks floored.1)

-- The disks are the group behind it.
pub step_settled : (sizes : List ℕ) (old new : Image) (left : List Bool) (group : GroupValue) (change : Change) (timestamp : ℕ) (step : Step) → AreSettledAs sizes old left group
    → CanBeAsked change → timestamp < 2 ^ 32 → readied group (change ∷ []) timestamp ≡ Ok (step ∷ []) → AreMembers step.config group.seats → IsWritten sizes old step new
    → AreSettledAs sizes new left (group_after group step)
step_settled sizes old new left group change timestamp step settled asked time ready stay written =
    let there = disk_there group settled.is_told change asked timestamp time step ready stay in
    let behind = settled_behind group settled.is_told change asked timestamp time step ready there in
    let told = told_behind group settled.is_told change asked timestamp time step ready stay in
    let rewrites = step_rewrites group settled.is_told change timestamp step ready in
    let floored = levelled_floored step.disks
    (subst AreFloored (disks_behind group settled.is_told change asked timestamp time step ready there)
    (group_floored (group_after group step).newest (Some (group_after group step).config.group) (group_after group step) told.is_found)) in
    record {
      every_slot = settled.every_slot;
      are_held = held_behind sizes old new left group settled.are_held step behind.slots_rise rewrites written;
      is_told = told;
      have_floors = floors_behind sizes old new left group settled.are_held step behind.slots_rise rewrites written settled.have_floors floored;
    }
