-- The disks of a settled group that a change writes: their copies, and that each can have its new one.
use Rattle.std.proofs.Common.{◌≡◌, ℕ, ◌<◌, ◌^◌, true, List, map, Option, Some, None, refl, ap, ◌∙◌}
use Rattle.std.specs.Prelude.{filter, slice_get, unwrap_or}
use Rattle.std.specs.List.{AllByRecursion}
use Rattle.ddf_lemmas.proofs.Lists.{filter_get, filter_pass, filtered_passes, in_map, mapped_at}
use Rattle.ddf_config.specs.Configuration.{Configuration}
use Rattle.ddf_copy.specs.declared.copy.DiskCopy.{DiskCopy}
use Rattle.ddf_copy.specs.declared.newest_copy.Newest.{Newest}
use Rattle.ddf_copy.specs.Written.{CanBeCopy}
use Rattle.ddf_plan.specs.declared.change.Change.{Change}
use Rattle.ddf_plan.specs.Same.{is_step}
use Rattle.ddf_rewrite.specs.Before.{Before, before}
use Rattle.ddf_rewrite.specs.Changing.{CanChange}
use Rattle.ddf_rewrite.specs.Copies.{changed_copy}
use Rattle.ddf_rewrite.proofs.Lists.{all_at}
use Rattle.ddf_rewrite.proofs.Roomy.{change_can, roomy_change_can}
use Rattle.ddf_seats.specs.declared.seated.Seated.{Seated}
use Rattle.ddf_steps.specs.Asked.{CanBeAsked}
use Rattle.ddf_steps.specs.Full.{full_where_written}
use Rattle.ddf_seats.specs.Group.{GroupValue, copy_at}
use Rattle.ddf_steps.specs.Refusing.{step_refusal}
use Rattle.ddf_seats.specs.Seated.{seated, slots_in, views_in}
use Rattle.ddf_assembly.specs.Settled.{IsLevelIn, IsSettledGroup}
use Rattle.ddf_steps.specs.Steps.{config_after, disks_after, rewritten, stays_in}
use Rattle.ddf_seats.specs.Changing.{AreCopies, CanBeHeldOn}
use Rattle.ddf_steps.specs.Trying.{CanTry}
use Rattle.ddf_steps.proofs.Following.{copies_are, next_held, room_for}
use Rattle.ddf_steps.proofs.OneLength.{HasRoom, can_try_all, led_by_all, room_on}
use Rattle.ddf_steps.proofs.Rewritten.{capacities}
use Rattle.ddf_steps.proofs.StepConfig.{has_room, no_cause}
use Rattle.ddf_recovery.proofs.Committed.{no_copy}
use Rattle.ddf_history_steps.specs.Kept.{is_slot}
use Rattle.ddf_history_steps.proofs.Slots.{slot_is, slot_placed}

-- ---- the copy of a slot

-- the copy that stands for a slot
pub copy_in : List (Option Newest) → ℕ → DiskCopy
copy_in newest slot = unwrap_or (copy_at newest slot) no_copy

-- Where one does it is that.
pub copy_found : (newest : List (Option Newest)) (slot : ℕ) (copy : DiskCopy) → copy_at newest slot ≡ Some copy → copy_in newest slot ≡ copy
unfolding copy_in
copy_found newest slot copy is = ap (λ (one : Option DiskCopy). unwrap_or one no_copy) is

-- In a settled group it is that of the disk.
pub copy_is : (found : GroupValue) → IsSettledGroup found → (place : ℕ) (disk : Seated) → slice_get (seated found) place ≡ Some disk
    → copy_in found.newest disk.seat.slot ≡ disk.copy
unfolding copy_in
copy_is found settled place disk at =
    let level = all_at (IsLevelIn found) (seated found) place disk settled.are_level at in
    rw level.is_newest refl

-- ---- the disks that stay

-- A disk of a step is one of those before it, which stays a member, with its new copy.
pub record IsRenewed (disks : List Seated) (leaders : Before) (next : Configuration) (timestamp : ℕ) (made : Seated) : Type 0 where
  pub place : ℕ
  pub disk : Seated
  pub at : slice_get disks place ≡ Some disk
  pub stays : stays_in next disk ≡ true
  pub is_made : rewritten leaders next timestamp disk ≡ made

pub renewed : (disks : List Seated) (leaders : Before) (next : Configuration) (timestamp : ℕ) (place : ℕ) (made : Seated)
    → slice_get (disks_after timestamp leaders next disks) place ≡ Some made → IsRenewed disks leaders next timestamp made
unfolding disks_after
renewed disks leaders next timestamp place made at =
    let own = in_map (rewritten leaders next timestamp) (filter (stays_in next) disks) place made at in
    let here = filter_get (stays_in next) disks place own.0 own.1 in
    record {
      place = here.0;
      disk = own.0;
      at = here.1;
      stays = all_at (λ (one : Seated). stays_in next one ≡ true) (filter (stays_in next) disks) place own.0 (filter_pass (stays_in next) disks) own.1;
      is_made = own.2;
    }

-- A slot that a step writes is that of such a disk.
pub record IsWritten (disks : List Seated) (leaders : Before) (next : Configuration) (timestamp : ℕ) (slot : ℕ) : Type 0 where
  pub made : Seated
  pub renews : IsRenewed disks leaders next timestamp made
  pub slot_is : renews.disk.seat.slot ≡ slot

pub written_at : (disks : List Seated) (leaders : Before) (next : Configuration) (timestamp place slot : ℕ)
    → slice_get (slots_in (disks_after timestamp leaders next disks)) place ≡ Some slot
    → (made : Seated) × (slice_get (disks_after timestamp leaders next disks) place ≡ Some made) × (made.seat.slot ≡ slot)
written_at disks leaders next timestamp place slot at = in_map (λ (disk : Seated). disk.seat.slot) (disks_after timestamp leaders next disks) place slot at

pub is_written : (disks : List Seated) (leaders : Before) (next : Configuration) (timestamp slot : ℕ)
    → is_slot (slots_in (disks_after timestamp leaders next disks)) slot ≡ true → IsWritten disks leaders next timestamp slot
is_written disks leaders next timestamp slot is =
    let there = slot_placed (slots_in (disks_after timestamp leaders next disks)) slot is in
    let made = written_at disks leaders next timestamp there.0 slot there.1 in
    let own = renewed disks leaders next timestamp there.0 made.0 made.1 in
    record { made = made.0; renews = own; slot_is = ap (λ (disk : Seated). disk.seat.slot) own.is_made ∙ made.2 }

-- The slot of each disk that stays is written.
pub stays_written : (disks : List Seated) (leaders : Before) (next : Configuration) (timestamp place : ℕ) (disk : Seated) → slice_get disks place ≡ Some disk
    → stays_in next disk ≡ true → is_slot (slots_in (disks_after timestamp leaders next disks)) disk.seat.slot ≡ true
unfolding disks_after
stays_written disks leaders next timestamp place disk at stays =
    let kept = filtered_passes (stays_in next) disks place disk at stays in
    let all = map (rewritten leaders next timestamp) (filter (stays_in next) disks) in
    let made = mapped_at (rewritten leaders next timestamp) (filter (stays_in next) disks) kept.0 disk kept.1 in
    slot_is (slots_in all) kept.0 disk.seat.slot (mapped_at (λ (one : Seated). one.seat.slot) all kept.0 (rewritten leaders next timestamp disk) made)

-- ---- what the disks can have

module _ (found : GroupValue) (settled : IsSettledGroup found) (timestamp : ℕ) (time : timestamp < 2 ^ 32) (change : Change) (asked : CanBeAsked change)
    (not_refused : step_refusal timestamp None found.config (seated found) change ≡ None) (is_change : is_step found.config change ≡ true) where
  abbrev disks : List Seated
  disks = seated found

  abbrev next : Configuration
  next = config_after found.config change

  abbrev led : Before
  led = before (views_in disks)

  room : HasRoom timestamp led next disks
  room = room_for timestamp found.config next disks change refl (has_room timestamp found.config disks change not_refused is_change)

  copies : AreCopies disks
  copies = copies_are found.config disks settled.can_be_changed.of_group

  held : CanBeHeldOn next disks
  held = next_held found.config disks change copies settled.can_be_changed.can_hold asked (no_cause timestamp found.config disks change not_refused)

  tries : AllByRecursion (CanTry led next) disks
  tries = can_try_all led next disks copies room.same (led_by_all disks copies) held

  -- Each disk that stays can have its new copy.
  pub can_change : (place : ℕ) (disk : Seated) → slice_get disks place ≡ Some disk → stays_in next disk ≡ true → CanChange disk.copy led next timestamp
  can_change place disk at stays =
      let try = all_at (CanTry led next) disks place disk tries at in
      change_can disk.copy led next timestamp try.is_copy try.holdable
      (room_on led next timestamp disk stays (all_at (λ (one : Seated). full_where_written led next timestamp one ≡ None) disks place disk room.none at))

  -- This can be written.
  pub new_is_copy : (place : ℕ) (disk : Seated) → slice_get disks place ≡ Some disk → stays_in next disk ≡ true → CanBeCopy (changed_copy disk.copy led next timestamp)
  new_is_copy place disk at stays =
      let try = all_at (CanTry led next) disks place disk tries at in
      roomy_change_can disk.copy led next timestamp try.is_copy try.holdable try.leaders_held time
      (λ n wanted there none. capacities disk.copy.header.geometry.max_members next try.holdable n wanted there)
      (room_on led next timestamp disk stays (all_at (λ (one : Seated). full_where_written led next timestamp one ≡ None) disks place disk room.none at))
