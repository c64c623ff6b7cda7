-- What is done to the blocks of an array of a group on disks keeps the data of the group.
use Rattle.std.proofs.Common.{◌≡◌, ◌∙◌, inl, inr, ⊎_elim, ℕ, ◌<◌, ◌^◌, false, List, [], ◌∷◌, Some, Ok, sym, ap, subst}
use Rattle.std.proofs.Math.Path.{fun_ext}
use Rattle.std.specs.Prelude.{option_map}
use Rattle.ddf_bay.specs.Moments.{IsSettled}
use Rattle.ddf_bay.specs.Sectors.{Image, IsLeft}
use Rattle.ddf_bay.specs.State.{BayState}
use Rattle.ddf_config.specs.Configuration.{Configuration}
use Rattle.ddf_array.specs.Redundant.{IsRedundant}
use Rattle.ddf_array.specs.Sound.{AreSectors}
use Rattle.ddf_array.specs.Viewing.{view_of}
use Rattle.ddf_array.specs.Volume.{Volume, IsVolume}
use Rattle.ddf_read.specs.Reading.{IsOn}
use Rattle.ddf_cells.specs.Alike.{AreAlike}
use Rattle.ddf_cells.specs.Degraded.{is_degraded}
use Rattle.ddf_cells.specs.Writing.{IsLeftBut}
use Rattle.ddf_cells.proofs.Alike.{redundant_same, value_same}
use Rattle.ddf_cells.proofs.Surely.{cell_on}
use Rattle.ddf_write.specs.Writing.{HasWritten, IsAmongWrites}
use Rattle.ddf_write.proofs.WriteLeaves as writes
use Rattle.ddf_resync.specs.Resyncing.{IsAmongResynced}
use Rattle.ddf_resync.proofs.Leaves as resyncs
use Rattle.ddf_rebuild.specs.Target.{IsTargetCell}
use Rattle.ddf_rebuild.proofs.Kept as rebuilds
use Rattle.ddf_data_array.specs.Allowed.{Allowed, once_consistent, once_written, while_written}
use Rattle.ddf_data_array.specs.Changing.{IsWritable}
use Rattle.ddf_data_array.specs.Rows.{GoesOnBehind}
use Rattle.ddf_data_array.proofs.Consistent.{whole_consistent}
use Rattle.ddf_seats.specs.Group.{GroupValue}
use Rattle.ddf_history.specs.Groups.{groups}
use Rattle.ddf_history.specs.Issued.{Past}
use Rattle.ddf_history_steps.specs.AtEnd.{IsAtEnd}
use Rattle.ddf_data_group.specs.Grouped.{Promises}
use Rattle.ddf_data_history.specs.Carried.{IsAllData}
use Rattle.ddf_data_history.specs.Promised.{IsAlone, KeepsData, seats_in, with_promise}
use Rattle.ddf_data_history.proofs.Viewed.{last_alone, view_counts, view_rebuild, view_resync, view_write, view_written}
use Rattle.ddf_data_disks.specs.Seats.{AreOnSlots}
use Rattle.ddf_data_disks.proofs.Alike.{view_same}
use Rattle.ddf_data_disks.proofs.Calls.{told_by}
use Rattle.ddf_data_disks.proofs.Ended.{seats_alike}

module _ (group : List ℕ) {D : Type 0} (past : Past (groups group)) (disks : BayState D) (found : GroupValue) (end : IsAtEnd group past disks found) (floor : ℕ → ℕ) (small : (slot : ℕ) → floor slot < 2 ^ 64)
    (on : AreOnSlots group past floor found.seats) (guid : List ℕ) (v : Volume) (view : view_of found.config guid found.seats ≡ Ok v) (known : IsVolume v)
    (promises : Promises) (allowed : Allowed) (promised : promises guid ≡ Some allowed) (all : IsAllData group past floor disks promises) where
  listed : view_of found.config guid (seats_in group past floor found.config) ≡ Ok v
  listed = sym (view_same found.seats (seats_in group past floor found.config) (seats_alike group past disks found end floor on) found.config guid) ∙ view

  alone : IsAlone group past found.config
  alone = last_alone group past found.config end.is_last

  pub while_writing : (start : ℕ) (sectors : List (List ℕ)) → IsWritable v → (image : Image) → AreSectors image → IsAmongWrites v start sectors disks.may_hold image
      → KeepsData group past floor image (with_promise promises guid (Some (while_written allowed start sectors)))
  while_writing start sectors writable image are among =
      let before = writes.stop_before v start sectors disks.may_hold disks.held image end.is_left among in
      view_write group floor small past found.config guid v listed known before.0 image promises allowed (all before.0 before.1) alone promised are start sectors writable before.2

  pub once_it_is : (start : ℕ) (sectors : List (List ℕ)) → IsWritable v → (image : Image) → AreSectors image → IsAmongWrites v start sectors disks.may_hold image → HasWritten v start sectors ⊥ image
      → KeepsData group past floor image (with_promise promises guid (Some (once_written allowed start sectors)))
  once_it_is start sectors writable image are among written =
      let before = writes.stop_before v start sectors disks.may_hold disks.held image end.is_left among in
      view_written group floor small past found.config guid v listed known before.0 image promises allowed (all before.0 before.1) alone promised are start sectors writable before.2 written

  pub while_resyncing : (tells : Type 0) → tells → IsWritable v → (image : Image) → AreSectors image → IsAmongResynced v tells disks.held disks.may_hold image
      → KeepsData group past floor image (with_promise promises guid (Some allowed))
  while_resyncing tells told writable image are among =
      let before = resyncs.stop_before v tells disks.held disks.may_hold disks.held image end.is_left among in
      view_resync group floor small past found.config guid v listed known before.0 image promises allowed (all before.0 before.1) alone promised are disks.held (all disks.held end.is_left) writable
      (λ s l. ⊎_elim inl (λ given. inr (told_by v tells disks.held s l (image s l) told given)) (before.2 s l))

  pub while_rebuilding : (element position from to : ℕ) → GoesOnBehind v element position from → (image : Image) → AreSectors image → IsLeftBut (IsTargetCell v element position from to) disks.may_hold image
      → KeepsData group past floor image (with_promise promises guid (Some allowed))
  while_rebuilding element position from to behind image are left =
      let before = rebuilds.image_before v element position from to disks.may_hold disks.held image end.is_left left in
      view_rebuild group floor small past found.config guid v listed known before.0 image promises allowed (all before.0 before.1) alone promised are element position from to behind before.2

-- once nothing is pending on the array's slots, each image that is left is the same to it
module _ (group : List ℕ) {D : Type 0} (past : Past (groups group)) (disks : BayState D) (config : Configuration) (floor : ℕ → ℕ) (small : (slot : ℕ) → floor slot < 2 ^ 64)
    (alone : IsAlone group past config) (guid : List ℕ) (v : Volume) (view : view_of config guid (seats_in group past floor config) ≡ Ok v) (known : IsVolume v)
    (promises : Promises) (allowed : Allowed) (promised : promises guid ≡ Some allowed) (all : IsAllData group past floor disks promises)
    (settled : (slot : ℕ) → IsOn v slot → IsSettled disks.may_hold disks.held slot) where
  same_cells : (image : Image) → IsLeft disks.may_hold image → AreAlike v disks.held image
  same_cells image left slot lba cell = sym (settled slot (cell_on v slot lba cell) lba (image slot lba) (left slot lba))

  pub once_resynced : is_degraded v ≡ false → IsRedundant v disks.held → (image : Image) → IsLeft disks.may_hold image → AreSectors image
      → KeepsData group past floor image (with_promise promises guid (Some (once_consistent v disks.held)))
  once_resynced whole is image left are =
      let alike = same_cells image left in
      let one : once_consistent v image ≡ once_consistent v disks.held =
      fun_ext (λ (block : ℕ). ap (option_map (λ bytes. bytes ∷ [])) (sym (value_same v known disks.held image alike block))) in
      subst (λ (a : Allowed). KeepsData group past floor image (with_promise promises guid (Some a))) one
      (view_counts group floor small past config guid v view known image promises allowed (all image left) alone promised are
      (λ is_absent. whole_consistent is_absent v image whole (redundant_same v known disks.held image alike is)))
