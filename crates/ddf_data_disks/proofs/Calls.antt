-- What calls on blocks promise of a bay is that only sectors of their array are others.
use Rattle.std.proofs.Common.{◌≡◌, inl, inr, ⊎_elim, ℕ, List}
use Rattle.ddf_bay.specs.Moments.{IsSettled}
use Rattle.ddf_bay.specs.Sectors.{Image, IsLeft}
use Rattle.ddf_bay.specs.State.{BayState}
use Rattle.ddf_array.specs.Volume.{Volume, IsVolume}
use Rattle.ddf_cells.specs.Writing.{AddsBut, StaysBut}
use Rattle.ddf_write.specs.Writing.{AddsWrites, IsLeftByWrite}
use Rattle.ddf_write.proofs.WriteLeaves as writes
use Rattle.ddf_resync.specs.Resyncing.{AddsResynced, IsLeftByResync, MayResync}
use Rattle.ddf_resync.proofs.Leaves as resyncs
use Rattle.ddf_rebuild.specs.Target.{IsTargetCell}
use Rattle.ddf_rebuild.proofs.Kept as rebuilds
use Rattle.ddf_data_group.proofs.Clearly.{rebuild_changes, resync_changes, write_changes}
use Rattle.ddf_data_disks.specs.Blocks.{HaveBlocksWritten}

-- what a resync may give is told of, where the bay tells what it holds
pub told_by : (v : Volume) (tells : Type 0) (first : Image) (s l : ℕ) (bytes : List ℕ) → tells → MayResync v tells first s l bytes → MayResync v (Unit {0}) first s l bytes
told_by v tells first s l bytes told given =
    ⊎_elim (λ taken. inl (record { block = taken.block; i = taken.i; is_cell = taken.is_cell; several = taken.several; held = λ t. taken.held told })) inr given

module _ {D : Type 0} (old new : BayState D) (v : Volume) (known : IsVolume v) (same_sizes : new.sizes ≡ old.sizes) (told : IsLeft old.may_hold old.held)
    (settled : (slot : ℕ) → IsSettled old.may_hold old.held slot → IsSettled new.may_hold new.held slot) where
  pub by_write : (start : ℕ) (sectors : List (List ℕ)) → IsLeftByWrite v start sectors old.held new.held → AddsWrites v start sectors old.may_hold new.may_hold → HaveBlocksWritten old new v
  by_write start sectors held adds = record {
    same_sizes = same_sizes;
    held = write_changes v start sectors old.held new.held known held;
    left = λ image left.
        let before = writes.stop_before v start sectors old.may_hold old.held image told (λ s l. adds s l (image s l) (left s l)) in
        (before.0, (before.1, write_changes v start sectors before.0 image known before.2));
    settled = settled;
  }

  pub by_resync : (tells : Type 0) → tells → IsLeftByResync v tells old.held new.held → AddsResynced v tells old.held old.may_hold new.may_hold → HaveBlocksWritten old new v
  by_resync tells is held adds = record {
    same_sizes = same_sizes;
    held = resync_changes v old.held old.held new.held known (λ s l. ⊎_elim inl (λ given. inr (told_by v tells old.held s l (new.held s l) is given)) (held s l));
    left = λ image left.
        let before = resyncs.stop_before v tells old.held old.may_hold old.held image told (λ s l. adds s l (image s l) (left s l)) in (
          before.0,
          (before.1, resync_changes v old.held before.0 image known (λ s l. ⊎_elim inl (λ given. inr (told_by v tells old.held s l (image s l) is given)) (before.2 s l))),
        );
    settled = settled;
  }

  pub by_rebuild : (element position from to : ℕ) → StaysBut (IsTargetCell v element position from to) old.held new.held → AddsBut (IsTargetCell v element position from to) old.may_hold new.may_hold
      → HaveBlocksWritten old new v
  by_rebuild element position from to held adds = record {
    same_sizes = same_sizes;
    held = rebuild_changes v element position from to old.held new.held held;
    left = λ image left.
        let before = rebuilds.image_before v element position from to old.may_hold old.held image told (λ s l. adds s l (image s l) (left s l)) in
        (before.0, (before.1, rebuild_changes v element position from to before.0 image before.2));
    settled = settled;
  }
