use Rattle.std.proofs.Common.{◌≡◌, length}
use Rattle.ddf_update.specs.Group.{AreFirst}
use Rattle.ddf_update.specs.NewCopies.{new_copy, sizes_of}
use Rattle.ddf_update.proofs.group.found.Given as goal

abbrev pub invariant-loop-place : goal.invariant-loop-place
invariant-loop-place l = record {
  end : l.place-end ≡ length (sizes_of l.fn.disks);
  counted : length l.updates.items ≡ l.place;
  first : AreFirst (sizes_of l.fn.disks) (new_copy l.fn.layout l.fn.revision l.fn.stamp (sizes_of l.fn.disks)) l.updates.items;
}
