use Rattle.std.proofs.Common.{◌≡◌, length, take}
use Rattle.ddf_update.specs.NewCopies.{sizes_of}
use Rattle.ddf_update.proofs.group.sizes_of.Given as goal

abbrev pub invariant-loop-size : goal.invariant-loop-size
invariant-loop-size l = record {
  end : l.size-index-end ≡ length l.fn.disks;
  so_far : l.sizes.items ≡ sizes_of (take l.size-index l.fn.disks);
}
