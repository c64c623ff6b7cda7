use Rattle.std.proofs.Common.{◌≡◌, ◌++◌, drop, map, filter_map}
use Rattle.std.specs.Int.{w16}
use Rattle.ddf_bytes.specs.Bytes.{number_at}
use Rattle.ddf_view.specs.View.{disk_of}
use Rattle.ddf_rewrite.specs.Disks.{disk_on}
use Rattle.ddf_rewrite.proofs.disks.recovered_disks.Given as goal
use Rattle.ddf_tables.specs.declared.layout.TheConstants.{DISK_BLOCK_SIZE_AT}

abbrev pub invariant-loop-row : goal.invariant-loop-row
invariant-loop-row l =
    l.entries.items ++ map (λ disk. disk_on (filter_map disk_of l.own) (number_at w16 disk.rest DISK_BLOCK_SIZE_AT) disk) (filter_map disk_of (drop l.row-index l.leading))
    ≡ map (λ disk. disk_on (filter_map disk_of l.own) (number_at w16 disk.rest DISK_BLOCK_SIZE_AT) disk) (filter_map disk_of l.leading)
