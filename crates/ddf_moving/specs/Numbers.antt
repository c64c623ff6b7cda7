-- The numbers of a disk's records: only disks with the same ones are in one group.
use Rattle.std.specs.Prelude.{Bool, ◌&&◌, ◌==◌, length}
use Rattle.ddf_header.specs.declared.geometry.Geometry.{Geometry}
use Rattle.ddf_copy.specs.declared.copy.DiskCopy.{DiskCopy}

-- The numbers of disks, of arrays, of members of a record, of a record's sectors, and of record slots of two disks are equal.
abbrev pub same_numbers : DiskCopy → DiskCopy → Bool
same_numbers one other =
    one.header.geometry.max_disks == other.header.geometry.max_disks
    && one.header.geometry.max_arrays == other.header.geometry.max_arrays
    && one.header.geometry.max_members == other.header.geometry.max_members
    && one.header.geometry.record_length == other.header.geometry.record_length
    && length one.slots == length other.slots

-- a record of one geometry is one of the other as it is
abbrev pub same_records : Geometry → Geometry → Bool
same_records one other = one.max_members == other.max_members && one.record_length == other.record_length
