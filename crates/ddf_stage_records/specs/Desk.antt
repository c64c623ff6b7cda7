-- The desk of a disk, by its copy: the first sectors of its workspace (profile).
use Rattle.std.specs.Prelude.{ℕ, ◌+◌, ◌-◌, nat_le, Bool, not, ◌&&◌, Option, Some, None, if◌then◌else◌}
use Rattle.ddf_copy.specs.declared.copy.DiskCopy.{DiskCopy}
use Rattle.ddf_copy.specs.Room.{meets_copy}

-- The workspace is long enough, its first 18 sectors lie below the last one of the disk, and none of them is one of a header or a section.
abbrev pub has_desk : (size : ℕ) → DiskCopy → Bool
has_desk size copy =
    nat_le 18 copy.header.geometry.workspace_length
    && nat_le (copy.header.geometry.workspace_lba + 18) (size - 1)
    && not (meets_copy copy.header.primary_lba copy.header.geometry.sections copy.header.geometry.workspace_lba 18)
    && not (meets_copy copy.header.secondary_lba copy.header.geometry.sections copy.header.geometry.workspace_lba 18)

-- the LBA of its gate
abbrev pub gate_of : (size : ℕ) → DiskCopy → Option ℕ
gate_of size copy = if has_desk size copy then Some copy.header.geometry.workspace_lba else None
