-- How many sectors a call asks to be written.
use Rattle.std.specs.Prelude.{ℕ, ◌+◌, ◌*◌, ◌≤◌}
use Rattle.std.specs.List.{sum_by}
use Rattle.ddf_header.specs.declared.geometry.Geometry.{Geometry}
use Rattle.ddf_header.specs.declared.geometry.Section.{Section}
use Rattle.ddf_copy.specs.declared.copy.DiskCopy.{DiskCopy}
use Rattle.ddf_copy.specs.Runs.{parts_of}
use Rattle.ddf_answer.specs.Call.{Work}

-- the sectors of a copy's sections that are written
unfoldable pub copy_sectors : Geometry → ℕ
copy_sectors geometry = sum_by (λ (part : Section). part.length) (parts_of geometry)

-- the most sectors that a disk gets written with a copy: the copy in both its places, with its header twice in each, and the anchor
abbrev pub disk_sectors : DiskCopy → ℕ
disk_sectors copy = 2 * (copy_sectors copy.header.geometry + 2) + 1

-- At most so many sectors were asked to be written, and no more were written.
pub record WritesAtMost {D : Type 0} (work : Work D) (sectors : ℕ) : Type 0 where
  pub asked : work.new.sectors_asked ≤ work.old.sectors_asked + sectors
  pub written : work.new.sectors_written ≤ work.old.sectors_written + sectors
