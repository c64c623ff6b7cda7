-- The disks of an exercise as they are labelled.
use Rattle.std.specs.Prelude.{ℕ}
use Rattle.ddf_bytes.specs.declared.stamp.Stamp.{Stamp}
use Rattle.ddf_update.specs.NewCopies.{disk_guid, reference_at}
use Rattle.ddf_exercise_config.specs.Disks.{Disk, Disks}

-- the disk at a place
abbrev pub new_disk : Stamp → (place : ℕ) → Disk
new_disk stamp place = record { guid = disk_guid stamp place; reference = reference_at stamp place }

abbrev pub new_disks : Stamp → Disks
new_disks stamp = record { first = new_disk stamp 0; second = new_disk stamp 1; third = new_disk stamp 2; fourth = new_disk stamp 3; fifth = new_disk stamp 4 }
