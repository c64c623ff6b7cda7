-- The group of disks that were just labelled: every slot of a bay has the first copy of a small new group, in both places.
use Rattle.std.specs.Prelude.{ℕ, ◌-◌, false, List, [], length, map, Option, Some}
use Rattle.std.specs.List.{enumerate_from, range_with_len}
use Rattle.ddf_bytes.specs.declared.stamp.Stamp.{Stamp}
use Rattle.ddf_header.specs.declared.kind.Revision.{Revision}
use Rattle.ddf_config.specs.declared.member.Member.{Member}
use Rattle.ddf_config.specs.declared.member.SpareUse.TheVariants.{No}
use Rattle.ddf_config.specs.declared.seat.Seat.{Seat}
use Rattle.ddf_config.specs.Configuration.{Configuration}
use Rattle.ddf_copy.specs.declared.copy.DiskCopy.{DiskCopy}
use Rattle.ddf_copy.specs.declared.which.Which.TheVariants.{Primary}
use Rattle.ddf_copy.specs.declared.newest_copy.Newest.{Newest}
use Rattle.ddf_copy.specs.declared.newest_copy.Newest.TheVariants.{Level}
use Rattle.ddf_copy.specs.Headers.{written_as}
use Rattle.ddf_update.specs.declared.new_layout.NewLayout.TheVariants.{Small}
use Rattle.ddf_update.specs.NewCopies.{disk_guid, group_of, new_copy, reference_at}
use Rattle.ddf_update.specs.NewLayouts.{workspace_back}
use Rattle.ddf_seats.specs.Group.{GroupValue}

-- the copy of the disk at a place, as its primary place has it
abbrev pub labelled_copy : Revision → Stamp → List ℕ → (place : ℕ) → DiskCopy
labelled_copy revision stamp sizes place = written_as (new_copy Small revision stamp sizes place) Primary

-- the newest copies of all slots
abbrev pub labelled_newest : Revision → Stamp → List ℕ → List (Option Newest)
labelled_newest revision stamp sizes = map (λ place. Some (Level (labelled_copy revision stamp sizes place))) (range_with_len 0 (length sizes))

-- A disk of so many sectors at a place is a member that is no spare, and its extents end before its workspace.
abbrev pub labelled_member : Stamp → (ℕ × ℕ) → ℕ × Member
labelled_member stamp disk = (reference_at stamp disk.0, record { guid = disk_guid stamp disk.0; size = disk.1 - workspace_back Small; missing = false; spare = No })

abbrev pub labelled_seat : Stamp → (ℕ × ℕ) → Seat
labelled_seat stamp disk = record { reference = reference_at stamp disk.0; slot = disk.0; floor = disk.1 - workspace_back Small; bad = 0 }

-- a member for each disk, in the order of the slots, and no array
abbrev pub labelled_config : Stamp → List ℕ → Configuration
labelled_config stamp sizes = record {
  group = group_of stamp;
  sequence = 1;
  members = map (labelled_member stamp) (enumerate_from 0 sizes);
  arrays = [];
}

-- the group
abbrev pub labelled_group : Revision → Stamp → List ℕ → GroupValue
labelled_group revision stamp sizes = record {
  config = labelled_config stamp sizes;
  seats = map (labelled_seat stamp) (enumerate_from 0 sizes);
  absent = [];
  lagging = [];
  newest = labelled_newest revision stamp sizes;
}
