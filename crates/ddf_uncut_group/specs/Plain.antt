-- What stays of the copies of a new group's disks, whatever the group records in them.
use Rattle.std.specs.Prelude.{◌≡◌, ◌≤◌, ℕ, ◌-◌, false, [], List, length, slice_get, slice_index, Option, Some}
use Rattle.std.specs.List.{AllByRecursion}
use Rattle.ddf_update.specs.declared.new_layout.NewLayout.TheVariants.{Small}
use Rattle.ddf_update.specs.NewCopies.{new_geometry, new_log}
use Rattle.ddf_update.specs.NewLayouts.{primary_back, rows_of, secondary_back, slots_of}
use Rattle.ddf_config.specs.Configuration.{Configuration}
use Rattle.ddf_copy.specs.declared.copy.DiskCopy.{DiskCopy}
use Rattle.ddf_copy.specs.declared.newest_copy.Newest.{Newest}
use Rattle.ddf_copy.specs.Copies.{standing_copy}
use Rattle.ddf_rewrite.specs.Placement.{is_others}
use Rattle.ddf_rewrite.specs.Spares.{arrays_of_spare}
use Rattle.ddf_rewrite.specs.Wanted.{all_wanted}
use Rattle.ddf_seats.specs.declared.seated.Seated.{Seated}

-- A copy is as a small new disk of so many sectors has it: its sections lie at the same places, its slots are as many of this engine's own records, and its bad block log is empty.
pub record IsPlain (size : ℕ) (copy : DiskCopy) : Type 0 where
  pub same_geometry : copy.header.geometry ≡ new_geometry Small size
  pub primary : copy.header.primary_lba ≡ size - primary_back Small
  pub secondary : copy.header.secondary_lba ≡ size - secondary_back Small
  pub counted : length copy.slots ≡ slots_of Small
  pub own : AllByRecursion (λ slot. is_others slot ≡ false) copy.slots
  pub none_bad : copy.bad ≡ Some new_log

-- The copy of each disk is so, by the size of the disk's slot.
abbrev pub ArePlain : (sizes : List ℕ) → List Seated → Type 0
ArePlain sizes disks = AllByRecursion (λ disk. IsPlain (slice_index sizes disk.seat.slot) disk.copy) disks

-- So is the copy that stands for each slot, by the newest copies of slots of these sizes.
abbrev pub HavePlain : (sizes : List ℕ) → List (Option Newest) → Type 0
HavePlain sizes newest = (slot : ℕ) (one : Newest) (copy : DiskCopy) → slice_get newest slot ≡ Some (Some one) → standing_copy one ≡ Some copy → IsPlain (slice_index sizes slot) copy

-- A configuration that such copies have room for: members and arrays in their tables, and elements beside the notes and a spare record. No member is
-- a spare for some of the arrays alone.
pub record HasRoom (config : Configuration) : Type 0 where
  pub members : length config.members ≤ rows_of Small
  pub arrays : length config.arrays ≤ rows_of Small
  pub elements : length (all_wanted config) ≤ slots_of Small - 2
  pub none_dedicated : AllByRecursion (λ entry. arrays_of_spare entry.1.spare ≡ []) config.members
