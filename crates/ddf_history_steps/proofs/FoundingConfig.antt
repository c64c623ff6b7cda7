-- The founding configuration by its parts: the group, the first sequence, a current member for each disk that is no spare, and no array.
use Rattle.std.proofs.Common.{◌≡◌, ℕ, zero, suc, ◌-◌, false, List, [], ◌∷◌, ◌++◌, length, replicate, refl, ap, ◌∙◌, filter_map, map}
use Rattle.ddf_bytes.specs.declared.stamp.Stamp.{Stamp}
use Rattle.ddf_header.specs.declared.kind.Revision.{Revision}
use Rattle.ddf_tables.specs.declared.disks.DiskEntry.{DiskEntry}
use Rattle.ddf_tables.specs.declared.disks.DiskRow.TheVariants.{Unused}
use Rattle.ddf_config.specs.declared.member.Member.{Member}
use Rattle.ddf_config.specs.declared.member.SpareUse.TheVariants.{No}
use Rattle.ddf_config.specs.Configuration.{Configuration}
use Rattle.ddf_update.specs.declared.new_layout.NewLayout.{NewLayout}
use Rattle.ddf_update.specs.NewCopies.{disk_guid, entries_from, group_of, new_copy, reference_at}
use Rattle.ddf_update.specs.NewLayouts.{rows_of, workspace_back}
use Rattle.ddf_view.specs.View.{View, disk_of}
use Rattle.ddf_view.specs.Reading.{member_entry_in, read, spare_in}
use Rattle.ddf_history_steps.specs.Founding.{founding_config}
use Rattle.ddf_history_steps.proofs.FoundingRows.{new_disk_list, new_view}
use Rattle.ddf_history_steps.proofs.FoundingViews.{plain_view}

-- the members of disks of these sizes, from a place on: each has the sectors before its workspace
abbrev pub members_from : NewLayout → Stamp → (place : ℕ) → List ℕ → List (ℕ × Member)
members_from layout stamp place [] = []
members_from layout stamp place (size ∷ sizes) =
    (reference_at stamp place, record { guid = disk_guid stamp place; size = size - workspace_back layout; missing = false; spare = No }) ∷ members_from layout stamp (suc place) sizes

-- a configuration with these members
by_members : Stamp → List (ℕ × Member) → Configuration
by_members stamp members = record { group = group_of stamp; sequence = 1; members = members; arrays = [] }

module _ (layout : NewLayout) (revision : Revision) (stamp : Stamp) (group guid : List ℕ) (reference : ℕ) (all : List DiskEntry) where
  -- a view without arrays
  abbrev views : List View
  views = plain_view group guid reference all ∷ []

  -- An unused row is read as no member.
  none_read : (unused : ℕ) → map (member_entry_in views) (filter_map disk_of (replicate unused (Unused (replicate 64 255)))) ≡ []
  none_read zero = refl
  none_read (suc unused) = none_read unused

  -- The rows of disks are read as their members.
  members_read : (place : ℕ) (sizes : List ℕ) (unused : ℕ)
      → map (member_entry_in views) (filter_map disk_of (entries_from layout revision stamp place sizes ++ replicate unused (Unused (replicate 64 255))))
      ≡ members_from layout stamp place sizes
  unfolding spare_in
  members_read place [] unused = none_read unused
  members_read place (size ∷ sizes) unused =
      ap (λ members. (reference_at stamp place, record { guid = disk_guid stamp place; size = size - workspace_back layout; missing = false; spare = No }) ∷ members)
      (members_read (suc place) sizes unused)

-- The founding configuration has these members.
pub founding_is : (layout : NewLayout) (revision : Revision) (stamp : Stamp) (sizes : List ℕ)
    → founding_config (new_copy layout revision stamp sizes) ≡ record { group = group_of stamp; sequence = 1; members = members_from layout stamp 0 sizes; arrays = [] }
unfolding read by_members
founding_is layout revision stamp sizes =
    ap (λ (view : View). read (group_of stamp) 1 (view ∷ [])) (new_view layout revision stamp sizes 0)
    ∙ ap (by_members stamp) (members_read layout revision stamp (group_of stamp) (disk_guid stamp 0) (reference_at stamp 0) (new_disk_list layout revision stamp sizes) 0 sizes (rows_of layout - length sizes))
