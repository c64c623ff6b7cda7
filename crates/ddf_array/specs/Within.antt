-- Which disks an array can do without, and whether it can do without any (SNIA DDF 2.0).
use Rattle.std.specs.Prelude.{Bool, ◌&&◌, ◌||◌, nat_le, length}
use Rattle.std.specs.List.{list_any}
use Rattle.ddf_config.specs.Within.{has_enough, has_enough_parts}
use Rattle.ddf_array.specs.declared.part.Part.{Part}
use Rattle.ddf_array.specs.Places.{is_available}
use Rattle.ddf_primary.specs.Needs.{need_by}
use Rattle.ddf_array.specs.Levels.{keeps_copies, keeps_parity}
use Rattle.ddf_array.specs.Volume.{Volume}
use Rattle.ddf_array.specs.Cells.{is_in_every}

-- that an element has enough available positions for what it needs
abbrev pub is_part_within : Part → Bool
is_part_within part = has_enough (need_by part.shape.layout) is_available part.places

-- that the elements are copies of each other
abbrev pub is_mirrored : Volume → Bool
is_mirrored volume = is_in_every volume.tiers.level && nat_le 2 (length volume.parts)

-- that each element is within its level, or for a mirrored array one of them
abbrev pub is_within : Volume → Bool
is_within volume = has_enough_parts (is_mirrored volume) is_part_within volume.parts

-- the levels that keep data in more than one place: RAID 1, 1E, 4 and 5
abbrev pub keeps_more : Part → Bool
keeps_more part = keeps_copies part.shape.layout || keeps_parity part.shape.layout

-- that the array keeps what it holds in more than one place
abbrev pub is_redundant : Volume → Bool
is_redundant volume = is_mirrored volume || list_any keeps_more volume.parts
