-- The spares of each array, gathered once, so that a disk is looked up by its reference: in other words what the spare use of a disk is.
use Rattle.std.specs.Prelude.{ℕ, Bool, false, not, ◌&&◌, ◌==◌, List, [], ◌∷◌, ◌++◌, Option, Some, None, is_some, if◌then◌else◌}
use Rattle.std.specs.List.{flat_map, list_any, range_with_len}
use Rattle.std.specs.Option.{option_map_or}
use Rattle.std.specs.Str.{bytes_eq}
use Rattle.ddf_tables.specs.declared.disks.DiskEntry.{DiskEntry}
use Rattle.ddf_tables.specs.declared.arrays.ArrayEntry.{ArrayEntry}
use Rattle.ddf_config.specs.declared.member.SpareUse.{SpareUse}
use Rattle.ddf_config.specs.declared.member.Member.{Member}
use Rattle.ddf_view.specs.declared.spare_reading.ArraySpares.{ArraySpares}
use Rattle.ddf_view.specs.View.{View, HeldRecord, is_missing, find_held}
use Rattle.ddf_view.specs.Reading.{are_noted, count_in, dedicated_or_not, elements_in, naming_record, spare_of_kind}

-- ---- an array

abbrev pub held_spares : Option HeldRecord → List ℕ
held_spares None = []
held_spares (Some held) = held.element.spares

-- what the records of its elements list
abbrev pub listed_in : List View → (array : List ℕ) → List ℕ
listed_in views array = flat_map (λ index. held_spares (find_held array index (elements_in views))) (range_with_len 0 (count_in (elements_in views) array))

-- the disk of a view, where its spare record names the array
abbrev pub spare_names : (array : List ℕ) → View → Bool
spare_names array view = option_map_or (λ arrays. list_any (bytes_eq array) arrays) view.spare false

abbrev pub named_by : (array : List ℕ) → View → List ℕ
named_by array view = if spare_names array view then view.reference ∷ [] else []

abbrev pub counts_own : List View → (array : List ℕ) → Bool
counts_own views array = not (are_noted views) && is_some (naming_record (elements_in views) array)

abbrev pub named_in : List View → (array : List ℕ) → List ℕ
named_in views array = if counts_own views array then flat_map (named_by array) views else []

abbrev pub spares_of : List View → ArrayEntry → ArraySpares
spares_of views entry = record { array = entry.guid; references = listed_in views entry.guid ++ named_in views entry.guid }

-- ---- a disk

abbrev pub dedicated_by : (reference : ℕ) → ArraySpares → List (List ℕ)
dedicated_by reference spares = if list_any (λ spare. spare == reference) spares.references then spares.array ∷ [] else []

abbrev pub dedicated_among : List ArraySpares → (reference : ℕ) → List (List ℕ)
dedicated_among all reference = flat_map (dedicated_by reference) all

abbrev pub spare_among : List ArraySpares → DiskEntry → SpareUse
spare_among all disk = spare_of_kind disk.kind.0 (dedicated_or_not (dedicated_among all disk.reference))

abbrev pub member_with : DiskEntry → SpareUse → Member
member_with disk spare = record { guid = disk.guid; size = disk.size; missing = is_missing disk; spare = spare }

abbrev pub entry_with : DiskEntry → SpareUse → ℕ × Member
entry_with disk spare = (disk.reference, member_with disk spare)

abbrev pub member_among : List ArraySpares → DiskEntry → Member
member_among all disk = member_with disk (spare_among all disk)

abbrev pub member_entry_among : List ArraySpares → DiskEntry → ℕ × Member
member_entry_among all disk = (disk.reference, member_among all disk)
