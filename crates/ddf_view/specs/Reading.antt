-- The configuration that copies of one group give together, the first disk first (SNIA DDF 2.0).
use Rattle.std.specs.Prelude.{ℕ, Bool, false, not, ◌&&◌, ◌||◌, ◌==◌, List, [], ◌∷◌, map, filter, filter_map, Option, Some, None, option_map, is_some, if◌then◌else◌}
use Rattle.std.specs.List.{enumerate_from, list_any, flat_map, range_with_len}
use Rattle.std.specs.Option.{option_map_or}
use Rattle.std.specs.Str.{bytes_eq}
use Rattle.ddf_bytes.specs.Choices.{first_of}
use Rattle.ddf_tables.specs.declared.disks.DiskEntry.{DiskEntry}
use Rattle.ddf_tables.specs.declared.arrays.ArrayEntry.{ArrayEntry}
use Rattle.ddf_config_records.specs.declared.place.Place.{Place}
use Rattle.ddf_config_records.specs.ElementValue.{ElementValue}
use Rattle.ddf_config_records.specs.declared.notes.SlotNote.{SlotNote}
use Rattle.ddf_config_records.specs.Bits.{is_among}
use Rattle.ddf_config.specs.declared.member.SpareUse.{SpareUse}
use Rattle.ddf_config.specs.declared.member.SpareUse.TheVariants as spares
use Rattle.ddf_config.specs.declared.member.Member.{Member}
use Rattle.ddf_config.specs.declared.element.Position.{Position}
use Rattle.ddf_config.specs.declared.array.Array.{Array}
use Rattle.ddf_config.specs.ElementValue.{ElementValue as ElementPlan}
use Rattle.ddf_config.specs.Configuration.{Configuration}
use Rattle.ddf_view.specs.View.{View, HeldRecord, has_bit, is_missing, find_disk, find_held, find_note}

-- ---- what is there to read

-- the disks and the arrays are those of the first view
abbrev pub disks_in : List View → List DiskEntry
disks_in [] = []
disks_in (view ∷ views) = view.disks

abbrev pub arrays_in : List View → List ArrayEntry
arrays_in [] = []
arrays_in (view ∷ views) = view.arrays

-- the records that count are those of all views
abbrev pub elements_in : List View → List HeldRecord
elements_in views = flat_map (λ view. view.elements) views

abbrev pub are_noted : List View → Bool
are_noted views = list_any (λ view. view.noted) views

-- ---- an element

-- Without notes a position is in sync where its disk is a current member that is online (bit 0) and isn't being rebuilt (bit 2).
abbrev pub is_good : DiskEntry → Bool
is_good disk = not (is_missing disk) && has_bit disk.state.0 0 && not (has_bit disk.state.0 2)

abbrev pub is_synced : List DiskEntry → Option SlotNote → (position : ℕ) → Place → Bool
is_synced disks None position place = option_map_or is_good (find_disk place.reference disks) false
is_synced disks (Some note) position place = not (is_among note.out position)

abbrev pub row_of : Option SlotNote → (position : ℕ) → ℕ
row_of None position = 0
row_of (Some note) position = if note.position == position then note.row else 0

abbrev pub position_of : List DiskEntry → Option SlotNote → (position : ℕ) → Place → Position
position_of disks note position place = record {
  reference = place.reference;
  start = place.start;
  synced = is_synced disks note position place;
  row = row_of note position;
}

-- Without notes no disk stands in.
abbrev pub stand_in_of : Option SlotNote → ℕ
stand_in_of None = 0
stand_in_of (Some note) = note.stand_in

-- the element of a record, by the states of the disks and by a note, where there is one
unfoldable pub plan_of : List DiskEntry → Option SlotNote → ElementValue → ElementPlan
plan_of disks note element = record {
  level = element.level;
  qualifier = element.qualifier;
  strip = element.strip;
  blocks = element.blocks;
  stand_in = stand_in_of note;
  positions = map (λ pair. position_of disks note pair.0 pair.1) (enumerate_from 0 element.members);
}

abbrev pub element_in : List DiskEntry → List HeldRecord → (array : List ℕ) → (index : ℕ) → Option ElementPlan
element_in disks elements array index = option_map (λ held. plan_of disks (find_note array index elements) held.element) (find_held array index elements)

-- ---- an array

-- The record of the least element that is held: it names how many there are, and the secondary level. There are at most 16 (profile).
unfoldable pub naming_record : List HeldRecord → (array : List ℕ) → Option HeldRecord
naming_record elements array = first_of (map (λ index. find_held array index elements) (range_with_len 0 16))

-- How many elements the array has. Where none is held it has one, of which no disk tells.
abbrev pub count_in : List HeldRecord → (array : List ℕ) → ℕ
count_in elements array = option_map_or (λ held. held.element.elements) (naming_record elements array) 1

abbrev pub secondary_in : List HeldRecord → (array : List ℕ) → ℕ
secondary_in elements array = option_map_or (λ held. held.element.secondary) (naming_record elements array) 0

unfoldable pub array_in : List DiskEntry → List HeldRecord → ArrayEntry → Array
array_in disks elements entry = record {
  name = entry.name;
  number = entry.number;
  secondary = secondary_in elements entry.guid;
  elements = map (element_in disks elements entry.guid) (range_with_len 0 (count_in elements entry.guid));
  state = entry.state;
  init = entry.init;
}

-- ---- spares

-- the records of an array's elements, without those past their number
abbrev pub records_of : List HeldRecord → (array : List ℕ) → List HeldRecord
records_of elements array = filter_map (λ index. find_held array index elements) (range_with_len 0 (count_in elements array))

-- an element of the array lists the disk among its associated spares
abbrev pub is_associated : List HeldRecord → (reference : ℕ) → (array : List ℕ) → Bool
is_associated elements reference array = list_any (λ held. list_any (λ spare. spare == reference) held.element.spares) (records_of elements array)

-- A view is that of the disk, and its spare record names the array.
abbrev pub names_array : (reference : ℕ) → (array : List ℕ) → View → Bool
names_array reference array view = view.reference == reference && option_map_or (λ arrays. list_any (bytes_eq array) arrays) view.spare false

-- The arrays that a disk is a dedicated spare of. Where no view has valid notes its own spare record counts too. An array without
-- any element has no spare.
abbrev pub is_dedicated : List View → (reference : ℕ) → ArrayEntry → Bool
is_dedicated views reference entry =
    is_associated (elements_in views) reference entry.guid
    || (not (are_noted views) && is_some (naming_record (elements_in views) entry.guid) && list_any (names_array reference entry.guid) views)

abbrev pub dedicated_or_not : List (List ℕ) → SpareUse
dedicated_or_not [] = spares.No
dedicated_or_not (array ∷ arrays) = spares.Dedicated (array ∷ arrays)

-- A spare for every array where the type says so (bit 2), which gives its place back where bit 3 is set too (profile); else as else.
abbrev pub spare_of_kind : (kind : ℕ) → (otherwise : SpareUse) → SpareUse
spare_of_kind kind otherwise = if has_bit kind 2 then (if has_bit kind 3 then spares.Revertible else spares.Global) else otherwise

-- what the type says, and of another disk the arrays that it is dedicated to, in table order
unfoldable pub spare_in : List View → DiskEntry → SpareUse
spare_in views disk =
    spare_of_kind disk.kind.0 (dedicated_or_not (map (λ entry. entry.guid) (filter (is_dedicated views disk.reference) (arrays_in views))))

-- ---- the configuration

abbrev pub member_in : List View → DiskEntry → Member
member_in views disk = record { guid = disk.guid; size = disk.size; missing = is_missing disk; spare = spare_in views disk }

-- the entries of a member and of an array, by reference and by GUID
abbrev pub member_entry_in : List View → DiskEntry → ℕ × Member
member_entry_in views disk = (disk.reference, member_in views disk)

abbrev pub array_entry_in : List View → ArrayEntry → List ℕ × Array
array_entry_in views entry = (entry.guid, array_in (disks_in views) (elements_in views) entry)

-- the configuration of a group at a sequence, as these views give it
unfoldable pub read : (group : List ℕ) → (sequence : ℕ) → List View → Configuration
read group sequence views = record {
  group = group;
  sequence = sequence;
  members = map (member_entry_in views) (disks_in views);
  arrays = map (array_entry_in views) (arrays_in views);
}
