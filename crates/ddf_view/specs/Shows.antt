-- Whether a view shows a configuration: whether it is of the same group and sequence and, read alone, gives it, as far as it
-- tells (profile).
use Rattle.std.specs.Prelude.{ℕ, Bool, true, false, not, ◌&&◌, ◌||◌, ◌==◌, List, [], ◌∷◌, length, find, Option, Some, None, is_some, is_none}
use Rattle.std.specs.List.{enumerate_from, list_all}
use Rattle.std.specs.Option.{option_map_or}
use Rattle.std.specs.Str.{bytes_eq}
use Rattle.std.specs.Cmp.Lexicographic.{pointwise}
use Rattle.ddf_tables.specs.declared.disks.DiskEntry.{DiskEntry}
use Rattle.ddf_tables.specs.declared.arrays.ArrayEntry.{ArrayEntry}
use Rattle.ddf_config.specs.declared.member.SpareUse.{SpareUse}
use Rattle.ddf_config.specs.declared.member.SpareUse.TheVariants as spares
use Rattle.ddf_config.specs.declared.member.Member.{Member}
use Rattle.ddf_config.specs.declared.element.Position.{Position}
use Rattle.ddf_config.specs.declared.array.Array.{Array}
use Rattle.ddf_config.specs.ElementValue.{ElementValue as ElementPlan}
use Rattle.ddf_config.specs.Configuration.{Configuration}
use Rattle.ddf_view.specs.View.{View, HeldRecord, is_missing, find_held}
use Rattle.ddf_view.specs.Reading.{plan_of, naming_record, spare_in}

-- ---- the same, field by field

abbrev pub same_flag : Bool → Bool → Bool
same_flag true one = one
same_flag false one = not one

abbrev pub same_place : Position → Position → Bool
same_place one other = one.reference == other.reference && one.start == other.start

abbrev pub same_position : Position → Position → Bool
same_position one other = same_place one other && same_flag one.synced other.synced && one.row == other.row

-- Without valid notes a record tells nothing of the positions in sync, the rebuild rows and the disk that stands in.
abbrev pub same_told : (noted : Bool) → Position → Position → Bool
same_told false = same_place
same_told true = same_position

-- elements, by what is told of them
abbrev pub same_plan : (noted : Bool) → ElementPlan → ElementPlan → Bool
same_plan noted one other =
    one.level == other.level && one.qualifier == other.qualifier && one.strip == other.strip && one.blocks == other.blocks
    && (not noted || one.stand_in == other.stand_in) && pointwise (same_told noted) one.positions other.positions

abbrev pub same_spare : SpareUse → SpareUse → Bool
same_spare spares.No spares.No = true
same_spare spares.No spares.Global = false
same_spare spares.No spares.Revertible = false
same_spare spares.No (spares.Dedicated others) = false
same_spare spares.Global spares.No = false
same_spare spares.Global spares.Global = true
same_spare spares.Global spares.Revertible = false
same_spare spares.Global (spares.Dedicated others) = false
same_spare spares.Revertible spares.No = false
same_spare spares.Revertible spares.Global = false
same_spare spares.Revertible spares.Revertible = true
same_spare spares.Revertible (spares.Dedicated others) = false
same_spare (spares.Dedicated arrays) spares.No = false
same_spare (spares.Dedicated arrays) spares.Global = false
same_spare (spares.Dedicated arrays) spares.Revertible = false
same_spare (spares.Dedicated arrays) (spares.Dedicated others) = pointwise bytes_eq arrays others

-- ---- what is given

-- the entry of a member, its spare use aside
abbrev pub gives_member : DiskEntry → (ℕ × Member) → Bool
gives_member disk entry =
    disk.reference == entry.0 && bytes_eq disk.guid entry.1.guid && disk.size == entry.1.size && same_flag (is_missing disk) entry.1.missing

-- the entry of an array
abbrev pub gives_array : ArrayEntry → (List ℕ × Array) → Bool
gives_array array entry =
    bytes_eq array.guid entry.0 && bytes_eq array.name entry.1.name && array.number == entry.1.number && array.state == entry.1.state
    && array.init == entry.1.init

-- A record gives an element.
abbrev pub gives_element : HeldRecord → Option ElementPlan → Bool
gives_element held None = false
gives_element held (Some plan) = same_plan (is_some held.note) (plan_of [] held.note held.element) plan

abbrev pub gives_if_held : List HeldRecord → (array : List ℕ) → (ℕ × Option ElementPlan) → Bool
gives_if_held elements array pair = option_map_or (λ held. gives_element held pair.1) (find_held array pair.0 elements) true

-- the least element that isn't None
abbrev pub least_element : List (Option ElementPlan) → Option (ℕ × Option ElementPlan)
least_element plans = find (λ pair. is_some pair.1) (enumerate_from 0 plans)

-- The record of an array's least element, where it is held, names how many there are and the secondary level.
abbrev pub names_numbers : List HeldRecord → (List ℕ × Array) → (ℕ × Option ElementPlan) → Bool
names_numbers elements entry pair = option_map_or (λ held. held.element.elements == length entry.1.elements && held.element.secondary == entry.1.secondary)
    (find_held entry.0 pair.0 elements) true

-- Of an array without any element no record is held, of whatever element.
abbrev pub gives_numbers_of : List HeldRecord → (List ℕ × Array) → Option (ℕ × Option ElementPlan) → Bool
gives_numbers_of elements entry None = is_none (naming_record elements entry.0)
gives_numbers_of elements entry (Some pair) = names_numbers elements entry pair

abbrev pub gives_numbers : List HeldRecord → (List ℕ × Array) → Bool
gives_numbers elements entry = gives_numbers_of elements entry (least_element entry.1.elements)

abbrev pub gives_elements : List HeldRecord → (List ℕ × Array) → Bool
gives_elements elements entry = gives_numbers elements entry && list_all (gives_if_held elements entry.0) (enumerate_from 0 entry.1.elements)

-- The view shows the configuration.
unfoldable pub shows : Configuration → View → Bool
shows config view =
    view.sequence == config.sequence && bytes_eq view.group config.group
    && pointwise gives_member view.disks config.members
    && pointwise gives_array view.arrays config.arrays
    && list_all (gives_elements view.elements) config.arrays

-- ---- fully

abbrev pub holds : List HeldRecord → (array : List ℕ) → (ℕ × Option ElementPlan) → Bool
holds elements array pair = is_none pair.1 || is_some (find_held array pair.0 elements)

-- it holds every complete element
abbrev pub holds_all : List HeldRecord → (List ℕ × Array) → Bool
holds_all elements entry = list_all (holds elements entry.0) (enumerate_from 0 entry.1.elements)

abbrev pub gives_spare : View → DiskEntry → (ℕ × Member) → Bool
gives_spare view disk entry = same_spare (spare_in (view ∷ []) disk) entry.1.spare

-- The view shows the configuration, has valid notes and every complete element, and tells the spare use of each member.
unfoldable pub shows_fully : Configuration → View → Bool
shows_fully config view =
    shows config view && view.noted && list_all (holds_all view.elements) config.arrays && pointwise (gives_spare view) view.disks config.members
