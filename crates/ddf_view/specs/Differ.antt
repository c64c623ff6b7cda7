-- The least difference of two views of one group (profile): in a disk, in an array, or in an element that both hold.
use Rattle.std.specs.Prelude.{ℕ, Bool, true, false, not, ◌&&◌, ◌||◌, ◌==◌, List, [], ◌∷◌, ◌++◌, map, filter, find, Option, Some, None, option_map, is_none, if◌then◌else◌}
use Rattle.std.specs.List.{enumerate_from, reduce}
use Rattle.std.specs.Option.{option_eq}
use Rattle.std.specs.Int.RustNames.{bit_and}
use Rattle.std.specs.declared.cmp.Ordering.{Ordering}
use Rattle.std.specs.Ordering.{min_by_ordering, nat_cmp, ordering_then}
use Rattle.std.specs.Str.{bytes_eq}
use Rattle.std.specs.Cmp.Lexicographic.{pointwise, slice_cmp}
use Rattle.ddf_bytes.specs.Choices.{first_of}
use Rattle.ddf_tables.specs.declared.disks.DiskEntry.{DiskEntry}
use Rattle.ddf_tables.specs.declared.disks.DiskRow.{DiskRow}
use Rattle.ddf_tables.specs.declared.disks.DiskRow.TheVariants as disk_rows
use Rattle.ddf_tables.specs.declared.arrays.ArrayEntry.{ArrayEntry}
use Rattle.ddf_tables.specs.declared.arrays.ArrayRow.{ArrayRow}
use Rattle.ddf_tables.specs.declared.arrays.ArrayRow.TheVariants as array_rows
use Rattle.ddf_config_records.specs.declared.place.Place.{Place}
use Rattle.ddf_config_records.specs.ElementValue.{ElementValue}
use Rattle.ddf_view.specs.View.{View, HeldRecord, has_bit, find_held}
use Rattle.ddf_view.specs.Reading.{plan_of}
use Rattle.ddf_view.specs.Shows.{same_plan}
use Rattle.ddf_view.specs.declared.difference.Difference.{Difference}
use Rattle.ddf_view.specs.declared.difference.Difference.TheVariants as differences

-- the first of the least items, where there are some
abbrev pub least : {X : Type 0} → (X → X → Ordering) → List X → Option X
least compare items = reduce (λ best item. min_by_ordering (compare best item) best item) items

-- ---- disks

-- The type as it is compared. Of a disk that is being rebuilt, and is no spare for every array, bit 3 isn't: there it tells Linux that the
-- disk is being filled, and only the disks that Linux reads have it.
abbrev pub told_kind : DiskEntry → ℕ
told_kind disk = if has_bit disk.state.0 2 && not (has_bit disk.kind.0 2) then bit_and disk.kind.0 0xFFF7 else disk.kind.0

abbrev pub same_disk : (ℕ × DiskEntry) → (ℕ × DiskEntry) → Bool
same_disk one other =
    one.0 == other.0 && bytes_eq one.1.guid other.1.guid && told_kind one.1 == told_kind other.1 && one.1.state.0 == other.1.state.0
    && one.1.size == other.1.size

-- a disk with its place among the used entries
abbrev pub numbered_disk : (reference : ℕ) → List DiskEntry → Option (ℕ × DiskEntry)
numbered_disk reference disks = find (λ pair. pair.1.reference == reference) (enumerate_from 0 disks)

abbrev pub disk_differs : (one other : List DiskEntry) → (reference : ℕ) → Bool
disk_differs one other reference = not (option_eq same_disk (numbered_disk reference one) (numbered_disk reference other))

abbrev pub differing_disks : (one other : List DiskEntry) → List ℕ
differing_disks one other = filter (disk_differs one other) (map (λ disk. disk.reference) (one ++ other))

-- Two rows at one place have one disk alike, or none. Tables all of whose rows are so don't differ in a disk.
abbrev pub same_disk_row : DiskRow → DiskRow → Bool
same_disk_row (disk_rows.Entry one) (disk_rows.Entry other) = one.reference == other.reference && same_disk (0, one) (0, other)
same_disk_row (disk_rows.Entry one) (disk_rows.Unused whole) = false
same_disk_row (disk_rows.Unused whole) (disk_rows.Entry other) = false
same_disk_row (disk_rows.Unused whole) (disk_rows.Unused others) = true

-- ---- arrays

abbrev pub same_array : (ℕ × ArrayEntry) → (ℕ × ArrayEntry) → Bool
same_array one other =
    one.0 == other.0 && one.1.number == other.1.number && one.1.state == other.1.state && one.1.init == other.1.init
    && bytes_eq one.1.name other.1.name

abbrev pub numbered_array : (guid : List ℕ) → List ArrayEntry → Option (ℕ × ArrayEntry)
numbered_array guid arrays = find (λ pair. bytes_eq pair.1.guid guid) (enumerate_from 0 arrays)

abbrev pub array_differs : (one other : List ArrayEntry) → (guid : List ℕ) → Bool
array_differs one other guid = not (option_eq same_array (numbered_array guid one) (numbered_array guid other))

abbrev pub differing_arrays : (one other : List ArrayEntry) → List (List ℕ)
differing_arrays one other = filter (array_differs one other) (map (λ entry. entry.guid) (one ++ other))

-- two rows at one place have one array alike, or none
abbrev pub same_array_row : ArrayRow → ArrayRow → Bool
same_array_row (array_rows.Entry one) (array_rows.Entry other) = bytes_eq one.guid other.guid && same_array (0, one) (0, other)
same_array_row (array_rows.Entry one) (array_rows.Unused whole) = false
same_array_row (array_rows.Unused whole) (array_rows.Entry other) = false
same_array_row (array_rows.Unused whole) (array_rows.Unused others) = true

-- ---- elements

abbrev pub same_member_place : Place → Place → Bool
same_member_place one other = one.reference == other.reference && one.start == other.start

-- all named fields but the timestamp and the block size
unfoldable pub same_record : ElementValue → ElementValue → Bool
same_record one other =
    bytes_eq one.array other.array && one.sequence == other.sequence && one.strip == other.strip && one.level == other.level
    && one.qualifier == other.qualifier && one.elements == other.elements && one.index == other.index && one.secondary == other.secondary
    && one.blocks == other.blocks && one.size == other.size && bytes_eq one.spares other.spares && pointwise same_member_place one.members other.members

-- Where both have valid notes, the positions in sync, the rebuild rows and the disk that stands in are compared too.
abbrev pub same_notes : HeldRecord → HeldRecord → Bool
same_notes one other = is_none one.note || is_none other.note || same_plan true (plan_of [] one.note one.element) (plan_of [] other.note other.element)

abbrev pub same_held : HeldRecord → HeldRecord → Bool
same_held one other = same_record one.element other.element && same_notes one other

abbrev pub held_differ : Option HeldRecord → Option HeldRecord → Bool
held_differ None other = false
held_differ (Some one) None = false
held_differ (Some one) (Some other) = not (same_held one other)

-- both hold an element, and differ in it
abbrev pub element_differs : (one other : List HeldRecord) → (List ℕ × ℕ) → Bool
element_differs one other key = held_differ (find_held key.0 key.1 one) (find_held key.0 key.1 other)

abbrev pub key_of : HeldRecord → List ℕ × ℕ
key_of held = (held.element.array, held.element.index)

-- by the bytes of the GUID, then by the place among the elements
abbrev pub key_cmp : (List ℕ × ℕ) → (List ℕ × ℕ) → Ordering
key_cmp one other = ordering_then (slice_cmp nat_cmp one.0 other.0) (nat_cmp one.1 other.1)

abbrev pub differing_elements : (one other : List HeldRecord) → List (List ℕ × ℕ)
differing_elements one other = filter (element_differs one other) (map key_of one)

-- ---- all

abbrev pub element_difference : (List ℕ × ℕ) → Difference
element_difference key = differences.Element key.0 key.1

-- Disks come first, by reference, then arrays, by GUID, then elements, by array and place.
unfoldable pub difference : (one other : View) → Option Difference
difference one other = first_of (
    option_map differences.Disk (least nat_cmp (differing_disks one.disks other.disks))
    ∷ option_map differences.Array (least (slice_cmp nat_cmp) (differing_arrays one.arrays other.arrays))
    ∷ option_map element_difference (least key_cmp (differing_elements one.elements other.elements))
    ∷ [])

-- two slots agree
abbrev pub agree : (one other : View) → Bool
agree one other = is_none (difference one other)
