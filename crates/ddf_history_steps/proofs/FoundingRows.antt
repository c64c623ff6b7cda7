-- What the copies of new disks say: one table of the disks, each of them a current member with a reference of its own.
use Rattle.std.proofs.Common.{◌≡◌, ℕ, zero, suc, ◌+◌, ◌-◌, ◌*◌, ◌<◌, ◌≤◌, ◌==◌, ◌&&◌, Bool, true, false, not, List, [], ◌∷◌, ◌++◌, length, replicate, Option, None, Some, refl, ap, sym, ◌∙◌, subst, inl, inr, arith, map, filter_map, find, nat_eq}
use Rattle.std.proofs.lemmas.Bool.{and_from, cases_eq, eq-eqb, ne_eqb}
use Rattle.std.specs.Prelude.{is_some, option_map, slice_get}
use Rattle.std.specs.List.{AllByRecursion, IsDistinct}
use Rattle.std.specs.Option.{option_map_or}
use Rattle.std.specs.Str.{bytes_eq}
use Rattle.ddf_lemmas.proofs.Lists.{bytes_same}
use Rattle.ddf_bytes.specs.declared.stamp.Stamp.{Stamp}
use Rattle.ddf_header.specs.declared.kind.Revision.{Revision}
use Rattle.ddf_tables.specs.declared.arrays.ArrayEntry.{ArrayEntry}
use Rattle.ddf_tables.specs.declared.disks.DiskEntry.{DiskEntry}
use Rattle.ddf_tables.specs.declared.disks.DiskRow.TheVariants as disk_rows
use Rattle.ddf_config_records.specs.declared.notes.Notes.{Notes}
use Rattle.ddf_config_records.specs.declared.notes.SlotNote.{SlotNote}
use Rattle.ddf_config_records.specs.declared.spare.SpareRecord.{SpareRecord}
use Rattle.ddf_config_records.specs.declared.slot.RecordSlot.{RecordSlot}
use Rattle.ddf_config_records.specs.declared.slot.RecordSlot.TheVariants as slots
use Rattle.ddf_config_records.specs.Slots.{valid_notes}
use Rattle.ddf_update.specs.declared.new_layout.NewLayout.{NewLayout}
use Rattle.ddf_update.specs.declared.new_layout.NewLayout.TheVariants.{Large, Small}
use Rattle.ddf_update.specs.NewCopies.{disk_guid, entries_from, group_of, new_arrays, new_copy, new_notes, new_slots, reference_at, unused_slot}
use Rattle.ddf_update.specs.NewLayouts.{record_length_of, rows_of, slots_of}
use Rattle.ddf_view.specs.View.{View, HeldRecord, array_of, disk_of, first_spare, held_from, is_missing, lists_current, view_of}
use Rattle.ddf_history.proofs.Since.{which}
use Rattle.ddf_history_steps.proofs.FoundingViews.{plain_view}

-- ---- the table

-- the disks of these sizes, from a place on, of a table with so many unused rows behind them
abbrev disks_from : NewLayout → Revision → Stamp → (place : ℕ) → List ℕ → (unused : ℕ) → List DiskEntry
disks_from layout revision stamp place sizes unused = filter_map disk_of (entries_from layout revision stamp place sizes ++ replicate unused (disk_rows.Unused (replicate 64 255)))

-- the disks that new copies list
abbrev pub new_disk_list : NewLayout → Revision → Stamp → List ℕ → List DiskEntry
new_disk_list layout revision stamp sizes = disks_from layout revision stamp 0 sizes (rows_of layout - length sizes)

-- An unused row lists no disk.
none_of_unused : (unused : ℕ) → filter_map disk_of (replicate unused (disk_rows.Unused (replicate 64 255))) ≡ []
none_of_unused zero = refl
none_of_unused (suc unused) = none_of_unused unused

-- The reference of a disk is none of those behind it.
later_differ : (layout : NewLayout) (revision : Revision) (stamp : Stamp) (one place : ℕ) (sizes : List ℕ) (unused : ℕ) → one < place
    → AllByRecursion (λ name. nat_eq (reference_at stamp one) name ≡ false) (map (λ disk. disk.reference) (disks_from layout revision stamp place sizes unused))
later_differ layout revision stamp one place [] unused lt =
    subst (λ disks. AllByRecursion (λ name. nat_eq (reference_at stamp one) name ≡ false) (map (λ disk. disk.reference) disks)) (sym (none_of_unused unused)) tt
later_differ layout revision stamp one place (size ∷ sizes) unused lt = (
  ne_eqb (reference_at stamp one) (reference_at stamp place) (λ (e : reference_at stamp one ≡ reference_at stamp place). absurd (omega (arith, e, lt))),
  later_differ layout revision stamp one (suc place) sizes unused (omega (arith, lt)),
)

all_differ : (layout : NewLayout) (revision : Revision) (stamp : Stamp) (place : ℕ) (sizes : List ℕ) (unused : ℕ) → IsDistinct nat_eq (map (λ disk. disk.reference) (disks_from layout revision stamp place sizes unused))
unfolding IsDistinct
all_differ layout revision stamp place [] unused = subst (λ disks. IsDistinct nat_eq (map (λ disk. disk.reference) disks)) (sym (none_of_unused unused)) tt
all_differ layout revision stamp place (size ∷ sizes) unused = (later_differ layout revision stamp place (suc place) sizes unused (omega arith), all_differ layout revision stamp (suc place) sizes unused)

-- No two of the disks have one reference.
pub new_references : (layout : NewLayout) (revision : Revision) (stamp : Stamp) (sizes : List ℕ) → IsDistinct nat_eq (map (λ disk. disk.reference) (new_disk_list layout revision stamp sizes))
new_references layout revision stamp sizes = all_differ layout revision stamp 0 sizes (rows_of layout - length sizes)

-- ---- its members

-- Where no disk of a table is missing, one of those that pass a test is found as one that isn't.
found_current : (test : DiskEntry → Bool) (disks : List DiskEntry) (place : ℕ) (disk : DiskEntry) → AllByRecursion (λ one. is_missing one ≡ false) disks
    → slice_get disks place ≡ Some disk → test disk ≡ true → option_map_or (λ one. not (is_missing one)) (find test disks) false ≡ true
found_current test [] place disk current at is = absurd cc
found_current test (first ∷ disks) zero disk current at is =
    let same : first ≡ disk = cc in
    let passes : test first ≡ true = ap test same ∙ is in
    rw passes (ap not current.0)
found_current test (first ∷ disks) (suc place) disk current at is = elim (which (test first)) [
  | inl passes ↦ rw passes (ap not current.0)
  | inr fails ↦ rw fails (found_current test disks place disk current.1 at is)
]

-- None of the disks is missing.
none_missing : (layout : NewLayout) (revision : Revision) (stamp : Stamp) (from : ℕ) (sizes : List ℕ) (unused : ℕ) → AllByRecursion (λ one. is_missing one ≡ false) (disks_from layout revision stamp from sizes unused)
none_missing layout revision stamp from [] unused = subst (AllByRecursion (λ one. is_missing one ≡ false)) (sym (none_of_unused unused)) tt
none_missing layout revision stamp from (size ∷ sizes) unused = (refl, none_missing layout revision stamp (suc from) sizes unused)

-- A disk of a table that has the names of the disk at a place.
record IsListed (stamp : Stamp) (place : ℕ) (disks : List DiskEntry) : Type 0 where
  row : ℕ
  disk : DiskEntry
  is_there : slice_get disks row ≡ Some disk
  reference : disk.reference ≡ reference_at stamp place
  guid : disk.guid ≡ disk_guid stamp place

-- The disk of each place is listed.
listed : (layout : NewLayout) (revision : Revision) (stamp : Stamp) (from place : ℕ) (sizes : List ℕ) (unused : ℕ) → from ≤ place → place < from + length sizes
    → IsListed stamp place (disks_from layout revision stamp from sizes unused)
listed layout revision stamp from place [] unused le lt = absurd (omega (arith, le, lt))
listed layout revision stamp from place (size ∷ sizes) unused le lt = elim (cases_eq from place) [
  | inl same ↦ record { row = 0; disk = _; is_there = refl; reference = ap (reference_at stamp) same; guid = ap (disk_guid stamp) same }
  | inr differ ↦
      let later = listed layout revision stamp (suc from) place sizes unused (omega (arith, le, differ)) (omega (arith, lt)) in
      record { row = suc later.row; disk = later.disk; is_there = later.is_there; reference = later.reference; guid = later.guid }
]

-- A view of this table lists the disk of each place as a current member.
pub new_lists : (layout : NewLayout) (revision : Revision) (stamp : Stamp) (sizes : List ℕ) (group guid : List ℕ) (reference place : ℕ) → place < length sizes
    → lists_current (plain_view group guid reference (new_disk_list layout revision stamp sizes)) (disk_guid stamp place) (reference_at stamp place) ≡ true
unfolding lists_current
new_lists layout revision stamp sizes group guid reference place lt =
    let unused = rows_of layout - length sizes in
    let one = listed layout revision stamp 0 place sizes unused (omega arith) (omega (arith, lt)) in
    found_current (λ disk. disk.reference == reference_at stamp place && bytes_eq disk.guid (disk_guid stamp place)) (new_disk_list layout revision stamp sizes)
    one.row one.disk (none_missing layout revision stamp 0 sizes unused) one.is_there
    (and_from (one.disk.reference == reference_at stamp place) (bytes_eq one.disk.guid (disk_guid stamp place))
    (eq-eqb one.disk.reference (reference_at stamp place) one.reference)
    (ap (λ name. bytes_eq name (disk_guid stamp place)) one.guid ∙ bytes_same (disk_guid stamp place)))

-- ---- the view of a copy

-- Notes of the group and the sequence in the first slot are valid.
first_noted : (group : List ℕ) (notes : List SlotNote) (others : List RecordSlot)
    → is_some (valid_notes group 1 (slots.Notes (record { group = group; sequence = 1; slots = notes }) ∷ others)) ≡ true
first_noted group notes others = rw (bytes_same group) refl

-- Unused slots hold no element.
none_held : (notes : Option Notes) (at count : ℕ) (bytes : List ℕ) → held_from notes at (replicate count (slots.Unused bytes)) ≡ []
none_held notes at zero bytes = refl
none_held notes at (suc count) bytes = none_held notes (at + 1) count bytes

-- They hold no spare record.
none_spare : (count : ℕ) (bytes : List ℕ) → first_spare (replicate count (slots.Unused bytes)) ≡ None
none_spare zero bytes = refl
none_spare (suc count) bytes = none_spare count bytes

-- An unused slot is one.
unused_is : (size : ℕ) → unused_slot size ≡ slots.Unused (replicate size 255)
unfolding unused_slot
unused_is size = refl

-- The slots of a new copy hold no element.
no_elements : (count size : ℕ) (stamp : Stamp) (notes : Option Notes) → held_from notes 0 (new_slots count size stamp) ≡ []
no_elements count size stamp notes = ap (λ slot. held_from notes 1 (replicate (count - 1) slot)) (unused_is size) ∙ none_held notes 1 (count - 1) (replicate size 255)

-- They hold no spare record.
no_spare : (count size : ℕ) (stamp : Stamp) → first_spare (new_slots count size stamp) ≡ None
no_spare count size stamp = ap (λ slot. first_spare (replicate (count - 1) slot)) (unused_is size) ∙ none_spare (count - 1) (replicate size 255)

-- The table of arrays of a new copy lists none.
no_arrays : (layout : NewLayout) → filter_map array_of (new_arrays layout).rows ≡ []
unfolding new_arrays
no_arrays Small = refl
no_arrays Large = refl

-- a view of this table by its arrays and by what its slots tell
view_by : NewLayout → Revision → Stamp → List ℕ → (place : ℕ) → List ArrayEntry → List HeldRecord → (noted : Bool) → Option SpareRecord → View
view_by layout revision stamp sizes place arrays elements noted spare = record {
  group = group_of stamp;
  sequence = 1;
  guid = disk_guid stamp place;
  reference = reference_at stamp place;
  disks = new_disk_list layout revision stamp sizes;
  arrays = arrays;
  elements = elements;
  noted = noted;
  spare = option_map (λ one. one.arrays) spare;
}

-- What a new copy says.
pub new_view : (layout : NewLayout) (revision : Revision) (stamp : Stamp) (sizes : List ℕ) (place : ℕ)
    → view_of (new_copy layout revision stamp sizes place) ≡ plain_view (group_of stamp) (disk_guid stamp place) (reference_at stamp place) (new_disk_list layout revision stamp sizes)
unfolding view_of view_by
new_view layout revision stamp sizes place =
    let count = slots_of layout in
    let size = 512 * record_length_of layout in
    let notes = valid_notes (group_of stamp) 1 (new_slots count size stamp) in
    ap (λ (arrays : List ArrayEntry). view_by layout revision stamp sizes place arrays (held_from notes 0 (new_slots count size stamp)) (is_some notes) (first_spare (new_slots count size stamp))) (no_arrays layout)
    ∙ ap (λ (elements : List HeldRecord). view_by layout revision stamp sizes place [] elements (is_some notes) (first_spare (new_slots count size stamp))) (no_elements count size stamp notes)
    ∙ ap (λ (noted : Bool). view_by layout revision stamp sizes place [] [] noted (first_spare (new_slots count size stamp)))
    (first_noted (group_of stamp) (new_notes count stamp).slots (replicate (count - 1) (unused_slot size)))
    ∙ ap (λ (spare : Option SpareRecord). view_by layout revision stamp sizes place [] [] true spare) (no_spare count size stamp)
