-- A moved copy can be written.
use Rattle.std.proofs.Common.{◌≡◌, ℕ, zero, suc, ◌+◌, ◌-◌, ◌*◌, ◌<◌, ◌≤◌, ◌^◌, Bool, true, false, ltb, cond, List, [], ◌∷◌, length, filter, inl, inr, Option, Some, None, Ok, refl, sym, ap, ◌∙◌, arith}
use Rattle.std.specs.Prelude.{slice_get, unwrap_or, is_some, nat_eq, option_map}
use Rattle.std.specs.List.{AllByRecursion}
use Rattle.std.specs.Str.{bytes_eq}
use Rattle.std.proofs.lemmas.Bool.{cases_eq, eq-eqb, le-ltb, ltb-false, ne_eqb}
use Rattle.std.proofs.lemmas.List.FromFn.{length-map-range_with_len}
use Rattle.ddf_header.specs.declared.geometry.Section.{Section}
use Rattle.ddf_header.specs.declared.geometry.Geometry.{Geometry}
use Rattle.ddf_header.specs.declared.reading.Header.{Header}
use Rattle.ddf_header.specs.Geometry.{IsGoodSection, IsSound, is_long, least_bytes, section_numbers, section_of}
use Rattle.ddf_header.specs.declared.layout.TheConstants.{SECTIONS_AT}
use Rattle.ddf_header.specs.Header.{IsWritable, are_header_places, header_fields}
use Rattle.ddf_seal.specs.Unread.{Fits, u32s_at}
use Rattle.ddf_header.proofs.Sound.{sound}
use Rattle.ddf_tables.specs.declared.disks.DiskRow.{DiskRow}
use Rattle.ddf_tables.specs.declared.disks.DiskRow.TheVariants as disk_rows
use Rattle.ddf_tables.specs.declared.arrays.ArrayRow.{ArrayRow}
use Rattle.ddf_tables.specs.declared.arrays.ArrayRow.TheVariants as array_rows
use Rattle.ddf_tables.specs.declared.layout.TheConstants.{LOG_ENTRIES_AT, ROWS_AT, ROW_BYTES}
use Rattle.ddf_tables.specs.Arrays.{HaveGuids, IsArrayRow, IsArrayTable, guid_of, is_no_array, is_used_array}
use Rattle.ddf_tables.specs.BadBlocks.{blank_log}
use Rattle.ddf_tables.specs.Disks.{HaveReferences, IsDiskRow, IsDiskTable, is_no_disk, is_used_disk, reference_of}
use Rattle.ddf_tables.specs.Tables.{TableValue, blank_table}
use Rattle.ddf_tables.proofs.LogValues.{blank_log_size, blank_log_writable}
use Rattle.ddf_tables.proofs.Names.{unused_have_names}
use Rattle.ddf_tables.proofs.TableSections.{blank_has_size, blank_is_writable, replaced_can_be_written}
use Rattle.ddf_config_records.proofs.Fits.{do_fit}
use Rattle.ddf_config_records.proofs.Sound.{room_from_sound}
use Rattle.ddf_copy.specs.declared.copy.DiskCopy.{DiskCopy}
use Rattle.ddf_copy.specs.Written.{CanBeCopy, HasLog}
use Rattle.ddf_copy.proofs.Laid.{eight_sections}
use Rattle.ddf_import.specs.declared.places.Moved.{Moved}
use Rattle.ddf_import.specs.Moving.{moved}
use Rattle.ddf_moving.specs.Copies.{filled, log_for, moved_arrays, moved_copy, moved_disks, moved_slot_at, moved_slots, relaid, unused_array, unused_disk}
use Rattle.ddf_moving.specs.Places.{copy_length, moved_geometry, moved_header}
use Rattle.ddf_moving.proofs.Lengths.{some_length}
use Rattle.ddf_moving.proofs.Laid.{no_fault, was_good}
use Rattle.ddf_moving.proofs.Rows.{all_filled, length_filled, names_filled}
use Rattle.ddf_moving.proofs.Slots.{slots_can}

-- ---- the tables

-- a section that holds so many rows
pub record HasRows (section : Section) (max : ℕ) : Type 0 where
  pub few : section.length ≤ 8192
  pub room : ROWS_AT + ROW_BYTES * max ≤ 512 * section.length

disks_agree : (row : DiskRow) → is_used_disk row ≡ is_some (reference_of row)
disks_agree (disk_rows.Entry entry) = refl
disks_agree (disk_rows.Unused whole) = refl

arrays_agree : (row : ArrayRow) → is_used_array row ≡ is_some (guid_of row)
arrays_agree (array_rows.Entry entry) = refl
arrays_agree (array_rows.Unused whole) = refl

pub disks_can : (old : TableValue DiskRow) (before : ℕ) (like : Geometry) → IsDiskTable before old → like.max_disks < 2 ^ 16 → HasRows (section_of like 1) like.max_disks
    → IsDiskTable like.max_disks (moved_disks old like) × (length (moved_disks old like).rest ≡ 512 * (section_of like 1).length)
disks_can old before like can small has =
    let size = 512 * (section_of like 1).length in
    let max = like.max_disks in
    let used = filter is_used_disk old.rows in
    let table = blank_table unused_disk max size in
    let blank = blank_is_writable IsDiskRow HaveReferences unused_disk max size (Ok table) (refl, refl) (unused_have_names reference_of nat_eq is_no_disk unused_disk max refl) small has.room refl in (
      replaced_can_be_written IsDiskRow is_used_disk HaveReferences max table (filled unused_disk max used) (length_filled unused_disk max used ∙ sym blank.has_rows) blank
          (all_filled IsDiskRow is_used_disk unused_disk max old.rows can.rows_good (refl, refl))
          (names_filled is_used_disk reference_of disks_agree unused_disk refl nat_eq is_no_disk max old.rows can.have_names),
      blank_has_size unused_disk max size (Ok table) has.room refl,
    )

pub arrays_can : (old : TableValue ArrayRow) (before : ℕ) (like : Geometry) → IsArrayTable before old → like.max_arrays < 2 ^ 16 → HasRows (section_of like 2) like.max_arrays
    → IsArrayTable like.max_arrays (moved_arrays old like) × (length (moved_arrays old like).rest ≡ 512 * (section_of like 2).length)
arrays_can old before like can small has =
    let size = 512 * (section_of like 2).length in
    let max = like.max_arrays in
    let used = filter is_used_array old.rows in
    let table = blank_table unused_array max size in
    let blank = blank_is_writable IsArrayRow HaveGuids unused_array max size (Ok table) (refl, refl) (unused_have_names guid_of bytes_eq is_no_array unused_array max refl) small has.room refl in (
      replaced_can_be_written IsArrayRow is_used_array HaveGuids max table (filled unused_array max used) (length_filled unused_array max used ∙ sym blank.has_rows) blank
          (all_filled IsArrayRow is_used_array unused_array max old.rows can.rows_good (refl, refl))
          (names_filled is_used_array guid_of arrays_agree unused_array refl bytes_eq is_no_array max old.rows can.have_names),
      blank_has_size unused_array max size (Ok table) has.room refl,
    )

-- the sections of a geometry without a fault
pub disks_room : (geometry : Geometry) (section : Section) → IsGoodSection geometry 1 section → HasRows section geometry.max_disks
unfolding least_bytes is_long
disks_room geometry section good =
    let some = good.needed (omega arith) in
    record { few = ltb-false 8192 section.length (good.short_enough some); room = good.long_enough some }

pub arrays_room : (geometry : Geometry) (section : Section) → IsGoodSection geometry 2 section → HasRows section geometry.max_arrays
unfolding least_bytes is_long
arrays_room geometry section good =
    let some = good.needed (omega arith) in
    record { few = ltb-false 8192 section.length (good.short_enough some); room = good.long_enough some }

pub log_few : (geometry : Geometry) (section : Section) → IsGoodSection geometry 5 section → section.length ≤ 8192
unfolding is_long
log_few geometry section good = elim (cases_eq section.length 0) [
  | inl none ↦ omega (arith, none)
  | inr present ↦ ltb-false 8192 section.length (good.short_enough (omega (arith, present)))
]

log_can : (section : Section) → HasLog section (log_for section)
log_can section = elim (cases_eq section.length 0) [
  | inl none ↦ rw (eq-eqb section.length 0 none) none
  | inr present ↦
      let size = 512 * section.length in
      let some : 0 < section.length = omega (arith, present) in
      let room : LOG_ENTRIES_AT ≤ size = omega (arith, some) in
      rw (ne_eqb section.length 0 present) (blank_log_writable size (Ok (blank_log size)) room refl, blank_log_size size (Ok (blank_log size)) room refl, some)
]

-- ---- the header

numbers_small : (sections : List Section) (k : ℕ) → AllByRecursion (λ n. n < 2 ^ 32) (section_numbers sections)
    → ((unwrap_or (slice_get sections k) (record { offset = 0; length = 0 })).offset < 2 ^ 32) × ((unwrap_or (slice_get sections k) (record { offset = 0; length = 0 })).length < 2 ^ 32)
numbers_small [] k small = (omega arith, omega arith)
numbers_small (section ∷ sections) zero small = (small.0, small.1.0)
numbers_small (section ∷ sections) (suc k) small = numbers_small sections k small.1.1

-- where a moved copy lies
pub record IsPlaced (old like : DiskCopy) (places : Moved) : Type 0 where
  pub room : 2 * copy_length like.header.geometry + 18 ≤ old.header.geometry.workspace_length
  pub primary_is : places.primary ≡ old.header.geometry.workspace_lba + old.header.geometry.workspace_length - copy_length like.header.geometry
  pub secondary_is : places.secondary ≡ old.header.geometry.workspace_lba + old.header.geometry.workspace_length - 2 * copy_length like.header.geometry
  pub length_is : places.length ≡ old.header.geometry.workspace_length - 2 * copy_length like.header.geometry

by_room : (size bound : ℕ) (made places : Moved) → cond (ltb size bound) None (Some made) ≡ Some places → (bound ≤ size) × (made ≡ places)
by_room size bound made places is = by (ltb size bound) refl is
  where
    by : (b : Bool) → ltb size bound ≡ b → cond b None (Some made) ≡ Some places → (bound ≤ size) × (made ≡ places)
    by true short none = absurd cc
    by false long some = (ltb-false size bound long, cc)

pub moved_by : (workspace size copy : ℕ) (places : Moved) → moved workspace size copy ≡ Some places
    → (2 * copy + 18 ≤ size) × (places.primary ≡ workspace + size - copy) × (places.secondary ≡ workspace + size - 2 * copy) × (places.length ≡ size - 2 * copy)
moved_by workspace size copy places is =
    let made = by_room size (2 * copy + 18) (record { primary = workspace + size - copy; secondary = workspace + size - 2 * copy; length = size - 2 * copy }) places is in
    (made.0, ap (λ (one : Moved). one.primary) (sym made.1), ap (λ (one : Moved). one.secondary) (sym made.1), ap (λ (one : Moved). one.length) (sym made.1))

mapped : (f : Moved → DiskCopy) (o : Option Moved) (made : DiskCopy) → option_map f o ≡ Some made → (places : Moved) × (o ≡ Some places) × (f places ≡ made)
mapped f None made is = absurd cc
mapped f (Some places) made is = (places, refl, cc)

-- a moved copy is relaid to such places
pub record IsMovedTo (old like made : DiskCopy) : Type 0 where
  pub places : Moved
  pub is_placed : IsPlaced old like places
  pub is_made : relaid old like places ≡ made

pub moved_to : (old like made : DiskCopy) → moved_copy old like ≡ Some made → IsMovedTo old like made
unfolding moved_copy
moved_to old like made is =
    let found = mapped (relaid old like) (moved old.header.geometry.workspace_lba old.header.geometry.workspace_length (copy_length like.header.geometry)) made is in
    let by = moved_by old.header.geometry.workspace_lba old.header.geometry.workspace_length (copy_length like.header.geometry) found.0 found.1 in
    record { places = found.0; is_placed = record { room = by.0; primary_is = by.1; secondary_is = by.2; length_is = by.3 }; is_made = found.2 }

-- a disk with room has such a copy
pub has_moved : (old like : DiskCopy) → 2 * copy_length like.header.geometry + 18 ≤ old.header.geometry.workspace_length → is_some (moved_copy old like) ≡ true
unfolding moved_copy
has_moved old like long = rw (le-ltb old.header.geometry.workspace_length (2 * copy_length like.header.geometry + 18) long) refl

module _ (old like : DiskCopy) (can : CanBeCopy old) (alike : CanBeCopy like) where
  abbrev ours : Geometry
  ours = like.header.geometry

  pub sound_like : IsSound ours
  sound_like = sound ours alike.header_can.is_header.has_geometry

  eight : length ours.sections ≡ 8
  eight = eight_sections like alike

  numbers : AllByRecursion (λ n. n < 2 ^ 32) (section_numbers ours.sections)
  numbers = alike.header_can.is_record.fields_fit.1.1.1.1.1.1.1.1.1.1.1.1.1.1.1.0.1

  small : (k : ℕ) → ((section_of ours k).offset < 2 ^ 32) × ((section_of ours k).length < 2 ^ 32)
  small k = numbers_small ours.sections k numbers

  pub sound_moved : (left : ℕ) → IsSound (moved_geometry old.header.geometry ours left)
  sound_moved left = sound (moved_geometry old.header.geometry ours left) (no_fault old.header.geometry ours left sound_like eight)

  sections_fit : (left : ℕ) → Fits (u32s_at SECTIONS_AT 16 (section_numbers (moved_geometry old.header.geometry ours left).sections))
  sections_fit left =
      let a = small 0 in
      let b = small 1 in
      let c = small 2 in
      let d = small 3 in
      let e = small 4 in
      let f = small 5 in
      (refl, (a.0, (a.1, (b.0, (b.1, (c.0, (c.1, (d.0, (d.1, (e.0, (e.1, (f.0, (f.1, (omega arith, (omega arith, (omega arith, (omega arith, tt)))))))))))))))))

  module _ (places : Moved) (placed : IsPlaced old like places) (fits : old.header.geometry.workspace_lba + old.header.geometry.workspace_length < 2 ^ 64) where
    abbrev own : Geometry
    own = moved_geometry old.header.geometry ours places.length

    abbrev header : Header
    header = moved_header old.header ours places

    had : AllByRecursion Fits (header_fields old.header)
    had = can.header_can.is_record.fields_fit

    its : AllByRecursion Fits (header_fields like.header)
    its = alike.header_can.is_record.fields_fit

    some : 1 ≤ copy_length ours
    some = some_length ours

    places_good : are_header_places places.primary places.secondary ≡ true
    unfolding are_header_places
    places_good =
        let apart = ne_eqb places.primary places.secondary (λ (e : places.primary ≡ places.secondary). absurd (omega (arith, e, placed.primary_is, placed.secondary_is, placed.room, some))) in
        let first = ne_eqb places.primary (2 ^ 64 - 1) (λ (e : places.primary ≡ 2 ^ 64 - 1). absurd (omega (arith, e, placed.primary_is, placed.room, some, fits))) in
        let second = ne_eqb places.secondary (2 ^ 64 - 1) (λ (e : places.secondary ≡ 2 ^ 64 - 1). absurd (omega (arith, e, placed.secondary_is, placed.room, some, fits))) in
        rw (apart, first, second) refl

    header_writable : IsWritable old.header.kind header
    header_writable = record {
      is_header = record {
        of_kind = refl;
        has_flag = can.header_can.is_header.has_flag;
        has_places = places_good;
        has_geometry = no_fault old.header.geometry ours places.length sound_like eight;
      };
      is_record = record {
        fields_fit = (
          had.0,
          (
            had.1.0,
            (
              had.1.1.0,
              (
                had.1.1.1.0,
                (
                  had.1.1.1.1.0,
                  (
                    omega (arith, placed.primary_is, fits),
                    (
                      omega (arith, placed.secondary_is, fits),
                      (
                        had.1.1.1.1.1.1.1.0,
                        (
                          omega (arith, placed.length_is, had.1.1.1.1.1.1.1.1.0),
                          (
                            had.1.1.1.1.1.1.1.1.1.0,
                            (
                              its.1.1.1.1.1.1.1.1.1.1.0,
                              (
                                its.1.1.1.1.1.1.1.1.1.1.1.0,
                                (its.1.1.1.1.1.1.1.1.1.1.1.1.0, (its.1.1.1.1.1.1.1.1.1.1.1.1.1.0, (its.1.1.1.1.1.1.1.1.1.1.1.1.1.1.0, (sections_fit places.length, tt)))),
                              ),
                            ),
                          ),
                        ),
                      ),
                    ),
                  ),
                ),
              ),
            ),
          ),
        );
        others_clear = can.header_can.is_record.others_clear;
      };
      rest_size = can.header_can.rest_size;
    }

    room_of_disks : HasRows (section_of ours 1) ours.max_disks
    room_of_disks = disks_room ours (section_of ours 1) (was_good old.header.geometry ours places.length sound_like eight 1 (omega arith))

    room_of_arrays : HasRows (section_of ours 2) ours.max_arrays
    room_of_arrays = arrays_room ours (section_of ours 2) (was_good old.header.geometry ours places.length sound_like eight 2 (omega arith))

    pub relaid_can : CanBeCopy (relaid old like places)
    relaid_can =
        let disks = disks_can old.disks old.header.geometry.max_disks own can.disks_can (its.1.1.1.1.1.1.1.1.1.1.0) room_of_disks in
        let arrays = arrays_can old.arrays old.header.geometry.max_arrays own can.arrays_can (its.1.1.1.1.1.1.1.1.1.1.1.0) room_of_arrays in
        let slots = slots_can old.header.geometry own (sound_moved places.length) old.header.guid old.header.guid old.header.sequence old.header.sequence (length like.slots) old.slots can.slots_can in
        record {
          header_can = header_writable;
          is_closed = can.is_closed;
          controller_can = can.controller_can;
          disks_can = disks.0;
          disks_size = disks.1;
          arrays_can = arrays.0;
          arrays_size = arrays.1;
          slots_can = slots;
          slots_fit = do_fit own old.header.guid old.header.sequence (moved_slots old.header.geometry own (length like.slots) old.slots) (room_from_sound own (sound_moved places.length)) slots;
          slots_count = length-map-range_with_len (moved_slot_at old.header.geometry own old.slots) 0 (length like.slots) ∙ alike.slots_count;
          disk_data_can = can.disk_data_can;
          has_log = log_can (section_of ours 5);
        }
