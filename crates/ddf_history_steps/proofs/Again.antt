-- A copy that is read from sectors of bytes is read again from what it is written as, so that level copies say the same.
use Rattle.std.proofs.Common.{◌≡◌, ℕ, zero, suc, ◌+◌, ◌*◌, ◌-◌, ◌<◌, ◌≤◌, List, length, map, Option, Some, None, Result, Ok, Err, refl, ap, sym, ◌∙◌, inl, inr, arith, subst, length-append, ltb}
use Rattle.std.proofs.lemmas.Bool.{cases_lt}
use Rattle.std.proofs.lemmas.List.{get_or-append_right, get_or_append_left}
use Rattle.std.specs.Prelude.{IfOk, slice_get}
use Rattle.std.specs.List.{range_with_len}
use Rattle.ddf_bytes.specs.Choices.{first_of, ok_unless}
use Rattle.ddf_seal.specs.Unread.{AreBytes}
use Rattle.ddf_header.specs.declared.geometry.Geometry.{Geometry}
use Rattle.ddf_header.specs.declared.reading.Header.{Header}
use Rattle.ddf_header.specs.Geometry.{IsSound, geometry_at, least_bytes, section_of}
use Rattle.ddf_header.specs.Header.{decoded}
use Rattle.ddf_header.proofs.Decoded.{decoded_sound}
use Rattle.ddf_header.proofs.Common.{eight_read}
use Rattle.ddf_tables.specs.declared.fault.TableFault.{TableFault}
use Rattle.ddf_tables.specs.declared.layout.TheConstants.{ROWS_AT, ROW_BYTES}
use Rattle.ddf_tables.specs.Arrays.{array_signature, decoded_arrays}
use Rattle.ddf_tables.specs.Disks.{decoded_disks, disk_signature}
use Rattle.ddf_tables.specs.Sectors.{decoded_controller, decoded_disk_data}
use Rattle.ddf_tables.specs.Tables.{IsTableOf, TableValue, decoded_table, table_at, table_bytes, table_faults}
use Rattle.ddf_tables.proofs.ArrayRows.{array_laws, array_names}
use Rattle.ddf_tables.proofs.DiskRows.{disk_laws, disk_names}
use Rattle.ddf_tables.proofs.Names.{NameLaws}
use Rattle.ddf_tables.proofs.TableValues.{RowLaws}
use Rattle.ddf_tables.proofs.SectorValues.{disk_data_again, disk_data_both_ways}
use Rattle.ddf_tables.proofs.TableSections.{table_again, table_from_section}
use Rattle.ddf_config_records.specs.declared.fault.SlotFault.{SlotFault}
use Rattle.ddf_config_records.specs.declared.fault.SlotFault.TheVariants as slot_faults
use Rattle.ddf_config_records.specs.declared.slot.RecordSlot.{RecordSlot}
use Rattle.ddf_config_records.specs.Slots.{IsSlotOf, decoded_slots, lists, slot_bytes, slot_written, valid_notes}
use Rattle.ddf_config_records.proofs.Sections.{decodes}
use Rattle.ddf_config_records.proofs.SlotValues.{slot_again}
use Rattle.ddf_config_records.proofs.Sound.{room_from_sound}
use Rattle.ddf_copy.specs.declared.copy.DiskCopy.{DiskCopy}
use Rattle.ddf_copy.specs.declared.fault.CopyFault.{CopyFault}
use Rattle.ddf_copy.specs.declared.fault.SectionName.TheVariants as names
use Rattle.ddf_copy.specs.declared.raw.Raw.{Raw}
use Rattle.ddf_copy.specs.declared.which.Which.{Which}
use Rattle.ddf_copy.specs.declared.which.Which.TheVariants.{Primary, Secondary}
use Rattle.ddf_copy.specs.Copies.{copy_of}
use Rattle.ddf_copy.specs.Gate.{gated, header_bytes, header_in, header_of}
use Rattle.ddf_copy.specs.Sections.{and_then, bytes_in, copy_in, in_section, in_sector, in_slots, log_in, raw_at, whole_slots}
use Rattle.ddf_copy.specs.Which.{kind_of, place_of}
use Rattle.ddf_copy.specs.Written.{arrays_written, disk_data_written, disks_written}
use Rattle.ddf_copy.proofs.Gates.{IsFound, found_is, placed_parts}
use Rattle.ddf_copy.proofs.Laid.{section_found}
use Rattle.ddf_copy.proofs.Shared.{AreShared, shared_geometry, shared_guid}
use Rattle.ddf_copy.proofs.Common.{gated_read, in_section_ok, in_sector_ok}
use Rattle.ddf_copy.proofs.LastCopies.{ok_or}
use Rattle.ddf_view.specs.Readings.{IsAsRead}
use Rattle.ddf_view.proofs.Level.{level_views}
use Rattle.ddf_history_steps.specs.Kept.{HoldsBytes, SaysOne}

-- ---- the bytes of a section

module _ (sector : ℕ → List ℕ) (holds : HoldsBytes sector) where
  -- Sectors have so many bytes.
  bytes_long : (from count : ℕ) → length (bytes_in (map sector (range_with_len from count))) ≡ 512 * count
  bytes_long from zero = refl
  bytes_long from (suc count) =
      let size = (holds from).size in
      let rest = bytes_long (from + 1) count in
      length-append (sector from) (bytes_in (map sector (range_with_len (from + 1) count))) ∙ omega (arith, size, rest)

  -- They are bytes.
  bytes_are : (from count : ℕ) → AreBytes (bytes_in (map sector (range_with_len from count)))
  bytes_are from zero i = omega arith
  bytes_are from (suc count) i = elim (cases_lt i (length (sector from))) [
    | inl less ↦ subst (λ n. n < 256) (sym (get_or_append_left (sector from) (bytes_in (map sector (range_with_len (from + 1) count))) 0 i less)) ((holds from).are_bytes i)
    | inr more ↦
        subst (λ n. n < 256) (sym (get_or-append_right (sector from) (bytes_in (map sector (range_with_len (from + 1) count))) (length (sector from)) i 0 refl more))
        (bytes_are (from + 1) count (i - length (sector from)))
  ]

-- ---- the parts of a copy

-- The same of the configuration records.
slots_ok : (read : Result (List RecordSlot) SlotFault) (value : List RecordSlot) → in_slots read ≡ Ok value → read ≡ Ok value
slots_ok (Ok found) value is = ap Ok (let same : found ≡ value = cc in same)
slots_ok (Err (slot_faults.Seal slot fault)) value is = absurd cc
slots_ok (Err slot_faults.Memory) value is = absurd cc

-- The parts of a copy are what its sections are read as.
record HasParts (header : Header) (raw : Raw) (copy : DiskCopy) : Type 0 where
  header_is : copy.header ≡ header
  disks_are : decoded_disks header.geometry.max_disks (bytes_in raw.disks) ≡ Ok copy.disks
  arrays_are : decoded_arrays header.geometry.max_arrays (bytes_in raw.arrays) ≡ Ok copy.arrays
  slots_are : decoded_slots header.geometry header.guid header.sequence (bytes_in raw.records) ≡ Ok copy.slots
  data_is : decoded_disk_data raw.disk_data ≡ Ok copy.disk_data

-- the parts of a copy that is good
abbrev ArePartsOf : Header → Raw → Result DiskCopy CopyFault → Type 0
ArePartsOf header raw (Ok copy) = HasParts header raw copy
ArePartsOf header raw (Err fault) = Unit {0}

-- A copy that is read has its parts.
parts_in : (header : Header) (raw : Raw) → ArePartsOf header raw (copy_in header raw)
unfolding copy_in
parts_in header raw = elim (ok_or (in_sector names.Controller (decoded_controller raw.controller))) [
  | inl controller ↦ elim (ok_or (in_section names.Disks (decoded_disks header.geometry.max_disks (bytes_in raw.disks)))) [
    | inl disks ↦ elim (ok_or (in_section names.Arrays (decoded_arrays header.geometry.max_arrays (bytes_in raw.arrays)))) [
      | inl arrays ↦ elim (ok_or (in_slots (decoded_slots header.geometry header.guid header.sequence (bytes_in raw.records)))) [
        | inl slots ↦ elim (ok_or (in_sector names.DiskData (decoded_disk_data raw.disk_data))) [
          | inl disk_data ↦ elim (ok_or (log_in raw.bad_blocks)) [
            | inl bad ↦ rw (controller.1, disks.1, arrays.1, slots.1, disk_data.1, bad.1) (record {
              header_is = refl;
              disks_are = in_section_ok names.Disks (decoded_disks header.geometry.max_disks (bytes_in raw.disks)) disks.0 disks.1;
              arrays_are = in_section_ok names.Arrays (decoded_arrays header.geometry.max_arrays (bytes_in raw.arrays)) arrays.0 arrays.1;
              slots_are = slots_ok (decoded_slots header.geometry header.guid header.sequence (bytes_in raw.records)) slots.0 slots.1;
              data_is = in_sector_ok names.DiskData (decoded_disk_data raw.disk_data) disk_data.0 disk_data.1;
            })
            | inr fault ↦ rw (controller.1, disks.1, arrays.1, slots.1, disk_data.1, fault.1) tt
          ]
          | inr fault ↦ rw (controller.1, disks.1, arrays.1, slots.1, fault.1) tt
        ]
        | inr fault ↦ rw (controller.1, disks.1, arrays.1, fault.1) tt
      ]
      | inr fault ↦ rw (controller.1, disks.1, fault.1) tt
    ]
    | inr fault ↦ rw (controller.1, fault.1) tt
  ]
  | inr fault ↦ rw fault.1 tt
]

-- A copy with the header that is found.
record IsRead (size : ℕ) (sector : ℕ → List ℕ) (anchor : Header) (which : Which) (copy : DiskCopy) : Type 0 where
  found : header_of size sector anchor which ≡ Ok copy.header
  parts : HasParts copy.header (raw_at sector (place_of which anchor) copy.header.geometry) copy

-- A copy is read behind the header that is found.
copy_read : (size : ℕ) (sector : ℕ → List ℕ) (anchor : Header) (which : Which) (copy : DiskCopy) → copy_of size sector anchor which ≡ Ok copy
    → IsRead size sector anchor which copy
unfolding copy_of
copy_read size sector anchor which copy is = by_header (header_of size sector anchor which) refl is
  where
    by_header : (read : Result Header CopyFault) → header_of size sector anchor which ≡ read
        → and_then read (λ header. copy_in header (raw_at sector (place_of which anchor) header.geometry)) ≡ Ok copy → IsRead size sector anchor which copy
    by_header (Ok header) found read =
        let parts = subst (ArePartsOf header (raw_at sector (place_of which anchor) header.geometry)) read (parts_in header (raw_at sector (place_of which anchor) header.geometry)) in
        let same = parts.header_is in
        record {
          found = found ∙ ap Ok (sym same);
          parts = subst (λ (one : Header). HasParts one (raw_at sector (place_of which anchor) one.geometry) copy) (sym same) parts;
        }
    by_header (Err fault) found read = absurd cc

-- ---- the header

-- A value without a fault is given.
ok_parts : {T E : Type 0} (o : Option E) (value found : T) → ok_unless o value ≡ Ok found → (o ≡ None) × (value ≡ found)
ok_parts None value found h = (refl, cc)
ok_parts (Some e) value found h = absurd cc

-- What is asked of all that is read without a fault holds of this.
good_has : {A E : Type 0} (P : A → Type 0) (read : Result A E) (value : A) → read ≡ Ok value → IfOk read P → P value
good_has P (Ok other) value is has = let same : other ≡ value = cc in subst P same has
good_has P (Err fault) value is has = absurd cc

-- The layout of a header that is found in a sector of bytes is sound.
header_sound : (size : ℕ) (sector : ℕ → List ℕ) (anchor : Header) (which : Which) (header : Header) → HoldsBytes sector
    → header_of size sector anchor which ≡ Ok header → IsSound header.geometry
unfolding header_of header_in
header_sound size sector anchor which header holds h =
    let bytes = sector (place_of which anchor) in
    let placed = placed_parts (ltb (place_of which anchor) size) (gated size anchor which bytes (decoded (kind_of which) bytes)) header h in
    let read = gated_read size anchor which bytes (decoded (kind_of which) bytes) header placed in
    good_has (λ (one : Header). IsSound one.geometry) (decoded (kind_of which) bytes) header read
    (decoded_sound (kind_of which) bytes (decoded (kind_of which) bytes) ((holds (place_of which anchor)).size) ((holds (place_of which anchor)).are_bytes) refl)

-- A section that has to be there has the bytes that it needs at least.
section_holds : (geometry : Geometry) (bytes : List ℕ) (index : ℕ) → geometry ≡ geometry_at bytes → IsSound geometry → index < 5
    → least_bytes geometry index ≤ 512 * (section_of geometry index).length
section_holds geometry bytes index is sound below =
    let good = sound.sections_good index (section_of geometry index) (section_found geometry index (ap (λ (one : Geometry). length one.sections) is ∙ eight_read bytes) (omega arith)) in
    good.long_enough (good.needed below)

-- ---- what is read again

-- A table that is read from bytes is written as these.
table_written : {Row : Type 0} {IsRowAt : Row → List ℕ → Type 0} {IsRow : Row → Type 0} {row_at : List ℕ → Row} {row_bytes : Row → List ℕ}
    {twice : List Row → Row → Option TableFault} {HaveNames : List Row → Type 0}
    (laws : RowLaws IsRowAt IsRow row_at row_bytes) (names : NameLaws twice HaveNames) (signature max : ℕ) (section : List ℕ) (table : TableValue Row)
    → ROWS_AT + ROW_BYTES * max ≤ length section → AreBytes section
    → decoded_table signature row_at twice max section ≡ Ok table → table_bytes signature row_bytes table ≡ section
table_written {IsRowAt = IsRowAt} {row_at = row_at} {twice = twice} {HaveNames = HaveNames} laws names signature max section table long are is =
    let parts = ok_parts (first_of (table_faults signature row_at twice max section)) (table_at row_at max section) table is in
    table_again laws signature HaveNames max table section
    (subst (λ (one : TableValue _). IsTableOf signature IsRowAt HaveNames max one section) parts.1 (table_from_section laws names signature max section long are parts.0))

module _ (size : ℕ) (sector : ℕ → List ℕ) (holds : HoldsBytes sector) (anchor : Header) (which : Which) (copy : DiskCopy)
    (is : copy_of size sector anchor which ≡ Ok copy) where
  abbrev geometry : Geometry
  geometry = copy.header.geometry

  abbrev lba : ℕ
  lba = place_of which anchor

  abbrev raw : Raw
  raw = raw_at sector lba geometry

  -- It is read behind its header.
  read : IsRead size sector anchor which copy
  read = copy_read size sector anchor which copy is

  -- Its header stands in its place.
  found : IsFound size sector anchor which copy.header
  found = found_is size sector anchor which copy.header read.found

  -- Its layout is sound.
  sound : IsSound geometry
  sound = header_sound size sector anchor which copy.header holds read.found

  -- Its disk records are read again.
  disks_again : decoded_disks geometry.max_disks (disks_written copy.disks) ≡ Ok copy.disks
  unfolding disks_written least_bytes
  disks_again =
      let section = section_of geometry 1 in
      let least = section_holds geometry (sector lba) 1 found.geometry_is sound (omega arith) in
      let size = bytes_long sector holds (lba + section.offset) section.length in
      let are = bytes_are sector holds (lba + section.offset) section.length in
      let written = table_written disk_laws disk_names disk_signature geometry.max_disks (bytes_in raw.disks) copy.disks (omega (arith, least, size)) are read.parts.disks_are in
      ap (decoded_disks geometry.max_disks) written ∙ read.parts.disks_are

  -- So are its array records.
  arrays_again : decoded_arrays geometry.max_arrays (arrays_written copy.arrays) ≡ Ok copy.arrays
  unfolding arrays_written least_bytes
  arrays_again =
      let section = section_of geometry 2 in
      let least = section_holds geometry (sector lba) 2 found.geometry_is sound (omega arith) in
      let size = bytes_long sector holds (lba + section.offset) section.length in
      let are = bytes_are sector holds (lba + section.offset) section.length in
      let written = table_written array_laws array_names array_signature geometry.max_arrays (bytes_in raw.arrays) copy.arrays (omega (arith, least, size)) are read.parts.arrays_are in
      ap (decoded_arrays geometry.max_arrays) written ∙ read.parts.arrays_are

  -- So are its disk data.
  data_again : decoded_disk_data (disk_data_written copy.disk_data) ≡ Ok copy.disk_data
  unfolding disk_data_written
  data_again =
      let bytes = raw.disk_data in
      let at = lba + (section_of geometry 4).offset in
      let of = (disk_data_both_ways bytes (decoded_disk_data bytes) ((holds at).size) ((holds at).are_bytes) refl copy.disk_data).0 read.parts.data_is in
      ap decoded_disk_data (disk_data_again copy.disk_data bytes of) ∙ read.parts.data_is

  -- So is each of its configuration records.
  slots_again : (i : ℕ) (slot : RecordSlot) → slice_get copy.slots i ≡ Some slot
      → IsSlotOf geometry (length copy.slots) (lists (valid_notes copy.header.guid copy.header.sequence copy.slots) i) slot (slot_written geometry slot)
  slots_again i slot at =
      let section = whole_slots geometry in
      let bytes = bytes_in raw.records in
      let room = room_from_sound geometry sound in
      let are = bytes_are sector holds (lba + section.offset) section.length in
      let of = (decodes geometry copy.header.guid copy.header.sequence bytes copy.slots room are read.parts.slots_are copy.slots).0 refl in
      let listed = lists (valid_notes copy.header.guid copy.header.sequence copy.slots) i in
      let again = slot_again geometry (length copy.slots) listed slot (slot_bytes geometry bytes i) room (of.each i slot at) in
      subst (IsSlotOf geometry (length copy.slots) listed slot) (sym again) (of.each i slot at)

  -- It is read again from what it is written as.
  as_read : IsAsRead copy
  as_read = record { room = room_from_sound geometry sound; disks = disks_again; arrays = arrays_again; disk_data = data_again; slots = slots_again }

-- Level copies that are read from sectors of bytes say the same.
pub bytes_say_one : (size : ℕ) (sector : ℕ → List ℕ) → HoldsBytes sector → SaysOne size sector
bytes_say_one size sector holds = record {
  one_view = λ anchor primary secondary anchored is also level.
      let one = found size sector holds anchor Primary primary is in
      let other = found size sector holds anchor Secondary secondary also in
      let first = sector (place_of Primary anchor) in
      let second = sector (place_of Secondary anchor) in
      let shared : AreShared (header_bytes anchor) first second = record { one_is = one.is_gate.is_shared; other_is = other.is_gate.is_shared } in
      let geometry = one.geometry_is ∙ shared_geometry (header_bytes anchor) first second shared ∙ sym other.geometry_is in
      let group = one.guid_is ∙ shared_guid (header_bytes anchor) first second shared ∙ sym other.guid_is in
      level_views primary secondary (as_read size sector holds anchor Primary primary is) (as_read size sector holds anchor Secondary secondary also) geometry
      (record { same_group = group; are_level = level });
}
