-- What is seen sealed as the standard says on a new disk is sealed in Linux's kind below.
use Rattle.std.proofs.Common.{◌≡◌, ◌⊎◌, ℕ, zero, suc, ◌+◌, ◌-◌, ◌*◌, ◌/◌, ◌<◌, ◌≤◌, ◌^◌, Bool, true, false, ◌||◌, eqb, List, [], ◌++◌, length, take, drop, map, Option, Some, None, Result, Ok, Err, inl, inr, refl, ap, sym, ◌∙◌, subst, arith, add-zero, length-append, cond, ltb}
use Rattle.std.specs.Prelude.{option_map}
use Rattle.std.specs.List.{range_with_len}
use Rattle.std.specs.Option.{option_or}
use Rattle.std.specs.Result.{result_err}
use Rattle.std.specs.Int.{w32, from_be_bytes}
use Rattle.std.proofs.lemmas.Bool.{eqb-true}
use Rattle.std.proofs.lemmas.List.{append-nil, take-append-le}
use Rattle.std.proofs.Math.Seq.{drop-append-add, take-append-add}
use Rattle.ddf_bytes.specs.Bytes.{number_at}
use Rattle.ddf_bytes.specs.Choices.{ok_unless}
use Rattle.ddf_bay.specs.Sectors.{IsWhole}
use Rattle.ddf_seal.specs.Seal.{IsSealed, seal_check}
use Rattle.ddf_seal.specs.Unread.{AreBytes}
use Rattle.ddf_seal.specs.declared.sealing.SealFault.{SealFault}
use Rattle.ddf_seal.proofs.Seals.{sealed_from_check}
use Rattle.ddf_seal.proofs.Common.{append_bytes}
use Rattle.ddf_header.specs.declared.fault.HeaderFault.{HeaderFault}
use Rattle.ddf_header.specs.declared.fault.HeaderFault.TheVariants as faults
use Rattle.ddf_header.specs.declared.geometry.Geometry.{Geometry}
use Rattle.ddf_header.specs.declared.kind.HeaderKind.{HeaderKind}
use Rattle.ddf_header.specs.declared.reading.Header.{Header}
use Rattle.ddf_header.specs.Header.{decoded, first_fault, header_at, header_signature}
use Rattle.ddf_tables.specs.declared.fault.TableFault.TheVariants as table_faults
use Rattle.ddf_tables.specs.Arrays.{array_signature, decoded_arrays}
use Rattle.ddf_tables.specs.BadBlocks.{LogValue, decoded_log, log_signature}
use Rattle.ddf_tables.specs.Disks.{decoded_disks, disk_signature}
use Rattle.ddf_tables.specs.Sectors.{controller_at, controller_signature, decoded_controller, decoded_disk_data, disk_data_at, disk_data_signature}
use Rattle.ddf_config_records.specs.declared.fault.SlotFault.{SlotFault}
use Rattle.ddf_config_records.specs.declared.fault.SlotFault.TheVariants as slot_faults
use Rattle.ddf_config_records.specs.declared.slot.RecordSlot.{RecordSlot}
use Rattle.ddf_config_records.specs.Elements.{HasRoom}
use Rattle.ddf_config_records.specs.Slots.{AreSealed, decoded_slots, is_known, slot_bytes, slot_count}
use Rattle.ddf_config_records.proofs.Sections.{decoded_sealed}
use Rattle.ddf_config_records.proofs.SlotValues.{signature_is}
use Rattle.ddf_copy.specs.declared.copy.DiskCopy.{DiskCopy}
use Rattle.ddf_copy.specs.declared.fault.CopyFault.{CopyFault}
use Rattle.ddf_copy.specs.declared.fault.SectionName.TheVariants as names
use Rattle.ddf_copy.specs.declared.raw.Raw.{Raw}
use Rattle.ddf_copy.specs.declared.which.Which.{Which}
use Rattle.ddf_copy.specs.Gate.{gated, header_in, header_of}
use Rattle.ddf_copy.specs.Sections.{and_then, bytes_in, copy_in, in_section, in_sector, in_slots, log_in, raw_at, some_log}
use Rattle.ddf_copy.specs.Which.{kind_of, place_of}
use Rattle.ddf_copy.proofs.Common.{in_section_ok, in_sector_ok}
use Rattle.ddf_update.specs.declared.new_layout.NewLayout.{NewLayout}
use Rattle.ddf_update.specs.declared.new_layout.NewLayout.TheVariants.{Large, Small}
use Rattle.ddf_update.specs.NewCopies.{new_geometry}
use Rattle.ddf_update.specs.NewLayouts.{copy_length, least_sectors, record_length_of, records_sectors, slots_of, table_sectors_of}
use Rattle.ddf_linux.specs.declared.kind.SlotKind.{SlotKind}
use Rattle.ddf_linux.specs.declared.kind.SlotKind.TheVariants.{Turned}
use Rattle.ddf_linux.specs.declared.layout.Layout.{Layout}
use Rattle.ddf_linux.specs.declared.records.Records.{Records}
use Rattle.ddf_linux.specs.Crcs.{IsLinuxSealed, constant_of}
use Rattle.ddf_linux.specs.CrcLaws.{linux_from_standard, turned_front}
use Rattle.ddf_linux.specs.Founded.{AreSlotsForLinux, IsCopyForLinux, below}
use Rattle.ddf_linux.specs.Kinds.{turned_by}
use Rattle.ddf_linux.specs.Layouts.{records_with}
use Rattle.ddf_linux.specs.Places.{constant_at, is_first, new_places, signature_of}
use Rattle.ddf_linux.specs.Turning.{turned}
use Rattle.ddf_linux.specs.TurnLaws.{turn_length, turn_signature}
use Rattle.ddf_linux.proofs.NewPlaces.{GoesOn, IsNewHeader, arrays_begin, arrays_go_on, disk_data_begins, disks_begin, disks_go_on, log_begins, none_turned, own_records, slot_begins, slot_goes_on, slots_behind, turned_at}

-- a record begins with the number that its first sector begins with
pub signature_front : (first rest : List ℕ) → length first ≡ 512 → number_at w32 (first ++ rest) 0 ≡ signature_of first
signature_front first rest long = ap (from_be_bytes w32) (take-append-le 4 first rest (omega (arith, long)))

-- ---- runs of sectors

-- the bytes of so many sectors from one on
abbrev pub run : (ℕ → List ℕ) → (from count : ℕ) → List ℕ
run sector from count = bytes_in (map sector (range_with_len from count))

run_bytes : (sector : ℕ → List ℕ) → ((l : ℕ) → AreBytes (sector l)) → (from count : ℕ) → AreBytes (run sector from count)
run_bytes sector are from zero = λ i. omega arith
run_bytes sector are from (suc count) = append_bytes (sector from) (run sector (from + 1) count) (are from) (run_bytes sector are (from + 1) count)

module _ (sector : ℕ → List ℕ) (long : (l : ℕ) → length (sector l) ≡ 512) where
  length_run : (from count : ℕ) → length (run sector from count) ≡ 512 * count
  length_run from zero = refl
  length_run from (suc count) = length-append (sector from) (run sector (from + 1) count) ∙ omega (arith, long from, length_run (from + 1) count)

  run_front : (from count n : ℕ) → n ≤ count → take (512 * n) (run sector from count) ≡ run sector from n
  run_front from count zero le = refl
  run_front from zero (suc n) le = absurd (omega (arith, le))
  run_front from (suc count) (suc n) le =
      let first : 512 * suc n ≡ length (sector from) + 512 * n = omega (arith, long from) in
      ap (λ (k : ℕ). take k (run sector from (suc count))) first ∙ take-append-add (sector from) (run sector (from + 1) count) (512 * n)
      ∙ ap (λ (rest : List ℕ). sector from ++ rest) (run_front (from + 1) count n (omega (arith, le)))

  run_behind : (from count n : ℕ) → n ≤ count → drop (512 * n) (run sector from count) ≡ run sector (from + n) (count - n)
  run_behind from count zero le =
      let here : from ≡ from + 0 = omega arith in
      let all : count ≡ count - 0 = omega arith in
      ap (λ (l : ℕ). run sector l count) here ∙ ap (run sector (from + 0)) all
  run_behind from zero (suc n) le = absurd (omega (arith, le))
  run_behind from (suc count) (suc n) le =
      let first : 512 * suc n ≡ length (sector from) + 512 * n = omega (arith, long from) in
      let here : from + 1 + n ≡ from + suc n = omega arith in
      let fewer : count - n ≡ suc count - suc n = omega arith in
      ap (λ (k : ℕ). drop k (run sector from (suc count))) first ∙ drop-append-add (sector from) (run sector (from + 1) count) (512 * n)
      ∙ run_behind (from + 1) count n (omega (arith, le))
      ∙ ap (λ (l : ℕ). run sector l (count - n)) here ∙ ap (run sector (from + suc n)) fewer

  -- the bytes of so many sectors among others
  run_among : (from count behind n at size : ℕ) → behind + n ≤ count → at ≡ 512 * behind → size ≡ 512 * n → take size (drop at (run sector from count)) ≡ run sector (from + behind) n
  run_among from count behind n at size within is_at is_size =
      rw (is_at, is_size) (ap (take (512 * n)) (run_behind from count behind (omega (arith, within))) ∙ run_front (from + behind) (count - behind) n (omega (arith, within)))

module _ (layout : NewLayout) (size : ℕ) (seen : ℕ → List ℕ) (whole : (l : ℕ) → IsWhole (seen l)) where
  -- the slot as a new disk's is seen
  abbrev pub kind : SlotKind
  kind = Turned (new_places layout size)

  -- a sector that isn't turned
  pub same_below : (l : ℕ) → ((bytes : List ℕ) → constant_at (new_places layout size) l bytes ≡ None) → below kind seen l ≡ seen l
  same_below l none = ap (λ (constant : Option ℕ). turned_by constant (seen l)) (none (seen l))

  -- a sector is turned so where it begins with a signature
  abbrev pub IsTurnedBy : (l signature constant : ℕ) → Type 0
  IsTurnedBy l signature constant = signature_of (seen l) ≡ signature → constant_at (new_places layout size) l (seen l) ≡ Some constant

  -- a record that begins with a turned sector
  pub sealed_below : (l signature : ℕ) (rest : List ℕ) → signature < 2 ^ 32 → IsTurnedBy l signature (constant_of (512 + length rest))
      → IsSealed signature (seen l ++ rest) → IsLinuxSealed signature (below kind seen l ++ rest)
  sealed_below l signature rest fits constant sealed =
      let bytes : List ℕ = seen l ++ rest in
      let size_of : length bytes ≡ 512 + length rest = length-append (seen l) rest ∙ ap (λ (n : ℕ). n + length rest) (whole l).size in
      let named : signature_of (seen l) ≡ signature = sym (signature_front (seen l) rest (whole l).size) ∙ signature_is signature bytes fits sealed in
      let first : below kind seen l ≡ turned (constant_of (512 + length rest)) (seen l) =
      ap (λ (found : Option ℕ). turned_by found (seen l)) (constant named) in
      let whole_record : turned (constant_of (length bytes)) bytes ≡ below kind seen l ++ rest =
      ap (λ (n : ℕ). turned (constant_of n) bytes) size_of
      ∙ turned_front (constant_of (512 + length rest)) (seen l) rest (omega (arith, (whole l).size))
      ∙ ap (λ (sector : List ℕ). sector ++ rest) (sym first) in
      rw whole_record at (linux_from_standard signature bytes (omega (arith, size_of)) sealed)

  -- by the check of its seal
  pub checked_below : (l signature : ℕ) (rest : List ℕ) → signature < 2 ^ 32 → AreBytes rest → IsTurnedBy l signature (constant_of (512 + length rest))
      → seal_check signature (seen l ++ rest) ≡ Ok tt → IsLinuxSealed signature (below kind seen l ++ rest)
  checked_below l signature rest fits are constant check =
      let long : 8 ≤ length (seen l ++ rest) = omega (arith, length-append (seen l) rest, (whole l).size) in
      sealed_below l signature rest fits constant (sealed_from_check signature (seen l ++ rest) long (append_bytes (seen l) rest (whole l).are_bytes are) check)

  -- a record of one sector
  pub one_below : (l signature : ℕ) → signature < 2 ^ 32 → IsTurnedBy l signature (constant_of 512)
      → seal_check signature (seen l) ≡ Ok tt → IsLinuxSealed signature (below kind seen l)
  one_below l signature fits constant check =
      rw (append-nil (below kind seen l)) at (checked_below l signature [] fits (λ i. omega arith) constant (rw (append-nil (seen l)) check))

  -- sectors that aren't turned
  same_run : (from count : ℕ) → ((l : ℕ) → from ≤ l → l < from + count → (bytes : List ℕ) → constant_at (new_places layout size) l bytes ≡ None)
      → run (below kind seen) from count ≡ run seen from count
  same_run from zero none = refl
  same_run from (suc count) none =
      let first : below kind seen from ≡ seen from = same_below from (none from (omega arith) (omega arith)) in
      let rest : run (below kind seen) (from + 1) count ≡ run seen (from + 1) count = same_run (from + 1) count (λ l ge lt. none l (omega (arith, ge)) (omega (arith, lt))) in
      ap (λ (sector : List ℕ). sector ++ run (below kind seen) (from + 1) count) first ∙ ap (λ (sectors : List ℕ). seen from ++ sectors) rest

  -- a record of so many sectors, of which the first alone is turned
  pub record_below : (l count signature : ℕ) → 0 < count → signature < 2 ^ 32 → IsTurnedBy l signature (constant_of (512 * count))
      → ((k : ℕ) → l < k → k < l + count → (other : List ℕ) → constant_at (new_places layout size) k other ≡ None)
      → IsSealed signature (run seen l count) → IsLinuxSealed signature (run (below kind seen) l count)
  record_below l zero signature some fits constant none sealed = absurd (omega (arith, some))
  record_below l (suc count) signature some fits constant none sealed =
      let rest : List ℕ = run seen (l + 1) count in
      let long : 512 * suc count ≡ 512 + length rest = omega (arith, length_run seen (λ k. (whole k).size) (l + 1) count) in
      let turns : IsTurnedBy l signature (constant_of (512 + length rest)) = λ named. constant named ∙ ap (λ (n : ℕ). Some (constant_of n)) long in
      let stays : run (below kind seen) (l + 1) count ≡ rest = same_run (l + 1) count (λ k ge lt. none k (omega (arith, ge)) (omega (arith, lt))) in
      subst (λ (sectors : List ℕ). IsLinuxSealed signature (below kind seen l ++ sectors)) (sym stays) (sealed_below l signature rest fits turns sealed)

  -- by the check of its seal, as a section that it fills
  pub section_below : (l count signature : ℕ) → 0 < count → signature < 2 ^ 32 → IsTurnedBy l signature (constant_of (512 * count))
      → ((k : ℕ) → l < k → k < l + count → (other : List ℕ) → constant_at (new_places layout size) k other ≡ None)
      → seal_check signature (run seen l count) ≡ Ok tt → IsLinuxSealed signature (run (below kind seen) l count)
  section_below l count signature some fits constant none check =
      let long : 8 ≤ length (run seen l count) = omega (arith, length_run seen (λ k. (whole k).size) l count, some) in
      record_below l count signature some fits constant none (sealed_from_check signature (run seen l count) long (run_bytes seen (λ k. (whole k).are_bytes) l count) check)

-- ---- what is read of a copy

pub and_then_ok : {A B : Type 0} (read : Result A CopyFault) (next : A → Result B CopyFault) (value : B) → and_then read next ≡ Ok value → (x : A) × (read ≡ Ok x) × (next x ≡ Ok value)
and_then_ok (Ok x) next value is = (x, refl, is)
and_then_ok (Err fault) next value is = cc

in_slots_ok : (read : Result (List RecordSlot) SlotFault) (value : List RecordSlot) → in_slots read ≡ Ok value → read ≡ Ok value
in_slots_ok (Ok x) value is = cc
in_slots_ok (Err (slot_faults.Seal slot fault)) value is = cc
in_slots_ok (Err slot_faults.Memory) value is = cc

some_log_ok : (read : Result LogValue CopyFault) (value : Option LogValue) → some_log read ≡ Ok value → (log : LogValue) × (read ≡ Ok log)
some_log_ok (Ok log) value is = (log, refl)
some_log_ok (Err fault) value is = cc

-- what is read by its seal has passed the check
seal_passed : {T : Type 0} (check : Result Unit SealFault) (made value : T) → ok_unless (result_err check) made ≡ Ok value → check ≡ Ok tt
seal_passed (Ok u) made value is = refl
seal_passed (Err fault) made value is = cc

first_passed : {F T : Type 0} (fault : SealFault → F) (check : Result Unit SealFault) (others : Option F) (made value : T)
    → ok_unless (option_or (option_map fault (result_err check)) others) made ≡ Ok value → check ≡ Ok tt
first_passed fault (Ok u) others made value is = refl
first_passed fault (Err e) others made value is = cc

pub header_passed : (kind : HeaderKind) (sector : List ℕ) (header : Header) → decoded kind sector ≡ Ok header → seal_check header_signature sector ≡ Ok tt
unfolding first_fault
header_passed kind sector header is = first_passed faults.Seal (seal_check header_signature sector) _ (header_at kind sector) header is

gated_ok : (size : ℕ) (anchor : Header) (which : Which) (sector : List ℕ) (read : Result Header HeaderFault) (header : Header) → gated size anchor which sector read ≡ Ok header
    → (found : Header) × (read ≡ Ok found)
gated_ok size anchor which sector (Ok found) header is = (found, refl)
gated_ok size anchor which sector (Err fault) header is = cc

read_if : {T E : Type 0} (test : Bool) (read : Result T E) (fault : E) (value : T) → cond test read (Err fault) ≡ Ok value → read ≡ Ok value
read_if true read fault value is = is
read_if false read fault value is = cc

-- the header of a copy that is read is sealed
pub copy_header_passed : (size : ℕ) (sector : ℕ → List ℕ) (anchor : Header) (which : Which) (header : Header) → header_of size sector anchor which ≡ Ok header
    → seal_check header_signature (sector (place_of which anchor)) ≡ Ok tt
unfolding header_of header_in
copy_header_passed size sector anchor which header is =
    let place = place_of which anchor in
    let inside = read_if (ltb place size) (gated size anchor which (sector place) (decoded (kind_of which) (sector place))) _ header is in
    let found = gated_ok size anchor which (sector place) (decoded (kind_of which) (sector place)) header inside in
    header_passed (kind_of which) (sector place) found.0 found.1

-- the header of what was read
header_or : Header → Result DiskCopy CopyFault → Header
header_or other (Ok copy) = copy.header
header_or other (Err fault) = other

-- each section of a copy that is read is sealed, and its header is the copy's
pub record IsPassed (header : Header) (raw : Raw) (copy : DiskCopy) : Type 0 where
  pub same_header : copy.header ≡ header
  pub controller : seal_check controller_signature raw.controller ≡ Ok tt
  pub disks : seal_check disk_signature (bytes_in raw.disks) ≡ Ok tt
  pub arrays : seal_check array_signature (bytes_in raw.arrays) ≡ Ok tt
  pub slots : List RecordSlot
  pub are_slots : decoded_slots header.geometry header.guid header.sequence (bytes_in raw.records) ≡ Ok slots
  pub disk_data : seal_check disk_data_signature raw.disk_data ≡ Ok tt
  pub log : Option LogValue
  pub is_log : log_in raw.bad_blocks ≡ Ok log

pub copy_passed : (header : Header) (raw : Raw) (copy : DiskCopy) → copy_in header raw ≡ Ok copy → IsPassed header raw copy
unfolding copy_in header_or
copy_passed header raw copy is =
    let controller = and_then_ok (in_sector names.Controller (decoded_controller raw.controller)) _ copy is in
    let disks = and_then_ok (in_section names.Disks (decoded_disks header.geometry.max_disks (bytes_in raw.disks))) _ copy controller.2 in
    let arrays = and_then_ok (in_section names.Arrays (decoded_arrays header.geometry.max_arrays (bytes_in raw.arrays))) _ copy disks.2 in
    let slots = and_then_ok (in_slots (decoded_slots header.geometry header.guid header.sequence (bytes_in raw.records))) _ copy arrays.2 in
    let disk_data = and_then_ok (in_sector names.DiskData (decoded_disk_data raw.disk_data)) _ copy slots.2 in
    let log = and_then_ok (log_in raw.bad_blocks) _ copy disk_data.2 in
    record {
      same_header = sym (ap (λ (read : Result DiskCopy CopyFault). header_or header read) log.2);
      controller = seal_passed (seal_check controller_signature raw.controller) (controller_at raw.controller) controller.0 (in_sector_ok names.Controller (decoded_controller raw.controller) controller.0 controller.1);
      disks = first_passed table_faults.Seal (seal_check disk_signature (bytes_in raw.disks)) _ _ disks.0 (in_section_ok names.Disks (decoded_disks header.geometry.max_disks (bytes_in raw.disks)) disks.0 disks.1);
      arrays = first_passed table_faults.Seal (seal_check array_signature (bytes_in raw.arrays)) _ _ arrays.0 (in_section_ok names.Arrays (decoded_arrays header.geometry.max_arrays (bytes_in raw.arrays)) arrays.0 arrays.1);
      slots = slots.0;
      are_slots = in_slots_ok (decoded_slots header.geometry header.guid header.sequence (bytes_in raw.records)) slots.0 slots.1;
      disk_data = seal_passed (seal_check disk_data_signature raw.disk_data) (disk_data_at raw.disk_data) disk_data.0 (in_sector_ok names.DiskData (decoded_disk_data raw.disk_data) disk_data.0 disk_data.1);
      log = log.0;
      is_log = log.1;
    }

-- ---- the copy

new_room : (layout : NewLayout) (size : ℕ) → HasRoom (new_geometry layout size)
new_room Small size = record { whole = omega arith; bits = refl }
new_room Large size = record { whole = omega arith; bits = refl }

three : (signature a b c : ℕ) → (eqb signature a || eqb signature b || eqb signature c) ≡ true → (signature ≡ a) ⊎ (signature ≡ b) ⊎ (signature ≡ c)
three signature a b c known = by (eqb signature a) (eqb signature b) (eqb signature c) refl refl refl known
  where
    by : (x y z : Bool) → eqb signature a ≡ x → eqb signature b ≡ y → eqb signature c ≡ z → (x || y || z) ≡ true → (signature ≡ a) ⊎ (signature ≡ b) ⊎ (signature ≡ c)
    by true y z first second third is = inl (eqb-true signature a first)
    by false true z first second third is = inr (inl (eqb-true signature b second))
    by false false true first second third is = inr (inr (eqb-true signature c third))
    by false false false first second third is = cc

known_configs : (records : Layout) (signature : ℕ) → is_known signature ≡ true → records_with records signature ≡ Some records.configs
unfolding records_with
known_configs records signature known = elim (three signature 0xEEEE_EEEE 0x8888_8888 0x5555_5555 known) [
  | inl element ↦ rw element refl
  | inr others ↦ elim others [ inl vendor ↦ rw vendor refl | inr spare ↦ rw spare refl ]
]

known_fits : (signature : ℕ) → is_known signature ≡ true → signature < 2 ^ 32
known_fits signature known = elim (three signature 0xEEEE_EEEE 0x8888_8888 0x5555_5555 known) [
  | inl element ↦ omega (arith, element)
  | inr others ↦ elim others [ inl vendor ↦ omega (arith, vendor) | inr spare ↦ omega (arith, spare) ]
]

-- ---- slots

some_table : (layout : NewLayout) → 0 < table_sectors_of layout
some_table Small = omega arith
some_table Large = omega arith

some_record : (layout : NewLayout) → 0 < record_length_of layout
some_record Small = omega arith
some_record Large = omega arith

-- a slot ends within the records
slot_within : (layout : NewLayout) (slot : ℕ) → slot < slots_of layout → record_length_of layout * slot + record_length_of layout ≤ records_sectors layout
slot_within Small slot lt = omega (arith, lt)
slot_within Large slot lt = omega (arith, lt)

-- where its bytes begin
slot_start : (layout : NewLayout) (slot : ℕ) → slot * (512 * record_length_of layout) ≡ 512 * (record_length_of layout * slot)
slot_start Small slot = omega arith
slot_start Large slot = omega arith

-- as many fill the records
slots_full : (layout : NewLayout) → 512 * records_sectors layout / (512 * record_length_of layout) ≡ slots_of layout
slots_full Small = refl
slots_full Large = refl

-- the records that are read are those of all slots
records_read : (layout : NewLayout) (size header : ℕ) (sector : ℕ → List ℕ) → bytes_in (raw_at sector header (new_geometry layout size)).records ≡ run sector (header + slots_behind layout) (records_sectors layout)
records_read Small size header sector = refl
records_read Large size header sector = refl

module _ (layout : NewLayout) (size : ℕ) (large : least_sectors layout ≤ size) (seen : ℕ → List ℕ) (whole : (l : ℕ) → IsWhole (seen l)) (header : ℕ) (is_header : IsNewHeader layout size header) where
  abbrev one : ℕ
  one = constant_of 512

  abbrev table : ℕ
  table = constant_of (512 * table_sectors_of layout)

  abbrev slots : ℕ
  slots = constant_of (512 * record_length_of layout)

  abbrev under : ℕ → List ℕ
  under = below (Turned (new_places layout size)) seen

  abbrev geometry : Geometry
  geometry = new_geometry layout size

  under_long : (l : ℕ) → length (under l) ≡ 512
  under_long l = turn_length (Turned (new_places layout size)) l (seen l) ∙ (whole l).size

  -- behind the first sector of a record that goes on nothing is turned
  none_within : (start sectors l : ℕ) → l ≡ header + start → start + sectors ≤ copy_length layout → GoesOn layout one table slots start sectors
      → (k : ℕ) → l < k → k < l + sectors → (other : List ℕ) → constant_at (new_places layout size) k other ≡ None
  none_within start sectors l is ends goes k behind within other =
      let later : ℕ = k - l in
      let here : header + (start + later) ≡ k = omega (arith, is, behind) in
      subst (λ (n : ℕ). constant_at (new_places layout size) n other ≡ None) here
      (none_turned layout size large header (start + later) is_header (omega (arith, is, ends, behind, within)) (goes later (omega (arith, behind)) (omega (arith, behind, within))) other)

  -- a table, which fills its section
  table_below : (start l signature : ℕ) (own : Records) → l ≡ header + start → start + table_sectors_of layout ≤ copy_length layout → signature < 2 ^ 32
      → records_with (own_records layout) signature ≡ Some own → own.constant ≡ table → is_first own 0 start ≡ true → GoesOn layout one table slots start (table_sectors_of layout)
      → seal_check signature (run seen l (table_sectors_of layout)) ≡ Ok tt → IsLinuxSealed signature (run under l (table_sectors_of layout))
  table_below start l signature own is ends fits named constant first goes check =
      let some = some_table layout in
      let turns : IsTurnedBy layout size seen whole l signature table =
      λ begins.
      ap (λ (n : ℕ). constant_at (new_places layout size) n (seen l)) is
      ∙ turned_at layout size large header start is_header (omega (arith, ends, some)) signature own named first (seen l) begins ∙ ap (λ (n : ℕ). Some n) constant in
      section_below layout size seen whole l (table_sectors_of layout) signature some fits turns (none_within start (table_sectors_of layout) l is ends goes) check

  -- where a slot begins
  abbrev slot_at : ℕ → ℕ
  slot_at slot = header + slots_behind layout + record_length_of layout * slot

  -- a slot of the configuration records
  slot_below : (slot : ℕ) → slot < slots_of layout → (signature : ℕ) → is_known signature ≡ true
      → IsSealed signature (run seen (slot_at slot) (record_length_of layout)) → IsLinuxSealed signature (run under (slot_at slot) (record_length_of layout))
  slot_below slot lt signature known sealed =
      let some = some_record layout in
      let within = slot_within layout slot lt in
      let start : ℕ = slots_behind layout + record_length_of layout * slot in
      let is : slot_at slot ≡ header + start = omega arith in
      let ends : start + record_length_of layout ≤ copy_length layout = omega (arith, within) in
      let turns : IsTurnedBy layout size seen whole (slot_at slot) signature slots =
      λ begins.
      ap (λ (n : ℕ). constant_at (new_places layout size) n (seen (slot_at slot))) is
      ∙ turned_at layout size large header start is_header (omega (arith, ends, some)) signature (own_records layout).configs (known_configs (own_records layout) signature known) (slot_begins layout one table slots slot lt) (seen (slot_at slot)) begins in
      record_below layout size seen whole (slot_at slot) (record_length_of layout) signature some (known_fits signature known) turns
      (none_within start (record_length_of layout) (slot_at slot) is ends (slot_goes_on layout one table slots slot lt)) sealed

  slot_read : (sector : ℕ → List ℕ) → ((l : ℕ) → length (sector l) ≡ 512) → (slot : ℕ) → slot < slots_of layout
      → slot_bytes geometry (bytes_in (raw_at sector header geometry).records) slot ≡ run sector (slot_at slot) (record_length_of layout)
  slot_read sector long slot lt =
      let within = slot_within layout slot lt in
      ap (λ (bytes : List ℕ). slot_bytes geometry bytes slot) (records_read layout size header sector)
      ∙ run_among sector long (header + slots_behind layout) (records_sectors layout) (record_length_of layout * slot) (record_length_of layout) (slot * (512 * record_length_of layout)) (512 * record_length_of layout) within (slot_start layout slot) refl

  slots_counted : (sector : ℕ → List ℕ) → ((l : ℕ) → length (sector l) ≡ 512) → slot_count geometry (bytes_in (raw_at sector header geometry).records) ≡ slots_of layout
  slots_counted sector long =
      ap (λ (bytes : List ℕ). slot_count geometry bytes) (records_read layout size header sector)
      ∙ ap (λ (n : ℕ). n / (512 * record_length_of layout)) (length_run sector long (header + slots_behind layout) (records_sectors layout)) ∙ slots_full layout

  -- the number that a slot begins with is that of its first sector
  slot_named : (sector : ℕ → List ℕ) → ((l : ℕ) → length (sector l) ≡ 512) → (l count : ℕ) → 0 < count → number_at w32 (run sector l count) 0 ≡ signature_of (sector l)
  slot_named sector long l zero some = absurd (omega (arith, some))
  slot_named sector long l (suc count) some = signature_front (sector l) (run sector (l + 1) count) (long l)

  slots_below : AreSealed geometry (bytes_in (raw_at seen header geometry).records) → AreSlotsForLinux geometry (bytes_in (raw_at under header geometry).records)
  slots_below sealed = record {
    each = λ slot within known.
        let seen_long : (l : ℕ) → length (seen l) ≡ 512 = λ l. (whole l).size in
        let lt : slot < slots_of layout = rw (slots_counted under under_long) at within in
        let some = some_record layout in
        let l = slot_at slot in
        let here : number_at w32 (slot_bytes geometry (bytes_in (raw_at under header geometry).records) slot) 0 ≡ signature_of (seen l) =
        ap (λ (bytes : List ℕ). number_at w32 bytes 0) (slot_read under under_long slot lt) ∙ slot_named under under_long l (record_length_of layout) some ∙ turn_signature (Turned (new_places layout size)) l (seen l) in
        let there : number_at w32 (slot_bytes geometry (bytes_in (raw_at seen header geometry).records) slot) 0 ≡ signature_of (seen l) =
        ap (λ (bytes : List ℕ). number_at w32 bytes 0) (slot_read seen seen_long slot lt) ∙ slot_named seen seen_long l (record_length_of layout) some in
        let is_known_here : is_known (signature_of (seen l)) ≡ true = ap is_known (sym here) ∙ known in
        let was = sealed.each slot (rw (slots_counted seen seen_long) lt) (ap is_known there ∙ is_known_here) in
        rw (here, slot_read under under_long slot lt) (slot_below slot lt (signature_of (seen l)) is_known_here (rw (there, slot_read seen seen_long slot lt) at was));
  }

  -- the log, which is present
  log_below : (log : Option LogValue) → log_in (raw_at seen header geometry).bad_blocks ≡ Ok log → IsLinuxSealed log_signature (bytes_in (raw_at under header geometry).bad_blocks)
  unfolding records_with
  log_below log is =
      let behind : ℕ = 3 + 2 * table_sectors_of layout + records_sectors layout in
      let there = some_log_ok (in_section names.BadBlocks (decoded_log (seen (header + behind) ++ []))) log is in
      let check = first_passed table_faults.Seal (seal_check log_signature (seen (header + behind) ++ [])) _ _ there.0 (in_section_ok names.BadBlocks (decoded_log (seen (header + behind) ++ [])) there.0 there.1) in
      checked_below layout size seen whole (header + behind) log_signature [] (omega arith) (λ i. omega arith)
      (turned_at layout size large header behind is_header (omega arith) log_signature (own_records layout).bad_blocks refl (log_begins layout one table slots) (seen (header + behind))) check

  pub copy_below : (read : Header) (copy : DiskCopy) → read.geometry ≡ geometry → seal_check header_signature (seen header) ≡ Ok tt → IsPassed read (raw_at seen header geometry) copy
      → IsCopyForLinux geometry under header
  unfolding records_with is_first
  copy_below read copy same_geometry head passed =
      let are = run_bytes seen (λ l. (whole l).are_bytes) (header + slots_behind layout) (records_sectors layout) in
      let are_read : AreBytes (bytes_in (raw_at seen header geometry).records) = subst AreBytes (sym (records_read layout size header seen)) are in
      let decoded_here : decoded_slots geometry read.guid read.sequence (bytes_in (raw_at seen header geometry).records) ≡ Ok passed.slots = rw same_geometry at passed.are_slots in
      let start : IsTurnedBy layout size seen whole header header_signature one =
      rw (add-zero header) at (turned_at layout size large header 0 is_header (omega arith) header_signature (own_records layout).header refl refl (seen header)) in
      record {
        header = one_below layout size seen whole header header_signature (omega arith) start head;
        controller = one_below layout size seen whole (header + 1) controller_signature (omega arith)
            (turned_at layout size large header 1 is_header (omega arith) controller_signature (own_records layout).controller refl refl (seen (header + 1))) passed.controller;
        disks = table_below 2 (header + 2) disk_signature (own_records layout).disks refl (omega arith) (omega arith) refl refl (disks_begin layout one table slots) (disks_go_on layout one table slots) passed.disks;
        arrays = table_below (2 + table_sectors_of layout) (header + (2 + table_sectors_of layout)) array_signature (own_records layout).arrays refl (omega arith) (omega arith) refl refl
            (arrays_begin layout one table slots) (arrays_go_on layout one table slots) passed.arrays;
        slots = slots_below (decoded_sealed geometry read.guid read.sequence (bytes_in (raw_at seen header geometry).records) passed.slots (new_room layout size) are_read decoded_here);
        disk_data = one_below layout size seen whole (header + (slots_behind layout + records_sectors layout)) disk_data_signature (omega arith)
            (turned_at layout size large header (slots_behind layout + records_sectors layout) is_header (omega arith) disk_data_signature (own_records layout).disk_data refl (disk_data_begins layout one table slots) (seen (header + (slots_behind layout + records_sectors layout)))) passed.disk_data;
        bad_blocks = log_below passed.log passed.is_log;
      }
