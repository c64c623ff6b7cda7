-- The copy that a change or a recovery gives a disk can be written.
use Rattle.std.proofs.Common.{◌≡◌, ℕ, suc, ◌<◌, ◌≤◌, ◌^◌, Bool, true, false, cond, List, [], ◌∷◌, length, map, Option, Some, None, refl, sym, ◌∙◌, subst}
use Rattle.std.proofs.lemmas.Bool.{ltb-false, false≢true}
use Rattle.std.specs.Prelude.{slice_get, filter_map}
use Rattle.std.specs.List.{AllByRecursion, cons_option}
use Rattle.ddf_lemmas.proofs.Lists.{all_from}
use Rattle.ddf_header.specs.declared.geometry.Geometry.{Geometry}
use Rattle.ddf_tables.specs.declared.disks.DiskEntry.{DiskEntry}
use Rattle.ddf_tables.specs.Tables.{replaced_table}
use Rattle.ddf_tables.specs.Disks.{is_used_disk, is_no_disk, IsDiskTable}
use Rattle.ddf_tables.specs.Arrays.{is_used_array, IsArrayTable}
use Rattle.ddf_config_records.specs.Elements.{record_size, CanBeElement}
use Rattle.ddf_config_records.specs.Spares.{CanBeSpare}
use Rattle.ddf_config_records.specs.NoteRecords.{note_place}
use Rattle.ddf_config_records.specs.Slots.{CanBeSlots}
use Rattle.ddf_config_records.proofs.Fits.{do_fit}
use Rattle.ddf_copy.specs.declared.copy.DiskCopy.{DiskCopy}
use Rattle.ddf_copy.specs.Written.{CanBeCopy}
use Rattle.ddf_config_records.specs.Building.{spare_entries}
use Rattle.ddf_copy.proofs.Levels.{room_of}
use Rattle.ddf_config.specs.Configuration.{Configuration}
use Rattle.ddf_config.specs.declared.member.Member.{Member}
use Rattle.ddf_view.specs.View.{HeldRecord, find_held, first_spare, is_element, notes_of, view_of}
use Rattle.ddf_view.proofs.Finds.{find_has}
use Rattle.ddf_rewrite.specs.Arrays.{array_rows_after, arrays_after}
use Rattle.ddf_rewrite.specs.Before.{Before, is_listed, leading_record}
use Rattle.ddf_rewrite.specs.Changing.{CanChange}
use Rattle.ddf_rewrite.specs.Copies.{changed_copy, changed_holding, changed_holdings, copy_after, items_of, own_record, slotted_on, recovered_copy, recovered_holding, recovered_holdings, slots_after}
use Rattle.ddf_rewrite.specs.Disks.{changed_disks, disk_rows_after, disks_for, recovered_disks}
use Rattle.ddf_rewrite.specs.Hold.{AreHeld, CanBeRecovered, CanHold, CanWrite, FitsPlan}
use Rattle.ddf_rewrite.specs.Notes.{Holding, notes_after}
use Rattle.ddf_rewrite.specs.Readable.{HasSpares}
use Rattle.ddf_rewrite.specs.Room.{lacks_entries, lacks_notes}
use Rattle.ddf_rewrite.specs.Spares.{arrays_of_spare, spare_after, spare_use}
use Rattle.ddf_rewrite.specs.Wanted.{Wanted, all_wanted}
use Rattle.ddf_rewrite.proofs.After.{never_notes}
use Rattle.ddf_rewrite.proofs.Changed.{changed_makes}
use Rattle.ddf_rewrite.proofs.Led.{is_led, led_apart}
use Rattle.ddf_rewrite.proofs.Made.{items_differ, made_apart, slots_long}
use Rattle.ddf_rewrite.proofs.ElementsCan.{given, CanBeHeld, changed_can, recovered_can}
use Rattle.ddf_rewrite.proofs.NotesCan.{HasPlan, notes_can}
use Rattle.ddf_rewrite.proofs.InPlace.{AreInPlace, in_place}
use Rattle.ddf_rewrite.proofs.RowsCan.{changed_disks_can, recovered_disks_can, arrays_can}
use Rattle.ddf_rewrite.proofs.SlotsCan.{HasElement, slots_can, listed_noted, listed_none, elements_can, first_spare_can}
use Rattle.ddf_rewrite.proofs.SparesCan.{spare_can, spare_arrays_fit}
use Rattle.ddf_rewrite.proofs.Lists.{all_mapped}
use Rattle.ddf_rewrite.proofs.Premises.{is_sound}

-- ---- any copy after another

-- The header, the controller, the disk data and the log stay but for the group and the sequence.
copy_can : (old : DiskCopy) (noted : Bool) (config : Configuration) (timestamp : ℕ) (disks : List DiskEntry) (holdings : List Holding) → CanBeCopy old → length config.group ≡ 24 → config.sequence < 2 ^ 32
    → IsDiskTable old.header.geometry.max_disks (replaced_table is_used_disk old.disks (disk_rows_after old.disks.rows (disks_for old.header.revision noted config disks)))
    → IsArrayTable old.header.geometry.max_arrays (replaced_table is_used_array old.arrays (array_rows_after old.arrays.rows (arrays_after config (view_of old).arrays)))
    → CanBeSlots old.header.geometry config.group config.sequence (slots_after old noted config timestamp holdings)
    → CanBeCopy (copy_after old noted config timestamp disks holdings)
copy_can old noted config timestamp disks holdings is group sequence disks_can arrays_can slots_can =
    let head = is.header_can.is_header in
    let fit = is.header_can.is_record.fields_fit in
    record {
      header_can = record {
        is_header = record { of_kind = head.of_kind; has_flag = head.has_flag; has_places = head.has_places; has_geometry = head.has_geometry };
        is_record = record { fields_fit = (group, (fit.1.0, (sequence, fit.1.1.1))); others_clear = is.header_can.is_record.others_clear };
        rest_size = is.header_can.rest_size;
      };
      is_closed = is.is_closed;
      controller_can = is.controller_can;
      disks_can = disks_can;
      disks_size = is.disks_size;
      arrays_can = arrays_can;
      arrays_size = is.arrays_size;
      slots_can = slots_can;
      slots_fit = do_fit old.header.geometry config.group config.sequence (slots_after old noted config timestamp holdings) (room_of old is) slots_can;
      slots_count = slots_long old noted config timestamp holdings ∙ is.slots_count;
      disk_data_can = is.disk_data_can;
      has_log = is.has_log;
    }

-- ---- the slots

held_can : (geometry : Geometry) (wanted : Wanted) (elements : List HeldRecord) → AllByRecursion (λ held. CanBeElement geometry held.element) elements → CanBeHeld geometry (find_held wanted.guid wanted.index elements)
held_can geometry wanted elements all = go (find_held wanted.guid wanted.index elements) refl
  where
    go : (o : Option HeldRecord) → find_held wanted.guid wanted.index elements ≡ o → CanBeHeld geometry o
    go None e = tt
    go (Some held) e = find_has (λ one. CanBeElement geometry one.element) (is_element wanted.guid wanted.index) elements held all e

leading_can : (geometry : Geometry) (leaders : Before) (wanted : Wanted) → AreHeld geometry leaders → CanBeHeld geometry (leading_record leaders wanted.guid wanted.index)
leading_can geometry leaders wanted all = go (is_listed leaders wanted.guid)
  where
    go : (b : Bool) → CanBeHeld geometry (cond b (find_held wanted.guid wanted.index leaders.elements) None)
    go true = held_can geometry wanted leaders.elements all
    go false = tt

own_can : (old : DiskCopy) (wanted : Wanted) → CanBeCopy old → CanBeHeld old.header.geometry (own_record old wanted)
unfolding view_of
own_can old wanted is = held_can old.header.geometry wanted (view_of old).elements (elements_can old.header.geometry old.header.guid old.header.sequence (notes_of old) old.slots is.slots_can)

spare_record_can : (old : DiskCopy) (config : Configuration) (timestamp : ℕ) → CanBeCopy old → HasSpares config → CanHold old.header.geometry.max_members config → timestamp < 2 ^ 32 → lacks_entries old config ≡ false
    → CanBeSpare old.header.geometry (spare_after old.header.geometry timestamp (spare_use config old.disk_data.reference) (first_spare old.slots))
spare_record_can old config timestamp is spares can time fit =
    let geometry = old.header.geometry in
    let use_as = spare_use config old.disk_data.reference in
    spare_can geometry timestamp use_as (first_spare old.slots) (is_sound old is) (room_of old is) time (spare_arrays_fit config old.disk_data.reference spares can.arrays)
    (ltb-false (spare_entries geometry) (length (arrays_of_spare use_as)) fit) (first_spare_can geometry old.header.guid old.header.sequence old.slots is.slots_can)

after_slots : (old : DiskCopy) (noted : Bool) (config : Configuration) (timestamp : ℕ) (holdings : List Holding) → CanBeCopy old → HasSpares config → CanHold old.header.geometry.max_members config → timestamp < 2 ^ 32
    → lacks_entries old config ≡ false → lacks_notes old noted ≡ false → AllByRecursion (HasElement old.header.geometry) holdings → AllByRecursion (HasPlan old.header.geometry.max_members) holdings
    → (noted ≡ false → AllByRecursion (λ holding. holding.copied ≡ false) holdings)
    → AreInPlace old.slots (items_of noted (spare_use config old.disk_data.reference) holdings) (slotted_on old noted config holdings)
    → CanBeSlots old.header.geometry config.group config.sequence (slots_after old noted config timestamp holdings)
unfolding slots_after
after_slots old true config timestamp holdings is spares can time entries notes elements plans copies placing =
    let geometry = old.header.geometry in
    let use_as = spare_use config old.disk_data.reference in
    let placed = slotted_on old true config holdings in
    let spare = spare_after geometry timestamp use_as (first_spare old.slots) in
    let new_notes = notes_after config holdings placed (length old.slots) in
    let fits : note_place geometry.max_members (length old.slots) ≤ record_size geometry = ltb-false (record_size geometry) (note_place geometry.max_members (length old.slots)) notes in
    slots_can geometry config holdings new_notes spare placed old.slots old.header.guid old.header.sequence (room_of old is) is.slots_can (record {
      elements = elements;
      noted = λ k at. notes_can geometry config holdings placed (length old.slots) (is_sound old is) fits can.group can.sequence plans;
      spared = λ k at. spare_record_can old config timestamp is spares can time entries;
      listed = listed_noted geometry config holdings spare use_as placed old.slots placing;
    })
after_slots old false config timestamp holdings is spares can time entries notes elements plans copies placing =
    let geometry = old.header.geometry in
    let use_as = spare_use config old.disk_data.reference in
    let placed = slotted_on old false config holdings in
    let spare = spare_after geometry timestamp use_as (first_spare old.slots) in
    let new_notes = notes_after config holdings placed (length old.slots) in
    slots_can geometry config holdings new_notes spare placed old.slots old.header.guid old.header.sequence (room_of old is) is.slots_can (record {
      elements = elements;
      noted = λ k at. absurd (never_notes use_as holdings placed old.slots placing k at);
      spared = λ k at. spare_record_can old config timestamp is spares can time entries;
      listed = listed_none geometry config holdings new_notes spare use_as placed old.slots placing (copies refl);
    })

-- ---- a change

changed_slots : (old : DiskCopy) (leaders : Before) (config : Configuration) (timestamp : ℕ) → CanBeCopy old → CanChange old leaders config timestamp → CanWrite old leaders config timestamp
    → CanBeSlots old.header.geometry config.group config.sequence (slots_after old true config timestamp (changed_holdings old leaders config timestamp))
unfolding changed_holdings
changed_slots old leaders config timestamp is change can =
    let make = changed_holding old leaders config timestamp in
    let holdings = map make (all_wanted config) in
    let use_as = spare_use config old.disk_data.reference in
    let geometry = old.header.geometry in
    let elements = all_mapped (HasElement geometry) make (all_wanted config) (all_from (λ wanted. HasElement geometry (make wanted)) (all_wanted config) (λ n wanted at.
    changed_can config timestamp geometry old.header.revision (own_record old wanted) (leading_record leaders wanted.guid wanted.index) wanted (room_of old is)
    (given geometry.max_members config can.config_can change.readable n wanted at) can.timestamp_fits (can.capacities_fit n wanted at) (own_can old wanted is) (leading_can geometry leaders wanted can.leaders_can))) in
    let plans = all_mapped (HasPlan geometry.max_members) make (all_wanted config) (all_from (λ wanted. FitsPlan geometry.max_members wanted) (all_wanted config) can.config_can.plans) in
    let differ = items_differ true use_as holdings (made_apart config make change.names (changed_makes old leaders config timestamp)).differ in
    let placing = in_place old.header.guid old.header.sequence old.slots (items_of true use_as holdings) differ change.room.records in
    after_slots old true config timestamp holdings is change.spares can.config_can can.timestamp_fits can.entries_fit can.notes_fit elements plans (λ no. absurd (false≢true (sym no))) placing

-- The copy of a member after a change can be written.
pub changed_copy_can : (old : DiskCopy) (leaders : Before) (config : Configuration) (timestamp : ℕ) → CanBeCopy old → CanChange old leaders config timestamp → CanWrite old leaders config timestamp
    → CanBeCopy (changed_copy old leaders config timestamp)
unfolding changed_copy view_of
changed_copy_can old leaders config timestamp is change can =
    let named = all_from (λ (entry : ℕ × Member). is_no_disk entry.0 ≡ false) config.members (λ i one at. change.spares.named i one at) in
    copy_can old true config timestamp (changed_disks config leaders.disks old.header.revision (view_of old).disks) (changed_holdings old leaders config timestamp) is can.config_can.group can.config_can.sequence
    (changed_disks_can old.header.geometry.max_disks old.disks config leaders.disks old.header.revision is.disks_can can.config_can.members change.room.disks named can.config_can.references)
    (arrays_can old.header.geometry.max_arrays old.arrays config is.arrays_can can.config_can.arrays change.room.arrays can.config_can.guids)
    (changed_slots old leaders config timestamp is change can)

-- ---- a recovery

-- what holds of each wanted element holds of each holding that is made of it
all_made : {X Y : Type 0} (P : Y → Type 0) (f : X → Option Y) (xs : List X) → ((i : ℕ) (x : X) (y : Y) → slice_get xs i ≡ Some x → f x ≡ Some y → P y) → AllByRecursion P (filter_map f xs)
all_made P f [] h = tt
all_made {Y = Y} P f (x ∷ xs) h = go (all_made P f xs (λ i z y at is. h (suc i) z y at is)) (f x) refl
  where
    go : AllByRecursion P (filter_map f xs) → (o : Option Y) → f x ≡ o → AllByRecursion P (cons_option o (filter_map f xs))
    go rest None e = rest
    go rest (Some y) e = (h 0 x y refl e, rest)

recovered_slots : (old : DiskCopy) (leaders : Before) (config : Configuration) (timestamp : ℕ) → CanBeCopy old → CanBeRecovered old leaders config timestamp
    → CanBeSlots old.header.geometry config.group config.sequence (slots_after old leaders.noted config timestamp (recovered_holdings old leaders config))
unfolding recovered_holdings
recovered_slots old leaders config timestamp is can =
    let make = recovered_holding old leaders in
    let holdings = filter_map make (all_wanted config) in
    let use_as = spare_use config old.disk_data.reference in
    let geometry = old.header.geometry in
    let elements = all_made (HasElement geometry) make (all_wanted config) (λ n wanted holding at made.
    let led = is_led old leaders wanted holding made in
    let theirs = subst (CanBeHeld geometry) led.found (held_can geometry wanted leaders.elements can.leaders_can) in
    subst (CanBeElement geometry) (sym led.element_is) (recovered_can geometry (own_record old wanted) led.leader.element (room_of old is) (own_can old wanted is) theirs)) in
    let plans = all_made (HasPlan geometry.max_members) make (all_wanted config) (λ n wanted holding at made.
    let led = is_led old leaders wanted holding made in
    subst (FitsPlan geometry.max_members) (sym led.wanted_is) (can.config_can.plans n wanted at)) in
    let copies = λ (no : leaders.noted ≡ false). all_made (λ (holding : Holding). holding.copied ≡ false) make (all_wanted config) (λ n wanted holding at made. (is_led old leaders wanted holding made).own_only no) in
    let differ = items_differ leaders.noted use_as holdings (led_apart old leaders config can.names).differ in
    let placing = in_place old.header.guid old.header.sequence old.slots (items_of leaders.noted use_as holdings) differ can.records_fit in
    after_slots old leaders.noted config timestamp holdings is can.spares can.config_can can.timestamp_fits can.entries_fit can.notes_fit elements plans copies placing

-- The copy of a disk that was behind, after a recovery, can be written.
pub recovered_copy_can : (old : DiskCopy) (leaders : Before) (config : Configuration) (timestamp : ℕ) → CanBeCopy old → CanBeRecovered old leaders config timestamp → CanBeCopy (recovered_copy old leaders config timestamp)
unfolding recovered_copy view_of
recovered_copy_can old leaders config timestamp is can =
    copy_can old leaders.noted config timestamp (recovered_disks leaders.disks (view_of old).disks) (recovered_holdings old leaders config) is can.config_can.group can.config_can.sequence
    (recovered_disks_can old.header.geometry.max_disks old.disks old.header.revision leaders.noted config leaders.disks is.disks_can can.disks_can.can can.disks_fit can.disks_can.named can.disks_can.apart)
    (arrays_can old.header.geometry.max_arrays old.arrays config is.arrays_can can.config_can.arrays can.arrays_fit can.config_can.guids)
    (recovered_slots old leaders config timestamp is can)
