-- The copy that a disk of a group has after a change, or after a recovery in which nothing is lost (SNIA DDF 2.0; what is kept is
-- profile).
use Rattle.std.specs.Prelude.{ℕ, Bool, true, false, not, ◌||◌, List, [], ◌∷◌, ◌++◌, length, map, filter_map, replicate, Option, None, option_map, if◌then◌else◌}
use Rattle.std.specs.List.{enumerate_from}
use Rattle.std.specs.Option.{option_map_or}
use Rattle.ddf_header.specs.declared.geometry.Geometry.{Geometry}
use Rattle.ddf_tables.specs.declared.disks.DiskEntry.{DiskEntry}
use Rattle.ddf_tables.specs.Disks.{is_used_disk}
use Rattle.ddf_tables.specs.Arrays.{is_used_array}
use Rattle.ddf_tables.specs.Tables.{replaced_table}
use Rattle.ddf_config_records.specs.declared.notes.Notes.{Notes}
use Rattle.ddf_config_records.specs.declared.spare.SpareRecord.{SpareRecord}
use Rattle.ddf_config_records.specs.declared.slot.RecordSlot.{RecordSlot}
use Rattle.ddf_config_records.specs.declared.slot.RecordSlot.TheVariants as slots
use Rattle.ddf_config_records.specs.Elements.{record_size}
use Rattle.ddf_config.specs.declared.member.SpareUse.{SpareUse}
use Rattle.ddf_config.specs.Members.{is_spare}
use Rattle.ddf_config.specs.Configuration.{Configuration}
use Rattle.ddf_copy.specs.declared.copy.DiskCopy.{DiskCopy}
use Rattle.ddf_view.specs.View.{HeldRecord, view_of, find_held, first_spare}
use Rattle.ddf_rewrite.specs.declared.item.Item.{Item}
use Rattle.ddf_rewrite.specs.declared.item.Item.TheVariants as items
use Rattle.ddf_rewrite.specs.declared.item.Slotted.{Slotted}
use Rattle.ddf_rewrite.specs.Before.{Before, leading_record}
use Rattle.ddf_rewrite.specs.Wanted.{Wanted, all_wanted, refers_to}
use Rattle.ddf_rewrite.specs.Disks.{changed_disks, disks_for, recovered_disks, disk_rows_after}
use Rattle.ddf_rewrite.specs.Arrays.{arrays_after, array_rows_after}
use Rattle.ddf_rewrite.specs.Elements.{changed_record, recovered_record}
use Rattle.ddf_rewrite.specs.Placement.{slotted_items, item_at}
use Rattle.ddf_rewrite.specs.Notes.{Holding, find_holding, notes_after}
use Rattle.ddf_rewrite.specs.Spares.{spare_use, spare_after}

-- ---- what a disk is to hold

-- a disk that is no member of an element holds a copy of its record
abbrev pub is_copied_on : (reference : ℕ) → Wanted → Bool
is_copied_on reference wanted = not (refers_to wanted.plan reference)

abbrev pub own_record : DiskCopy → Wanted → Option HeldRecord
own_record old wanted = find_held wanted.guid wanted.index (view_of old).elements

-- the record of an element after a change
abbrev pub changed_holding : DiskCopy → Before → Configuration → (timestamp : ℕ) → Wanted → Holding
changed_holding old leaders config timestamp wanted = record {
  wanted = wanted;
  copied = is_copied_on old.disk_data.reference wanted;
  element = changed_record config timestamp old.header.geometry old.header.revision (own_record old wanted) (leading_record leaders wanted.guid wanted.index) wanted;
}

-- After a change each disk holds every element that is known, as a member or as a copy.
unfoldable pub changed_holdings : DiskCopy → Before → Configuration → (timestamp : ℕ) → List Holding
changed_holdings old leaders config timestamp = map (changed_holding old leaders config timestamp) (all_wanted config)

-- the record of an element after a recovery, as the leader's says
abbrev pub led_holding : DiskCopy → Wanted → HeldRecord → Holding
led_holding old wanted leader = record {
  wanted = wanted;
  copied = is_copied_on old.disk_data.reference wanted;
  element = recovered_record old.header.geometry (own_record old wanted) leader.element;
}

-- In a group without valid notes a recovery gives no copies.
abbrev pub recovered_holding : DiskCopy → Before → Wanted → Option Holding
recovered_holding old leaders wanted =
    if leaders.noted || not (is_copied_on old.disk_data.reference wanted) then option_map (led_holding old wanted) (leading_record leaders wanted.guid wanted.index)
    else None

unfoldable pub recovered_holdings : DiskCopy → Before → Configuration → List Holding
recovered_holdings old leaders config = filter_map (recovered_holding old leaders) (all_wanted config)

-- ---- the slots

abbrev pub one_if : {X : Type 0} → Bool → X → List X
one_if true x = x ∷ []
one_if false x = []

abbrev pub element_item : Holding → Item
element_item holding = items.Element holding.wanted.guid holding.wanted.index

-- what is to have a slot, in the order in which new records take theirs
abbrev pub items_of : (noted : Bool) → SpareUse → List Holding → List Item
items_of noted use_as holdings = one_if noted items.Notes ++ one_if (is_spare use_as) items.Spare ++ map element_item holdings

abbrev pub element_slot : Holding → RecordSlot
element_slot holding = if holding.copied then slots.Copied holding.element else slots.Element holding.element

-- a slot of FF
abbrev pub unused_slot : Geometry → RecordSlot
unused_slot geometry = slots.Unused (replicate (record_size geometry) 255)

abbrev pub record_of : Geometry → List Holding → Notes → SpareRecord → Item → RecordSlot
record_of geometry holdings notes spare items.Notes = slots.Notes notes
record_of geometry holdings notes spare items.Spare = slots.Spare spare
record_of geometry holdings notes spare (items.Element array index) = option_map_or element_slot (find_holding array index holdings) (unused_slot geometry)

-- A slot where nothing is placed: one of another vendor, one that isn't read and one that is unused stay, any other is now unused.
abbrev pub left_slot : Geometry → RecordSlot → RecordSlot
left_slot geometry (slots.Unused kept) = slots.Unused kept
left_slot geometry (slots.Vendor guid rest) = slots.Vendor guid rest
left_slot geometry (slots.Unread fault kept) = slots.Unread fault kept
left_slot geometry (slots.Element element) = unused_slot geometry
left_slot geometry (slots.Copied element) = unused_slot geometry
left_slot geometry (slots.Spare spare) = unused_slot geometry
left_slot geometry (slots.Notes notes) = unused_slot geometry

abbrev pub slot_after : Geometry → List Holding → Notes → SpareRecord → List Slotted → (ℕ × RecordSlot) → RecordSlot
slot_after geometry holdings notes spare placed pair = option_map_or (record_of geometry holdings notes spare) (item_at placed pair.0) (left_slot geometry pair.1)

-- where each item stands
abbrev pub slotted_on : DiskCopy → (noted : Bool) → Configuration → List Holding → List Slotted
slotted_on old noted config holdings =
    slotted_items old.header.guid old.header.sequence old.slots (items_of noted (spare_use config old.disk_data.reference) holdings)

-- the disk's spare record
abbrev pub spare_on : DiskCopy → Configuration → (timestamp : ℕ) → SpareRecord
spare_on old config timestamp = spare_after old.header.geometry timestamp (spare_use config old.disk_data.reference) (first_spare old.slots)

abbrev pub slots_with : DiskCopy → List Holding → SpareRecord → List Slotted → Notes → List RecordSlot
slots_with old holdings spare placed notes = map (slot_after old.header.geometry holdings notes spare placed) (enumerate_from 0 old.slots)

unfoldable pub slots_after : DiskCopy → (noted : Bool) → Configuration → (timestamp : ℕ) → List Holding → List RecordSlot
slots_after old noted config timestamp holdings =
    slots_with old holdings (spare_on old config timestamp) (slotted_on old noted config holdings)
    (notes_after config holdings (slotted_on old noted config holdings) (length old.slots))

-- ---- the copy

-- All else stays: the controller data, the disk data, the bad block log, and what no field names.
abbrev pub copy_after : DiskCopy → (noted : Bool) → Configuration → (timestamp : ℕ) → List DiskEntry → List Holding → DiskCopy
copy_after old noted config timestamp disks holdings = record old {
  header = record old.header { guid = config.group; sequence = config.sequence };
  disks = replaced_table is_used_disk old.disks (disk_rows_after old.disks.rows (disks_for old.header.revision noted config disks));
  arrays = replaced_table is_used_array old.arrays (array_rows_after old.arrays.rows (arrays_after config (view_of old).arrays));
  slots = slots_after old noted config timestamp holdings;
}

-- The copy of a disk after a change.
unfoldable pub changed_copy : DiskCopy → Before → Configuration → (timestamp : ℕ) → DiskCopy
changed_copy old leaders config timestamp =
    copy_after old true config timestamp (changed_disks config leaders.disks old.header.revision (view_of old).disks) (changed_holdings old leaders config timestamp)

-- The copy of a disk that was behind, after a recovery in which nothing is lost.
unfoldable pub recovered_copy : DiskCopy → Before → Configuration → (timestamp : ℕ) → DiskCopy
recovered_copy old leaders config timestamp =
    copy_after old leaders.noted config timestamp (recovered_disks leaders.disks (view_of old).disks) (recovered_holdings old leaders config)
