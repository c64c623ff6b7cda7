-- The copies of a new group's disks stay plain through changes, and what follows for the seats and for what a copy takes.
use Rattle.std.proofs.Common.{◌≡◌, ℕ, ◌+◌, ◌-◌, ◌≤◌, Bool, true, false, List, [], ◌∷◌, length, map, filter, min, Option, Some, None, refl, ap, ◌∙◌, arith}
use Rattle.std.proofs.Math.Nat.{min-eq_left, min-eq_right}
use Rattle.std.proofs.lemmas.List.{length-map}
use Rattle.std.proofs.lemmas.List.FromFn.{length-enumerate_from}
use Rattle.std.specs.Prelude.{slice_index}
use Rattle.std.specs.List.{AllByRecursion, enumerate_from, sum_by}
use Rattle.std.specs.Option.{option_map_or}
use Rattle.ddf_lemmas.proofs.Lists.{all_filter, all_replicate}
use Rattle.ddf_bytes.specs.declared.stamp.Stamp.{Stamp}
use Rattle.ddf_header.specs.declared.geometry.Geometry.{Geometry}
use Rattle.ddf_header.specs.declared.kind.Revision.{Revision}
use Rattle.ddf_config_records.specs.declared.notes.Notes.{Notes}
use Rattle.ddf_config_records.specs.declared.spare.SpareRecord.{SpareRecord}
use Rattle.ddf_config_records.specs.declared.slot.RecordSlot.{RecordSlot}
use Rattle.ddf_config_records.specs.declared.slot.RecordSlot.TheVariants as slots
use Rattle.ddf_tables.specs.declared.disks.DiskEntry.{DiskEntry}
use Rattle.ddf_copy.specs.declared.copy.DiskCopy.{DiskCopy}
use Rattle.ddf_copy.specs.declared.which.Which.{Which}
use Rattle.ddf_copy.specs.declared.which.Which.TheVariants.{Primary}
use Rattle.ddf_copy.specs.Headers.{written_as}
use Rattle.ddf_copy.specs.Runs.{parts_of}
use Rattle.ddf_update.specs.declared.new_layout.NewLayout.TheVariants.{Small}
use Rattle.ddf_update.specs.NewCopies.{new_copy, new_log, unused_slot}
use Rattle.ddf_config.specs.declared.seat.Seat.{Seat}
use Rattle.ddf_config.specs.Configuration.{Configuration}
use Rattle.ddf_plan.specs.declared.change.Change.{Change}
use Rattle.ddf_view.specs.View.{view_of}
use Rattle.ddf_rewrite.specs.declared.item.Item.{Item}
use Rattle.ddf_rewrite.specs.declared.item.Item.TheVariants as items
use Rattle.ddf_rewrite.specs.declared.item.Slotted.{Slotted}
use Rattle.ddf_rewrite.specs.Before.{Before}
use Rattle.ddf_rewrite.specs.Copies.{changed_copy, changed_holdings, copy_after, element_slot, left_slot, record_of, recovered_copy, recovered_holdings, slot_after, slots_after, slotted_on, spare_on, unused_slot as free_slot}
use Rattle.ddf_rewrite.specs.Disks.{changed_disks, recovered_disks}
use Rattle.ddf_rewrite.specs.Notes.{Holding, find_holding, notes_after}
use Rattle.ddf_rewrite.specs.Placement.{is_others, item_at}
use Rattle.ddf_seats.specs.declared.seated.Seated.{Seated}
use Rattle.ddf_seats.specs.Group.{GroupValue, bad_count, floor_of, seat_of}
use Rattle.ddf_recovery.specs.Recovery.{lost_step}
use Rattle.ddf_seats.specs.Seated.{seated, levelled}
use Rattle.ddf_steps.specs.Steps.{disks_after, rewritten, stays_in, step_of}
use Rattle.ddf_uncut_group.specs.Plain.{ArePlain, IsPlain}

-- ---- new copies

-- The copy of a new group's disk is plain.
pub new_plain : (revision : Revision) (stamp : Stamp) (sizes : List ℕ) (place : ℕ) → IsPlain (slice_index sizes place) (new_copy Small revision stamp sizes place)
unfolding unused_slot
new_plain revision stamp sizes place = record {
  same_geometry = refl;
  primary = refl;
  secondary = refl;
  counted = refl;
  own = (refl, all_replicate (λ slot. is_others slot ≡ false) 15 (unused_slot 1024) refl);
  none_bad = refl;
}

-- So is a plain copy as it is read in its place.
pub written_plain : (size : ℕ) (copy : DiskCopy) (which : Which) → IsPlain size copy → IsPlain size (written_as copy which)
written_plain size copy which is = record {
  same_geometry = is.same_geometry;
  primary = is.primary;
  secondary = is.secondary;
  counted = is.counted;
  own = is.own;
  none_bad = is.none_bad;
}

-- ---- slots

-- Where nothing is placed no other's record comes.
left_own : (geometry : Geometry) (slot : RecordSlot) → is_others slot ≡ false → is_others (left_slot geometry slot) ≡ false
left_own geometry (slots.Unused kept) own = own
left_own geometry (slots.Vendor guid rest) own = own
left_own geometry (slots.Unread fault kept) own = own
left_own geometry (slots.Element element) own = refl
left_own geometry (slots.Copied element) own = refl
left_own geometry (slots.Spare spare) own = refl
left_own geometry (slots.Notes notes) own = refl

-- The record of an element is this engine's.
element_own : (copied : Bool) (holding : Holding) → holding.copied ≡ copied → is_others (element_slot holding) ≡ false
element_own true holding is = rw is refl
element_own false holding is = rw is refl

held_own : (geometry : Geometry) (found : Option Holding) → is_others (option_map_or element_slot found (free_slot geometry)) ≡ false
held_own geometry None = refl
held_own geometry (Some holding) = element_own holding.copied holding refl

-- What is placed is this engine's.
placed_own : (geometry : Geometry) (holdings : List Holding) (notes : Notes) (spare : SpareRecord) (item : Item) → is_others (record_of geometry holdings notes spare item) ≡ false
placed_own geometry holdings notes spare items.Notes = refl
placed_own geometry holdings notes spare items.Spare = refl
placed_own geometry holdings notes spare (items.Element array index) = held_own geometry (find_holding array index holdings)

module _ (geometry : Geometry) (holdings : List Holding) (notes : Notes) (spare : SpareRecord) (placed : List Slotted) where
  one_own : (found : Option Item) (slot : RecordSlot) → is_others slot ≡ false → is_others (option_map_or (record_of geometry holdings notes spare) found (left_slot geometry slot)) ≡ false
  one_own None slot own = left_own geometry slot own
  one_own (Some item) slot own = placed_own geometry holdings notes spare item

  -- Slots that are rewritten hold this engine's records where they held none of others.
  slots_own : (from : ℕ) (all : List RecordSlot) → AllByRecursion (λ slot. is_others slot ≡ false) all
      → AllByRecursion (λ slot. is_others slot ≡ false) (map (slot_after geometry holdings notes spare placed) (enumerate_from from all))
  slots_own from [] own = tt
  slots_own from (slot ∷ all) own = (one_own (item_at placed from) slot own.0, slots_own (from + 1) all own.1)

  -- There are as many.
  slots_counted : (from : ℕ) (all : List RecordSlot) → length (map (slot_after geometry holdings notes spare placed) (enumerate_from from all)) ≡ length all
  slots_counted from all = length-map (enumerate_from from all) (slot_after geometry holdings notes spare placed) ∙ length-enumerate_from from all

-- ---- a copy that is rewritten

module _ (size : ℕ) (old : DiskCopy) (is : IsPlain size old) (noted : Bool) (config : Configuration) (timestamp : ℕ) (holdings : List Holding) where
  abbrev placed : List Slotted
  placed = slotted_on old noted config holdings

  after_own : AllByRecursion (λ slot. is_others slot ≡ false) (slots_after old noted config timestamp holdings)
  unfolding slots_after
  after_own = slots_own old.header.geometry holdings (notes_after config holdings placed (length old.slots)) (spare_on old config timestamp) placed 0 old.slots is.own

  after_counted : length (slots_after old noted config timestamp holdings) ≡ 16
  unfolding slots_after
  after_counted = slots_counted old.header.geometry holdings (notes_after config holdings placed (length old.slots)) (spare_on old config timestamp) placed 0 old.slots ∙ is.counted

  -- It stays plain, whatever its tables list and whatever it is to hold.
  pub copy_plain : (disks : List DiskEntry) → IsPlain size (copy_after old noted config timestamp disks holdings)
  copy_plain disks = record {
    same_geometry = is.same_geometry;
    primary = is.primary;
    secondary = is.secondary;
    counted = after_counted;
    own = after_own;
    none_bad = is.none_bad;
  }

-- What a change makes of a plain copy is plain.
pub changed_plain : (size : ℕ) (old : DiskCopy) → IsPlain size old → (leaders : Before) (config : Configuration) (timestamp : ℕ) → IsPlain size (changed_copy old leaders config timestamp)
unfolding changed_copy
changed_plain size old is leaders config timestamp =
    copy_plain size old is true config timestamp (changed_holdings old leaders config timestamp) (changed_disks config leaders.disks old.header.revision (view_of old).disks)

-- So is what a recovery makes of one.
pub recovered_plain : (size : ℕ) (old : DiskCopy) → IsPlain size old → (leaders : Before) (config : Configuration) (timestamp : ℕ) → IsPlain size (recovered_copy old leaders config timestamp)
unfolding recovered_copy
recovered_plain size old is leaders config timestamp =
    copy_plain size old is leaders.noted config timestamp (recovered_holdings old leaders config) (recovered_disks leaders.disks (view_of old).disks)

-- ---- disks

module _ (sizes : List ℕ) where
  abbrev IsPlainDisk : Seated → Type 0
  IsPlainDisk disk = IsPlain (slice_index sizes disk.seat.slot) disk.copy

  -- A plain disk is plain with the copy that a change gives it.
  pub rewritten_plain : (leaders : Before) (config : Configuration) (timestamp : ℕ) (disk : Seated) → IsPlain (slice_index sizes disk.seat.slot) disk.copy
      → IsPlain (slice_index sizes disk.seat.slot) (rewritten leaders config timestamp disk).copy
  rewritten_plain leaders config timestamp disk is =
      let size = slice_index sizes disk.seat.slot in
      written_plain size (changed_copy disk.copy leaders config timestamp) Primary (changed_plain size disk.copy is leaders config timestamp)

  all_rewritten : (leaders : Before) (config : Configuration) (timestamp : ℕ) (disks : List Seated) → ArePlain sizes disks → ArePlain sizes (map (rewritten leaders config timestamp) disks)
  all_rewritten leaders config timestamp [] are = tt
  all_rewritten leaders config timestamp (disk ∷ disks) are = (rewritten_plain leaders config timestamp disk are.0, all_rewritten leaders config timestamp disks are.1)

  -- So are those that stay.
  pub after_plain : (timestamp : ℕ) (leaders : Before) (config : Configuration) (disks : List Seated) → ArePlain sizes disks → ArePlain sizes (disks_after timestamp leaders config disks)
  unfolding disks_after
  after_plain timestamp leaders config disks are =
      all_rewritten leaders config timestamp (filter (stays_in config) disks) (all_filter IsPlainDisk (stays_in config) disks are)

  -- So are those of a step.
  pub step_plain : (timestamp : ℕ) (config : Configuration) (disks : List Seated) (change : Change) → ArePlain sizes disks → ArePlain sizes (step_of timestamp config disks change).disks
  step_plain timestamp config disks change are = after_plain timestamp _ _ disks are

  -- So are those of a loss.
  pub loss_plain : (timestamp : ℕ) (group : GroupValue) → ArePlain sizes (seated group) → ArePlain sizes (lost_step timestamp group).disks
  loss_plain timestamp group are = after_plain timestamp _ _ (seated group) are

  -- Those whose copies are in both places are plain as before.
  pub levelled_plain : (disks : List Seated) → ArePlain sizes disks → ArePlain sizes (map levelled disks)
  levelled_plain [] are = tt
  levelled_plain (disk ∷ disks) are = (are.0, levelled_plain disks are.1)

-- ---- what follows

-- the floor of one by its places
least_place : (size : ℕ) → min (size - 32849) (min (size - 41) (size - 81)) ≡ size - 32849
least_place size =
    let behind : size - 81 ≤ size - 41 = omega arith in
    let before : size - 32849 ≤ size - 81 = omega arith in
    ap (min (size - 32849)) (min-eq_right {n = size - 81} {m = size - 41} behind) ∙ min-eq_left {n = size - 32849} {m = size - 81} before

-- Extents on a plain disk end at its workspace.
pub plain_floor : (size : ℕ) (copy : DiskCopy) → IsPlain size copy → floor_of copy ≡ size - 32849
plain_floor size copy is =
    ap (λ (geometry : Geometry). min geometry.workspace_lba (min copy.header.primary_lba copy.header.secondary_lba)) is.same_geometry
    ∙ ap (λ (lba : ℕ). min (size - 32849) (min lba copy.header.secondary_lba)) is.primary
    ∙ ap (λ (lba : ℕ). min (size - 32849) (min (size - 41) lba)) is.secondary
    ∙ least_place size

-- It has no bad block.
pub plain_bad : (size : ℕ) (copy : DiskCopy) → IsPlain size copy → bad_count copy ≡ 0
unfolding new_log
plain_bad size copy is = ap (λ log. option_map_or (λ one. length one.entries) log 0) is.none_bad

-- So its seat is known.
pub plain_seat : (size slot : ℕ) (copy : DiskCopy) → IsPlain size copy → seat_of slot copy ≡ record { reference = copy.disk_data.reference; slot = slot; floor = size - 32849; bad = 0 }
plain_seat size slot copy is =
    ap (λ (floor : ℕ). seat copy.disk_data.reference slot floor (bad_count copy)) (plain_floor size copy is)
    ∙ ap (λ (bad : ℕ). seat copy.disk_data.reference slot (size - 32849) bad) (plain_bad size copy is)
  where
    seat : (reference slot floor bad : ℕ) → Seat
    seat reference slot floor bad = record { reference = reference; slot = slot; floor = floor; bad = bad }

-- A copy of it is 39 sectors behind its header.
pub plain_sectors : (size : ℕ) (copy : DiskCopy) → IsPlain size copy → sum_by (λ part. part.length) (parts_of copy.header.geometry) ≡ 39
plain_sectors size copy is = ap (λ (geometry : Geometry). sum_by (λ part. part.length) (parts_of geometry)) is.same_geometry
