-- Whether a disk has room for what a change or a recovery gives it (SNIA DDF 2.0; the order is profile).
use Rattle.std.specs.Prelude.{◌≡◌, ◌≤◌, ℕ, Bool, true, false, not, ◌&&◌, ◌||◌, nat_lt, List, [], ◌∷◌, length, replicate, Option}
use Rattle.std.specs.List.{list_all}
use Rattle.std.specs.Option.{ForSome, option_map_or}
use Rattle.ddf_bytes.specs.Choices.{first_of, when}
use Rattle.ddf_header.specs.Geometry.{IsSound}
use Rattle.ddf_config_records.specs.Elements.{record_size}
use Rattle.ddf_config_records.specs.NoteRecords.{note_place}
use Rattle.ddf_config_records.specs.Building.{spare_entries}
use Rattle.ddf_config.specs.declared.refusal.FullTable.{FullTable}
use Rattle.ddf_config.specs.declared.refusal.FullTable.TheVariants as tables
use Rattle.ddf_config.specs.Configuration.{Configuration}
use Rattle.ddf_copy.specs.declared.copy.DiskCopy.{DiskCopy}
use Rattle.ddf_view.specs.View.{first_spare}
use Rattle.ddf_rewrite.specs.Before.{Before, leading_record}
use Rattle.ddf_rewrite.specs.Wanted.{Wanted, all_wanted}
use Rattle.ddf_rewrite.specs.Elements.{has_places, no_reference}
use Rattle.ddf_rewrite.specs.Notes.{Holding}
use Rattle.ddf_rewrite.specs.Spares.{spare_use, arrays_of_spare}
use Rattle.ddf_rewrite.specs.Copies.{changed_holdings, recovered_holdings, items_of, slotted_on}

-- some item has no slot
abbrev pub lacks_slots : DiskCopy → (noted : Bool) → Configuration → List Holding → Bool
lacks_slots old noted config holdings =
    nat_lt (length (slotted_on old noted config holdings)) (length (items_of noted (spare_use config old.disk_data.reference) holdings))

-- the disk is a spare for more arrays than its record has entries
abbrev pub lacks_entries : DiskCopy → Configuration → Bool
lacks_entries old config = nat_lt (spare_entries old.header.geometry) (length (arrays_of_spare (spare_use config old.disk_data.reference)))

-- the notes don't fit their record
abbrev pub lacks_notes : DiskCopy → (noted : Bool) → Bool
lacks_notes old noted = noted && nat_lt (record_size old.header.geometry) (note_place old.header.geometry.max_members (length old.slots))

-- the associated spares of an element as the leaders record them
abbrev pub spares_before : Before → Wanted → List ℕ
spares_before leaders wanted = option_map_or (λ held. held.element.spares) (leading_record leaders wanted.guid wanted.index) (replicate 8 no_reference)

-- some dedicated spare has no place among the associated spares of an element
abbrev pub lacks_places : Before → Configuration → Bool
lacks_places leaders config = not (list_all (λ wanted. has_places config wanted.guid (spares_before leaders wanted)) (all_wanted config))

-- the first table without room
abbrev pub full_with : DiskCopy → (noted : Bool) → Configuration → List Holding → (lacks : Bool) → Option FullTable
full_with old noted config holdings lacks = first_of (
    when (nat_lt old.header.geometry.max_disks (length config.members)) tables.Disks
    ∷ when (nat_lt old.header.geometry.max_arrays (length config.arrays)) tables.Arrays
    ∷ when (lacks_slots old noted config holdings || lacks_entries old config) tables.Records
    ∷ when (lacks_notes old noted) tables.Notes
    ∷ when lacks tables.Spares
    ∷ [])

-- that of a change
unfoldable pub full_after_change : DiskCopy → Before → Configuration → (timestamp : ℕ) → Option FullTable
full_after_change old leaders config timestamp =
    full_with old true config (changed_holdings old leaders config timestamp) (lacks_places leaders config)

-- and of a recovery
unfoldable pub full_after_recovery : DiskCopy → Before → Configuration → Option FullTable
full_after_recovery old leaders config = full_with old leaders.noted config (recovered_holdings old leaders config) false

-- ---- what is asked of a disk whose spare record is written

-- its own record fits, and has entries for all arrays that the disk is a spare for
pub record CanHoldSpare (old : DiskCopy) (config : Configuration) : Type 0 where
  pub sound : IsSound old.header.geometry
  pub size : ForSome (first_spare old.slots) (λ spare. length spare.rest ≡ record_size old.header.geometry)
  pub before : ForSome (first_spare old.slots) (λ spare. length spare.arrays ≤ spare_entries old.header.geometry)
  pub entries : length (arrays_of_spare (spare_use config old.disk_data.reference)) ≤ spare_entries old.header.geometry
