-- Configurations that copies can hold, and what is asked of a change or a recovery whose copies can be written: each number and each
-- name fits the place where it stands.
use Rattle.std.specs.Prelude.{◌≡◌, ℕ, ◌<◌, ◌≤◌, ◌^◌, true, false, not, ◌&&◌, nat_eq, nat_lt, List, length, map, slice_get, Some, None}
use Rattle.std.specs.List.{AllByRecursion, IsDistinct}
use Rattle.std.specs.Str.{bytes_eq}
use Rattle.ddf_header.specs.declared.geometry.Geometry.{Geometry}
use Rattle.ddf_tables.specs.declared.disks.DiskEntry.{DiskEntry}
use Rattle.ddf_tables.specs.declared.disks.DiskRow.TheVariants.{Entry}
use Rattle.ddf_tables.specs.Disks.{IsDiskRow, is_no_disk}
use Rattle.ddf_tables.specs.Rows.{is_unused}
use Rattle.ddf_config_records.specs.Elements.{has_no_strip, CanBeElement}
use Rattle.ddf_config.specs.declared.member.Member.{Member}
use Rattle.ddf_config.specs.declared.element.Position.{Position}
use Rattle.ddf_config.specs.declared.array.Array.{Array}
use Rattle.ddf_config.specs.Configuration.{Configuration}
use Rattle.ddf_config.specs.Shapes.{array_capacity}
use Rattle.ddf_copy.specs.declared.copy.DiskCopy.{DiskCopy}
use Rattle.ddf_copy.specs.Written.{CanBeCopy}
use Rattle.ddf_view.specs.Differ.{difference}
use Rattle.ddf_view.specs.Readable.{AreReadable}
use Rattle.ddf_view.specs.View.{View}
use Rattle.ddf_rewrite.specs.Before.{Before, leading_record}
use Rattle.ddf_rewrite.specs.Wanted.{Wanted, all_wanted}
use Rattle.ddf_rewrite.specs.Spares.{spare_use}
use Rattle.ddf_rewrite.specs.Copies.{recovered_holdings, items_of, slotted_on}
use Rattle.ddf_rewrite.specs.Room.{lacks_entries, lacks_notes}
use Rattle.ddf_rewrite.specs.Readable.{HasOwnNames, AreRebuilt, HasSpares}

-- ---- a configuration

pub record FitsMember (entry : ℕ × Member) : Type 0 where
  pub guid : length entry.1.guid ≡ 24
  pub used : is_unused entry.1.guid ≡ false
  pub reference : entry.0 < 2 ^ 32
  pub size : entry.1.size < 2 ^ 64

pub record FitsArray (entry : List ℕ × Array) : Type 0 where
  pub guid : length entry.0 ≡ 24
  pub used : is_unused entry.0 ≡ false
  pub number : entry.1.number < 2 ^ 16
  pub state : entry.1.state < 2 ^ 8
  pub init : entry.1.init < 2 ^ 8
  pub name : length entry.1.name ≡ 16
  pub secondary : entry.1.secondary < 2 ^ 8

pub record FitsPosition (position : Position) : Type 0 where
  pub reference : position.reference < 2 ^ 32
  pub start : position.start < 2 ^ 64
  pub row : position.row < 2 ^ 64

-- An element's record has no fault: it has members, at most 64 and as many as the geometry allows, and a strip that counts.
pub record FitsPlan (most : ℕ) (wanted : Wanted) : Type 0 where
  pub some : 0 < length wanted.plan.positions
  pub allowed : length wanted.plan.positions ≤ most
  pub few : length wanted.plan.positions ≤ 64
  pub strip : wanted.plan.strip < 2 ^ 8
  pub has_strip : (nat_lt 31 wanted.plan.strip && not (has_no_strip wanted.plan.level (length wanted.array.elements))) ≡ false
  pub level : wanted.plan.level < 2 ^ 8
  pub qualifier : wanted.plan.qualifier < 2 ^ 8
  pub blocks : wanted.plan.blocks < 2 ^ 64
  pub stand_in : wanted.plan.stand_in < 2 ^ 32
  pub positions : AllByRecursion FitsPosition wanted.plan.positions

-- Copies of a geometry that allows so many members can hold a configuration.
pub record CanHold (most : ℕ) (config : Configuration) : Type 0 where
  pub group : length config.group ≡ 24
  pub sequence : config.sequence < 2 ^ 32
  pub members : AllByRecursion FitsMember config.members
  pub references : IsDistinct nat_eq (map (λ entry. entry.0) config.members)
  pub guids : IsDistinct bytes_eq (map (λ entry. entry.0) config.arrays)
  pub arrays : AllByRecursion FitsArray config.arrays
  pub plans : (n : ℕ) (wanted : Wanted) → slice_get (all_wanted config) n ≡ Some wanted → FitsPlan most wanted

-- All that a configuration has that copies can hold.
pub record IsHoldable (most : ℕ) (config : Configuration) : Type 0 where
  pub can_hold : CanHold most config
  pub names : HasOwnNames config
  pub readable : AreReadable config
  pub rebuilt : AreRebuilt config
  pub spares : HasSpares config

-- ---- what a change takes

-- The records of the leaders can stand under a disk's geometry.
abbrev pub AreHeld : Geometry → Before → Type 0
AreHeld geometry leaders = AllByRecursion (λ held. CanBeElement geometry held.element) leaders.elements

-- The time and the capacities of new arrays fit their fields, and the notes and the entries of a spare fit their records.
pub record CanWrite (old : DiskCopy) (leaders : Before) (config : Configuration) (timestamp : ℕ) : Type 0 where
  pub config_can : CanHold old.header.geometry.max_members config
  pub leaders_can : AreHeld old.header.geometry leaders
  pub timestamp_fits : timestamp < 2 ^ 32
  pub capacities_fit : (n : ℕ) (wanted : Wanted) → slice_get (all_wanted config) n ≡ Some wanted → leading_record leaders wanted.guid wanted.index ≡ None → array_capacity wanted.array < 2 ^ 64
  pub notes_fit : lacks_notes old true ≡ false
  pub entries_fit : lacks_entries old config ≡ false

-- ---- what a recovery takes

-- The entries of the leaders' disks can be written, each names a disk, and no two of them have one reference.
pub record AreDisks (disks : List DiskEntry) : Type 0 where
  pub can : AllByRecursion (λ disk. IsDiskRow (Entry disk)) disks
  pub named : AllByRecursion (λ disk. is_no_disk disk.reference ≡ false) disks
  pub apart : IsDistinct nat_eq (map (λ disk. disk.reference) disks)

-- A disk that was behind has room for what its leaders hold, and each number and each name of it fits.
pub record CanBeRecovered (old : DiskCopy) (leaders : Before) (config : Configuration) (timestamp : ℕ) : Type 0 where
  pub names : HasOwnNames config
  pub spares : HasSpares config
  pub config_can : CanHold old.header.geometry.max_members config
  pub leaders_can : AreHeld old.header.geometry leaders
  pub disks_can : AreDisks leaders.disks
  pub timestamp_fits : timestamp < 2 ^ 32
  pub disks_fit : length leaders.disks ≤ length old.disks.rows
  pub arrays_fit : length config.arrays ≤ length old.arrays.rows
  pub records_fit : length (items_of leaders.noted (spare_use config old.disk_data.reference) (recovered_holdings old leaders config))
      ≤ length (slotted_on old leaders.noted config (recovered_holdings old leaders config))
  pub notes_fit : lacks_notes old leaders.noted ≡ false
  pub entries_fit : lacks_entries old config ≡ false

-- ---- what is read

-- a copy that can be written, whose records have the length of a geometry's
pub record IsLeader (geometry : Geometry) (copy : DiskCopy) : Type 0 where
  pub is_copy : CanBeCopy copy
  pub same_records : copy.header.geometry.record_length ≡ geometry.record_length

-- no two of these views differ
abbrev pub DoAgree : List View → Type 0
DoAgree views = (i j : ℕ) (one other : View) → i < j → slice_get views i ≡ Some one → slice_get views j ≡ Some other → difference one other ≡ None
