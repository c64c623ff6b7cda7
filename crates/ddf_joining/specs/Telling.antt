-- A copy that tells, to what makes new copies, all that the leaders of two groups record.
use Rattle.std.specs.Prelude.{◌≡◌, ℕ, ◌+◌, Bool, true, false, not, List, [], ◌∷◌, length, map, filter, replicate, is_some, Option, option_map, Result, Ok, Err, None, Some}
use Rattle.std.specs.Map.{lookup}
use Rattle.std.specs.List.{flat_map}
use Rattle.std.specs.Option.{option_map_or, option_or}
use Rattle.ddf_tables.specs.declared.arrays.ArrayEntry.{ArrayEntry}
use Rattle.ddf_tables.specs.declared.arrays.ArrayRow.{ArrayRow}
use Rattle.ddf_tables.specs.declared.arrays.ArrayRow.TheVariants as array_rows
use Rattle.ddf_tables.specs.declared.disks.DiskRow.{DiskRow}
use Rattle.ddf_tables.specs.declared.disks.DiskRow.TheVariants as disk_rows
use Rattle.ddf_config_records.specs.declared.slot.RecordSlot.{RecordSlot}
use Rattle.ddf_config.specs.declared.refusal.FullTable.{FullTable}
use Rattle.ddf_config.specs.declared.refusal.Refusal.{Refusal}
use Rattle.ddf_config.specs.declared.refusal.Refusal.TheVariants.{Full, NoGroup}
use Rattle.ddf_config.specs.Configuration.{Configuration}
use Rattle.ddf_config.specs.Members.{same_guid}
use Rattle.ddf_config.specs.Refusals.{first_refusal, refuse_if}
use Rattle.ddf_copy.specs.declared.copy.DiskCopy.{DiskCopy}
use Rattle.ddf_import.specs.Clash.{join_cause}
use Rattle.ddf_view.specs.View.{disk_of, element_of}
use Rattle.ddf_rewrite.specs.Before.{Before, before}
use Rattle.ddf_seats.specs.declared.fault.GroupFault.{GroupFault}
use Rattle.ddf_seats.specs.declared.fault.GroupFault.TheVariants.{Refused, SequenceSpent, Memory}
use Rattle.ddf_seats.specs.declared.seated.Seated.{Seated}
use Rattle.ddf_steps.specs.Full.{full_of}
use Rattle.ddf_seats.specs.Group.{GroupValue}
use Rattle.ddf_joining.specs.Joining.{both_disks, both_told, config_joined, config_joining, full_of_entries, guids_in, told}
use Rattle.ddf_steps.specs.Ready.{ReadyStep}
use Rattle.ddf_recovery.specs.Recovery.{config_recovered, disks_recovered}
use Rattle.ddf_seats.specs.Leading.{leading_disks, some}
use Rattle.ddf_seats.specs.Seated.{seated, views_in}
use Rattle.ddf_steps.specs.Steps.{Step, disks_after}
use Rattle.ddf_seats.specs.Changing.{AreCopies, CanBeHeldOn, HaveLength}

-- ---- its tables

-- a row that is used
abbrev pub used_row : DiskRow → Option DiskRow
used_row row = option_map disk_rows.Entry (disk_of row)

-- the rows of the disks that the first of these disks lists
abbrev pub disk_rows_told : List Seated → List DiskRow
disk_rows_told disks = map disk_rows.Entry (before (views_in disks)).disks

-- an array by its GUID alone
abbrev pub named_array : (guid : List ℕ) → ArrayEntry
named_array guid = record { guid = guid; number = 0; state = 0; init = 0; name = replicate 16 0; rest = replicate 64 0 }

abbrev pub array_rows_told : Configuration → List ArrayRow
array_rows_told config = map (λ guid. array_rows.Entry (named_array guid)) (guids_in config)

-- ---- its records

-- a slot holds a record of an array that the configuration lists
abbrev pub is_told : Configuration → RecordSlot → Bool
is_told config slot = option_map_or (λ element. is_some (lookup (same_guid element.array) config.arrays)) (element_of slot) false

abbrev pub slots_told : Configuration → List Seated → List RecordSlot
slots_told config disks = flat_map (λ disk. filter (is_told config) disk.copy.slots) disks

-- ---- the copy

pub record Tells (rows : List DiskRow) (arrays : List ArrayRow) (slots : List RecordSlot) (copy : DiskCopy) : Type 0 where
  pub disks : copy.disks.rows ≡ rows
  pub listed : copy.arrays.rows ≡ arrays
  pub records : copy.slots ≡ slots

-- ---- what is asked of the configuration that joins

-- This is it, or it can't join.
abbrev pub IsOffered : Configuration → GroupValue → Result Configuration GroupFault → Type 0
IsOffered config other (Ok next) = (join_cause config (config_joining other) ≡ None) × (next ≡ config_joining other)
IsOffered config other (Err Memory) = Unit {0}
IsOffered config other (Err (Refused refusal)) = join_cause config (config_joining other) ≡ Some refusal
IsOffered config other (Err SequenceSpent) = ⊥

-- ---- two groups

-- One of the two groups: its configuration, its disks, and those of them that lead it.
pub record SideValue : Type 0 where
  pub config : Configuration
  pub disks : List Seated
  pub leaders : List Seated

-- Its disks are one or more. Their copies, and those of its leaders, can be written; where the records of its disks have one length, those
-- of its leaders have it, and its configuration can be held.
pub record IsSide (side : SideValue) : Type 0 where
  pub some_disk : some side.disks ≡ true
  pub are_copies : AreCopies side.disks
  pub are_leaders : AreCopies side.leaders
  pub same_length : (sectors : ℕ) → HaveLength sectors side.disks → HaveLength sectors side.leaders
  pub can_hold : CanBeHeldOn side.config side.disks

-- what the leaders of both record
abbrev pub sides_told : (native other : SideValue) → Before
sides_told native other = both_told (told native.config (before (views_in native.leaders))) (told other.config (before (views_in other.leaders)))

abbrev pub sides_joined : (native other : SideValue) → Configuration
sides_joined native other = config_joined native.config other.config

abbrev pub sides_disks : (native other : SideValue) → List Seated
sides_disks native other = both_disks native.disks other.disks

abbrev pub sides_step : (timestamp : ℕ) → (native other : SideValue) → Step
sides_step timestamp native other = record {
  config = sides_joined native other;
  disks = disks_after timestamp (sides_told native other) (sides_joined native other) (sides_disks native other);
}

-- the table that has no room for the join
abbrev pub entries_full : (native other : SideValue) → Option FullTable
entries_full native other =
    full_of_entries (length (before (views_in native.leaders)).disks + length (before (views_in other.leaders)).disks) (length native.config.arrays + length other.config.arrays)

abbrev pub sides_full : (timestamp : ℕ) → (native other : SideValue) → Option FullTable
sides_full timestamp native other =
    option_or (entries_full native other) (full_of timestamp (sides_told native other) (sides_joined native other) (sides_disks native other))

-- There is room for it, and it is this step, or there is none.
abbrev pub IsMade : (timestamp : ℕ) → (native other : SideValue) → Result ReadyStep GroupFault → Type 0
IsMade timestamp native other (Ok one) = (sides_full timestamp native other ≡ None) × (one.step ≡ sides_step timestamp native other)
IsMade timestamp native other (Err Memory) = Unit {0}
IsMade timestamp native other (Err (Refused refusal)) = option_map Full (sides_full timestamp native other) ≡ Some refusal
IsMade timestamp native other (Err SequenceSpent) = ⊥

-- ---- a group and the one that joins it

-- The first behind its recovery: every disk of it leads.
abbrev pub native_side : (timestamp : ℕ) → GroupValue → SideValue
native_side timestamp group = record {
  config = config_recovered group;
  disks = disks_recovered timestamp group;
  leaders = disks_recovered timestamp group;
}

-- The other as it is, once its absent members are lost.
abbrev pub other_side : GroupValue → SideValue
other_side other = record { config = config_joining other; disks = seated other; leaders = leading_disks other }

-- Why there is no step by which they become one: the recovery leaves no disk, or a table has no room.
abbrev pub refusal_behind : (timestamp : ℕ) → (group other : GroupValue) → Option Refusal
refusal_behind timestamp group other =
    first_refusal
    (refuse_if (not (some (disks_recovered timestamp group))) NoGroup
    ∷ option_map Full (sides_full timestamp (native_side timestamp group) (other_side other))
    ∷ [])

-- It is this step, or there is none.
abbrev pub IsMadeBehind : (timestamp : ℕ) → (group other : GroupValue) → Result ReadyStep GroupFault → Type 0
IsMadeBehind timestamp group other (Ok one) =
    (refusal_behind timestamp group other ≡ None) × (one.step ≡ sides_step timestamp (native_side timestamp group) (other_side other))
IsMadeBehind timestamp group other (Err Memory) = Unit {0}
IsMadeBehind timestamp group other (Err (Refused refusal)) = refusal_behind timestamp group other ≡ Some refusal
IsMadeBehind timestamp group other (Err SequenceSpent) = ⊥
