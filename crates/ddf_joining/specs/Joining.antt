-- The step by which the disks of another group join one, or why they can't (profile).
use Rattle.std.specs.Prelude.{ℕ, ◌+◌, ◌++◌, Bool, false, not, ◌&&◌, ◌||◌, ◌==◌, nat_lt, List, [], ◌∷◌, length, map, filter, find, fold, Option, Some, None, is_some, option_map, Result, Ok, Err, if◌then◌else◌}
use Rattle.std.specs.Map.{lookup}
use Rattle.std.specs.List.{list_all}
use Rattle.std.specs.Option.{option_or}
use Rattle.ddf_config.specs.declared.array.Array.{Array}
use Rattle.ddf_config.specs.declared.refusal.FullTable.{FullTable}
use Rattle.ddf_config.specs.declared.refusal.FullTable.TheVariants.{Disks, Arrays}
use Rattle.ddf_config.specs.declared.refusal.Refusal.{Refusal}
use Rattle.ddf_config.specs.declared.refusal.Refusal.TheVariants as refusals
use Rattle.ddf_config.specs.declared.seat.Seat.{Seat}
use Rattle.ddf_config.specs.Configuration.{Configuration}
use Rattle.ddf_config.specs.Members.{same_guid}
use Rattle.ddf_config.specs.Refusals.{first_refusal, refuse_if}
use Rattle.ddf_plan.specs.Refusals.{greatest_sequence}
use Rattle.ddf_import.specs.Clash.{join_cause}
use Rattle.ddf_import.specs.Joined.{joined, without_lost}
use Rattle.ddf_view.specs.View.{HeldRecord}
use Rattle.ddf_rewrite.specs.Before.{Before, before}
use Rattle.ddf_seats.specs.declared.fault.GroupFault.{GroupFault}
use Rattle.ddf_seats.specs.declared.fault.GroupFault.TheVariants.{Refused, SequenceSpent}
use Rattle.ddf_seats.specs.declared.seated.Seated.{Seated}
use Rattle.ddf_steps.specs.Full.{full_of}
use Rattle.ddf_seats.specs.Group.{GroupValue}
use Rattle.ddf_recovery.specs.Recovery.{config_recovered, disks_recovered, full_of_recovery, has_stray, loss_spent, recovery_of}
use Rattle.ddf_seats.specs.Leading.{leading, some}
use Rattle.ddf_seats.specs.Seated.{seated, views_in}
use Rattle.ddf_steps.specs.Steps.{Step, disks_after, raised}

-- ---- the configuration

-- What joins: the other group's configuration, in which its absent members are lost.
abbrev pub config_joining : GroupValue → Configuration
config_joining other = without_lost other.config other.absent

-- The configuration of both groups, one step behind the recovery of the one that is joined.
abbrev pub config_joined : Configuration → Configuration → Configuration
config_joined config joining = record (joined config joining) { sequence = raised config.sequence 1 }

-- ---- the disks of both groups

-- a disk is on a slot behind another
abbrev pub is_behind : Seated → Seated → Bool
is_behind disk other = nat_lt disk.seat.slot other.seat.slot

-- a disk among disks in rising slots: before those that are behind it
abbrev pub placed : List Seated → Seated → List Seated
placed disks disk = filter (λ other. not (is_behind disk other)) disks ++ disk ∷ filter (is_behind disk) disks

-- the disks of both groups, in rising slots
abbrev pub both_disks : (native joining : List Seated) → List Seated
both_disks native joining = fold placed native joining

-- ---- what is recorded of both

abbrev pub guids_in : Configuration → List (List ℕ)
guids_in config = map (λ (entry : List ℕ × Array). entry.0) config.arrays

-- a record of an array that the configuration lists
abbrev pub is_of_listed : Configuration → HeldRecord → Bool
is_of_listed config held = is_some (lookup (same_guid held.element.array) config.arrays)

-- a record by itself: what notes say of it stands in the configuration
abbrev pub by_itself : HeldRecord → HeldRecord
by_itself held = record { element = held.element; note = None }

-- What the leaders of a group record of its own configuration. A record of an array that this doesn't list is left out: the other group's
-- array may have its GUID.
abbrev pub told : Configuration → Before → Before
told config leaders = record {
  disks = leaders.disks;
  arrays = guids_in config;
  elements = map by_itself (filter (is_of_listed config) leaders.elements);
  noted = false;
}

-- What is recorded in both groups. No disk and no array is in both, so each is found in what its own group's leaders record.
abbrev pub both_told : (native joining : Before) → Before
both_told native joining = record {
  disks = native.disks ++ joining.disks;
  arrays = native.arrays ++ joining.arrays;
  elements = native.elements ++ joining.elements;
  noted = false;
}

-- ---- the step

-- Every disk of the group that is joined leads behind its recovery. Of the other group its leaders count.
abbrev pub join_leaders : (timestamp : ℕ) → (native other : GroupValue) → Before
join_leaders timestamp native other =
    both_told (told (config_recovered native) (before (views_in (disks_recovered timestamp native)))) (told (config_joining other) (leading other))

abbrev pub join_disks : (timestamp : ℕ) → (native other : GroupValue) → List Seated
join_disks timestamp native other = both_disks (disks_recovered timestamp native) (seated other)

abbrev pub join_config : (native other : GroupValue) → Configuration
join_config native other = config_joined (config_recovered native) (config_joining other)

-- The configuration of both is written to every disk of both.
unfoldable pub join_step : (timestamp : ℕ) → (native other : GroupValue) → Step
join_step timestamp native other = record {
  config = join_config native other;
  disks = disks_after timestamp (join_leaders timestamp native other) (join_config native other) (join_disks timestamp native other);
}

-- ---- why they can't join

-- The numbers of disks, of arrays, of members of a record, of a record's sectors, and of record slots of two disks are equal.
abbrev pub same_numbers : Seated → Seated → Bool
same_numbers disk other =
    disk.copy.header.geometry.max_disks == other.copy.header.geometry.max_disks
    && disk.copy.header.geometry.max_arrays == other.copy.header.geometry.max_arrays
    && disk.copy.header.geometry.max_members == other.copy.header.geometry.max_members
    && disk.copy.header.geometry.record_length == other.copy.header.geometry.record_length
    && length disk.copy.slots == length other.copy.slots

-- Those of two disks of either group differ.
abbrev pub numbers_differ : List Seated → Bool
numbers_differ [] = false
numbers_differ (disk ∷ disks) = not (list_all (same_numbers disk) disks)

-- No table has so many entries, whatever its geometry.
abbrev pub most_entries : ℕ
most_entries = 65535

abbrev pub full_of_entries : (disks arrays : ℕ) → Option FullTable
full_of_entries disks arrays = if nat_lt most_entries disks then Some Disks else if nat_lt most_entries arrays then Some Arrays else None

abbrev pub many_disks : (timestamp : ℕ) → (native other : GroupValue) → ℕ
many_disks timestamp native other = length (before (views_in (disks_recovered timestamp native))).disks + length (leading other).disks

abbrev pub many_arrays : (native other : GroupValue) → ℕ
many_arrays native other = length (config_recovered native).arrays + length (config_joining other).arrays

-- The table that has no room for the join: on any disk, or on one of either group.
abbrev pub full_of_join : (timestamp : ℕ) → (native other : GroupValue) → Option FullTable
full_of_join timestamp native other =
    option_or (full_of_entries (many_disks timestamp native other) (many_arrays native other))
    (full_of timestamp (join_leaders timestamp native other) (join_config native other) (join_disks timestamp native other))

-- the first joining disk that lists a bad block
abbrev pub bad_refusal : List Seat → Option Refusal
bad_refusal seats = option_map (λ seat. refusals.BadBlocks seat.slot) (find (λ seat. nat_lt 0 seat.bad) seats)

-- a disk of either group that must not be written over
abbrev pub has_strays : (native other : GroupValue) → Bool
has_strays native other = has_stray native || has_stray other

abbrev pub has_no_seats : (native other : GroupValue) → Bool
has_no_seats native other = not (some (seated native) && some (seated other))

-- In order: a group has no disk; one must not be written over; a disk or an array is there already, or an array's name; two disks have
-- tables of different sizes; a table has no room for the recovery; the recovery leaves no disk; a table has no room for the join; a
-- joining disk has a bad block.
unfoldable pub join_refusal : (timestamp : ℕ) → (native other : GroupValue) → Option Refusal
join_refusal timestamp native other =
    first_refusal
    (refuse_if (has_no_seats native other) refusals.NoGroup
    ∷ refuse_if (has_strays native other) refusals.Unsettled
    ∷ join_cause (config_recovered native) (config_joining other)
    ∷ refuse_if (numbers_differ (seated native ++ seated other)) refusals.Geometry
    ∷ option_map refusals.Full (full_of_recovery timestamp native)
    ∷ refuse_if (not (some (disks_recovered timestamp native))) refusals.NoGroup
    ∷ option_map refusals.Full (full_of_join timestamp native other)
    ∷ bad_refusal other.seats
    ∷ [])

-- the sequence number of the loss or of the join passes the greatest
abbrev pub join_spent : (timestamp : ℕ) → (native other : GroupValue) → Bool
join_spent timestamp native other = loss_spent native || nat_lt greatest_sequence (join_config native other).sequence

-- ---- what is ready

-- the recovery of the group that is joined, where it needs one, the step behind it, and the seats of the disks that join
pub record Joining : Type 0 where
  pub recovery : Option Step
  pub step : Step
  pub joining : List Seat

abbrev pub joining_of : (timestamp : ℕ) → (native other : GroupValue) → Joining
joining_of timestamp native other = record {
  recovery = recovery_of timestamp native;
  step = join_step timestamp native other;
  joining = other.seats;
}

abbrev pub joining_unless : Option Refusal → (spent : Bool) → Joining → Result Joining GroupFault
joining_unless (Some refusal) spent made = Err (Refused refusal)
joining_unless None spent made = if spent then Err SequenceSpent else Ok made

-- What the join of another group's disks is, at a time, or why they can't; a refusal comes before a sequence number that is spent.
unfoldable pub joining : (timestamp : ℕ) → (native other : GroupValue) → Result Joining GroupFault
joining timestamp native other = joining_unless (join_refusal timestamp native other) (join_spent timestamp native other) (joining_of timestamp native other)
