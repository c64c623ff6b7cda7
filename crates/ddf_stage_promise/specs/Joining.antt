-- What the join of another group's members and arrays asks of gates (profile).
use Rattle.std.specs.Prelude.{◌≡◌, ℕ, ◌||◌, Bool, true, false, List, Some, None, slice_get}
use Rattle.std.specs.Map.{lookup}
use Rattle.ddf_bay.specs.Sectors.{Image}
use Rattle.ddf_config.specs.declared.array.Array.{Array}
use Rattle.ddf_config.specs.Configuration.{Configuration}
use Rattle.ddf_config.specs.Members.{same_guid}
use Rattle.ddf_config.specs.States.{is_marked, with_low_states}
use Rattle.ddf_import.specs.Clash.{join_cause}
use Rattle.ddf_import.specs.Joined.{arrays_joined, members_joined}
use Rattle.ddf_data_array.specs.Allowed.{Allowed}
use Rattle.ddf_data_group.specs.Agreeing.{AgreeOn}
use Rattle.ddf_data_group.specs.Clearing.{IsSameButMark}
use Rattle.ddf_data_group.specs.Grouped.{Promises}
use Rattle.ddf_history.specs.Groups.{Disk, groups, has_current}
use Rattle.ddf_history.specs.Issued.{Past}
use Rattle.ddf_stage.specs.declared.desk.Desk.{Desk}
use Rattle.ddf_stage.specs.declared.desk.Staged.{Staged}
use Rattle.ddf_stage.specs.Laid.{on_desk}
use Rattle.ddf_data_history.specs.Promised.{is_seat}
use Rattle.ddf_stage_promise.specs.Footing.{Footing, desk_at, guids_of}
use Rattle.ddf_stage_promise.specs.Staged.{arrays_by, desks_on, losing, seats_on}

-- ---- of the group that others join

module _ (group : List ℕ) (footing : Footing) where
  -- an array is one from before, with the seats of its own members; its low state may be another
  pub record StaysThere (past : Past (groups group)) (last next : Configuration) (before after : Array) : Type 0 where
    pub same : IsSameButMark before after
    pub same_mark : is_marked after ≡ is_marked before
    pub agree : AgreeOn after.elements last.members next.members (seats_on group footing past last) (seats_on group footing past next)

  -- whatever further slots are lost, each array of which something is promised was there, and stays
  abbrev pub AllStay : Past (groups group) → (last next : Configuration) → Promises → Type 0
  AllStay past last next promises =
      (lost : ℕ → Bool) → ((slot : ℕ) → past.lost slot ≡ true → lost slot ≡ true) → (guid : List ℕ) (allowed : Allowed) (after : Array) → promises guid ≡ Some allowed → lookup (same_guid guid) next.arrays ≡ Some after
      → (before : Array) × (lookup (same_guid guid) last.arrays ≡ Some before) × StaysThere (losing group footing past lost) last next before after

  -- No gate of a member, of this group or the other one, stands open for an array of which something is promised.
  abbrev pub NoneForPromised : Past (groups group) → Configuration → Image → Promises → Type 0
  NoneForPromised past next image promises =
      (k : ℕ) (desk : Desk) (staged : Staged) → slice_get (desks_on group footing past next) k ≡ Some desk → on_desk (guids_of next) image desk ≡ Some staged → promises staged.gate.array ≡ None

-- ---- of what joins

-- the configuration is what both make together
pub record IsJoinOf (config joining next : Configuration) : Type 0 where
  pub free : join_cause config joining ≡ None
  pub members : next.members ≡ members_joined config joining
  pub arrays : next.arrays ≡ with_low_states (members_joined config joining) (arrays_joined config joining)

-- an array that joins is there, its number and its low state aside
pub record IsBrought (joining next : Configuration) (guid : List ℕ) (one after : Array) : Type 0 where
  pub was : lookup (same_guid guid) joining.arrays ≡ Some one
  pub is_there : lookup (same_guid guid) next.arrays ≡ Some after
  pub same : IsSameButMark one after
  pub same_mark : is_marked after ≡ is_marked one

abbrev pub AllBrought : (joining next : Configuration) → Type 0
AllBrought joining next = (guid : List ℕ) (one : Array) → lookup (same_guid guid) joining.arrays ≡ Some one → (after : Array) × IsBrought joining next guid one after

-- gates count by another group's notes
abbrev pub with_counts : Bool → Footing → Footing
with_counts counts footing = record footing { counts = counts }

-- further slots are lost of the other group's history too
abbrev pub lost_too : (former : List ℕ) → Past (groups former) → (ℕ → Bool) → ℕ → Bool
lost_too former theirs lost slot = lost slot || theirs.lost slot

module _ (group former : List ℕ) (footing : Footing) (counts counted : Bool) (past : Past (groups group)) (theirs : Past (groups former)) (joining next : Configuration) (image : Image) where
  -- The seats of what joins are those of the other group's history. The gates of all other seats are shut for what is joined, and those of what joins for
  -- all but the other group's arrays; for these too, where gates didn't count there.
  pub record HaveJoined : Type 0 where
    pub same_slots : past.slots ≡ theirs.slots
    pub known : (slot : ℕ) → has_current joining (past.disk slot) ≡ true → (theirs.disk slot ≡ past.disk slot) × (theirs.lost slot ≡ false)
    pub brought : (slot : ℕ) → is_seat former theirs joining slot ≡ true → past.disk slot ≡ theirs.disk slot
    pub joins : (disk : Disk) → has_current joining disk ≡ true → has_current next disk ≡ true
    pub agree : (lost : ℕ → Bool) → ((slot : ℕ) → past.lost slot ≡ true → lost slot ≡ true) → (guid : List ℕ) (one after : Array) → IsBrought joining next guid one after
        → AgreeOn after.elements joining.members next.members (seats_on former (with_counts counts footing) (losing former (with_counts counts footing) theirs (lost_too former theirs lost)) joining)
        (seats_on group footing (losing group footing past lost) next)
    pub others_shut : (slot lba : ℕ) → is_seat group past next slot ≡ true → has_current joining (past.disk slot) ≡ false → footing.gate slot ≡ Some lba
        → on_desk (guids_of next) image (desk_at slot lba) ≡ None
    pub theirs_shut : (slot lba : ℕ) → has_current joining (past.disk slot) ≡ true → footing.gate slot ≡ Some lba
        → on_desk (guids_of next) image (desk_at slot lba) ≡ on_desk (arrays_by counted joining) image (desk_at slot lba)
