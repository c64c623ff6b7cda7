-- What the data of a group keep with what is staged: what stands behind the first open gate is laid over what the disks hold, whichever further disks
-- are lost then (profile).
use Rattle.std.specs.Prelude.{◌≡◌, ℕ, nat_le, ◌||◌, Bool, true, List, [], Some, None, slice_get, if◌then◌else◌}
use Rattle.ddf_bay.specs.Sectors.{Image}
use Rattle.ddf_config.specs.declared.seat.Seat.{Seat}
use Rattle.ddf_config.specs.Configuration.{Configuration}
use Rattle.ddf_data_group.specs.Grouped.{KeepsArrays, Promises}
use Rattle.ddf_history.specs.Groups.{groups}
use Rattle.ddf_history.specs.Issued.{Past, IsSince, with_slots}
use Rattle.ddf_data_history.specs.Promised.{seats_in}
use Rattle.ddf_stage.specs.declared.desk.Desk.{Desk}
use Rattle.ddf_stage.specs.declared.desk.Staged.{Staged}
use Rattle.ddf_stage.specs.Laid.{on_desk}
use Rattle.ddf_stage_data.specs.Moments.{through}
use Rattle.ddf_stage_promise.specs.Cells.{HasVolumes, cells_in}
use Rattle.ddf_stage_promise.specs.Footing.{Footing, desks_of, guids_of}

-- gates count under a configuration: this engine issued it, or valid notes were found with it
abbrev pub does_count : Footing → (own_from number : ℕ) → Bool
does_count footing own_from number = footing.counts || nat_le own_from number

-- the arrays of a configuration under which gates count
abbrev pub arrays_by : Bool → Configuration → List (List ℕ)
arrays_by counts config = if counts then guids_of config else []

module _ (group : List ℕ) (footing : Footing) where
  abbrev pub seats_on : Past (groups group) → Configuration → List Seat
  seats_on past config = seats_in group past footing.floor config

  abbrev pub desks_on : Past (groups group) → Configuration → List Desk
  desks_on past config = desks_of footing.gate (seats_on past config)

  -- a gate that names another array counts for nothing
  abbrev pub arrays_on : Past (groups group) → (number : ℕ) → Configuration → List (List ℕ)
  arrays_on past number config = arrays_by (does_count footing past.changes.own_from number) config

  -- what a read takes under a configuration
  abbrev pub laid_over : Past (groups group) → (number : ℕ) → Configuration → Image → Image
  laid_over past number config image = through (desks_on past config) (arrays_on past number config) (cells_in config (seats_on past config)) image

  -- further slots are lost
  abbrev pub losing : Past (groups group) → (ℕ → Bool) → Past (groups group)
  losing past lost = with_slots past lost past.returned

  -- The data of a group: whatever further slots are lost, under each configuration since the last acknowledged one, over the seats that it lists among
  -- the slots that are left, each array keeps its data of which something is promised, with what stands behind the first open gate laid over it.
  abbrev pub KeepsStaged : Past (groups group) → Image → Promises → Type 0
  KeepsStaged past image promises =
      (lost : ℕ → Bool) → ((slot : ℕ) → past.lost slot ≡ true → lost slot ≡ true) → (number : ℕ) (config : Configuration) → IsSince past.changes number config
      → KeepsArrays config (seats_on (losing past lost) config) (laid_over (losing past lost) number config image) promises

  -- no gate that counts stands open
  abbrev pub NoneOpen : Past (groups group) → Image → Type 0
  NoneOpen past image =
      (number : ℕ) (config : Configuration) → IsSince past.changes number config → (k : ℕ) (desk : Desk) → slice_get (desks_on past config) k ≡ Some desk
      → on_desk (arrays_on past number config) image desk ≡ None

  -- All gates that count and stand open show one thing.
  abbrev pub ShowsOne : Past (groups group) → Image → Type 0
  ShowsOne past image =
      (number : ℕ) (config : Configuration) → IsSince past.changes number config → (j k : ℕ) (one other : Desk) (staged shown : Staged)
      → slice_get (desks_on past config) j ≡ Some one → slice_get (desks_on past config) k ≡ Some other
      → on_desk (arrays_on past number config) image one ≡ Some staged → on_desk (arrays_on past number config) image other ≡ Some shown → staged ≡ shown

  -- the views of each configuration since the last acknowledged one keep what views keep
  abbrev pub HaveVolumes : Past (groups group) → Type 0
  HaveVolumes past = (number : ℕ) (config : Configuration) → IsSince past.changes number config → HasVolumes config
