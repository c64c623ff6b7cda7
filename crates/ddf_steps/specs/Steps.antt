-- What one change of a group makes of its configuration and of the copies of its disks (profile).
use Rattle.std.specs.Prelude.{ℕ, ◌+◌, ◌++◌, Bool, not, List, map, filter, min, if◌then◌else◌}
use Rattle.std.specs.Str.{bytes_eq}
use Rattle.ddf_copy.specs.declared.which.Which.TheVariants.{Primary}
use Rattle.ddf_copy.specs.Headers.{written_as}
use Rattle.ddf_config.specs.Configuration.{Configuration}
use Rattle.ddf_config.specs.Members.{is_current}
use Rattle.ddf_plan.specs.declared.change.Change.{Change}
use Rattle.ddf_plan.specs.Refusals.{greatest_sequence}
use Rattle.ddf_plan.specs.Causes.{steps_of}
use Rattle.ddf_plan.specs.Changes.{changed_at}
use Rattle.ddf_rewrite.specs.Before.{Before, before}
use Rattle.ddf_rewrite.specs.Copies.{changed_copy}
use Rattle.ddf_update.specs.declared.prepared.Mode.{Mode}
use Rattle.ddf_update.specs.declared.prepared.Mode.TheVariants as modes
use Rattle.ddf_seats.specs.declared.seated.Seated.{Seated}
use Rattle.ddf_seats.specs.Seated.{views_in, is_adopted}

-- The configuration after a change, and each disk that it writes, with the copy that the disk gets.
pub record Step : Type 0 where
  pub config : Configuration
  pub disks : List Seated

-- The sequence number after so many steps. One past the greatest counts as the number behind the greatest: no copy gets it.
abbrev pub raised : (sequence steps : ℕ) → ℕ
raised sequence steps = min (sequence + steps) (greatest_sequence + 1)

abbrev pub config_after : Configuration → Change → Configuration
config_after config change = changed_at config change (raised config.sequence (steps_of change))

-- How a disk gets a copy of a group: as a change of its own group, or as another one.
abbrev pub mode_of : Configuration → Seated → Mode
mode_of config disk = if bytes_eq disk.copy.header.guid config.group then modes.Change else modes.Adopt

-- A disk with the copy that a change gives it, as its primary place has it. The leaders are those before the change.
abbrev pub rewritten : Before → Configuration → (timestamp : ℕ) → Seated → Seated
rewritten leaders config timestamp disk =
    record disk { copy = written_as (changed_copy disk.copy leaders config timestamp) Primary; mode = mode_of config disk }

-- its disk is a current member
abbrev pub stays_in : Configuration → Seated → Bool
stays_in config disk = is_current config.members disk.seat.reference

-- the disks of current members, with the copies that a change to this configuration gives them
unfoldable pub disks_after : (timestamp : ℕ) → Before → Configuration → List Seated → List Seated
disks_after timestamp leaders config disks = map (rewritten leaders config timestamp) (filter (stays_in config) disks)

-- Behind another step every disk leads.
abbrev pub step_of : (timestamp : ℕ) → Configuration → List Seated → Change → Step
step_of timestamp config disks change =
    record { config = config_after config change; disks = disks_after timestamp (before (views_in disks)) (config_after config change) disks }

-- The order in which disks are written: those that showed another group come last.
abbrev pub in_order : List Seated → List Seated
in_order disks = filter (λ disk. not (is_adopted disk)) disks ++ filter is_adopted disks
