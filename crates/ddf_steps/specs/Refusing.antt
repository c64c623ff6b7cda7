-- Why a change of a group is refused, in its order; the sequence number aside (profile).
use Rattle.std.specs.Prelude.{ℕ, max, List, [], ◌∷◌, fold, Option, Some, None, option_map, if◌then◌else◌}
use Rattle.ddf_config.specs.declared.refusal.FullTable.{FullTable}
use Rattle.ddf_config.specs.declared.refusal.Refusal.{Refusal}
use Rattle.ddf_config.specs.declared.refusal.Refusal.TheVariants.{Full}
use Rattle.ddf_config.specs.Configuration.{Configuration}
use Rattle.ddf_config.specs.Refusals.{first_refusal}
use Rattle.ddf_plan.specs.declared.change.Change.{Change}
use Rattle.ddf_plan.specs.Causes.{causes}
use Rattle.ddf_plan.specs.Floors.{extents_refusal}
use Rattle.ddf_plan.specs.Same.{is_step}
use Rattle.ddf_seats.specs.declared.seated.Seated.{Seated}
use Rattle.ddf_rewrite.specs.Before.{before}
use Rattle.ddf_seats.specs.Seated.{seats_in, views_in}
use Rattle.ddf_steps.specs.Steps.{config_after}
use Rattle.ddf_steps.specs.Full.{full_of}

-- the greatest number of members that a record of some disk has room for
abbrev pub most_members : List Seated → ℕ
most_members disks = fold (λ most disk. max most disk.copy.header.geometry.max_members) 0 disks

-- what is asked where the change is written: a table is full, or an extent has no room
abbrev pub room_refusal : (timestamp : ℕ) → Configuration → List Seated → Change → Option Refusal
room_refusal timestamp config disks change =
    first_refusal
    (option_map Full (full_of timestamp (before (views_in disks)) (config_after config change) disks)
    ∷ extents_refusal config change (seats_in disks) (seats_in disks)
    ∷ [])

abbrev pub room_if_step : (timestamp : ℕ) → Configuration → List Seated → Change → Option Refusal
room_if_step timestamp config disks change = if is_step config change then room_refusal timestamp config disks change else None

-- In order: the causes of the change, where an element has no more members than a record of some disk has room for; a table that is full
-- before the change, where there is one; then, where it alters more than the sequence number, a full table, and an extent without room.
unfoldable pub step_refusal : (timestamp : ℕ) → Option FullTable → Configuration → List Seated → Change → Option Refusal
step_refusal timestamp full config disks change =
    first_refusal
    (causes (Some (most_members disks)) config change (seats_in disks)
    ∷ option_map Full full
    ∷ room_if_step timestamp config disks change
    ∷ [])
