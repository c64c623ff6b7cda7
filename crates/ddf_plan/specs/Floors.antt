-- Whether the extents of a new array have room, also below the floors of their seats where these count.
use Rattle.std.specs.Prelude.{ℕ, Bool, true, List, Option, Some, None, find, length}
use Rattle.ddf_config.specs.declared.element.Position.{Position}
use Rattle.ddf_config.specs.declared.seat.Seat.{Seat}
use Rattle.ddf_config.specs.declared.refusal.Refusal.{Refusal}
use Rattle.ddf_config.specs.ElementValue.{ElementValue}
use Rattle.ddf_config.specs.Configuration.{Configuration}
use Rattle.ddf_config.specs.Extents.{extent, extents}
use Rattle.ddf_config.specs.Refusals.{part_refusal}
use Rattle.ddf_config.specs.Room.{start_on}
use Rattle.ddf_config.specs.Unusable.{passes_floor}
use Rattle.ddf_plan.specs.declared.change.Change.{Change}
use Rattle.ddf_plan.specs.declared.change.Change.TheVariants.{Create}
use Rattle.ddf_plan.specs.Create.{element_strip}
use Rattle.ddf_plan.specs.CreateRefusal.{no_extent}

-- A position for which there is no start, or whose extent would end past the floor of its disk's seat. The floors are those of the given seats:
-- with none of them the configured sizes alone bound an extent.
abbrev pub lacks_extent : Configuration → (floors : List Seat) → ℕ → ℕ → Position → Bool
lacks_extent config floors strip blocks position =
    elim (start_on config.members (extents config.arrays) strip blocks position.reference) [
      | None ↦ true
      | Some start ↦ passes_floor floors (extent blocks (record position { start = start }))
    ]

-- the seats name the slot of the first
abbrev pub extent_refusal : Configuration → (floors seats : List Seat) → ℕ → Option ElementValue → Option Refusal
extent_refusal config floors seats elements part =
    elim part [
      | None ↦ None
      | Some element ↦
          no_extent seats (find (lacks_extent config floors (element_strip elements element) element.blocks) element.positions)
    ]

-- the first position of a change's new array, by element and position, that has no room
unfoldable pub extents_refusal : Configuration → Change → (floors seats : List Seat) → Option Refusal
extents_refusal config (Create guid array) floors seats = part_refusal (extent_refusal config floors seats (length array.elements)) array.elements
extents_refusal config other floors seats = None
