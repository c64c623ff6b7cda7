-- The change that clears the mark of an array.
use Rattle.std.specs.Prelude.{ℕ, List, Option, Some, None, if◌then◌else◌}
use Rattle.std.specs.Map.{lookup}
use Rattle.ddf_config.specs.Configuration.{Configuration}
use Rattle.ddf_config.specs.Members.{same_guid}
use Rattle.ddf_config.specs.States.{is_marked}
use Rattle.ddf_plan.specs.declared.change.Change.{Change}
use Rattle.ddf_plan.specs.declared.change.Change.TheVariants.{Unmark}

-- how far the array is initialized stays
abbrev pub accepted : Configuration → List ℕ → Option Change
accepted config guid =
    elim (lookup (same_guid guid) config.arrays) [
      | None ↦ None
      | Some array ↦ if is_marked array then Some (Unmark guid array.init) else None
    ]
