-- What is left of spares without an array, and why an array can't be deleted.
use Rattle.std.specs.Prelude.{ℕ, not, List, [], ◌∷◌, Option, filter}
use Rattle.ddf_config.specs.declared.member.SpareUse.{SpareUse}
use Rattle.ddf_config.specs.declared.member.SpareUse.TheVariants.{No, Global, Revertible, Dedicated}
use Rattle.ddf_config.specs.declared.refusal.Refusal.{Refusal}
use Rattle.ddf_config.specs.Configuration.{Configuration}
use Rattle.ddf_config.specs.Members.{same_guid}
use Rattle.ddf_plan.specs.Refusals.{no_array}

-- a spare for no array is none
abbrev pub dedicated : List (List ℕ) → SpareUse
dedicated [] = No
dedicated (guid ∷ guids) = Dedicated (guid ∷ guids)

-- the use as a spare without an array
abbrev pub use_without : List ℕ → SpareUse → SpareUse
use_without guid No = No
use_without guid Global = Global
use_without guid Revertible = Revertible
use_without guid (Dedicated guids) = dedicated (filter (λ other. not (same_guid guid other)) guids)

-- the array is there
abbrev pub delete_causes : Configuration → List ℕ → List (Option Refusal)
delete_causes config guid = no_array config guid ∷ []
