-- Refusals of arrays that can't be used at all.
use Rattle.std.specs.Prelude.{Bool, true, false, Option, Some, None}
use Rattle.ddf_config.specs.declared.refusal.Refusal.{Refusal}
use Rattle.ddf_config.specs.declared.refusal.Refusal.TheVariants.{Level, Shape}

-- a level isn't served, or the numbers make no array
abbrev pub is_useless : Option Refusal → Bool
is_useless None = false
is_useless (Some (Level code)) = true
is_useless (Some Shape) = true
is_useless other = false
