-- What contracts see of a `Tiers`, and which codes and sizes make one.
use Rattle.std.specs.Prelude.{ℕ, ◌≤◌, ◌==◌, nat_le, Bool, true, false, not, ◌&&◌, ◌||◌, if◌then◌else◌, List, length, Option, Some, None, Result, Ok, Err, IsTrue}
use Rattle.ddf_secondary.specs.declared.element.ElementSize.{ElementSize}
use Rattle.ddf_secondary.specs.declared.level.SecondaryLevel.{SecondaryLevel}
use Rattle.ddf_secondary.specs.declared.level.SecondaryLevel.TheVariants.{Striped, Mirrored, Concatenated, Spanned}
use Rattle.ddf_secondary.specs.declared.fault.TiersFault.{TiersFault}
use Rattle.ddf_secondary.specs.declared.fault.TiersFault.TheVariants.{Level, Count, Mixed}
use Rattle.ddf_secondary.specs.Sizes.{share_a_unit, AreSmall}

-- a secondary level over the sizes of an array's elements
pub record Arrangement : Type 0 where
  pub level : SecondaryLevel
  pub sizes : List ElementSize

-- the standard's codes of secondary levels
abbrev pub served_level : ℕ → Option SecondaryLevel
served_level code =
    if code == 0 then Some Striped
    else (if code == 1 then Some Mirrored
    else (if code == 2 then Some Concatenated
    else (if code == 3 then Some Spanned
    else None)))

-- the levels that lay units in rows: all elements need one unit
abbrev pub goes_by_rows : SecondaryLevel → Bool
goes_by_rows Striped = true
goes_by_rows Mirrored = false
goes_by_rows Concatenated = false
goes_by_rows Spanned = true

abbrev pub takes_units : SecondaryLevel → List ElementSize → Bool
takes_units level sizes = not (goes_by_rows level) || share_a_unit sizes

abbrev pub takes_count : List ElementSize → Bool
takes_count sizes = nat_le 1 (length sizes) && nat_le (length sizes) 16

-- the tiers that a code and sizes make, or the first fault
abbrev pub tiers_of : ℕ → List ElementSize → Result Arrangement TiersFault
tiers_of code sizes =
    elim (served_level code) [
      | None ↦ Err (Level code)
      | Some level ↦
          if takes_count sizes then (if takes_units level sizes then Ok (record { level = level; sizes = sizes }) else Err Mixed)
          else Err (Count (length sizes))
    ]

-- what all tiers keep
pub record IsArray (level : SecondaryLevel) (sizes : List ElementSize) : Type 0 where
  pub some : 1 ≤ length sizes
  pub few : length sizes ≤ 16
  pub units : IsTrue (takes_units level sizes)
  pub small : AreSmall sizes
