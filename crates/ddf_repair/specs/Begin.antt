-- How the rebuild of an array begins.
use Rattle.std.specs.Prelude.{◌≡◌, ℕ, List, [], ◌∷◌, ◌++◌, Option, Some, None, Result, Ok, Err, if◌then◌else◌}
use Rattle.std.specs.Map.{lookup}
use Rattle.ddf_config.specs.declared.member.Member.{Member}
use Rattle.ddf_config.specs.declared.extent.Extent.{Extent}
use Rattle.ddf_config.specs.declared.seat.Seat.{Seat}
use Rattle.ddf_config.specs.Configuration.{Configuration}
use Rattle.ddf_config.specs.Extents.{extents}
use Rattle.ddf_config.specs.Members.{is_current, same_guid}
use Rattle.ddf_plan.specs.declared.change.Change.{Change}
use Rattle.ddf_plan.specs.declared.change.Change.TheVariants.{Begin}
use Rattle.ddf_plan.specs.CreateRefusal.{references}
use Rattle.ddf_repair.specs.declared.first.Out.{Out}
use Rattle.ddf_repair.specs.declared.beginning.Begun.{Begun}
use Rattle.ddf_repair.specs.declared.beginning.Begun.TheVariants.{Nothing, Fresh, Again}
use Rattle.ddf_repair.specs.declared.beginning.RebuildFault.{RebuildFault}
use Rattle.ddf_repair.specs.declared.beginning.RebuildFault.TheVariants.{NoSpare, Small, Memory}
use Rattle.ddf_repair.specs.First.{first_out}
use Rattle.ddf_repair.specs.Spares.{first_extent, most_of, spares_for}

-- the change that puts a spare in the place of a position's disk
abbrev pub begin_change : List ℕ → Out → Extent → Change
begin_change guid out found = Begin guid out.target.element out.target.position found.reference found.start

-- on the first of these spares that has room
abbrev pub onto_one : List (ℕ × Member) → List Extent → List ℕ → List Seat → Out → List ℕ → Result Begun RebuildFault
onto_one members all guid seats out spares =
    elim (first_extent members all seats out.strip out.blocks spares) [
      | None ↦ Err (Small out.blocks (most_of members all seats out.strip spares))
      | Some found ↦ Ok (Fresh out.target (begin_change guid out found))
    ]

abbrev pub onto_any : Configuration → List ℕ → List Seat → Out → List ℕ → Result Begun RebuildFault
onto_any config guid seats out [] = Err NoSpare
onto_any config guid seats out (spare ∷ spares) = onto_one config.members (extents config.arrays) guid seats out (spare ∷ spares)

-- a position whose disk is a current member is rebuilt where it is
abbrev pub begun_at : Configuration → List ℕ → List Seat → (used : List ℕ) → Out → Result Begun RebuildFault
begun_at config guid seats used out =
    if is_current config.members out.reference then Ok (Again out.target) else onto_any config guid seats out (spares_for guid seats used config.members)

abbrev pub begun_in : Configuration → List ℕ → List Seat → (used : List ℕ) → Option Out → Result Begun RebuildFault
begun_in config guid seats used None = Ok Nothing
begun_in config guid seats used (Some out) = begun_at config guid seats used out

-- what there is to do for the first position out of sync, where an array isn't put on some disks either
unfoldable pub begun : Configuration → List ℕ → List Seat → (aside : List ℕ) → Result Begun RebuildFault
begun config guid seats aside =
    elim (lookup (same_guid guid) config.arrays) [ None ↦ Ok Nothing | Some array ↦ begun_in config guid seats (aside ++ references array) (first_out array) ]

-- want of memory says nothing
abbrev pub IsBegun : Result Begun RebuildFault → Result Begun RebuildFault → Type 0
IsBegun meaning (Ok begun) = meaning ≡ Ok begun
IsBegun meaning (Err NoSpare) = meaning ≡ Err NoSpare
IsBegun meaning (Err (Small needed found)) = meaning ≡ Err (Small needed found)
IsBegun meaning (Err Memory) = Unit {0}
