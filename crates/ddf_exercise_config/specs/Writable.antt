-- Configurations that can be written to the disks of an exercise.
use Rattle.std.specs.Prelude.{◌≡◌, ℕ, ◌≤◌, true, List, length, slice_get, Some}
use Rattle.std.specs.List.{AllByRecursion}
use Rattle.ddf_update.specs.declared.new_layout.NewLayout.TheVariants.{Small}
use Rattle.ddf_update.specs.NewLayouts.{rows_of}
use Rattle.ddf_config.specs.declared.member.Member.{Member}
use Rattle.ddf_config.specs.declared.member.SpareUse.TheVariants.{Dedicated}
use Rattle.ddf_config.specs.declared.seat.Seat.{Seat}
use Rattle.ddf_config.specs.Configuration.{Configuration}
use Rattle.ddf_config.specs.Members.{is_current}
use Rattle.ddf_history.specs.Groups.{Disk, has_current}
use Rattle.ddf_rewrite.specs.Readable.{AreRebuilt, HasOwnNames, HasSpares}
use Rattle.ddf_view.specs.Readable.{AreReadable}

-- Its records tell all of it, each table of a small new disk has room for its entries, and no spare is one for some arrays only.
pub record IsWritable (config : Configuration) : Type 0 where
  pub names : HasOwnNames config
  pub readable : AreReadable config
  pub rebuilt : AreRebuilt config
  pub spares : HasSpares config
  pub few_members : length config.members ≤ rows_of Small
  pub few_arrays : length config.arrays ≤ rows_of Small
  pub none_dedicated : (place : ℕ) (entry : ℕ × Member) (arrays : List (List ℕ)) → slice_get config.members place ≡ Some entry → entry.1.spare ≡ Dedicated arrays → ⊥

-- These disks, on these seats, are current members.
pub record AreCurrent (config : Configuration) (disks : List Disk) (seats : List Seat) : Type 0 where
  pub disks_are : AllByRecursion (λ (disk : Disk). has_current config disk ≡ true) disks
  pub seats_are : AllByRecursion (λ (seat : Seat). is_current config.members seat.reference ≡ true) seats
