-- The extent to which a position can move is free.
use Rattle.std.proofs.Common.{◌≡◌, ℕ, true, false, List, length, Option, Some, None}
use Rattle.std.specs.Map.{lookup}
use Rattle.ddf_config.specs.declared.array.Array.{Array}
use Rattle.ddf_config.specs.declared.extent.Extent.{Extent}
use Rattle.ddf_config.specs.declared.seat.Seat.{Seat}
use Rattle.ddf_config.specs.Configuration.{Configuration}
use Rattle.ddf_config.specs.ElementValue.{ElementValue}
use Rattle.ddf_config.specs.Extents.{extents}
use Rattle.ddf_config.specs.Members.{same_guid}
use Rattle.ddf_config.specs.Unusable.{passes_floor}
use Rattle.ddf_plan.specs.Create.{element_strip, lies_clear}
use Rattle.ddf_plan.specs.Rebuild.{element_at}
use Rattle.ddf_repair.specs.declared.first.Target.{Target}
use Rattle.ddf_repair.specs.Choose.{array_room, part_room, room_for}
use Rattle.ddf_repair.proofs.Begins.{free_on}

pub record IsRoom (config : Configuration) (seats : List Seat) (reference : ℕ) (found : Extent) : Type 0 where
  pub on : found.reference ≡ reference
  pub clear : lies_clear config.members (extents config.arrays) found ≡ true
  pub below : passes_floor seats found ≡ false

pub room_is : (config : Configuration) (guid : List ℕ) (seats : List Seat) (target : Target) (reference : ℕ) (found : Extent) → room_for config guid seats target reference ≡ Some found → IsRoom config seats reference found
unfolding room_for
room_is config guid seats target reference found h = by (lookup (same_guid guid) config.arrays) h
  where
    by_part : (elements : ℕ) (part : Option ElementValue) → part_room config.members (extents config.arrays) seats elements part reference ≡ Some found → IsRoom config seats reference found
    by_part elements None e = absurd cc
    by_part elements (Some plan) e =
        let free = free_on config.members (extents config.arrays) seats (element_strip elements plan) plan.blocks reference found e in
        record { on = free.on; clear = free.clear; below = free.below }

    by : (o : Option Array) → ◌≡◌ {A = Option Extent} (elim o [ None ↦ None | Some array ↦ array_room config.members (extents config.arrays) seats array target.element reference ]) (Some found)
        → IsRoom config seats reference found
    by None e = absurd cc
    by (Some array) e = by_part (length array.elements) (element_at array target.element) e
