-- Disks are lost: what a loss makes of a view of one configuration.
use Rattle.std.specs.Prelude.{◌≡◌, ◌⊎◌, ℕ, List, [], ◌∷◌, None}
use Rattle.ddf_config.specs.declared.seat.Seat.{Seat}
use Rattle.ddf_config.specs.Seats.{slot_of, floor_of}
use Rattle.ddf_array.specs.declared.place.Place.{Place}
use Rattle.ddf_array.specs.declared.part.Part.{Part}
use Rattle.ddf_array.specs.Volume.{Volume}

-- a place stays, or its disk isn't there any more
pub record IsLostPlace (before after : Place) : Type 0 where
  pub same_start : after.start ≡ before.start
  pub same_sync : after.synced ≡ before.synced
  pub slot_is : (after.slot ≡ before.slot) ⊎ (after.slot ≡ None)

abbrev pub AreLostPlaces : List Place → List Place → Type 0
AreLostPlaces [] [] = Unit {0}
AreLostPlaces [] (after ∷ afters) = ⊥
AreLostPlaces (before ∷ befores) [] = ⊥
AreLostPlaces (before ∷ befores) (after ∷ afters) = IsLostPlace before after × AreLostPlaces befores afters

abbrev pub AreLostParts : List Part → List Part → Type 0
AreLostParts [] [] = Unit {0}
AreLostParts [] (after ∷ afters) = ⊥
AreLostParts (before ∷ befores) [] = ⊥
AreLostParts (before ∷ befores) (after ∷ afters) = ((after.shape ≡ before.shape) × AreLostPlaces before.places after.places) × AreLostParts befores afters

-- the same array over fewer disks
pub record IsLoss (before after : Volume) : Type 0 where
  pub same_mark : after.marked ≡ before.marked
  pub same_tiers : after.tiers ≡ before.tiers
  pub lost_parts : AreLostParts before.parts after.parts

-- each member has its seat as before, or none any more
abbrev pub AreFewer : List Seat → List Seat → Type 0
AreFewer seats fewer =
    (reference : ℕ) → (floor_of fewer reference ≡ None)
    ⊎ ((floor_of fewer reference ≡ floor_of seats reference) × (slot_of fewer reference ≡ slot_of seats reference))
