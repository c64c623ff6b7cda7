-- The array of an exercise as its disks give it.
use Rattle.std.specs.Prelude.{ℕ, Bool, true, false, List, [], ◌∷◌, Some}
use Rattle.ddf_primary.specs.Placement.{Placement, placement}
use Rattle.ddf_primary.specs.declared.layout.Layout.TheVariants.{Parity}
use Rattle.ddf_primary.specs.declared.parity.ParityLayout.TheVariants.{Raid5LastContinuation}
use Rattle.ddf_secondary.specs.Arrangement.{Arrangement}
use Rattle.ddf_secondary.specs.declared.level.SecondaryLevel.TheVariants.{Striped}
use Rattle.ddf_config.specs.Shapes.{shape_size}
use Rattle.ddf_array.specs.declared.part.Part.{Part}
use Rattle.ddf_array.specs.declared.place.Place.{Place}
use Rattle.ddf_array.specs.Volume.{Volume, volume}
use Rattle.ddf_exercise_config.specs.Turns.{Loss, Turn}
use Rattle.ddf_exercise_config.specs.Turns.Loss.{OfSecond, OfThird}
use Rattle.ddf_exercise_config.specs.Turns.Turn.{Closing, Middle, Opening}

-- three disks with 4,096 sectors each in strips of 8
abbrev pub shape : Placement
shape = placement (Parity Raid5LastContinuation) 3 8 4096

-- the array is this one element
abbrev pub tiers : Arrangement
tiers = record { level = Striped; sizes = shape_size shape ∷ [] }

-- the element, where its positions lie so
abbrev pub part : List Place → Part
part places = record { shape = shape; places = places }

-- the array, where they lie so
abbrev pub volume_on : (is_marked : Bool) → List Place → Volume
volume_on is_marked places = volume is_marked tiers (part places ∷ [])

-- a position lies at the beginning of the disk of a slot
abbrev pub place : (slot : ℕ) → (synced : Bool) → Place
place slot synced = record { slot = Some slot; start = 0; synced = synced; row = 0 }

-- all positions in sync
abbrev pub places_at : Turn → List Place
places_at Opening = place 0 true ∷ place 1 true ∷ place 2 true ∷ []
places_at Middle = place 0 true ∷ place 3 true ∷ place 2 true ∷ []
places_at Closing = place 0 true ∷ place 3 true ∷ place 4 true ∷ []

-- while the spare is rebuilt onto
abbrev pub places_begun : Loss → List Place
places_begun OfSecond = place 0 true ∷ place 3 false ∷ place 2 true ∷ []
places_begun OfThird = place 0 true ∷ place 3 true ∷ place 4 false ∷ []

-- the slot of that spare
abbrev pub spare_slot : Loss → ℕ
spare_slot OfSecond = 3
spare_slot OfThird = 4

-- the array whole, with its mark or without
abbrev pub view_at : Turn → (is_marked : Bool) → Volume
view_at turn is_marked = volume_on is_marked (places_at turn)

-- the array while the spare is rebuilt onto
abbrev pub view_begun : Loss → Volume
view_begun loss = volume_on false (places_begun loss)
