-- A disk in the place of another.
use Rattle.std.specs.Prelude.{ℕ}
use Rattle.ddf_array.specs.declared.part.Part.{Part}
use Rattle.ddf_array.specs.declared.place.Place.{Place}
use Rattle.ddf_array.specs.Volume.{Volume}
use Rattle.ddf_data_array.specs.Changing.{changed_item}

abbrev pub replaced_place : (new : Place) → Place → Place
replaced_place new old = new

abbrev pub part_with : (position : ℕ) → Place → Part → Part
part_with position new part = record part { places = changed_item (replaced_place new) position part.places }

-- the array with another place for one of its positions
abbrev pub with_place : (element position : ℕ) → Place → Volume → Volume
with_place element position new volume = record volume { parts = changed_item (part_with position new) element volume.parts }
