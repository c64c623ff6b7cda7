-- Elements whose parity can't be kept (profile).
use Rattle.std.specs.Prelude.{Bool, not, ◌&&◌}
use Rattle.std.specs.List.{list_any, list_all}
use Rattle.ddf_array.specs.declared.part.Part.{Part}
use Rattle.ddf_array.specs.Places.{is_available}
use Rattle.ddf_array.specs.Levels.{keeps_parity}
use Rattle.ddf_array.specs.Volume.{Volume}

-- an element keeps parity and lacks a position
abbrev pub lacks_place : Part → Bool
lacks_place part = keeps_parity part.shape.layout && not (list_all is_available part.places)

-- an element of the array does
abbrev pub is_degraded : Volume → Bool
is_degraded volume = list_any lacks_place volume.parts
