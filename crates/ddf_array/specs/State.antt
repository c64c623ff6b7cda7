-- The blocks of an array as one list of values.
use Rattle.std.specs.Prelude.{ℕ, List, Option, map}
use Rattle.std.specs.List.{range_with_len}
use Rattle.ddf_bay.specs.Sectors.{Image}
use Rattle.ddf_array.specs.Volume.{Volume, capacity}
use Rattle.ddf_array.specs.Values.{value}

-- block by block; None only where an array is beyond its level
abbrev pub values : Volume → Image → List (Option (List ℕ))
values volume image = map (value volume image) (range_with_len 0 (capacity volume))
