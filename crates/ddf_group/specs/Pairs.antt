-- The first pair of a list's items, the earlier item first, of which something is found.
use Rattle.std.specs.Prelude.{List, [], ◌∷◌, map, Option, None}
use Rattle.std.specs.Option.{option_or}
use Rattle.ddf_bytes.specs.Choices.{first_of}

-- the first item of which something is found
abbrev pub first_with : {X Y : Type 0} → (X → Option Y) → List X → Option Y
first_with test xs = first_of (map test xs)

-- an item with one behind it, or else a pair behind it
abbrev pub first_pair : {X Y : Type 0} → (X → X → Option Y) → List X → Option Y
first_pair test [] = None
first_pair test (x ∷ xs) = option_or (first_with (test x) xs) (first_pair test xs)
