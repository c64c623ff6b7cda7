-- What an exercise asks for.
use Rattle.std.specs.Prelude.{ℕ, List, [], ◌∷◌, None, codes}
use Rattle.ddf_words.specs.declared.command.Creation.{Creation}

-- the name of its array
abbrev pub word : List ℕ
word = codes "ex"

-- RAID 5 over the first three disks, its parity left symmetric, in strips of 8 sectors
abbrev pub creation : Creation
creation = record { name = word; level = 5; qualifier = 3; code = 3; secondary = None; elements = record { slots = 0 ∷ 1 ∷ 2 ∷ []; blocks = 4096 } ∷ [] }
