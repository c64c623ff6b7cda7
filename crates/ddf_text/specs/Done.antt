-- The lines of a change that is done.
use Rattle.std.specs.Prelude.{ℕ, List, ◌++◌, codes}
use Rattle.std.specs.Fmt.{decimal}

-- the sequence number of the group after it
abbrev pub sequence_line : (sequence : ℕ) → List ℕ
sequence_line sequence = codes "ok sequence " ++ decimal sequence ++ codes "\n"

-- the blocks of a write that are written, where the input ended before the others, and the sequence number after it
abbrev pub cut_line : (blocks sequence : ℕ) → List ℕ
cut_line blocks sequence = codes "cut " ++ decimal blocks ++ codes " sequence " ++ decimal sequence ++ codes "\n"
