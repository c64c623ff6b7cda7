-- What an exercise writes, by the generator of its numbers (profile).
use Rattle.std.specs.Prelude.{ℕ, zero, suc, ◌+◌, ◌*◌, ◌/◌, ◌%◌, ◌^◌, List, [], ◌∷◌}
use Rattle.ddf_exercise.specs.declared.draws.Fill.{Fill}

-- the state with which it begins
abbrev pub first_state : (seed : ℕ) → ℕ
first_state seed = seed % 2 ^ 31

-- the state behind a draw
abbrev pub next_state : ℕ → ℕ
next_state state = (state * 1103515245 + 12345) % 2 ^ 31

-- the number that is drawn with it
abbrev pub drawn : ℕ → ℕ
drawn state = state / 65536

-- the blocks that three draws name, 1 to 16 of the first 8,192, and the byte that fills them
abbrev pub fill_of : (first second third : ℕ) → Fill
fill_of first second third = record { start = drawn first % 8177; count = 1 + drawn second % 16; byte = drawn third % 256 }

unfoldable pub next_fill : (state : ℕ) → Fill
next_fill state = fill_of (next_state state) (next_state (next_state state)) (next_state (next_state (next_state state)))

unfoldable pub behind_fill : (state : ℕ) → ℕ
behind_fill state = next_state (next_state (next_state state))

-- so many, one after another
abbrev pub next_fills : (rounds state : ℕ) → List Fill
next_fills zero state = []
next_fills (suc rounds) state = next_fill state ∷ next_fills rounds (behind_fill state)

abbrev pub behind_fills : (rounds state : ℕ) → ℕ
behind_fills zero state = state
behind_fills (suc rounds) state = behind_fills rounds (behind_fill state)
