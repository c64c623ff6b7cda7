-- Parts of one size that lie one after another.
use Rattle.std.specs.Prelude.{ℕ, zero, suc, ◌+◌, List, [], ◌∷◌}

-- what is read at so many offsets, each a width behind the one before
unfoldable pub each_at : {X : Type 0} → (ℕ → X) → ℕ → ℕ → ℕ → List X
each_at read width at zero = []
each_at read width at (suc count) = read at ∷ each_at read width (at + width) count
