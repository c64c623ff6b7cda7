-- The exclusive-or of bytes and of sectors.
use Rattle.std.specs.Prelude.{◌≡◌, ℕ, List, ◌∷◌, length, bit_xor, replicate}
use Rattle.std.specs.Simd.Lanes.{zip2, fold_l}

-- byte by byte
abbrev pub xor : List ℕ → List ℕ → List ℕ
xor = zip2 bit_xor

-- a sector of zeros
unfoldable pub zeros : List ℕ
zeros = replicate 512 0

-- that of all sectors of a list
abbrev pub xor_all : List (List ℕ) → List ℕ
xor_all = fold_l xor zeros

-- no other sector makes the sum of all zero
abbrev pub IsOnlySum : List (List ℕ) → List ℕ → Type 0
IsOnlySum others sector = (other : List ℕ) → length other ≡ 512 → xor_all (other ∷ others) ≡ zeros → other ≡ sector
