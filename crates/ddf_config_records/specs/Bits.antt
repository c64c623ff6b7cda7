-- A set of positions as bits: position p is bit p mod 8, counted from the lowest, of byte p div 8.
use Rattle.std.specs.Prelude.{◌≡◌, ℕ, ◌/◌, ◌%◌, ◌^◌, ◌<◌, Bool, ◌==◌, List, replicate, fold, slice_index, slice_set, bit_or, EachIndex}
use Rattle.std.specs.List.{filter, list_any, range_with_len}
use Rattle.std.specs.Int.{bit_at}

abbrev pub is_set : List ℕ → ℕ → Bool
is_set bits position = bit_at (slice_index bits (position / 8)) (position % 8) == 1

-- the positions below a maximum whose bits are set, in rising order
unfoldable pub positions : ℕ → List ℕ → List ℕ
positions most bits = filter (is_set bits) (range_with_len 0 most)

abbrev pub with_bit : List ℕ → ℕ → List ℕ
with_bit bits position = slice_set bits (position / 8) (bit_or (slice_index bits (position / 8)) (2 ^ (position % 8)))

-- zeros, with the bits of these positions set
unfoldable pub bits_of : ℕ → List ℕ → List ℕ
bits_of bytes out = fold with_bit (replicate bytes 0) out

-- a position is among these
abbrev pub is_among : List ℕ → ℕ → Bool
is_among out position = list_any (λ other. position == other) out

-- These are the positions of a set below a maximum, in rising order.
unfoldable pub IsRising : ℕ → List ℕ → Type 0
IsRising most out = filter (is_among out) (range_with_len 0 most) ≡ out

-- each position is below a maximum
abbrev pub AreBelow : ℕ → List ℕ → Type 0
AreBelow most out = EachIndex out (λ index. slice_index out index < most)
