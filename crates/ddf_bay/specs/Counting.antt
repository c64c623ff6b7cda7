-- Counts of 64 bits, which stand still at their last value.
use Rattle.std.specs.Prelude.{ℕ, ◌+◌, ◌-◌, ◌^◌, ◌≤◌, List, nat_lt, if◌then◌else◌, slice_index, slice_set}

-- one more, up to the last value
abbrev pub one_more : ℕ → ℕ
one_more n = if nat_lt n (2 ^ 64 - 1) then n + 1 else n

-- the counts of the slots, with one more on this slot
abbrev pub with_one_more : List ℕ → ℕ → List ℕ
with_one_more counts slot = slice_set counts slot (one_more (slice_index counts slot))

-- no slot has more counted than these calls
abbrev pub AreWithin : (counts : List ℕ) → (calls : ℕ) → Type 0
AreWithin counts calls = (slot : ℕ) → slice_index counts slot ≤ calls
