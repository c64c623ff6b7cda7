-- The sizes of slots, as they are seen.
use Rattle.std.specs.Prelude.{◌≡◌, ◌≤◌, ℕ, zero, suc, ◌-◌, Bool, true, false, if◌then◌else◌, List, [], ◌∷◌, length, slice_index}
use Rattle.std.proofs.Common.{refl, arith}
use Rattle.ddf_shortened.specs.declared.ends.SlotEnd.{SlotEnd}
use Rattle.ddf_shortened.specs.SlotEnds.{end_at, is_early}

-- the size of a slot that ends early or not, in sectors
abbrev pub size_if : Bool → ℕ → ℕ
size_if early size = if early then size - 256 else size

-- of each slot
unfoldable pub seen_sizes : List SlotEnd → List ℕ → List ℕ
seen_sizes ends [] = []
seen_sizes [] (size ∷ sizes) = size ∷ sizes
seen_sizes (end ∷ ends) (size ∷ sizes) = size_if (is_early end) size ∷ seen_sizes ends sizes

-- ---- laws

pub seen_length : (ends : List SlotEnd) (sizes : List ℕ) → length (seen_sizes ends sizes) ≡ length sizes
unfolding seen_sizes
seen_length ends [] = refl
seen_length [] (size ∷ sizes) = refl
seen_length (end ∷ ends) (size ∷ sizes) = rw (seen_length ends sizes) refl

none_left : (early : Bool) → size_if early 0 ≡ 0
none_left true = refl
none_left false = refl

pub seen_index : (ends : List SlotEnd) (sizes : List ℕ) (s : ℕ) → slice_index (seen_sizes ends sizes) s ≡ size_if (is_early (end_at ends s)) (slice_index sizes s)
unfolding seen_sizes
seen_index ends [] s = rw (none_left (is_early (end_at ends s))) refl
seen_index [] (size ∷ sizes) s = refl
seen_index (end ∷ ends) (size ∷ sizes) zero = refl
seen_index (end ∷ ends) (size ∷ sizes) (suc s) = seen_index ends sizes s

if_small : (early : Bool) (size : ℕ) → size_if early size ≤ size
if_small true size = omega arith
if_small false size = omega arith

-- no slot is seen longer than it is
pub seen_small : (ends : List SlotEnd) (sizes : List ℕ) (s : ℕ) → slice_index (seen_sizes ends sizes) s ≤ slice_index sizes s
seen_small ends sizes s = rw (seen_index ends sizes s) (if_small (is_early (end_at ends s)) (slice_index sizes s))

-- there are as many slots as below
pub few_seen : (ends : List SlotEnd) (sizes : List ℕ) → length sizes ≤ 64 → length (seen_sizes ends sizes) ≤ 64
few_seen ends sizes few = rw (seen_length ends sizes) few

-- and none is larger
pub seen_within : (ends : List SlotEnd) (sizes : List ℕ) (s most : ℕ) → slice_index sizes s ≤ most → slice_index (seen_sizes ends sizes) s ≤ most
seen_within ends sizes s most small = let below = seen_small ends sizes s in omega (arith, below, small)
