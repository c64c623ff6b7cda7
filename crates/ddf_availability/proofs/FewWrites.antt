-- A range of blocks has no more stretches on the positions of an array than blocks on each, however it is cut into pieces.
use Rattle.std.proofs.Common.{◌≡◌, ℕ, zero, suc, ◌+◌, ◌-◌, ◌*◌, ◌≤◌, Bool, true, false, List, [], ◌∷◌, length, min, Option, Some, None, if◌then◌else◌, ap, arith}
use Rattle.std.specs.List.{range_with_len, sum_by}
use Rattle.std.proofs.Math.Nat.{add-mul, mul-add, mul-le-mul_left, suc-mul}
use Rattle.std.proofs.lemmas.List.FromFn.{length-map-range_with_len}
use Rattle.std.proofs.lemmas.List.Sums.{sum_by-cons}
use Rattle.ddf_array.specs.declared.site.Site.{Site}
use Rattle.ddf_array.specs.Volume.{Volume}
use Rattle.ddf_read.specs.Stretches.{follows}
use Rattle.ddf_cells.specs.CellsOn.{cell_on, cells_on, is_end, over_element, places_at, stretches_on, write_stretches}
use Rattle.ddf_pieces.specs.Pieces.{over_pieces, piece_of}
use Rattle.ddf_availability.specs.Serving.{positions_of}

-- ---- on one position

one_end : (one next : Option Site) → is_end one next ≤ 1
one_end None next = omega arith
one_end (Some one) None = omega arith
one_end (Some one) (Some next) = by (follows one next)
  where
    by : (b : Bool) → (if b then 0 else 1) ≤ 1
    by true = omega arith
    by false = omega arith

few_ends : (cells : List (Option Site)) → stretches_on cells ≤ length cells
few_ends [] = omega arith
few_ends (one ∷ []) = let here = one_end one None in omega (arith, here)
few_ends (one ∷ (next ∷ others)) =
    let here = one_end one next in
    let rest = few_ends (next ∷ others) in
    omega (arith, here, rest)

few_cells : (volume : Volume) (element position start count : ℕ) → stretches_on (cells_on volume element position start count) ≤ count
few_cells volume element position start count =
    let few = few_ends (cells_on volume element position start count) in
    let long = length-map-range_with_len (cell_on volume element position) start count in
    omega (arith, few, long)

-- ---- on all of them

sums_most : (f g : ℕ → ℕ) (count : ℕ) (xs : List ℕ) → ((x : ℕ) → f x ≤ g x * count) → sum_by f xs ≤ sum_by g xs * count
sums_most f g count [] each = omega arith
sums_most f g count (x ∷ xs) each =
    let here = each x in
    let rest = sums_most f g count xs each in
    let left = sum_by-cons f x xs in
    let right : sum_by g (x ∷ xs) * count ≡ (g x + sum_by g xs) * count = ap (λ (n : ℕ). n * count) (sum_by-cons g x xs) in
    let split = add-mul (g x) (sum_by g xs) count in
    omega (arith, here, rest, left, right, split)

few_stretches : (volume : Volume) (start count : ℕ) → write_stretches volume start count ≤ positions_of volume * count
few_stretches volume start count =
    sums_most (over_element (λ element position. stretches_on (cells_on volume element position start count)) volume.parts) (over_element (λ element position. 1) volume.parts) count
    (range_with_len 0 (length volume.parts))
    (λ element.
    sums_most (λ position. stretches_on (cells_on volume element position start count)) (λ position. 1) count (range_with_len 0 (places_at volume.parts element))
    (λ position. let few = few_cells volume element position start count in omega (arith, few)))

-- ---- piece by piece

pieces_most : (number : (start count : ℕ) → ℕ) (most each start count : ℕ) → ((from many : ℕ) → number from many ≤ most * many) → (some : ℕ)
    → over_pieces number each start count some ≤ most * min (some * each) count
pieces_most number most each start count few zero = omega arith
pieces_most number most each start count few (suc some) =
    let before = pieces_most number most each start count few some in
    let next = few (start + some * each) (piece_of each (count - some * each)) in
    let more = suc-mul some each in
    let within : min (some * each) count + piece_of each (count - some * each) ≤ min (suc some * each) count = omega (arith, more) in
    let split = mul-add most (min (some * each) count) (piece_of each (count - some * each)) in
    let wide = mul-le-mul_left most within in
    omega (arith, before, next, split, wide)

pub few_writes : (volume : Volume) (each start count pieces : ℕ) → over_pieces (write_stretches volume) each start count pieces ≤ positions_of volume * count
few_writes volume each start count pieces =
    let few = pieces_most (write_stretches volume) (positions_of volume) each start count (few_stretches volume) pieces in
    let within : min (pieces * each) count ≤ count = omega arith in
    let wide = mul-le-mul_left (positions_of volume) within in
    omega (arith, few, wide)
