-- How many sectors a write of blocks asks for, where each block has one cell.
use Rattle.std.proofs.Common.{◌≡◌, ◌∙◌, ℕ, zero, suc, ◌+◌, ◌*◌, ◌≤◌, Bool, false, List, [], ◌∷◌, ◌++◌, Option, Some, None, refl, sym, subst, arith, map, filter_map, length, slice_get}
use Rattle.std.specs.Prelude.{if◌then◌else◌}
use Rattle.std.specs.List.{cons_option, flat_map, range_with_len, sum_by}
use Rattle.std.proofs.lemmas.List.Sums.{sum_by-cons}
use Rattle.std.proofs.lemmas.List.FromFn.{length-range_with_len}
use Rattle.ddf_primary.proofs.Copies.{few_copies}
use Rattle.ddf_secondary.specs.Spots.{spots}
use Rattle.ddf_secondary.specs.declared.spot.Spot.{Spot}
use Rattle.ddf_array.specs.declared.part.Part.{Part}
use Rattle.ddf_array.specs.declared.site.Site.{Site}
use Rattle.ddf_array.specs.Cells.{block_spots, element_cells, is_in_every, spots_like}
use Rattle.ddf_array.specs.Levels.{keeps_copies}
use Rattle.ddf_array.specs.Places.{site_at}
use Rattle.ddf_array.specs.Sources.{at_spot, copies, element_copies}
use Rattle.ddf_array.specs.Volume.{Volume}
use Rattle.ddf_cells.specs.CellsOn.{copy_cells}
use Rattle.ddf_write.specs.RowWrites.{row_cells}
use Rattle.ddf_exercise_config.specs.Turns.{Turn}
use Rattle.ddf_exercise_config.specs.Views.{part, places_at, view_at}

-- ---- each block has one cell at most

one_few : {Y : Type 0} (found : Option Y) → length (cons_option found []) ≤ 1
one_few None = omega arith
one_few (Some y) = omega arith

some_few : {X Y : Type 0} (f : X → Option Y) (xs : List X) → length xs ≤ 1 → length (filter_map f xs) ≤ 1
some_few f [] few = omega arith
some_few f (x ∷ []) few = one_few (f x)
some_few f (x ∷ (y ∷ xs)) few = absurd (omega (arith, few))

copies_few : (one : Part) (block : ℕ) → keeps_copies one.shape.layout ≡ false → length (element_copies one block) ≤ 1
copies_few one block single = some_few (λ cell. site_at one.places cell.0 cell.1) (element_cells one.shape block) (few_copies one.shape block single)

spots_few : (v : Volume) (block : ℕ) → is_in_every v.tiers.level ≡ false → length (block_spots v block) ≤ 1
spots_few v block single = by_spot (slice_get (spots v.tiers) block)
  where
    by_spot : (found : Option Spot) → length {A = Spot} (elim found [ None ↦ [] | Some spot ↦ spots_like v.tiers.level (length v.parts) spot ]) ≤ 1
    by_spot None = omega arith
    by_spot (Some spot) =
        subst (λ b. length {A = Spot} (map {B = Spot} (λ element. record { element = element; block = spot.block }) (if b then range_with_len 0 (length v.parts) else spot.element ∷ [])) ≤ 1) (sym single) (omega arith)

-- so do all elements alone
abbrev AreSingle : List Part → Type 0
AreSingle parts = (element : ℕ) (one : Part) → slice_get parts element ≡ Some one → keeps_copies one.shape.layout ≡ false

spot_few : (parts : List Part) → AreSingle parts → (spot : Spot) → length (at_spot parts element_copies spot) ≤ 1
spot_few parts single spot = by (slice_get parts spot.element) refl
  where
    by : (found : Option Part) → slice_get parts spot.element ≡ found → length {A = Site} (elim found [ None ↦ [] | Some one ↦ element_copies one spot.block ]) ≤ 1
    by None is = omega arith
    by (Some one) is = copies_few one spot.block (single spot.element one is)

flat_few : (parts : List Part) → AreSingle parts → (some : List Spot) → length some ≤ 1 → length (flat_map (at_spot parts element_copies) some) ≤ 1
flat_few parts single [] few = omega arith
flat_few parts single (spot ∷ []) few = append_none (at_spot parts element_copies spot) (spot_few parts single spot)
  where
    append_none : {X : Type 0} (xs : List X) → length xs ≤ 1 → length (xs ++ []) ≤ 1
    append_none [] le = omega arith
    append_none (x ∷ []) le = omega arith
    append_none (x ∷ (y ∷ xs)) le = absurd (omega (arith, le))
flat_few parts single (spot ∷ (other ∷ some)) few = absurd (omega (arith, few))

block_few : (v : Volume) → is_in_every v.tiers.level ≡ false → AreSingle v.parts → (block : ℕ) → length (copies v block) ≤ 1
block_few v alone single block = flat_few v.parts single (block_spots v block) (spots_few v block alone)

cells_few : (v : Volume) → ((block : ℕ) → length (copies v block) ≤ 1) → (blocks : List ℕ) → sum_by (λ block. length (copies v block)) blocks ≤ length blocks
cells_few v few [] = omega arith
cells_few v few (block ∷ blocks) =
    let here = few block in
    let rest = cells_few v few blocks in
    let sum = sum_by-cons (λ one. length (copies v one)) block blocks in
    omega (arith, here, rest, sum)

-- ---- the array of an exercise

single_on : (is_marked : Bool) (turn : Turn) → AreSingle (view_at turn is_marked).parts
single_on is_marked turn zero one at = let is : part (places_at turn) ≡ one = cc in subst (λ (p : Part). keeps_copies p.shape.layout ≡ false) is refl
single_on is_marked turn (suc element) one at = absurd cc

parity_count : (turn : Turn) (is_marked : Bool) (count : ℕ) → row_cells (view_at turn is_marked) count ≡ count
parity_count turn is_marked count = let e : row_cells (view_at turn is_marked) count ≡ 0 + count = refl in e ∙ (let more : 0 + count ≡ count = omega arith in more)

-- A write of blocks asks for two sectors for each at most: the block, and the sum of its row.
pub write_few : (turn : Turn) (is_marked : Bool) (start count : ℕ) → copy_cells (view_at turn is_marked) start count + row_cells (view_at turn is_marked) count ≤ 2 * count
write_few turn is_marked start count =
    let blocks = cells_few (view_at turn is_marked) (block_few (view_at turn is_marked) refl (single_on is_marked turn)) (range_with_len start count) in
    let long = length-range_with_len start count in
    let parity = parity_count turn is_marked count in
    omega (arith, blocks, long, parity)
