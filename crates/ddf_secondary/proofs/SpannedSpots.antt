-- The spots of spanned tiers.
use Rattle.std.proofs.Common.{◌≡◌, ℕ, zero, suc, ◌+◌, ◌-◌, ◌*◌, ◌/◌, ◌%◌, ◌^◌, ◌<◌, ◌≤◌, ◌↔◌, ◌⊎◌, inl, inr, List, [], ◌∷◌, ◌++◌, length, get_or, take, Some, slice_get, ⊎_elim, refl, sym, ap, ◌∙◌, zero-add, arith, length-append}
use Rattle.std.specs.List.{range_with_len, flat_map, sum_by}
use Rattle.std.proofs.lemmas.Bool.{cases_lt}
use Rattle.std.proofs.lemmas.List.{append-nil}
use Rattle.std.proofs.lemmas.List.Concat.{flat_map-append}
use Rattle.std.proofs.lemmas.List.Sums.{sum_by-cons, sum_by-le}
use Rattle.std.proofs.lemmas.Nat.{mul-le, mul-add-lt, div_below, mod_below, div-add-mod'}
use Rattle.std.proofs.lemmas.Option.{slice_get_within, slice_get-get_or}
use Rattle.ddf_lemmas.proofs.Lists.{range_next}
use Rattle.ddf_lemmas.proofs.Tests.{factor_pos}
use Rattle.ddf_secondary.specs.declared.element.ElementSize.{ElementSize}
use Rattle.ddf_secondary.specs.declared.level.SecondaryLevel.TheVariants.{Spanned}
use Rattle.ddf_secondary.specs.declared.spot.Spot.{Spot}
use Rattle.ddf_secondary.specs.Sizes.{greatest_of, unit_of}
use Rattle.ddf_secondary.specs.Arrangement.{IsArray}
use Rattle.ddf_secondary.specs.Spots.{longer_from, spots_by, size_of}
use Rattle.ddf_secondary.proofs.Rows.{units_to, length-by_rows, row_at, row_block}
use Rattle.ddf_secondary.proofs.SizeFacts.{unit_is_some, greatest_ge}
use Rattle.ddf_secondary.proofs.ArrayFacts.{spanned_share, rows_small}
use Rattle.ddf_secondary.proofs.Longer.{before, all_rows, before_none, before_band, before_all, longer_at, longer_place, longer_apart, none_longer}

-- no element ends within one row
one_row : (sizes : List ElementSize) (row k : ℕ) (size : ElementSize) → slice_get sizes k ≡ Some size → (size.rows ≤ row) ⊎ (row + 1 ≤ size.rows)
one_row sizes row k size at_k = ⊎_elim (λ has. inr (omega arith)) (λ has_not. inl has_not) (cases_lt row size.rows)

pub units_to_longer : (sizes : List ElementSize) (row : ℕ) → units_to (longer_from 0 sizes) row ≡ before sizes row
units_to_longer sizes zero = sym (before_none sizes)
units_to_longer sizes (suc row) =
    let band = before_band 0 row (row + 1) (row + 1) sizes (one_row sizes row) (omega arith) (omega arith) (omega arith) in
    let one : row + 1 - row ≡ 1 = omega arith in
    let next : row + 1 ≡ suc row = omega arith in
    ap (λ rows. length (flat_map (longer_from 0 sizes) rows)) (range_next 0 row)
    ∙ ap length (flat_map-append (longer_from 0 sizes) (range_with_len 0 row) ((0 + row) ∷ []))
    ∙ length-append (flat_map (longer_from 0 sizes) (range_with_len 0 row)) (longer_from 0 sizes (0 + row) ++ [])
    ∙ rw (append-nil, zero-add) (omega (arith, units_to_longer sizes row, rw (one, next) at band))

-- what an element's rows come to
rows_of_each : (sizes : List ElementSize) (unit : ℕ) → sum_by (λ (size : ElementSize). unit * size.rows) sizes ≡ unit * all_rows sizes
rows_of_each [] unit = omega arith
rows_of_each (size ∷ sizes) unit =
    let rows = sum_by-cons (λ (s : ElementSize). s.rows) size sizes in
    sum_by-cons (λ (s : ElementSize). unit * s.rows) size sizes ∙ rw rows (omega (arith, rows_of_each sizes unit))

pub rows_are_small : (sizes : List ElementSize) → IsArray Spanned sizes → unit_of sizes * all_rows sizes ≤ 16 * 2 ^ 56
rows_are_small sizes array =
    let unit = unit_of sizes in
    let each = sum_by-le (λ (size : ElementSize). unit * size.rows) (2 ^ 56) sizes
    (λ k none inside. rows_small sizes k (get_or sizes k none) (spanned_share sizes array) array.small (slice_get-get_or sizes k none inside)) in
    omega (arith, each, rows_of_each sizes unit, mul-le (length sizes) (2 ^ 56) 16 (2 ^ 56) array.few (omega arith))

pub some_unit : (sizes : List ElementSize) → IsArray Spanned sizes → 0 < unit_of sizes
some_unit sizes array = unit_is_some sizes array.some (spanned_share sizes array)

pub rows_fit : (sizes : List ElementSize) → IsArray Spanned sizes → all_rows sizes ≤ 16 * 2 ^ 56
rows_fit sizes array =
    omega (arith, rows_are_small sizes array, mul-le 1 (all_rows sizes) (unit_of sizes) (all_rows sizes) (some_unit sizes array) (omega arith))

pub spanned_length : (sizes : List ElementSize) → length (spots_by Spanned sizes) ≡ all_rows sizes * unit_of sizes
spanned_length sizes =
    let rows = greatest_of (λ (size : ElementSize). size.rows) sizes in
    length-by_rows (longer_from 0 sizes) (unit_of sizes) rows
    ∙ ap (λ n. n * unit_of sizes) (units_to_longer sizes rows ∙ before_all 0 rows sizes (none_longer 0 rows sizes (omega arith)))

pub spanned_unit : (sizes : List ElementSize) (block : ℕ) → block < length (spots_by Spanned sizes) → block / unit_of sizes < all_rows sizes
spanned_unit sizes block below =
    let inside : block < all_rows sizes * unit_of sizes = omega (arith, spanned_length sizes) in
    div_below block (unit_of sizes) (all_rows sizes) (factor_pos (all_rows sizes) (unit_of sizes) block inside) inside

-- the spot of a unit's block, where the unit's place is known
pub spanned_spot : (sizes : List ElementSize) (block row place element : ℕ) → block < length (spots_by Spanned sizes) → slice_get (longer_from 0 sizes row) place ≡ Some element → block / unit_of sizes ≡ before sizes row + place → slice_get (spots_by Spanned sizes) block ≡ Some (record { element = element; block = row * unit_of sizes + block % unit_of sizes })
spanned_spot sizes block row place element below there is =
    let unit = unit_of sizes in
    let rows = greatest_of (λ (size : ElementSize). size.rows) sizes in
    let inside : block < all_rows sizes * unit = omega (arith, spanned_length sizes) in
    let some = factor_pos (all_rows sizes) unit block inside in
    let has = longer_at 0 row place element sizes there in
    let within : row < rows = omega (arith, has.has, greatest_ge (λ (size : ElementSize). size.rows) sizes has.number has.size has.size_is) in
    let split : block ≡ (units_to (longer_from 0 sizes) row + place) * unit + block % unit =
    rw (units_to_longer sizes row, sym is) (sym (div-add-mod' block unit)) in
    ap (slice_get (spots_by Spanned sizes)) split
    ∙ row_at (longer_from 0 sizes) unit rows row place element (block % unit) there (mod_below block unit some) within

-- its element's rows are few enough to be counted
pub spanned_spot_small : (sizes : List ElementSize) (block row place element : ℕ) → IsArray Spanned sizes → slice_get (longer_from 0 sizes row) place ≡ Some element → row * unit_of sizes + block % unit_of sizes < 2 ^ 56
spanned_spot_small sizes block row place element array there =
    let unit = unit_of sizes in
    let has = longer_at 0 row place element sizes there in
    omega (arith, mul-add-lt row unit (block % unit) has.size.rows has.has (mod_below block unit (some_unit sizes array)), rows_small sizes has.number has.size (spanned_share sizes array) array.small has.size_is)

-- the block of a spot
pub spanned_block : (sizes : List ElementSize) (spot : Spot) (block : ℕ) → IsArray Spanned sizes → spot.element < length sizes → spot.block < (size_of sizes spot.element).rows * unit_of sizes → (block ≡ (before sizes (spot.block / unit_of sizes) + length (longer_from 0 (take spot.element sizes) (spot.block / unit_of sizes))) * unit_of sizes + spot.block % unit_of sizes) ↔ (slice_get (spots_by Spanned sizes) block ≡ Some spot)
spanned_block sizes spot block array known near =
    let unit = unit_of sizes in
    let row = spot.block / unit in
    let size = size_of sizes spot.element in
    let rows = greatest_of (λ (s : ElementSize). s.rows) sizes in
    let some = some_unit sizes array in
    let at_element = slice_get-get_or sizes spot.element (record { capacity = 0; unit = 0; rows = 0 }) known in
    let has = div_below spot.block unit size.rows some near in
    let there = longer_place 0 row spot.element size sizes at_element has ∙ ap Some (zero-add spot.element) in
    let within : row < rows = omega (arith, has, greatest_ge (λ (s : ElementSize). s.rows) sizes spot.element size at_element) in
    rw (units_to_longer sizes row) at
    (row_block (longer_from 0 sizes) unit rows block (length (longer_from 0 (take spot.element sizes) row)) spot (longer_apart sizes) there some within)

pub spanned_block_lt : (sizes : List ElementSize) (spot : Spot) → IsArray Spanned sizes → spot.element < length sizes → spot.block < (size_of sizes spot.element).rows * unit_of sizes → (before sizes (spot.block / unit_of sizes) + length (longer_from 0 (take spot.element sizes) (spot.block / unit_of sizes))) * unit_of sizes + spot.block % unit_of sizes < 16 * 2 ^ 56
spanned_block_lt sizes spot array known near =
    let unit = unit_of sizes in
    let block = (before sizes (spot.block / unit) + length (longer_from 0 (take spot.element sizes) (spot.block / unit))) * unit + spot.block % unit in
    let found = (spanned_block sizes spot block array known near).0 refl in
    omega (arith, slice_get_within (spots_by Spanned sizes) block spot found, spanned_length sizes, rows_are_small sizes array)

pub spanned_unit_lt : (sizes : List ElementSize) (spot : Spot) → IsArray Spanned sizes → spot.element < length sizes → spot.block < (size_of sizes spot.element).rows * unit_of sizes → before sizes (spot.block / unit_of sizes) + length (longer_from 0 (take spot.element sizes) (spot.block / unit_of sizes)) < 16 * 2 ^ 56
spanned_unit_lt sizes spot array known near =
    let number = before sizes (spot.block / unit_of sizes) + length (longer_from 0 (take spot.element sizes) (spot.block / unit_of sizes)) in
    omega (arith, spanned_block_lt sizes spot array known near, mul-le number 1 number (unit_of sizes) (omega arith) (some_unit sizes array))
