-- The spots of striped tiers.
use Rattle.std.proofs.Common.{◌≡◌, ℕ, ◌+◌, ◌*◌, ◌/◌, ◌%◌, ◌^◌, ◌<◌, ◌≤◌, ◌↔◌, List, length, Some, slice_get, refl, ap, ◌∙◌, zero-add, arith}
use Rattle.std.specs.List.{range_with_len}
use Rattle.std.proofs.lemmas.List.FromFn.{length-range_with_len}
use Rattle.std.proofs.lemmas.Nat.{div_below, mul-le}
use Rattle.std.proofs.lemmas.Option.{slice_get_within}
use Rattle.ddf_lemmas.proofs.Lists.{slice_get-range}
use Rattle.ddf_lemmas.proofs.Tests.{place_in_strips}
use Rattle.ddf_secondary.specs.declared.element.ElementSize.{ElementSize}
use Rattle.ddf_secondary.specs.declared.level.SecondaryLevel.TheVariants.{Striped}
use Rattle.ddf_secondary.specs.declared.spot.Spot.{Spot}
use Rattle.ddf_secondary.specs.Sizes.{least_of, unit_of}
use Rattle.ddf_secondary.specs.Arrangement.{IsArray}
use Rattle.ddf_secondary.specs.Spots.{every_element, spots_by}
use Rattle.ddf_secondary.proofs.Lists.{length-pieces}
use Rattle.ddf_secondary.proofs.Divide.{offset_within, number_within, row_within}
use Rattle.ddf_secondary.proofs.Rows.{in_range, units_to, length-by_rows, row_at, row_block}
use Rattle.ddf_secondary.proofs.SizeFacts.{unit_is_some}
use Rattle.ddf_secondary.proofs.ArrayFacts.{striped_share, least_small}

pub every_apart : (sizes : List ElementSize) (row i j element : ℕ) → slice_get (every_element sizes row) i ≡ Some element → slice_get (every_element sizes row) j ≡ Some element → i ≡ j
every_apart sizes row i j element at_i at_j =
    omega (arith, (in_range (length sizes) i element at_i).1, (in_range (length sizes) j element at_j).1)

every_at : (sizes : List ElementSize) (row element : ℕ) → element < length sizes → slice_get (every_element sizes row) element ≡ Some element
every_at sizes row element known = slice_get-range 0 (length sizes) element known ∙ ap Some (zero-add element)

units_to_every : (sizes : List ElementSize) (row : ℕ) → units_to (every_element sizes) row ≡ row * length sizes
units_to_every sizes row =
    length-pieces (every_element sizes) (length sizes) (λ r. length-range_with_len 0 (length sizes)) (range_with_len 0 row)
    ∙ ap (λ n. n * length sizes) (length-range_with_len 0 row)

abbrev least_rows : List ElementSize → ℕ
least_rows sizes = least_of (λ (size : ElementSize). size.rows) sizes

pub striped_length : (sizes : List ElementSize) → length (spots_by Striped sizes) ≡ least_of (λ (size : ElementSize). size.rows) sizes * length sizes * unit_of sizes
striped_length sizes =
    length-by_rows (every_element sizes) (unit_of sizes) (least_rows sizes) ∙ ap (λ n. n * unit_of sizes) (units_to_every sizes (least_rows sizes))

pub striped_spot : (sizes : List ElementSize) (block : ℕ) → block < length (spots_by Striped sizes) → slice_get (spots_by Striped sizes) block ≡ Some (record { element = block / unit_of sizes % length sizes; block = block / unit_of sizes / length sizes * unit_of sizes + block % unit_of sizes })
striped_spot sizes block below =
    let unit = unit_of sizes in
    let elements = length sizes in
    let rows = least_rows sizes in
    let inside : block < rows * elements * unit = omega (arith, striped_length sizes) in
    let row = block / unit / elements in
    let element = block / unit % elements in
    let split : block ≡ (units_to (every_element sizes) row + element) * unit + block % unit =
    rw (units_to_every sizes row) (place_in_strips block unit elements) in
    ap (slice_get (spots_by Striped sizes)) split
    ∙ row_at (every_element sizes) unit rows row element element (block % unit) (every_at sizes row element (number_within block unit elements rows inside)) (offset_within block unit elements rows inside) (row_within block unit elements rows inside)

pub striped_block : (sizes : List ElementSize) (spot : Spot) (block : ℕ) → IsArray Striped sizes → spot.element < length sizes → spot.block < least_of (λ (size : ElementSize). size.rows) sizes * unit_of sizes → (block ≡ (spot.block / unit_of sizes * length sizes + spot.element) * unit_of sizes + spot.block % unit_of sizes) ↔ (slice_get (spots_by Striped sizes) block ≡ Some spot)
striped_block sizes spot block array known near =
    let unit = unit_of sizes in
    let some = unit_is_some sizes array.some (striped_share sizes array) in
    rw (units_to_every sizes (spot.block / unit)) at
    (row_block (every_element sizes) unit (least_rows sizes) block spot.element spot (every_apart sizes) (every_at sizes (spot.block / unit) spot.element known) some (div_below spot.block unit (least_rows sizes) some near))

-- the blocks are few enough to be counted
pub striped_small : (sizes : List ElementSize) → IsArray Striped sizes → length (spots_by Striped sizes) ≤ 16 * 2 ^ 56
striped_small sizes array =
    let least = least_small sizes array.some (striped_share sizes array) array.small in
    omega (arith, striped_length sizes, mul-le (length sizes) (unit_of sizes * least_rows sizes) 16 (2 ^ 56) array.few least)

pub striped_block_lt : (sizes : List ElementSize) (spot : Spot) → IsArray Striped sizes → spot.element < length sizes → spot.block < least_of (λ (size : ElementSize). size.rows) sizes * unit_of sizes → (spot.block / unit_of sizes * length sizes + spot.element) * unit_of sizes + spot.block % unit_of sizes < 16 * 2 ^ 56
striped_block_lt sizes spot array known near =
    let block = (spot.block / unit_of sizes * length sizes + spot.element) * unit_of sizes + spot.block % unit_of sizes in
    let found = (striped_block sizes spot block array known near).0 refl in
    omega (arith, slice_get_within (spots_by Striped sizes) block spot found, striped_small sizes array)

pub striped_unit_lt : (sizes : List ElementSize) (spot : Spot) → IsArray Striped sizes → spot.element < length sizes → spot.block < least_of (λ (size : ElementSize). size.rows) sizes * unit_of sizes → spot.block / unit_of sizes * length sizes + spot.element < 16 * 2 ^ 56
striped_unit_lt sizes spot array known near =
    let number = spot.block / unit_of sizes * length sizes + spot.element in
    let some = unit_is_some sizes array.some (striped_share sizes array) in
    omega (arith, striped_block_lt sizes spot array known near, mul-le number 1 number (unit_of sizes) (omega arith) some)
