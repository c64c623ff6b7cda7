-- The lists of spots: which element and block of it holds each block of an array, by the standard's
-- secondary levels. That a unit of striping is one data row of the element is profile.
use Rattle.std.specs.Prelude.{◌≡◌, ℕ, ◌+◌, ◌*◌, ◌<◌, nat_lt, List, [], ◌∷◌, ◌++◌, map, length, Some, slice_get, slice_index_or, if◌then◌else◌}
use Rattle.std.specs.List.{range_with_len, flat_map}
use Rattle.ddf_secondary.specs.declared.element.ElementSize.{ElementSize}
use Rattle.ddf_secondary.specs.declared.level.SecondaryLevel.{SecondaryLevel}
use Rattle.ddf_secondary.specs.declared.level.SecondaryLevel.TheVariants.{Striped, Mirrored, Concatenated, Spanned}
use Rattle.ddf_secondary.specs.declared.spot.Spot.{Spot}
use Rattle.ddf_secondary.specs.Sizes.{least_of, greatest_of, unit_of}
use Rattle.ddf_secondary.specs.Arrangement.{Arrangement}

-- blocks of one element, in order: so many from the first on
abbrev pub blocks : ℕ → ℕ → ℕ → List Spot
blocks first count element = map (λ block. record { element = element; block = block }) (range_with_len first count)

-- the blocks of one data row of an element
abbrev pub row_blocks : ℕ → ℕ → ℕ → List Spot
row_blocks unit row element = blocks (row * unit) unit element

-- row after row: a unit of each element that takes part in the row, in order
unfoldable pub by_rows : (ℕ → List ℕ) → ℕ → ℕ → List Spot
by_rows elements unit rows = flat_map (λ row. flat_map (row_blocks unit row) (elements row)) (range_with_len 0 rows)

-- striped: every element takes part in every row that the least element has
abbrev pub every_element : List ElementSize → ℕ → List ℕ
every_element sizes row = range_with_len 0 (length sizes)

-- spanned: the elements with more rows than this one's number, where the first has the given number
abbrev pub longer_from : ℕ → List ElementSize → ℕ → List ℕ
longer_from first [] row = []
longer_from first (size ∷ sizes) row =
    if nat_lt row size.rows then first ∷ longer_from (first + 1) sizes row else longer_from (first + 1) sizes row

-- concatenated: all blocks of one element after those of another
abbrev pub one_after_another : ℕ → List ElementSize → List Spot
one_after_another first [] = []
one_after_another first (size ∷ sizes) = blocks 0 size.capacity first ++ one_after_another (first + 1) sizes

abbrev pub spots_by : SecondaryLevel → List ElementSize → List Spot
spots_by Striped sizes = by_rows (every_element sizes) (unit_of sizes) (least_of (λ size. size.rows) sizes)
spots_by Mirrored sizes = blocks 0 (least_of (λ size. size.capacity) sizes) 0
spots_by Concatenated sizes = one_after_another 0 sizes
spots_by Spanned sizes = by_rows (longer_from 0 sizes) (unit_of sizes) (greatest_of (λ size. size.rows) sizes)

-- a single element holds its blocks itself, whatever the level (profile)
abbrev pub spots_of : SecondaryLevel → List ElementSize → List Spot
spots_of level [] = []
spots_of level (size ∷ []) = blocks 0 size.capacity 0
spots_of level (size ∷ (other ∷ others)) = spots_by level (size ∷ (other ∷ others))

-- every spot that holds a block, in the order of the blocks; for mirrored tiers those of element 0
unfoldable pub spots : Arrangement → List Spot
spots tiers = spots_of tiers.level tiers.sizes

-- that an element holds a block: the block's item of the list is that spot, and for mirrored tiers
-- every element holds what element 0 does
abbrev pub HoldsBy : SecondaryLevel → List ElementSize → List Spot → Spot → ℕ → Type 0
HoldsBy Striped sizes items spot block = slice_get items block ≡ Some spot
HoldsBy Mirrored sizes items spot block =
    (spot.element < length sizes) × (slice_get items block ≡ Some (record { element = 0; block = spot.block }))
HoldsBy Concatenated sizes items spot block = slice_get items block ≡ Some spot
HoldsBy Spanned sizes items spot block = slice_get items block ≡ Some spot

abbrev pub Holds : Arrangement → Spot → ℕ → Type 0
Holds tiers spot block = HoldsBy tiers.level tiers.sizes (spots tiers) spot block

-- the size of an element
abbrev pub size_of : List ElementSize → ℕ → ElementSize
size_of sizes element = slice_index_or sizes element (record { capacity = 0; unit = 0; rows = 0 })

-- how many blocks of an element hold blocks of the array, from the element's first
abbrev pub carried_by : SecondaryLevel → List ElementSize → ℕ → ℕ
carried_by Striped sizes element = least_of (λ size. size.rows) sizes * unit_of sizes
carried_by Mirrored sizes element = least_of (λ size. size.capacity) sizes
carried_by Concatenated sizes element = (size_of sizes element).capacity
carried_by Spanned sizes element = (size_of sizes element).rows * unit_of sizes

abbrev pub carried_of : SecondaryLevel → List ElementSize → ℕ → ℕ
carried_of level [] element = 0
carried_of level (size ∷ []) element = size.capacity
carried_of level (size ∷ (other ∷ others)) element = carried_by level (size ∷ (other ∷ others)) element

abbrev pub carried : Arrangement → ℕ → ℕ
carried tiers element = carried_of tiers.level tiers.sizes element
