-- The blocks of one unit of an element lie side by side in the array.
use Rattle.std.proofs.Common.{◌≡◌, ◌∙◌, ℕ, ◌+◌, ◌*◌, ◌/◌, ◌%◌, ◌<◌, List, [], ◌∷◌, Some, length, slice_get, sym, ap, arith}
use Rattle.std.specs.Prelude.{take}
use Rattle.std.proofs.lemmas.Option.{slice_get-get_or}
use Rattle.ddf_secondary.specs.declared.element.ElementSize.{ElementSize}
use Rattle.ddf_secondary.specs.declared.level.SecondaryLevel.{SecondaryLevel}
use Rattle.ddf_secondary.specs.declared.level.SecondaryLevel.TheVariants.{Striped, Mirrored, Concatenated, Spanned}
use Rattle.ddf_secondary.specs.declared.spot.Spot.{Spot}
use Rattle.ddf_secondary.specs.Arrangement.{Arrangement, IsArray}
use Rattle.ddf_secondary.specs.Sizes.{unit_of, least_of}
use Rattle.ddf_secondary.specs.Spots.{blocks, spots_by, spots_of, spots, size_of, carried_of, longer_from}
use Rattle.ddf_secondary.proofs.ArrayFacts.{striped_share, spanned_share}
use Rattle.ddf_secondary.proofs.Blocks.{length-blocks, slice_get-blocks, blocks_inverse}
use Rattle.ddf_secondary.proofs.ConcatenatedSpots.{concatenated_block}
use Rattle.ddf_secondary.proofs.Longer.{before}
use Rattle.ddf_secondary.proofs.SizeFacts.{units_are_as_the_first}
use Rattle.ddf_secondary.proofs.SpannedSpots.{spanned_block}
use Rattle.ddf_secondary.proofs.SpotFacts.{spot_facts}
use Rattle.ddf_secondary.proofs.StripedSpots.{striped_block}
use Rattle.ddf_read.proofs.Offsets.{same_row, later_place, stays_below}

-- so many blocks further in the element
abbrev pub spot_on : Spot → ℕ → Spot
spot_on spot k = record { element = spot.element; block = spot.block + k }

-- blocks that have their own numbers
own_along : (count block k : ℕ) (spot : Spot) → slice_get (blocks 0 count 0) block ≡ Some spot → block + k < length (blocks 0 count 0) → slice_get (blocks 0 count 0) (block + k) ≡ Some (spot_on spot k)
own_along count block k spot there below =
    let own = blocks_inverse 0 count 0 block spot there in
    let inside : block + k < count = omega (arith, below, length-blocks 0 count 0) in
    let e : record { element = 0; block = spot.block + k } ≡ spot_on spot k = ap (λ (n : ℕ). record { element = n; block = spot.block + k }) (sym own.element_is) in
    slice_get-blocks 0 count 0 (block + k) (spot.block + k) inside (omega (arith, own.block_is)) ∙ ap Some e

-- a block that is placed by its row and offset
placed_along : (block inner k place unit : ℕ) → inner % unit + k < unit → block ≡ place * unit + inner % unit → block + k ≡ place * unit + (inner + k) % unit
placed_along block inner k place unit stays is = omega (arith, is, later_place inner k unit stays)

module _ (block k : ℕ) (spot : Spot) where
  by_rows_striped : (sizes : List ElementSize) → IsArray Striped sizes → spot.element < length sizes → spot.block < least_of (λ (size : ElementSize). size.rows) sizes * unit_of sizes
      → spot.block % unit_of sizes + k < unit_of sizes → slice_get (spots_by Striped sizes) block ≡ Some spot → slice_get (spots_by Striped sizes) (block + k) ≡ Some (spot_on spot k)
  by_rows_striped sizes array known near stays there =
      let u = unit_of sizes in
      let m = length sizes in
      let near_later = stays_below spot.block k u (least_of (λ (size : ElementSize). size.rows) sizes) near stays in
      (striped_block sizes (spot_on spot k) (block + k) array known near_later).0
      (placed_along block spot.block k (spot.block / u * m + spot.element) u stays ((striped_block sizes spot block array known near).1 there)
      ∙ ap (λ row. (row * m + spot.element) * u + (spot.block + k) % u) (sym (same_row spot.block k u stays)))

  by_rows_spanned : (sizes : List ElementSize) → IsArray Spanned sizes → spot.element < length sizes → spot.block < (size_of sizes spot.element).rows * unit_of sizes
      → spot.block % unit_of sizes + k < unit_of sizes → slice_get (spots_by Spanned sizes) block ≡ Some spot → slice_get (spots_by Spanned sizes) (block + k) ≡ Some (spot_on spot k)
  by_rows_spanned sizes array known near stays there =
      let u = unit_of sizes in
      let near_later = stays_below spot.block k u (size_of sizes spot.element).rows near stays in
      (spanned_block sizes (spot_on spot k) (block + k) array known near_later).0
      (placed_along block spot.block k (before sizes (spot.block / u) + length (longer_from 0 (take spot.element sizes) (spot.block / u))) u stays ((spanned_block sizes spot block array known near).1 there)
      ∙ ap (λ row. (before sizes row + length (longer_from 0 (take spot.element sizes) row)) * u + (spot.block + k) % u) (sym (same_row spot.block k u stays)))

  in_element : (sizes : List ElementSize) → spot.element < length sizes → spot.block < (size_of sizes spot.element).capacity → spot.block + k < (size_of sizes spot.element).capacity
      → slice_get (spots_by Concatenated sizes) block ≡ Some spot → slice_get (spots_by Concatenated sizes) (block + k) ≡ Some (spot_on spot k)
  in_element sizes known near near_later there =
      (concatenated_block sizes (spot_on spot k) (block + k) known near_later).0
      (let is = (concatenated_block sizes spot block known near).1 there in omega (arith, is))

  -- the unit of an element is that of all, where the level goes by rows
  shared : (sizes : List ElementSize) (unit : ℕ) → (size_of sizes spot.element).unit ≡ unit → spot.block % (size_of sizes spot.element).unit + k < (size_of sizes spot.element).unit → spot.block % unit + k < unit
  shared sizes unit is stays = rw is at stays

  along_by : (level : SecondaryLevel) (size other : ElementSize) (others : List ElementSize) → IsArray level (size ∷ (other ∷ others)) → spot.element < length (size ∷ (other ∷ others))
      → spot.block < carried_of level (size ∷ (other ∷ others)) spot.element
      → spot.block % (size_of (size ∷ (other ∷ others)) spot.element).unit + k < (size_of (size ∷ (other ∷ others)) spot.element).unit
      → spot.block + k < (size_of (size ∷ (other ∷ others)) spot.element).capacity
      → slice_get (spots_by level (size ∷ (other ∷ others))) block ≡ Some spot → block + k < length (spots_by level (size ∷ (other ∷ others)))
      → slice_get (spots_by level (size ∷ (other ∷ others))) (block + k) ≡ Some (spot_on spot k)
  along_by Striped size other others array known near stays room there below =
      let sizes = size ∷ (other ∷ others) in
      let at = slice_get-get_or sizes spot.element (record { capacity = 0; unit = 0; rows = 0 }) known in
      by_rows_striped sizes array known near (shared sizes (unit_of sizes) (units_are_as_the_first sizes (striped_share sizes array) spot.element (size_of sizes spot.element) at) stays) there
  along_by Mirrored size other others array known near stays room there below = own_along (least_of (λ (s : ElementSize). s.capacity) (size ∷ (other ∷ others))) block k spot there below
  along_by Concatenated size other others array known near stays room there below = in_element (size ∷ (other ∷ others)) known near room there
  along_by Spanned size other others array known near stays room there below =
      let sizes = size ∷ (other ∷ others) in
      let at = slice_get-get_or sizes spot.element (record { capacity = 0; unit = 0; rows = 0 }) known in
      by_rows_spanned sizes array known near (shared sizes (unit_of sizes) (units_are_as_the_first sizes (spanned_share sizes array) spot.element (size_of sizes spot.element) at) stays) there

  along_of : (level : SecondaryLevel) (sizes : List ElementSize) → IsArray level sizes → spot.element < length sizes → spot.block < carried_of level sizes spot.element
      → spot.block % (size_of sizes spot.element).unit + k < (size_of sizes spot.element).unit → spot.block + k < (size_of sizes spot.element).capacity
      → slice_get (spots_of level sizes) block ≡ Some spot → block + k < length (spots_of level sizes) → slice_get (spots_of level sizes) (block + k) ≡ Some (spot_on spot k)
  along_of level [] array known near stays room there below = absurd (omega (arith, array.some))
  along_of level (size ∷ []) array known near stays room there below = own_along size.capacity block k spot there below
  along_of level (size ∷ (other ∷ others)) array known near stays room there below = along_by level size other others array known near stays room there below

-- within a unit and the element's capacity
pub spot_along : (tiers : Arrangement) → IsArray tiers.level tiers.sizes → (block k : ℕ) (spot : Spot) → slice_get (spots tiers) block ≡ Some spot → block + k < length (spots tiers)
    → spot.block % (size_of tiers.sizes spot.element).unit + k < (size_of tiers.sizes spot.element).unit → spot.block + k < (size_of tiers.sizes spot.element).capacity
    → slice_get (spots tiers) (block + k) ≡ Some (spot_on spot k)
unfolding spots
spot_along tiers array block k spot there below stays room =
    let facts = spot_facts tiers array in
    let holds = facts.named spot block there in
    along_of block k spot tiers.level tiers.sizes array (facts.element_within spot block holds) (facts.block_within spot block holds) stays room there below
