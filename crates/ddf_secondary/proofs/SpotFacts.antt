-- What the levels have in common: the facts of each level's list of spots.
use Rattle.std.proofs.Common.{◌≡◌, ◌⊎◌, ⊎_elim, ℕ, ◌+◌, ◌*◌, ◌<◌, ◌≤◌, ◌↔◌, ◌/◌, ◌%◌, List, [], ◌∷◌, length, get_or, Some, slice_get, refl, sym, ap, ◌∙◌, zero-add, arith, zero, suc, true}
use Rattle.std.proofs.lemmas.Nat.{mul-le, mul-add-lt, mod_below, div-add-mod'}
use Rattle.std.proofs.lemmas.Option.{slice_get_within, get_or_from_slice_get, slice_get-get_or}
use Rattle.ddf_secondary.specs.declared.element.ElementSize.{ElementSize}
use Rattle.ddf_secondary.specs.declared.level.SecondaryLevel.{SecondaryLevel}
use Rattle.ddf_secondary.specs.declared.level.SecondaryLevel.TheVariants.{Striped, Mirrored, Concatenated, Spanned}
use Rattle.ddf_secondary.specs.declared.spot.Spot.{Spot}
use Rattle.ddf_secondary.specs.Sizes.{least_of, greatest_of, unit_of, share_a_unit}
use Rattle.ddf_secondary.specs.Arrangement.{Arrangement, IsArray}
use Rattle.ddf_secondary.specs.Spots.{blocks, every_element, longer_from, spots_by, spots_of, spots, HoldsBy, carried_by, carried_of, carried, size_of}
use Rattle.ddf_secondary.proofs.Blocks.{slice_get-blocks, blocks_inverse, one_inverse}
use Rattle.ddf_secondary.proofs.SizeFacts.{units_are_as_the_first, least_le}
use Rattle.ddf_secondary.proofs.ArrayFacts.{striped_share, spanned_share}
use Rattle.ddf_secondary.proofs.Longer.{longer_at, longer_apart}
use Rattle.ddf_secondary.proofs.Rows.{in_range, row_inverse, row_apart}
use Rattle.ddf_secondary.proofs.StripedSpots.{every_apart, striped_block}
use Rattle.ddf_secondary.proofs.SpannedSpots.{spanned_block}
use Rattle.ddf_secondary.proofs.ConcatenatedSpots.{concatenated_block}

pub record SpotFacts (level : SecondaryLevel) (sizes : List ElementSize) (items : List Spot) (carries : ℕ → ℕ) : Type 0 where
  -- the list's item is a spot that holds the block
  pub named : (spot : Spot) (block : ℕ) → slice_get items block ≡ Some spot → HoldsBy level sizes items spot block
  pub apart : (spot : Spot) (a b : ℕ) → HoldsBy level sizes items spot a → HoldsBy level sizes items spot b → a ≡ b
  pub element_within : (spot : Spot) (block : ℕ) → HoldsBy level sizes items spot block → spot.element < length sizes
  pub block_within : (spot : Spot) (block : ℕ) → HoldsBy level sizes items spot block → spot.block < carries spot.element
  pub covered : (spot : Spot) → spot.element < length sizes → spot.block < carries spot.element → (block : ℕ) × HoldsBy level sizes items spot block

-- a block's place from its row and offset
in_rows : (block unit rows : ℕ) → 0 < unit → block / unit < rows → block < rows * unit
in_rows block unit rows some within =
    omega (arith, mul-add-lt (block / unit) unit (block % unit) rows within (mod_below block unit some), div-add-mod' block unit)

striped_facts : (sizes : List ElementSize) → IsArray Striped sizes → SpotFacts Striped sizes (spots_by Striped sizes) (carried_by Striped sizes)
striped_facts sizes array =
    let rows = least_of (λ (size : ElementSize). size.rows) sizes in
    record {
      named = λ spot block there. there;
      apart = λ spot a b in_a in_b. row_apart (every_element sizes) (unit_of sizes) rows a b spot (every_apart sizes) in_a in_b;
      element_within = λ spot block holds.
          let inverse = row_inverse (every_element sizes) (unit_of sizes) rows block spot holds in
          let place = in_range (length sizes) inverse.place spot.element inverse.place_is in
          omega (arith, place.0, place.1);
      block_within = λ spot block holds.
          let inverse = row_inverse (every_element sizes) (unit_of sizes) rows block spot holds in
          in_rows spot.block (unit_of sizes) rows inverse.some inverse.within;
      covered = λ spot known near.
          ((spot.block / unit_of sizes * length sizes + spot.element) * unit_of sizes + spot.block % unit_of sizes, (striped_block sizes spot _ array known near).0 refl);
    }

spanned_facts : (sizes : List ElementSize) → IsArray Spanned sizes → SpotFacts Spanned sizes (spots_by Spanned sizes) (carried_by Spanned sizes)
spanned_facts sizes array =
    let rows = greatest_of (λ (size : ElementSize). size.rows) sizes in
    record {
      named = λ spot block there. there;
      apart = λ spot a b in_a in_b. row_apart (longer_from 0 sizes) (unit_of sizes) rows a b spot (longer_apart sizes) in_a in_b;
      element_within = λ spot block holds.
          let inverse = row_inverse (longer_from 0 sizes) (unit_of sizes) rows block spot holds in
          let has = longer_at 0 (spot.block / unit_of sizes) inverse.place spot.element sizes inverse.place_is in
          omega (arith, has.element_is, slice_get_within sizes has.number has.size has.size_is);
      block_within = λ spot block holds.
          let inverse = row_inverse (longer_from 0 sizes) (unit_of sizes) rows block spot holds in
          let has = longer_at 0 (spot.block / unit_of sizes) inverse.place spot.element sizes inverse.place_is in
          let number : spot.element ≡ has.number = has.element_is ∙ zero-add has.number in
          let size : size_of sizes spot.element ≡ has.size = ap (size_of sizes) number ∙ get_or_from_slice_get sizes has.number has.size _ has.size_is in
          rw size (in_rows spot.block (unit_of sizes) has.size.rows inverse.some has.has);
      covered = λ spot known near. (_, (spanned_block sizes spot _ array known near).0 refl);
    }

concatenated_element : (sizes : List ElementSize) (spot : Spot) (block : ℕ) → slice_get (spots_by Concatenated sizes) block ≡ Some spot → spot.element < length sizes
concatenated_element sizes spot block there =
    let inverse = one_inverse 0 sizes block spot there in
    omega (arith, inverse.element_is, slice_get_within sizes inverse.element inverse.size inverse.size_is)

concatenated_within : (sizes : List ElementSize) (spot : Spot) (block : ℕ) → slice_get (spots_by Concatenated sizes) block ≡ Some spot → spot.block < (size_of sizes spot.element).capacity
concatenated_within sizes spot block there =
    let inverse = one_inverse 0 sizes block spot there in
    let number : spot.element ≡ inverse.element = inverse.element_is ∙ zero-add inverse.element in
    let size : size_of sizes spot.element ≡ inverse.size = ap (size_of sizes) number ∙ get_or_from_slice_get sizes inverse.element inverse.size _ inverse.size_is in
    rw size (inverse.within)

concatenated_facts : (sizes : List ElementSize) → IsArray Concatenated sizes → SpotFacts Concatenated sizes (spots_by Concatenated sizes) (carried_by Concatenated sizes)
concatenated_facts sizes array =
    record {
      named = λ spot block there. there;
      apart = λ spot a b in_a in_b.
          let known = concatenated_element sizes spot a in_a in
          let near = concatenated_within sizes spot a in_a in
          (concatenated_block sizes spot a known near).1 in_a ∙ sym ((concatenated_block sizes spot b known near).1 in_b);
      element_within = concatenated_element sizes;
      block_within = concatenated_within sizes;
      covered = λ spot known near. (_, (concatenated_block sizes spot _ known near).0 refl);
    }

-- the blocks of element 0, which every element holds
own_block : (count : ℕ) (spot : Spot) (block : ℕ) → spot.block < count → (block ≡ spot.block) ↔ (slice_get (blocks 0 count 0) block ≡ Some (record { element = 0; block = spot.block }))
own_block count spot block near = (
  λ is. rw is (slice_get-blocks 0 count 0 spot.block spot.block near (zero-add spot.block)),
  λ there. omega (arith, (blocks_inverse 0 count 0 block (record { element = 0; block = spot.block }) there).block_is),
)

own_within : (count : ℕ) (spot : Spot) (block : ℕ) → slice_get (blocks 0 count 0) block ≡ Some (record { element = 0; block = spot.block }) → spot.block < count
own_within count spot block there =
    let own = blocks_inverse 0 count 0 block (record { element = 0; block = spot.block }) there in
    omega (arith, own.block_is, own.within)

own_apart : (count : ℕ) (spot : Spot) (a b : ℕ) → slice_get (blocks 0 count 0) a ≡ Some (record { element = 0; block = spot.block }) → slice_get (blocks 0 count 0) b ≡ Some (record { element = 0; block = spot.block }) → a ≡ b
own_apart count spot a b in_a in_b =
    let own_a = blocks_inverse 0 count 0 a (record { element = 0; block = spot.block }) in_a in
    let own_b = blocks_inverse 0 count 0 b (record { element = 0; block = spot.block }) in_b in
    omega (arith, own_a.block_is, own_b.block_is)

own_first : (count : ℕ) (spot : Spot) (block : ℕ) → slice_get (blocks 0 count 0) block ≡ Some spot → (spot.element ≡ 0) × (slice_get (blocks 0 count 0) block ≡ Some (record { element = 0; block = spot.block }))
own_first count spot block there =
    let own = blocks_inverse 0 count 0 block spot there in
    let first : spot ≡ record { element = 0; block = spot.block } = ap (λ e. record { element = e; block = spot.block }) own.element_is in
    (own.element_is, there ∙ ap Some first)

own_spot : (count : ℕ) (spot : Spot) (block : ℕ) → spot.element ≡ 0 → slice_get (blocks 0 count 0) block ≡ Some (record { element = 0; block = spot.block }) → slice_get (blocks 0 count 0) block ≡ Some spot
own_spot count spot block first there =
    let same : record { element = 0; block = spot.block } ≡ spot = ap (λ e. record { element = e; block = spot.block }) (sym first) in
    there ∙ ap Some same

mirrored_facts : (sizes : List ElementSize) → IsArray Mirrored sizes → SpotFacts Mirrored sizes (spots_by Mirrored sizes) (carried_by Mirrored sizes)
mirrored_facts sizes array =
    let least = least_of (λ (size : ElementSize). size.capacity) sizes in
    record {
      named = λ spot block there.
          let own = own_first least spot block there in
          (omega (arith, own.0, array.some), own.1);
      apart = λ spot a b in_a in_b. own_apart least spot a b in_a.1 in_b.1;
      element_within = λ spot block holds. holds.0;
      block_within = λ spot block holds. own_within least spot block holds.1;
      covered = λ spot known near. (spot.block, (known, (own_block least spot spot.block near).0 refl));
    }

-- a single element, at any level
pub HoldsBy-single : (level : SecondaryLevel) (size : ElementSize) (spot : Spot) (block : ℕ) → HoldsBy level (size ∷ []) (blocks 0 size.capacity 0) spot block ↔ ((spot.element ≡ 0) × (slice_get (blocks 0 size.capacity 0) block ≡ Some (record { element = 0; block = spot.block })))
HoldsBy-single Striped size spot block = (own_first size.capacity spot block, λ own. own_spot size.capacity spot block own.0 own.1)
HoldsBy-single Mirrored size spot block = (λ holds. (omega (arith, holds.0), holds.1), λ own. (omega (arith, own.0), own.1))
HoldsBy-single Concatenated size spot block = (own_first size.capacity spot block, λ own. own_spot size.capacity spot block own.0 own.1)
HoldsBy-single Spanned size spot block = (own_first size.capacity spot block, λ own. own_spot size.capacity spot block own.0 own.1)

single_facts : (level : SecondaryLevel) (size : ElementSize) → SpotFacts level (size ∷ []) (blocks 0 size.capacity 0) (λ element. size.capacity)
single_facts level size =
    record {
      named = λ spot block there. (HoldsBy-single level size spot block).1 (own_first size.capacity spot block there);
      apart = λ spot a b in_a in_b.
          own_apart size.capacity spot a b ((HoldsBy-single level size spot a).0 in_a).1 ((HoldsBy-single level size spot b).0 in_b).1;
      element_within = λ spot block holds. omega (arith, ((HoldsBy-single level size spot block).0 holds).0);
      block_within = λ spot block holds. own_within size.capacity spot block ((HoldsBy-single level size spot block).0 holds).1;
      covered = λ spot known near.
          (spot.block, (HoldsBy-single level size spot spot.block).1 (omega arith, (own_block size.capacity spot spot.block near).0 refl));
    }

facts_by : (level : SecondaryLevel) (sizes : List ElementSize) → IsArray level sizes → SpotFacts level sizes (spots_by level sizes) (carried_by level sizes)
facts_by Striped sizes array = striped_facts sizes array
facts_by Mirrored sizes array = mirrored_facts sizes array
facts_by Concatenated sizes array = concatenated_facts sizes array
facts_by Spanned sizes array = spanned_facts sizes array

facts_of : (level : SecondaryLevel) (sizes : List ElementSize) → IsArray level sizes → SpotFacts level sizes (spots_of level sizes) (carried_of level sizes)
facts_of level [] array = absurd (omega (arith, array.some))
facts_of level (size ∷ []) array = single_facts level size
facts_of level (size ∷ (other ∷ others)) array = facts_by level (size ∷ (other ∷ others)) array

pub spot_facts : (tiers : Arrangement) → IsArray tiers.level tiers.sizes → SpotFacts tiers.level tiers.sizes (spots tiers) (carried tiers)
unfolding spots
spot_facts tiers array = facts_of tiers.level tiers.sizes array

-- the list and the blocks that an element carries, for one element and for several
pub spots_of-single : (level : SecondaryLevel) (sizes : List ElementSize) (none : ElementSize) → length sizes ≡ 1 → spots_of level sizes ≡ blocks 0 (get_or sizes 0 none).capacity 0
spots_of-single level [] none one = absurd (omega arith)
spots_of-single level (size ∷ []) none one = refl
spots_of-single level (size ∷ (other ∷ others)) none one = absurd (omega arith)

pub spots_of-several : (level : SecondaryLevel) (sizes : List ElementSize) → 1 ≤ length sizes → (length sizes ≡ 1 → ⊥) → spots_of level sizes ≡ spots_by level sizes
spots_of-several level [] some several = absurd (omega arith)
spots_of-several level (size ∷ []) some several = absurd (several refl)
spots_of-several level (size ∷ (other ∷ others)) some several = refl

pub carried_of-single : (level : SecondaryLevel) (sizes : List ElementSize) (none : ElementSize) (element : ℕ) → length sizes ≡ 1 → carried_of level sizes element ≡ (get_or sizes 0 none).capacity
carried_of-single level [] none element one = absurd (omega arith)
carried_of-single level (size ∷ []) none element one = refl
carried_of-single level (size ∷ (other ∷ others)) none element one = absurd (omega arith)

pub carried_of-several : (level : SecondaryLevel) (sizes : List ElementSize) (element : ℕ) → 1 ≤ length sizes → (length sizes ≡ 1 → ⊥) → carried_of level sizes element ≡ carried_by level sizes element
carried_of-several level [] element some several = absurd (omega arith)
carried_of-several level (size ∷ []) element some several = absurd (several refl)
carried_of-several level (size ∷ (other ∷ others)) element some several = refl

-- the block of a spot that holds its own number: of a single element, and of mirrored ones
pub own_number : (tiers : Arrangement) (spot : Spot) (block : ℕ) → IsArray tiers.level tiers.sizes → (length tiers.sizes ≡ 1) ⊎ (tiers.level ≡ Mirrored) → spot.element < length tiers.sizes → spot.block < carried tiers spot.element → (block ≡ spot.block) ↔ HoldsBy tiers.level tiers.sizes (spots tiers) spot block
unfolding spots
own_number tiers spot block array own known near = own_of tiers.level tiers.sizes own known near where
  own_of : (level : SecondaryLevel) (sizes : List ElementSize) → (length sizes ≡ 1) ⊎ (level ≡ Mirrored) → spot.element < length sizes → spot.block < carried_of level sizes spot.element → (block ≡ spot.block) ↔ HoldsBy level sizes (spots_of level sizes) spot block
  own_of level [] own known near = absurd (omega arith)
  own_of level (size ∷ []) own known near =
      let number = own_block size.capacity spot block near in
      let single = HoldsBy-single level size spot block in
      (λ is. single.1 (omega arith, number.0 is), λ holds. number.1 (single.0 holds).1)
  own_of Mirrored (size ∷ (other ∷ others)) own known near =
      let number = own_block (least_of (λ (s : ElementSize). s.capacity) (size ∷ (other ∷ others))) spot block near in
      (λ is. (known, number.0 is), λ holds. number.1 holds.1)
  own_of Striped (size ∷ (other ∷ others)) own known near = absurd (⊎_elim (λ one. omega (arith, one)) (λ e. cc) own)
  own_of Concatenated (size ∷ (other ∷ others)) own known near = absurd (⊎_elim (λ one. omega (arith, one)) (λ e. cc) own)
  own_of Spanned (size ∷ (other ∷ others)) own known near = absurd (⊎_elim (λ one. omega (arith, one)) (λ e. cc) own)

-- what an element carries is within its capacity, where its whole rows are
rows_le : (sizes : List ElementSize) (element rows : ℕ) → share_a_unit sizes ≡ true → element < length sizes → rows ≤ (size_of sizes element).rows → (size_of sizes element).unit * (size_of sizes element).rows ≤ (size_of sizes element).capacity → rows * unit_of sizes ≤ (size_of sizes element).capacity
rows_le sizes element rows share known le fits =
    let size = size_of sizes element in
    let unit = units_are_as_the_first sizes share element size (slice_get-get_or sizes element (record { capacity = 0; unit = 0; rows = 0 }) known) in
    omega (arith, mul-le rows (unit_of sizes) size.rows (unit_of sizes) le (omega arith), rw unit at fits)

carried_by_le : (level : SecondaryLevel) (sizes : List ElementSize) (element : ℕ) → IsArray level sizes → element < length sizes → (size_of sizes element).unit * (size_of sizes element).rows ≤ (size_of sizes element).capacity → carried_by level sizes element ≤ (size_of sizes element).capacity
carried_by_le Striped sizes element array known fits =
    let at_element = slice_get-get_or sizes element (record { capacity = 0; unit = 0; rows = 0 }) known in
    rows_le sizes element (least_of (λ (size : ElementSize). size.rows) sizes) (striped_share sizes array) known (least_le (λ (size : ElementSize). size.rows) sizes element _ at_element) fits
carried_by_le Mirrored sizes element array known fits =
    least_le (λ (size : ElementSize). size.capacity) sizes element _ (slice_get-get_or sizes element (record { capacity = 0; unit = 0; rows = 0 }) known)
carried_by_le Concatenated sizes element array known fits = omega arith
carried_by_le Spanned sizes element array known fits =
    rows_le sizes element (size_of sizes element).rows (spanned_share sizes array) known (omega arith) fits

carried_of_le : (level : SecondaryLevel) (sizes : List ElementSize) (element : ℕ) → IsArray level sizes → element < length sizes → (size_of sizes element).unit * (size_of sizes element).rows ≤ (size_of sizes element).capacity → carried_of level sizes element ≤ (size_of sizes element).capacity
carried_of_le level [] element array known fits = absurd (omega arith)
carried_of_le level (size ∷ []) zero array known fits = omega arith
carried_of_le level (size ∷ []) (suc element) array known fits = absurd (omega arith)
carried_of_le level (size ∷ (other ∷ others)) element array known fits = carried_by_le level (size ∷ (other ∷ others)) element array known fits

pub carried_le : (tiers : Arrangement) (element : ℕ) → IsArray tiers.level tiers.sizes → element < length tiers.sizes → (size_of tiers.sizes element).unit * (size_of tiers.sizes element).rows ≤ (size_of tiers.sizes element).capacity → carried tiers element ≤ (size_of tiers.sizes element).capacity
carried_le tiers element array known fits = carried_of_le tiers.level tiers.sizes element array known fits
