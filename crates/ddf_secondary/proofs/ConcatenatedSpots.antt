-- The spots of concatenated tiers.
use Rattle.std.proofs.Common.{◌≡◌, ℕ, ◌+◌, ◌*◌, ◌^◌, ◌<◌, ◌≤◌, ◌↔◌, List, length, take, Some, slice_get, refl, ap, ◌∙◌, zero-add, arith}
use Rattle.std.specs.List.{sum_by}
use Rattle.std.proofs.lemmas.List.Sums.{sum_by-le, sum_by-take-le}
use Rattle.std.proofs.lemmas.Nat.{mul-le}
use Rattle.std.proofs.lemmas.Option.{slice_get-get_or}
use Rattle.ddf_secondary.specs.declared.element.ElementSize.{ElementSize}
use Rattle.ddf_secondary.specs.declared.level.SecondaryLevel.TheVariants.{Concatenated}
use Rattle.ddf_secondary.specs.declared.spot.Spot.{Spot}
use Rattle.ddf_secondary.specs.Arrangement.{IsArray}
use Rattle.ddf_secondary.specs.Spots.{spots_by, size_of}
use Rattle.ddf_secondary.proofs.Blocks.{one_at, one_inverse}

pub capacities_are_small : (sizes : List ElementSize) → IsArray Concatenated sizes → sum_by (λ (size : ElementSize). size.capacity) sizes ≤ 16 * 2 ^ 56
capacities_are_small sizes array =
    omega (arith, sum_by-le (λ (size : ElementSize). size.capacity) (2 ^ 56) sizes (λ k none inside. (array.small k none inside).0), mul-le (length sizes) (2 ^ 56) 16 (2 ^ 56) array.few (omega arith))

pub front_is_small : (sizes : List ElementSize) (element : ℕ) → IsArray Concatenated sizes → sum_by (λ (size : ElementSize). size.capacity) (take element sizes) ≤ 16 * 2 ^ 56
front_is_small sizes element array =
    omega (arith, capacities_are_small sizes array, sum_by-take-le (λ (size : ElementSize). size.capacity) sizes element)

pub concatenated_block : (sizes : List ElementSize) (spot : Spot) (block : ℕ) → spot.element < length sizes → spot.block < (size_of sizes spot.element).capacity → (block ≡ sum_by (λ (size : ElementSize). size.capacity) (take spot.element sizes) + spot.block) ↔ (slice_get (spots_by Concatenated sizes) block ≡ Some spot)
concatenated_block sizes spot block known near =
    let at_element = slice_get-get_or sizes spot.element (record { capacity = 0; unit = 0; rows = 0 }) known in
    let found = one_at 0 sizes spot.element spot.block (size_of sizes spot.element) at_element near in (
      λ is. rw is (found ∙ rw zero-add refl),
      λ holds. let inverse = one_inverse 0 sizes block spot holds in
          let same : inverse.element ≡ spot.element = omega (arith, inverse.element_is) in
          inverse.place_is ∙ ap (λ e. sum_by (λ (size : ElementSize). size.capacity) (take e sizes) + spot.block) same,
    )
