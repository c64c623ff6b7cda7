-- Facts of every array's sizes.
use Rattle.std.proofs.Common.{◌≡◌, ℕ, ◌*◌, ◌^◌, ◌≤◌, true, List, length, Some, slice_get}
use Rattle.std.proofs.lemmas.Option.{slice_get_within, get_or_from_slice_get}
use Rattle.ddf_secondary.specs.declared.element.ElementSize.{ElementSize}
use Rattle.ddf_secondary.specs.declared.level.SecondaryLevel.TheVariants.{Striped, Spanned}
use Rattle.ddf_secondary.specs.Sizes.{AreSmall, share_a_unit, unit_of, least_of}
use Rattle.ddf_secondary.specs.Arrangement.{IsArray}
use Rattle.ddf_secondary.proofs.SizeFacts.{units_are_as_the_first, least_reached}

pub small_at : (sizes : List ElementSize) (k : ℕ) (size : ElementSize) → AreSmall sizes → slice_get sizes k ≡ Some size → (size.capacity ≤ 2 ^ 56) × (size.unit * size.rows ≤ 2 ^ 56)
small_at sizes k size small at_k =
    rw (get_or_from_slice_get sizes k size size at_k) at (small k size (slice_get_within sizes k size at_k))

pub striped_share : (sizes : List ElementSize) → IsArray Striped sizes → share_a_unit sizes ≡ true
striped_share sizes array = array.units

pub spanned_share : (sizes : List ElementSize) → IsArray Spanned sizes → share_a_unit sizes ≡ true
spanned_share sizes array = array.units

-- the rows of one element, in the array's unit
pub rows_small : (sizes : List ElementSize) (k : ℕ) (size : ElementSize) → share_a_unit sizes ≡ true → AreSmall sizes → slice_get sizes k ≡ Some size → unit_of sizes * size.rows ≤ 2 ^ 56
rows_small sizes k size share small at_k =
    rw (units_are_as_the_first sizes share k size at_k) at (small_at sizes k size small at_k).1

pub least_small : (sizes : List ElementSize) → 1 ≤ length sizes → share_a_unit sizes ≡ true → AreSmall sizes → unit_of sizes * least_of (λ (size : ElementSize). size.rows) sizes ≤ 2 ^ 56
least_small sizes some share small =
    let least = least_reached (λ (size : ElementSize). size.rows) sizes some in
    rw least.is at (rows_small sizes least.place least.size share small least.at_place)
