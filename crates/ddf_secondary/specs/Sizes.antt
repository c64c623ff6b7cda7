-- What the sizes of an array's elements come to together.
use Rattle.std.specs.Prelude.{ℕ, ◌*◌, ◌^◌, ◌≤◌, ◌==◌, nat_lt, Bool, ◌&&◌, List, [], ◌∷◌, min, max, All}
use Rattle.std.specs.List.{list_all}
use Rattle.ddf_secondary.specs.declared.element.ElementSize.{ElementSize}

-- the least and the greatest of the elements, by one of their sizes
abbrev pub least_of : (ElementSize → ℕ) → List ElementSize → ℕ
least_of size [] = 0
least_of size (element ∷ []) = size element
least_of size (element ∷ (other ∷ others)) = min (size element) (least_of size (other ∷ others))

abbrev pub greatest_of : (ElementSize → ℕ) → List ElementSize → ℕ
greatest_of size [] = 0
greatest_of size (element ∷ others) = max (size element) (greatest_of size others)

-- the unit of the first element
abbrev pub unit_of : List ElementSize → ℕ
unit_of [] = 0
unit_of (element ∷ others) = element.unit

-- no unit is 0, and no two elements have different units
abbrev pub share_a_unit : List ElementSize → Bool
share_a_unit sizes = list_all (λ a. nat_lt 0 a.unit && list_all (λ b. a.unit == b.unit) sizes) sizes

-- sizes that sums and products of 16 elements take (profile)
abbrev pub AreSmall : List ElementSize → Type 0
AreSmall sizes = All (λ size. (size.capacity ≤ 2 ^ 56) × (size.unit * size.rows ≤ 2 ^ 56)) sizes
