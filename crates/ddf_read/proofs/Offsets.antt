-- Numbers that stay in one row when something is added.
use Rattle.std.proofs.Common.{◌≡◌, ◌∙◌, ℕ, ◌+◌, ◌-◌, ◌*◌, ◌/◌, ◌%◌, ◌<◌, ◌≤◌, sym, ap, arith}
use Rattle.std.proofs.lemmas.Nat.{div-add-mod', div_below, mod_below, mul-le}
use Rattle.std.proofs.Math.Nat.{mul-add-mod_self_right}
use Rattle.ddf_primary.proofs.Divide.{spread}
pub use Rattle.ddf_primary.proofs.Divide.{same_row, later_place}

-- a number that stays in its row is below the same rows
pub stays_below : (n k width rows : ℕ) → n < rows * width → n % width + k < width → n + k < rows * width
stays_below n k width rows below stays =
    let row : n / width < rows = div_below n width rows (omega arith) below in
    let full : (n / width + 1) * width ≤ rows * width = mul-le (n / width + 1) width rows width (omega arith) (omega arith) in
    omega (arith, full, spread n k width)

-- what is left of a strip is left of a row of strips
pub strip_in_unit : (n strip columns : ℕ) → 0 < strip → 0 < columns → n % (columns * strip) + (strip - n % strip) ≤ columns * strip
strip_in_unit n strip columns some wide =
    let unit = columns * strip in
    let place = n % unit in
    let whole : n / unit * columns * strip + place ≡ n = omega (arith, div-add-mod' n unit) in
    let same : n % strip ≡ place % strip = ap (λ m. m % strip) (sym whole) ∙ mul-add-mod_self_right (n / unit * columns) strip place in
    let positive : 0 < unit = omega (arith, mul-le 1 1 columns strip (omega arith) (omega arith)) in
    let number : place / strip < columns = div_below place strip columns some (mod_below n unit positive) in
    let full : (place / strip + 1) * strip ≤ columns * strip = mul-le (place / strip + 1) strip columns strip (omega arith) (omega arith) in
    omega (arith, same, full, div-add-mod' place strip, mod_below place strip some)
