-- Bounds of the places that dividing gives.
use Rattle.std.proofs.Common.{◌≡◌, ◌∙◌, ℕ, ◌+◌, ◌-◌, ◌*◌, ◌/◌, ◌%◌, ◌^◌, ◌<◌, ◌≤◌, ap, arith}
use Rattle.std.proofs.lemmas.Nat.{mul-add-lt, div-add-mod', div-mul-add, mul-le, mod_below, div_below}
use Rattle.std.proofs.Math.Nat.{div-le_self}
use Rattle.ddf_lemmas.proofs.Tests.{factor_pos}

-- the sector of a block is no greater than the block
pub sector_le : (block strip columns : ℕ) → 1 ≤ columns → block / strip / columns * strip + block % strip ≤ block
sector_le block strip columns some =
    omega (arith, mul-le (block / strip / columns) strip (block / strip) strip (div-le_self (block / strip) columns) (omega arith), div-add-mod' block strip)

-- a strip's block is below the columns times the end of its row
pub block_lt : (number sector strip columns : ℕ) → 1 ≤ strip → number < columns → (sector / strip * columns + number) * strip + sector % strip < columns * (sector + strip)
block_lt number sector strip columns some within =
    let row = sector / strip in
    let a = mul-add-lt row columns number (row + 1) (omega arith) within in
    let b = mul-add-lt (row * columns + number) strip (sector % strip) (columns * (row + 1)) a (omega arith) in
    omega (arith, b, mul-le columns (row * strip) columns sector (omega arith) (omega (arith, div-add-mod' sector strip)))

pub small_block : (columns sector strip : ℕ) → columns < 2 ^ 16 → sector < 2 ^ 48 → strip ≤ 2 ^ 31 → columns * (sector + strip) < 2 ^ 64
small_block columns sector strip few near small =
    omega (arith, mul-le columns (sector + strip) (2 ^ 16 - 1) (2 ^ 48 + 2 ^ 31) (omega arith) (omega arith))

pub offset_within : (block strip columns rows : ℕ) → block < rows * (columns * strip) → block % strip < strip
offset_within block strip columns rows below =
    let some : 0 < strip = factor_pos (rows * columns) strip block (omega arith) in
    mod_below block strip some

pub number_within : (block strip columns rows : ℕ) → block < rows * (columns * strip) → block / strip % columns < columns
number_within block strip columns rows below =
    let some : 0 < columns = factor_pos (rows * strip) columns block (omega arith) in
    mod_below (block / strip) columns some

pub row_within : (block strip columns rows : ℕ) → block < rows * (columns * strip) → block / strip / columns < rows
row_within block strip columns rows below =
    let some_strip : 0 < strip = factor_pos (rows * columns) strip block (omega arith) in
    let some_columns : 0 < columns = factor_pos (rows * strip) columns block (omega arith) in
    div_below (block / strip) columns rows some_columns (div_below block strip (rows * columns) some_strip (omega arith))

-- the number as a row and a place in it
pub spread : (n k width : ℕ) → n + k ≡ n / width * width + (n % width + k)
spread n k width = omega (arith, div-add-mod' n width)

-- a number that stays in its row when something is added
pub same_row : (n k width : ℕ) → n % width + k < width → (n + k) / width ≡ n / width
same_row n k width stays = ap (λ m. m / width) (spread n k width) ∙ div-mul-add (n / width) width (n % width + k) stays

pub later_place : (n k width : ℕ) → n % width + k < width → (n + k) % width ≡ n % width + k
later_place n k width stays =
    let row = same_row n k width stays in
    let whole = div-add-mod' (n + k) width in
    let back : (n + k) / width * width ≡ n / width * width = ap (λ m. m * width) row in
    omega (arith, whole, back, spread n k width)
