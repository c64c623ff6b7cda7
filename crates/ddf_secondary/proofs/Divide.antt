-- A number by its row, its place in the row and its offset in the place.
use Rattle.std.proofs.Common.{ℕ, ◌*◌, ◌/◌, ◌%◌, ◌<◌, arith}
use Rattle.std.proofs.lemmas.Nat.{mod_below, div_below}
use Rattle.ddf_lemmas.proofs.Tests.{factor_pos}

pub offset_within : (block unit elements rows : ℕ) → block < rows * elements * unit → block % unit < unit
offset_within block unit elements rows below = mod_below block unit (factor_pos (rows * elements) unit block below)

pub number_within : (block unit elements rows : ℕ) → block < rows * elements * unit → block / unit % elements < elements
number_within block unit elements rows below =
    mod_below (block / unit) elements (factor_pos (rows * unit) elements block (omega arith))

pub row_within : (block unit elements rows : ℕ) → block < rows * elements * unit → block / unit / elements < rows
row_within block unit elements rows below =
    div_below (block / unit) elements rows (factor_pos (rows * unit) elements block (omega arith))
    (div_below block unit (rows * elements) (factor_pos (rows * elements) unit block below) below)
