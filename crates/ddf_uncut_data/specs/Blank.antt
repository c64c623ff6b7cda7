-- An array that was never written.
use Rattle.std.specs.Prelude.{◌≡◌, ℕ}
use Rattle.ddf_bay.specs.Sectors.{Image}
use Rattle.ddf_parity.specs.Xor.{zeros}
use Rattle.ddf_array.specs.Volume.{Volume}
use Rattle.ddf_cells.specs.Alike.{IsCell}

-- the sectors of its available positions are zeros
abbrev pub IsBlank : Volume → Image → Type 0
IsBlank volume image = (slot lba : ℕ) → IsCell volume slot lba → image slot lba ≡ zeros
