-- What zeros make of the register of a CRC, by what they make of each of its bits.
use Rattle.std.specs.Prelude.{◌≡◌, ℕ, ◌<◌, ◌^◌, List, slice_index_or}
use Rattle.ddf_seal.specs.Crc.{bit_steps}

-- for each bit of a register by itself, the register after so many bits of zero
abbrev pub AreImages : ℕ → List ℕ → Type 0
AreImages count images = (bit : ℕ) → bit < 32 → slice_index_or images bit 0 ≡ bit_steps count (2 ^ bit)
