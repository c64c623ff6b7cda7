-- The CRC-32 of the format, bit by bit.
use Rattle.std.specs.Prelude.{ℕ, zero, suc, ◌+◌, ◌*◌, ◌/◌, ◌%◌, Bool, true, List, [], ◌∷◌, ◌==◌, ◌&&◌, if◌then◌else◌, bit_xor, fold}

-- The register after a bit: the lowest bit goes out, and where it is set the reflected polynomial is added.
abbrev pub bit_step : ℕ → ℕ
bit_step register = if register % 2 == 1 then bit_xor (register / 2) 0xEDB8_8320 else register / 2

-- after so many bits
unfoldable pub bit_steps : ℕ → ℕ → ℕ
bit_steps zero register = register
bit_steps (suc count) register = bit_steps count (bit_step register)

-- after a byte, whose lowest bit goes first
abbrev pub byte_step : ℕ → ℕ → ℕ
byte_step register byte = bit_steps 8 (bit_xor register byte)

-- The entries of tables from index `i` on: in table `i / 256` an entry is what one zero byte and so many more make of its index
-- within the table.
abbrev pub are_entries : ℕ → List ℕ → Bool
are_entries i [] = true
are_entries i (entry ∷ entries) = (entry == bit_steps (8 * (i / 256 + 1)) (i % 256)) && are_entries (suc i) entries

-- 32 ones
abbrev pub all_ones : ℕ
all_ones = 0xFFFF_FFFF

-- The CRC of bytes: it begins with all ones, and all bits are turned in the end.
abbrev pub crc_of : List ℕ → ℕ
crc_of bytes = bit_xor (fold byte_step all_ones bytes) all_ones
