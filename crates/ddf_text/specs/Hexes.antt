-- Numbers as the program prints them in hexadecimal digits.
use Rattle.std.specs.Prelude.{ℕ, List, [], ◌∷◌}
use Rattle.std.specs.Int.{w16, w32, to_be_bytes}
use Rattle.hex.specs.Hex.{encode_lower}

abbrev pub hex8 : ℕ → List ℕ
hex8 byte = encode_lower (byte ∷ [])

abbrev pub hex16 : ℕ → List ℕ
hex16 number = encode_lower (to_be_bytes w16 number)

abbrev pub hex32 : ℕ → List ℕ
hex32 number = encode_lower (to_be_bytes w32 number)
