-- Bytes as text.
use Rattle.std.specs.Prelude.{◌≡◌, ℕ, List, map, nat_lt, if◌then◌else◌}
use Rattle.std.specs.Str.{IsUtf8}

-- a byte below 80, and 00 for others
abbrev pub ascii_of : ℕ → ℕ
ascii_of byte = if nat_lt byte 0x80 then byte else 0x00

-- UTF-8 is text. Where bytes aren't, each from 80 on is read as 00, which stands in no word of the program.
pub record IsReadAs (bytes text : List ℕ) : Type 0 where
  pub is_text : IsUtf8 text
  pub same : IsUtf8 bytes → text ≡ bytes
  pub ascii : (IsUtf8 bytes → ⊥) → text ≡ map ascii_of bytes
