-- Bytes that aren't UTF-8, read as ASCII.
use Rattle.std.proofs.Common.{ℕ, ◌<◌, List, [], ◌∷◌, map, refl, arith}
use Rattle.std.specs.Str.{IsAscii, IsUtf8}
use Rattle.std.proofs.lemmas.Str.{IsUtf8-from_ascii}
use Rattle.std.proofs.lemmas.Str.Ascii.{IsAscii-cons, IsAscii-nil}
use Rattle.ddf_words.specs.Text.{IsReadAs, ascii_of}

small : (byte : ℕ) → ascii_of byte < 128
small byte = grind arith

all_small : (bytes : List ℕ) → IsAscii (map ascii_of bytes)
all_small [] = IsAscii-nil
all_small (byte ∷ bytes) = IsAscii-cons (ascii_of byte) (map ascii_of bytes) (small byte) (all_small bytes)

pub read_ascii : (bytes : List ℕ) → (IsUtf8 bytes → ⊥) → IsReadAs bytes (map ascii_of bytes)
read_ascii bytes none = record { is_text = IsUtf8-from_ascii (map ascii_of bytes) (all_small bytes); same = λ is. absurd (none is); ascii = λ other. refl }

pub read_same : (bytes : List ℕ) → IsUtf8 bytes → IsReadAs bytes bytes
read_same bytes is = record { is_text = is; same = λ also. refl; ascii = λ none. absurd (none is) }
