-- What several crates above ask of the definitions of this one.
use Rattle.std.proofs.Common.{List, ap, length, refl, ℕ, ◌∙◌, ◌≡◌}
use Rattle.std.specs.Prelude.{[], bit_xor, fold, replicate, ◌∷◌}
use Rattle.ddf_seal.proofs.Common.{byte_step_linear}
use Rattle.ddf_seal.specs.Crc.{byte_step}
use Rattle.ddf_header.specs.Geometry.{geometry_at}

pub bytes_linear : (bytes : List ℕ) (a b : ℕ) → fold byte_step (bit_xor a b) bytes ≡ bit_xor (fold byte_step a bytes) (fold byte_step b (replicate (length bytes) 0))
bytes_linear [] a b = refl
bytes_linear (byte ∷ bytes) a b =
    ap (λ (register : ℕ). fold byte_step register bytes) (byte_step_linear a b byte)
    ∙ bytes_linear bytes (byte_step a byte) (byte_step b 0)

-- A layout has eight sections.
pub eight_read : (bytes : List ℕ) → length (geometry_at bytes).sections ≡ 8
unfolding geometry_at
eight_read bytes = refl
