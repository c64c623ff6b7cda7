-- Chunks of bytes are whole sectors.
use Rattle.std.proofs.Common.{◌≡◌, ◌∙◌, ℕ, zero, suc, ◌*◌, List, [], ◌∷◌, ◌++◌, Some, slice_get, length, take, drop, refl, ap, sym, arith}
use Rattle.std.specs.Simd.{first_chunks}
use Rattle.std.proofs.lemmas.List.{length-drop, length-take-le, take-append-drop}
use Rattle.ddf_pieces.specs.Pieces.{bytes_of}

-- their bytes are the bytes that they were taken from
pub chunks_are : (count : ℕ) (bytes : List ℕ) → length bytes ≡ 512 * count → bytes_of (first_chunks 512 count bytes) ≡ bytes
chunks_are zero [] long = refl
chunks_are zero (byte ∷ bytes) long = cc
chunks_are (suc count) bytes long =
    let rest : length (drop 512 bytes) ≡ 512 * count = length-drop 512 bytes ∙ omega (arith, long) in
    ap (λ (l : List ℕ). take 512 bytes ++ l) (chunks_are count (drop 512 bytes) rest) ∙ take-append-drop 512 bytes

pub chunk_long : (count : ℕ) (bytes : List ℕ) → length bytes ≡ 512 * count → (k : ℕ) (sector : List ℕ) → slice_get (first_chunks 512 count bytes) k ≡ Some sector → length sector ≡ 512
chunk_long zero bytes long k sector at = absurd cc
chunk_long (suc count) bytes long zero sector at =
    let same : take 512 bytes ≡ sector = cc in
    ap length (sym same) ∙ length-take-le 512 bytes (omega (arith, long))
chunk_long (suc count) bytes long (suc k) sector at =
    let rest : length (drop 512 bytes) ≡ 512 * count = length-drop 512 bytes ∙ omega (arith, long) in
    chunk_long count (drop 512 bytes) rest k sector at
