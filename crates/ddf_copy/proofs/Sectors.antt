-- Sectors and their bytes.
use Rattle.std.proofs.Common.{◌≡◌, ℕ, zero, suc, ◌*◌, ◌<◌, List, [], ◌∷◌, ◌++◌, length, take, drop, Ok, Some, eqb, false, refl, ap, ◌∙◌, arith}
use Rattle.std.proofs.lemmas.List.{take-append-drop, length-drop}
use Rattle.std.proofs.lemmas.Bool.{ne_eqb}
use Rattle.std.specs.Simd.{first_chunks}
use Rattle.ddf_tables.specs.BadBlocks.{LogValue, decoded_log}
use Rattle.ddf_copy.specs.Sections.{bytes_in, log_in}

-- the bytes of chunks are the bytes that they were taken from
pub chunks_are : (count : ℕ) (bytes : List ℕ) → length bytes ≡ 512 * count → bytes_in (first_chunks 512 count bytes) ≡ bytes
chunks_are zero [] long = refl
chunks_are zero (byte ∷ bytes) long = cc
chunks_are (suc count) bytes long =
    let rest : length (drop 512 bytes) ≡ 512 * count = length-drop 512 bytes ∙ omega (arith, long) in
    ap (λ (l : List ℕ). take 512 bytes ++ l) (chunks_are count (drop 512 bytes) rest) ∙ take-append-drop 512 bytes

-- a log that stands in sectors
pub log_is : (sectors : List (List ℕ)) (log : LogValue) → 0 < length sectors → decoded_log (bytes_in sectors) ≡ Ok log → log_in sectors ≡ Ok (Some log)
log_is [] log some is = absurd (omega (arith, some))
log_is (sector ∷ sectors) log some is =
    let present : eqb (length (sector ∷ sectors)) 0 ≡ false = ne_eqb (length (sector ∷ sectors)) 0 (λ (e : length (sector ∷ sectors) ≡ 0). absurd (omega (arith, e))) in
    rw (present, is) refl
