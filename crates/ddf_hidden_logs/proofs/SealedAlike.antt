-- Whether a record is sealed goes by what follows its first sector alike, whichever of two first sectors it has that are both sealed before one and the same rest.
use Rattle.std.specs.Prelude.{◌≡◌, ℕ, ◌^◌, ◌<◌, ◌≤◌, List, [], ◌∷◌, ◌++◌, length, replicate, fold, bit_xor}
use Rattle.std.specs.Int.Bits.{xor_self, xor_zero_r}
use Rattle.std.specs.Int.{w32, from_be_bytes, to_be_bytes}
use lib.Bits.{xor_assoc}
use Rattle.std.proofs.Common.{refl, ap, sym, ◌∙◌, arith}
use Rattle.std.proofs.lemmas.Nat.{xor_comm, from_be_bytes-to_be_bytes_4}
use Rattle.ddf_lemmas.proofs.Tests.{back_from_sum}
use Rattle.ddf_bytes.specs.Bytes.{bytes_at, with_bytes_at}
use Rattle.ddf_seal.specs.declared.sealing.TheConstants.{SIGNATURE_AT, CRC_AT}
use Rattle.ddf_seal.specs.Crc.{byte_step, crc_of, all_ones}
use Rattle.ddf_seal.specs.Seal.{IsSealed, record_crc}
use Rattle.ddf_header.proofs.Common.{bytes_linear}

-- the sum of two registers behind bytes goes by how many there are
registers_differ : (a b : ℕ) (bytes : List ℕ) → fold byte_step b bytes ≡ bit_xor (fold byte_step a bytes) (fold byte_step (bit_xor a b) (replicate (length bytes) 0))
registers_differ a b bytes =
    let back : b ≡ bit_xor a (bit_xor a b) = sym (sym (xor_assoc a a b) ∙ ap (λ (m : ℕ). bit_xor m b) (xor_self a) ∙ xor_comm 0 b ∙ xor_zero_r b) in
    ap (λ (register : ℕ). fold byte_step register bytes) back ∙ bytes_linear bytes a (bit_xor a b)

-- where one register ends alike behind two runs of bytes of one length, each does
pub end_alike : (a b : ℕ) (bytes others : List ℕ) → length bytes ≡ length others → fold byte_step a bytes ≡ fold byte_step a others → fold byte_step b bytes ≡ fold byte_step b others
end_alike a b bytes others same alike =
    registers_differ a b bytes
    ∙ ap (λ (m : ℕ). bit_xor m (fold byte_step (bit_xor a b) (replicate (length bytes) 0))) alike
    ∙ ap (λ (n : ℕ). bit_xor (fold byte_step a others) (fold byte_step (bit_xor a b) (replicate n 0))) same
    ∙ sym (registers_differ a b others)

-- ---- a first sector and the rest

fold_parts : (z : ℕ) (xs ys : List ℕ) → fold byte_step z (xs ++ ys) ≡ fold byte_step (fold byte_step z xs) ys
fold_parts z [] ys = refl
fold_parts z (x ∷ xs) ys = fold_parts (byte_step z x) xs ys

-- The seal lies in the first sector.
record IsFront (first rest : List ℕ) : Type 0 where
  signature_front : bytes_at (first ++ rest) SIGNATURE_AT 4 ≡ bytes_at first SIGNATURE_AT 4
  crc_front : bytes_at (first ++ rest) CRC_AT 4 ≡ bytes_at first CRC_AT 4
  others_front : with_bytes_at (first ++ rest) CRC_AT (replicate 4 255) ≡ with_bytes_at first CRC_AT (replicate 4 255) ++ rest

front : (first rest : List ℕ) → 8 ≤ length first → IsFront first rest
front [] rest long = absurd (omega (arith, long))
front (a ∷ []) rest long = absurd (omega (arith, long))
front (a ∷ b ∷ []) rest long = absurd (omega (arith, long))
front (a ∷ b ∷ c ∷ []) rest long = absurd (omega (arith, long))
front (a ∷ b ∷ c ∷ d ∷ []) rest long = absurd (omega (arith, long))
front (a ∷ b ∷ c ∷ d ∷ e ∷ []) rest long = absurd (omega (arith, long))
front (a ∷ b ∷ c ∷ d ∷ e ∷ f ∷ []) rest long = absurd (omega (arith, long))
front (a ∷ b ∷ c ∷ d ∷ e ∷ f ∷ g ∷ []) rest long = absurd (omega (arith, long))
front (a ∷ b ∷ c ∷ d ∷ e ∷ f ∷ g ∷ h ∷ first) rest long = record { signature_front = refl; crc_front = refl; others_front = refl }

-- what the first sector makes of the register
abbrev register : List ℕ → ℕ
register first = fold byte_step all_ones (with_bytes_at first CRC_AT (replicate 4 255))

crc_parts : (first rest : List ℕ) → 8 ≤ length first → record_crc (first ++ rest) ≡ bit_xor (fold byte_step (register first) rest) all_ones
crc_parts first rest long =
    ap crc_of (front first rest long).others_front
    ∙ ap (λ (m : ℕ). bit_xor m all_ones) (fold_parts all_ones (with_bytes_at first CRC_AT (replicate 4 255)) rest)

pub sealed_alike : (signature : ℕ) (one other rest more : List ℕ) → 8 ≤ length one → 8 ≤ length other → length rest ≡ length more
    → record_crc (one ++ rest) < 2 ^ 32 → record_crc (one ++ more) < 2 ^ 32
    → IsSealed signature (one ++ rest) → IsSealed signature (other ++ rest) → IsSealed signature (one ++ more) → IsSealed signature (other ++ more)
sealed_alike signature one other rest more long also same fits fit first second third =
    let written : to_be_bytes w32 (record_crc (one ++ rest)) ≡ to_be_bytes w32 (record_crc (one ++ more)) =
    sym first.crc_stands ∙ (front one rest long).crc_front ∙ sym (front one more long).crc_front ∙ third.crc_stands in
    let equal : record_crc (one ++ rest) ≡ record_crc (one ++ more) =
    sym (from_be_bytes-to_be_bytes_4 (record_crc (one ++ rest)) fits) ∙ ap (from_be_bytes w32) written ∙ from_be_bytes-to_be_bytes_4 (record_crc (one ++ more)) fit in
    let sums = sym (crc_parts one rest long) ∙ equal ∙ crc_parts one more long in
    let ends : fold byte_step (register one) rest ≡ fold byte_step (register one) more =
    sym (back_from_sum (fold byte_step (register one) rest) all_ones) ∙ ap (λ (m : ℕ). bit_xor m all_ones) sums ∙ back_from_sum (fold byte_step (register one) more) all_ones in
    let others = end_alike (register one) (register other) rest more same ends in
    let crc : record_crc (other ++ rest) ≡ record_crc (other ++ more) =
    crc_parts other rest also ∙ ap (λ (m : ℕ). bit_xor m all_ones) others ∙ sym (crc_parts other more also) in
    record {
      signature_stands = (front other more also).signature_front ∙ sym (front other rest also).signature_front ∙ second.signature_stands;
      crc_stands = (front other more also).crc_front ∙ sym (front other rest also).crc_front ∙ second.crc_stands ∙ ap (to_be_bytes w32) crc;
    }
