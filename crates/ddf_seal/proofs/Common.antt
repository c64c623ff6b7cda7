-- What several crates above ask of the definitions of this one.
use Rattle.std.proofs.Common.{Err, List, None, Ok, Result, [], ap, arith, refl, replicate, suc, sym, zero, ℕ, ◌++◌, ◌∙◌, ◌∷◌}
use Rattle.std.specs.Int.Bits.{xor_zero_r}
use Rattle.std.specs.Prelude.{bit_xor, ◌≡◌}
use Rattle.std.specs.Result.{result_err}
use Rattle.ddf_lemmas.proofs.Tests.{turned}
use Rattle.ddf_seal.proofs.CrcTables.{bit_steps-xor}
use Rattle.ddf_seal.specs.Crc.{bit_steps, byte_step}
use Rattle.ddf_seal.specs.Unread.{AreBytes}
use Rattle.ddf_seal.specs.declared.sealing.SealFault.{SealFault}

pub none_err : (r : Result Unit SealFault) → result_err r ≡ None → r ≡ Ok tt
none_err (Ok x) h = refl
none_err (Err e) h = absurd cc

pub bytes_replicate : (count : ℕ) → AreBytes (replicate count 255)
bytes_replicate zero i = omega arith
bytes_replicate (suc count) zero = omega arith
bytes_replicate (suc count) (suc i) = bytes_replicate count i

pub byte_step_linear : (a b byte : ℕ) → byte_step (bit_xor a b) byte ≡ bit_xor (byte_step a byte) (byte_step b 0)
byte_step_linear a b byte =
    ap (bit_steps 8) (turned a b byte)
    ∙ bit_steps-xor 8 (bit_xor a byte) b
    ∙ ap (λ (m : ℕ). bit_xor (bit_steps 8 (bit_xor a byte)) (bit_steps 8 m)) (sym (xor_zero_r b))

pub append_bytes : (xs ys : List ℕ) → AreBytes xs → AreBytes ys → AreBytes (xs ++ ys)
append_bytes [] ys first second i = second i
append_bytes (x ∷ xs) ys first second zero = first 0
append_bytes (x ∷ xs) ys first second (suc i) = append_bytes xs ys (λ j. first (suc j)) second i
