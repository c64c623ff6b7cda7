-- The steps of the CRC that a loop has still to make, and that the register keeps 32 bits.
use Rattle.std.proofs.Common.{◌≡◌, ℕ, ◌+◌, ◌-◌, ◌/◌, ◌%◌, ◌<◌, ◌≤◌, ◌^◌, zero, suc, List, [], ◌∷◌, bit_xor, eqb, fold, refl, arith}
use Rattle.std.proofs.lemmas.Bool.{cond_both}
use Rattle.std.proofs.lemmas.Nat.{xor_of_32}
use Rattle.ddf_seal.specs.Crc.{bit_step, bit_steps, byte_step, crc_of, all_ones}
use Rattle.ddf_seal.specs.Unread.{AreBytes}

pub bit_steps_more : (count i register : ℕ) → i < count → bit_steps (count - i) register ≡ bit_steps (count - (i + 1)) (bit_step register)
unfolding bit_steps
bit_steps_more count i register lt =
    let k : count - i ≡ suc (count - (i + 1)) = omega arith in
    rw k refl

pub bit_steps_all : (count i register : ℕ) → count ≤ i → bit_steps (count - i) register ≡ register
unfolding bit_steps
bit_steps_all count i register le =
    let k : count - i ≡ 0 = omega arith in
    rw k refl

bit_step_fits : (register : ℕ) → register < 2 ^ 32 → bit_step register < 2 ^ 32
bit_step_fits register lt =
    let half : register / 2 < 2 ^ 32 = omega arith in
    cond_both (eqb (register % 2) 1) (bit_xor (register / 2) 0xEDB8_8320) (register / 2) (λ n. n < 2 ^ 32) (λ _. xor_of_32 (register / 2) 0xEDB8_8320 half (omega arith)) (λ _. half)

bit_steps_fit : (count register : ℕ) → register < 2 ^ 32 → bit_steps count register < 2 ^ 32
unfolding bit_steps
bit_steps_fit zero register lt = lt
bit_steps_fit (suc count) register lt = bit_steps_fit count (bit_step register) (bit_step_fits register lt)

bytes_fit : (register : ℕ) (bytes : List ℕ) → register < 2 ^ 32 → AreBytes bytes → fold byte_step register bytes < 2 ^ 32
bytes_fit register [] lt fits = lt
bytes_fit register (byte ∷ bytes) lt fits =
    let small : byte < 2 ^ 32 = omega (arith, fits 0) in
    bytes_fit (byte_step register byte) bytes (bit_steps_fit 8 (bit_xor register byte) (xor_of_32 register byte lt small)) (λ i. fits (suc i))

pub crc_fits : (bytes : List ℕ) → AreBytes bytes → crc_of bytes < 2 ^ 32
crc_fits bytes fits = xor_of_32 (fold byte_step all_ones bytes) all_ones (bytes_fit all_ones bytes (omega arith) fits) (omega arith)
