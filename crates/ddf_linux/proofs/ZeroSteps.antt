-- The steps of the CRC over zeros: they are counted together, and are linear.
use Rattle.std.proofs.Common.{◌≡◌, ◌≢◌, ℕ, ◌+◌, ◌*◌, ◌/◌, ◌%◌, ◌^◌, ◌<◌, zero, suc, List, length, get_or, ⊎_elim, fold, replicate, refl, sym, ◌∙◌, ap, arith, bit_xor}
use Rattle.std.proofs.Math.Nat.{add-mul, mul-add, two-pow-succ, pow-suc, div-div-eq-div-mul}
use Rattle.std.specs.Prelude.{slice_set}
use Rattle.std.proofs.lemmas.Bool.{cases_eq}
use Rattle.std.proofs.lemmas.List.{get_or-set_same, get_or-set_other}
use Rattle.std.proofs.lemmas.Nat.{xor_comm, shl_below}
use Rattle.std.specs.Int.Bits.{xor_zero_r, xor_shifted}
use lib.Bits.{xor_assoc}
use Rattle.ddf_seal.specs.Crc.{bit_steps, byte_step}
use Rattle.ddf_seal.proofs.CrcTables.{bit_steps-add, bit_steps-xor}
use Rattle.ddf_linux.specs.Zeros.{AreImages}

pub bit_steps_zero : (n : ℕ) → bit_steps n 0 ≡ 0
unfolding bit_steps
bit_steps_zero zero = refl
bit_steps_zero (suc n) = bit_steps_zero n

-- bytes of zero
pub zeros_are : (count register : ℕ) → fold byte_step register (replicate count 0) ≡ bit_steps (8 * count) register
unfolding bit_steps
zeros_are zero register = refl
zeros_are (suc count) register =
    let k : 8 * suc count ≡ 8 + 8 * count = omega arith in
    zeros_are count (byte_step register 0)
    ∙ ap (λ (start : ℕ). bit_steps (8 * count) (bit_steps 8 start)) (xor_zero_r register)
    ∙ sym (rw k (bit_steps-add 8 (8 * count) register))

-- the bits of a register from one on: the lowest of them, and the others
bits_from : (rest bit : ℕ) → bit_xor (rest / 2 * 2 ^ (bit + 1)) (rest % 2 * 2 ^ bit) ≡ rest * 2 ^ bit
bits_from rest bit =
    let q = rest / 2 in
    let r = rest % 2 in
    let p = 2 ^ bit in
    let next : bit + 1 ≡ suc bit = omega arith in
    let other : 1 + bit ≡ bit + 1 = omega arith in
    let small : r < 2 ^ 1 = omega arith in
    let under : r * p < 2 ^ (bit + 1) = rw other at (shl_below r 1 bit small) in
    let doubled : 2 ^ (bit + 1) ≡ p + p = rw next (two-pow-succ bit) in
    let parts : q + q + r ≡ rest = omega arith in
    xor_shifted q (bit + 1) (r * p) under
    ∙ ap (λ (m : ℕ). q * m + r * p) doubled
    ∙ ap (λ (m : ℕ). m + r * p) (mul-add q p p ∙ sym (add-mul q q p))
    ∙ sym (add-mul (q + q) r p)
    ∙ ap (λ (m : ℕ). m * p) parts

steps_from : (count rest bit : ℕ) → bit_xor (bit_steps count (rest / 2 * 2 ^ (bit + 1))) (bit_steps count (rest % 2 * 2 ^ bit)) ≡ bit_steps count (rest * 2 ^ bit)
steps_from count rest bit = sym (bit_steps-xor count (rest / 2 * 2 ^ (bit + 1)) (rest % 2 * 2 ^ bit)) ∙ ap (bit_steps count) (bits_from rest bit)

-- The images so far, with one more: the others are those of the bits that are left.
pub sum_more : (count : ℕ) (images : List ℕ) (sum rest bit : ℕ) → AreImages count images → bit < 32 → rest % 2 ≡ 1
    → bit_xor (bit_xor sum (get_or images bit 0)) (bit_steps count (rest / 2 * 2 ^ (bit + 1))) ≡ bit_xor sum (bit_steps count (rest * 2 ^ bit))
sum_more count images sum rest bit are lt odd =
    let image = get_or images bit 0 in
    let others = bit_steps count (rest / 2 * 2 ^ (bit + 1)) in
    let one : 2 ^ bit ≡ rest % 2 * 2 ^ bit = rw odd (omega arith) in
    xor_assoc sum image others
    ∙ ap (bit_xor sum) (xor_comm image others ∙ ap (bit_xor others) (are bit lt ∙ ap (bit_steps count) one) ∙ steps_from count rest bit)

pub sum_same : (count : ℕ) (sum rest bit : ℕ) → rest % 2 ≢ 1
    → bit_xor sum (bit_steps count (rest / 2 * 2 ^ (bit + 1))) ≡ bit_xor sum (bit_steps count (rest * 2 ^ bit))
sum_same count sum rest bit odd =
    let others = bit_steps count (rest / 2 * 2 ^ (bit + 1)) in
    let even : rest % 2 ≡ 0 = omega (arith, odd) in
    let none : rest % 2 * 2 ^ bit ≡ 0 = rw even (omega arith) in
    ap (bit_xor sum) (sym (xor_zero_r others) ∙ ap (bit_xor others) (sym (ap (bit_steps count) none ∙ bit_steps_zero count)) ∙ steps_from count rest bit)

-- no bit is left
pub none_left : (count sum register : ℕ) → register < 2 ^ 32 → bit_xor sum (bit_steps count (register / 2 ^ 32 * 2 ^ 32)) ≡ sum
none_left count sum register small =
    let none : register / 2 ^ 32 * 2 ^ 32 ≡ 0 = omega arith in
    ap (bit_xor sum) (ap (bit_steps count) none ∙ bit_steps_zero count) ∙ xor_zero_r sum

-- twice as many zeros
pub images_twice : (count : ℕ) (images : List ℕ) (bit : ℕ) → AreImages count images → bit < 32 → bit_steps count (get_or images bit 0) ≡ bit_steps (count + count) (2 ^ bit)
images_twice count images bit are lt = ap (bit_steps count) (are bit lt) ∙ sym (bit_steps-add count count (2 ^ bit))

-- So many steps, as many times as a number says: half as many times twice as many, and once more where it is odd.
pub times_half : (steps rest register : ℕ) → rest % 2 ≢ 1 → bit_steps ((steps + steps) * (rest / 2)) register ≡ bit_steps (steps * rest) register
times_half steps rest register odd =
    let q = rest / 2 in
    let parts : q + q ≡ rest = omega (arith, odd) in
    ap (λ (n : ℕ). bit_steps n register) (add-mul steps steps q ∙ sym (mul-add steps q q) ∙ ap (λ (n : ℕ). steps * n) parts)

pub times_odd : (steps rest register : ℕ) → rest % 2 ≡ 1 → bit_steps ((steps + steps) * (rest / 2)) (bit_steps steps register) ≡ bit_steps (steps * rest) register
times_odd steps rest register odd =
    let q = rest / 2 in
    let parts : 1 + (q + q) ≡ rest = omega arith in
    let once : steps * 1 ≡ steps = omega arith in
    sym (bit_steps-add steps ((steps + steps) * q) register)
    ∙ ap (λ (n : ℕ). bit_steps n register)
    (ap (λ (n : ℕ). n + (steps + steps) * q) (sym once)
    ∙ ap (λ (n : ℕ). steps * 1 + n) (add-mul steps steps q ∙ sym (mul-add steps q q))
    ∙ sym (mul-add steps 1 (q + q))
    ∙ ap (λ (n : ℕ). steps * n) parts)

pub times_none : (steps rest register : ℕ) → rest ≡ 0 → register ≡ bit_steps (steps * rest) register
unfolding bit_steps
times_none steps rest register none =
    let k : steps * rest ≡ 0 = rw none (omega arith) in
    rw k refl

-- the bits behind one bit more
pub bits_after : (register bit : ℕ) → register / 2 ^ bit / 2 ≡ register / 2 ^ (bit + 1)
bits_after register bit =
    let next : bit + 1 ≡ suc bit = omega arith in
    div-div-eq-div-mul register (2 ^ bit) 2 ∙ ap (λ (n : ℕ). register / n) (sym (rw next (pow-suc 2 bit)))

-- one image more
pub image_more : (count : ℕ) (images : List ℕ) (bit image : ℕ) → bit < length images
    → ((k : ℕ) → k < bit → get_or images k 0 ≡ bit_steps count (2 ^ k)) → image ≡ bit_steps count (2 ^ bit)
    → (k : ℕ) → k < bit + 1 → get_or (slice_set images bit image) k 0 ≡ bit_steps count (2 ^ k)
image_more count images bit image long so_far now k lt = ⊎_elim
    (λ same. rw same (get_or-set_same images bit image 0 long ∙ now))
    (λ differs. let before : k < bit = omega (arith, differs, lt) in get_or-set_other images bit k image 0 differs ∙ so_far k before)
    (cases_eq k bit)

pub times_one : (steps rest register : ℕ) → rest ≡ 1 → bit_steps steps register ≡ bit_steps (steps * rest) register
times_one steps rest register one =
    let k : steps * rest ≡ steps = rw one (omega arith) in
    rw k refl

pub bytes_doubled : (k : ℕ) → 8 * 2 ^ k + 8 * 2 ^ k ≡ 8 * 2 ^ (k + 1)
bytes_doubled k =
    let next : k + 1 ≡ suc k = omega arith in
    sym (mul-add 8 (2 ^ k) (2 ^ k)) ∙ ap (λ (n : ℕ). 8 * n) (sym (rw next (two-pow-succ k)))
