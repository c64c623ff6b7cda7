-- The steps of the CRC are linear, so that sixteen bytes can be taken at once: each through its own table, and their sum is the
-- register.
use Rattle.std.proofs.Common.{◌≡◌, ℕ, ◌+◌, ◌*◌, ◌/◌, ◌%◌, ◌<◌, ◌^◌, zero, suc, List, [], ◌∷◌, IsTrue, bit_xor, eqb, get_or, length, take, drop, fold, refl, sym, ◌∙◌, ap, arith, inl, inr}
use Rattle.std.specs.Int.{w32, from_le_bytes}
use Rattle.std.specs.Int.Bits.{xor_zero_l, xor_zero_r, xor_self, xor_assoc}
use Rattle.std.specs.Simd.{first_chunks}
use Rattle.std.proofs.Math.Nat.{pow-succ', mul_assoc}
use Rattle.std.proofs.Math.Seq.{take-add}
use Rattle.std.proofs.lemmas.List.{take-append-drop}
use Rattle.std.proofs.lemmas.List.Sums.{fold-append}
use Rattle.std.proofs.lemmas.Bool.{eqb-true}
use Rattle.std.proofs.lemmas.Nat.{xor_comm, xor_shr, xor_mod, xor_block}
use Rattle.ddf_lemmas.proofs.Tests.{bit_cases, both_parts, turned}
use Rattle.ddf_seal.specs.Crc.{bit_step, bit_steps, byte_step, are_entries}
use Rattle.ddf_seal.specs.Unread.{AreBytes}

-- ---- a step of a sum is the sum of the steps

twice : (x y p : ℕ) → bit_xor (bit_xor x p) (bit_xor y p) ≡ bit_xor x y
twice x y p =
    turned x p (bit_xor y p) ∙ xor_assoc x (bit_xor y p) p
    ∙ ap (bit_xor x) (xor_assoc y p p ∙ ap (bit_xor y) (xor_self p) ∙ xor_zero_r y)

back_to_front : (w x y z : ℕ) → bit_xor (bit_xor (bit_xor w x) y) z ≡ bit_xor (bit_xor (bit_xor z y) x) w
back_to_front w x y z =
    xor_comm (bit_xor (bit_xor w x) y) z ∙ ap (bit_xor z) (xor_comm (bit_xor w x) y) ∙ sym (xor_assoc z y (bit_xor w x))
    ∙ ap (bit_xor (bit_xor z y)) (xor_comm w x) ∙ sym (xor_assoc (bit_xor z y) x w)

even : (x : ℕ) → x % 2 ≡ 0 → bit_step x ≡ x / 2
even x e = rw e refl

odd : (x : ℕ) → x % 2 ≡ 1 → bit_step x ≡ bit_xor (x / 2) 0xEDB8_8320
odd x e = rw e refl

pub bit_step-xor : (a b : ℕ) → bit_step (bit_xor a b) ≡ bit_xor (bit_step a) (bit_step b)
bit_step-xor a b =
    let half = xor_shr a b 1 in
    let low = xor_mod a b 1 in
    elim (bit_cases a) [
      | inl even_a ↦ elim (bit_cases b) [
        | inl even_b ↦
            let out : bit_xor a b % 2 ≡ 0 = low ∙ rw (even_a, even_b) refl in
            even (bit_xor a b) out ∙ half ∙ sym (rw (even a even_a, even b even_b) refl)
        | inr odd_b ↦
            let out : bit_xor a b % 2 ≡ 1 = low ∙ rw (even_a, odd_b) refl in
            odd (bit_xor a b) out ∙ ap (λ h. bit_xor h 0xEDB8_8320) half ∙ xor_assoc (a / 2) (b / 2) 0xEDB8_8320
            ∙ sym (rw (even a even_a, odd b odd_b) refl)
      ]
      | inr odd_a ↦ elim (bit_cases b) [
        | inl even_b ↦
            let out : bit_xor a b % 2 ≡ 1 = low ∙ rw (odd_a, even_b) refl in
            odd (bit_xor a b) out ∙ ap (λ h. bit_xor h 0xEDB8_8320) half ∙ turned (a / 2) (b / 2) 0xEDB8_8320
            ∙ sym (rw (odd a odd_a, even b even_b) refl)
        | inr odd_b ↦
            let out : bit_xor a b % 2 ≡ 0 = low ∙ rw (odd_a, odd_b) refl in
            even (bit_xor a b) out ∙ half ∙ sym (twice (a / 2) (b / 2) 0xEDB8_8320)
            ∙ sym (rw (odd a odd_a, odd b odd_b) refl)
      ]
    ]

pub bit_steps-xor : (count a b : ℕ) → bit_steps count (bit_xor a b) ≡ bit_xor (bit_steps count a) (bit_steps count b)
unfolding bit_steps
bit_steps-xor zero a b = refl
bit_steps-xor (suc count) a b = ap (bit_steps count) (bit_step-xor a b) ∙ bit_steps-xor count (bit_step a) (bit_step b)

pub bit_steps-add : (m n x : ℕ) → bit_steps (m + n) x ≡ bit_steps n (bit_steps m x)
unfolding bit_steps
bit_steps-add zero n x = let none : 0 + n ≡ n = omega arith in ap (λ k. bit_steps k x) none
bit_steps-add (suc m) n x =
    let next : suc m + n ≡ suc (m + n) = omega arith in
    ap (λ k. bit_steps k x) next ∙ bit_steps-add m n (bit_step x)

-- sums of steps, 32 steps later
later : (count a n : ℕ) → bit_steps 32 (bit_xor (bit_steps count a) n) ≡ bit_xor (bit_steps (count + 32) a) (bit_steps 32 n)
later count a n = bit_steps-xor 32 (bit_steps count a) n ∙ ap (λ x. bit_xor x (bit_steps 32 n)) (sym (bit_steps-add count 32 a))

both_later : (i j a b : ℕ) → bit_steps 32 (bit_xor (bit_steps i a) (bit_steps j b)) ≡ bit_xor (bit_steps (i + 32) a) (bit_steps (j + 32) b)
both_later i j a b = later i a (bit_steps j b) ∙ ap (bit_xor (bit_steps (i + 32) a)) (sym (bit_steps-add j 32 b))

-- ---- bits above those that go out are only moved

bit_step-double : (y : ℕ) → bit_step (2 * y) ≡ y
bit_step-double y =
    let low : (2 * y) % 2 ≡ 0 = omega arith in
    let half : (2 * y) / 2 ≡ y = omega arith in
    even (2 * y) low ∙ half

bit_steps-shifted : (count y : ℕ) → bit_steps count (2 ^ count * y) ≡ y
unfolding bit_steps
bit_steps-shifted zero y = omega arith
bit_steps-shifted (suc count) y =
    let double : 2 ^ suc count * y ≡ 2 * (2 ^ count * y) = ap (λ n. n * y) (pow-succ' 2 count) ∙ mul_assoc 2 (2 ^ count) y in
    ap (λ x. bit_steps count (bit_step x)) double ∙ ap (bit_steps count) (bit_step-double (2 ^ count * y)) ∙ bit_steps-shifted count y

-- so many bytes of zeros: after the first, the bits above it are left
bytes-shifted : (more y : ℕ) → bit_steps (8 * suc more) (256 * y) ≡ bit_steps (8 * more) y
bytes-shifted more y =
    let parts : 8 * suc more ≡ 8 + 8 * more = omega arith in
    ap (λ k. bit_steps k (256 * y)) parts ∙ bit_steps-add 8 (8 * more) (256 * y) ∙ ap (bit_steps (8 * more)) (bit_steps-shifted 8 y)

joined : (low high : ℕ) → low < 256 → bit_xor low (256 * high) ≡ low + 256 * high
joined low high lt =
    let left : 0 * 2 ^ 8 + low ≡ low = omega arith in
    let right : high * 2 ^ 8 + 0 ≡ 256 * high = omega arith in
    ap (λ l. bit_xor l (256 * high)) (sym left) ∙ ap (bit_xor (0 * 2 ^ 8 + low)) (sym right) ∙ xor_block 8 0 high low 0 lt (omega arith)
    ∙ ap (λ h. h * 2 ^ 8 + bit_xor low 0) (xor_zero_l high) ∙ ap (λ l. high * 2 ^ 8 + l) (xor_zero_r low) ∙ omega arith

-- a register's lowest byte goes out by itself
pub low_byte : (more x : ℕ) → bit_steps (8 * suc more) x ≡ bit_xor (bit_steps (8 * suc more) (x % 256)) (bit_steps (8 * more) (x / 256))
low_byte more x =
    let low : x % 256 < 256 = omega arith in
    let whole : x ≡ x % 256 + 256 * (x / 256) = omega arith in
    ap (bit_steps (8 * suc more)) (whole ∙ sym (joined (x % 256) (x / 256) low)) ∙ bit_steps-xor (8 * suc more) (x % 256) (256 * (x / 256))
    ∙ ap (bit_xor (bit_steps (8 * suc more) (x % 256))) (bytes-shifted more (x / 256))

-- ---- bytes as a number, whose lowest byte comes first

-- a byte and a number of those after it
byte_first : (more register byte number : ℕ) → byte < 256 → bit_steps (8 * suc more) (bit_xor register (byte + 256 * number)) ≡ bit_steps (8 * more) (bit_xor (byte_step register byte) number)
byte_first more register byte number lt =
    let parts : 8 * suc more ≡ 8 + 8 * more = omega arith in
    let sum = bit_xor (bit_xor register byte) (256 * number) in
    ap (λ x. bit_steps (8 * suc more) (bit_xor register x)) (sym (joined byte number lt))
    ∙ ap (bit_steps (8 * suc more)) (sym (xor_assoc register byte (256 * number)))
    ∙ ap (λ k. bit_steps k sum) parts ∙ bit_steps-add 8 (8 * more) sum
    ∙ ap (bit_steps (8 * more)) (bit_steps-xor 8 (bit_xor register byte) (256 * number) ∙ ap (bit_xor (byte_step register byte)) (bit_steps-shifted 8 number))

-- four bytes
word_first : (register b0 b1 b2 b3 : ℕ) → b0 < 256 → b1 < 256 → b2 < 256 → b3 < 256
    → fold byte_step register (b0 ∷ b1 ∷ b2 ∷ b3 ∷ []) ≡ bit_steps 32 (bit_xor register (b0 + 256 * (b1 + 256 * (b2 + 256 * (b3 + 256 * 0)))))
unfolding bit_steps
word_first register b0 b1 b2 b3 l0 l1 l2 l3 =
    let r1 = byte_step register b0 in
    let r2 = byte_step r1 b1 in
    let r3 = byte_step r2 b2 in
    let r4 = byte_step r3 b3 in
    sym (byte_first 3 register b0 (b1 + 256 * (b2 + 256 * (b3 + 256 * 0))) l0 ∙ byte_first 2 r1 b1 (b2 + 256 * (b3 + 256 * 0)) l1
    ∙ byte_first 1 r2 b2 (b3 + 256 * 0) l2 ∙ byte_first 0 r3 b3 0 l3 ∙ xor_zero_r r4)

pub word_step : (register : ℕ) (word : List ℕ) → length word ≡ 4 → AreBytes word → fold byte_step register word ≡ bit_steps 32 (bit_xor register (from_le_bytes w32 word))
word_step register (b0 ∷ b1 ∷ b2 ∷ b3 ∷ []) len are =
    let number : b0 + 256 * (b1 + 256 * (b2 + 256 * (b3 + 256 * 0))) ≡ from_le_bytes w32 (b0 ∷ b1 ∷ b2 ∷ b3 ∷ []) = omega arith in
    word_first register b0 b1 b2 b3 (are 0) (are 1) (are 2) (are 3) ∙ ap (λ n. bit_steps 32 (bit_xor register n)) number
word_step register [] len are = absurd (omega arith)
word_step register (b0 ∷ []) len are = absurd (omega arith)
word_step register (b0 ∷ b1 ∷ []) len are = absurd (omega arith)
word_step register (b0 ∷ b1 ∷ b2 ∷ []) len are = absurd (omega arith)
word_step register (b0 ∷ b1 ∷ b2 ∷ b3 ∷ b4 ∷ bs) len are = absurd (omega arith)

-- ---- the tables

entry_is : (first : ℕ) (entries : List ℕ) (i : ℕ) → IsTrue (are_entries first entries) → i < length entries
    → get_or entries i 0 ≡ bit_steps (8 * ((first + i) / 256 + 1)) ((first + i) % 256)
entry_is first [] i are lt = absurd (omega arith)
entry_is first (entry ∷ entries) zero are lt =
    let parts = both_parts (eqb entry (bit_steps (8 * (first / 256 + 1)) (first % 256))) (are_entries (suc first) entries) are in
    let here : first ≡ first + 0 = omega arith in
    eqb-true entry (bit_steps (8 * (first / 256 + 1)) (first % 256)) parts.0 ∙ ap (λ k. bit_steps (8 * (k / 256 + 1)) (k % 256)) here
entry_is first (entry ∷ entries) (suc i) are lt =
    let parts = both_parts (eqb entry (bit_steps (8 * (first / 256 + 1)) (first % 256))) (are_entries (suc first) entries) are in
    let next : suc first + i ≡ first + suc i = omega arith in
    entry_is (suc first) entries i parts.1 (omega arith) ∙ ap (λ k. bit_steps (8 * (k / 256 + 1)) (k % 256)) next

pub table_entry : (tables : List ℕ) (more byte : ℕ) → IsTrue (are_entries 0 tables) → length tables ≡ 4096 → more < 16 → byte < 256
    → get_or tables (256 * more + byte) 0 ≡ bit_steps (8 * (more + 1)) byte
table_entry tables more byte are len few lt =
    let table : (0 + (256 * more + byte)) / 256 ≡ more = omega arith in
    let index : (0 + (256 * more + byte)) % 256 ≡ byte = omega arith in
    entry_is 0 tables (256 * more + byte) are (omega arith) ∙ ap (λ k. bit_steps (8 * (k + 1)) ((0 + (256 * more + byte)) % 256)) table
    ∙ ap (bit_steps (8 * (more + 1))) index

-- four bytes of a register, each through its table
pub four_bytes : (more x : ℕ) → x < 2 ^ 32
    → bit_steps (8 * (more + 4)) x ≡ bit_xor (bit_xor (bit_xor (bit_steps (8 * (more + 3 + 1)) (x % 256)) (bit_steps (8 * (more + 2 + 1)) (x / 256 % 256))) (bit_steps (8 * (more + 1 + 1)) (x / 65536 % 256))) (bit_steps (8 * (more + 1)) (x / 16777216 % 256))
four_bytes more x lt =
    let f : ℕ → ℕ → ℕ = λ k y. bit_steps (8 * suc k) y in
    let k4 : more + 4 ≡ suc (more + 3) = omega arith in
    let k3 : more + 3 ≡ suc (more + 2) = omega arith in
    let k2 : more + 2 ≡ suc (more + 1) = omega arith in
    let k1 : more + 1 ≡ suc more = omega arith in
    let s3 : suc (more + 3) ≡ more + 3 + 1 = omega arith in
    let s2 : suc (more + 2) ≡ more + 2 + 1 = omega arith in
    let s1 : suc (more + 1) ≡ more + 1 + 1 = omega arith in
    let second : x / 256 / 256 ≡ x / 65536 = omega arith in
    let third : x / 65536 / 256 ≡ x / 16777216 = omega arith in
    let top : x / 16777216 ≡ x / 16777216 % 256 = omega arith in
    let e4 : bit_steps (8 * (more + 4)) x ≡ bit_xor (bit_steps (8 * (more + 3 + 1)) (x % 256)) (bit_steps (8 * (more + 3)) (x / 256)) =
    ap (λ k. bit_steps (8 * k) x) k4 ∙ low_byte (more + 3) x ∙ ap (λ k. bit_xor (bit_steps (8 * k) (x % 256)) (bit_steps (8 * (more + 3)) (x / 256))) s3 in
    let e3 : bit_steps (8 * (more + 3)) (x / 256) ≡ bit_xor (bit_steps (8 * (more + 2 + 1)) (x / 256 % 256)) (bit_steps (8 * (more + 2)) (x / 65536)) =
    ap (λ k. bit_steps (8 * k) (x / 256)) k3 ∙ low_byte (more + 2) (x / 256)
    ∙ ap (λ k. bit_xor (bit_steps (8 * k) (x / 256 % 256)) (bit_steps (8 * (more + 2)) (x / 256 / 256))) s2
    ∙ ap (λ y. bit_xor (bit_steps (8 * (more + 2 + 1)) (x / 256 % 256)) (bit_steps (8 * (more + 2)) y)) second in
    let e2 : bit_steps (8 * (more + 2)) (x / 65536) ≡ bit_xor (bit_steps (8 * (more + 1 + 1)) (x / 65536 % 256)) (bit_steps (8 * (more + 1)) (x / 16777216)) =
    ap (λ k. bit_steps (8 * k) (x / 65536)) k2 ∙ low_byte (more + 1) (x / 65536)
    ∙ ap (λ k. bit_xor (bit_steps (8 * k) (x / 65536 % 256)) (bit_steps (8 * (more + 1)) (x / 65536 / 256))) s1
    ∙ ap (λ y. bit_xor (bit_steps (8 * (more + 1 + 1)) (x / 65536 % 256)) (bit_steps (8 * (more + 1)) y)) third in
    let e1 : bit_steps (8 * (more + 1)) (x / 16777216) ≡ bit_steps (8 * (more + 1)) (x / 16777216 % 256) = ap (bit_steps (8 * (more + 1))) top in
    let a = bit_steps (8 * (more + 3 + 1)) (x % 256) in
    let b = bit_steps (8 * (more + 2 + 1)) (x / 256 % 256) in
    let c = bit_steps (8 * (more + 1 + 1)) (x / 65536 % 256) in
    let d = bit_steps (8 * (more + 1)) (x / 16777216 % 256) in
    e4 ∙ ap (bit_xor a) (e3 ∙ ap (bit_xor b) (e2 ∙ ap (bit_xor c) e1)) ∙ sym (xor_assoc a b (bit_xor c d)) ∙ sym (xor_assoc (bit_xor a b) c d)

-- ---- chunks of a list

pub four_parts : (parts : List (List ℕ)) → length parts ≡ 4 → parts ≡ get_or parts 0 [] ∷ get_or parts 1 [] ∷ get_or parts 2 [] ∷ get_or parts 3 [] ∷ []
four_parts (a ∷ b ∷ c ∷ d ∷ []) len = refl
four_parts [] len = absurd (omega arith)
four_parts (a ∷ []) len = absurd (omega arith)
four_parts (a ∷ b ∷ []) len = absurd (omega arith)
four_parts (a ∷ b ∷ c ∷ []) len = absurd (omega arith)
four_parts (a ∷ b ∷ c ∷ d ∷ e ∷ rest) len = absurd (omega arith)

fold-first_chunks : {X : Type 0} (f : ℕ → X → ℕ) (size count start : ℕ) (xs : List X) → fold (fold f) start (first_chunks size count xs) ≡ fold f start (take (count * size) xs)
fold-first_chunks f size zero start xs =
    let none : zero * size ≡ 0 = omega arith in
    sym (ap (λ k. fold f start (take k xs)) none)
fold-first_chunks f size (suc count) start xs =
    let more : size + count * size ≡ suc count * size = grind arith in
    fold-first_chunks f size count (fold f start (take size xs)) (drop size xs) ∙ sym (fold-append f start (take size xs) (take (count * size) (drop size xs)))
    ∙ ap (fold f start) (sym (take-add size (count * size) xs)) ∙ ap (λ k. fold f start (take k xs)) more

-- the whole chunks, and then what is left
pub fold-chunks : {X : Type 0} (f : ℕ → X → ℕ) (size count start : ℕ) (xs : List X) → fold f (fold (fold f) start (first_chunks size count xs)) (drop (count * size) xs) ≡ fold f start xs
fold-chunks f size count start xs =
    ap (λ s. fold f s (drop (count * size) xs)) (fold-first_chunks f size count start xs) ∙ sym (fold-append f start (take (count * size) xs) (drop (count * size) xs))
    ∙ ap (fold f start) (take-append-drop (count * size) xs)

-- the bytes of four words, each by its number
pub block_step : (register n0 n1 n2 n3 : ℕ) (words : List (List ℕ)) → length words ≡ 4
    → ((r : ℕ) → fold byte_step r (get_or words 0 []) ≡ bit_steps 32 (bit_xor r n0)) → ((r : ℕ) → fold byte_step r (get_or words 1 []) ≡ bit_steps 32 (bit_xor r n1))
    → ((r : ℕ) → fold byte_step r (get_or words 2 []) ≡ bit_steps 32 (bit_xor r n2)) → ((r : ℕ) → fold byte_step r (get_or words 3 []) ≡ bit_steps 32 (bit_xor r n3))
    → fold (fold byte_step) register words ≡ bit_xor (bit_xor (bit_xor (bit_steps 32 n3) (bit_steps 64 n2)) (bit_steps 96 n1)) (bit_steps 128 (bit_xor register n0))
block_step register n0 n1 n2 n3 words len w0 w1 w2 w3 =
    let x = bit_xor register n0 in
    let step : ℕ → ℕ → ℕ = λ r n. bit_steps 32 (bit_xor r n) in
    let all : fold (fold byte_step) register words ≡ step (step (step (step register n0) n1) n2) n3 =
    ap (fold (fold byte_step) register) (four_parts words len)
    ∙ w3 (fold byte_step (fold byte_step (fold byte_step register (get_or words 0 [])) (get_or words 1 [])) (get_or words 2 []))
    ∙ ap (λ r. step r n3) (w2 (fold byte_step (fold byte_step register (get_or words 0 [])) (get_or words 1 [])))
    ∙ ap (λ r. step (step r n2) n3) (w1 (fold byte_step register (get_or words 0 [])))
    ∙ ap (λ r. step (step (step r n1) n2) n3) (w0 register) in
    let second : step (bit_steps 32 x) n1 ≡ bit_xor (bit_steps 64 x) (bit_steps 32 n1) = later 32 x n1 in
    let third : step (bit_xor (bit_steps 64 x) (bit_steps 32 n1)) n2 ≡ bit_xor (bit_xor (bit_steps 96 x) (bit_steps 64 n1)) (bit_steps 32 n2) =
    bit_steps-xor 32 (bit_xor (bit_steps 64 x) (bit_steps 32 n1)) n2 ∙ ap (λ y. bit_xor y (bit_steps 32 n2)) (both_later 64 32 x n1) in
    let fourth : step (bit_xor (bit_xor (bit_steps 96 x) (bit_steps 64 n1)) (bit_steps 32 n2)) n3
    ≡ bit_xor (bit_xor (bit_xor (bit_steps 128 x) (bit_steps 96 n1)) (bit_steps 64 n2)) (bit_steps 32 n3) =
    bit_steps-xor 32 (bit_xor (bit_xor (bit_steps 96 x) (bit_steps 64 n1)) (bit_steps 32 n2)) n3
    ∙ ap (λ y. bit_xor y (bit_steps 32 n3)) (bit_steps-xor 32 (bit_xor (bit_steps 96 x) (bit_steps 64 n1)) (bit_steps 32 n2)
    ∙ ap (λ y. bit_xor y (bit_steps 32 (bit_steps 32 n2))) (both_later 96 64 x n1)
    ∙ ap (bit_xor (bit_xor (bit_steps 128 x) (bit_steps 96 n1))) (sym (bit_steps-add 32 32 n2))) in
    all ∙ ap (λ r. step (step r n2) n3) second ∙ ap (λ r. step r n3) third ∙ fourth
    ∙ back_to_front (bit_steps 128 x) (bit_steps 96 n1) (bit_steps 64 n2) (bit_steps 32 n3)

-- a byte goes in at the low end
pub byte_by_table : (register byte : ℕ) → byte < 256 → byte_step register byte ≡ bit_xor (bit_steps 8 (bit_xor (register % 256) byte)) (register / 256)
unfolding bit_steps
byte_by_table register byte lt =
    let low : register % 256 < 256 = omega arith in
    let whole : register ≡ register % 256 + 256 * (register / 256) = omega arith in
    let split = whole ∙ sym (joined (register % 256) (register / 256) low) in
    ap (λ x. byte_step x byte) split ∙ ap (bit_steps 8) (turned (register % 256) (256 * (register / 256)) byte)
    ∙ bit_steps-xor 8 (bit_xor (register % 256) byte) (256 * (register / 256))
    ∙ ap (bit_xor (bit_steps 8 (bit_xor (register % 256) byte))) (bit_steps-shifted 8 (register / 256))
