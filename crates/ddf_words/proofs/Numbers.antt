-- Numbers in decimal.
use Rattle.std.proofs.Common.{◌≡◌, ℕ, ◌<◌, ◌≤◌, ◌^◌, List, [], ◌∷◌, map, drop, length, get_or, ap, sym, ◌∙◌, refl, arith}
use Rattle.std.specs.Fmt.{decimal}
use Rattle.std.specs.List.{All}
use Rattle.std.proofs.lemmas.Fmt.{decimal_injective}
use Rattle.std.proofs.lemmas.List.{get_or-map, length-map}
use Rattle.std.proofs.lemmas.List.Elements.{All-head, All-tail}
use Rattle.std.proofs.Math.Seq.{ext_get_or}
use Rattle.ddf_words.specs.Words.{Word, AreSlotWords, IsNumber, SpellsNumber, StandsAt}

-- two numbers of at most so much that are written alike
pub same_number : (most m n : ℕ) → most < 2 ^ 64 → m ≤ most → n ≤ most → decimal m ≡ decimal n → m ≡ n
same_number most m n small within within' e = decimal_injective m n (omega arith) (omega arith) e

-- a number
pub zero_number : (most : ℕ) → IsNumber most (decimal 0)
zero_number most = record { number = 0; spells = record { spelled = refl; within = omega arith } }

-- where this number stands, a number stands
pub number_stands : (most number : ℕ) (words : List Word) (place : ℕ) → StandsAt (SpellsNumber most number) words place → StandsAt (IsNumber most) words place
number_stands most number words place stands = record { within = stands.within; is = record { number = number; spells = stands.is } }

-- two numbers of slots that are written alike
pub same_slot : (m n : ℕ) → m ≤ 63 → n ≤ 63 → decimal m ≡ decimal n → m ≡ n
same_slot m n small small' e = same_number 63 m n (omega arith) small small' e

module _ (slots : List ℕ) (words : List Word) (are : AreSlotWords slots words) where
  pub many_slots : length words ≡ length slots
  many_slots = ap length are.spelled ∙ length-map slots decimal

  -- the word of one slot
  pub word_of_slot : (k : ℕ) → k < length words → get_or words k [] ≡ decimal (get_or slots k 0)
  word_of_slot k lt = ap (λ (ws : List Word). get_or ws k []) are.spelled ∙ get_or-map decimal slots k 0 [] (omega (arith, many_slots))

  pub small_slot : (k : ℕ) → k < length words → get_or slots k 0 ≤ 63
  small_slot k lt = are.within k (omega (arith, many_slots))

-- numbers of at most so much that are written alike
pub same_numbers : (most : ℕ) (ms ns : List ℕ) → most < 2 ^ 64 → All (λ m. m ≤ most) ms → All (λ n. n ≤ most) ns → map decimal ms ≡ map decimal ns → ms ≡ ns
same_numbers most [] [] small within within' e = refl
same_numbers most [] (n ∷ ns) small within within' e = cc
same_numbers most (m ∷ ms) [] small within within' e = cc
same_numbers most (m ∷ ms) (n ∷ ns) small within within' e =
    let P : ℕ → Type 0 = λ k. k ≤ most in
    let first : m ≡ n = same_number most m n small (All-head P m ms within) (All-head P n ns within') (ap (λ (ws : List Word). get_or ws 0 []) e) in
    let rest : ms ≡ ns = same_numbers most ms ns small (All-tail P m ms within) (All-tail P n ns within') (ap (drop 1) e) in
    cc

-- words name one list of slots
pub same_slots : (slots slots' : List ℕ) (words : List Word) → AreSlotWords slots words → AreSlotWords slots' words → slots ≡ slots'
same_slots slots slots' words are are' =
    let long = many_slots slots words are in
    let long' = many_slots slots' words are' in
    ext_get_or 0 slots slots' (omega (arith, long, long'))
    (λ k lt. let lt' : k < length words = omega (arith, long) in
    same_slot (get_or slots k 0) (get_or slots' k 0) (small_slot slots words are k lt') (small_slot slots' words are' k lt')
    (sym (word_of_slot slots words are k lt') ∙ word_of_slot slots' words are' k lt'))
