-- Lists of words, seen through their bytes.
use Rattle.std.proofs.Common.{◌≢◌, ◌≤◌, get_or, String, Global, string_bytes, ◌≡◌, ℕ, List, [], ◌∷◌, Bool, map, take, length, refl, sym, ap, length-take, length-drop, drop, ◌-◌, ◌∙◌, arith, ◌<◌}
use Rattle.std.specs.Prelude.{not, position, All}
use Rattle.std.proofs.lemmas.List.{get_or-map, get_or-take, length-map, take_all, drop-map}
use Rattle.ddf_words.specs.Words.{Word, words_of}
use Rattle.std.specs.List.{prefix_len}

prefix_len-map : {X Y : Type 0} (p : Y → Bool) (f : X → Y) (xs : List X) → prefix_len p (map f xs) ≡ prefix_len (λ x. p (f x)) xs
prefix_len-map p f [] = refl
prefix_len-map p f (x ∷ xs) = rw (prefix_len-map p f xs) refl

pub position-map : {X Y : Type 0} (p : Y → Bool) (f : X → Y) (xs : List X) → position p (map f xs) ≡ position (λ x. p (f x)) xs
position-map p f xs = rw (prefix_len-map (λ y. not (p y)) f xs, length-map xs f) refl

-- a list that isn't empty has a first element
pub some_left : {X : Type 0} (xs : List X) → 0 < length xs → (first : X) × ((rest : List X) × (xs ≡ first ∷ rest))
some_left [] some = absurd (omega arith)
some_left (x ∷ xs) some = (x, (xs, refl))

-- words that begin with a name
pub named_words : (words rest : List Word) (first name : Word) → words ≡ first ∷ rest → first ≡ name → words ≡ name ∷ drop 1 words
named_words words rest first name parts is = parts ∙ ap (λ (w : Word). w ∷ rest) is ∙ ap (λ (ws : List Word). name ∷ drop 1 ws) (sym parts)

module _ (words : List (String Global)) where
  pub word_at : (k : ℕ) (d : String Global) → k < length words → get_or (words_of words) k [] ≡ string_bytes (get_or words k d)
  word_at k d lt = get_or-map string_bytes words k d [] lt

  length_front : (place : ℕ) → place ≤ length words → length (take place words) ≡ place
  length_front place le = length-take place words ∙ omega arith

  module _ (place : ℕ) (word : String Global) (lt : place < length words) where
    pub fresh_words : All (λ other. string_bytes other ≢ string_bytes word) (take place words) → (k : ℕ) → k < place → get_or (words_of words) k [] ≢ string_bytes word
    fresh_words all k below e =
        all k word (omega (arith, length_front place (omega arith))) (ap string_bytes (get_or-take place words k word below) ∙ sym (word_at k word (omega arith)) ∙ e)

    pub words_fresh : ((k : ℕ) → k < place → get_or (words_of words) k [] ≢ string_bytes word) → All (λ other. string_bytes other ≢ string_bytes word) (take place words)
    words_fresh fresh k d below e =
        let under : k < place = omega (arith, length_front place (omega arith)) in
        fresh k under (word_at k d (omega arith) ∙ sym (ap string_bytes (get_or-take place words k d under)) ∙ e)

  -- the words behind a place
  pub words_behind : (n : ℕ) → words_of (take (length words - n) (drop n words)) ≡ drop n (words_of words)
  words_behind n = ap words_of (take_all (length words - n) (drop n words) (omega (arith, length-drop n words))) ∙ sym (drop-map string_bytes n words)
