-- The words of arrays' names.
use Rattle.std.proofs.Common.{◌≡◌, ◌≢◌, ◌+◌, ◌<◌, ◌≤◌, ◌++◌, ◌∷◌, ℕ, List, [], true, inl, ⊎_elim, get_or, take, length, length-append, length-take, drop, Result, Ok, Err, refl, sym, ap, ◌∙◌, codes, arith}
use Rattle.std.specs.Prelude.{MatchResult}
use Rattle.std.proofs.lemmas.Bool.{cases_lt}
use Rattle.std.proofs.lemmas.List.{append-nil, get_or_append_left, get_or-take}
use Rattle.std.proofs.lemmas.List.Elements.{All-cons, All-nil}
use Rattle.hex.specs.Hex.{decode_sized, encode_lower}
use Rattle.hex.specs.declared.error.FromHexError.{FromHexError}
use Rattle.hex.proofs.HexLemmas.{decode_of-ok, decode_sized-encode_lower, decode_sized-ok, decode_sized-twice}
use Rattle.ddf_words.proofs.Places.{wanting_words, wrong_word}
use Rattle.ddf_words.specs.Words.{Word, is_plain, AreNames, Begins, GoWrongAt, IsName, IsPlainName, IsHexName, StandsAt}

abbrev IsPlain : ℕ → Type 0
IsPlain byte = is_plain byte ≡ true

abbrev AnsweredBy : Result (List ℕ) FromHexError → List ℕ → Result Unit FromHexError → Type 0
AnsweredBy decoded out r = MatchResult decoded (λ bytes. (r ≡ Ok tt) × (out ≡ bytes)) (λ e. r ≡ Err e)

-- what decoding into 16 bytes answered, and what it left there
abbrev pub Answered : List ℕ → List ℕ → Result Unit FromHexError → Type 0
Answered digits out r = AnsweredBy (decode_sized digits 16) out r

decoded_as : (decoded : Result (List ℕ) FromHexError) (out : List ℕ) (r : Result Unit FromHexError) → AnsweredBy decoded out r → r ≡ Ok tt → decoded ≡ Ok out
decoded_as (Ok bytes) out r answered ok = ap Ok (sym answered.1)
decoded_as (Err e) out r answered ok = cc

module _ (word : Word) (digits name : List ℕ) (r : Result Unit FromHexError) (parts : word ≡ codes "hex:" ++ digits) (answered : Answered digits name r) where
  -- digits that decode to a name and are written for it
  pub name_of_digits : r ≡ Ok tt → digits ≡ encode_lower name → IsHexName word
  name_of_digits ok written =
      let decoded = decoded_as (decode_sized digits 16) name r answered ok in
      let long = decode_sized-ok digits 16 name decoded in
      let read = decode_of-ok digits name (sym (decode_sized-twice digits 16 long) ∙ decoded) in
      record {
        bytes = name;
        count = omega (arith, long, read.2);
        each = read.3;
        spelled = parts ∙ ap (λ (ds : List ℕ). codes "hex:" ++ ds) written;
      }

  -- the digits of a name decode to it
  pub digits_of_name : IsHexName word → (r ≡ Ok tt) × (digits ≡ encode_lower name)
  digits_of_name hex =
      let written : digits ≡ encode_lower hex.bytes = ap (drop 4) (sym parts ∙ hex.spelled) in
      let decoded : decode_sized digits 16 ≡ Ok hex.bytes = ap (λ (ds : List ℕ). decode_sized ds 16) written ∙ decode_sized-encode_lower hex.bytes 16 hex.count hex.each in
      let there = rw decoded at answered in
      (there.0, written ∙ ap encode_lower (sym there.1))

-- a name
pub a_plain_name : IsPlainName (codes "a")
a_plain_name = record { some = omega arith; few = omega arith; plain = All-cons IsPlain 97 [] refl (All-nil IsPlain) }

pub a_name : IsName (codes "a")
a_name = inl a_plain_name

-- where this name stands, a name stands
pub name_stands : (name : Word) (words : List Word) (place : ℕ) → StandsAt (λ word. (word ≡ name) × IsName word) words place → StandsAt IsName words place
name_stands name words place stands = record { within = stands.within; is = stands.is.1 }

pub plain_name_stands : (name : Word) (words : List Word) (place : ℕ) → StandsAt (λ word. (word ≡ name) × IsPlainName word) words place → StandsAt IsPlainName words place
plain_name_stands name words place stands = record { within = stands.within; is = stands.is.1 }

-- ---- several names

-- Names of arrays, no two equal.
pub record AreOthers (names : List Word) : Type 0 where
  pub named : (i : ℕ) → i < length names → IsName (get_or names i [])
  pub different : (i j : ℕ) → i < j → j < length names → get_or names i [] ≢ get_or names j []

pub no_names : AreOthers []
no_names = record { named = λ i lt. absurd (omega (arith, lt)); different = λ i j lt le. absurd (omega (arith, le)) }

pub are_names : (names : List Word) → AreOthers names → 1 ≤ length names → AreNames names
are_names names are some = record { some = some; named = are.named; different = are.different }

-- they begin a list of names
names_begin : (names : List Word) → AreOthers names → Begins AreNames names
names_begin [] are = record {
  more = codes "a" ∷ [];
  goes_on = record {
    some = omega arith;
    named = λ i lt. let first : i ≡ 0 = omega arith in rw first a_name;
    different = λ i j lt le. absurd (omega arith);
  };
}
names_begin (name ∷ names) are = record { more = []; goes_on = rw (append-nil (name ∷ names)) (are_names (name ∷ names) are (omega arith)) }

pub wanting_name : (words : List Word) → length words ≡ 0 → GoWrongAt AreNames words 0
wanting_name [] none = wanting_words AreNames [] (names_begin [] no_names) (λ are. omega (arith, are.some))
wanting_name (word ∷ words) none = absurd (omega (arith, none))

module _ (words : List Word) (place : ℕ) (lt : place < length words) (are : AreOthers (take place words)) where
  front : List Word
  front = take (place + 1) words

  long : length front ≡ place + 1
  unfolding front
  long = length-take (place + 1) words ∙ omega arith

  at_front : (k : ℕ) → k < place + 1 → get_or front k [] ≡ get_or words k []
  unfolding front
  at_front k below = get_or-take (place + 1) words k [] below

  many : length (take place words) ≡ place
  many = length-take place words ∙ omega arith

  at_names : (k : ℕ) → k < place → get_or (take place words) k [] ≡ get_or words k []
  at_names k below = get_or-take place words k [] below

  -- a word that is no name, or one that an earlier word is too
  pub wrong_name : (IsName (get_or words place []) → ((k : ℕ) → k < place → get_or words k [] ≢ get_or words place []) → ⊥) → GoWrongAt AreNames words place
  unfolding front
  wrong_name bad = wrong_word AreNames words place lt (names_begin (take place words) are)
      (λ begun.
      let all : length (front ++ begun.more) ≡ place + 1 + length begun.more = length-append front begun.more ∙ omega (arith, long) in
      let same : (k : ℕ) → k < place + 1 → get_or (front ++ begun.more) k [] ≡ get_or words k [] = λ k below. get_or_append_left front begun.more [] k (omega (arith, long)) ∙ at_front k below in
      bad (rw (same place (omega arith)) at (begun.goes_on.named place (omega (arith, all))))
      (λ k below e. begun.goes_on.different k place below (omega (arith, all)) (same k (omega arith) ∙ e ∙ sym (same place (omega arith)))))

  -- one name more
  pub names_more : IsName (get_or words place []) → ((k : ℕ) → k < place → get_or words k [] ≢ get_or words place []) → AreOthers (take (place + 1) words)
  unfolding front
  names_more name fresh = record {
    named = λ i below. ⊎_elim
        (λ earlier. rw (at_front i (omega arith) ∙ sym (at_names i earlier)) (are.named i (omega (arith, many))))
        (λ here. let at : i ≡ place = omega (arith, long) in rw (at, at_front place (omega arith)) name)
        (cases_lt i place);
    different = λ i j before below e. ⊎_elim
        (λ earlier. are.different i j before (omega (arith, many))
        (at_names i (omega arith) ∙ sym (at_front i (omega arith)) ∙ e ∙ at_front j (omega arith) ∙ sym (at_names j earlier)))
        (λ here. let at : j ≡ place = omega (arith, long) in
        fresh i (omega arith) (sym (at_front i (omega arith)) ∙ e ∙ ap (λ (n : ℕ). get_or front n []) at ∙ at_front place (omega arith)))
        (cases_lt j place);
  }
