-- Words of known kinds, one behind the other.
use Rattle.std.proofs.Common.{◌≡◌, ◌∙◌, ℕ, ◌+◌, ◌<◌, List, [], ◌∷◌, get_or, length, length-append, length-drop, length-take, take, drop, refl, ap, sym, subst, arith}
use Rattle.std.proofs.lemmas.List.{drop_more}
use Rattle.ddf_words.proofs.Places.{wrong_word, wanting_words, wrong_behind}
use Rattle.ddf_words.specs.Words.{Word, StandsAt, LacksAt, GoWrongAt}

-- words of these kinds, and then those that a test accepts
abbrev pub Fields : List (Word → Type 0) → (List Word → Type 0) → List Word → Type 0
Fields [] tail words = tail words
Fields (kind ∷ kinds) tail [] = ⊥
Fields (kind ∷ kinds) tail (word ∷ words) = kind word × Fields kinds tail words

-- no more words
abbrev pub Ends : List Word → Type 0
Ends words = words ≡ []

-- some list of words is accepted
pub record IsMet (accepted : List Word → Type 0) : Type 0 where
  pub words : List Word
  pub is : accepted words

pub ends_met : IsMet Ends
ends_met = record { words = []; is = refl }

pub field_met : (kind : Word → Type 0) (kinds : List (Word → Type 0)) (tail : List Word → Type 0) (word : Word) → kind word → IsMet (Fields kinds tail) → IsMet (Fields (kind ∷ kinds) tail)
field_met kind kinds tail word is met = record { words = word ∷ met.words; is = (is, met.is) }

-- where no more words may stand
pub more_words : (words : List Word) (place : ℕ) → place < length words → GoWrongAt Ends (drop place words) 0
more_words words place lt =
    let rest : List Word = drop place words in
    let long : 0 < length rest = omega (arith, length-drop place words) in
    wrong_word Ends rest 0 long (record { more = []; goes_on = refl })
    (λ begun. omega (arith, long, ap length begun.goes_on, length-append (take 1 rest) begun.more, length-take 1 rest))

lacks_first : (kind : Word → Type 0) (kinds : List (Word → Type 0)) (tail : List Word → Type 0) (words : List Word) → IsMet (Fields (kind ∷ kinds) tail)
    → ((word : Word) (others : List Word) → words ≡ word ∷ others → kind word → ⊥) → GoWrongAt (Fields (kind ∷ kinds) tail) words 0
lacks_first kind kinds tail [] met none = wanting_words (Fields (kind ∷ kinds) tail) [] (record { more = met.words; goes_on = met.is }) (λ is. is)
lacks_first kind kinds tail (word ∷ others) met none =
    wrong_word (Fields (kind ∷ kinds) tail) (word ∷ others) 0 (omega arith) (record { more = met.words; goes_on = met.is }) (λ begun. none word others refl begun.goes_on.0)

module _ (kind : Word → Type 0) (kinds : List (Word → Type 0)) (tail : List Word → Type 0) (words : List Word) (place : ℕ) where
  -- where no word of the kind stands
  pub lacks_field : IsMet (Fields (kind ∷ kinds) tail) → LacksAt kind words place → GoWrongAt (Fields (kind ∷ kinds) tail) (drop place words) 0
  lacks_field met lacks = lacks_first kind kinds tail (drop place words) met
      (λ word others e is.
      let lt : place < length words = omega (arith, ap length e, length-drop place words) in
      let here : get_or words place [] ≡ word = ap (λ (ws : List Word). get_or ws 0 []) (sym (drop_more words place [] lt) ∙ e) in
      lacks.none lt (rw here is))

  -- where one stands, and others are wrong behind it
  pub behind_field : (wrong : ℕ) → StandsAt kind words place → GoWrongAt (Fields kinds tail) (drop (place + 1) words) wrong → GoWrongAt (Fields (kind ∷ kinds) tail) (drop place words) (1 + wrong)
  behind_field wrong stands behind =
      let word : Word = get_or words place [] in
      subst (λ (ws : List Word). GoWrongAt (Fields (kind ∷ kinds) tail) ws (1 + wrong)) (sym (drop_more words place [] stands.within))
      (wrong_behind (Fields kinds tail) (Fields (kind ∷ kinds) tail) word (drop (place + 1) words) wrong
      (λ more is. is.1)
      (λ more is. (stands.is, is))
      behind)
