-- Where words go wrong, of any kind.
use Rattle.std.proofs.Common.{◌≡◌, ℕ, ◌+◌, ◌-◌, ◌<◌, ◌≤◌, List, ◌∷◌, ◌++◌, add-one, add_comm, length, take, drop, suc, arith, append_assoc}
use Rattle.std.proofs.lemmas.Grind.{common_steps}
use Rattle.std.proofs.lemmas.List.{take-append-drop, take_all}
use Rattle.ddf_words.specs.Words.{Word, Begins, GoWrongAt}

module _ (accepted : List Word → Type 0) (words : List Word) where
  -- a list begins with its own first words
  pub begins_itself : (n : ℕ) → accepted words → Begins accepted (take n words)
  begins_itself n is = record { more = drop n words; goes_on = rw (take-append-drop n words) is }

  -- what begins with more words begins with fewer
  begins_fewer : (m n : ℕ) → m ≤ n → Begins accepted (take n words) → Begins accepted (take m words)
  begins_fewer m n le longer =
      let front : take m (take n words) ≡ take m words = grind (arith, common_steps) in
      let parts : take m words ++ drop m (take n words) ≡ take n words = rw (← front) (take-append-drop m (take n words)) in
      record {
        more = drop m (take n words) ++ longer.more;
        goes_on = rw (← append_assoc, parts) longer.goes_on;
      }

  -- one word with which no accepted list goes on
  pub wrong_word : (place : ℕ) → place < length words → Begins accepted (take place words) → (Begins accepted (take (place + 1) words) → ⊥)
      → GoWrongAt accepted words place
  wrong_word place lt good bad = record {
    refused = λ is. bad (begins_itself (place + 1) is);
    within = omega arith;
    good = good;
    no_longer = λ n more le longer. bad (begins_fewer (place + 1) n (omega arith) longer);
  }

  -- words that end too early
  pub wanting_words : Begins accepted words → (accepted words → ⊥) → GoWrongAt accepted words (length words)
  wanting_words good bad = record {
    refused = bad;
    within = omega arith;
    good = rw (take_all (length words) words (omega arith)) good;
    no_longer = λ n more le longer. absurd (omega arith);
  }

module _ (few many : List Word → Type 0) (first : Word) (rest : List Word) (place : ℕ) where
  -- where more lists are accepted, but no more that begin with this word
  pub wrong_among : ((words : List Word) → few words → many words) → ((more : List Word) → many (first ∷ more) → few (first ∷ more))
      → GoWrongAt few (first ∷ rest) place → GoWrongAt many (first ∷ rest) place
  wrong_among wider back wrong = record {
    refused = λ is. wrong.refused (back rest is);
    within = wrong.within;
    good = record { more = wrong.good.more; goes_on = wider (take place (first ∷ rest) ++ wrong.good.more) wrong.good.goes_on };
    no_longer = λ n more le longer.
        let m : ℕ = n - 1 in
        let is : n ≡ suc m = omega arith in
        let begun : Begins many (first ∷ take m rest) = rw is at longer in
        let fewer : Begins few (first ∷ take m rest) = record { more = begun.more; goes_on = back (take m rest ++ begun.more) begun.goes_on } in
        wrong.no_longer n more le (rw is fewer);
  }

  -- behind a first word
  pub wrong_behind : ((more : List Word) → many (first ∷ more) → few more) → ((more : List Word) → few more → many (first ∷ more))
      → GoWrongAt few rest place → GoWrongAt many (first ∷ rest) (1 + place)
  wrong_behind behind before wrong = rw (add_comm 1 place) record {
    refused = λ is. wrong.refused (behind rest is);
    within = omega (arith, wrong.within);
    good = rw add-one (record { more = wrong.good.more; goes_on = before (take place rest ++ wrong.good.more) wrong.good.goes_on });
    no_longer = λ n more le longer.
        let m : ℕ = n - 1 in
        let is : n ≡ suc m = omega arith in
        let begun : Begins many (first ∷ take m rest) = rw is at longer in
        wrong.no_longer m (omega arith) (omega arith) (record { more = begun.more; goes_on = behind (take m rest ++ begun.more) begun.goes_on });
  }
