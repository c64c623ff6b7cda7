-- The numbers behind `exercise`, and where words go wrong among them.
use Rattle.std.proofs.Common.{◌≡◌, ◌∙◌, inr, ⊎_elim, ℕ, ◌+◌, ◌-◌, ◌^◌, ◌<◌, ◌≤◌, List, [], ◌∷◌, ◌++◌, length, length-append, get_or, take, refl, sym, ap, subst, arith}
use Rattle.std.specs.Fmt.{decimal}
use Rattle.std.proofs.lemmas.List.{append-nil, get_or-append-add, get_or_append_left, nil_from_length, take_all}
use Rattle.ddf_words.proofs.Dashes.{same_rest}
use Rattle.ddf_words.specs.Words.{Word, Begins, GoWrongAt, IsNumber, LacksAt, SpellsNumber, StandsAt, dashes}
use Rattle.ddf_words.specs.Batch.{IsServed}
use Rattle.ddf_words.specs.Asking.{AsksForExercise, IsExercise, IsKnown, exercise}
use Rattle.ddf_words.proofs.ExerciseLeading.{Past, front, front_parts, not_served_past, past, with_more}
use Rattle.ddf_words.proofs.ExerciseWrongly.{Stands}

abbrev pub most_seed : ℕ
most_seed = 2 ^ 64 - 1

-- the words of two numbers
abbrev pair : (seed rounds : ℕ) → List Word
pair seed rounds = decimal seed ∷ decimal rounds ∷ []

one_word : (some : List Word) → length some ≡ 1 → some ≡ get_or some 0 [] ∷ []
one_word [] long = absurd (omega (arith, long))
one_word (word ∷ []) long = refl
one_word (word ∷ other ∷ others) long = absurd (omega (arith, long))

two_words : (some : List Word) → length some ≡ 2 → some ≡ get_or some 0 [] ∷ get_or some 1 [] ∷ []
two_words [] long = absurd (omega (arith, long))
two_words (word ∷ []) long = absurd (omega (arith, long))
two_words (word ∷ other ∷ []) long = refl
two_words (word ∷ other ∷ third ∷ others) long = absurd (omega (arith, long))

module _ (words : List Word) (is : Stands words) where
  abbrev pub behind : ℕ
  behind = length (front words is)

  all_long : length words ≡ behind + length is.others
  all_long = ap length (front_parts words is) ∙ length-append (front words is) is.others

  -- the word at a place behind
  word_at : (i : ℕ) → get_or words (behind + i) [] ≡ get_or is.others i []
  word_at i = ap (λ (ws : List Word). get_or ws (behind + i) []) (front_parts words is) ∙ get_or-append-add (front words is) is.others i []

  exercise_rest : (others : List Word) → IsExercise (is.images ++ dashes ∷ exercise ∷ others) → (e : IsExercise (is.images ++ dashes ∷ exercise ∷ others)) × (others ≡ pair e.seed e.rounds)
  exercise_rest others e =
      let same : exercise ∷ others ≡ exercise ∷ pair e.seed e.rounds = same_rest is.images (exercise ∷ others) e.asks.images (exercise ∷ pair e.seed e.rounds) is.are_images e.asks.are_images e.asks.parts in
      (e, (cc))

  -- Some words behind are the first of an exercise's.
  goes_on : (n : ℕ) (past_it : Past words is n) (more : List Word) (seed rounds : ℕ) → seed ≤ most_seed → rounds ≤ 256 → past_it.some ++ more ≡ pair seed rounds → Begins IsKnown (take n words)
  goes_on n past_it more seed rounds seed_within rounds_within parts = record {
    more = more;
    goes_on = inr (record {
      seed = seed;
      rounds = rounds;
      asks = record {
        images = is.images;
        are_images = is.are_images;
        parts = with_more words is n past_it more ∙ ap (λ (ws : List Word). is.images ++ dashes ∷ exercise ∷ ws) parts;
        seed_within = seed_within;
        rounds_within = rounds_within;
      };
    });
  }

  -- Words go wrong behind so many others, with which an exercise begins, where no exercise goes on.
  module _ (j : ℕ) (within : behind + j ≤ length words) (good : Begins IsKnown (take (behind + j) words)) (reach : length is.others ≡ 2 → j < length is.others)
      (bad : (some rest more : List Word) → is.others ≡ some ++ rest → j < length some → (seed rounds : ℕ) → seed ≤ most_seed → rounds ≤ 256 → some ++ more ≡ pair seed rounds → ⊥) where
    bad_rest : (some rest more : List Word) → is.others ≡ some ++ rest → j < length some → IsExercise (is.images ++ dashes ∷ exercise ∷ (some ++ more)) → ⊥
    bad_rest some rest more parts longer e =
        let found = exercise_rest (some ++ more) e in
        bad some rest more parts longer found.0.seed found.0.rounds found.0.asks.seed_within found.0.asks.rounds_within found.1

    pub wrong_there : GoWrongAt IsKnown words (behind + j)
    wrong_there = record {
      refused = λ known. ⊎_elim
          (λ served. not_served_past words is (length words) (omega (arith, all_long)) (omega arith) []
          (subst IsServed (sym (append-nil (take (length words) words) ∙ take_all (length words) words (omega arith))) served))
          (λ e.
          let found = exercise_rest is.others (subst IsExercise is.parts e) in
          let two : length is.others ≡ 2 = ap length found.1 in
          bad is.others [] [] (sym (append-nil is.others)) (reach two) found.0.seed found.0.rounds found.0.asks.seed_within found.0.asks.rounds_within (append-nil is.others ∙ found.1))
          known;
      within = within;
      good = good;
      no_longer = λ n longer le begun. ⊎_elim
          (λ served. not_served_past words is n (omega arith) le begun.more served)
          (λ e.
          let past_it = past words is n (omega arith) le in
          bad_rest past_it.some past_it.rest begun.more past_it.parts (omega (arith, past_it.long)) (subst IsExercise (with_more words is n past_it begun.more) e))
          begun.goes_on;
    }

  -- ---- each of the numbers

  -- a word behind is one of an exercise's
  word_is : (i : ℕ) (some rest more list : List Word) → is.others ≡ some ++ rest → i < length some → some ++ more ≡ list → get_or words (behind + i) [] ≡ get_or list i []
  word_is i some rest more list parts within e =
      word_at i ∙ ap (λ (ws : List Word). get_or ws i []) parts ∙ get_or_append_left some rest [] i within ∙ sym (get_or_append_left some more [] i within) ∙ ap (λ (ws : List Word). get_or ws i []) e

  -- and so it stands among the first of them
  first_is : (i n : ℕ) (past_it : Past words is n) → i < length past_it.some → get_or past_it.some i [] ≡ get_or words (behind + i) []
  first_is i n past_it within = sym (word_at i ∙ ap (λ (ws : List Word). get_or ws i []) past_it.parts ∙ get_or_append_left past_it.some past_it.rest [] i within)

  pub no_seed : LacksAt (IsNumber most_seed) words (behind + 0) → GoWrongAt IsKnown words (behind + 0)
  no_seed lacks =
      let within : behind + 0 ≤ length words = omega (arith, all_long) in
      let past_it = past words is (behind + 0) (omega arith) within in
      let none : past_it.some ≡ [] = nil_from_length past_it.some (omega (arith, past_it.long)) in
      wrong_there 0 within
      (goes_on (behind + 0) past_it (pair 0 0) 0 0 (omega arith) (omega arith) (ap (λ (ws : List Word). ws ++ pair 0 0) none))
      (λ two. omega (arith, two))
      (λ some rest more parts longer seed rounds seed_within rounds_within e.
      let from : length some ≤ length is.others = let both = ap length parts ∙ length-append some rest in omega (arith, both) in
      lacks.none (omega (arith, all_long, from, longer))
      (record { number = seed; spells = record { spelled = word_is 0 some rest more (pair seed rounds) parts longer e; within = seed_within } }))

  module _ (first : ℕ) (has_first : StandsAt (SpellsNumber most_seed first) words (behind + 0)) where
    pub no_rounds : LacksAt (IsNumber 256) words (behind + 1) → GoWrongAt IsKnown words (behind + 1)
    no_rounds lacks =
        let within : behind + 1 ≤ length words = omega (arith, has_first.within) in
        let past_it = past words is (behind + 1) (omega arith) within in
        let one : length past_it.some ≡ 1 = omega (arith, past_it.long) in
        let word : get_or past_it.some 0 [] ≡ decimal first = first_is 0 (behind + 1) past_it (omega (arith, one)) ∙ has_first.is.spelled in
        wrong_there 1 within
        (goes_on (behind + 1) past_it (decimal 0 ∷ []) first 0 has_first.is.within (omega arith)
        (ap (λ (ws : List Word). ws ++ decimal 0 ∷ []) (one_word past_it.some one) ∙ ap (λ (w : Word). w ∷ decimal 0 ∷ []) word))
        (λ two. omega (arith, two))
        (λ some rest more parts longer seed rounds seed_within rounds_within e.
        let from : length some ≤ length is.others = let both = ap length parts ∙ length-append some rest in omega (arith, both) in
        lacks.none (omega (arith, all_long, from, longer))
        (record { number = rounds; spells = record { spelled = word_is 1 some rest more (pair seed rounds) parts longer e; within = rounds_within } }))

    module _ (second : ℕ) (has_second : StandsAt (SpellsNumber 256 second) words (behind + 1)) where
      both_words : (n : ℕ) (past_it : Past words is n) → length past_it.some ≡ 2 → past_it.some ≡ pair first second
      both_words n past_it two =
          let one : get_or past_it.some 0 [] ≡ decimal first = first_is 0 n past_it (omega (arith, two)) ∙ has_first.is.spelled in
          let other : get_or past_it.some 1 [] ≡ decimal second = first_is 1 n past_it (omega (arith, two)) ∙ has_second.is.spelled in
          two_words past_it.some two ∙ ap (λ (w : Word). w ∷ get_or past_it.some 1 [] ∷ []) one ∙ ap (λ (w : Word). decimal first ∷ w ∷ []) other

      pub too_many : behind + 2 < length words → GoWrongAt IsKnown words (behind + 2)
      too_many longer =
          let past_it = past words is (behind + 2) (omega arith) (omega (arith, longer)) in
          let two : length past_it.some ≡ 2 = omega (arith, past_it.long) in
          wrong_there 2 (omega (arith, longer))
          (goes_on (behind + 2) past_it [] first second has_first.is.within has_second.is.within (append-nil past_it.some ∙ both_words (behind + 2) past_it two))
          (λ only. omega (arith, all_long, longer))
          (λ some rest more parts long seed rounds seed_within rounds_within e.
          let both = sym (ap length e) ∙ length-append some more in
          omega (arith, both, long))

      pub asks_so : length words ≤ behind + 2 → AsksForExercise words first second
      asks_so few =
          let past_it = past words is (length words) (omega (arith, all_long)) (omega arith) in
          let two : length is.others ≡ 2 = omega (arith, all_long, few, has_second.within) in
          let word : (i : ℕ) → get_or is.others i [] ≡ get_or words (behind + i) [] = λ i. sym (word_at i) in
          let others : is.others ≡ pair first second =
          two_words is.others two ∙ ap (λ (w : Word). w ∷ get_or is.others 1 [] ∷ []) (word 0 ∙ has_first.is.spelled) ∙ ap (λ (w : Word). decimal first ∷ w ∷ []) (word 1 ∙ has_second.is.spelled) in
          record {
            images = is.images;
            are_images = is.are_images;
            parts = is.parts ∙ ap (λ (ws : List Word). is.images ++ dashes ∷ exercise ∷ ws) others;
            seed_within = has_first.is.within;
            rounds_within = has_second.is.within;
          }
