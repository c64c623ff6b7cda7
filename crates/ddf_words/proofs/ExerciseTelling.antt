-- What is told of words in which `exercise` stands, by the place where it does.
use Rattle.std.proofs.Common.{◌≡◌, ℕ, ◌+◌, ◌<◌, ◌≤◌, List, length, sym, subst, arith}
use Rattle.ddf_words.specs.Words.{Word, GoWrongAt, IsNumber, LacksAt, SpellsNumber, StandsAt}
use Rattle.ddf_words.specs.Batch.{IsServed}
use Rattle.ddf_words.specs.Asking.{AsksForExercise, IsKnown, LeadsToExercise}
use Rattle.ddf_words.proofs.ExerciseLeading.{front, next_place, stands_there}
use Rattle.ddf_words.proofs.ExerciseNumbers.{asks_so, most_seed, no_rounds, no_seed, too_many}
use Rattle.ddf_words.proofs.ExerciseWrongly.{Stands}

module _ (words : List Word) (place : ℕ) (wrong : GoWrongAt IsServed words place) (leads : LeadsToExercise words place) where
  abbrev is : Stands words
  is = stands_there words place wrong leads

  -- so many words behind `exercise` and its place
  behind_is : (j k : ℕ) → k ≡ j + 1 → length (front words is) + j ≡ place + k
  behind_is j k same = omega (arith, next_place words place wrong leads)

  at_place : (P : ℕ → Type 0) (j k : ℕ) → k ≡ j + 1 → P (length (front words is) + j) → P (place + k)
  at_place P j k same = subst P (behind_is j k same)

  from_place : (P : ℕ → Type 0) (j k : ℕ) → k ≡ j + 1 → P (place + k) → P (length (front words is) + j)
  from_place P j k same = subst P (sym (behind_is j k same))

  pub without_seed : LacksAt (IsNumber most_seed) words (place + 1) → GoWrongAt IsKnown words (place + 1)
  without_seed lacks = at_place (GoWrongAt IsKnown words) 0 1 (omega arith) (no_seed words is (from_place (LacksAt (IsNumber most_seed) words) 0 1 (omega arith) lacks))

  module _ (first : ℕ) (has_first : StandsAt (SpellsNumber most_seed first) words (place + 1)) where
    pub without_rounds : LacksAt (IsNumber 256) words (place + 2) → GoWrongAt IsKnown words (place + 2)
    without_rounds lacks =
        at_place (GoWrongAt IsKnown words) 1 2 (omega arith)
        (no_rounds words is first (from_place (StandsAt (SpellsNumber most_seed first) words) 0 1 (omega arith) has_first) (from_place (LacksAt (IsNumber 256) words) 1 2 (omega arith) lacks))

    module _ (second : ℕ) (has_second : StandsAt (SpellsNumber 256 second) words (place + 2)) where
      pub with_more_words : place + 3 < length words → GoWrongAt IsKnown words (place + 3)
      with_more_words longer =
          at_place (GoWrongAt IsKnown words) 2 3 (omega arith)
          (too_many words is first (from_place (StandsAt (SpellsNumber most_seed first) words) 0 1 (omega arith) has_first) second
          (from_place (StandsAt (SpellsNumber 256 second) words) 1 2 (omega arith) has_second) (from_place (λ (n : ℕ). n < length words) 2 3 (omega arith) longer))

      pub with_both : length words ≤ place + 3 → AsksForExercise words first second
      with_both few =
          asks_so words is first (from_place (StandsAt (SpellsNumber most_seed first) words) 0 1 (omega arith) has_first) second
          (from_place (StandsAt (SpellsNumber 256 second) words) 1 2 (omega arith) has_second) (from_place (λ (n : ℕ). length words ≤ n) 2 3 (omega arith) few)
