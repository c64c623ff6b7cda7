-- The words of an exercise, and of all that the program is asked for.
use Rattle.std.specs.Prelude.{◌≡◌, ◌⊎◌, ℕ, ◌+◌, ◌-◌, ◌^◌, ◌≤◌, List, [], ◌∷◌, ◌++◌, Some, codes, position, slice_index_or}
use Rattle.std.specs.Fmt.{decimal}
use Rattle.ddf_words.specs.Words.{Word, AreImages, GoWrongAt, IsAsked, dashes, is_dashes}
use Rattle.ddf_words.specs.Batch.{AsksForBatch, IsServed}
use Rattle.ddf_words.specs.declared.asking.Asking.{Asking}
use Rattle.ddf_words.specs.declared.asking.Asking.TheVariants.{Batch, Command, Exercise, Wrong}

abbrev pub exercise : Word
exercise = codes "exercise"

-- The words name images, and then `exercise`, a seed and a number of rounds.
pub record AsksForExercise (words : List Word) (seed rounds : ℕ) : Type 0 where
  pub images : List Word
  pub are_images : AreImages images
  pub parts : words ≡ images ++ dashes ∷ exercise ∷ decimal seed ∷ decimal rounds ∷ []
  pub seed_within : seed ≤ 2 ^ 64 - 1
  pub rounds_within : rounds ≤ 256

-- some exercise is asked for
pub record IsExercise (words : List Word) : Type 0 where
  pub seed : ℕ
  pub rounds : ℕ
  pub asks : AsksForExercise words seed rounds

-- they ask for a command, a batch or an exercise
abbrev pub IsKnown : List Word → Type 0
IsKnown words = IsServed words ⊎ IsExercise words

-- what they ask for, or where they go wrong
abbrev pub IsAskingOf : List Word → Asking → Type 0
IsAskingOf words (Command asked) = IsAsked words asked
IsAskingOf words (Batch group) = AsksForBatch words group
IsAskingOf words (Exercise seed rounds) = AsksForExercise words seed rounds
IsAskingOf words (Wrong place) = GoWrongAt IsKnown words place

-- `exercise` stands at a place, directly behind the first dashes.
pub record LeadsToExercise (words : List Word) (place : ℕ) : Type 0 where
  pub count : ℕ
  pub is_first : position is_dashes words ≡ Some count
  pub next : place ≡ count + 1
  pub here : slice_index_or words place [] ≡ exercise
