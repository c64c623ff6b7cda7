-- Where the words of commands over the blocks of an array go wrong.
use Rattle.std.proofs.Common.{◌≡◌, ◌^◌, ◌+◌, ℕ, List, [], ◌∷◌, codes, drop, length, ◌<◌, refl, ap}
use Rattle.std.specs.Fmt.{decimal}
use Rattle.ddf_words.proofs.Fields.{Fields, Ends, IsMet, ends_met, field_met, lacks_field, behind_field, more_words}
use Rattle.ddf_words.proofs.Names.{a_name}
use Rattle.ddf_words.proofs.Numbers.{zero_number}
use Rattle.ddf_words.proofs.Places.{wrong_behind}
use Rattle.ddf_words.specs.Words.{Word, AreBlocks, IsName, IsNumber, StandsAt, LacksAt, GoWrongAt}

abbrev IsBlocks : Word → Type 0
IsBlocks word = IsNumber (2 ^ 60) word

abbrev AreCount : List Word → Type 0
AreCount words = Fields (IsBlocks ∷ []) Ends words

abbrev AreStartAndCount : List Word → Type 0
AreStartAndCount words = Fields (IsBlocks ∷ IsBlocks ∷ []) Ends words

-- the words behind a command's
abbrev AreArrayBlocks : List Word → Type 0
AreArrayBlocks words = Fields (IsName ∷ IsBlocks ∷ IsBlocks ∷ []) Ends words

are_blocks : (command : Word) (words : List Word) → AreArrayBlocks words → AreBlocks command (command ∷ words)
are_blocks command [] are = absurd are
are_blocks command (name ∷ []) are = absurd are.1
are_blocks command (name ∷ start ∷ []) are = absurd are.1.1
are_blocks command (name ∷ start ∷ count ∷ others) are =
    let ends : others ≡ [] = are.1.1.1 in
    let first = are.1.0 in
    let many = are.1.1.0 in
    record {
      name = name;
      start = first.number;
      count = many.number;
      spells = record {
        parts = rw (first.spells.spelled, many.spells.spelled, ends) refl;
        is_name = are.0;
        start_within = first.spells.within;
        count_within = many.spells.within;
      };
    }

blocks_are : (command : Word) (words : List Word) → AreBlocks command (command ∷ words) → AreArrayBlocks words
blocks_are command words is =
    let parts : words ≡ is.name ∷ decimal is.start ∷ decimal is.count ∷ [] = ap (drop 1) is.spells.parts in
    rw parts (
      is.spells.is_name,
      (
        record { number = is.start; spells = record { spelled = refl; within = is.spells.start_within } },
        (record { number = is.count; spells = record { spelled = refl; within = is.spells.count_within } }, refl),
      ),
    )

-- behind a command's word, words go wrong where those of an array and blocks do
wrong_blocks : (command : Word) (words : List Word) (place : ℕ) → GoWrongAt AreArrayBlocks words place → GoWrongAt (AreBlocks command) (command ∷ words) (1 + place)
wrong_blocks command words place wrong = wrong_behind AreArrayBlocks (AreBlocks command) command words place (blocks_are command) (are_blocks command) wrong

count_met : IsMet AreCount
count_met = field_met IsBlocks [] Ends (decimal 0) (zero_number (2 ^ 60)) ends_met

blocks_met : IsMet AreStartAndCount
blocks_met = field_met IsBlocks (IsBlocks ∷ []) Ends (decimal 0) (zero_number (2 ^ 60)) count_met

array_met : IsMet AreArrayBlocks
array_met = field_met IsName (IsBlocks ∷ IsBlocks ∷ []) Ends (codes "a") a_name blocks_met

module _ (command : Word) (words : List Word) where
  pub wrong_name : LacksAt IsName words 1 → GoWrongAt (AreBlocks command) (command ∷ drop 1 words) 1
  wrong_name lacks = wrong_blocks command (drop 1 words) 0 (lacks_field IsName (IsBlocks ∷ IsBlocks ∷ []) Ends words 1 array_met lacks)

  pub wrong_start : StandsAt IsName words 1 → LacksAt IsBlocks words 2 → GoWrongAt (AreBlocks command) (command ∷ drop 1 words) 2
  wrong_start name lacks = wrong_blocks command (drop 1 words) 1 (behind_field IsName (IsBlocks ∷ IsBlocks ∷ []) Ends words 1 0 name
      (lacks_field IsBlocks (IsBlocks ∷ []) Ends words 2 blocks_met lacks))

  pub wrong_count : StandsAt IsName words 1 → StandsAt IsBlocks words 2 → LacksAt IsBlocks words 3 → GoWrongAt (AreBlocks command) (command ∷ drop 1 words) 3
  wrong_count name start lacks = wrong_blocks command (drop 1 words) 2 (behind_field IsName (IsBlocks ∷ IsBlocks ∷ []) Ends words 1 1 name
      (behind_field IsBlocks (IsBlocks ∷ []) Ends words 2 0 start
      (lacks_field IsBlocks [] Ends words 3 count_met lacks)))

  pub wrong_more : StandsAt IsName words 1 → StandsAt IsBlocks words 2 → StandsAt IsBlocks words 3 → 4 < length words → GoWrongAt (AreBlocks command) (command ∷ drop 1 words) 4
  wrong_more name start count more = wrong_blocks command (drop 1 words) 3 (behind_field IsName (IsBlocks ∷ IsBlocks ∷ []) Ends words 1 2 name
      (behind_field IsBlocks (IsBlocks ∷ []) Ends words 2 1 start
      (behind_field IsBlocks [] Ends words 3 0 count (more_words words 4 more))))
