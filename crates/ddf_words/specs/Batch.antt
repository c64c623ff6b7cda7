-- The words that ask for a batch.
use Rattle.std.specs.Prelude.{◌≡◌, ◌⊎◌, ℕ, List, [], ◌∷◌, ◌++◌, Option, Bool, true, false, codes}
use Rattle.ddf_words.specs.Words.{Word, GoWrongAt, IsAccepted, IsAsked}
use Rattle.ddf_words.specs.declared.command.Asked.{Asked}
use Rattle.ddf_words.specs.declared.command.Command.{Command}
use Rattle.ddf_words.specs.declared.command.Command.TheVariants.{Assemble}
use Rattle.ddf_words.specs.declared.batch_order.Order.{Order}
use Rattle.ddf_words.specs.declared.batch_order.Order.TheVariants.{Batch, Other, Wrong}

abbrev pub is_assemble : Command → Bool
is_assemble Assemble = true
is_assemble other = false

-- `assemble`, over a named group or the only one
abbrev pub assembling : Option (List ℕ) → Asked
assembling group = record { group = group; command = Assemble }

-- The words ask for a batch, over a named group or the only one: they are those of `assemble` with `batch` in its place.
pub record AsksForBatch (words : List Word) (group : Option (List ℕ)) : Type 0 where
  pub front : List Word
  pub parts : words ≡ front ++ codes "batch" ∷ []
  pub like_assemble : IsAsked (front ++ codes "assemble" ∷ []) (assembling group)

-- over some group
pub record IsBatch (words : List Word) : Type 0 where
  pub group : Option (List ℕ)
  pub asks : AsksForBatch words group

-- they ask for a batch, or for another command
abbrev pub IsServed : List Word → Type 0
IsServed words = IsAccepted words ⊎ IsBatch words

-- They ask for a batch over this group, for one over no other, and for nothing else.
pub record AskForBatch (words : List Word) (group : Option (List ℕ)) : Type 0 where
  pub asks : AsksForBatch words group
  pub alone : (other : Option (List ℕ)) → AsksForBatch words other → other ≡ group
  pub no_command : IsAccepted words → ⊥

-- They ask for no batch, and go wrong where they are no other command's.
pub record AskForNone (words : List Word) : Type 0 where
  pub no_batch : IsBatch words → ⊥
  pub goes_wrong : (place : ℕ) → GoWrongAt IsServed words place → GoWrongAt IsAccepted words place
  pub wrong_too : (place : ℕ) → GoWrongAt IsAccepted words place → GoWrongAt IsServed words place

-- what the words ask for, as far as batches go
abbrev pub IsOrder : List Word → Order → Type 0
IsOrder words Other = AskForNone words
IsOrder words (Batch group) = AskForBatch words group
IsOrder words (Wrong place) = GoWrongAt IsServed words place
