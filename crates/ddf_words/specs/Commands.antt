-- How large the parts of commands are.
use Rattle.std.specs.Prelude.{◌≤◌, ◌^◌, length}
use Rattle.std.specs.List.{AllByRecursion}
use Rattle.ddf_words.specs.declared.command.Command.{Command}
use Rattle.ddf_words.specs.declared.command.Command.TheVariants.{Examine, Label, Assemble, Show, Read, Scrub, Resync, Rebuild, Copyback, Write, Import, Change}
use Rattle.ddf_words.specs.declared.command.CreateElement.{CreateElement}
use Rattle.ddf_words.specs.declared.command.Creation.{Creation}
use Rattle.ddf_words.specs.declared.command.SpareWord.{SpareWord}
use Rattle.ddf_words.specs.declared.command.SpareWord.TheVariants as spares
use Rattle.ddf_words.specs.declared.command.Wish.{Wish}
use Rattle.ddf_words.specs.declared.command.Wish.TheVariants.{Create, Spare}

-- An element has 1 to 64 members, and each gives 1 to 2^48 blocks.
pub record FitsElement (element : CreateElement) : Type 0 where
  pub some : 1 ≤ length element.slots
  pub few : length element.slots ≤ 64
  pub some_blocks : 1 ≤ element.blocks
  pub few_blocks : element.blocks ≤ 2 ^ 48

-- A new array has a name of at most 16 bytes, a stripe size code of at most 15, and at most 16 elements.
pub record FitsCreation (creation : Creation) : Type 0 where
  pub short : length creation.name ≤ 16
  pub small : creation.code ≤ 15
  pub few : length creation.elements ≤ 16
  pub each : AllByRecursion FitsElement creation.elements

-- A spare for arrays is one for at least one.
abbrev pub FitsSpare : SpareWord → Type 0
FitsSpare spares.Global = Unit {0}
FitsSpare spares.Revertible = Unit {0}
FitsSpare spares.Off = Unit {0}
FitsSpare (spares.For names) = 1 ≤ length names

-- what the parts of a wish keep within
abbrev pub FitsWish : Wish → Type 0
FitsWish (Create creation) = FitsCreation creation
FitsWish (Spare slot word) = FitsSpare word
FitsWish other = Unit {0}

-- and those of a command
abbrev pub FitsCommand : Command → Type 0
FitsCommand Examine = Unit {0}
FitsCommand (Label style large slots) = Unit {0}
FitsCommand Assemble = Unit {0}
FitsCommand Show = Unit {0}
FitsCommand (Read name start count) = Unit {0}
FitsCommand (Scrub name) = Unit {0}
FitsCommand (Resync name) = Unit {0}
FitsCommand (Rebuild name) = Unit {0}
FitsCommand (Copyback name slot) = Unit {0}
FitsCommand (Write name start count) = Unit {0}
FitsCommand (Import group) = Unit {0}
FitsCommand (Change wish) = FitsWish wish
