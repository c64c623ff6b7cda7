-- How large the parts of a command are that words spell.
use Rattle.std.proofs.Common.{ℕ, ◌≤◌, List, [], ◌∷◌, length, Option, Some, None, arith}
use Rattle.std.specs.List.{AllByRecursion}
use Rattle.ddf_words.specs.Commands.{FitsCommand, FitsElement, FitsSpare, FitsWish}
use Rattle.ddf_words.specs.Words.{Word, SpellElements, Spells, SpellsAsked, SpellsSpare, SpellsWish}
use Rattle.ddf_words.specs.declared.command.Command.{Command}
use Rattle.ddf_words.specs.declared.command.Command.TheVariants.{Examine, Label, Assemble, Show, Read, Scrub, Resync, Rebuild, Copyback, Write, Import, Change}
use Rattle.ddf_words.specs.declared.command.CreateElement.{CreateElement}
use Rattle.ddf_words.specs.declared.command.SpareWord.{SpareWord}
use Rattle.ddf_words.specs.declared.command.SpareWord.TheVariants as spares
use Rattle.ddf_words.specs.declared.command.Wish.{Wish}
use Rattle.ddf_words.specs.declared.command.Wish.TheVariants.{Create, Spare}

fit_elements : (elements : List CreateElement) (words : List Word) → SpellElements elements words → AllByRecursion FitsElement elements
fit_elements [] words spell = tt
fit_elements (element ∷ elements) [] spell = absurd spell
fit_elements (element ∷ elements) (word ∷ words) spell =
    let spells = spell.0 in
    let fits : FitsElement element = record {
      some = spells.are_slots.some;
      few = spells.are_slots.few;
      some_blocks = spells.some;
      few_blocks = spells.within;
    } in
    (fits, fit_elements elements words spell.1)

few_elements : (elements : List CreateElement) (words : List Word) → SpellElements elements words → length elements ≤ length words
few_elements [] words spell = omega arith
few_elements (element ∷ elements) [] spell = absurd spell
few_elements (element ∷ elements) (word ∷ words) spell = omega (arith, few_elements elements words spell.1)

fits_spare : (word : SpareWord) (words : List Word) → SpellsSpare word words → FitsSpare word
fits_spare spares.Global words spells = tt
fits_spare spares.Revertible words spells = tt
fits_spare spares.Off words spells = tt
fits_spare (spares.For names) words spells = spells.are_names.some

fits_wish : (wish : Wish) (words : List Word) → SpellsWish wish words → FitsWish wish
fits_wish (Create creation) words spells =
    let few = few_elements creation.elements spells.rest spells.are_elements.spell in
    record {
      short = spells.is_name.few;
      small = spells.code_within;
      few = omega (arith, few, spells.are_elements.few);
      each = fit_elements creation.elements spells.rest spells.are_elements.spell;
    }
fits_wish (Spare slot word) words spells = fits_spare word spells.rest spells.spells
fits_wish other words spells = tt

fits : (command : Command) (words : List Word) → Spells command words → FitsCommand command
fits Examine words spells = tt
fits (Label style large slots) words spells = tt
fits Assemble words spells = tt
fits Show words spells = tt
fits (Read name start count) words spells = tt
fits (Scrub name) words spells = tt
fits (Resync name) words spells = tt
fits (Rebuild name) words spells = tt
fits (Copyback name slot) words spells = tt
fits (Write name start count) words spells = tt
fits (Import group) words spells = tt
fits (Change wish) words spells = fits_wish wish words spells

-- the command that is asked for keeps within
pub fits_command : (group : Option (List ℕ)) (command : Command) (words : List Word) → SpellsAsked group command words → FitsCommand command
fits_command None command words spells = fits command words spells
fits_command (Some group) command words spells = fits command spells.others spells.spells
