-- What commands may do.
use Rattle.std.specs.Prelude.{Bool, true, false}
use Rattle.ddf_words.specs.declared.command.Command.{Command}
use Rattle.ddf_words.specs.declared.command.Command.TheVariants.{Examine, Label, Assemble, Show, Read, Scrub, Resync, Rebuild, Copyback, Write, Import, Change}
use Rattle.ddf_words.specs.declared.command.Wish.{Wish}
use Rattle.ddf_words.specs.declared.command.Wish.TheVariants.{Create}
use Rattle.ddf_words.specs.declared.traits.Traits.{Traits}

-- whether a command is done to one group, whether it may write to the disks, whether it may be refused, whether it makes new GUIDs, and whether it takes
-- bytes from the input
abbrev pub row : (takes_group may_write may_refuse makes_names takes_input : Bool) → Traits
row takes_group may_write may_refuse makes_names takes_input = record {
  takes_group = takes_group;
  may_write = may_write;
  may_refuse = may_refuse;
  makes_names = makes_names;
  takes_input = takes_input;
}

-- A new array gets a GUID.
abbrev pub makes_guid : Wish → Bool
makes_guid (Create creation) = true
makes_guid other = false

-- a row a command
abbrev pub traits_of : Command → Traits
traits_of Examine = row false false false false false
traits_of (Label style large slots) = row false true true true false
traits_of Assemble = row true true true false false
traits_of Show = row true false true false false
traits_of (Read name start count) = row true false true false false
traits_of (Scrub name) = row true false true false false
traits_of (Resync name) = row true true true false false
traits_of (Rebuild name) = row true true true false false
traits_of (Copyback name slot) = row true true true false false
traits_of (Write name start count) = row true true true false true
traits_of (Import group) = row true true true false false
traits_of (Change wish) = row true true true (makes_guid wish) false
