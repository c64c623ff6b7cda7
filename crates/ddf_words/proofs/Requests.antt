-- Where the words of a command, and those behind the dashes, go wrong.
use Rattle.std.proofs.Common.{◌≡◌, ◌≢◌, ℕ, ◌+◌, List, [], ◌∷◌, take, drop, refl, sym, ap, ◌∙◌, Option, Some, None, true, arith}
use Rattle.ddf_words.proofs.Guids.{same_guid}
use Rattle.ddf_words.proofs.Commands.{examine, label, assemble, name_of, begins_with, no_name_of_group, no_words, examine_alone, label_names, same_command, over_group}
use Rattle.ddf_words.proofs.Wishes.{first_word}
use Rattle.ddf_words.proofs.Places.{begins_itself, wrong_word, wanting_words, wrong_among, wrong_behind}
use Rattle.ddf_words.specs.Traits.{traits_of}
use Rattle.ddf_words.specs.Words.{Word, NameDisks, Spells, NamesGroup, SpellOverGroup, SpellsAsked, IsCommand, IsGroupCommand, IsRequest, Begins, GoWrongAt}
use Rattle.ddf_words.specs.declared.command.Command.{Command}
use Rattle.ddf_words.specs.declared.command.Command.TheVariants.{Examine, Label, Assemble}

-- ---- the words of a command

examine_begins : (place : ℕ) → Begins IsCommand (take place (examine ∷ []))
examine_begins place = begins_itself IsCommand (examine ∷ []) place (record { command = Examine; spells = refl })

pub no_command : (words : List Word) → words ≡ [] → GoWrongAt IsCommand words 0
no_command words e = rw e (wanting_words IsCommand [] (examine_begins 0) (λ is. no_words is.command is.spells))

pub more_words : (words rest : List Word) (next : Word) → words ≡ examine ∷ next ∷ rest → GoWrongAt IsCommand words 1
more_words words rest next e = rw e (wrong_word IsCommand (examine ∷ next ∷ rest) 1 (omega arith) (examine_begins 1)
    (λ begun. let e : next ∷ begun.more ≡ [] = examine_alone _ begun.goes_on.command begun.goes_on.spells in cc))

-- behind `label`, the words go wrong where those of new disks do
pub wrong_disks : (words rest : List Word) (place : ℕ) → words ≡ label ∷ rest → GoWrongAt NameDisks rest place → GoWrongAt IsCommand words (1 + place)
wrong_disks words rest place e wrong = rw e (wrong_behind NameDisks IsCommand label rest place
    (λ more is. label_names more is.command is.spells)
    (λ more is. record { command = Label is.style is.large is.slots; spells = record { rest = more; parts = refl; are_disks = is.are_disks } })
    wrong)

-- a command of another name takes a group
pub other_command : (words rest : List Word) (name : Word) (place : ℕ) → words ≡ name ∷ rest → name ≢ examine → name ≢ label → GoWrongAt IsGroupCommand words place → GoWrongAt IsCommand words place
other_command words rest name place e not_examine not_label wrong = rw e (wrong_among IsGroupCommand IsCommand name rest place
    (λ ws is. record { command = is.command; spells = is.spells })
    (λ more is. over_group name more not_examine not_label is.command is.spells)
    (rw e at wrong))

-- ---- the words of a command that takes a group

assemble_begins : (place : ℕ) → Begins IsGroupCommand (take place (assemble ∷ []))
assemble_begins place = begins_itself IsGroupCommand (assemble ∷ []) place (record { command = Assemble; takes_one = refl; spells = refl })

pub no_group_command : (words : List Word) → words ≡ [] → GoWrongAt IsGroupCommand words 0
no_group_command words e = rw e (wanting_words IsGroupCommand [] (assemble_begins 0) (λ is. no_words is.command is.spells))

pub other_group_command : (words rest : List Word) (name : Word) → words ≡ name ∷ rest → ((command : Command) → (traits_of command).takes_group ≡ true → name ≢ name_of command)
    → GoWrongAt IsGroupCommand words 0
other_group_command words rest name e other = rw e (wrong_word IsGroupCommand (name ∷ rest) 0 (omega arith) (assemble_begins 0)
    (λ begun. other begun.goes_on.command begun.goes_on.takes_one (begins_with (name ∷ begun.more) begun.goes_on.command begun.goes_on.spells)))

-- behind a name that stands alone nothing goes on
pub more_group_words : (name : Word) → IsGroupCommand (name ∷ []) → ((more : List Word) (command : Command) → Spells command (name ∷ more) → more ≡ [])
    → (words rest : List Word) (next : Word) → words ≡ name ∷ next ∷ rest → GoWrongAt IsGroupCommand words 1
more_group_words name is alone words rest next e = rw e (wrong_word IsGroupCommand (name ∷ next ∷ rest) 1 (omega arith) (begins_itself IsGroupCommand (name ∷ []) 1 is)
    (λ begun. let e : next ∷ begun.more ≡ [] = alone _ begun.goes_on.command begun.goes_on.spells in cc))

-- ---- behind the dashes

-- a word names one group
same_group : (group group' : List ℕ) (word : Word) → NamesGroup group word → NamesGroup group' word → group ≡ group'
same_group group group' word names names' = same_guid group group' names.is_guid names'.is_guid (ap (drop 1) (sym names.spelled ∙ names'.spelled))

one_group : (words : List Word) (group : List ℕ) (command command' : Command) → Spells command words → SpellOverGroup group command' words → ⊥
one_group words group command command' spells over = no_name_of_group group over.word over.others command over.names_group (rw over.parts at spells)

-- words behind the dashes ask for one thing
pub same_request : (words : List Word) (group group' : Option (List ℕ)) (command command' : Command) → SpellsAsked group command words → SpellsAsked group' command' words
    → (group ≡ group') × (command ≡ command')
same_request words None None command command' spells spells' = (refl, same_command words command command' spells spells')
same_request words None (Some group) command command' spells spells' = absurd (one_group words group command command' spells spells')
same_request words (Some group) None command command' spells spells' = absurd (one_group words group command' command spells' spells)
same_request words (Some group) (Some group') command command' spells spells' =
    let parts = sym spells.parts ∙ spells'.parts in
    let word : spells.word ≡ spells'.word = ap first_word parts in
    let others : spells.others ≡ spells'.others = ap (drop 1) parts in (
      ap Some (same_group group group' spells'.word (rw word at spells.names_group) spells'.names_group),
      same_command spells'.others command command' (rw others at spells.spells) spells'.spells,
    )

-- a command may stand there alone
plain_request : (words : List Word) → IsCommand words → IsRequest words
plain_request words is = record { asked = record { group = None; command = is.command }; spells = is.spells }

request_begins : Begins IsRequest []
request_begins = record { more = examine ∷ []; goes_on = plain_request (examine ∷ []) (record { command = Examine; spells = refl }) }

nothing_asked : (group : Option (List ℕ)) (command : Command) → SpellsAsked group command [] → ⊥
nothing_asked None command spells = no_words command spells
nothing_asked (Some group) command spells = let parts = spells.parts in cc

pub no_request : (words : List Word) → words ≡ [] → GoWrongAt IsRequest words 0
no_request words e = rw e (wanting_words IsRequest [] request_begins (λ is. nothing_asked is.asked.group is.asked.command is.spells))

module _ (words : List Word) (name : Word) (rest : List Word) (place : ℕ) (e : words ≡ name ∷ rest) where
  without_group : ((group : List ℕ) → NamesGroup group name → ⊥) → (more : List Word) (group : Option (List ℕ)) (command : Command) → SpellsAsked group command (name ∷ more) → IsCommand (name ∷ more)
  without_group none more None command spells = record { command = command; spells = spells }
  without_group none more (Some group) command spells =
      let word : spells.word ≡ name = ap first_word (sym spells.parts) in
      absurd (none group (rw word at spells.names_group))

  -- the first word names no group
  pub wrong_without_group : ((group : List ℕ) → NamesGroup group name → ⊥) → GoWrongAt IsCommand words place → GoWrongAt IsRequest words place
  wrong_without_group none wrong = rw e (wrong_among IsCommand IsRequest name rest place plain_request
      (λ more is. without_group none more is.asked.group is.asked.command is.spells) (rw e at wrong))

  with_group : (group : List ℕ) → NamesGroup group name → (more : List Word) (group' : Option (List ℕ)) (command : Command) → SpellsAsked group' command (name ∷ more) → IsGroupCommand more
  with_group group names more None command spells = absurd (no_name_of_group group name more command names spells)
  with_group group names more (Some group') command spells =
      let others : spells.others ≡ more = ap (drop 1) (sym spells.parts) in
      record { command = command; takes_one = spells.takes_one; spells = rw others at spells.spells }

  -- it names one
  pub wrong_over_group : (group : List ℕ) → NamesGroup group name → GoWrongAt IsGroupCommand rest place → GoWrongAt IsRequest words (1 + place)
  wrong_over_group group names wrong = rw e (wrong_behind IsGroupCommand IsRequest name rest place
      (λ more is. with_group group names more is.asked.group is.asked.command is.spells)
      (λ more is. record {
        asked = record { group = Some group; command = is.command };
        spells = record { word = name; others = more; parts = refl; names_group = names; takes_one = is.takes_one; spells = is.spells };
      })
      wrong)
