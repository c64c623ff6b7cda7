-- Which words spell which command.
use Rattle.std.proofs.Common.{◌≡◌, ◌≢◌, ◌^◌, ℕ, List, [], ◌∷◌, get_or, drop, refl, sym, ap, ◌∙◌, arith, codes, true}
use Rattle.ddf_words.proofs.Guids.{same_guid}
use Rattle.ddf_words.proofs.Labels.{same_disks}
use Rattle.ddf_words.proofs.Numbers.{same_number}
use Rattle.ddf_words.proofs.Wishes.{accept, create, delete, fail, first_word, no_wish, same_wish, spare, unlike, wish_begins, wish_name, wish_not_at, word_at}
use Rattle.ddf_words.specs.Traits.{traits_of}
use Rattle.ddf_words.specs.Words.{Word, AreBlocks, NameDisks, NamesGroup, Spells, SpellBlocks, SpellCopyback, SpellCreate, SpellFail, SpellImport, SpellNamed, SpellSpare, IsGroupCommand, IsNamed}
use Rattle.ddf_words.specs.declared.command.Command.{Command}
use Rattle.ddf_words.specs.declared.command.Command.TheVariants.{Examine, Label, Assemble, Show, Read, Scrub, Resync, Rebuild, Copyback, Write, Import, Change}
use Rattle.ddf_words.specs.declared.command.Creation.{Creation}
use Rattle.ddf_words.specs.declared.command.SpareWord.{SpareWord}
use Rattle.ddf_words.specs.declared.command.Wish.TheVariants.{Create, Delete, Accept, Spare, Fail}

abbrev pub examine : Word
examine = codes "examine"

abbrev pub label : Word
label = codes "label"

abbrev pub assemble : Word
assemble = codes "assemble"

abbrev pub show : Word
show = codes "show"

abbrev pub read : Word
read = codes "read"

abbrev pub scrub : Word
scrub = codes "scrub"

abbrev pub resync : Word
resync = codes "resync"

abbrev pub rebuild : Word
rebuild = codes "rebuild"

abbrev pub copyback : Word
copyback = codes "copyback"

abbrev pub write : Word
write = codes "write"

abbrev pub join_words : Word
join_words = codes "import"

-- the name of a command
abbrev pub name_of : Command → Word
name_of Examine = examine
name_of (Label style large slots) = label
name_of Assemble = assemble
name_of Show = show
name_of (Read name start count) = read
name_of (Scrub name) = scrub
name_of (Resync name) = resync
name_of (Rebuild name) = rebuild
name_of (Copyback name slot) = copyback
name_of (Write name start count) = write
name_of (Import group) = join_words
name_of (Change wish) = wish_name wish

-- with it the words begin
pub begins_with : (words : List Word) (command : Command) → Spells command words → first_word words ≡ name_of command
begins_with words Examine spells = ap first_word spells
begins_with words (Label style large slots) spells = ap first_word spells.parts
begins_with words Assemble spells = ap first_word spells
begins_with words Show spells = ap first_word spells
begins_with words (Read name start count) spells = ap first_word spells.parts
begins_with words (Scrub name) spells = ap first_word spells.parts
begins_with words (Resync name) spells = ap first_word spells.parts
begins_with words (Rebuild name) spells = ap first_word spells.parts
begins_with words (Copyback name slot) spells = ap first_word spells.parts
begins_with words (Write name start count) spells = ap first_word spells.parts
begins_with words (Import group) spells = ap first_word spells.parts
begins_with words (Change wish) spells = wish_begins words wish spells

-- no name begins with `@`
pub not_at : (command : Command) → get_or (name_of command) 0 0 ≢ 64
not_at Examine e = omega (arith, e)
not_at (Change wish) e = wish_not_at wish e
not_at command e = omega (arith, e)

-- that of a group does
pub at_sign : (group : List ℕ) (word : Word) → NamesGroup group word → get_or word 0 0 ≡ 64
at_sign group word names = ap (λ (w : Word). get_or w 0 0) names.spelled

-- so no command begins with a group's
pub no_name_of_group : (group : List ℕ) (word : Word) (more : List Word) (command : Command) → NamesGroup group word → Spells command (word ∷ more) → ⊥
no_name_of_group group word more command names spells = not_at command (ap (λ (w : Word). get_or w 0 0) (sym (begins_with (word ∷ more) command spells)) ∙ at_sign group word names)

pub no_words : (command : Command) → Spells command [] → ⊥
no_words Examine spells = cc
no_words (Change wish) spells = no_wish [] (refl, refl, refl, refl, refl) wish (wish_begins [] wish spells)
no_words command spells = unlike [] (name_of command) refl (begins_with [] command spells)

-- ---- the words behind each name

pub examine_alone : (rest : List Word) (command : Command) → Spells command (examine ∷ rest) → rest ≡ []
examine_alone rest Examine spells = cc
examine_alone rest (Change wish) spells = absurd (no_wish examine (refl, refl, refl, refl, refl) wish (wish_begins (examine ∷ rest) wish spells))
examine_alone rest command spells = absurd (unlike examine (name_of command) refl (begins_with (examine ∷ rest) command spells))

pub label_names : (rest : List Word) (command : Command) → Spells command (label ∷ rest) → NameDisks rest
label_names rest (Label style large slots) spells =
    let same : rest ≡ spells.rest = ap (drop 1) spells.parts in
    record { style = style; large = large; slots = slots; are_disks = rw same spells.are_disks }
label_names rest (Change wish) spells = absurd (no_wish label (refl, refl, refl, refl, refl) wish (wish_begins (label ∷ rest) wish spells))
label_names rest command spells = absurd (unlike label (name_of command) refl (begins_with (label ∷ rest) command spells))

pub assemble_alone : (rest : List Word) (command : Command) → Spells command (assemble ∷ rest) → rest ≡ []
assemble_alone rest Assemble spells = cc
assemble_alone rest (Change wish) spells = absurd (no_wish assemble (refl, refl, refl, refl, refl) wish (wish_begins (assemble ∷ rest) wish spells))
assemble_alone rest command spells = absurd (unlike assemble (name_of command) refl (begins_with (assemble ∷ rest) command spells))

pub show_alone : (rest : List Word) (command : Command) → Spells command (show ∷ rest) → rest ≡ []
show_alone rest Show spells = cc
show_alone rest (Change wish) spells = absurd (no_wish show (refl, refl, refl, refl, refl) wish (wish_begins (show ∷ rest) wish spells))
show_alone rest command spells = absurd (unlike show (name_of command) refl (begins_with (show ∷ rest) command spells))

pub read_names : (rest : List Word) (command : Command) → Spells command (read ∷ rest) → AreBlocks read (read ∷ rest)
read_names rest (Read name start count) spells = record { name = name; start = start; count = count; spells = spells }
read_names rest (Change wish) spells = absurd (no_wish read (refl, refl, refl, refl, refl) wish (wish_begins (read ∷ rest) wish spells))
read_names rest command spells = absurd (unlike read (name_of command) refl (begins_with (read ∷ rest) command spells))

pub scrub_names : (rest : List Word) (command : Command) → Spells command (scrub ∷ rest) → IsNamed scrub (scrub ∷ rest)
scrub_names rest (Scrub name) spells = record { name = name; spells = spells }
scrub_names rest (Change wish) spells = absurd (no_wish scrub (refl, refl, refl, refl, refl) wish (wish_begins (scrub ∷ rest) wish spells))
scrub_names rest command spells = absurd (unlike scrub (name_of command) refl (begins_with (scrub ∷ rest) command spells))

pub resync_names : (rest : List Word) (command : Command) → Spells command (resync ∷ rest) → IsNamed resync (resync ∷ rest)
resync_names rest (Resync name) spells = record { name = name; spells = spells }
resync_names rest (Change wish) spells = absurd (no_wish resync (refl, refl, refl, refl, refl) wish (wish_begins (resync ∷ rest) wish spells))
resync_names rest command spells = absurd (unlike resync (name_of command) refl (begins_with (resync ∷ rest) command spells))

pub rebuild_names : (rest : List Word) (command : Command) → Spells command (rebuild ∷ rest) → IsNamed rebuild (rebuild ∷ rest)
rebuild_names rest (Rebuild name) spells = record { name = name; spells = spells }
rebuild_names rest (Change wish) spells = absurd (no_wish rebuild (refl, refl, refl, refl, refl) wish (wish_begins (rebuild ∷ rest) wish spells))
rebuild_names rest command spells = absurd (unlike rebuild (name_of command) refl (begins_with (rebuild ∷ rest) command spells))

-- the words behind `copyback` name an array and a slot
pub record NameCopyback (words : List Word) : Type 0 where
  pub name : Word
  pub slot : ℕ
  pub spells : SpellCopyback name slot (copyback ∷ words)

pub copyback_names : (rest : List Word) (command : Command) → Spells command (copyback ∷ rest) → NameCopyback rest
copyback_names rest (Copyback name slot) spells = record { name = name; slot = slot; spells = spells }
copyback_names rest (Change wish) spells = absurd (no_wish copyback (refl, refl, refl, refl, refl) wish (wish_begins (copyback ∷ rest) wish spells))
copyback_names rest command spells = absurd (unlike copyback (name_of command) refl (begins_with (copyback ∷ rest) command spells))

pub write_names : (rest : List Word) (command : Command) → Spells command (write ∷ rest) → AreBlocks write (write ∷ rest)
write_names rest (Write name start count) spells = record { name = name; start = start; count = count; spells = spells }
write_names rest (Change wish) spells = absurd (no_wish write (refl, refl, refl, refl, refl) wish (wish_begins (write ∷ rest) wish spells))
write_names rest command spells = absurd (unlike write (name_of command) refl (begins_with (write ∷ rest) command spells))

pub create_names : (rest : List Word) (command : Command) → Spells command (create ∷ rest) → (creation : Creation) × SpellCreate creation (create ∷ rest)
create_names rest (Change (Create creation)) spells = (creation, spells)
create_names rest command spells = absurd (unlike create (name_of command) refl (begins_with (create ∷ rest) command spells))

pub delete_names : (rest : List Word) (command : Command) → Spells command (delete ∷ rest) → IsNamed delete (delete ∷ rest)
delete_names rest (Change (Delete name)) spells = record { name = name; spells = spells }
delete_names rest command spells = absurd (unlike delete (name_of command) refl (begins_with (delete ∷ rest) command spells))

pub accept_names : (rest : List Word) (command : Command) → Spells command (accept ∷ rest) → IsNamed accept (accept ∷ rest)
accept_names rest (Change (Accept name)) spells = record { name = name; spells = spells }
accept_names rest command spells = absurd (unlike accept (name_of command) refl (begins_with (accept ∷ rest) command spells))

-- the words behind `spare` name a slot and a use
pub record NameSpare (words : List Word) : Type 0 where
  pub slot : ℕ
  pub word : SpareWord
  pub spells : SpellSpare slot word (spare ∷ words)

pub spare_names : (rest : List Word) (command : Command) → Spells command (spare ∷ rest) → NameSpare rest
spare_names rest (Change (Spare slot word)) spells = record { slot = slot; word = word; spells = spells }
spare_names rest command spells = absurd (unlike spare (name_of command) refl (begins_with (spare ∷ rest) command spells))

pub fail_names : (rest : List Word) (command : Command) → Spells command (fail ∷ rest) → (slot : ℕ) × SpellFail slot (fail ∷ rest)
fail_names rest (Change (Fail slot)) spells = (slot, spells)
fail_names rest command spells = absurd (unlike fail (name_of command) refl (begins_with (fail ∷ rest) command spells))

pub import_names : (rest : List Word) (command : Command) → Spells command (join_words ∷ rest) → (group : List ℕ) × SpellImport group (join_words ∷ rest)
import_names rest (Import group) spells = (group, spells)
import_names rest (Change wish) spells = absurd (no_wish join_words (refl, refl, refl, refl, refl) wish (wish_begins (join_words ∷ rest) wish spells))
import_names rest command spells = absurd (unlike join_words (name_of command) refl (begins_with (join_words ∷ rest) command spells))

-- ---- words ask for one command

module _ (word : Word) (words : List Word) (name name' : Word) where
  same_named : SpellNamed word name words → SpellNamed word name' words → name ≡ name'
  same_named spells spells' = ap (word_at 1) (sym spells.parts ∙ spells'.parts)

  module _ (start start' count count' : ℕ) (spells : SpellBlocks word name start count words) (spells' : SpellBlocks word name' start' count' words) where
    same_array : name ≡ name'
    same_array = ap (word_at 1) (sym spells.parts ∙ spells'.parts)

    same_start : start ≡ start'
    same_start = same_number (2 ^ 60) start start' (omega arith) spells.start_within spells'.start_within (ap (word_at 2) (sym spells.parts ∙ spells'.parts))

    same_count : count ≡ count'
    same_count = same_number (2 ^ 60) count count' (omega arith) spells.count_within spells'.count_within (ap (word_at 3) (sym spells.parts ∙ spells'.parts))

    same_blocks : (command : Word → ℕ → ℕ → Command) → command name start count ≡ command name' start' count'
    same_blocks command = λ i. command (same_array i) (same_start i) (same_count i)

-- the words name one array and one slot
same_copyback : (words : List Word) (name name' : Word) (slot slot' : ℕ) → SpellCopyback name slot words → SpellCopyback name' slot' words → Copyback name slot ≡ Copyback name' slot'
same_copyback words name name' slot slot' spells spells' =
    let parts = sym spells.parts ∙ spells'.parts in
    let array : name ≡ name' = ap (word_at 1) parts in
    let number : slot ≡ slot' = same_number 63 slot slot' (omega arith) spells.slot_within spells'.slot_within (ap (word_at 2) parts) in
    λ i. Copyback (array i) (number i)

-- the words name one group
same_import : (words : List Word) (group group' : List ℕ) → SpellImport group words → SpellImport group' words → group ≡ group'
same_import words group group' spells spells' = same_guid group group' spells.is_guid spells'.is_guid (ap (word_at 1) (sym spells.parts ∙ spells'.parts))

pub same_command : (words : List Word) (command command' : Command) → Spells command words → Spells command' words → command ≡ command'
same_command words Examine Examine spells spells' = refl
same_command words Assemble Assemble spells spells' = refl
same_command words Show Show spells spells' = refl
same_command words (Label style large slots) (Label style' large' slots') spells spells' =
    let rest : spells.rest ≡ spells'.rest = ap (drop 1) (sym spells.parts ∙ spells'.parts) in
    let same = same_disks style style' large large' slots slots' spells'.rest (rw rest at spells.are_disks) spells'.are_disks in
    λ i. Label (same.0 i) (same.1 i) (same.2 i)
same_command words (Read name start count) (Read name' start' count') spells spells' = same_blocks read words name name' start start' count count' spells spells' Read
same_command words (Scrub name) (Scrub name') spells spells' = ap Scrub (same_named scrub words name name' spells spells')
same_command words (Resync name) (Resync name') spells spells' = ap Resync (same_named resync words name name' spells spells')
same_command words (Rebuild name) (Rebuild name') spells spells' = ap Rebuild (same_named rebuild words name name' spells spells')
same_command words (Copyback name slot) (Copyback name' slot') spells spells' = same_copyback words name name' slot slot' spells spells'
same_command words (Write name start count) (Write name' start' count') spells spells' = same_blocks write words name name' start start' count count' spells spells' Write
same_command words (Import group) (Import group') spells spells' = ap Import (same_import words group group' spells spells')
same_command words (Change wish) (Change wish') spells spells' = ap Change (same_wish words wish wish' spells spells')
same_command words (Change wish) command' spells spells' =
    absurd (no_wish (name_of command') (refl, refl, refl, refl, refl) wish (sym (begins_with words command' spells') ∙ wish_begins words wish spells))
same_command words command (Change wish') spells spells' =
    absurd (no_wish (name_of command) (refl, refl, refl, refl, refl) wish' (sym (begins_with words command spells) ∙ wish_begins words wish' spells'))
same_command words command command' spells spells' =
    absurd (unlike (name_of command) (name_of command') refl (sym (begins_with words command spells) ∙ begins_with words command' spells'))

-- a command of another name takes a group
pub over_group : (name : Word) (more : List Word) → name ≢ examine → name ≢ label → (command : Command) → Spells command (name ∷ more) → IsGroupCommand (name ∷ more)
over_group name more not_examine not_label Examine spells = absurd (not_examine (ap first_word spells))
over_group name more not_examine not_label (Label style large slots) spells = absurd (not_label (ap first_word spells.parts))
over_group name more not_examine not_label command spells = record { command = command; takes_one = refl; spells = spells }

-- another name is none of a command over a group
pub record IsOther (name : Word) : Type 0 where
  pub assemble : name ≢ codes "assemble"
  pub show : name ≢ codes "show"
  pub read : name ≢ codes "read"
  pub scrub : name ≢ codes "scrub"
  pub resync : name ≢ codes "resync"
  pub rebuild : name ≢ codes "rebuild"
  pub copyback : name ≢ codes "copyback"
  pub write : name ≢ codes "write"
  pub create : name ≢ codes "create"
  pub delete : name ≢ codes "delete"
  pub accept : name ≢ codes "accept"
  pub spare : name ≢ codes "spare"
  pub fail : name ≢ codes "fail"
  pub join : name ≢ codes "import"

pub other_name : (name : Word) → IsOther name → (command : Command) → (traits_of command).takes_group ≡ true → name ≢ name_of command
other_name name other Examine takes e = cc
other_name name other (Label style large slots) takes e = cc
other_name name other Assemble takes e = other.assemble e
other_name name other Show takes e = other.show e
other_name name other (Read array start count) takes e = other.read e
other_name name other (Scrub array) takes e = other.scrub e
other_name name other (Resync array) takes e = other.resync e
other_name name other (Rebuild array) takes e = other.rebuild e
other_name name other (Copyback array slot) takes e = other.copyback e
other_name name other (Write array start count) takes e = other.write e
other_name name other (Import group) takes e = other.join e
other_name name other (Change (Create creation)) takes e = other.create e
other_name name other (Change (Delete array)) takes e = other.delete e
other_name name other (Change (Accept array)) takes e = other.accept e
other_name name other (Change (Spare slot word)) takes e = other.spare e
other_name name other (Change (Fail slot)) takes e = other.fail e
