-- The words of `ddf`: which lists of words ask for which command, and where other words go wrong.
use Rattle.std.specs.Prelude.{◌≡◌, ◌≢◌, ◌⊎◌, ℕ, ◌≤◌, ◌<◌, ◌^◌, List, [], ◌∷◌, ◌++◌, length, map, take, slice_index, slice_index_or, Bool, true, false, ◌&&◌, nat_le, Option, Some, None, codes, string_bytes, if◌then◌else◌}
use Rattle.std.specs.List.{All, AllPass, join_with_byte, position}
use Rattle.std.specs.Str.{bytes_eq}
use Rattle.std.specs.Fmt.{decimal}
use Rattle.std.specs.declared.string.String.{String}
use Rattle.std.specs.declared.alloc.Global.{Global}
use Rattle.hex.specs.Hex.{encode_lower}
use Rattle.ddf_bytes.specs.Guids.{IsGuid}
use Rattle.ddf_words.specs.declared.command.Asked.{Asked}
use Rattle.ddf_words.specs.declared.command.Command.{Command}
use Rattle.ddf_words.specs.declared.command.Command.TheVariants.{Examine, Label, Assemble, Show, Read, Scrub, Resync, Rebuild, Copyback, Write, Import, Change}
use Rattle.ddf_words.specs.declared.command.CreateElement.{CreateElement}
use Rattle.ddf_words.specs.declared.command.Creation.{Creation}
use Rattle.ddf_words.specs.declared.command.DiskStyle.{DiskStyle}
use Rattle.ddf_words.specs.declared.command.DiskStyle.TheVariants.{Linux, Standard}
use Rattle.ddf_words.specs.declared.command.SpareWord.{SpareWord}
use Rattle.ddf_words.specs.declared.command.SpareWord.TheVariants as spares
use Rattle.ddf_words.specs.declared.command.Wish.{Wish}
use Rattle.ddf_words.specs.declared.command.Wish.TheVariants.{Create, Delete, Accept, Spare, Fail}
use Rattle.ddf_words.specs.Traits.{traits_of}

-- a word is its bytes
abbrev pub Word : Type 0
Word = List ℕ

abbrev pub words_of : List (String Global) → List Word
words_of words = map string_bytes words

-- the word between images and command
abbrev pub dashes : Word
dashes = codes "--"

-- At most 64 paths of images, none of them empty or as another.
pub record AreImages (images : List Word) : Type 0 where
  pub few : length images ≤ 64
  pub named : (i : ℕ) → i < length images → slice_index_or images i [] ≢ []
  pub paths : (i : ℕ) → i < length images → slice_index_or images i [] ≢ dashes
  pub different : (i j : ℕ) → i < j → j < length images → slice_index_or images i [] ≢ slice_index_or images j []

-- A word may stand among the images, behind the words before it.
pub record IsNextImage (words : List Word) (place : ℕ) : Type 0 where
  pub few : place < 64
  pub named : slice_index_or words place [] ≢ []
  pub fresh : (k : ℕ) → k < place → slice_index_or words k [] ≢ slice_index_or words place []

-- The words are the numbers of these slots in decimal, each at most 63, and no two equal.
pub record AreSlotWords (slots : List ℕ) (words : List Word) : Type 0 where
  pub spelled : words ≡ map decimal slots
  pub within : (i : ℕ) → i < length slots → slice_index_or slots i 0 ≤ 63
  pub different : (i j : ℕ) → i < j → j < length slots → slice_index_or slots i 0 ≢ slice_index_or slots j 0

-- the words of how new disks are made: none where they are made as the standard says
abbrev pub style_words : DiskStyle → List Word
style_words Standard = []
style_words Linux = codes "linux" ∷ []

-- the words of how large their group is: none where nothing is said of it
abbrev pub size_words : (large : Bool) → List Word
size_words false = []
size_words true = codes "large" ∷ []

-- The words are those of a size, and then the numbers of these slots.
pub record SpellSized (large : Bool) (slots : List ℕ) (words : List Word) : Type 0 where
  pub numbers : List Word
  pub parts : words ≡ size_words large ++ numbers
  pub are_slots : AreSlotWords slots numbers

-- The words are those of a style, and then those of disks of a size.
pub record SpellDisks (style : DiskStyle) (large : Bool) (slots : List ℕ) (words : List Word) : Type 0 where
  pub rest : List Word
  pub parts : words ≡ style_words style ++ rest
  pub are_sized : SpellSized large slots rest

-- The words are `label` and then those of new disks.
pub record SpellLabel (style : DiskStyle) (large : Bool) (slots : List ℕ) (words : List Word) : Type 0 where
  pub rest : List Word
  pub parts : words ≡ codes "label" ∷ rest
  pub are_disks : SpellDisks style large slots rest

-- The word is this number in decimal, without a sign and without a leading zero, and the number is at most so much.
pub record SpellsNumber (most number : ℕ) (word : Word) : Type 0 where
  pub spelled : word ≡ decimal number
  pub within : number ≤ most

-- a byte of 21 to 7E
abbrev pub is_plain : ℕ → Bool
is_plain byte = nat_le 0x21 byte && nat_le byte 0x7E

-- The word is a name of 1 to 16 plain bytes.
pub record IsPlainName (word : Word) : Type 0 where
  pub some : 1 ≤ length word
  pub few : length word ≤ 16
  pub plain : AllPass is_plain word

-- The word is `hex:` and the 32 lower-case hexadecimal digits of a name of 16 bytes.
pub record IsHexName (word : Word) : Type 0 where
  pub bytes : List ℕ
  pub count : length bytes ≡ 16
  pub each : (i : ℕ) → slice_index bytes i < 256
  pub spelled : word ≡ codes "hex:" ++ encode_lower bytes

-- the word of an array's name
abbrev pub IsName : Word → Type 0
IsName word = IsPlainName word ⊎ IsHexName word

-- The words are a command's and the name of an array.
pub record SpellNamed (command name : Word) (words : List Word) : Type 0 where
  pub parts : words ≡ command ∷ name ∷ []
  pub is_name : IsName name

-- The words are a command's, the name of an array, the first block and how many blocks.
pub record SpellBlocks (command name : Word) (start count : ℕ) (words : List Word) : Type 0 where
  pub parts : words ≡ command ∷ name ∷ decimal start ∷ decimal count ∷ []
  pub is_name : IsName name
  pub start_within : start ≤ 2 ^ 60
  pub count_within : count ≤ 2 ^ 60

-- a word, and what it says
pub record Row (X : Type 0) : Type 0 where
  pub word : Word
  pub says : X

-- what a word says by a table
abbrev pub said_by : {X : Type 0} → List (Row X) → Word → Option X
said_by [] word = None
said_by (row ∷ rows) word = if bytes_eq word row.word then Some row.says else said_by rows word

abbrev pub level_row : Word → ℕ → ℕ → Row (ℕ × ℕ)
level_row word level qualifier = record { word = word; says = (level, qualifier) }

-- The words of the primary levels, by their codes in the standard and their qualifiers. Some of them aren't served.
abbrev pub level_rows : List (Row (ℕ × ℕ))
level_rows =
    level_row (codes "raid0") 0x00 0x00
    ∷ level_row (codes "raid1") 0x01 0x00
    ∷ level_row (codes "raid3") 0x03 0x00
    ∷ level_row (codes "raid4.first") 0x04 0x00
    ∷ level_row (codes "raid4.last") 0x04 0x01
    ∷ level_row (codes "raid5.r0") 0x05 0x00
    ∷ level_row (codes "raid5.rn") 0x05 0x02
    ∷ level_row (codes "raid5.rnc") 0x05 0x03
    ∷ level_row (codes "raid6") 0x06 0x00
    ∷ level_row (codes "mdf") 0x07 0x00
    ∷ level_row (codes "jbod") 0x0F 0x00
    ∷ level_row (codes "raid1e.adjacent") 0x11 0x00
    ∷ level_row (codes "raid1e.offset") 0x11 0x01
    ∷ level_row (codes "raid5e") 0x15 0x00
    ∷ level_row (codes "concat") 0x1F 0x00
    ∷ level_row (codes "raid5ee") 0x25 0x00
    ∷ level_row (codes "raid5r") 0x35 0x00
    ∷ []

abbrev pub secondary_row : Word → Option ℕ → Row (Option ℕ)
secondary_row word secondary = record { word = word; says = secondary }

-- the words of the secondary levels, by their codes in the standard, and of none
abbrev pub secondary_rows : List (Row (Option ℕ))
secondary_rows =
    secondary_row (codes "single") None
    ∷ secondary_row (codes "striped") (Some 0x00)
    ∷ secondary_row (codes "mirrored") (Some 0x01)
    ∷ secondary_row (codes "concat") (Some 0x02)
    ∷ secondary_row (codes "spanned") (Some 0x03)
    ∷ []

-- The word is the numbers of 1 to 64 slots, each at most 63, joined by commas. A slot may stand there twice.
pub record SpellsSlots (slots : List ℕ) (word : Word) : Type 0 where
  pub spelled : word ≡ join_with_byte 0x2C (map decimal slots)
  pub some : 1 ≤ length slots
  pub few : length slots ≤ 64
  pub within : All (λ slot. slot ≤ 63) slots

-- The word is the slots of an element, `@`, and the blocks of each member, 1 to 2^48.
pub record SpellsElement (element : CreateElement) (word : Word) : Type 0 where
  pub slots : Word
  pub spelled : word ≡ slots ++ codes "@" ++ decimal element.blocks
  pub are_slots : SpellsSlots element.slots slots
  pub some : 1 ≤ element.blocks
  pub within : element.blocks ≤ 2 ^ 48

-- each of the words is that of an element, in their order
abbrev pub SpellElements : List CreateElement → List Word → Type 0
SpellElements [] [] = Unit {0}
SpellElements [] (word ∷ words) = ⊥
SpellElements (element ∷ elements) [] = ⊥
SpellElements (element ∷ elements) (word ∷ words) = SpellsElement element word × SpellElements elements words

-- The words are those of 1 to 16 elements.
pub record AreElementWords (elements : List CreateElement) (words : List Word) : Type 0 where
  pub some : 1 ≤ length words
  pub few : length words ≤ 16
  pub spell : SpellElements elements words

-- The words are `create`, a plain name, the words of the levels with the stripe size code between them, and elements.
pub record SpellCreate (creation : Creation) (words : List Word) : Type 0 where
  pub level_word : Word
  pub secondary_word : Word
  pub rest : List Word
  pub parts : words ≡ codes "create" ∷ creation.name ∷ level_word ∷ decimal creation.code ∷ secondary_word ∷ rest
  pub is_name : IsPlainName creation.name
  pub is_level : said_by level_rows level_word ≡ Some (creation.level, creation.qualifier)
  pub code_within : creation.code ≤ 15
  pub is_secondary : said_by secondary_rows secondary_word ≡ Some creation.secondary
  pub are_elements : AreElementWords creation.elements rest

-- One name of an array or more, no two equal.
pub record AreNames (names : List Word) : Type 0 where
  pub some : 1 ≤ length names
  pub named : (i : ℕ) → i < length names → IsName (slice_index_or names i [])
  pub different : (i j : ℕ) → i < j → j < length names → slice_index_or names i [] ≢ slice_index_or names j []

-- The words are `for` and the names of arrays.
pub record SpellFor (names words : List Word) : Type 0 where
  pub parts : words ≡ codes "for" ∷ names
  pub are_names : AreNames names

-- the words that say what a disk is to be a spare for
abbrev pub SpellsSpare : SpareWord → List Word → Type 0
SpellsSpare spares.Global words = words ≡ codes "global" ∷ []
SpellsSpare spares.Revertible words = words ≡ codes "revertible" ∷ []
SpellsSpare spares.Off words = words ≡ codes "off" ∷ []
SpellsSpare (spares.For names) words = SpellFor names words

-- The words are `spare`, the number of a slot, and what its disk is to be a spare for.
pub record SpellSpare (slot : ℕ) (word : SpareWord) (words : List Word) : Type 0 where
  pub rest : List Word
  pub parts : words ≡ codes "spare" ∷ decimal slot ∷ rest
  pub slot_within : slot ≤ 63
  pub spells : SpellsSpare word rest

-- The words are `fail` and the number of a slot.
pub record SpellFail (slot : ℕ) (words : List Word) : Type 0 where
  pub parts : words ≡ codes "fail" ∷ decimal slot ∷ []
  pub slot_within : slot ≤ 63

-- The words are `copyback`, the name of an array and the number of a slot.
pub record SpellCopyback (name : Word) (slot : ℕ) (words : List Word) : Type 0 where
  pub parts : words ≡ codes "copyback" ∷ name ∷ decimal slot ∷ []
  pub is_name : IsName name
  pub slot_within : slot ≤ 63

-- the words of each wish
abbrev pub SpellsWish : Wish → List Word → Type 0
SpellsWish (Create creation) words = SpellCreate creation words
SpellsWish (Delete name) words = SpellNamed (codes "delete") name words
SpellsWish (Accept name) words = SpellNamed (codes "accept") name words
SpellsWish (Spare slot word) words = SpellSpare slot word words
SpellsWish (Fail slot) words = SpellFail slot words

-- The word is the 48 lower-case hexadecimal digits of a group's GUID.
pub record SpellsGuid (group : List ℕ) (word : Word) : Type 0 where
  pub is_guid : IsGuid group
  pub spelled : word ≡ encode_lower group

-- The words are `import` and the GUID of the group whose disks are to join.
pub record SpellImport (group : List ℕ) (words : List Word) : Type 0 where
  pub parts : words ≡ codes "import" ∷ encode_lower group ∷ []
  pub is_guid : IsGuid group

-- and of each command
abbrev pub Spells : Command → List Word → Type 0
Spells Examine words = words ≡ codes "examine" ∷ []
Spells (Label style large slots) words = SpellLabel style large slots words
Spells Assemble words = words ≡ codes "assemble" ∷ []
Spells Show words = words ≡ codes "show" ∷ []
Spells (Read name start count) words = SpellBlocks (codes "read") name start count words
Spells (Scrub name) words = SpellNamed (codes "scrub") name words
Spells (Resync name) words = SpellNamed (codes "resync") name words
Spells (Rebuild name) words = SpellNamed (codes "rebuild") name words
Spells (Copyback name slot) words = SpellCopyback name slot words
Spells (Write name start count) words = SpellBlocks (codes "write") name start count words
Spells (Import group) words = SpellImport group words
Spells (Change wish) words = SpellsWish wish words

-- The word is `@` and the 48 lower-case hexadecimal digits of the group's GUID.
pub record NamesGroup (group : List ℕ) (word : Word) : Type 0 where
  pub is_guid : IsGuid group
  pub spelled : word ≡ codes "@" ++ encode_lower group

-- The first word names the group, and the others are those of a command that takes one.
pub record SpellOverGroup (group : List ℕ) (command : Command) (words : List Word) : Type 0 where
  pub word : Word
  pub others : List Word
  pub parts : words ≡ word ∷ others
  pub names_group : NamesGroup group word
  pub takes_one : (traits_of command).takes_group ≡ true
  pub spells : Spells command others

-- what stands behind the images and the dashes: the words of a command, and before them the group's where one is named
abbrev pub SpellsAsked : Option (List ℕ) → Command → List Word → Type 0
SpellsAsked None command words = Spells command words
SpellsAsked (Some group) command words = SpellOverGroup group command words

-- The words name images, then a command, and a group before it where one is meant.
pub record IsAsked (words : List Word) (asked : Asked) : Type 0 where
  pub images : List Word
  pub rest : List Word
  pub are_images : AreImages images
  pub parts : words ≡ images ++ dashes ∷ rest
  pub spells : SpellsAsked asked.group asked.command rest

-- some command is asked for
pub record IsAccepted (words : List Word) : Type 0 where
  pub asked : Asked
  pub is_asked : IsAsked words asked

-- some command is spelled so
pub record IsCommand (words : List Word) : Type 0 where
  pub command : Command
  pub spells : Spells command words

-- some command that takes a group is spelled so
pub record IsGroupCommand (words : List Word) : Type 0 where
  pub command : Command
  pub takes_one : (traits_of command).takes_group ≡ true
  pub spells : Spells command words

-- some command is asked for so, behind the images and the dashes
pub record IsRequest (words : List Word) : Type 0 where
  pub asked : Asked
  pub spells : SpellsAsked asked.group asked.command words

-- an array is named so, behind a command's word
pub record IsNamed (command : Word) (words : List Word) : Type 0 where
  pub name : Word
  pub spells : SpellNamed command name words

-- an array and blocks of it are named so
pub record AreBlocks (command : Word) (words : List Word) : Type 0 where
  pub name : Word
  pub start : ℕ
  pub count : ℕ
  pub spells : SpellBlocks command name start count words

-- some slots are named so
pub record NameSlots (words : List Word) : Type 0 where
  pub slots : List ℕ
  pub are_slots : AreSlotWords slots words

-- some new disks of some size are named so
pub record NameSized (words : List Word) : Type 0 where
  pub large : Bool
  pub slots : List ℕ
  pub are_sized : SpellSized large slots words

-- some new disks are named so
pub record NameDisks (words : List Word) : Type 0 where
  pub style : DiskStyle
  pub large : Bool
  pub slots : List ℕ
  pub are_disks : SpellDisks style large slots words

-- some number of at most so much is spelled so
pub record IsNumber (most : ℕ) (word : Word) : Type 0 where
  pub number : ℕ
  pub spells : SpellsNumber most number word

-- the GUID of some group is spelled so
pub record IsGuidWord (word : Word) : Type 0 where
  pub group : List ℕ
  pub spells : SpellsGuid group word

-- some level is spelled so
pub record IsLevel (word : Word) : Type 0 where
  pub level : ℕ × ℕ
  pub says : said_by level_rows word ≡ Some level

-- some secondary level or none is spelled so
pub record IsSecondary (word : Word) : Type 0 where
  pub secondary : Option ℕ
  pub says : said_by secondary_rows word ≡ Some secondary

-- some elements are spelled so
pub record AreElements (words : List Word) : Type 0 where
  pub elements : List CreateElement
  pub spell : AreElementWords elements words

-- some use of a spare is spelled so
pub record AreSpareWords (words : List Word) : Type 0 where
  pub word : SpareWord
  pub spells : SpellsSpare word words

-- A word of a kind stands at a place.
pub record StandsAt (kind : Word → Type 0) (words : List Word) (place : ℕ) : Type 0 where
  pub within : place < length words
  pub is : kind (slice_index_or words place [])

-- No word of a kind stands at a place.
pub record LacksAt (kind : Word → Type 0) (words : List Word) (place : ℕ) : Type 0 where
  pub none : place < length words → kind (slice_index_or words place []) → ⊥

-- The first words, so many, are images, and dashes come next.
pub record LeadsWithImages (words : List Word) (count : ℕ) : Type 0 where
  pub within : count < length words
  pub are_images : AreImages (take count words)
  pub dashes_next : slice_index_or words count [] ≡ dashes

-- Some accepted list of words begins with these.
pub record Begins (accepted : List Word → Type 0) (words : List Word) : Type 0 where
  pub more : List Word
  pub goes_on : accepted (words ++ more)

-- The words are not accepted, and so many of them are the most with which an accepted list begins.
pub record GoWrongAt (accepted : List Word → Type 0) (words : List Word) (place : ℕ) : Type 0 where
  pub refused : accepted words → ⊥
  pub within : place ≤ length words
  pub good : Begins accepted (take place words)
  pub no_longer : (n : ℕ) → place < n → n ≤ length words → Begins accepted (take n words) → ⊥

abbrev pub is_dashes : Word → Bool
is_dashes word = bytes_eq word dashes

abbrev pub words_before : List Word → Option ℕ → List Word
words_before words None = []
words_before words (Some count) = take count words

-- the words before the first dashes, and none where there are no dashes
abbrev pub images_of : List Word → List Word
images_of words = words_before words (position is_dashes words)

-- how many slots the words name: none where there are more than 64
abbrev pub slot_count : List Word → ℕ
slot_count words = if nat_le (length (images_of words)) 64 then length (images_of words) else 0
