-- The lines of a batch, their words, and the commands that they ask for.
use Rattle.std.specs.Prelude.{◌≡◌, ◌<◌, ℕ, ◌-◌, ◌==◌, List, [], ◌∷◌, length, take, slice_index, Bool, true, false, ◌&&◌, ◌||◌, nat_le, Option, Some, None, codes, position, if◌then◌else◌}
use Rattle.std.specs.List.{list_all, list_any, slice_split}
use Rattle.std.specs.Str.{bytes_eq}
use Rattle.std.specs.Fmt.{decimal}
use Rattle.ddf_words.specs.Words.{Word, Spells}
use Rattle.ddf_words.specs.declared.command.Command.{Command}
use Rattle.ddf_words.specs.declared.command.Command.TheVariants.{Examine, Label, Assemble, Show, Read, Scrub, Resync, Rebuild, Copyback, Write, Import, Change}
use Rattle.ddf_words.specs.Text.{IsReadAs}

-- ---- lines

-- the end of a line
abbrev pub is_end : ℕ → Bool
is_end byte = byte == 0x0A

-- the text without the end of its last line
abbrev pub without_end : List ℕ → List ℕ
without_end text = if is_end (slice_index text (length text - 1)) then take (length text - 1) text else text

-- The lines of a text end with LF, the last one perhaps with the text: they are its parts between. So an empty rest behind the last LF is no line.
pub record AreLines (text : List ℕ) (lines : List (List ℕ)) : Type 0 where
  pub none : length text ≡ 0 → lines ≡ []
  pub some : 0 < length text → (read : List ℕ) × IsReadAs (without_end text) read × (lines ≡ slice_split is_end read)

-- ---- words

abbrev pub is_space : ℕ → Bool
is_space byte = byte == 0x20

-- the parts of a line between single spaces: a part may be empty
abbrev pub parts_of : List ℕ → List Word
parts_of line = slice_split is_space line

abbrev pub is_digit : ℕ → Bool
is_digit byte = nat_le 48 byte && nat_le byte 57

-- The slot of the image with this path. A word of digits is a slot's number.
abbrev pub slot_named : (images : List Word) → Word → Option ℕ
slot_named images word = if list_all is_digit word then None else position (λ path. bytes_eq path word) images

-- a command that takes one slot, as its first word behind the name
abbrev pub takes_slot : (name : Word) → Bool
takes_slot name = bytes_eq name (codes "spare") || bytes_eq name (codes "fail")

-- a command that takes an array and one slot, as its first two words behind the name
abbrev pub takes_array : (name : Word) → Bool
takes_array name = bytes_eq name (codes "copyback")

-- behind two dashes, the slot whose image stands where the command takes one first
abbrev pub slot_in : (images words : List Word) → Option ℕ
slot_in images (dashes ∷ name ∷ word ∷ words) = if takes_slot name then slot_named images word else None
slot_in images words = None

-- and where it takes one behind an array
abbrev pub slot_behind : (images words : List Word) → Option ℕ
slot_behind images (dashes ∷ name ∷ array ∷ word ∷ words) = if takes_array name then slot_named images word else None
slot_behind images words = None

-- the number of the slot in the place of its image
abbrev pub with_slot : Option ℕ → List Word → List Word
with_slot (Some slot) (name ∷ word ∷ words) = name ∷ decimal slot ∷ words
with_slot slot words = words

abbrev pub with_slot_behind : Option ℕ → List Word → List Word
with_slot_behind (Some slot) (name ∷ array ∷ word ∷ words) = name ∷ array ∷ decimal slot ∷ words
with_slot_behind slot words = words

abbrev pub first_numbered : (images words : List Word) → List Word
first_numbered images (name ∷ word ∷ words) = if takes_slot name then with_slot (slot_named images word) (name ∷ word ∷ words) else name ∷ word ∷ words
first_numbered images words = words

abbrev pub second_numbered : (images words : List Word) → List Word
second_numbered images (name ∷ array ∷ word ∷ words) =
    if takes_array name then with_slot_behind (slot_named images word) (name ∷ array ∷ word ∷ words) else name ∷ array ∷ word ∷ words
second_numbered images words = words

-- where a command takes one slot, the path of an image stands for its slot
abbrev pub numbered : (images words : List Word) → List Word
numbered images words = second_numbered images (first_numbered images words)

-- ---- commands

-- the names of the commands that a line may ask for
abbrev pub line_names : List Word
line_names =
    codes "assemble" ∷ codes "show" ∷ codes "create" ∷ codes "delete" ∷ codes "spare" ∷ codes "fail" ∷ codes "rebuild" ∷ codes "copyback" ∷ codes "resync" ∷ codes "accept"
    ∷ codes "scrub" ∷ codes "import" ∷ []

abbrev pub is_line_name : Word → Bool
is_line_name word = list_any (λ name. bytes_eq word name) line_names

-- a line may ask for each command over a group but those whose bytes stand on the input or the output
abbrev pub is_for_lines : Command → Bool
is_for_lines Examine = false
is_for_lines (Label style large slots) = false
is_for_lines Assemble = true
is_for_lines Show = true
is_for_lines (Read name start count) = false
is_for_lines (Scrub name) = true
is_for_lines (Resync name) = true
is_for_lines (Rebuild name) = true
is_for_lines (Copyback name slot) = true
is_for_lines (Write name start count) = false
is_for_lines (Import group) = true
is_for_lines (Change wish) = true

-- The words of a line are those of a command that it may ask for. They name no group: that of the batch holds.
pub record AsksFor (words : List Word) (command : Command) : Type 0 where
  pub spells : Spells command words
  pub is_for_lines : is_for_lines command ≡ true

-- some command is asked for so
pub record IsLine (words : List Word) : Type 0 where
  pub command : Command
  pub asks : AsksFor words command
