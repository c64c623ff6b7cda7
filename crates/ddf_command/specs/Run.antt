-- What a call of the program does, by the command that its words ask for.
use Rattle.std.specs.Prelude.{◌≡◌, ℕ, List, [], ◌∷◌, length, Bool, true, false, ◌==◌, Option}
use Rattle.std.specs.List.{list_any}
use Rattle.ddf_bytes.specs.declared.stamp.Stamp.{Stamp}
use Rattle.ddf_bytes.specs.Stamps.{timestamp_of}
use Rattle.ddf_words.specs.declared.command.Asked.{Asked}
use Rattle.ddf_words.specs.declared.command.Command.{Command}
use Rattle.ddf_words.specs.declared.command.Command.TheVariants.{Assemble, Change, Copyback, Examine, Import, Label, Read, Rebuild, Resync, Scrub, Show, Write}
use Rattle.ddf_words.specs.Traits.{traits_of}
use Rattle.ddf_words.specs.Words.{Word, IsAsked}
use Rattle.ddf_answer.specs.Call.{Answer, Input, Work}
use Rattle.ddf_disk_commands.specs.Examine.{IsExamined}
use Rattle.ddf_disk_commands.specs.Label.{IsLabelled, revision_of}
use Rattle.ddf_group_commands.specs.Assemble.{IsAssembleDone}
use Rattle.ddf_group_commands.specs.Requests.{IsWished, request_for}
use Rattle.ddf_group_commands.specs.Show.{IsShown}
use Rattle.ddf_import_command.specs.Import.{IsImportDone}
use Rattle.ddf_read_commands.specs.Read.{IsReadDone}
use Rattle.ddf_read_commands.specs.Scrub.{IsScrubDone}
use Rattle.ddf_write_commands.specs.Resync.{IsResyncDone}
use Rattle.ddf_write_commands.specs.Write.{IsWriteDone}
use Rattle.ddf_rebuild_command.specs.CopiedBack.{IsCopybackDone}
use Rattle.ddf_rebuild_command.specs.Rebuilt.{IsRebuildDone}

-- The words ask for no command that may write to the disks.
abbrev pub AsksForNoWrite : List Word → Type 0
AsksForNoWrite words = (asked : Asked) → IsAsked words asked → (traits_of asked.command).may_write ≡ false

-- They ask for one that takes bytes from the input.
pub record TakesInput (words : List Word) : Type 0 where
  pub asked : Asked
  pub is_asked : IsAsked words asked
  pub takes : (traits_of asked.command).takes_input ≡ true

-- They ask for none that does. Words that are no command's ask for none.
abbrev pub TakesNoInput : List Word → Type 0
TakesNoInput words = (asked : Asked) → IsAsked words asked → (traits_of asked.command).takes_input ≡ false

-- the command was done, over the named group or the only one, or it told why not, or was cut short
abbrev pub IsCommandDone : {D : Type 0} → Work D → Input → Stamp → (group : Option (List ℕ)) → Command → Answer → Type 0
IsCommandDone work input stamp group Examine answer = IsExamined work answer
IsCommandDone work input stamp group (Label style large slots) answer = IsLabelled work large (revision_of style) stamp slots answer
IsCommandDone work input stamp group Assemble answer = IsAssembleDone work group (timestamp_of stamp) answer
IsCommandDone work input stamp group Show answer = IsShown work group answer
IsCommandDone work input stamp group (Read name start count) answer = IsReadDone work group name start count answer
IsCommandDone work input stamp group (Scrub name) answer = IsScrubDone work group name answer
IsCommandDone work input stamp group (Resync name) answer = IsResyncDone work group (timestamp_of stamp) name answer
IsCommandDone work input stamp group (Rebuild name) answer = IsRebuildDone work group (timestamp_of stamp) name answer
IsCommandDone work input stamp group (Copyback name slot) answer = IsCopybackDone work group (timestamp_of stamp) name slot answer
IsCommandDone work input stamp group (Write name start count) answer = IsWriteDone work input group (timestamp_of stamp) name start count answer
IsCommandDone work input stamp group (Import other) answer = IsImportDone work group other (timestamp_of stamp) answer
IsCommandDone work input stamp group (Change wish) answer = IsWished work group (timestamp_of stamp) (request_for (length work.old.sizes) stamp wish) answer

abbrev pub IsDone : {D : Type 0} → Work D → Input → Stamp → Asked → Answer → Type 0
IsDone work input stamp asked answer = IsCommandDone work input stamp asked.group asked.command answer

-- the statuses that a call may end with
abbrev pub is_status : ℕ → Bool
is_status number = list_any (λ status. status == number) (0 ∷ 1 ∷ 2 ∷ 3 ∷ 4 ∷ 5 ∷ 6 ∷ 7 ∷ [])
