-- What one line of a batch does: a call of its own, as the program makes it.
use Rattle.std.specs.Prelude.{◌≡◌, ◌⊎◌, ℕ, List, [], Option, false, true, IsTrue, nat_le}
use Rattle.ddf_bytes.specs.declared.stamp.Stamp.{Stamp}
use Rattle.ddf_bytes.specs.Streams.{SinkRose, SinkState}
use Rattle.ddf_bay.specs.Moments.{GoesOn}
use Rattle.ddf_bay.specs.ReadsOnly.{ReadsOnly}
use Rattle.ddf_bay.specs.State.{BayState}
use Rattle.ddf_config.specs.declared.refusal.Refusal.TheVariants.{Words}
use Rattle.ddf_text.specs.Refusal.{refusal_line}
use Rattle.ddf_words.specs.Traits.{traits_of}
use Rattle.ddf_words.specs.Words.{Word, GoWrongAt}
use Rattle.ddf_words.specs.declared.command.Command.{Command}
use Rattle.ddf_answer.specs.Call.{Input, answer_of, input_of, work_of}
use Rattle.ddf_answer.specs.Ends.{SomeSlotRose, is_unwritten}
use Rattle.ddf_answer.specs.Tells.{EndsWith}
use Rattle.ddf_command.specs.Run.{IsCommandDone}
use Rattle.ddf_words.specs.Lines.{AsksFor, IsLine}

-- The commands of lines take no bytes from the input.
abbrev pub no_input : Input
no_input = input_of (Unit {0}) (record { left = []; faults = 0 }) (record { left = []; faults = 0 })

-- a moment between two lines: the bay, and what the output tells
pub record Point (B : Type 0) : Type 0 where
  pub bay : B
  pub output : SinkState

-- `disks` is what a bay of type B tells, `tells` that it tells what they hold, and `told` that the output tells what it took.
-- The line with these words was run, over the named group or the only one: what the program promises of a call holds of this one.
pub record IsLineRun {B : Type 0} (tells : Type 0) (disks : B → BayState B) (told : Type 0) (stamp : Stamp) (group : Option (List ℕ)) (words : List Word) (from to : Point B) (code : ℕ) : Type 0 where
  -- words that are no such command's are refused at the place in the line where they go wrong, and no others are
  pub wrong_words : (place : ℕ) → GoWrongAt IsLine words place → EndsWith 2 (refusal_line (Words place)) (answer_of told from.output to.output code)
  pub wrong_words_only : code ≡ 2 → (place : ℕ) × GoWrongAt IsLine words place
  -- what is told, and with which status, by what it made of the disks
  pub done : (command : Command) → AsksFor words command → IsCommandDone (work_of tells (disks from.bay) (disks to.bay)) no_input stamp group command (answer_of told from.output to.output code)
  -- it ends with one of these statuses, and at those of these that are unwritten no sector was written
  pub few : nat_le code 6 ≡ true
  pub unwritten : IsTrue (is_unwritten code) → ReadsOnly (disks from.bay) (disks to.bay)
  -- what stays
  pub stays : ((command : Command) → AsksFor words command → (traits_of command).may_write ≡ false) → ReadsOnly (disks from.bay) (disks to.bay)
  pub goes_on : GoesOn (disks from.bay) (disks to.bay)
  pub same_sizes : (disks to.bay).sizes ≡ (disks from.bay).sizes
  -- each status has its cause
  pub disk_fault : code ≡ 3 → SomeSlotRose (disks from.bay) (disks to.bay)
  pub stream_fault : code ≡ 6 → SinkRose from.output to.output
  pub complete : (command : Command) → AsksFor words command → (SomeSlotRose (disks from.bay) (disks to.bay) → ⊥) → (SinkRose from.output to.output → ⊥)
      → (code ≡ 0) ⊎ (code ≡ 5) ⊎ ((code ≡ 1) × ((traits_of command).may_refuse ≡ true)) ⊎ ((code ≡ 4) × ((traits_of command).takes_group ≡ true))
