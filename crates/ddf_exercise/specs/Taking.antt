-- How the steps of an exercise are taken: each is a call of the program, or the loss of a disk.
use Rattle.std.specs.Prelude.{◌≡◌, ◌⊎◌, ◌↔◌, ℕ, ◌+◌, ◌*◌, ◌==◌, ◌&&◌, not, Bool, true, false, List, [], ◌∷◌, replicate, codes, Some, IsTrue, if◌then◌else◌}
use Rattle.ddf_bytes.specs.declared.stamp.Stamp.{Stamp}
use Rattle.ddf_bytes.specs.Streams.{SinkState, SourceState}
use Rattle.ddf_bay.specs.Memory.{disks_of, state_of, without}
use Rattle.ddf_bay.specs.Moments.{GoesOn}
use Rattle.ddf_bay.specs.ReadsOnly.{ReadsOnly}
use Rattle.ddf_bay.specs.declared.memory.MemoryBay.{MemoryBay}
use Rattle.ddf_update.specs.NewCopies.{group_of as name_of}
use Rattle.ddf_words.specs.declared.command.Command.{Command}
use Rattle.ddf_words.specs.declared.command.Command.TheVariants as commands
use Rattle.ddf_words.specs.declared.command.DiskStyle.TheVariants.{Standard}
use Rattle.ddf_words.specs.declared.command.SpareWord.TheVariants.{Global}
use Rattle.ddf_words.specs.declared.command.Wish.TheVariants as wishes
use Rattle.ddf_text.specs.Done.{sequence_line}
use Rattle.ddf_words.specs.Traits.{traits_of}
use Rattle.ddf_answer.specs.Call.{answer_of, input_of, work_of}
use Rattle.ddf_command.specs.Run.{IsCommandDone}
pub use Rattle.ddf_exercise_config.specs.Words.{creation as array_asked, word as array_name}
pub use Rattle.ddf_exercise_disks.specs.Ending.{unused}
use Rattle.ddf_exercise.specs.declared.steps.Step.{Step}
use Rattle.ddf_exercise.specs.declared.steps.Step.TheVariants.{Label, Create, Resync, Spare, Write, Unplug, Rebuild, Scrub}
use Rattle.ddf_exercise.specs.Steps.{rise}

-- ---- what is asked for

-- an input of these bytes
abbrev pub given : List ℕ → SourceState
given bytes = record { left = bytes; faults = 0 }

-- ---- calls

-- A command of the program was done over the group that the exercise labels, or it told why not: with these bytes to take, on these disks, to this
-- output. It made nothing of the disks but by their own calls, and where it may not write only read them.
pub record IsCall (stamp : Stamp) (command : Command) (bytes : List ℕ) (old new : MemoryBay) (before after : SinkState) (status : ℕ) : Type 0 where
  pub left : SourceState
  pub done : IsCommandDone (work_of (Unit {0}) (disks_of old) (disks_of new)) (input_of (Unit {0}) (given bytes) left) stamp (Some (name_of stamp)) command (answer_of (Unit {0}) before after status)
  pub goes_on : GoesOn (disks_of old) (disks_of new)
  pub stays : (traits_of command).may_write ≡ false → ReadsOnly (disks_of old) (disks_of new)

-- For want of memory nothing was begun.
pub record LacksMemory (old new : MemoryBay) (before after : SinkState) (status : ℕ) : Type 0 where
  pub same_bay : new ≡ old
  pub same_output : after ≡ before
  pub is_status : status ≡ 5

-- A step was taken, which made this of the disks, told this, and ended with this status.
abbrev pub IsTaken : Stamp → Step → (old new : MemoryBay) → (before after : SinkState) → (status : ℕ) → Type 0
IsTaken stamp Label old new before after status = IsCall stamp (commands.Label Standard false []) [] old new before after status
IsTaken stamp Create old new before after status = IsCall stamp (commands.Change (wishes.Create array_asked)) [] old new before after status ⊎ LacksMemory old new before after status
IsTaken stamp Resync old new before after status = IsCall stamp (commands.Resync array_name) [] old new before after status
IsTaken stamp (Spare slot) old new before after status = IsCall stamp (commands.Change (wishes.Spare slot Global)) [] old new before after status
IsTaken stamp (Write fill) old new before after status =
    IsCall stamp (commands.Write array_name fill.start fill.count) (replicate (512 * fill.count) fill.byte) old new before after status ⊎ LacksMemory old new before after status
IsTaken stamp (Unplug slot) old new before after status = (state_of new ≡ without (state_of old) slot) × (disks_of new).gone slot × (after ≡ before) × (status ≡ 0)
IsTaken stamp Rebuild old new before after status = IsCall stamp (commands.Rebuild array_name) [] old new before after status
IsTaken stamp Scrub old new before after status = IsCall stamp (commands.Scrub array_name) [] old new before after status

-- ---- what is made of them

-- what a step should tell that is done, with the group's sequence number behind it
abbrev pub line_of : Step → (sequence : ℕ) → List ℕ
line_of (Unplug slot) sequence = []
line_of Scrub sequence = codes "clean\n"
line_of step sequence = sequence_line sequence

-- The status that counts: a call that was done and told something else than it should counts as a disk that failed, and one for which there was too little room in memory to tell
-- something as want of memory.
abbrev pub counted : (status : ℕ) → (as_it_should : Bool) → ℕ
counted status as_it_should = if status == 6 then 5 else (if status == 0 && not as_it_should then 3 else status)

-- A call counts so that told this, where it should tell that.
pub record CountsAs (told expected : List ℕ) (status code : ℕ) : Type 0 where
  pub as_it_should : Bool
  pub tells : IsTrue as_it_should ↔ (told ≡ expected)
  pub is_code : code ≡ counted status as_it_should

-- A step was taken, and its status counts so.
pub record WasTaken (stamp : Stamp) (step : Step) (sequence : ℕ) (old new : MemoryBay) (code : ℕ) : Type 0 where
  pub after : SinkState
  pub status : ℕ
  pub taken : IsTaken stamp step old new unused after status
  pub counts : CountsAs after.taken (line_of step sequence) status code

-- Without memory for what it tells it wasn't.
abbrev pub IsTried : Stamp → Step → (sequence : ℕ) → (old new : MemoryBay) → (code : ℕ) → Type 0
IsTried stamp step sequence old new code = WasTaken stamp step sequence old new code ⊎ LacksMemory old new unused unused code

-- Either what follows holds, or what ends the steps.
abbrev pub Going : (goes_on : Bool) → (follows ends : Type 0) → Type 0
Going true follows ends = follows
Going false follows ends = ends

-- Steps were taken one after another, each over the disks as the one before left them, up to the first that isn't done: its status is the last.
abbrev pub AreTaken : Stamp → (sequence : ℕ) → List Step → (old new : MemoryBay) → (code : ℕ) → Type 0
AreTaken stamp sequence [] old new code = (new ≡ old) × (code ≡ 0)
AreTaken stamp sequence (step ∷ steps) old new code =
    (next : MemoryBay) × (status : ℕ) × IsTried stamp step (sequence + rise step) old next status
    × Going (status == 0) (AreTaken stamp (sequence + rise step) steps next new code) ((new ≡ next) × (code ≡ status))
