-- An exercise of the program on disks in memory.
use Rattle.std.specs.Prelude.{◌≡◌, ◌≢◌, ◌⊎◌, ℕ, ◌+◌, ◌*◌, List, [], ◌++◌, replicate, None, Result, Ok, Err, codes}
use Rattle.std.specs.Fmt.{decimal}
use Rattle.std.specs.List.{sum}
use Rattle.ddf_bytes.specs.declared.stamp.Stamp.{Stamp}
use Rattle.ddf_bytes.specs.Streams.{SinkState}
use Rattle.ddf_bay.specs.Memory.{MemoryState, blank, state_of}
use Rattle.ddf_bay.specs.declared.memory.MemoryBay.{MemoryBay}
use Rattle.ddf_words.specs.declared.command.Command.TheVariants as commands
use Rattle.ddf_answer.specs.Call.{Answer}
use Rattle.ddf_answer.specs.Status.{code_of}
use Rattle.ddf_answer.specs.declared.status.Status.{Status}
use Rattle.ddf_answer.specs.Tells.{ClosesWith}
use Rattle.ddf_exercise.specs.declared.exercising.Found.{Found}
use Rattle.ddf_exercise.specs.declared.steps.Step.{Step}
use Rattle.ddf_exercise.specs.Blocks.{blocks_in, bytes_behind}
use Rattle.ddf_exercise.specs.Steps.{all_steps}
use Rattle.ddf_exercise.specs.Taking.{AreTaken, CountsAs, IsCall, LacksMemory, array_name, unused}

-- the disks that it begins with: five of 65,536 sectors of zeros, of which no call fails while there is room for so many sectors to be written
abbrev pub new_disks : (rounds : ℕ) → MemoryState
new_disks rounds = blank (replicate 5 65536) (25000 + 2100 * rounds) [] None

-- the line that says so many writes of so many blocks were done, the sum of the bytes, and the sequence number of the group
abbrev pub line_saying : (writes blocks total sequence : ℕ) → List ℕ
line_saying writes blocks total sequence =
    codes "exercise writes " ++ decimal writes ++ codes " blocks " ++ decimal blocks ++ codes " sum " ++ decimal total ++ codes " sequence " ++ decimal sequence ++ codes "\n"

-- what an exercise tells that is done
abbrev pub exercise_line : (seed rounds : ℕ) → List ℕ
exercise_line seed rounds = line_saying (3 * rounds) (blocks_in (all_steps seed rounds)) (sum (bytes_behind (all_steps seed rounds))) (13 + 6 * rounds)

-- ---- what came of it

-- All blocks were read, and that counts so, where these are the bytes that they should have.
pub record WasRead (stamp : Stamp) (expected : List ℕ) (old new : MemoryBay) (code : ℕ) : Type 0 where
  pub after : SinkState
  pub status : ℕ
  pub call : IsCall stamp (commands.Read array_name 0 8192) [] old new unused after status
  pub counts : CountsAs after.taken expected status code

-- They were, unless there was too little memory for it.
abbrev pub IsTriedRead : Stamp → (expected : List ℕ) → (old new : MemoryBay) → (code : ℕ) → Type 0
IsTriedRead stamp expected old new code = WasRead stamp expected old new code ⊎ LacksMemory old new unused unused code

-- All steps were done, and then the blocks were read.
pub record WentThrough (stamp : Stamp) (seed rounds : ℕ) (old new : MemoryBay) (code : ℕ) : Type 0 where
  pub between : MemoryBay
  pub taken : AreTaken stamp 0 (all_steps seed rounds) old between 0
  pub read : IsTriedRead stamp (bytes_behind (all_steps seed rounds)) between new code

-- A step wasn't done, and ended it with its status.
pub record WasEnded (stamp : Stamp) (seed rounds : ℕ) (old new : MemoryBay) (code : ℕ) : Type 0 where
  pub taken : AreTaken stamp 0 (all_steps seed rounds) old new code
  pub not_done : code ≢ 0

-- what came of an exercise, by how its calls end
abbrev pub IsExercised : Stamp → (seed rounds : ℕ) → (old new : MemoryBay) → (code : ℕ) → Type 0
IsExercised stamp seed rounds old new code = WentThrough stamp seed rounds old new code ⊎ WasEnded stamp seed rounds old new code ⊎ LacksMemory old new unused unused code

-- It told the line, where it was done; and else nothing, and ended with the status that it came to.
abbrev pub IsAnswered : (came_to : ℕ) → (line : List ℕ) → Answer → Type 0
IsAnswered came_to line answer = ((came_to ≡ 0) × ClosesWith 0 line answer) ⊎ ((came_to ≢ 0) × (answer.status ≡ came_to) × (answer.new ≡ answer.old))

-- It came to this, and said so.
pub record IsExerciseDone (stamp : Stamp) (seed rounds : ℕ) (old new : MemoryBay) (answer : Answer) : Type 0 where
  pub came_to : ℕ
  pub exercised : IsExercised stamp seed rounds old new came_to
  pub answered : IsAnswered came_to (exercise_line seed rounds) answer

-- It was done on new disks, or there was no memory for them and it told nothing.
abbrev pub IsDoneOnNew : Stamp → (seed rounds : ℕ) → Answer → Type 0
IsDoneOnNew stamp seed rounds answer =
    ((old : MemoryBay) × (new : MemoryBay) × (state_of old ≡ new_disks rounds) × IsExerciseDone stamp seed rounds old new answer) ⊎ ((answer.status ≡ 5) × (answer.new ≡ answer.old))

-- ---- as it is answered

-- what an exercise finds that is done
abbrev pub found_behind : List Step → Found
found_behind steps = record { blocks = blocks_in steps; sum = sum (bytes_behind steps) }

-- This was found, or it ended so.
abbrev pub EndsAs : (came_to : ℕ → Type 0) → List Step → Result Found Status → Type 0
EndsAs came_to steps (Ok found) = came_to 0 × (found ≡ found_behind steps)
EndsAs came_to steps (Err status) = came_to (code_of status) × (code_of status ≢ 0) × (code_of status ≢ 6)
