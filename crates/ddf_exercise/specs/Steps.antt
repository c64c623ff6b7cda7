-- The steps of an exercise.
use Rattle.std.specs.Prelude.{ℕ, ◌+◌, Bool, true, nat_le, nat_lt, List, [], ◌∷◌, ◌++◌, map}
use Rattle.ddf_exercise.specs.declared.steps.Step.{Step}
use Rattle.ddf_exercise.specs.declared.steps.Step.TheVariants.{Label, Create, Resync, Spare, Write, Unplug, Rebuild, Scrub}
use Rattle.ddf_exercise.specs.Draws.{behind_fills, first_state, next_fills}

-- All disks are labelled, the array is created on three of them and its parity is made to agree; the other two are spares.
abbrev pub first_steps : List Step
first_steps = Label ∷ Create ∷ Resync ∷ Spare 3 ∷ Spare 4 ∷ []

-- A disk is lost, and the array rebuilt.
abbrev pub loss_steps : (slot : ℕ) → List Step
loss_steps slot = Unplug slot ∷ Rebuild ∷ []

-- So many writes, from a state of the generator on.
abbrev pub write_steps : (rounds state : ℕ) → List Step
write_steps rounds state = map Write (next_fills rounds state)

-- All steps: so many writes with all disks, behind the first loss and behind the second.
unfoldable pub all_steps : (seed rounds : ℕ) → List Step
all_steps seed rounds =
    let first = first_state seed in
    let second = behind_fills rounds first in
    let third = behind_fills rounds second in
    first_steps ++ write_steps rounds first ++ loss_steps 1 ++ write_steps rounds second ++ loss_steps 2 ++ write_steps rounds third ++ Scrub ∷ []

-- by how much a step raises the sequence number of the group
abbrev pub rise : Step → ℕ
rise Label = 1
rise Create = 1
rise Resync = 1
rise (Spare slot) = 1
rise (Write fill) = 2
rise (Unplug slot) = 0
rise Rebuild = 4
rise Scrub = 0

-- the sequence number behind steps
abbrev pub sequence_behind : (sequence : ℕ) → List Step → ℕ
sequence_behind sequence [] = sequence
sequence_behind sequence (step ∷ steps) = sequence_behind (sequence + rise step) steps

-- a step names a slot of the five, and blocks of the array
abbrev pub fits : Step → Bool
fits (Unplug slot) = nat_lt slot 5
fits (Write fill) = nat_le (fill.start + fill.count) 8192
fits step = true
