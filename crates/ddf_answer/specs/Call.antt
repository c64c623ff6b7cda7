-- A call of the program: what it made of its disks, what it took from its input, and how it answered.
use Rattle.std.specs.Prelude.{ℕ}
use Rattle.ddf_bytes.specs.Streams.{SinkState, SourceState}
use Rattle.ddf_bay.specs.State.{BayState}

-- what a call made of its disks
pub record Work (D : Type 0) : Type 1 where
  -- the bay tells what they hold
  pub tells : Type 0
  -- the disks at entry
  pub old : BayState D
  -- and at the exit
  pub new : BayState D

abbrev pub work_of : {D : Type 0} → Type 0 → (old new : BayState D) → Work D
work_of tells old new = record { tells = tells; old = old; new = new }

-- what a call took from its input
pub record Input : Type 1 where
  -- the input tells the bytes that are left
  pub tells : Type 0
  -- at entry
  pub old : SourceState
  -- and at the exit
  pub new : SourceState

abbrev pub input_of : Type 0 → (old new : SourceState) → Input
input_of tells old new = record { tells = tells; old = old; new = new }

-- how a call answered
pub record Answer : Type 1 where
  -- the output tells what it took
  pub tells : Type 0
  -- the output at entry
  pub old : SinkState
  -- and at the exit
  pub new : SinkState
  pub status : ℕ

abbrev pub answer_of : Type 0 → (old new : SinkState) → ℕ → Answer
answer_of tells old new status = record { tells = tells; old = old; new = new; status = status }
