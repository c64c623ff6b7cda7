-- How many sectors a rebuild asks to be written, at most.
use Rattle.std.specs.Prelude.{◌⊎◌, ℕ, ◌+◌, ◌-◌, ◌*◌, List, ◌++◌, Result, Ok, Err}
use Rattle.ddf_primary.specs.Cells.{depth_of, height_of}
use Rattle.ddf_primary.specs.Placement.{Placement}
use Rattle.ddf_group.specs.declared.answer.Assembly.{Assembly}
use Rattle.ddf_seats.specs.Group.{GroupValue}
use Rattle.ddf_answer.specs.Call.{Work}
use Rattle.ddf_answer.specs.Costs.{WritesAtMost}
use Rattle.ddf_group_commands.specs.Change.{steps_of as steps_asked}
use Rattle.ddf_group_commands.specs.Costs.{CostsOfAsked, steps_sectors}
use Rattle.ddf_group_commands.specs.Requests.{linux_members}
use Rattle.ddf_rebuild_command.specs.Asked.{rebuild_request}
use Rattle.ddf_rebuild_command.specs.Planned.{IsIdle, IsPlanned, first_row}
use Rattle.ddf_rebuild_command.specs.Rounds.{steps_of}

-- the sectors of a position from a row on
abbrev pub sectors_from : Placement → (row : ℕ) → ℕ
sectors_from shape row = depth_of shape - row * height_of shape

-- Every position is in sync: no more than the steps that are asked, each once, and these are the recovery's.
pub record CostsOfRecovery {D : Type 0} (work : Work D) (found : GroupValue) (timestamp : ℕ) (word : List ℕ) : Type 0 where
  pub idle : IsIdle found timestamp word
  pub most : CostsOfAsked work (steps_asked found timestamp (rebuild_request word (linux_members found)))

-- A position is filled: no more than the steps of the plan, each once, the recovery too, and each sector of the position once, from the row on from which it fills.
pub record CostsOfFilling {D : Type 0} (work : Work D) (found : GroupValue) (timestamp : ℕ) (word : List ℕ) : Type 0 where
  pub plan : IsPlanned found timestamp word
  pub most : WritesAtMost work (steps_sectors (plan.first ++ steps_of plan.rounds) + sectors_from plan.is_out.part.shape (first_row plan))

-- However a rebuild ends, it costs nothing, or no more than that; without a group nothing.
abbrev pub CostsOf : {D : Type 0} → Work D → (timestamp : ℕ) → (word : List ℕ) → Result GroupValue Assembly → Type 0
CostsOf work timestamp word (Ok found) = WritesAtMost work 0 ⊎ CostsOfRecovery work found timestamp word ⊎ CostsOfFilling work found timestamp word
CostsOf work timestamp word (Err fault) = WritesAtMost work 0
