-- How many sectors a command asks to be written that works on the blocks of an array.
use Rattle.std.specs.Prelude.{◌⊎◌, ℕ, ◌+◌, Bool, true, false, List, ◌++◌, Result, Ok, Err}
use Rattle.ddf_update.specs.Prepared.{all_sectors}
use Rattle.ddf_group.specs.declared.answer.Assembly.{Assembly}
use Rattle.ddf_recovery.specs.Committed.{next_updates, recovery_updates}
use Rattle.ddf_seats.specs.Group.{GroupValue}
use Rattle.ddf_recovery.specs.Ready.{ReadyValue}
use Rattle.ddf_answer.specs.Call.{Work}
use Rattle.ddf_answer.specs.Costs.{WritesAtMost}
use Rattle.ddf_group_commands.specs.Change.{Request}
use Rattle.ddf_group_commands.specs.Costs.{steps_sectors}
use Rattle.ddf_write_commands.specs.Doing.{Doing}
use Rattle.ddf_write_commands.specs.Planned.{IsPlanned}

-- the sectors of a recovery that is ready, and of the step behind it where this is written before the blocks
abbrev pub sectors_before : (begins : Bool) → ReadyValue → ℕ
sectors_before true ready = all_sectors (recovery_updates ready) + all_sectors (next_updates ready)
sectors_before false ready = all_sectors (recovery_updates ready)

-- No more than the steps around the blocks, each once, and what the work on the blocks asks for.
pub record CostsOfPlan {D : Type 0} (doing : Doing) (work : Work D) (found : GroupValue) (timestamp : ℕ) (word : List ℕ) (request : Request) : Type 0 where
  pub plan : IsPlanned found timestamp word request
  pub most : WritesAtMost work (steps_sectors (plan.first ++ plan.last) + doing.most_sectors plan.volume)

-- However such a command ends, it costs nothing, or no more than that; without a group nothing.
abbrev pub CostsOfDoing : {D : Type 0} → Doing → Work D → (timestamp : ℕ) → (word : List ℕ) → Request → Result GroupValue Assembly → Type 0
CostsOfDoing doing work timestamp word request (Ok found) = WritesAtMost work 0 ⊎ CostsOfPlan doing work found timestamp word request
CostsOfDoing doing work timestamp word request (Err fault) = WritesAtMost work 0
