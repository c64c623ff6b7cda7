-- How many sectors the steps of a group ask to be written.
use Rattle.std.specs.Prelude.{ℕ, ◌+◌, List, [], ◌∷◌, Result, Ok, Err}
use Rattle.std.specs.List.{sum_by}
use Rattle.ddf_update.specs.Prepared.{all_sectors}
use Rattle.ddf_seats.specs.declared.seated.Seated.{Seated}
use Rattle.ddf_steps.specs.Ready.{ReadyStep}
use Rattle.ddf_steps.specs.Steps.{Step}
use Rattle.ddf_answer.specs.declared.failure.Failure.{Failure}
use Rattle.ddf_answer.specs.Call.{Work}
use Rattle.ddf_answer.specs.Costs.{WritesAtMost, disk_sectors}

-- the most sectors that a step writes: those of each of its disks
abbrev pub step_sectors : Step → ℕ
step_sectors step = sum_by (λ (disk : Seated). disk_sectors disk.copy) step.disks

-- and that these steps do, each written once
abbrev pub steps_sectors : List Step → ℕ
steps_sectors [] = 0
steps_sectors (step ∷ steps) = step_sectors step + steps_sectors steps

-- those of steps that are ready, by their updates
abbrev pub ready_sectors : List ReadyStep → ℕ
ready_sectors [] = 0
ready_sectors (one ∷ others) = all_sectors one.updates + ready_sectors others

-- However a call ends, it writes no more than the steps that are asked, each once; where none are, nothing.
abbrev pub CostsOfAsked : {D : Type 0} → Work D → Result (List Step) Failure → Type 0
CostsOfAsked work (Ok steps) = WritesAtMost work (steps_sectors steps)
CostsOfAsked work (Err failure) = WritesAtMost work 0
