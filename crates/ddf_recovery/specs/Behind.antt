-- What a recovery answers, and what is behind it.
use Rattle.std.specs.Prelude.{◌≡◌, ℕ, ◌==◌, List, map, find, Option, Some, None, option_map, Result, Ok, Err, if◌then◌else◌}
use Rattle.std.specs.Option.{option_map_or}
use Rattle.ddf_config.specs.Configuration.{Configuration}
use Rattle.ddf_plan.specs.declared.change.Change.{Change}
use Rattle.ddf_seats.specs.declared.fault.GroupFault.{GroupFault}
use Rattle.ddf_seats.specs.declared.fault.GroupFault.TheVariants.{Refused, SequenceSpent, Memory}
use Rattle.ddf_seats.specs.declared.seated.Seated.{Seated}
use Rattle.ddf_seats.specs.Group.{GroupValue}
use Rattle.ddf_recovery.specs.Recovery.{config_recovered, disks_recovered, full_of_recovery, recovery_of}
use Rattle.ddf_seats.specs.Leading.{some}
use Rattle.ddf_seats.specs.Seated.{levelled}
use Rattle.ddf_steps.specs.Ready.{ReadyStep, steps_from}

-- There is room for it, and it is this step, or none is needed; or what refuses the changes behind it.
abbrev pub IsRecovered : (timestamp : ℕ) → GroupValue → List Change → Result (Option ReadyStep) GroupFault → Type 0
IsRecovered timestamp group changes (Ok next) = (full_of_recovery timestamp group ≡ None) × (option_map (λ one. one.step) next ≡ recovery_of timestamp group)
IsRecovered timestamp group changes (Err Memory) = Unit {0}
IsRecovered timestamp group changes (Err (Refused refusal)) =
    steps_from timestamp (full_of_recovery timestamp group) changes (config_recovered group) (disks_recovered timestamp group) ≡ Err refusal
IsRecovered timestamp group changes (Err SequenceSpent) = ⊥

-- A disk behind a step that writes these: as the step writes it, where it does.
abbrev pub behind_written : List Seated → Seated → Seated
behind_written written disk = option_map_or levelled (find (λ other. other.seat.slot == disk.seat.slot) written) disk

-- The disks of a group behind a step that recovers it: of the loss all that it writes, and else each disk.
abbrev pub disks_behind : GroupValue → Option ReadyStep → List Seated → List Seated
disks_behind group None disks = disks
disks_behind group (Some one) disks = if some group.absent then map levelled one.step.disks else map (behind_written one.step.disks) disks

abbrev pub config_behind : GroupValue → Option ReadyStep → Configuration
config_behind group next = option_map_or (λ one. one.step.config) next group.config
