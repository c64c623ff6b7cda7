-- What the slots of a bay show, at one moment or as a stop may leave them.
use Rattle.std.specs.Prelude.{ℕ, nat_lt, List, length, slice_index, if◌then◌else◌, Result, Ok, Err}
use Rattle.ddf_bay.specs.Sectors.{Image}
use Rattle.ddf_copy.specs.Copies.{newest_at}
use Rattle.ddf_config.specs.Configuration.{Configuration}
use Rattle.ddf_view.specs.View.{View}
use Rattle.ddf_group.specs.declared.shown.Shown.{Shown as GroupShown}
use Rattle.ddf_group.specs.declared.shown.Shown.TheVariants as shown
use Rattle.ddf_group.specs.declared.answer.Assembled.{Assembled}
use Rattle.ddf_group.specs.declared.answer.Assembly.{Assembly}
use Rattle.ddf_group.specs.declared.answer.Assembly.TheVariants as faults
use Rattle.ddf_group.specs.Shown.{shown_of}
use Rattle.ddf_group.specs.Slots.{slot_at}
use Rattle.ddf_history.specs.Reading.{Shown, Scene}
use Rattle.ddf_history.specs.Reading.Shown.{Nothing, One, Differ}
use Rattle.ddf_history.specs.Answer.{Answer}
use Rattle.ddf_history.specs.Answer.Answer.{NoGroup, Conflict, Split, Is}

-- level copies count once
abbrev pub told_of : GroupShown → Shown View
told_of shown.Nothing = Nothing
told_of (shown.One view) = One view
told_of (shown.Level view) = One view
told_of (shown.TwoDiffer primary secondary) = Differ primary secondary

-- what each slot shows, as assembly lists it
abbrev pub scene_in : List GroupShown → Scene View
scene_in slots slot = told_of (slot_at slots slot)

-- what each slot of these sizes shows that holds the sectors of an image
abbrev pub scene_of : (sizes : List ℕ) → Image → Scene View
scene_of sizes image slot = if nat_lt slot (length sizes) then told_of (shown_of (newest_at (slice_index sizes slot) (image slot))) else Nothing

-- what assembly answers, as histories tell of it
abbrev pub answer_of : Result Assembled Assembly → Answer Configuration
answer_of (Ok found) = Is found.config
answer_of (Err faults.NoGroup) = NoGroup
answer_of (Err (faults.SeveralGroups one other)) = NoGroup
answer_of (Err (faults.Conflict i j sequence differ)) = Conflict
answer_of (Err (faults.Split i j)) = Split
answer_of (Err faults.Memory) = NoGroup
