-- What is planned of an array is what is written of its group and filled between: what a plan has to give of the steps that were readied for it.
use Rattle.std.proofs.Common.{◌≡◌, ℕ, ◌≤◌, true, List, length}
use Rattle.std.specs.Prelude.{◌++◌, slice_get, Some}
use Rattle.ddf_array.specs.Apart.{IsApart}
use Rattle.ddf_array.specs.Within.{is_within}
use Rattle.ddf_array.specs.declared.part.Part.{Part}
use Rattle.ddf_rebuild.specs.Target.{row_count}
use Rattle.ddf_recovery.specs.Committed.{WasReadied}
use Rattle.ddf_seats.specs.Group.{GroupValue}
use Rattle.ddf_recovery.specs.Ready.{ReadyValue}
use Rattle.ddf_write_commands.specs.Around.{rest}
use Rattle.ddf_rebuild_command.specs.declared.planning.Filling.{Filling}
use Rattle.ddf_rebuild_command.specs.Asked.{changes_behind, rows_in}
use Rattle.ddf_rebuild_command.specs.Filled.{RiseTo, rounds_in}
use Rattle.ddf_rebuild_command.specs.Opened.{steps_before}
use Rattle.ddf_rebuild_command.specs.Planned.{IsPlanned, first_row}

-- The rounds of the plan are the rows that are to be filled, with the steps behind the first.
pub record IsPlannedFor (found : GroupValue) (timestamp : ℕ) (word : List ℕ) (filling : Filling) (ready : ReadyValue) : Type 0 where
  pub planned : IsPlanned found timestamp word
  pub was : WasReadied found (planned.before ++ changes_behind planned.entry planned.target planned.kept) timestamp ready
  pub target_is : planned.target ≡ filling.target
  pub volume_is : planned.volume ≡ filling.view
  pub from_is : first_row planned ≡ filling.from
  pub first_is : planned.first ≡ steps_before filling.begins ready
  pub rounds_are : planned.rounds ≡ rounds_in filling.rows (rest filling.begins ready.steps)
  pub many : length (rest filling.begins ready.steps) ≡ length filling.rows
  pub apart : IsApart filling.view
  pub is_within : is_within filling.view ≡ true
  pub rise : RiseTo (rows_in planned.entry.1 planned.target.element) filling.from filling.rows
  pub ends : (part : Part) → slice_get filling.view.parts filling.target.element ≡ Some part → rows_in planned.entry.1 planned.target.element ≤ row_count part.shape
