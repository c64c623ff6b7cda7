-- What a rebuild is to do to the array that a word names: which position it fills, in which rounds.
use Rattle.std.specs.Prelude.{◌≡◌, ℕ, true, false, List, [], ◌∷◌, ◌++◌, min, Some, slice_get, Result, Ok, Err}
use Rattle.ddf_plan.specs.declared.change.Change.{Change}
use Rattle.ddf_repair.specs.declared.first.Target.{Target}
use Rattle.ddf_repair.specs.declared.beginning.Begun.{Begun}
use Rattle.ddf_repair.specs.declared.beginning.Begun.TheVariants.{Nothing, Fresh, Again}
use Rattle.ddf_repair.specs.declared.beginning.RebuildFault.{RebuildFault}
use Rattle.ddf_repair.specs.Begin.{begun}
use Rattle.ddf_array.specs.declared.part.Part.{Part}
use Rattle.ddf_array.specs.Apart.{IsApart}
use Rattle.ddf_array.specs.Viewing.{view_of}
use Rattle.ddf_array.specs.Volume.{IsVolume, Volume}
use Rattle.ddf_array.specs.Within.{is_within}
use Rattle.ddf_rebuild.specs.Target.{IsOut, row_count}
use Rattle.ddf_seats.specs.Group.{GroupValue}
use Rattle.ddf_recovery.specs.Ready.{readied}
use Rattle.ddf_recovery.specs.Recovery.{config_recovered}
use Rattle.ddf_steps.specs.Steps.{Step}
use Rattle.ddf_request.specs.Named.{named_array}
use Rattle.ddf_group_commands.specs.Change.{steps_of as steps_asked}
use Rattle.ddf_group_commands.specs.Requests.{linux_members}
use Rattle.ddf_write_commands.specs.Around.{config_behind}
use Rattle.ddf_write_commands.specs.Planned.{Entry}
use Rattle.ddf_rebuild_command.specs.Asked.{changes_behind, kept_in, rebuild_request, rows_in}
use Rattle.ddf_rebuild_command.specs.Notes.{notes}
use Rattle.ddf_rebuild_command.specs.PassedOver.{passed_over}
use Rattle.ddf_rebuild_command.specs.Rounds.{Round, rows_of, steps_of}

-- It begins so: it goes on at a position whose disk is here, behind the rows that are kept; or the position first gets a spare, by this change.
abbrev pub BeginsAt : Entry → Target → (kept : ℕ) → (before : List Change) → Result Begun RebuildFault → Type 0
BeginsAt entry target kept before (Ok (Again at)) = (target ≡ at) × (kept ≡ kept_in entry.1 at) × (before ≡ [])
BeginsAt entry target kept before (Ok (Fresh at change)) = (target ≡ at) × (kept ≡ 0) × (before ≡ change ∷ [])
BeginsAt entry target kept before (Ok Nothing) = ⊥
BeginsAt entry target kept before (Err fault) = ⊥

-- A position of the array is out of sync. The steps before its rows are the recovery, and that which gives it a spare; behind the rows of each round stands the
-- round's step: a note of the position's progress, or at all rows of its element its end. The view is behind the first steps, of an array within its level.
pub record IsPlanned (found : GroupValue) (timestamp : ℕ) (word : List ℕ) : Type 0 where
  pub entry : Entry
  pub is_named : named_array (config_recovered found).arrays word ≡ Some entry
  pub target : Target
  pub kept : ℕ
  pub before : List Change
  pub begins : BeginsAt entry target kept before (begun (config_recovered found) entry.0 found.seats (passed_over (linux_members found) entry.1))
  pub first : List Step
  pub are_first : readied found before timestamp ≡ Ok first
  pub rounds : List Round
  pub are_asked : steps_asked found timestamp (rebuild_request word (linux_members found)) ≡ Ok (first ++ steps_of rounds)
  pub are_readied : readied found (before ++ changes_behind entry target kept) timestamp ≡ Ok (first ++ steps_of rounds)
  pub rows_are : rows_of rounds ≡ notes kept (rows_in entry.1 target.element) ++ rows_in entry.1 target.element ∷ []
  pub volume : Volume
  pub is_view : view_of (config_behind found.config first) entry.0 found.seats ≡ Ok volume
  pub known : IsVolume volume
  pub apart : IsApart volume
  pub is_out : IsOut volume target.element target.position
  pub unmarked : volume.marked ≡ false
  pub within : is_within volume ≡ true
  pub all_rows : (part : Part) → slice_get volume.parts target.element ≡ Some part → rows_in entry.1 target.element ≡ row_count part.shape

-- Every position is in sync: the steps are those of the recovery alone.
pub record IsIdle (found : GroupValue) (timestamp : ℕ) (word : List ℕ) : Type 0 where
  pub entry : Entry
  pub is_named : named_array (config_recovered found).arrays word ≡ Some entry
  pub nothing : begun (config_recovered found) entry.0 found.seats (passed_over (linux_members found) entry.1) ≡ Ok Nothing

-- the row from which it fills: kept rows past the last count as all
abbrev pub first_row : {found : GroupValue} {timestamp : ℕ} {word : List ℕ} → IsPlanned found timestamp word → ℕ
first_row plan = min plan.kept (rows_in plan.entry.1 plan.target.element)
