-- What is planned of the rebuild of an array before anything is written.
use Rattle.std.specs.Prelude.{◌≡◌, ℕ, Bool, true, false, is_some, List, [], ◌∷◌, ◌++◌, map, min, option_to_list, Option, Some, None, Result, Ok, Err}
use Rattle.std.specs.List.{AllByRecursion}
use Rattle.ddf_config.specs.declared.refusal.Refusal.{Refusal}
use Rattle.ddf_config.specs.declared.seat.Seat.{Seat}
use Rattle.ddf_config.specs.Configuration.{Configuration}
use Rattle.ddf_config.specs.Members.{is_current}
use Rattle.ddf_config.specs.Refusals.{first_refusal}
use Rattle.ddf_config.specs.Seats.{floor_of}
use Rattle.ddf_plan.specs.declared.change.Change.{Change}
use Rattle.ddf_plan.specs.declared.change.Change.TheVariants.{Begin, Finish, Progress}
use Rattle.ddf_plan.specs.Changes.{changed_at}
use Rattle.ddf_plan.specs.Rebuild.{new_position}
use Rattle.ddf_repair.specs.declared.first.Target.{Target}
use Rattle.ddf_repair.specs.declared.beginning.Begun.TheVariants.{Nothing}
use Rattle.ddf_repair.specs.Begin.{begun}
use Rattle.ddf_array.specs.Viewing.{view_of}
use Rattle.ddf_array.specs.Volume.{IsVolume, Volume}
use Rattle.ddf_rebuild.specs.Target.{IsOut}
use Rattle.ddf_rewrite.specs.Hold.{FitsPosition}
use Rattle.ddf_steps.specs.Asked.{CanBeAsked}
use Rattle.ddf_request.specs.Named.{named_array}
use Rattle.ddf_answer.specs.declared.failure.Failure.{Failure}
use Rattle.ddf_answer.specs.declared.failure.Failure.TheVariants.{Conflict, Disk, Memory, Refused, Split}
use Rattle.ddf_write_commands.specs.Planned.{Entry}
use Rattle.ddf_rebuild_command.specs.declared.planning.Filling.{Filling}
use Rattle.ddf_rebuild_command.specs.declared.planning.Plan.{Plan}
use Rattle.ddf_rebuild_command.specs.Asked.{bad_spare, changes_behind, rebuild_changes, rebuild_refusals, rebuild_request, rows_in}
use Rattle.ddf_rebuild_command.specs.Notes.{notes}
use Rattle.ddf_rebuild_command.specs.PassedOver.{passed_over}
use Rattle.ddf_rebuild_command.specs.Planned.{BeginsAt}

-- each current member has a seat
abbrev pub HaveSeats : Configuration → List Seat → Type 0
HaveSeats config seats = (reference : ℕ) → is_current config.members reference ≡ true → is_some (floor_of seats reference) ≡ true

-- the numbers of a change that gives a position a spare fit its records
abbrev pub FitsBegin : Change → Type 0
FitsBegin (Begin guid element position reference start) = FitsPosition (new_position reference start)
FitsBegin other = Unit {0}

-- the configuration in which the position has its disk, the sequence number aside
abbrev pub begun_config : Configuration → (before : List Change) → Configuration
begun_config config [] = config
begun_config config (change ∷ others) = changed_at config change config.sequence

-- the view of an array once a position of it has a spare, by a change, unless the spare has bad blocks
abbrev pub spare_view : Configuration → (guid : List ℕ) → List Seat → Change → Result Volume Refusal
spare_view config guid seats change =
    elim (bad_spare seats change) [ None ↦ view_of (changed_at config change config.sequence) guid seats | Some refusal ↦ Err refusal ]

abbrev pub are_any : {X : Type 0} → List X → Bool
are_any [] = false
are_any (x ∷ xs) = true

-- a note of a position's progress at each of these rows, and its end
abbrev pub notes_and_end : (guid : List ℕ) → Target → (rows : List ℕ) → List Change
notes_and_end guid target rows =
    map (λ row. Progress guid target.element target.position row) rows ++ Finish guid target.element target.position ∷ []

-- what is planned of a position of an array behind the rows that are kept, of so many, where a change may come before
abbrev pub filled : (before : Option Change) → (guid : List ℕ) → Target → (kept rows : ℕ) → Volume → Plan
filled before guid target kept rows view = record {
  changes = option_to_list before ++ notes_and_end guid target (notes kept rows);
  filling = Some (record {
    begins = is_some before;
    target = target;
    from = min kept rows;
    rows = notes kept rows ++ rows ∷ [];
    view = view;
  });
}

-- A position of the array of a configuration is to be filled, over these seats, on none of the disks that are set aside.
pub record IsFillingOf (config : Configuration) (seats : List Seat) (aside : List ℕ) (entry : Entry) (changes : List Change) (filling : Filling) : Type 0 where
  pub kept : ℕ
  pub before : List Change
  pub begins : BeginsAt entry filling.target kept before (begun config entry.0 seats aside)
  pub unspoilt : (change : Change) → before ≡ change ∷ [] → bad_spare seats change ≡ None
  pub begins_is : filling.begins ≡ are_any before
  pub changes_are : changes ≡ before ++ changes_behind entry filling.target kept
  pub can_be_asked : AllByRecursion CanBeAsked changes
  pub from_is : filling.from ≡ min kept (rows_in entry.1 filling.target.element)
  pub rows_are : filling.rows ≡ notes kept (rows_in entry.1 filling.target.element) ++ rows_in entry.1 filling.target.element ∷ []
  pub is_view : view_of (begun_config config before) entry.0 seats ≡ Ok filling.view
  pub known : IsVolume filling.view
  pub is_out : IsOut filling.view filling.target.element filling.target.position
  pub unmarked : filling.view.marked ≡ false

-- every position of it is in sync
pub record IsNothingTo (config : Configuration) (seats : List Seat) (aside : List ℕ) (entry : Entry) (changes : List Change) : Type 0 where
  pub nothing : begun config entry.0 seats aside ≡ Ok Nothing
  pub no_changes : changes ≡ []

abbrev pub IsFillingIn : Configuration → List Seat → (aside : List ℕ) → Entry → List Change → Option Filling → Type 0
IsFillingIn config seats aside entry changes None = IsNothingTo config seats aside entry changes
IsFillingIn config seats aside entry changes (Some filling) = IsFillingOf config seats aside entry changes filling

-- This is planned of the array that a word names, where Linux reads these members' disks: nothing refuses it.
pub record IsPlanOf (config : Configuration) (seats : List Seat) (linux : List ℕ) (word : List ℕ) (plan : Plan) : Type 0 where
  pub entry : Entry
  pub is_named : named_array config.arrays word ≡ Some entry
  pub accepted : first_refusal (rebuild_refusals config seats entry) ≡ None
  pub fills : IsFillingIn config seats (passed_over linux entry.1) entry plan.changes plan.filling

-- what is planned of it, why nothing is, or want of memory
abbrev pub MayPlan : Configuration → List Seat → (linux : List ℕ) → (word : List ℕ) → Result Plan Failure → Type 0
MayPlan config seats linux word (Ok plan) = IsPlanOf config seats linux word plan
MayPlan config seats linux word (Err (Refused refusal)) = rebuild_request word linux config seats ≡ Err refusal
MayPlan config seats linux word (Err Memory) = Unit {0}
MayPlan config seats linux word (Err (Disk slot)) = ⊥
MayPlan config seats linux word (Err (Conflict i j sequence differ)) = ⊥
MayPlan config seats linux word (Err (Split i j)) = ⊥

-- the same of an array that nothing refuses so far
abbrev pub MayPlanFor : Configuration → List Seat → (aside : List ℕ) → Entry → Result Plan Failure → Type 0
MayPlanFor config seats aside entry (Ok plan) = IsFillingIn config seats aside entry plan.changes plan.filling
MayPlanFor config seats aside entry (Err (Refused refusal)) = rebuild_changes seats entry (begun config entry.0 seats aside) ≡ Err refusal
MayPlanFor config seats aside entry (Err Memory) = Unit {0}
MayPlanFor config seats aside entry (Err (Disk slot)) = ⊥
MayPlanFor config seats aside entry (Err (Conflict i j sequence differ)) = ⊥
MayPlanFor config seats aside entry (Err (Split i j)) = ⊥
