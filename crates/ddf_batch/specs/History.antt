-- What the lines of a batch are to the histories of a group.
use Rattle.std.specs.Prelude.{◌≡◌, ℕ, Bool, true, false, ◌||◌, nat_lt, List, [], ◌∷◌, length, Option, Result, Ok}
use Rattle.ddf_bytes.specs.declared.stamp.Stamp.{Stamp}
use Rattle.ddf_bytes.specs.Stamps.{timestamp_of}
use Rattle.ddf_bytes.specs.Streams.{SinkState}
use Rattle.ddf_bay.specs.State.{BayState}
use Rattle.ddf_seats.specs.Group.{GroupValue}
use Rattle.ddf_assembly.specs.Group.{group_of}
use Rattle.ddf_steps.specs.Steps.{Step}
use Rattle.ddf_history.specs.Groups.{groups}
use Rattle.ddf_history.specs.History.{Moment}
use Rattle.ddf_history_steps.specs.Going.{IsAdmitted}
use Rattle.ddf_words.specs.Words.{Word}
use Rattle.ddf_words.specs.declared.command.Command.{Command}
use Rattle.ddf_words.specs.declared.command.Command.TheVariants.{Change, Copyback, Import, Rebuild, Resync}
use Rattle.ddf_answer.specs.Call.{work_of}
use Rattle.ddf_answer.specs.declared.failure.Failure.{Failure}
use Rattle.ddf_group_commands.specs.Assemble.{no_change}
use Rattle.ddf_group_commands.specs.Change.{Request, TakesGroup, is_done, steps_of}
use Rattle.ddf_group_commands.specs.Requests.{linux_found, request_for}
use Rattle.ddf_write_commands.specs.Resync.{resync_request}
use Rattle.ddf_import_command.specs.Import.{HasImported}
use Rattle.ddf_rebuild_command.specs.Asked.{rebuild_request}
use Rattle.ddf_rebuild_command.specs.GoingBack.{copyback_request}
use Rattle.ddf_command.specs.History.{IsCall}
use Rattle.ddf_batch.specs.Batch.{AreLinesRun, Going, goes_on, point}
use Rattle.ddf_batch.specs.Line.{Point}

-- the changes that the command of a line asks of a group, on so many slots, of which Linux reads these members' disks
abbrev pub request_of_line : (slots : ℕ) → Stamp → (linux : List ℕ) → Command → Request
request_of_line slots stamp linux (Resync name) = resync_request name
request_of_line slots stamp linux (Rebuild name) = rebuild_request name linux
request_of_line slots stamp linux (Copyback name slot) = copyback_request slots name slot linux
request_of_line slots stamp linux (Change wish) = request_for slots stamp wish linux
request_of_line slots stamp linux other = no_change

-- by it another group joins
abbrev pub is_join : Command → Bool
is_join (Import other) = true
is_join command = false

-- What the line of an import came to, as a call of the program does, and it was done where its status is 0.
pub record LineJoined {B : Type 0} (tells : Type 0) (disks : B → BayState B) (stamp : Stamp) (group : Option (List ℕ)) (other : List ℕ) (from to : Point B) (code : ℕ) : Type 0 where
  pub outcome : Result ℕ Failure
  pub has : HasImported (work_of tells (disks from.bay) (disks to.bay)) group other (timestamp_of stamp) outcome
  pub was_done : code ≡ 0 → is_done outcome ≡ true

module _ {B : Type 0} (tells : Type 0) (disks : B → BayState B) (stamp : Stamp) (group : Option (List ℕ)) (command : Command) where
  -- The line took the group that it found as a call of the program does, and was done where its status is 0.
  pub record LineTook (from to : Point B) (code : ℕ) : Type 0 where
    pub done : Bool
    pub linux : List ℕ
    pub taken : TakesGroup (work_of tells (disks from.bay) (disks to.bay)) group (timestamp_of stamp) (request_of_line (length (disks from.bay).sizes) stamp linux command) done
    pub are_its : linux ≡ linux_found (group_of taken.newest group)
    pub is_done : code ≡ 0 → done ≡ true

  -- The group that it found is that of a history, it wasn't refused, and the history admits it.
  pub record IsLineOf (guid : List ℕ) (old : Moment (groups guid) B) (output : SinkState) (to : Point B) (code : ℕ) (took : LineTook (point old.bay output) to code) : Type 0 where
    pub found : GroupValue
    pub is_group : group_of took.taken.newest group ≡ Ok found
    pub same_group : found.config.group ≡ guid
    pub steps : List Step
    pub are_asked : steps_of found (timestamp_of stamp) (request_of_line (length (disks old.bay).sizes) stamp took.linux command) ≡ Ok steps
    pub admitted : IsAdmitted guid old.past (disks old.bay) took.taken.left found

-- what holds of what follows, or else of the end
abbrev pub Behind : (goes_on : Bool) → (follows ends : Type 0) → Going goes_on follows ends → (of_others : follows → Type 0) → (at_end : Type 0) → Type 0
Behind true follows ends going of_others at_end = of_others going
Behind false follows ends going of_others at_end = at_end

module _ {B : Type 0} {tells : Type 0} (told : tells) (disks : B → BayState B) (sink : Type 0) (stamp : Stamp) (group : Option (List ℕ)) (images : List Word) (guid : List ℕ) where
  -- The calls of lines that were run belong to a history of a group: behind each line stands a moment, with the bay that the line left, and the call from
  -- the moment before is one of the history, or one that doesn't take its group.
  abbrev pub AreCallsOf : (lines : List (List ℕ)) → (from to : Point B) → (refused : Bool) → (status : ℕ) → AreLinesRun tells disks sink stamp group images lines from to refused status
      → (old : Moment (groups guid) B) → List (Moment (groups guid) B) → Type 0
  AreCallsOf [] from to refused status ran old moments = moments ≡ []
  AreCallsOf (line ∷ lines) from to refused status ran old [] = ⊥
  AreCallsOf (line ∷ lines) from to refused status ran old (new ∷ moments) =
      IsCall told disks guid old new × (new.bay ≡ ran.0.bay)
      × Behind (goes_on ran.1) (AreLinesRun tells disks sink stamp group images lines ran.0 to (refused || nat_lt 0 ran.1) status) ((to ≡ ran.0) × (status ≡ ran.1)) ran.3
      (λ others. AreCallsOf lines ran.0 to (refused || nat_lt 0 ran.1) status others new moments) (moments ≡ [])
