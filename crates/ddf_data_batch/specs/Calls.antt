-- What the lines of a batch came to, as calls of a history of a group and of its data.
use Rattle.std.specs.Prelude.{◌≡◌, ◌⊎◌, ℕ, Bool, false, List, length, Option, Some, Result, Ok, option_to_list, IsTrue}
use Rattle.std.proofs.Common.{inl, inr}
use Rattle.ddf_bytes.specs.declared.stamp.Stamp.{Stamp}
use Rattle.ddf_bytes.specs.Stamps.{timestamp_of}
use Rattle.ddf_bytes.specs.Streams.{SourceState}
use Rattle.ddf_bay.specs.ReadsOnly.{ReadsOnly}
use Rattle.ddf_bay.specs.Sectors.{Image, IsLeft}
use Rattle.ddf_bay.specs.State.{BayState}
use Rattle.ddf_plan.specs.declared.change.Change.{Change}
use Rattle.ddf_plan.specs.declared.change.Change.TheVariants.{Unmark}
use Rattle.ddf_seats.specs.Group.{GroupValue}
use Rattle.ddf_assembly.specs.Group.{group_of}
use Rattle.ddf_joining.specs.Joining.{Joining, config_joining}
use Rattle.ddf_recovery.specs.Recovery.{config_recovered}
use Rattle.ddf_steps.specs.Steps.{Step}
use Rattle.ddf_history_joins.specs.Joins.{AdmitsCall}
use Rattle.ddf_words.specs.Traits.{traits_of}
use Rattle.ddf_words.specs.Words.{Word}
use Rattle.ddf_words.specs.declared.command.Command.{Command}
use Rattle.ddf_words.specs.declared.command.Command.TheVariants as commands
use Rattle.ddf_answer.specs.declared.failure.Failure.{Failure}
use Rattle.ddf_answer.specs.Call.{Answer, Work, work_of}
use Rattle.ddf_answer.specs.Ends.{is_unwritten}
use Rattle.ddf_group_commands.specs.Assemble.{no_change}
use Rattle.ddf_group_commands.specs.Change.{HasChanged, Request, TakesGroup, steps_of}
use Rattle.ddf_group_commands.specs.Requests.{request_for}
use Rattle.ddf_import_command.specs.Import.{HasImported, import_asked}
use Rattle.ddf_write_commands.specs.Planned.{IsPlanned}
use Rattle.ddf_write_commands.specs.Resync.{HasResyncedArray, resync_request}
use Rattle.ddf_group_commands.specs.Requests.{linux_members}
use Rattle.ddf_rebuild_command.specs.Asked.{rebuild_request}
use Rattle.ddf_rebuild_command.specs.CopiedBack.{HasCopiedBack}
use Rattle.ddf_rebuild_command.specs.GoingBack.{copyback_request}
use Rattle.ddf_rebuild_command.specs.Rebuilt.{HasRebuiltArray}
use Rattle.ddf_command.specs.Run.{IsCommandDone}
use Rattle.ddf_data_calls.specs.Calls.{MayAsk}
use Rattle.ddf_data_calls.specs.Agreed.{DoDisksAgree}
use Rattle.ddf_data_events.specs.Calls.{AcceptCall, Call, ChangeCall, CopybackCall, Finds, JoinCall, OtherCall, RebuildCall, ResyncCall, course_of, done_in}
use Rattle.ddf_data_events.specs.Calls.Call.{Accepts, Changes, Copies, Joins, Others, Reads, Rebuilds, Resyncs}
use Rattle.ddf_data_events.specs.Joins.{HaveJoiningFloors, IsNonePromised}
use Rattle.ddf_data_events.specs.Moments.{Moment}
use Rattle.ddf_words.specs.Lines.{AsksFor, IsLine}
use Rattle.ddf_batch.specs.Line.{no_input}

-- A line that ended with this status wrote nothing: its words are no command's that a line may ask for; its command may not write; or it wasn't done, with such a status.
abbrev pub IsUnwritten : List Word → (code : ℕ) → Type 0
IsUnwritten words code = (IsLine words → ⊥) ⊎ ((command : Command) × AsksFor words command × ((traits_of command).may_write ≡ false)) ⊎ IsTrue (is_unwritten code)

-- `disks` is what a bay of type B tells, and `told` that it tells what they hold; `streams` is what an input of type S tells. A line is run over the
-- named group or the only one, from the bay of a moment on, and leaves this bay.
module _ {B : Type 0} {tells : Type 0} (told : tells) (disks : B → BayState B) {S : Type 0} (tells_bytes : Type 0) (streams : S → SourceState) (stamp : Stamp) (group : Option (List ℕ)) (guid : List ℕ)
    (old : Moment guid B) (exit : B) where
  abbrev pub work : Work B
  work = work_of tells (disks old.bay) (disks exit)

  -- ---- what a history asks of a line, as of a call of the program, and the call that the line is then

  -- It changes the group, and wasn't refused. Its one change, if it makes one, has what it asks for.
  pub record TakesChange (request : Request) (outcome : Result ℕ Failure) (has : HasChanged work group (timestamp_of stamp) request outcome) : Type 0 where
    pub finds : Finds told disks tells_bytes streams guid old has.taken.left has.taken.newest group
    pub steps : List Step
    pub are_asked : steps_of finds.found (timestamp_of stamp) request ≡ Ok steps
    pub change : Option Change
    pub is_change : request (config_recovered finds.found) finds.found.seats ≡ Ok (option_to_list change)
    pub may : (image : Image) → IsLeft (disks old.bay).may_hold image → MayAsk (config_recovered finds.found) finds.found.seats image old.promises change

  abbrev pub change_call : (request : Request) (outcome : Result ℕ Failure) (has : HasChanged work group (timestamp_of stamp) request outcome) → TakesChange request outcome has
      → ChangeCall told disks tells_bytes streams guid old
  change_call request outcome has takes = record {
    exit = exit;
    named = group;
    timestamp = timestamp_of stamp;
    request = request;
    outcome = outcome;
    changed = has;
    finds = takes.finds;
    steps = takes.steps;
    are_asked = takes.are_asked;
    change = takes.change;
    is_change = takes.is_change;
    may = takes.may;
  }

  -- It accepts an array of which the bytes agree.
  pub record TakesAccept (request : Request) (outcome : Result ℕ Failure) (has : HasChanged work group (timestamp_of stamp) request outcome) : Type 0 where
    pub takes : TakesChange request outcome has
    pub array : List ℕ
    pub init : ℕ
    pub is_accept : takes.change ≡ Some (Unmark array init)
    pub agree : DoDisksAgree takes.finds.found array (disks old.bay).held

  abbrev pub accept_call : (request : Request) (outcome : Result ℕ Failure) (has : HasChanged work group (timestamp_of stamp) request outcome) → TakesAccept request outcome has
      → AcceptCall told disks tells_bytes streams guid old
  accept_call request outcome has accepts = record {
    call = change_call request outcome has accepts.takes;
    array = accepts.array;
    init = accepts.init;
    is_accept = accepts.is_accept;
    agree = accepts.agree;
  }

  -- It resyncs an array, and wasn't refused. It may be said that what its blocks have once it is done counts from then on.
  pub record TakesResync (name : List ℕ) (outcome : Result ℕ Failure) (has : HasResyncedArray work group (timestamp_of stamp) name outcome) : Type 0 where
    pub finds : Finds told disks tells_bytes streams guid old has.taken.left has.taken.newest group
    pub plan : IsPlanned finds.found (timestamp_of stamp) name (resync_request name)
    pub counts : Bool

  abbrev pub resync_call : (name : List ℕ) (outcome : Result ℕ Failure) (has : HasResyncedArray work group (timestamp_of stamp) name outcome) → TakesResync name outcome has
      → ResyncCall told disks tells_bytes streams guid old
  resync_call name outcome has takes = record {
    exit = exit;
    named = group;
    timestamp = timestamp_of stamp;
    word = name;
    outcome = outcome;
    resynced = has;
    finds = takes.finds;
    plan = takes.plan;
    counts = takes.counts;
  }

  -- It takes the group by what it asks of the one that it finds, and wasn't refused.
  pub record TakesSteps {asked : Request} {done : Bool} (taken : TakesGroup work group (timestamp_of stamp) asked done) (request : GroupValue → Request) : Type 0 where
    pub finds : Finds told disks tells_bytes streams guid old taken.left taken.newest group
    pub steps : List Step
    pub are_asked : steps_of finds.found (timestamp_of stamp) (request finds.found) ≡ Ok steps

  -- It rebuilds an array.
  abbrev pub TakesRebuild : (name : List ℕ) (outcome : Result ℕ Failure) → HasRebuiltArray work group (timestamp_of stamp) name outcome → Type 0
  TakesRebuild name outcome has = TakesSteps has.taken (λ found. rebuild_request name (linux_members found))

  abbrev pub rebuild_call : (name : List ℕ) (outcome : Result ℕ Failure) (has : HasRebuiltArray work group (timestamp_of stamp) name outcome) → TakesRebuild name outcome has
      → RebuildCall told disks tells_bytes streams guid old
  rebuild_call name outcome has takes = record {
    exit = exit;
    named = group;
    timestamp = timestamp_of stamp;
    word = name;
    outcome = outcome;
    rebuilt = has;
    finds = takes.finds;
    steps = takes.steps;
    are_asked = takes.are_asked;
  }

  -- A position of an array goes back by it.
  abbrev pub TakesCopyback : (name : List ℕ) (slot : ℕ) (outcome : Result ℕ Failure) → HasCopiedBack work group (timestamp_of stamp) name slot outcome → Type 0
  TakesCopyback name slot outcome has = TakesSteps has.taken (λ found. copyback_request (length (disks old.bay).sizes) name slot (linux_members found))

  abbrev pub copyback_call : (name : List ℕ) (slot : ℕ) (outcome : Result ℕ Failure) (has : HasCopiedBack work group (timestamp_of stamp) name slot outcome) → TakesCopyback name slot outcome has
      → CopybackCall told disks tells_bytes streams guid old
  copyback_call name slot outcome has takes = record {
    exit = exit;
    named = group;
    timestamp = timestamp_of stamp;
    word = name;
    slot = slot;
    outcome = outcome;
    copied = has;
    finds = takes.finds;
    steps = takes.steps;
    are_asked = takes.are_asked;
  }

  -- By it another group joins, and it wasn't refused. Nothing is promised of the arrays that join, and the disks that join have their floors.
  pub record TakesJoin (other : List ℕ) (outcome : Result ℕ Failure) (has : HasImported work group other (timestamp_of stamp) outcome) : Type 0 where
    pub finds : Finds told disks tells_bytes streams guid old has.first.left has.first.newest group
    pub joining : GroupValue
    pub is_joining : group_of has.second.newest (Some other) ≡ Ok joining
    pub made : Joining
    pub are_asked : import_asked (timestamp_of stamp) has.first.left finds.found joining ≡ Ok made
    pub admits_join : AdmitsCall guid old.past (disks old.bay) finds.found joining
    pub none_promised : IsNonePromised (config_joining joining) old.promises
    pub floors : HaveJoiningFloors guid old.past (disks old.bay) old.floor joining

  abbrev pub join_call : (other : List ℕ) (outcome : Result ℕ Failure) (has : HasImported work group other (timestamp_of stamp) outcome) → TakesJoin other outcome has
      → JoinCall told disks tells_bytes streams guid old
  join_call other outcome has takes = record {
    join = record {
      exit = exit;
      named = group;
      other = other;
      timestamp = timestamp_of stamp;
      outcome = outcome;
      imported = has;
      group = takes.finds.found;
      is_group = takes.finds.is_found;
      same_group = takes.finds.own;
      joining = takes.joining;
      is_joining = takes.is_joining;
      made = takes.made;
      are_asked = takes.are_asked;
      admitted = takes.finds.admitted;
      admits_join = takes.admits_join;
    };
    tells_left = takes.finds.tells_left;
    none_promised = takes.none_promised;
    floors = takes.floors;
  }

  -- ---- by its command

  abbrev pub Came : Command → Answer → Type 0
  Came command answer = IsCommandDone work no_input stamp group command answer

  abbrev pub Takes : (command : Command) (answer : Answer) → Came command answer → Type 0
  Takes commands.Assemble answer came = TakesChange no_change came.outcome came.has
  Takes (commands.Change wish) answer came =
      TakesChange (request_for (length (disks old.bay).sizes) stamp wish came.wished.linux) came.outcome came.wished.has
      ⊎ TakesAccept (request_for (length (disks old.bay).sizes) stamp wish came.wished.linux) came.outcome came.wished.has
  Takes (commands.Resync name) answer came = TakesResync name came.outcome came.has
  Takes (commands.Rebuild name) answer came = TakesRebuild name came.outcome came.has
  Takes (commands.Copyback name slot) answer came = TakesCopyback name slot came.outcome came.has
  Takes (commands.Import other) answer came = TakesJoin other came.outcome came.has
  Takes command answer came = ⊥

  abbrev pub own_call : (command : Command) (answer : Answer) (came : Came command answer) → Takes command answer came → Call told disks tells_bytes streams guid old
  own_call commands.Assemble answer came takes = Changes (change_call no_change came.outcome came.has takes)
  own_call (commands.Change wish) answer came (inl takes) = Changes (change_call (request_for (length (disks old.bay).sizes) stamp wish came.wished.linux) came.outcome came.wished.has takes)
  own_call (commands.Change wish) answer came (inr accepts) = Accepts (accept_call (request_for (length (disks old.bay).sizes) stamp wish came.wished.linux) came.outcome came.wished.has accepts)
  own_call (commands.Resync name) answer came takes = Resyncs (resync_call name came.outcome came.has takes)
  own_call (commands.Rebuild name) answer came takes = Rebuilds (rebuild_call name came.outcome came.has takes)
  own_call (commands.Copyback name slot) answer came takes = Copies (copyback_call name slot came.outcome came.has takes)
  own_call (commands.Import other) answer came takes = Joins (join_call other came.outcome came.has takes)
  own_call command answer came takes = absurd takes

  -- The history takes a line as a call of its own; or as one beside it, that changes another group; or it wrote nothing.
  pub data LineCall (answer : Answer) : Type 0 where
    Own : (command : Command) (came : Came command answer) → Takes command answer came → LineCall answer
    Beside : (call : OtherCall told disks tells_bytes streams guid old) → call.beside.exit ≡ exit → LineCall answer
    Unwritten : ReadsOnly (disks old.bay) (disks exit) → LineCall answer

  -- the call that it is
  abbrev pub call_of : (answer : Answer) → LineCall answer → Call told disks tells_bytes streams guid old
  call_of answer (Own command came takes) = own_call command answer came takes
  call_of answer (Beside call same_exit) = Others call
  call_of answer (Unwritten reads) = Reads exit reads

-- A call was done: all of its changes are acknowledged then. One that doesn't change the group has none.
module _ {B : Type 0} {tells : Type 0} (told : tells) (disks : B → BayState B) {S : Type 0} (tells_bytes : Type 0) (streams : S → SourceState) (guid : List ℕ) {old : Moment guid B} where
  abbrev pub was_done : Call told disks tells_bytes streams guid old → Bool
  was_done call = done_in told disks tells_bytes streams guid (course_of told disks tells_bytes streams guid call)
