-- Commands on a group and on the blocks of its arrays, over disks in memory, as the contracts of the program's calls promise them.
use Rattle.std.specs.Prelude.{◌≡◌, ℕ, Bool, List, [], ◌∷◌, Some, Result, Ok}
use Rattle.ddf_bytes.specs.Streams.{SourceState}
use Rattle.ddf_bay.specs.Memory.{disks_of}
use Rattle.ddf_bay.specs.declared.memory.MemoryBay.{MemoryBay}
use Rattle.ddf_config.specs.declared.array.Array.{Array}
use Rattle.ddf_plan.specs.declared.change.Change.TheVariants.{Create}
use Rattle.ddf_seats.specs.Group.{GroupValue}
use Rattle.ddf_assembly.specs.Group.{group_of}
use Rattle.ddf_recovery.specs.Recovery.{config_recovered}
use Rattle.ddf_steps.specs.Steps.{Step}
use Rattle.ddf_request.specs.Named.{named_array}
use Rattle.ddf_answer.specs.declared.failure.Failure.{Failure}
use Rattle.ddf_answer.specs.Call.{Work, input_of, work_of}
use Rattle.ddf_group_commands.specs.Change.{HasChanged, Request, TakesGroup, steps_of}
use Rattle.ddf_read_commands.specs.Read.{HasRead, Outcome as ReadOutcome}
use Rattle.ddf_write_commands.specs.Planned.{IsPlanned}
use Rattle.ddf_write_commands.specs.Resync.{HasResyncedArray, resync_request}
use Rattle.ddf_write_commands.specs.Write.{HasWrittenArray, Outcome, write_request}
use Rattle.ddf_history_memory.specs.Histories.{GoesWell}
use Rattle.ddf_data_calls.specs.Promised.{HasGiven}

module _ (group : List ℕ) (old exit : MemoryBay) where
  -- the work of a call, over disks in memory: they tell what they hold
  abbrev pub work : Work MemoryBay
  work = work_of (Unit {0}) (disks_of old) (disks_of exit)

  -- A command took the group, which its words name, over disks of which no call is listed to fail, and found it.
  pub record Took {timestamp : ℕ} {request : Request} {done : Bool} (taken : TakesGroup work (Some group) timestamp request done) : Type 0 where
    pub well : GoesWell old exit
    pub found : GroupValue
    pub is_found : group_of taken.newest (Some group) ≡ Ok found

  -- A `create` of an array: it asked for the array, and for these steps.
  pub record IsCreate (guid : List ℕ) : Type 0 where
    pub timestamp : ℕ
    pub request : Request
    pub outcome : Result ℕ Failure
    pub has : HasChanged work (Some group) timestamp request outcome
    pub took : Took has.taken
    pub steps : List Step
    pub are_asked : steps_of took.found timestamp request ≡ Ok steps
    pub array : Array
    pub asks : request (config_recovered took.found) took.found.seats ≡ Ok (Create guid array ∷ [])

  -- A `resync` of the array that its word names.
  pub record IsResync : Type 0 where
    pub timestamp : ℕ
    pub word : List ℕ
    pub outcome : Result ℕ Failure
    pub has : HasResyncedArray work (Some group) timestamp word outcome
    pub took : Took has.taken
    pub plan : IsPlanned took.found timestamp word (resync_request word)

  -- A `write` of these sectors, as the blocks of an array from a number on, from an input that tells its bytes.
  pub record IsWrite : Type 0 where
    pub before : SourceState
    pub after : SourceState
    pub timestamp : ℕ
    pub word : List ℕ
    pub start : ℕ
    pub count : ℕ
    pub sectors : List (List ℕ)
    pub outcome : Outcome
    pub given : HasGiven outcome sectors
    pub has : HasWrittenArray work (input_of (Unit {0}) before after) (Some group) timestamp word start count outcome
    pub took : Took has.taken
    pub plan : IsPlanned took.found timestamp word (write_request word start count)

  -- A `read` of blocks of the array of this GUID, which its word names in what it found.
  pub record IsRead (guid : List ℕ) : Type 0 where
    pub word : List ℕ
    pub start : ℕ
    pub count : ℕ
    pub outcome : ReadOutcome
    pub has : HasRead work (Some group) word start count outcome
    pub well : GoesWell old exit
    pub found : GroupValue
    pub is_found : group_of has.newest (Some group) ≡ Ok found
    pub array : Array
    pub is_named : named_array found.config.arrays word ≡ Some (guid, array)
