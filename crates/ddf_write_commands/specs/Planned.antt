-- What a command that works on the blocks of an array asks of its group: the changes before the blocks and behind them, and the view of the array between these.
use Rattle.std.specs.Prelude.{◌≡◌, ℕ, Bool, true, false, List, ◌++◌, Option, Some, None, Result, Ok, Err}
use Rattle.ddf_config.specs.declared.array.Array.{Array}
use Rattle.ddf_config.specs.declared.refusal.Refusal.{Refusal}
use Rattle.ddf_config.specs.declared.refusal.Refusal.TheVariants.{NoArray}
use Rattle.ddf_config.specs.declared.seat.Seat.{Seat}
use Rattle.ddf_config.specs.Configuration.{Configuration}
use Rattle.ddf_config.specs.Refusals.{first_refusal}
use Rattle.ddf_plan.specs.declared.change.Change.{Change}
use Rattle.ddf_array.specs.Viewing.{is_array_redundant, view_of}
use Rattle.ddf_array.specs.Volume.{Volume}
use Rattle.ddf_cells.specs.Degraded.{is_degraded}
use Rattle.ddf_seats.specs.Group.{GroupValue}
use Rattle.ddf_recovery.specs.Ready.{readied}
use Rattle.ddf_recovery.specs.Recovery.{config_recovered}
use Rattle.ddf_steps.specs.Steps.{Step}
use Rattle.ddf_request.specs.Named.{named_array}
use Rattle.ddf_group_commands.specs.Change.{Request, steps_of}
use Rattle.ddf_write_commands.specs.Around.{config_behind, marking}

-- an array of a configuration, with its GUID
abbrev pub Entry : Type 0
Entry = List ℕ × Array

-- What such a command is refused for, in order, of an array and the seats of its group.
abbrev pub Refusing : Type 0
Refusing = Configuration → List Seat → Entry → List (Option Refusal)

-- an element that keeps parity lacks a position
abbrev pub lacks_position : Result Volume Refusal → Bool
lacks_position (Ok volume) = is_degraded volume
lacks_position (Err refusal) = false

abbrev pub unless_refused : List Change → Option Refusal → Result (List Change) Refusal
unless_refused changes None = Ok changes
unless_refused changes (Some refusal) = Err refusal

-- The array is marked before its blocks are written, where it keeps what it holds in more than one place; the other changes stand behind the blocks.
abbrev pub changes_around : (behind : Entry → List Change) → Entry → List Change
changes_around behind entry = marking entry ++ behind entry

abbrev pub asked_of : Refusing → (behind : Entry → List Change) → Configuration → List Seat → Option Entry → Result (List Change) Refusal
asked_of refusing behind config seats None = Err NoArray
asked_of refusing behind config seats (Some entry) = unless_refused (changes_around behind entry) (first_refusal (refusing config seats entry))

-- The changes around the blocks of the array that a word names, or why there are none.
abbrev pub request_around : Refusing → (behind : Entry → List Change) → (word : List ℕ) → Request
request_around refusing behind word config seats = asked_of refusing behind config seats (named_array config.arrays word)

-- The array that the word names, the steps before its blocks and behind them, and its view behind the first: over the group's seats, by the configuration in
-- which it is marked, where it keeps what it holds in more than one place.
pub record IsPlanned (found : GroupValue) (timestamp : ℕ) (word : List ℕ) (request : Request) : Type 0 where
  pub entry : Entry
  pub is_named : named_array (config_recovered found).arrays word ≡ Some entry
  pub first : List Step
  pub last : List Step
  pub are_first : readied found (marking entry) timestamp ≡ Ok first
  pub are_asked : steps_of found timestamp request ≡ Ok (first ++ last)
  pub volume : Volume
  pub is_view : view_of (config_behind found.config first) entry.0 found.seats ≡ Ok volume
  pub is_marked : is_array_redundant entry.1 ≡ true → volume.marked ≡ true
