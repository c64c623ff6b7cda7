-- What `scrub` tells, and how it ends.
use Rattle.std.specs.Prelude.{◌≡◌, ◌⊎◌, ℕ, ◌<◌, Bool, false, not, List, [], ◌∷◌, ◌++◌, length, Option, Some, None, Result, Ok, Err, IsTrue, slice_index_or, codes}
use Rattle.std.specs.Fmt.{decimal}
use Rattle.ddf_bay.specs.ReadsOnly.{LookFailed}
use Rattle.ddf_copy.specs.declared.newest_copy.Newest.{Newest}
use Rattle.ddf_config.specs.declared.array.Array.{Array}
use Rattle.ddf_config.specs.declared.refusal.Refusal.{Refusal}
use Rattle.ddf_config.specs.declared.refusal.Refusal.TheVariants.{Lost, NoArray}
use Rattle.ddf_config.specs.declared.seat.Seat.{Seat}
use Rattle.ddf_config.specs.Configuration.{Configuration}
use Rattle.ddf_config.specs.Refusals.{first_refusal, refuse_if}
use Rattle.ddf_array.specs.Sound.{AreSectors}
use Rattle.ddf_array.specs.Viewing.{is_array_within}
use Rattle.ddf_array.specs.Volume.{Volume}
use Rattle.ddf_read.specs.declared.fault.VolumeFault.TheVariants as volumes
use Rattle.ddf_resync.specs.Scrubbing.{IsScrubFault, IsScrubbed}
use Rattle.ddf_resync.specs.declared.outcome.Scrub.{Scrub}
use Rattle.ddf_resync.specs.declared.outcome.Scrub.TheVariants.{Clean, Differs}
use Rattle.ddf_group.specs.declared.answer.Assembly.{Assembly}
use Rattle.ddf_seats.specs.Group.{GroupValue}
use Rattle.ddf_assembly.specs.Group.{group_of}
use Rattle.ddf_recovery.specs.Recovery.{trusted_seats}
use Rattle.ddf_assembly.specs.Slots.{AreOut, newest_from}
use Rattle.ddf_request.specs.Named.{named_array}
use Rattle.ddf_answer.specs.declared.failure.Failure.{Failure}
use Rattle.ddf_answer.specs.declared.failure.Failure.TheVariants.{Conflict, Disk, Memory, Refused, Split}
use Rattle.ddf_answer.specs.Answers.{IsToldFailure, failure_of}
use Rattle.ddf_answer.specs.Call.{Answer, Work}
use Rattle.ddf_answer.specs.Tells.{EndsWith}
use Rattle.ddf_read_commands.specs.declared.using.Access.TheVariants.{Reads}
use Rattle.ddf_read_commands.specs.Use.{IsUsable, array_refusals}

-- the first of all: no array has the name, its blocks can't be used, or it isn't within its level
abbrev pub scrub_refusal : Configuration → List Seat → Option (List ℕ × Array) → Option Refusal
scrub_refusal config seats None = Some NoArray
scrub_refusal config seats (Some entry) = first_refusal (array_refusals Reads config seats entry.0 entry.1 0 0 ++ refuse_if (not (is_array_within seats entry.1)) Lost ∷ [])

-- An array was scrubbed: what was found is what the disks hold.
pub record IsArrayScrubbed {D : Type 0} (work : Work D) (config : Configuration) (seats : List Seat) (word : List ℕ) (found : Scrub) : Type 0 where
  pub used : List ℕ × Volume
  pub usable : IsUsable Reads config seats word 0 0 used
  pub accepted : scrub_refusal config seats (named_array config.arrays word) ≡ None
  pub scrubbed : work.tells → AreSectors work.old.held → IsScrubbed used.1 work.old.held found

-- It wasn't, since a read failed of a sector that is compared.
pub record IsScrubStopped {D : Type 0} (work : Work D) (config : Configuration) (seats : List Seat) (word : List ℕ) (slot : ℕ) : Type 0 where
  pub used : List ℕ × Volume
  pub usable : IsUsable Reads config seats word 0 0 used
  pub there : slot < length work.old.sizes
  pub stopped : IsScrubFault work.old work.new used.1 (volumes.Disk slot)

-- what came of a configuration and of seats: what was found of the array, that it is refused, that a read failed, or want of memory
abbrev pub IsScrubOf : {D : Type 0} → Work D → Configuration → List Seat → (word : List ℕ) → Result Scrub Failure → Type 0
IsScrubOf work config seats word (Ok found) = IsArrayScrubbed work config seats word found
IsScrubOf work config seats word (Err (Refused refusal)) = scrub_refusal config seats (named_array config.arrays word) ≡ Some refusal
IsScrubOf work config seats word (Err (Disk slot)) = IsScrubStopped work config seats word slot
IsScrubOf work config seats word (Err Memory) = Unit {0}
IsScrubOf work config seats word (Err (Conflict i j sequence differ)) = ⊥
IsScrubOf work config seats word (Err (Split i j)) = ⊥

-- what came of a group, by the seats that blocks may be read from: any other counts as absent
abbrev pub IsScrubIn : {D : Type 0} → Work D → (word : List ℕ) → Result GroupValue Assembly → Result Scrub Failure → Type 0
IsScrubIn work word (Ok group) result = IsScrubOf work group.config (trusted_seats group) word result
IsScrubIn work word (Err fault) result = (result ≡ Err (failure_of fault)) ⊎ (result ≡ Err Memory)

-- A call came to this: what the group gives that the newest copies of the slots are that aren't left out. A slot is left out only where a call of
-- this call failed on it; each of which every call fails is, but where memory ran out.
pub record HasScrubbed {D : Type 0} (work : Work D) (named : Option (List ℕ)) (word : List ℕ) (result : Result Scrub Failure) : Type 0 where
  pub left : List Bool
  pub every_slot : length left ≡ length work.old.sizes
  pub failed : (slot : ℕ) → slot < length left → IsTrue (slice_index_or left slot false) → LookFailed work.old work.new slot
  pub newest : List (Option Newest)
  pub read : work.tells → newest ≡ newest_from work.old 0 left
  pub gone : (result ≡ Err Memory → ⊥) → AreOut work.old left
  pub gives : IsScrubIn work word (group_of newest named) result

-- the line that says what was found
abbrev pub scrub_text : Scrub → List ℕ
scrub_text Clean = codes "clean"
scrub_text (Differs element row) = codes "differs element " ++ decimal element ++ codes " row " ++ decimal row

abbrev pub IsScrubTold : Result Scrub Failure → Answer → Type 0
IsScrubTold (Ok found) answer = EndsWith 0 (scrub_text found ++ codes "\n") answer
IsScrubTold (Err failure) answer = IsToldFailure failure answer

-- It came to this, and said so.
pub record IsScrubDone {D : Type 0} (work : Work D) (named : Option (List ℕ)) (word : List ℕ) (answer : Answer) : Type 0 where
  pub result : Result Scrub Failure
  pub has : HasScrubbed work named word result
  pub ends : IsScrubTold result answer
