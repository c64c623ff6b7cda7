-- The last step of a group, written behind the blocks of an array.
use Rattle.std.specs.Prelude.{◌≡◌, ℕ, [], length, Ok, Err, Result}
use Rattle.ddf_bytes.specs.Counts.{Rose}
use Rattle.ddf_bay.specs.State.{BayState}
use Rattle.ddf_update.specs.Group.{IsOneOf}
use Rattle.ddf_steps.specs.Committed.{AreSettled, slots_of}
use Rattle.ddf_seats.specs.Group.{GroupValue}
use Rattle.ddf_recovery.specs.Ready.{ReadyValue}
use Rattle.ddf_answer.specs.declared.failure.Failure.{Failure}
use Rattle.ddf_answer.specs.declared.failure.Failure.TheVariants.{Conflict, Disk, Memory, Refused, Split}
use Rattle.ddf_group_commands.specs.Change.{last_sequence}
use Rattle.ddf_group_commands.specs.Written.{AreWritten}
use Rattle.ddf_write_commands.specs.Opened.{steps_left}

-- It was written, and this is the group's sequence number behind it.
pub record IsLastWritten {D : Type 0} (tells : Type 0) (old new : BayState D) (found : GroupValue) (ready : ReadyValue) (sequence : ℕ) : Type 0 where
  pub is_last : sequence ≡ last_sequence found.config.sequence (steps_left ready)
  pub are_written : tells → AreWritten old.sizes old.held (steps_left ready) new.held
  pub are_settled : tells → AreSettled new found.seats (length found.seats)
  pub none_asked : steps_left ready ≡ [] → new.sectors_asked ≡ old.sectors_asked

-- what came of it: it was written, or a write or a sync of a seat's slot failed
abbrev pub IsClosed : {D : Type 0} → (tells : Type 0) → (old new : BayState D) → GroupValue → ReadyValue → Result ℕ Failure → Type 0
IsClosed tells old new found ready (Ok sequence) = IsLastWritten tells old new found ready sequence
IsClosed tells old new found ready (Err (Disk slot)) = IsOneOf (slots_of found.seats) slot × Rose (old.failed_writes slot) (new.failed_writes slot)
IsClosed tells old new found ready (Err Memory) = ⊥
IsClosed tells old new found ready (Err (Refused refusal)) = ⊥
IsClosed tells old new found ready (Err (Conflict i j sequence differ)) = ⊥
IsClosed tells old new found ready (Err (Split i j)) = ⊥
