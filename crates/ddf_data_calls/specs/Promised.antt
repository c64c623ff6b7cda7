-- What is promised of a group's arrays once blocks of one of them were written, or may have been.
use Rattle.std.specs.Prelude.{◌≡◌, ◌⊎◌, ℕ, Bool, true, false, List, Some, option_map}
use Rattle.ddf_bay.specs.Sectors.{Image}
use Rattle.ddf_array.specs.Volume.{Volume}
use Rattle.ddf_data_array.specs.Allowed.{Allowed, once_consistent, once_written, while_written}
use Rattle.ddf_data_group.specs.Grouped.{Promises}
use Rattle.ddf_data_history.specs.Promised.{with_promise}
use Rattle.ddf_write_commands.specs.Write.{Outcome}
use Rattle.ddf_write_commands.specs.Write.Outcome.{Broken, NotRead, Short, Taken, Unfit}

-- the promise of one array becomes another one; where nothing was promised of it, nothing is
abbrev pub with_allowed : (Allowed → Allowed) → List ℕ → Promises → Promises
with_allowed next guid promises = with_promise promises guid (option_map next (promises guid))

-- while these sectors are written as its blocks from a number on, and after a write of them that was interrupted: each of the blocks has its old bytes or the new ones
abbrev pub interrupted : (guid : List ℕ) (start : ℕ) → List (List ℕ) → Promises → Promises
interrupted guid start sectors promises = with_allowed (λ allowed. while_written allowed start sectors) guid promises

-- once they are: the new ones
abbrev pub written : (guid : List ℕ) (start : ℕ) → List (List ℕ) → Promises → Promises
written guid start sectors promises = with_allowed (λ allowed. once_written allowed start sectors) guid promises

-- once the array counts with what the disks hold: of each block these bytes are promised, whatever was before
abbrev pub counted : (guid : List ℕ) → Volume → Image → Promises → Promises
counted guid volume image promises = with_promise promises guid (Some (once_consistent volume image))

-- on the way of a write: the old promises, or those of one that is interrupted
abbrev pub MayBeWritten : (guid : List ℕ) (start : ℕ) → List (List ℕ) → Promises → Promises → Type 0
MayBeWritten guid start sectors promises promised = (promised ≡ promises) ⊎ (promised ≡ interrupted guid start sectors promises)

-- at its end: the new bytes are promised where it was done, and else either
abbrev pub IsWrittenOf : (done : Bool) (guid : List ℕ) (start : ℕ) → List (List ℕ) → Promises → Promises → Type 0
IsWrittenOf true guid start sectors promises promised = promised ≡ written guid start sectors promises
IsWrittenOf false guid start sectors promises promised = promised ≡ interrupted guid start sectors promises

-- These sectors were given to be written in a call of `write` that came to this: it was done, or its work failed, or its input did behind them.
abbrev pub HasGiven : Outcome → (sectors : List (List ℕ)) → Type 0
HasGiven (Taken given worked) sectors = given ≡ sectors
HasGiven (Broken given) sectors = given ≡ sectors
HasGiven (Short found) sectors = ⊥
HasGiven NotRead sectors = ⊥
HasGiven (Unfit failure) sectors = ⊥
