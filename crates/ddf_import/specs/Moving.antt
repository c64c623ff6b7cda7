-- Where the copies of a disk move to (profile): to the end of its workspace, with the secondary one before the primary one.
use Rattle.std.specs.Prelude.{ℕ, ◌+◌, ◌-◌, ◌*◌, nat_lt, if◌then◌else◌, Option, Some, None}
use Rattle.ddf_import.specs.declared.places.Moved.{Moved}

-- None where the workspace has no room for both copies and for the 18 sectors at its front, which stay.
abbrev pub moved : (workspace length copy : ℕ) → Option Moved
moved workspace length copy =
    if nat_lt length (2 * copy + 18) then None
    else Some (record { primary = workspace + length - copy; secondary = workspace + length - 2 * copy; length = length - 2 * copy })
