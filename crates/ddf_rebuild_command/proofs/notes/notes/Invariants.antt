use Rattle.std.proofs.Common.{◌≡◌, ◌-◌, ◌++◌}
use Rattle.ddf_rebuild_command.specs.Notes.{notes}
use Rattle.ddf_rebuild_command.proofs.Noting.{notes_from}
use Rattle.ddf_rebuild_command.proofs.notes.notes.Given as goal

abbrev pub invariant-loop-number : goal.invariant-loop-number
invariant-loop-number l = l.found.items ++ notes_from l.kept l.rows l.between l.number (64 - l.number) ≡ notes l.kept l.rows
