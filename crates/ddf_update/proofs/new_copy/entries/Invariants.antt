use Rattle.std.proofs.Common.{◌≡◌, take}
use Rattle.ddf_update.specs.NewCopies.{entries_from}
use Rattle.ddf_update.proofs.new_copy.entries.Given as goal

abbrev pub invariant-loop-place : goal.invariant-loop-place
invariant-loop-place l = l.rows.items ≡ entries_from l.layout l.revision l.stamp 0 (take l.place l.sizes)
