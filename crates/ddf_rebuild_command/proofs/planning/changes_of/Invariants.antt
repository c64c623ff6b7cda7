use Rattle.std.proofs.Common.{◌≡◌, ◌++◌, map, take}
use Rattle.ddf_plan.specs.declared.change.Change.TheVariants.{Progress}
use Rattle.ddf_rebuild_command.proofs.planning.changes_of.Given as goal

abbrev pub invariant-loop-row : goal.invariant-loop-row
invariant-loop-row l = l.changes.items ≡ l.initial.changes.items ++ map (λ row. Progress l.guid l.target.element l.target.position row) (take l.row-index l.notes)
