use Rattle.ddf_write.specs.Gathering.{KeepsRun}
use Rattle.ddf_write.proofs.looking.keep_each.Given as goal

abbrev pub invariant-loop-at : goal.invariant-loop-at
invariant-loop-at l = record {
  run : KeepsRun l.fn.kept l.kept l.element l.position l.sector l.cells l.at;
}
