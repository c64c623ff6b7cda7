use Rattle.std.proofs.Common.{◌≡◌, ◌≤◌, ◌++◌, ◌-◌, length, take}
use Rattle.ddf_bytes.proofs.sink.write_all.Given as goal

abbrev pub invariant-loop-done : goal.invariant-loop-done
invariant-loop-done g l = record {
  within : l.done ≤ length l.piece;
  taken : g.K.Sink.tells → (g.K.Sink.output l.sink).taken ≡ (g.K.Sink.output l.initial.sink).taken ++ take l.done l.piece;
  faults : (g.K.Sink.output l.sink).faults ≡ (g.K.Sink.output l.initial.sink).faults;
  takes : (g.K.Sink.output l.sink).empty_takes ≡ (g.K.Sink.output l.initial.sink).empty_takes;
}

abbrev pub decreases-loop-done : goal.decreases-loop-done
decreases-loop-done g l = length l.piece - l.done
