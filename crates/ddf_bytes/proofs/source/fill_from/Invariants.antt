use Rattle.std.proofs.Common.{◌≡◌, ◌≤◌, ◌-◌, length}
use Rattle.ddf_bytes.specs.Streams.{Gives}
use Rattle.ddf_bytes.proofs.source.fill_from.Given as goal

abbrev pub invariant-loop-done : goal.invariant-loop-done
invariant-loop-done g l = record {
  within : l.done ≤ length l.into;
  bytes : g.S.Source.tells → Gives (g.S.Source.input l.initial.source) (g.S.Source.input l.source) l.into l.done;
  faults : (g.S.Source.input l.source).faults ≡ (g.S.Source.input l.initial.source).faults;
}

abbrev pub decreases-loop-done : goal.decreases-loop-done
decreases-loop-done g l = length l.initial.into - l.done
