use Rattle.std.proofs.Common.{◌≡◌, None, eqb, take}
use Rattle.std.specs.Prelude.{find}
use Rattle.ddf_recovery.proofs.recovering.find_written.Given as goal

abbrev pub invariant-loop-disk : goal.invariant-loop-disk
invariant-loop-disk l = find (λ other. eqb other.seat.slot l.slot) (take l.disk-index l.written) ≡ None
