use Rattle.std.proofs.Common.{◌-◌, length}
use Rattle.ddf_pieces.proofs.ReadSteps.{HaveGone}
use Rattle.ddf_pieces.proofs.reading.read_each.Given as goal

abbrev pub invariant-loop-done : goal.invariant-loop-done
invariant-loop-done g l =
    HaveGone g.B.Bay.tells (g.B.Bay.disks l.fn.bay) (g.B.Bay.disks l.bay) l.view l.start l.count (length l.fn.work) g.K.Sink.tells (g.K.Sink.output l.fn.sink) (g.K.Sink.output l.sink) l.done

abbrev pub decreases-loop-done : goal.decreases-loop-done
decreases-loop-done g l = l.count - l.done
