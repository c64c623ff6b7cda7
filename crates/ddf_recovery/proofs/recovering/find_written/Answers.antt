use Rattle.std.proofs.Common.{eqb, sym}
use Rattle.std.proofs.lemmas.Bool.{eq-eqb, ne_eqb}
use Rattle.ddf_seats.specs.declared.seated.Seated.{Seated}
use Rattle.ddf_seats.proofs.Lists.{found_here, none_more}
use Rattle.ddf_recovery.proofs.recovering.find_written.Goals as goal

pub returns-then-disk-slot : goal.returns-then-disk-slot
returns-then-disk-slot c =
    sym (found_here (λ (other : Seated). eqb other.seat.slot c.args.slot) c.args.written.now c.loop-disk.disk-index c.disk-item.result c.loop-disk-test.true c.disk-item.is c.loop-disk.invariant (eq-eqb c.disk-item.result.seat.slot c.args.slot c.if-disk-slot.true))

pub loop-disk-preserved : goal.loop-disk-preserved
loop-disk-preserved c =
    none_more (λ (other : Seated). eqb other.seat.slot c.args.slot) c.args.written.now c.loop-disk.disk-index c.disk-item.result c.loop-disk-test.true c.disk-item.is c.loop-disk.invariant (ne_eqb c.disk-item.result.seat.slot c.args.slot c.if-disk-slot.false)
