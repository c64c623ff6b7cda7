use Rattle.std.proofs.Common.{sym, ap, Option, Some, None, nat_eq, ℕ, eq-eqb}
use Rattle.std.proofs.lemmas.Bool.{ne_eqb}
use Rattle.ddf_config.specs.declared.seat.Seat.{Seat}
use Rattle.ddf_config.proofs.Finds.{find_here, find_not_here}
use Rattle.ddf_config.proofs.seat.slot_of.Goals as goal

abbrev slot : Option Seat → ℕ
slot None = 64
slot (Some seat) = seat.slot

pub returns-then-seat-reference : goal.returns-then-seat-reference
returns-then-seat-reference c =
    let d : Seat = record { reference = 0; slot = 0; floor = 0; bad = 0 } in
    ap slot (sym (find_here (λ (seat : Seat). nat_eq seat.reference c.args.reference) c.args.seats.now c.loop-seat.seat-index d
    c.loop-seat-test.true c.loop-seat.invariant (eq-eqb _ _ c.if-seat-reference.true)))

pub loop-seat-preserved : goal.loop-seat-preserved
loop-seat-preserved c =
    let d : Seat = record { reference = 0; slot = 0; floor = 0; bad = 0 } in
    find_not_here (λ (seat : Seat). nat_eq seat.reference c.args.reference) c.args.seats.now c.loop-seat.seat-index d
    c.loop-seat-test.true c.loop-seat.invariant (ne_eqb _ _ c.if-seat-reference.false)
