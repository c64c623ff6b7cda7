use Rattle.std.proofs.Common.{◌≡◌, None, find, take, nat_eq}
use Rattle.ddf_config.specs.declared.seat.Seat.{Seat}
use Rattle.ddf_config.proofs.seat.slot_of.Given as goal

abbrev pub invariant-loop-seat : goal.invariant-loop-seat
invariant-loop-seat l = find (λ (seat : Seat). nat_eq seat.reference l.reference) (take l.seat-index l.seats) ≡ None
