use Rattle.std.proofs.Common.{refl}
use Rattle.ddf_assembly.specs.Slots.{newest_from}
use Rattle.ddf_data_calls.proofs.Recovered.{recovered_alike}
use Rattle.ddf_data_calls.proofs.Seats.{seats_fewer, seats_on_slots}
use Rattle.ddf_data_calls.proofs.laws.a_calls_seats_are_those_of_its_history.Goals as goal

pub returns-clause-on_slots : goal.returns-clause-on_slots
returns-clause-on_slots g c = λ group past floor bay left named found long is_found own admitted floors.
    seats_on_slots group (g.B.Bay.disks bay) left (newest_from (g.B.Bay.disks bay) 0 left) long refl past admitted.same_slots admitted.is_kept admitted.may_read admitted.member named found is_found own
    floor floors

pub returns-clause-fewer : goal.returns-clause-fewer
returns-clause-fewer g c = λ group past floor bay left named found long is_found own admitted floors.
    seats_fewer group (g.B.Bay.disks bay) left (newest_from (g.B.Bay.disks bay) 0 left) long refl past admitted.same_slots admitted.is_kept admitted.may_read admitted.member named found is_found own
    floor floors

pub returns-clause-recovered : goal.returns-clause-recovered
returns-clause-recovered g c = λ group past floor bay left named found long is_found own admitted floors.
    recovered_alike group (g.B.Bay.disks bay) left (newest_from (g.B.Bay.disks bay) 0 left) long refl past admitted.same_slots admitted.is_kept admitted.may_read admitted.member named found is_found own
    floor floors
