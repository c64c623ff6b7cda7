use Rattle.std.proofs.Common.{◌≡◌, refl, subst, sym}
use Rattle.ddf_seats.specs.Group.{seats_of}
use Rattle.ddf_config.specs.Seats.{SeatsFit}
use Rattle.ddf_assembly.proofs.Anchored.{seats_fit}
use Rattle.ddf_assembly.proofs.Settled.{settled}
use Rattle.ddf_assembly.proofs.Assembled.{answer_assembled}
use Rattle.ddf_assembly.proofs.assembling.group_of.Goals as goal

pub returns-clause-under : goal.returns-clause-under
returns-clause-under c = λ sizes have. have

pub returns-clause-seats : goal.returns-clause-seats
returns-clause-seats c = λ sizes have.
    let read : c.deref-2.result.now ≡ c.args.newest.items = c.deref-2.ensures.value in
    let are : c.new.result ≡ seats_of c.args.newest.items c.items.result.now = rw c.new.ensures (rw read at c.in_ok-seats.ensures) in
    subst (SeatsFit sizes) (sym are) (seats_fit sizes c.args.newest.items have c.items.result.now)

pub returns-clause-assembled : goal.returns-clause-assembled
returns-clause-assembled c =
    let read : c.deref-2.result.now ≡ c.args.newest.items = c.deref-2.ensures.value in
    let are : c.new.result ≡ seats_of c.args.newest.items c.in_ok-found.found.seats = rw c.new.ensures (rw (read, c.items.ensures) at c.in_ok-seats.ensures) in
    let is = answer_assembled c.args.newest.items c.requires c.args.named c.in_ok-found.found (rw c.deref.ensures.value at c.in_ok-found.ensures) c.new.result c.args.newest.items are refl in
    rw (c.in_ok-absent.ensures, c.in_ok-lagging.ensures, c.items-2.ensures, c.items-3.ensures) is

pub returns-clause-settled : goal.returns-clause-settled
returns-clause-settled c =
    let read : c.deref-2.result.now ≡ c.args.newest.items = c.deref-2.ensures.value in
    let are : c.new.result ≡ seats_of c.args.newest.items c.in_ok-found.found.seats = rw c.new.ensures (rw (read, c.items.ensures) at c.in_ok-seats.ensures) in
    let is = answer_assembled c.args.newest.items c.requires c.args.named c.in_ok-found.found (rw c.deref.ensures.value at c.in_ok-found.ensures) c.new.result c.args.newest.items are refl in
    rw (c.in_ok-absent.ensures, c.in_ok-lagging.ensures, c.items-2.ensures, c.items-3.ensures) (λ none_absent none_lags. settled _ is none_absent none_lags)
