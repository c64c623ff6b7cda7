use Rattle.std.proofs.Common.{◌<◌, sym, arith}
use Rattle.ddf_primary.proofs.Copies.{copies_fall, copies_rise}
use Rattle.ddf_primary.proofs.Needs.{twins_on_two}
use Rattle.ddf_primary.proofs.shape.Shape.twins.Goals as goal

pub returns-then-first-second-clause-cells : goal.returns-then-first-second-clause-cells
returns-then-first-second-clause-cells c =
    let twin = sym c.in-Some.ensures.cell in
    copies_rise c.args.self.now c.args.block c.place-first.result.member c.place-first.result.sector c.in-Some.second.member c.in-Some.second.sector c.place-first.ensures.cell twin
    (twins_on_two c.args.self.now c.args.block c.in-Some.second.member c.in-Some.second.sector twin) c.if-first-second.true c.in-Some.ensures.member

pub returns-clause-cells : goal.returns-clause-cells
returns-clause-cells c =
    let twin = sym c.in-Some.ensures.cell in
    let differ = c.in-Some.ensures.apart c.place-first.result.member c.place-first.result.sector c.place-first.ensures.cell in
    let lower : c.in-Some.second.member < c.place-first.result.member = omega (arith, c.if-first-second.false, differ) in
    copies_fall c.args.self.now c.args.block c.place-first.result.member c.place-first.result.sector c.in-Some.second.member c.in-Some.second.sector c.place-first.ensures.cell twin
    (twins_on_two c.args.self.now c.args.block c.in-Some.second.member c.in-Some.second.sector twin) lower c.place-first.ensures.member
