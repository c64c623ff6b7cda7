use Rattle.std.proofs.Common.{◌≡◌, ◌<◌, sym, arith}
use Rattle.ddf_badblocks.proofs.Counted.{stand_found}
use Rattle.ddf_badblocks.proofs.Straight.{swap_by, swap_not}
use Rattle.ddf_badblocks.proofs.exchange.Exchange.swap.Goals as goal
use Rattle.ddf_badblocks.proofs.exchange.Exchange.swap.Goals.{else-lba-size-via-then-lba-size+else-back-lba, else-lba-size-via-else-lba-size}

pub returns-then-back-lba-clause-exact : goal.returns-then-back-lba-clause-exact
returns-then-back-lba-clause-exact c =
    let size = c.args.size in
    let ranges = c.self.inside.ranges.items in
    let sides = c.self.inside.sides.items in
    let other = stand_found size c.args.lba ranges sides c.self.invariant c.find_side.result.side (rw c.as_slice.ensures.value at c.find_side.ensures.found) c.stand-other.result c.stand-other.ensures in
    let back = stand_found size c.stand-other.result ranges sides c.self.invariant c.find_side-2.result.side (rw c.as_slice-2.ensures.value at c.find_side-2.ensures.found) c.stand-back.result c.stand-back.ensures in
    rw (← c.self.view_is) (sym (swap_by size ranges c.args.lba c.stand-other.result c.stand-back.result other back (omega (arith, c.if-lba-size.true)) (omega (arith, c.if-back-lba.true))))

pub returns-else-lba-size-clause-exact : goal.returns-else-lba-size-clause-exact
returns-else-lba-size-clause-exact c =
    let size = c.args.size in
    let ranges = c.self.inside.ranges.items in
    let sides = c.self.inside.sides.items in
    let other = stand_found size c.args.lba ranges sides c.self.invariant c.find_side.result.side (rw c.as_slice.ensures.value at c.find_side.ensures.found) c.stand-other.result c.stand-other.ensures in
    let back = stand_found size c.stand-other.result ranges sides c.self.invariant c.find_side-2.result.side (rw c.as_slice-2.ensures.value at c.find_side-2.ensures.found) c.stand-back.result c.stand-back.ensures in
    let fails : c.args.lba < size → c.stand-back.result ≡ c.args.lba → ⊥ = λ under is. elim c.else-lba-size.branch [
      | else-lba-size-via-then-lba-size+else-back-lba w ↦ omega (arith, is, w.if-back-lba.false)
      | else-lba-size-via-else-lba-size w ↦ omega (arith, under, w.if-lba-size.false)
    ] in
    rw (← c.self.view_is) (sym (swap_not size ranges c.args.lba c.stand-other.result c.stand-back.result other back fails))
