use Rattle.std.proofs.Common.{◌-◌, ◌<◌, arith}
use Rattle.ddf_badblocks.proofs.Counted.{stand_found}
use Rattle.ddf_badblocks.proofs.Straight.{stands_on, swap_straight}
use Rattle.ddf_badblocks.proofs.exchange.Exchange.straight.Goals as goal

pub returns-clause-straight : goal.returns-clause-straight
returns-clause-straight c = λ k lt.
    let size = c.args.size in
    let ranges = c.self.inside.ranges.items in
    let sides = c.self.inside.sides.items in
    let other = stand_found size c.args.lba ranges sides c.self.invariant c.find_side-here.result.side (rw c.as_slice.ensures.value at c.find_side-here.ensures.found) c.stand-other.result c.stand-other.ensures in
    let back = stand_found size c.stand-other.result ranges sides c.self.invariant c.find_side-there.result.side (rw c.as_slice-2.ensures.value at c.find_side-there.ensures.found) c.stand-back.result c.stand-back.ensures in
    let here : k < c.find_side-here.result.reach = grind (arith, lt, c.min.ensures, c.min-2.ensures, c.min-reach.ensures, c.min-3.ensures) in
    let there : k < c.find_side-there.result.reach = grind (arith, lt, c.min.ensures, c.min-2.ensures, c.min-reach.ensures, c.min-3.ensures) in
    let first : k < size - c.stand-other.result = grind (arith, lt, c.min-2.ensures, c.min-reach.ensures, c.min-3.ensures) in
    let second : k < size - c.stand-back.result = grind (arith, lt, c.min-reach.ensures, c.min-3.ensures) in
    let few : k < c.args.most = grind (arith, lt, c.min-3.ensures) in
    let one = stands_on size c.args.lba k ranges sides c.self.invariant (rw c.as_slice.ensures.value at (c.find_side-here.ensures.alike k here)) (rw other at first) in
    let two = stands_on size c.stand-other.result k ranges sides c.self.invariant (rw c.as_slice-2.ensures.value at (c.find_side-there.ensures.alike k there)) (rw back at second) in
    rw (← c.self.view_is) (swap_straight size ranges c.args.lba k (omega (arith, c.requires.on_slot, c.requires.some)) (omega (arith, c.requires.on_slot, few)) one (rw other at two))
