use Rattle.std.proofs.Common.{◌≡◌, ◌-◌, ◌/◌, ◌<◌, ◌≤◌, false, sym, ◌∙◌, arith}
use Rattle.ddf_repair.specs.Spares.{has_room}
use Rattle.ddf_repair.proofs.Halving.{greatest_is, none_more}
use Rattle.ddf_repair.proofs.most.most_within.Goals as goal

pub loop-low-preserved : goal.loop-low-preserved
loop-low-preserved c =
    let low = c.loop-low.low in
    let high = c.loop-low.high in
    let middle = high - (high - low) / 2 in
    let more : low < high = c.loop-low-test.true in
    let within : high ≤ c.args.limit = c.loop-low.invariant.within in
    let away : has_room c.args.taken.now c.args.limit c.args.strip middle ≡ false = sym c.has_room.ensures ∙ c.if-has_room.false in
    record {
      order = omega (arith, more);
      within = omega (arith, more, within);
      has = c.loop-low.invariant.has;
      none = λ n above within_limit.
          none_more c.args.taken.now c.args.limit c.args.strip middle n (omega (arith, more, above)) away;
    }

pub returns : goal.returns
returns c =
    let low = c.loop-low.low in
    let high = c.loop-low.high in
    let order : low ≤ high = c.loop-low.invariant.order in
    let done : high ≤ low = c.loop-low-test.false in
    let within : high ≤ c.args.limit = c.loop-low.invariant.within in
    sym
    (greatest_is (has_room c.args.taken.now c.args.limit c.args.strip) c.args.limit low (omega (arith, order, within))
    (λ n above below. c.loop-low.invariant.none n (omega (arith, done, above)) below) c.loop-low.invariant.has)
