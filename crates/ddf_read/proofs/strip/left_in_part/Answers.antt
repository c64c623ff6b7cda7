use Rattle.std.proofs.Common.{ℕ, ◌-◌, ◌%◌, ◌≤◌, subst, arith}
use Rattle.std.proofs.lemmas.Nat.{mod_below}
use Rattle.ddf_read.proofs.CellsAlong.{part_along}
use Rattle.ddf_read.proofs.strip.left_in_part.Goals as goal

pub returns-clause-along : goal.returns-clause-along
returns-clause-along c =
    let strip = c.args.part.now.shape.strip in
    let left : c.min.result ≤ c.min-left.result = omega (arith, c.min.ensures) in
    let member : c.min.result ≤ c.left_of_member.result = omega (arith, c.min.ensures) in
    let found = c.strip_of-strip.result in
    let by_found : c.min-left.result ≤ found - c.args.block % found = omega (arith, c.min-left.ensures) in
    let in_strip : c.min-left.result ≤ strip - c.args.block % strip = subst (λ (n : ℕ). c.min-left.result ≤ n - c.args.block % n) c.strip_of-strip.ensures by_found in
    part_along c.args.part.now c.args.block c.min.result c.requires.part.shape_is
    (omega (arith, left, in_strip, mod_below c.args.block strip c.requires.part.shape_is.some_strip))
    (omega (arith, left, c.min-left.ensures, c.capacity.ensures.value, c.requires.block))
    (λ number sector there. omega (arith, member, c.left_of_member.ensures.room number sector there))
