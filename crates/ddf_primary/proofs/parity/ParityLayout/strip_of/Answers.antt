use Rattle.std.proofs.Common.{◌≡◌, ◌+◌, ◌-◌, arith}
use Rattle.ddf_primary.proofs.Around.{restart_low, restart_high, continued_low, continued_high}
use Rattle.ddf_primary.proofs.parity.ParityLayout.strip_of.Goals as goal

pub returns-then-member-parity-clause-value : goal.returns-then-member-parity-clause-value
returns-then-member-parity-clause-value c =
    let member : c.args.parity + 1 + (c.args.member - c.args.parity - 1) ≡ c.args.member = omega arith in
    rw (c.in-Raid5LastContinuation.is) (rw member at (continued_low c.args.members c.args.parity (c.args.member - c.args.parity - 1) (omega arith)))

pub returns-else-member-parity-clause-value : goal.returns-else-member-parity-clause-value
returns-else-member-parity-clause-value c =
    rw c.in-Raid5LastContinuation.is (continued_high _ _ _ _ c.requires.parity_within (omega arith) (omega arith))

pub returns-then-member-parity-2-clause-value : goal.returns-then-member-parity-2-clause-value
returns-then-member-parity-2-clause-value c = restart_low _ _ _ _ c.in_default.not-Raid5LastContinuation c.if-member-parity-2.true

pub returns-else-member-parity-2-clause-value : goal.returns-else-member-parity-2-clause-value
returns-else-member-parity-2-clause-value c =
    let member : c.args.member - 1 + 1 ≡ c.args.member = omega arith in
    rw member at (restart_high c.args.self c.args.members c.args.parity (c.args.member - 1) c.in_default.not-Raid5LastContinuation (omega arith) (omega arith))
