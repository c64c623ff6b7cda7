use Rattle.std.proofs.Common.{arith}
use Rattle.ddf_primary.proofs.Around.{restart_low, restart_high, continued_low, continued_high}
use Rattle.ddf_primary.proofs.parity.ParityLayout.data_member.Goals as goal

pub returns-then-strip-after : goal.returns-then-strip-after
returns-then-strip-after c = rw c.in-Raid5LastContinuation.is (continued_low _ _ _ c.if-strip-after.true)

pub returns-else-strip-after : goal.returns-else-strip-after
returns-else-strip-after c =
    rw c.in-Raid5LastContinuation.is (continued_high _ _ _ _ c.requires.parity_within (omega arith) (omega arith))

pub returns-then-strip-parity : goal.returns-then-strip-parity
returns-then-strip-parity c = restart_low _ _ _ _ c.in_default.not-Raid5LastContinuation c.if-strip-parity.true

pub returns-else-strip-parity : goal.returns-else-strip-parity
returns-else-strip-parity c = restart_high _ _ _ _ c.in_default.not-Raid5LastContinuation c.if-strip-parity.false c.requires.strip_within
