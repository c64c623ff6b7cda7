use Rattle.std.proofs.Common.{◌≡◌, ◌*◌, ℕ}
use Rattle.ddf_seal.specs.Crc.{bit_steps}
use Rattle.ddf_linux.specs.Zeros.{AreImages}
use Rattle.ddf_linux.proofs.zeros.after_zeros.Given as goal

abbrev pub invariant-loop-rest : goal.invariant-loop-rest
invariant-loop-rest l =
    (given : ℕ) → AreImages given l.initial.images
    → (steps : ℕ) × AreImages steps l.images × (bit_steps (steps * l.rest) l.register ≡ bit_steps (given * l.count) l.initial.register)

abbrev pub decreases-loop-rest : goal.decreases-loop-rest
decreases-loop-rest l = l.rest
