use Rattle.std.proofs.Common.{◌≡◌, ◌-◌}
use Rattle.ddf_seal.specs.Crc.{bit_steps}
use Rattle.ddf_linux.proofs.zeros.after_zero.Given as goal

abbrev pub invariant-loop : goal.invariant-loop
invariant-loop l = bit_steps (8 - l.counter) l.register ≡ bit_steps 8 l.initial.register
