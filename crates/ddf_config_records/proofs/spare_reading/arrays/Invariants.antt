use Rattle.std.proofs.Common.{◌≡◌}
use Rattle.ddf_config_records.specs.Spares.{arrays_at}
use Rattle.ddf_config_records.proofs.spare_reading.arrays.Given as goal

abbrev pub invariant-loop-index : goal.invariant-loop-index
invariant-loop-index l = l.arrays.items ≡ arrays_at l.bytes l.index
