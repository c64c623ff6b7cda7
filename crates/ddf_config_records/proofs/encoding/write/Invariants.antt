use Rattle.std.proofs.Common.{◌≡◌, ◌*◌, ◌++◌, length, take, drop}
use Rattle.ddf_config_records.specs.Elements.{record_size}
use Rattle.ddf_config_records.specs.Slots.{slots_written}
use Rattle.ddf_config_records.proofs.encoding.write.Given as goal

abbrev pub invariant-loop-index : goal.invariant-loop-index
invariant-loop-index l = record {
  size : length (slots_written l.geometry (take l.index l.slots)) ≡ l.index * record_size l.geometry;
  done : l.into ≡ slots_written l.geometry (take l.index l.slots) ++ drop (l.index * record_size l.geometry) l.initial.into;
}
