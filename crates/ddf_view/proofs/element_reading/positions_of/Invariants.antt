use Rattle.std.proofs.Common.{◌≡◌, ◌++◌, drop, map, filter_map}
use Rattle.std.specs.Option.{option_copied}
use Rattle.std.specs.List.{enumerate_from}
use Rattle.arrayvec.specs.ArrayVec.{array_vec_len}
use Rattle.ddf_view.specs.View.{disk_of}
use Rattle.ddf_view.specs.Reading.{position_of}
use Rattle.ddf_view.proofs.element_reading.positions_of.Given as goal

abbrev pub invariant-loop-position : goal.invariant-loop-position
invariant-loop-position l = record {
  made : l.positions.items ++ map (λ pair. position_of (filter_map disk_of l.rows) (option_copied l.note) pair.0 pair.1) (enumerate_from l.position (drop l.position l.places))
      ≡ map (λ pair. position_of (filter_map disk_of l.rows) (option_copied l.note) pair.0 pair.1) (enumerate_from 0 l.places);
  count : array_vec_len l.positions ≡ l.position;
}
