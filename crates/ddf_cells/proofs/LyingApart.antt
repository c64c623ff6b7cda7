-- Where extents don't meet, no sector of a slot belongs to two positions.
use Rattle.std.proofs.Common.{arith}
use Rattle.ddf_array.specs.Apart.{IsApart}
use Rattle.ddf_array.specs.Volume.{Volume}
use Rattle.ddf_cells.specs.Apart.{LieApart}

pub lie_apart : (v : Volume) → IsApart v → LieApart v
lie_apart v apart element position sector element' position' sector' slot lba one other =
    apart element position element' position' one.part other.part one.place other.place one.is_part one.is_place other.is_part other.is_place
    (record {
      slot = slot;
      on_one = one.is_there;
      on_other = other.is_there;
      lba = lba;
      from_one = omega (arith, one.lba_is);
      in_one = omega (arith, one.lba_is, one.below);
      from_other = omega (arith, other.lba_is);
      in_other = omega (arith, other.lba_is, other.below);
    })
