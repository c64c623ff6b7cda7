-- What several crates above ask of the definitions of this one.
use Rattle.std.proofs.Common.{arith, ℕ, ◌*◌, ◌≤◌}
use Rattle.std.proofs.Math.Nat.{mul-le-mul_right}
use Rattle.ddf_bay.specs.Sectors.{Image}
use Rattle.ddf_primary.specs.Cells.{height_of}
use Rattle.ddf_array.specs.Volume.{Volume}
use Rattle.ddf_rebuild.specs.Rebuilding.{HasRebuilt}

-- rows of which the first count
pub fewer_rows : (v : Volume) (element position few many : ℕ) (image : Image) → few ≤ many → HasRebuilt v element position 0 many image image → HasRebuilt v element position 0 few image image
fewer_rows v element position few many image le set part place slot sector target rows =
    let to = rows.to_is in
    let grows : few * height_of part.shape ≤ many * height_of part.shape = mul-le-mul_right (height_of part.shape) le in
    set part place slot sector target (record { from_is = rows.from_is; to_is = omega (arith, to, grows); below = rows.below })
