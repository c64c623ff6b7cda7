use Rattle.std.proofs.Common.{◌≡◌, ◌+◌, ◌-◌, ◌*◌, ap, arith, div-mul-le_self}
use Rattle.std.proofs.lemmas.Nat.{mul-le}
use Rattle.ddf_primary.specs.Cells.{depth_of, height_of}
use Rattle.ddf_cells.proofs.Depths.{blocks_small}
use Rattle.ddf_rebuild.specs.Target.{row_count}
use Rattle.ddf_rebuild.proofs.rows.sectors_between.Goals as goal

pub overflow_mul-to : goal.overflow_mul-to
overflow_mul-to c =
    let shape = c.args.part.now.shape in
    let height = c.height-height.ensures in
    let depth = c.depth_of-depth.ensures in
    let rows = mul-le c.args.to (height_of shape) (row_count shape) (height_of shape) c.requires.rows (omega arith) in
    let whole = div-mul-le_self (depth_of shape + height_of shape - 1) (height_of shape) in
    let product : c.args.to * c.height-height.result ≡ c.args.to * height_of shape = ap (λ h. c.args.to * h) height.value in
    omega (arith, product, rows, whole, height.value, height.small, depth.value, depth.within, blocks_small shape c.requires.part.shape_is)
