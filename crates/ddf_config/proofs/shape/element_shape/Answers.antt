use Rattle.std.proofs.Common.{◌≡◌, length, sym, arith}
use Rattle.ddf_config.proofs.Shapes.{members_kept}
use Rattle.ddf_config.proofs.shape.element_shape.Goals as goal

pub returns-in-Ok-clause-few : goal.returns-in-Ok-clause-few
returns-in-Ok-clause-few c =
    let e = c.element.inside in
    let members = length c.as_slice-positions.result.now in
    let same : c.in-Ok.shape.members ≡ members =
    members_kept e.level e.qualifier members c.in_ok-strip.strip e.blocks c.in-Ok.shape (sym c.in-Ok.ensures.value) in
    omega (arith, same, c.as_slice-positions.ensures.fits)
