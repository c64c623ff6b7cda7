use Rattle.std.proofs.Common.{◌∙◌, ◌<◌, sym, arith}
use Rattle.std.proofs.lemmas.Option.{some_pair_parts}
use Rattle.ddf_primary.specs.Cells.{depth_of}
use Rattle.ddf_primary.proofs.ShapeFacts.{cell_facts}
use Rattle.ddf_read.proofs.strip.left_of_member.Goals as goal

pub overflow_sub-result : goal.overflow_sub-result
overflow_sub-result c =
    let shape = c.args.part.now.shape in
    let deep : c.place.result.sector < depth_of shape = (cell_facts shape c.requires.part.shape_is).sector_within c.place.result.member c.place.result.sector c.args.block c.place.ensures.holds in
    omega (arith, deep, c.depth.ensures.value)

pub returns-clause-some : goal.returns-clause-some
returns-clause-some c =
    let shape = c.args.part.now.shape in
    let deep : c.place.result.sector < depth_of shape = (cell_facts shape c.requires.part.shape_is).sector_within c.place.result.member c.place.result.sector c.args.block c.place.ensures.holds in
    omega (arith, deep, c.depth.ensures.value)

pub returns-clause-room : goal.returns-clause-room
returns-clause-room c = λ member sector there.
    let parts = some_pair_parts c.place.result.member member c.place.result.sector sector (sym c.place.ensures.cell ∙ there) in
    omega (arith, parts.1, c.depth.ensures.bound)
