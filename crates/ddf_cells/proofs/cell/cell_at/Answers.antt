use Rattle.ddf_cells.proofs.cell.cell_at.Goals as goal

pub cell_in-requires-clause-part : goal.cell_in-requires-clause-part
cell_in-requires-clause-part c = c.in_ok-part.ensures.sound.are_parts c.args.element c.in_ok-part.part.now c.in_ok-part.ensures.found

pub cell_in-requires-clause-block : goal.cell_in-requires-clause-block
cell_in-requires-clause-block c = c.requires c.in_ok-part.part.now c.in_ok-part.ensures.found
