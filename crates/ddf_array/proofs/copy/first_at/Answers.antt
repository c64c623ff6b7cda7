use Rattle.ddf_array.proofs.copy.first_at.Goals as goal

pub first_in-requires-clause-part : goal.first_in-requires-clause-part
first_in-requires-clause-part c = c.in_ok-part.ensures.sound.are_parts c.args.element c.in_ok-part.part.now c.in_ok-part.ensures.found
