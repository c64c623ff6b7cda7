use Rattle.ddf_read.proofs.strip.left_at.Goals as goal

pub left_in_part-requires-clause-part : goal.left_in_part-requires-clause-part
left_in_part-requires-clause-part c = c.in-Some.ensures.sound.are_parts c.args.element c.in-Some.part.now c.in-Some.ensures.found
