use Rattle.ddf_read.proofs.missing.missing_at.Goals as goal

pub missing_in-requires-clause-part : goal.missing_in-requires-clause-part
missing_in-requires-clause-part c = c.in_ok-part.ensures.sound.are_parts c.args.element c.in_ok-part.part.now c.in_ok-part.ensures.found
