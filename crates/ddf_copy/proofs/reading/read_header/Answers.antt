use Rattle.ddf_copy.proofs.reading.read_header.Goals as goal

pub returns-in-Ok-clause-fit : goal.returns-in-Ok-clause-fit
returns-in-Ok-clause-fit g c = rw c.size-size.ensures.size at c.header_in.ensures.fit
