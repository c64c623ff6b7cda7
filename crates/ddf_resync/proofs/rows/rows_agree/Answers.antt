use Rattle.ddf_resync.proofs.rows.rows_agree.Goals as goal

pub row_agrees-requires-clause-fits : goal.row_agrees-requires-clause-fits
row_agrees-requires-clause-fits g c = rw c.loop-at.invariant.reads.reads.same_sizes c.requires.fits
