use Rattle.std.proofs.Common.{rules}
use Rattle.std.specs.Prelude.{slice_index}
use Rattle.ddf_bay.proofs.Looks.{looks_then, reads_then}
use Rattle.ddf_copy.proofs.copies.copies_of.Goals as goal

pub returns-in_err-secondary-clause-reads : goal.returns-in_err-secondary-clause-reads
returns-in_err-secondary-clause-reads g c = reads_then c.look.ensures.reads c.look-2.ensures.reads

pub returns-clause-reads : goal.returns-clause-reads
returns-clause-reads g c = reads_then c.look.ensures.reads c.look-2.ensures.reads

pub returns-in_err-secondary-clause-look : goal.returns-in_err-secondary-clause-look
returns-in_err-secondary-clause-look g c = search (rules, looks_then c.args.slot _ c.in_ok-primary.ensures.look c.in_err-secondary.ensures.look)

pub returns-clause-under : goal.returns-clause-under
returns-clause-under g c = λ anchored.
    let size = slice_index ((g.B.Bay.disks c.args.bay.now).sizes) c.args.slot in (
      c.copy_read.ensures.under size c.args.anchor.now (c.in_ok-primary.ensures.under anchored),
      c.copy_read-2.ensures.under size c.args.anchor.now (rw c.look.ensures.reads.same_sizes at c.in_ok-secondary.ensures.under anchored),
    )

pub returns-clause-look : goal.returns-clause-look
returns-clause-look g c = looks_then c.args.slot _ c.in_ok-primary.ensures.look c.in_ok-secondary.ensures.look
