use Rattle.ddf_bay.proofs.Looks.{looks_then, reads_then}
use Rattle.ddf_disk_commands.proofs.viewing.view_headers.Goals as goal

pub returns-clause-reads : goal.returns-clause-reads
returns-clause-reads g c = reads_then (reads_then c.view_header.ensures.reads c.view_header-2.ensures.reads) c.copies_of.ensures.reads

pub returns-in_err-copies-clause-reads : goal.returns-in_err-copies-clause-reads
returns-in_err-copies-clause-reads g c = reads_then (reads_then c.view_header.ensures.reads c.view_header-2.ensures.reads) c.copies_of.ensures.reads

pub returns-clause-look : goal.returns-clause-look
returns-clause-look g c = looks_then c.args.slot _ (looks_then c.args.slot _ c.in_ok-primary.ensures.look c.in_ok-secondary.ensures.look) c.in_ok-copies.ensures.look
