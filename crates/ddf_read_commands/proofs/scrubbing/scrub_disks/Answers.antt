use Rattle.ddf_read_commands.proofs.Scrubbed.{scrub_ends}
use Rattle.ddf_read_commands.proofs.scrubbing.scrub_disks.Goals as goal

pub returns-in-Ok-clause-ends : goal.returns-in-Ok-clause-ends
returns-in-Ok-clause-ends g c =
    scrub_ends _ _ _ _ c.tell_line.ensures.stream c.scrubbed.ensures.reads (record { result = _; has = c.scrubbed.ensures.scrubbed; ends = rw c.in-Ok.is c.tell_line.ensures.ends })
