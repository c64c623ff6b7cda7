use Rattle.ddf_array.specs.Values.{bytes_at}
use Rattle.ddf_read.specs.Reading.{Failed}
use Rattle.ddf_resync.proofs.Copied.{first_taken, given_held}
use Rattle.ddf_resync.proofs.laws.a_resync_takes_the_first_copy.Goals as goal

pub returns-clause-held : goal.returns-clause-held
returns-clause-held g c = λ v block i before after one was at.
    given_held v (Failed (g.B.Bay.disks c.args.old.now) (g.B.Bay.disks c.args.new.now)) before block (bytes_at after one) (was.given block i one at)

pub returns-clause-first : goal.returns-clause-first
returns-clause-first g c = λ v block i before after one first was at is_first never.
    first_taken (Failed (g.B.Bay.disks c.args.old.now) (g.B.Bay.disks c.args.new.now)) v before block first (bytes_at after one) is_first never (was.given block i one at)
