use Rattle.ddf_answer.specs.Call.{work_of}
use Rattle.ddf_uncut_data.proofs.Done.{holds_by_resync, zeros_by_resync}
use Rattle.ddf_uncut_data.proofs.laws.a_done_resync_leaves_the_blocks_that_were_there.Goals as goal

pub returns-clause-values : goal.returns-clause-values
returns-clause-values g c = λ old new told found first last volume first_aside last_aside whole known apart within done.
    holds_by_resync (work_of g.B.Bay.tells (g.B.Bay.disks old) (g.B.Bay.disks new)) found first last volume told first_aside last_aside whole
    (λ slot lba. ((g.met.B.Bay.told new).whole slot lba ((g.B.Bay.disks new).held slot lba) ((g.met.B.Bay.told new).held told slot lba)).size)
    known apart within done

pub returns-clause-zeros : goal.returns-clause-zeros
returns-clause-zeros g c = λ old new told found first last volume first_aside last_aside whole known apart within done blank.
    zeros_by_resync (work_of g.B.Bay.tells (g.B.Bay.disks old) (g.B.Bay.disks new)) found first last volume told first_aside last_aside whole
    (λ slot lba. ((g.met.B.Bay.told new).whole slot lba ((g.B.Bay.disks new).held slot lba) ((g.met.B.Bay.told new).held told slot lba)).size)
    known apart within done blank
