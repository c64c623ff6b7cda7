use Rattle.ddf_stage_promise.proofs.Bays.{write_staging, write_writing}
use Rattle.ddf_stage_promise.proofs.laws.a_stop_in_a_staged_write_keeps_the_data.Goals as goal

pub returns-clause-staging : goal.returns-clause-staging
returns-clause-staging g c = λ group footing small past_floors past alone number config since known only staged is_stage v view desks own promises left kept none allowed promised may image are shut between.
    write_staging group footing small past_floors past alone number config since known only staged is_stage v view desks own (g.B.Bay.disks c.args.old.now).may_hold (g.B.Bay.disks c.args.old.now).held left promises
    kept none allowed promised may image are shut between

pub returns-clause-writing : goal.returns-clause-writing
returns-clause-writing g c = λ group footing small past_floors past alone number config since known only staged is_stage v view desks own promises left kept none allowed promised may image are among behind between.
    write_writing group footing small past_floors past alone number config since known only staged is_stage v view desks own (g.B.Bay.disks c.args.old.now).may_hold (g.B.Bay.disks c.args.old.now).held left promises
    kept none allowed promised may image are among (g.B.Bay.disks c.args.behind.now).may_hold (g.B.Bay.disks c.args.behind.now).held behind between
