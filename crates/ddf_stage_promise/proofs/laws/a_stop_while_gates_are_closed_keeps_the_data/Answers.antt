use Rattle.ddf_stage_promise.proofs.Bays.{cells_off, close_staging, close_writing}
use Rattle.ddf_stage_promise.proofs.laws.a_stop_while_gates_are_closed_keeps_the_data.Goals as goal

pub returns-clause-staging : goal.returns-clause-staging
returns-clause-staging g c = λ group footing small past_floors past alone number config since known only staged is_stage v view desks own promises left settled kept one first to_close image are between.
    close_staging group footing small past_floors past alone number config since known only staged is_stage v view desks own (g.B.Bay.disks c.args.old.now).may_hold (g.B.Bay.disks c.args.old.now).held left promises
    settled kept one first to_close image are between

pub returns-clause-writing : goal.returns-clause-writing
returns-clause-writing g c = λ group footing small past_floors past alone number config since known only staged is_stage v view desks own promises left settled kept one first to_close image are behind between.
    close_writing group footing small past_floors past alone number config since known only staged is_stage v view desks own (g.B.Bay.disks c.args.old.now).may_hold (g.B.Bay.disks c.args.old.now).held left promises
    settled kept one first to_close image are (g.B.Bay.disks c.args.behind.now).may_hold (g.B.Bay.disks c.args.behind.now).held behind between

pub returns-clause-off : goal.returns-clause-off
returns-clause-off g c = λ group footing small past_floors past alone number config since known only staged is_stage v view desks own among.
    cells_off group footing small past_floors past alone number config since known only staged is_stage v view desks own among
