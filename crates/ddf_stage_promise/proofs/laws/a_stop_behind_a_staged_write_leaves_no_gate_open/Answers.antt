use Rattle.ddf_stage_promise.proofs.Done.{done_closing, done_writing}
use Rattle.ddf_stage_promise.proofs.laws.a_stop_behind_a_staged_write_leaves_no_gate_open.Goals as goal

pub returns-clause-closing : goal.returns-clause-closing
returns-clause-closing g c = λ group footing small past_floors past alone number config since known only staged is_stage v view desks own promises left behind done image are last settled kept one first to_close.
    done_closing group footing small past_floors past alone number config since known only staged is_stage v view desks own (g.B.Bay.disks c.args.old.now).may_hold (g.B.Bay.disks c.args.old.now).held left promises
    (g.B.Bay.disks c.args.behind.now).may_hold (g.B.Bay.disks c.args.behind.now).held behind (g.B.Bay.disks c.args.done.now).may_hold (g.B.Bay.disks c.args.done.now).held done image are last settled kept one first to_close

pub returns-clause-writing : goal.returns-clause-writing
returns-clause-writing g c = λ group footing small past_floors past alone number config since known only staged is_stage v view desks own promises left behind done image are last kept none allowed promised may among.
    done_writing group footing small past_floors past alone number config since known only staged is_stage v view desks own (g.B.Bay.disks c.args.old.now).may_hold (g.B.Bay.disks c.args.old.now).held left promises
    (g.B.Bay.disks c.args.behind.now).may_hold (g.B.Bay.disks c.args.behind.now).held behind (g.B.Bay.disks c.args.done.now).may_hold (g.B.Bay.disks c.args.done.now).held done image are last kept none allowed promised may among
