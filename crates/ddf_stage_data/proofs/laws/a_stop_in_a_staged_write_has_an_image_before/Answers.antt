use Rattle.std.specs.Prelude.{[]}
use Rattle.ddf_stage_data.proofs.Stops.{again_comes, closed_are_shut, replay_comes, stage_comes}
use Rattle.ddf_stage_data.proofs.laws.a_stop_in_a_staged_write_has_an_image_before.Goals as goal

pub returns-clause-staging : goal.returns-clause-staging
returns-clause-staging g c = λ arrays desks staged cells image own is_stage left shut between.
    stage_comes arrays desks own staged is_stage cells (g.B.Bay.disks c.args.old.now).may_hold (g.B.Bay.disks c.args.old.now).held image left shut between

pub returns-clause-again : goal.returns-clause-again
returns-clause-again g c = λ arrays desks staged cells image own is_stage names left ready between.
    again_comes arrays desks own staged is_stage cells names (g.B.Bay.disks c.args.old.now).may_hold (g.B.Bay.disks c.args.old.now).held image left ready between

pub returns-clause-writing : goal.returns-clause-writing
returns-clause-writing g c = λ arrays desks staged cells image own is_stage off left behind between.
    replay_comes arrays desks own staged is_stage cells off (g.B.Bay.disks c.args.old.now).may_hold (g.B.Bay.disks c.args.behind.now).may_hold (g.B.Bay.disks c.args.old.now).held (g.B.Bay.disks c.args.behind.now).held image left behind between

pub returns-clause-closed : goal.returns-clause-closed
returns-clause-closed g c = λ arrays desks staged own is_stage there settled.
    closed_are_shut arrays desks own staged is_stage [] (g.B.Bay.disks c.args.old.now).may_hold (g.B.Bay.disks c.args.old.now).held there settled
