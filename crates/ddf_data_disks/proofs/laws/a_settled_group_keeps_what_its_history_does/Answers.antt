use Rattle.ddf_data_disks.proofs.Ended.{keeps_back, keeps_there}
use Rattle.ddf_data_disks.proofs.laws.a_settled_group_keeps_what_its_history_does.Goals as goal

pub returns-clause-there : goal.returns-clause-there
returns-clause-there g c = λ group past floor found end on image promises keeps. keeps_there group past (g.B.Bay.disks c.args.bay.now) found end floor on image promises keeps

pub returns-clause-back : goal.returns-clause-back
returns-clause-back g c = λ group past floor found end on image promises keeps. keeps_back group past (g.B.Bay.disks c.args.bay.now) found end floor on image promises keeps
