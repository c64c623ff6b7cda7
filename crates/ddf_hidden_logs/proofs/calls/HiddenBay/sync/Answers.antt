use Rattle.std.proofs.lemmas.Result.{on_ok_weaker}
use Rattle.ddf_hidden_logs.proofs.Views.{settled_shown}
use Rattle.ddf_hidden_logs.proofs.calls.HiddenBay.sync.Goals as goal

pub returns-clause-durable : goal.returns-clause-durable
returns-clause-durable g c =
    let bay = g.B.Bay.disks c.sync.new.self in
    on_ok_weaker c.sync.result (settled_shown c.args.self.now.masks.items bay.may_hold bay.held c.args.slot) c.sync.ensures.durable
