use Rattle.std.proofs.lemmas.Result.{on_ok_weaker}
use Rattle.ddf_linux.proofs.Views.{settled_turned}
use Rattle.ddf_linux.proofs.calls.TurnedBay.sync.Goals as goal

pub returns-clause-durable : goal.returns-clause-durable
returns-clause-durable g c =
    let bay = g.B.Bay.disks c.sync.new.self in
    on_ok_weaker c.sync.result (settled_turned c.args.self.now.kinds bay.may_hold bay.held c.args.slot) c.sync.ensures.durable
