use Rattle.std.proofs.Common.{inl}
use Rattle.std.proofs.lemmas.Result.{err_from_is_err_and}
use Rattle.ddf_rebuild_command.specs.Costs.{sectors_from}
use Rattle.ddf_rebuild_command.proofs.Costs.{filling_asks, opening_asks}
use Rattle.ddf_rebuild_command.proofs.FillRan.{fill_failed}
use Rattle.ddf_rebuild_command.proofs.rebuilding.fill_position.Goals as goal

pub returns-in_err-fill-clause-run : goal.returns-in_err-fill-clause-run
returns-in_err-fill-clause-run g c =
    let failed = err_from_is_err_and c.from_residual-in_err-fill.result c.from_residual-in_err-fill.ensures.1 in
    let old = g.B.Bay.disks c.args.bay.now in
    let new = g.B.Bay.disks c.fill.new.bay in
    let run = fill_failed g.B.Bay.disks g.B.Bay.tells old new c.args.group.now c.args.ready.now c.args.filling.now c.open_position.new.bay c.open_position.ensures.goes c.open_position.new.group
    c.in_err-fill.field-0.0 c.items.result.now c.items.ensures c.open_position.new.ready c.in_ok-open_position.ensures.left c.in_ok-open_position.ensures.opened c.in_err-fill.ensures.goes c.in_err-fill.ensures.failed in
    rw (failed.1, failed.2) (inl run)

pub returns-in_err-fill-clause-asks : goal.returns-in_err-fill-clause-asks
returns-in_err-fill-clause-asks g c part at =
    filling_asks c.args.filling.now.begins c.args.ready.now (sectors_from part.shape c.args.filling.now.from) c.open_position.new.ready c.in_ok-open_position.ensures.left c.open_position.ensures.asks
    (c.fill.ensures.asks part at)

pub returns-in_err-open_position-clause-asks : goal.returns-in_err-open_position-clause-asks
returns-in_err-open_position-clause-asks g c part at =
    opening_asks c.args.filling.now.begins c.args.ready.now (sectors_from part.shape c.args.filling.now.from) c.open_position.ensures.asks

pub returns-clause-asks : goal.returns-clause-asks
returns-clause-asks g c part at =
    filling_asks c.args.filling.now.begins c.args.ready.now (sectors_from part.shape c.args.filling.now.from) c.open_position.new.ready c.in_ok-open_position.ensures.left c.open_position.ensures.asks
    (c.fill.ensures.asks part at)
