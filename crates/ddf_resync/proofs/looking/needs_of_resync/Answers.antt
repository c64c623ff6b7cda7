use Rattle.std.proofs.Common.{sym}
use Rattle.ddf_cells.proofs.Whole.{readable}
use Rattle.ddf_resync.proofs.Resynced.{not_refused}
use Rattle.ddf_resync.proofs.looking.needs_of_resync.Goals as goal

pub look_all-requires-clause-readable : goal.look_all-requires-clause-readable
look_all-requires-clause-readable g c =
    let v = c.args.view.now in
    let is = not_refused v (sym c.in_default.ensures.value) in
    readable v c.resync_refusal.ensures.sound is.1 is.0
