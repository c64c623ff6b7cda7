use Rattle.std.proofs.Common.{◌∙◌, Some, sym, ap, arith}
use Rattle.ddf_read.proofs.FirstCopies.{first_there}
use Rattle.ddf_resync.proofs.Values.{value_copy}
use Rattle.ddf_resync.proofs.rows.read_first.Goals as goal

pub read-requires-clause-slot : goal.read-requires-clause-slot
read-requires-clause-slot g c = (first_there _ c.args.view.now c.requires.known c.requires.fits c.args.block c.args.site c.requires.first).slot_is

pub read-requires-clause-sector : goal.read-requires-clause-sector
read-requires-clause-sector g c = omega (arith, (first_there _ c.args.view.now c.requires.known c.requires.fits c.args.block c.args.site c.requires.first).lba_is)

pub returns-in-Ok-clause-value : goal.returns-in-Ok-clause-value
returns-in-Ok-clause-value g c = λ tells.
    value_copy c.args.view.now (g.B.Bay.disks c.args.bay.now).held c.args.block c.args.site c.requires.first ∙ ap Some (sym (c.in-Ok.ensures.bytes tells))
