use Rattle.std.proofs.Common.{◌∙◌, sym}
use Rattle.ddf_disk_commands.proofs.Fits.{fits}
use Rattle.ddf_disk_commands.proofs.label_slots.unfit.Goals as goal

pub returns-in-Ok-clause-fit : goal.returns-in-Ok-clause-fit
returns-in-Ok-clause-fit g c = λ none. rw (c.in-Ok.ensures.reads.same_sizes, c.layout_of.ensures) at (fits c.layout_of.result (g.B.Bay.disks c.first_anchored.new.bay).sizes c.args.slots.now c.in-Ok.anchored (sym c.misfit.ensures ∙ none))
