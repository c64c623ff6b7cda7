use Rattle.std.proofs.Common.{sym, ◌∙◌}
use Rattle.ddf_shortened.specs.Sizes.{seen_length}
use Rattle.ddf_shortened.proofs.calls.ShortenedBay.slots.Goals as goal

pub returns-clause-slots : goal.returns-clause-slots
returns-clause-slots g c = c.slots.ensures.slots ∙ sym (seen_length c.args.self.now.ends.slots (g.B.Bay.disks c.args.self.now.inner).sizes)
