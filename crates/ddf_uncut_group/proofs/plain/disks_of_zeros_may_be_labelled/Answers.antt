use Rattle.ddf_uncut_group.proofs.PlainLabelling.{memory_unrefused}
use Rattle.ddf_uncut_group.proofs.plain.disks_of_zeros_may_be_labelled.Goals as goal

pub returns : goal.returns
returns c = λ bay sizes writes failing stop_after is some few large. memory_unrefused bay sizes writes failing stop_after is some few large
