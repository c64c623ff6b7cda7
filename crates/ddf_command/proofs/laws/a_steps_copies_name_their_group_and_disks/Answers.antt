use Rattle.std.proofs.Common.{◌∙◌}
use Rattle.ddf_command.proofs.StepsCopies.{written_known}
use Rattle.ddf_command.proofs.laws.a_steps_copies_name_their_group_and_disks.Goals as goal

pub returns-clause-group : goal.returns-clause-group
returns-clause-group c = λ found changes timestamp steps are slot on. (written_known found timestamp changes steps are slot on).of_group

pub returns-clause-disk : goal.returns-clause-disk
returns-clause-disk c = λ found changes timestamp steps are slot on.
    let known = written_known found timestamp changes steps are slot on in
    (known.place, known.before, known.is_there, known.same_slot ∙ on.on_slot, known.same_disk)
