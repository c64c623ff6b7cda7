use Rattle.std.proofs.Common.{◌≡◌, false, arith}
use Rattle.std.proofs.lemmas.Grind.{common_steps}
use Rattle.ddf_copy.specs.Faults.{anchor_failed}
use Rattle.ddf_disk_commands.specs.LabelRefusal.{is_blank}
use Rattle.ddf_disk_commands.proofs.Quiet.{not_blank, quiet_look}
use Rattle.ddf_disk_commands.proofs.label_slots.is_anchored.Goals as goal

pub returns-in-Ok-2-clause-answer : goal.returns-in-Ok-2-clause-answer
returns-in-Ok-2-clause-answer g c = λ tells.
    let shown : is_blank c.anchor_of.result ≡ false = grind (arith, common_steps) in
    let good : anchor_failed c.anchor_of.result ≡ false = grind (arith, common_steps) in
    not_blank c.args.slot c.anchor_of.result _ (c.anchor_of.ensures.anchor tells) shown good

pub returns-in-Ok-2-clause-quiet : goal.returns-in-Ok-2-clause-quiet
returns-in-Ok-2-clause-quiet g c =
    let good : anchor_failed c.anchor_of.result ≡ false = grind (arith, common_steps) in
    quiet_look c.anchor_of.ensures.look good
