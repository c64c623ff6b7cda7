use Rattle.std.proofs.Common.{◌∙◌, ◌≡◌, ℕ, length, sym, ap, Some, None}
use Rattle.ddf_disk_commands.proofs.Chosen.{chosen_there}
use Rattle.ddf_disk_commands.proofs.Fits.{refused_missing, refused_unfit}
use Rattle.ddf_disk_commands.specs.LabelRefusal.{chosen}
use Rattle.ddf_disk_commands.proofs.label_slots.fit_slots.Goals as goal

pub returns-in-Some-clause-failed : goal.returns-in-Some-clause-failed
returns-in-Some-clause-failed g c = λ tells. refused_missing c.args.large (g.B.Bay.disks c.args.bay.now).sizes (g.B.Bay.disks c.args.bay.now).held c.args.named.now c.in-Some.slot
    (rw c.slots-count.ensures.slots at (sym c.missing.ensures ∙ c.in-Some.is))

pub unfit-requires : goal.unfit-requires
unfit-requires g c = rw (c.deref.ensures.value ∙ c.in-Ok.ensures, c.slots-count.ensures.slots) (chosen_there (length (g.B.Bay.disks c.args.bay.now).sizes) c.args.named.now)

pub returns-in-Ok-None-clause-unrefused : goal.returns-in-Ok-None-clause-unrefused
returns-in-Ok-None-clause-unrefused g c = λ tells.
    let there = rw c.slots-count.ensures.slots at (sym c.missing.ensures ∙ c.in_default.is) in
    let slots : c.deref.result.now ≡ chosen (length (g.B.Bay.disks c.args.bay.now).sizes) c.args.named.now = c.deref.ensures.value ∙ c.in-Ok.ensures ∙ ap (λ (count : ℕ). chosen count c.args.named.now) c.slots-count.ensures.slots in
    refused_unfit c.args.large (g.B.Bay.disks c.args.bay.now).sizes (g.B.Bay.disks c.args.bay.now).held c.args.named.now None there (rw slots at (sym (c.in-Ok-None.ensures.answer tells) ∙ c.in-Ok-None.field-0-is))

pub returns-in-Ok-Some-clause-failed : goal.returns-in-Ok-Some-clause-failed
returns-in-Ok-Some-clause-failed g c = λ tells.
    let there = rw c.slots-count.ensures.slots at (sym c.missing.ensures ∙ c.in_default.is) in
    let slots : c.deref.result.now ≡ chosen (length (g.B.Bay.disks c.args.bay.now).sizes) c.args.named.now = c.deref.ensures.value ∙ c.in-Ok.ensures ∙ ap (λ (count : ℕ). chosen count c.args.named.now) c.slots-count.ensures.slots in
    refused_unfit c.args.large (g.B.Bay.disks c.args.bay.now).sizes (g.B.Bay.disks c.args.bay.now).held c.args.named.now (Some c.in-Ok-Some.refusal) there (rw slots at (sym (c.in-Ok-Some.ensures.answer tells) ∙ c.in-Ok-Some.field-0-is))
