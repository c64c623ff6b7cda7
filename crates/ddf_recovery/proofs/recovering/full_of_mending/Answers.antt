use Rattle.std.proofs.Common.{◌≡◌, false, Option, ap, sym, ◌∙◌, subst}
use Rattle.std.specs.Prelude.{IfOk}
use Rattle.ddf_config.specs.declared.refusal.FullTable.{FullTable}
use Rattle.ddf_steps.specs.Full.{lengths_differ}
use Rattle.ddf_seats.specs.Seated.{seated}
use Rattle.ddf_recovery.proofs.Mended.{can_mend_all, least_is}
use Rattle.ddf_recovery.proofs.recovering.full_of_mending.Goals as goal

pub least_mended-requires : goal.least_mended-requires
least_mended-requires c =
    let same : lengths_differ (seated c.args.group.now) ≡ false = ap lengths_differ (sym c.requires.disks) ∙ sym c.lengths_differ.ensures ∙ c.if-lengths_differ.false in
    rw (c.requires.leaders, c.requires.disks, c.config.ensures) (can_mend_all c.args.group.now c.requires.assembled same)

pub returns : goal.returns
returns c =
    let same : lengths_differ (seated c.args.group.now) ≡ false = ap lengths_differ (sym c.requires.disks) ∙ sym c.lengths_differ.ensures ∙ c.if-lengths_differ.false in
    subst (λ (full : Option FullTable). IfOk c.least_mended.result (λ got. got ≡ full)) (sym (least_is c.args.group.now same))
    (rw (c.requires.leaders, c.requires.disks, c.config.ensures) at c.least_mended.ensures)
