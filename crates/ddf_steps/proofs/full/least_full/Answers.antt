use Rattle.std.proofs.Common.{◌∙◌, None, take, refl, sym, ap}
use Rattle.std.proofs.lemmas.List.Sums.{fold_more}
use Rattle.ddf_rewrite.specs.Before.{before}
use Rattle.ddf_seats.specs.declared.seated.Seated.{Seated}
use Rattle.ddf_steps.specs.Full.{full_where_written, least_full, lesser}
use Rattle.ddf_steps.proofs.full.least_full.Goals as goal

pub loop-disk-init : goal.loop-disk-init
unfolding least_full
loop-disk-init c = refl

pub loop-disk-preserved : goal.loop-disk-preserved
unfolding least_full
loop-disk-preserved c =
    let full = full_where_written (before c.args.leaders.now) c.args.config.now c.args.timestamp in
    let step = λ (least : _) (disk : Seated). lesser least (full disk) in
    let disk = c.disk-item.result in
    c.lesser-least.ensures
    ∙ ap (λ least. lesser least c.in_ok-full_where_written.field-0) c.loop-disk.invariant
    ∙ ap (lesser (least_full (before c.args.leaders.now) c.args.config.now c.args.timestamp (take c.loop-disk.disk-index c.args.disks.now))) (c.in_ok-full_where_written.ensures ∙ ap full c.disk-item.is)
    ∙ sym (fold_more step None c.args.disks.now c.loop-disk.disk-index disk c.loop-disk-test.true)
