use Rattle.std.proofs.Common.{◌≡◌, true, false, sym, ◌∙◌}
use Rattle.ddf_seats.specs.Leading.{some}
use Rattle.ddf_recovery.proofs.WhenFull.{full_kept, full_lost}
use Rattle.ddf_recovery.proofs.recovering.refusal_behind.Goals as goal

pub returns-then-any_absent : goal.returns-then-any_absent
returns-then-any_absent c = λ timestamp.
    let are : some c.args.group.now.absent ≡ true = sym c.any_absent.ensures ∙ c.if-any_absent.true in
    sym (full_lost timestamp c.args.table c.args.group.now c.args.changes.now are)
    ∙ (rw (c.deref.ensures.value, c.in_ok-kept.ensures, c.in_ok-config.ensures, c.requires) at (c.in_ok-refusal.ensures timestamp))

pub returns : goal.returns
returns c = λ timestamp.
    let none : some c.args.group.now.absent ≡ false = sym c.any_absent.ensures ∙ c.if-any_absent.false in
    sym (full_kept timestamp c.args.table c.args.group.now c.args.changes.now none)
    ∙ (rw (c.config-2.ensures, c.requires) at (c.in_ok-refusal-2.ensures timestamp))
