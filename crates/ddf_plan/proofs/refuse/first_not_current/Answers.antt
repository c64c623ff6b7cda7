use Rattle.std.proofs.Common.{◌≡◌, ◌∙◌, sym, ap, not, true, false, get_or}
use Rattle.ddf_config.specs.Members.{is_current}
use Rattle.ddf_config.proofs.Finds.{find_here, find_not_here}
use Rattle.ddf_plan.proofs.refuse.first_not_current.Goals as goal

pub returns-then-not-is_current : goal.returns-then-not-is_current
returns-then-not-is_current c =
    let x = get_or c.args.references.now c.loop-reference.reference-index 0 in
    let away : is_current c.args.members.now.entries x ≡ false = sym c.is_current.ensures ∙ c.if-not-is_current.true in
    sym (find_here (λ reference. not (is_current c.args.members.now.entries reference)) c.args.references.now c.loop-reference.reference-index 0
    c.loop-reference-test.true c.loop-reference.invariant (ap not away))

pub loop-reference-preserved : goal.loop-reference-preserved
loop-reference-preserved c =
    let x = get_or c.args.references.now c.loop-reference.reference-index 0 in
    let there : is_current c.args.members.now.entries x ≡ true = sym c.is_current.ensures ∙ c.if-not-is_current.false in
    find_not_here (λ reference. not (is_current c.args.members.now.entries reference)) c.args.references.now c.loop-reference.reference-index 0
    c.loop-reference-test.true c.loop-reference.invariant (ap not there)
