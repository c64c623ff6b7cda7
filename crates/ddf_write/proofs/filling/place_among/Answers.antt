use Rattle.std.proofs.Common.{◌≡◌, ◌∙◌, ◌+◌, ◌-◌, Some, sym, ap, arith}
use Rattle.ddf_lemmas.proofs.Options.{some_is}
use Rattle.ddf_write.proofs.filling.place_among.Goals as goal
use Rattle.ddf_write.proofs.KeptValues.{never_some}

pub returns-then-block-start : goal.returns-then-block-start
returns-then-block-start c = λ k below same. omega (arith, some_is (c.in-Some.ensures ∙ same), c.if-block-start.true)

pub returns-then-place-count : goal.returns-then-place-count
returns-then-place-count c =
    let same : c.in-Some.block ≡ c.args.start + (c.in-Some.block - c.args.start) = omega (arith, c.if-block-start.false) in
    (c.if-place-count.true, sym c.in-Some.ensures ∙ ap Some same)

pub returns-else-place-count : goal.returns-else-place-count
returns-else-place-count c = λ k below same. omega (arith, some_is (c.in-Some.ensures ∙ same), below, c.if-block-start.false, c.if-place-count.false)

pub returns-in-None : goal.returns-in-None
returns-in-None c = λ k below same. never_some (c.in-None.ensures ∙ same)
