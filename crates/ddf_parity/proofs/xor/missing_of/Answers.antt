use Rattle.std.proofs.Common.{◌≡◌, ◌∙◌, ap, sym, refl, arith}
use Rattle.std.proofs.lemmas.List.{take_all}
use Rattle.ddf_parity.specs.Xor.{zeros, xor, xor_all}
use Rattle.ddf_parity.specs.XorLaws.{xor_all_first, xor_with_itself, same_from_zero}
use Rattle.ddf_parity.proofs.xor.missing_of.Goals as goal

pub loop-other-init : goal.loop-other-init
unfolding zeros
loop-other-init c = record { long = refl; sum = refl }

pub returns-clause-sum : goal.returns-clause-sum
returns-clause-sum c =
    let into = c.loop-other.into in
    let others = c.args.others.now in
    let all : into ≡ xor_all others = c.loop-other.invariant.sum ∙ ap xor_all (take_all c.loop-other.other-index others (omega arith)) in
    xor_all_first into others ∙ ap (xor into) (sym all) ∙ xor_with_itself into c.loop-other.invariant.long

pub returns-clause-only : goal.returns-clause-only
returns-clause-only c other long zero =
    let into = c.loop-other.into in
    let others = c.args.others.now in
    let all : into ≡ xor_all others = c.loop-other.invariant.sum ∙ ap xor_all (take_all c.loop-other.other-index others (omega arith)) in
    same_from_zero other into long c.loop-other.invariant.long (ap (xor other) all ∙ sym (xor_all_first other others) ∙ zero)
