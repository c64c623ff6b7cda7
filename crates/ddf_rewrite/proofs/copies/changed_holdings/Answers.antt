use Rattle.std.proofs.Common.{◌≡◌, ◌∙◌, ◌<◌, ◌^◌, List, Some, None, ap, arith}
use Rattle.std.proofs.lemmas.Grind.{common_steps}
use Rattle.std.specs.Prelude.{slice_get}
use Rattle.ddf_config.specs.Shapes.{array_capacity}
use Rattle.ddf_view.proofs.Finds.{place_within}
use Rattle.ddf_rewrite.specs.Before.{before, leading_record}
use Rattle.ddf_rewrite.specs.Wanted.{Wanted}
use Rattle.ddf_rewrite.proofs.Premises.{each_more, wanted_given}
use Rattle.ddf_rewrite.proofs.copies.changed_holdings.Goals as goal

pub changed_holding-requires-clause-fits : goal.changed_holding-requires-clause-fits
changed_holding-requires-clause-fits c =
    (wanted_given c.args.old.now.header.geometry.max_members c.args.issue.now.config.now c.args.all.now c.loop-wanted.wanted-index c.wanted-item.result
    c.requires.all c.requires.holdable c.loop-wanted-test.true c.wanted-item.is).plan

pub changed_holding-requires-clause-elements : goal.changed_holding-requires-clause-elements
changed_holding-requires-clause-elements c =
    (wanted_given c.args.old.now.header.geometry.max_members c.args.issue.now.config.now c.args.all.now c.loop-wanted.wanted-index c.wanted-item.result
    c.requires.all c.requires.holdable c.loop-wanted-test.true c.wanted-item.is).few

pub changed_holding-requires-clause-index : goal.changed_holding-requires-clause-index
changed_holding-requires-clause-index c =
    let given = wanted_given c.args.old.now.header.geometry.max_members c.args.issue.now.config.now c.args.all.now c.loop-wanted.wanted-index c.wanted-item.result
    c.requires.all c.requires.holdable c.loop-wanted-test.true c.wanted-item.is in
    let few = given.few in
    let index = given.index in
    omega (arith, few, index)

pub loop-wanted-preserved : goal.loop-wanted-preserved
loop-wanted-preserved c = record {
  made = grind (arith, common_steps);
  sizes = each_more (λ (one : Wanted). leading_record (before c.args.leaders.now) one.guid one.index ≡ None → array_capacity one.array < 2 ^ 64)
      c.args.all.now c.loop-wanted.wanted-index c.wanted-item.result c.loop-wanted-test.true c.wanted-item.is c.loop-wanted.invariant.sizes c.in_ok-changed_holding.ensures.size;
}

pub returns-clause-sizes : goal.returns-clause-sizes
returns-clause-sizes c = λ n one at none.
    let there : slice_get c.args.all.now n ≡ Some one = ap (λ (all : List Wanted). slice_get all n) c.requires.all ∙ at in
    let within = place_within c.args.all.now n one there in
    c.loop-wanted.invariant.sizes n one (omega (arith, within, c.loop-wanted-test.false)) there none
