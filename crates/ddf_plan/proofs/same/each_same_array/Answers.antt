use Rattle.std.proofs.Common.{rules}
use borrow.Author.Tests.{tests}
use Rattle.std.proofs.lemmas.Iterator.{YieldsList-from_zip}
use Rattle.std.proofs.lemmas.Iterator.Consumers.{YieldsList-at, YieldsList-from_rest}
use Rattle.std.proofs.lemmas.Iterator.Search.{all_from_yields_List}
use Rattle.ddf_plan.specs.Same.{same_array}
use Rattle.ddf_plan.proofs.same.each_same_array.Goals as goal

pub returns : goal.returns
returns c =
    all_from_yields_List (λ pair. same_array pair.0 pair.1) _ _ _ c.all.ensures.ran
    (YieldsList-from_zip
    (YieldsList-at c.zip.ensures.first (YieldsList-from_rest c.args.one.now.entries c.iter.ensures.rest))
    (YieldsList-at c.zip.ensures.second (YieldsList-from_rest c.args.other.now.entries c.iter-2.ensures.rest)))
    (λ x b q k. search (rules, tests))
