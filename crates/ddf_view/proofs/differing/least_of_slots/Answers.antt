use Rattle.std.proofs.Common.{rules, tests}
use Rattle.std.specs.Ordering.{min_by_ordering}
use Rattle.std.proofs.lemmas.Iterator.{YieldsList-from_slice}
use Rattle.std.proofs.lemmas.Iterator.Consumers.{YieldsList-at, YieldsList-from_filter, YieldsList-from_filter_map, reduce_from_yields_List}
use Rattle.ddf_view.specs.View.{key_of_slot}
use Rattle.ddf_view.specs.Differ.{key_cmp}
use Rattle.ddf_view.proofs.differing.least_of_slots.Goals as goal

pub returns : goal.returns
returns c =
    reduce_from_yields_List (λ p z. min_by_ordering (key_cmp p z) p z) _ c.min.result c.min.ensures.ran
    (YieldsList-from_filter _ _
    (YieldsList-at c.filter.ensures.source
    (YieldsList-from_filter_map _ key_of_slot (YieldsList-at c.filter_map.ensures.source (YieldsList-from_slice c.args.slots.now cc)) c.filter_map.ensures.closure (λ x r q k. search (rules, tests))))
    c.filter.ensures.closure (λ x r q k. search (rules, tests)))
