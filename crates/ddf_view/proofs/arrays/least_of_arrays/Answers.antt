use Rattle.std.proofs.Common.{rules, tests}
use Rattle.std.specs.Ordering.{min_by_ordering, nat_cmp}
use Rattle.std.specs.Cmp.Lexicographic.{slice_cmp}
use Rattle.std.proofs.lemmas.Iterator.{YieldsList-from_slice, YieldsList-from_map}
use Rattle.std.proofs.lemmas.Iterator.Consumers.{YieldsList-at, YieldsList-from_chain, YieldsList-from_filter, YieldsList-from_filter_map, reduce_from_yields_List}
use Rattle.ddf_view.specs.View.{array_of}
use Rattle.ddf_view.proofs.arrays.least_of_arrays.Goals as goal

pub returns : goal.returns
returns c =
    reduce_from_yields_List (λ p z. min_by_ordering (slice_cmp nat_cmp p z) p z) _ c.min.result c.min.ensures.ran
    (YieldsList-from_filter _ _
    (YieldsList-at c.filter.ensures.source
    (YieldsList-from_map _ _
    (YieldsList-at c.map.ensures.source
    (YieldsList-from_chain
    (YieldsList-at c.chain.ensures.first
    (YieldsList-from_filter_map _ array_of (YieldsList-at c.filter_map.ensures.source (YieldsList-from_slice c.args.one.now cc)) c.filter_map.ensures.closure (λ x r q k. search (rules, tests))))
    (YieldsList-at c.chain.ensures.second
    (YieldsList-from_filter_map _ array_of (YieldsList-at c.filter_map-2.ensures.source (YieldsList-from_slice c.args.other.now cc)) c.filter_map-2.ensures.closure (λ x r q k. search (rules, tests))))
    c.chain.ensures.first_done c.chain.ensures.second_done))
    c.map.ensures.closure (λ x r q k. search (rules, tests))))
    c.filter.ensures.closure (λ x r q k. search (rules, tests)))
