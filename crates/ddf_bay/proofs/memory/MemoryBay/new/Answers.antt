use Rattle.ddf_bay.proofs.MemorySteps.{none_within}
use Rattle.ddf_bay.proofs.memory.MemoryBay.new.Goals as goal

pub invariant_of-result-clause-reads_within : goal.invariant_of-result-clause-reads_within
invariant_of-result-clause-reads_within c = none_within 64

pub invariant_of-result-clause-writes_within : goal.invariant_of-result-clause-writes_within
invariant_of-result-clause-writes_within c = none_within 64

pub invariant_of-result-clause-small : goal.invariant_of-result-clause-small
invariant_of-result-clause-small c = rw (c.in_ok-sizes.ensures.items_if_clones_equal (λ a b e. e)) c.requires.small
