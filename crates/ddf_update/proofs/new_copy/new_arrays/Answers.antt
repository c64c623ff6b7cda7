use Rattle.ddf_update.specs.NewCopies.{new_arrays}
use Rattle.ddf_update.proofs.new_copy.new_arrays.Goals as goal

pub returns : goal.returns
unfolding new_arrays
returns c = record {
  exact = rw (c.from.ensures, c.numbers-numbers.ensures.exact) at c.blank.ensures.exact;
  writable = rw c.numbers-numbers.ensures.exact at c.blank.ensures.writable;
  size = rw (c.from.ensures, c.numbers-numbers.ensures.exact) at c.blank.ensures.size;
}
