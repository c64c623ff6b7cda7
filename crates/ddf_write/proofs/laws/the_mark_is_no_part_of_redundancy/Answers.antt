use Rattle.ddf_write.proofs.WriteLeaves.{unmarked_redundant}
use Rattle.ddf_write.proofs.laws.the_mark_is_no_part_of_redundancy.Goals as goal

pub returns : goal.returns
returns c = unmarked_redundant
