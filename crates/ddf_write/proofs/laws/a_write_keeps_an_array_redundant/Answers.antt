use Rattle.ddf_write.proofs.RedundantAfter.{redundant_after}
use Rattle.ddf_write.proofs.laws.a_write_keeps_an_array_redundant.Goals as goal

pub returns : goal.returns
returns c = λ volume start sectors before after known apart whole are redundant left written.
    redundant_after volume known apart whole start sectors before after are redundant left Unit tt written
