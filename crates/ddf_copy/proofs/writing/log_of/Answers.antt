use Rattle.std.proofs.Common.{◌∙◌, List, ℕ, ap}
use Rattle.ddf_copy.specs.Sections.{bytes_in}
use Rattle.ddf_copy.specs.Written.{log_written}
use Rattle.ddf_copy.proofs.writing.log_of.Goals as goal

pub returns-in-None-clause-written : goal.returns-in-None-clause-written
unfolding log_written
returns-in-None-clause-written c = rw c.in-None.is (ap (λ (sectors : List (List ℕ)). bytes_in sectors) (c.new-in-None.ensures ∙ c.new.ensures.items))
