use Rattle.ddf_repair.proofs.Begins.{is_fresh}
use Rattle.ddf_repair.proofs.BegunUsable.{fresh_usable}
use Rattle.ddf_repair.proofs.laws.arrays_stay_usable_where_a_rebuild_begins.Goals as goal

pub returns : goal.returns
returns c = λ config guid seats aside target change sequence asked array apart h there usable.
    fresh_usable config guid seats aside change (is_fresh config guid seats aside target change h) apart asked array there usable
