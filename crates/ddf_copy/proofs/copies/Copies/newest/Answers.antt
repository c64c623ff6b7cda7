use Rattle.ddf_copy.proofs.NewestUnder.{both_under}
use Rattle.ddf_copy.proofs.copies.Copies.newest.Goals as goal

pub returns-in-Ok-Ok-clause-under : goal.returns-in-Ok-Ok-clause-under
returns-in-Ok-Ok-clause-under c = λ size anchor under.
    let one = rw c.in-Ok-Ok.is-0 at under.0 in
    let other = rw c.in-Ok-Ok.is-1 at under.1 in
    rw c.newest_of_both.ensures (both_under size anchor c.args.self.level c.in-Ok-Ok.primary c.in-Ok-Ok.secondary one other)
