use Rattle.ddf_copy.proofs.LastCopies.{last_is}
use Rattle.ddf_copy.proofs.newest_copy.Newest.last.Goals as goal

pub returns-clause-shown : goal.returns-clause-shown
returns-clause-shown c = rw c.place.ensures (last_is c.args.self.now)
