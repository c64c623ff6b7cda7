use Rattle.ddf_shortened.proofs.Below.{none_early, none_unread}
use Rattle.ddf_shortened.proofs.shortened.Shortened.whole.Goals as goal

pub returns-clause-whole : goal.returns-clause-whole
returns-clause-whole g c = λ s. none_early 64 s

pub returns-clause-read : goal.returns-clause-read
returns-clause-read g c = λ s. none_unread 64 s
