use Rattle.ddf_logs.specs.Logs.{seen_at}
use Rattle.ddf_logs.proofs.Through.{can_at, exchange_seen, newest_seen, through}
use Rattle.ddf_logs.proofs.laws.a_slot_shows_the_same_through_its_exchange.Goals as goal

pub returns-clause-anchor : goal.returns-clause-anchor
returns-clause-anchor c = λ size sector. (through size sector).anchor_is

pub returns-clause-copies : goal.returns-clause-copies
returns-clause-copies c = λ size sector anchor anchored. (through size sector).copies_are anchor anchored

pub returns-clause-newest : goal.returns-clause-newest
returns-clause-newest c = λ size sector. newest_seen size sector (seen_at size sector) (through size sector)

pub returns-clause-exchange : goal.returns-clause-exchange
returns-clause-exchange c = λ size sector. exchange_seen size sector (seen_at size sector) (through size sector)

pub returns-clause-can : goal.returns-clause-can
returns-clause-can c = λ size sector. can_at size sector
