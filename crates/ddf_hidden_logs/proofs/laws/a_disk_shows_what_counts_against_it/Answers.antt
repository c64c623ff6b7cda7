use Rattle.ddf_hidden_logs.specs.Shown.{mask_at}
use Rattle.ddf_hidden_logs.specs.TurnLaws.{turn_twice}
use Rattle.ddf_hidden_logs.proofs.Seen.{seen_anchor, seen_copy, seen_count, seen_newest}
use Rattle.ddf_hidden_logs.proofs.laws.a_disk_shows_what_counts_against_it.Goals as goal

pub returns-clause-anchor : goal.returns-clause-anchor
returns-clause-anchor c = λ size sector. seen_anchor size sector

pub returns-clause-copy : goal.returns-clause-copy
returns-clause-copy c = λ size sector anchor which copy whole anchored is stands. seen_copy size sector anchor whole which copy is anchored stands

pub returns-clause-newest : goal.returns-clause-newest
returns-clause-newest c = λ size sector anchor whole anchored. seen_newest size sector anchor whole anchored

pub returns-clause-count : goal.returns-clause-count
returns-clause-count c = λ size sector anchor which copy whole is log has. seen_count size sector anchor whole which copy is log has

pub returns-clause-twice : goal.returns-clause-twice
returns-clause-twice c = λ size sector l. turn_twice (mask_at size sector) l (sector l)
