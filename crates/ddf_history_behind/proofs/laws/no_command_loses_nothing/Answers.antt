use Rattle.ddf_history_behind.proofs.Requests.{changes_lose, copybacks_lose, none_lose, rebuilds_lose, resyncs_lose, writes_lose}
use Rattle.ddf_history_behind.proofs.laws.no_command_loses_nothing.Goals as goal

pub returns-clause-changes : goal.returns-clause-changes
returns-clause-changes c = changes_lose

pub returns-clause-assembles : goal.returns-clause-assembles
returns-clause-assembles c = none_lose

pub returns-clause-resyncs : goal.returns-clause-resyncs
returns-clause-resyncs c = resyncs_lose

pub returns-clause-writes : goal.returns-clause-writes
returns-clause-writes c = writes_lose

pub returns-clause-rebuilds : goal.returns-clause-rebuilds
returns-clause-rebuilds c = rebuilds_lose

pub returns-clause-goes_back : goal.returns-clause-goes_back
returns-clause-goes_back c = copybacks_lose
