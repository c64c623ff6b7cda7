use Rattle.std.proofs.Common.{None}
use Rattle.ddf_data_history.specs.Promised.{with_promise}
use Rattle.ddf_data_calls.proofs.Begun.{dropped_less, fewer_keep}
use Rattle.ddf_data_calls.proofs.laws.fewer_promises_are_kept.Goals as goal

pub returns-clause-fewer : goal.returns-clause-fewer
returns-clause-fewer c = fewer_keep

pub returns-clause-dropped : goal.returns-clause-dropped
returns-clause-dropped c = λ group past floor image promises guid kept. fewer_keep group past floor image promises (with_promise promises guid None) (dropped_less promises guid) kept
