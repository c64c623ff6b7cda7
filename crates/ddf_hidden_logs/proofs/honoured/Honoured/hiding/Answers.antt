use Rattle.std.proofs.Common.{rules}
use Rattle.ddf_hidden_logs.proofs.honoured.Honoured.hiding.Goals as goal

pub returns-in-Err-clause-given_back : goal.returns-in-Err-clause-given_back
returns-in-Err-clause-given_back g c = record {
  looked = c.in-Err.looked;
  is_below = search rules;
  reads = c.in-Err.ensures.reads_failed;
  calls = c.in-Err.ensures.calls_failed;
}
