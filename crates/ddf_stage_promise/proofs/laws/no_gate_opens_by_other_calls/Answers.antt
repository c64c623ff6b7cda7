use Rattle.ddf_stage_promise.proofs.Shut.{none_acked, none_issued, none_lost, none_same, none_taken}
use Rattle.ddf_stage_promise.proofs.laws.no_gate_opens_by_other_calls.Goals as goal

pub returns-clause-same : goal.returns-clause-same
returns-clause-same c = none_same

pub returns-clause-lost : goal.returns-clause-lost
returns-clause-lost c = none_lost

pub returns-clause-acked : goal.returns-clause-acked
returns-clause-acked c = none_acked

pub returns-clause-taken : goal.returns-clause-taken
returns-clause-taken c = none_taken

pub returns-clause-issued : goal.returns-clause-issued
returns-clause-issued c = none_issued
