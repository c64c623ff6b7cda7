use Rattle.std.proofs.Common.{Ok, Err}
use Rattle.ddf_bytes.specs.Stamps.{timestamp_of}
use Rattle.ddf_rebuild_command.proofs.BackEnds.{copyback_ends}
use Rattle.ddf_rebuild_command.proofs.copying.copyback.Goals as goal

pub returns-in-Ok-clause-done : goal.returns-in-Ok-clause-done
returns-in-Ok-clause-done g c =
    record { outcome = Ok c.in-Ok.sequence; has = c.in-Ok.ensures.copied; ends = rw (c.as_bytes.ensures.value, c.deref.ensures.0, c.sequence_line.ensures) at c.tell.ensures.ends }

pub returns-in-Ok-clause-ends : goal.returns-in-Ok-clause-ends
returns-in-Ok-clause-ends g c =
    let done = returns-in-Ok-clause-done g c in
    copyback_ends _ _ _ c.tell.ensures.stream (timestamp_of c.args.stamp.now) c.args.name.now c.args.slot c.copied.ensures.goes_on c.copied.ensures.same_sizes done.outcome _ done.has.gives done.ends

pub returns-in-Err-clause-ends : goal.returns-in-Err-clause-ends
returns-in-Err-clause-ends g c =
    copyback_ends _ _ _ c.tell_failure.ensures.stream (timestamp_of c.args.stamp.now) c.args.name.now c.args.slot c.copied.ensures.goes_on c.copied.ensures.same_sizes
    (Err c.in-Err.failure) _ c.in-Err.ensures.copied.gives c.tell_failure.ensures.told
