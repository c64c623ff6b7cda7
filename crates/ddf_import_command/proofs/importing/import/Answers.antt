use Rattle.std.proofs.Common.{Ok, refl}
use Rattle.ddf_import_command.proofs.Ending.{failed_ends}
use Rattle.ddf_import_command.proofs.importing.import.Goals as goal

pub returns-in-Ok-clause-done : goal.returns-in-Ok-clause-done
returns-in-Ok-clause-done g c =
    record { outcome = Ok c.in-Ok.sequence; has = rw c.timestamp.ensures at c.in-Ok.ensures.imported; ends = rw (c.as_bytes.ensures.value, c.deref.ensures.0, c.sequence_line.ensures) at c.tell.ensures.ends }

pub returns-in-Err-clause-ends : goal.returns-in-Err-clause-ends
returns-in-Err-clause-ends g c =
    failed_ends _ refl refl refl _ _ c.tell_failure.ensures.stream c.imported.ensures.goes_on c.imported.ensures.same_sizes _ _ _ _ c.in-Err.ensures.imported c.tell_failure.ensures.told
