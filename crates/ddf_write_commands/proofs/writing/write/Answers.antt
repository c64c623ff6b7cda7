use Rattle.std.proofs.Common.{◌≡◌, Result, Err, inl, subst}
use Rattle.ddf_bytes.specs.Stamps.{timestamp_of}
use Rattle.ddf_write_commands.specs.declared.writing.Done.{Done}
use Rattle.ddf_write_commands.specs.declared.writing.WriteFault.{WriteFault}
use Rattle.ddf_write_commands.specs.declared.writing.WriteFault.TheVariants as faults
use Rattle.ddf_write_commands.specs.Write.{answered}
use Rattle.ddf_write_commands.proofs.WriteCame.{told_done, told_failed, write_ends}
use Rattle.ddf_write_commands.proofs.writing.write.Goals as goal

pub returns-in-Ok-clause-done : goal.returns-in-Ok-clause-done
returns-in-Ok-clause-done g c =
    let as_told = c.in-Ok.ensures.written in
    record {
      outcome = as_told.outcome;
      has = as_told.has;
      ends = told_done c.args.count _ as_told.outcome c.in-Ok.done as_told.is_answered c.tell_done.ensures.told;
    }

pub returns-in-Ok-clause-ends : goal.returns-in-Ok-clause-ends
returns-in-Ok-clause-ends g c =
    let done = returns-in-Ok-clause-done g c in
    write_ends _ _ _ (timestamp_of c.args.stamp.now) c.args.name.now c.args.start c.args.count done.has.pieces (λ six. inl (c.tell_done.ensures.stream six)) c.written.ensures.goes_on c.written.ensures.same_sizes done.outcome _ done.has.gives done.ends

pub returns-in-Err-Failure-clause-done : goal.returns-in-Err-Failure-clause-done
returns-in-Err-Failure-clause-done g c =
    let as_told = c.in-Err-Failure.ensures.written in
    let is : ◌≡◌ {A = Result Done WriteFault} (Err (faults.Failure c.in-Err-Failure.failure)) (answered as_told.outcome) =
    subst (λ (one : WriteFault). ◌≡◌ {A = Result Done WriteFault} (Err one) (answered as_told.outcome)) c.in-Err-Failure.field-0-is as_told.is_answered in
    record { outcome = as_told.outcome; has = as_told.has; ends = told_failed c.args.count _ as_told.outcome c.in-Err-Failure.failure is c.tell_failure.ensures.told }

pub returns-in-Err-Failure-clause-ends : goal.returns-in-Err-Failure-clause-ends
returns-in-Err-Failure-clause-ends g c =
    let done = returns-in-Err-Failure-clause-done g c in
    write_ends _ _ _ (timestamp_of c.args.stamp.now) c.args.name.now c.args.start c.args.count done.has.pieces (λ six. inl (c.tell_failure.ensures.stream six)) c.written.ensures.goes_on c.written.ensures.same_sizes done.outcome _ done.has.gives done.ends
