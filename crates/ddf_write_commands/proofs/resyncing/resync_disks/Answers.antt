use Rattle.std.proofs.Common.{Ok, Err, refl}
use Rattle.ddf_bytes.specs.Stamps.{timestamp_of}
use Rattle.ddf_words.specs.declared.command.Command.TheVariants.{Resync}
use Rattle.ddf_words.specs.Traits.{traits_of}
use Rattle.ddf_write_commands.specs.Resync.{resync_request, resyncing}
use Rattle.ddf_write_commands.proofs.Ended.{work_ends}
use Rattle.ddf_write_commands.proofs.ResyncWorks.{resync_steady}
use Rattle.ddf_write_commands.proofs.resyncing.resync_disks.Goals as goal

pub returns-in-Ok-clause-done : goal.returns-in-Ok-clause-done
returns-in-Ok-clause-done g c =
    record { outcome = Ok c.in-Ok.sequence; has = c.in-Ok.ensures.resynced; ends = rw (c.as_bytes.ensures.value, c.deref.ensures.0, c.sequence_line.ensures) at c.tell.ensures.ends }

pub returns-in-Ok-clause-ends : goal.returns-in-Ok-clause-ends
returns-in-Ok-clause-ends g c =
    let done = returns-in-Ok-clause-done g c in
    work_ends (traits_of (Resync c.args.name.now)) refl refl refl resyncing resync_steady _ _ _ c.tell.ensures.stream (timestamp_of c.args.stamp.now) c.args.name.now (resync_request c.args.name.now) c.resynced.ensures.goes_on c.resynced.ensures.same_sizes
    done.outcome _ done.has.gives done.ends

pub returns-in-Err-clause-ends : goal.returns-in-Err-clause-ends
returns-in-Err-clause-ends g c =
    work_ends (traits_of (Resync c.args.name.now)) refl refl refl resyncing resync_steady _ _ _ c.tell_failure.ensures.stream (timestamp_of c.args.stamp.now) c.args.name.now (resync_request c.args.name.now) c.resynced.ensures.goes_on c.resynced.ensures.same_sizes
    (Err c.in-Err.failure) _ c.in-Err.ensures.resynced.gives c.tell_failure.ensures.told
