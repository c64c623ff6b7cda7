use Rattle.std.proofs.Common.{arith}
use Rattle.ddf_array.proofs.Fits.{view_fits}
use Rattle.ddf_recovery.specs.Recovery.{trusted_seats}
use Rattle.ddf_recovery.proofs.Trusted.{trusted_fit}
use Rattle.ddf_answer.specs.Call.{work_of}
use Rattle.ddf_read_commands.specs.Read.{NotRead}
use Rattle.ddf_read_commands.proofs.ReadBlocks.{not_read, read_of}
use Rattle.ddf_read_commands.proofs.ReadCalls.{none_of_array, of_view, unread_by}
use Rattle.ddf_read_commands.proofs.reading.print_array.Goals as goal

pub print_blocks-requires-clause-fits : goal.print_blocks-requires-clause-fits
print_blocks-requires-clause-fits g c =
    let ready = c.in-Ok.ensures.may in
    let sizes = (g.B.Bay.disks c.args.bay.now).sizes in
    view_fits c.args.group.now.config ready.entry.0 (trusted_seats c.args.group.now) c.in-Ok.view sizes ready.is_view (trusted_fit sizes c.args.group.now c.requires)

pub returns-in-Ok-clause-done : goal.returns-in-Ok-clause-done
returns-in-Ok-clause-done g c =
    let done = c.print_blocks.ensures.done in
    let work = work_of g.B.Bay.tells (g.B.Bay.disks c.args.bay.now) (g.B.Bay.disks c.print_blocks.new.bay) in
    record {
      outcome = done.outcome;
      has = (
        read_of work c.args.group.now.config (trusted_seats c.args.group.now) c.args.name.now c.args.start c.args.count c.in-Ok.view c.in-Ok.ensures.may done.outcome done.has,
        unread_by work c.in-Ok.view c.args.start c.args.count done.outcome done.has _ done.ends c.print_blocks.ensures.unread,
      );
      ends = done.ends;
    }

pub returns-in-Err-clause-done : goal.returns-in-Err-clause-done
returns-in-Err-clause-done g c =
    let disks = g.B.Bay.disks c.args.bay.now in
    record {
      outcome = NotRead c.in-Err.failure;
      has = (
        not_read (work_of g.B.Bay.tells disks disks) c.args.group.now.config (trusted_seats c.args.group.now) c.args.name.now c.args.start c.args.count c.in-Err.failure c.in-Err.ensures.may,
        λ unread. omega arith,
      );
      ends = c.tell_failure.ensures.told;
    }

pub returns-in-Ok-clause-calls : goal.returns-in-Ok-clause-calls
returns-in-Ok-clause-calls g c =
    of_view (g.B.Bay.disks c.args.bay.now) (g.B.Bay.disks c.print_blocks.new.bay) c.args.group.now.config (trusted_seats c.args.group.now) c.args.name.now c.args.start c.args.count c.in-Ok.view
    c.in-Ok.ensures.may c.print_blocks.ensures.calls

pub returns-in-Err-clause-calls : goal.returns-in-Err-clause-calls
returns-in-Err-clause-calls g c =
    let disks = g.B.Bay.disks c.args.bay.now in
    none_of_array disks disks 0 (omega arith) c.args.group.now.config (trusted_seats c.args.group.now) c.args.name.now c.args.start c.args.count
