use Rattle.std.proofs.Common.{ℕ, List, length, subst, sym}
use Rattle.ddf_bay.proofs.Looks.{reads_then}
use Rattle.ddf_config.specs.Seats.{SeatsFit}
use Rattle.ddf_assembly.specs.Group.{group_of}
use Rattle.ddf_recovery.specs.Recovery.{trusted_seats}
use Rattle.ddf_answer.specs.Answers.{failure_of}
use Rattle.ddf_answer.specs.Call.{work_of}
use Rattle.ddf_read_commands.specs.Read.{NotRead, most_looks}
use Rattle.ddf_read_commands.proofs.ReadEnds.{read_ends}
use Rattle.ddf_read_commands.proofs.LeftOut.{has_no_place}
use Rattle.ddf_read_commands.proofs.ReadBlocks.{fault_in, look_later, not_read_told, read_behind, read_in}
use Rattle.ddf_read_commands.proofs.ReadCalls.{array_behind, calls_in, none_in, unread_behind}
use Rattle.ddf_read_commands.proofs.reading.read.Goals as goal

pub print_array-requires : goal.print_array-requires
print_array-requires g c = subst (λ (sizes : List ℕ). SeatsFit sizes c.in-Ok.group.seats) (sym c.assemble.ensures.reads.same_sizes) c.in-Ok.ensures.seats

pub returns-in-Ok-clause-done : goal.returns-in-Ok-clause-done
returns-in-Ok-clause-done g c =
    let old = g.B.Bay.disks c.args.bay.now in
    let middle = g.B.Bay.disks c.assemble.new.bay in
    let new = g.B.Bay.disks c.print_array.new.bay in
    let assembled = c.in-Ok.ensures.assembled in
    let done = c.print_array.ensures.done in
    let of_group = read_behind g.B.Bay.tells old middle new c.assemble.ensures.never_falls c.assemble.ensures.reads.same_held c.assemble.ensures.reads.same_sizes
    c.in-Ok.group.config (trusted_seats c.in-Ok.group) c.args.name.now c.args.start c.args.count done.outcome done.has.0 in
    let most = most_looks (length old.sizes) in
    record {
      outcome = done.outcome;
      has = record {
        left = assembled.looked.left;
        every_slot = assembled.looked.every_slot;
        failed = λ slot below is. look_later old middle new slot c.assemble.ensures.never_falls c.print_array.ensures.reads (assembled.looked.are_failed.rose slot below is);
        newest = assembled.newest;
        read = assembled.read;
        no_place = λ tells slot out. has_no_place old assembled.looked.left assembled.newest c.args.named slot (assembled.read tells) out;
        gone = λ given. assembled.gone (λ spent. absurd cc);
        gives = read_in (work_of g.B.Bay.tells old new) c.args.name.now c.args.start c.args.count c.in-Ok.group (group_of assembled.newest c.args.named) done.outcome assembled.answer of_group;
        looks = unread_behind g.B.Bay.tells old middle new c.assemble.ensures.never_falls most c.assemble.ensures.calls done.outcome done.has.1;
        calls = calls_in (work_of g.B.Bay.tells old new) c.args.name.now c.args.start c.args.count c.in-Ok.group (group_of assembled.newest c.args.named) assembled.answer
            (array_behind g.B.Bay.tells old middle new c.assemble.ensures.never_falls most c.assemble.ensures.calls c.in-Ok.group.config (trusted_seats c.in-Ok.group) c.args.name.now c.args.start c.args.count
            c.print_array.ensures.calls);
      };
      ends = done.ends;
    }

pub returns-in-Err-clause-done : goal.returns-in-Err-clause-done
returns-in-Err-clause-done g c =
    let old = g.B.Bay.disks c.args.bay.now in
    let new = g.B.Bay.disks c.assemble.new.bay in
    let assembled = c.in-Err.ensures.assembled in
    record {
      outcome = NotRead (failure_of c.in-Err.fault);
      has = record {
        left = assembled.looked.left;
        every_slot = assembled.looked.every_slot;
        failed = assembled.looked.are_failed.rose;
        newest = assembled.newest;
        read = assembled.read;
        no_place = λ tells slot out. has_no_place old assembled.looked.left assembled.newest c.args.named slot (assembled.read tells) out;
        gone = λ given. assembled.gone (λ spent. given (not_read_told c.in-Err.fault spent));
        gives = fault_in (work_of g.B.Bay.tells old new) c.args.name.now c.args.start c.args.count c.in-Err.fault (group_of assembled.newest c.args.named) assembled.answer;
        looks = λ unread. c.assemble.ensures.calls;
        calls = none_in (work_of g.B.Bay.tells old new) c.args.name.now c.args.start c.args.count (group_of assembled.newest c.args.named) c.assemble.ensures.calls;
      };
      ends = rw c.from.ensures at c.tell_failure.ensures.told;
    }

pub returns-in-Ok-clause-ends : goal.returns-in-Ok-clause-ends
returns-in-Ok-clause-ends g c =
    read_ends _ _ _ _ _ _ c.print_array.ensures.stream (reads_then c.assemble.ensures.reads c.print_array.ensures.reads.reads) (returns-in-Ok-clause-done g c)

pub returns-in-Err-clause-ends : goal.returns-in-Err-clause-ends
returns-in-Err-clause-ends g c = read_ends _ _ _ _ _ _ c.tell_failure.ensures.stream c.assemble.ensures.reads (returns-in-Err-clause-done g c)
