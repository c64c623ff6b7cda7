use Rattle.std.proofs.Common.{ℕ, List, Err, subst, sym}
use Rattle.ddf_bay.proofs.Looks.{reads_then}
use Rattle.ddf_config.specs.Seats.{SeatsFit}
use Rattle.ddf_assembly.specs.Group.{group_of}
use Rattle.ddf_recovery.specs.Recovery.{trusted_seats}
use Rattle.ddf_answer.specs.Call.{work_of}
use Rattle.ddf_answer.specs.declared.failure.Failure.{Failure}
use Rattle.ddf_read_commands.specs.Scrub.{HasScrubbed}
use Rattle.ddf_read_commands.proofs.ReadBlocks.{look_later}
use Rattle.ddf_read_commands.proofs.Scrubbed.{no_group_in, not_scrubbed_told, scrub_behind, scrub_in}
use Rattle.ddf_read_commands.proofs.scrubbing.scrubbed.Goals as goal

pub scrub_array-requires : goal.scrub_array-requires
scrub_array-requires g c = subst (λ (sizes : List ℕ). SeatsFit sizes c.in-Ok.group.seats) (sym c.assemble.ensures.reads.same_sizes) c.in-Ok.ensures.seats

pub returns-in-Ok-clause-scrubbed : goal.returns-in-Ok-clause-scrubbed
returns-in-Ok-clause-scrubbed g c =
    let old = g.B.Bay.disks c.args.bay.now in
    let middle = g.B.Bay.disks c.assemble.new.bay in
    let new = g.B.Bay.disks c.scrub_array.new.bay in
    let assembled = c.in-Ok.ensures.assembled in
    let of_group = scrub_behind g.B.Bay.tells old middle new c.assemble.ensures.never_falls c.assemble.ensures.reads.same_held c.assemble.ensures.reads.same_sizes
    c.in-Ok.group.config (trusted_seats c.in-Ok.group) c.args.name.now c.scrub_array.result c.scrub_array.ensures.scrubbed in
    record {
      left = assembled.looked.left;
      every_slot = assembled.looked.every_slot;
      failed = λ slot below is. look_later old middle new slot c.assemble.ensures.never_falls c.scrub_array.ensures.reads (assembled.looked.are_failed.rose slot below is);
      newest = assembled.newest;
      read = assembled.read;
      gone = λ given. assembled.gone (λ spent. absurd cc);
      gives = scrub_in (work_of g.B.Bay.tells old new) c.args.name.now c.in-Ok.group (group_of assembled.newest c.args.named) c.scrub_array.result assembled.answer of_group;
    }

pub returns-in-Ok-clause-reads : goal.returns-in-Ok-clause-reads
returns-in-Ok-clause-reads g c = reads_then c.assemble.ensures.reads c.scrub_array.ensures.reads.reads

pub returns-in-Err-clause-scrubbed : goal.returns-in-Err-clause-scrubbed
returns-in-Err-clause-scrubbed g c =
    let old = g.B.Bay.disks c.args.bay.now in
    let new = g.B.Bay.disks c.assemble.new.bay in
    let assembled = c.in-Err.ensures.assembled in
    subst (λ (failure : Failure). HasScrubbed (work_of g.B.Bay.tells old new) c.args.named c.args.name.now (Err failure)) (sym c.from.ensures)
    (record {
      left = assembled.looked.left;
      every_slot = assembled.looked.every_slot;
      failed = assembled.looked.are_failed.rose;
      newest = assembled.newest;
      read = assembled.read;
      gone = λ given. assembled.gone (λ spent. given (not_scrubbed_told c.in-Err.fault spent));
      gives = no_group_in (work_of g.B.Bay.tells old new) c.args.name.now c.in-Err.fault (group_of assembled.newest c.args.named) assembled.answer;
    })
