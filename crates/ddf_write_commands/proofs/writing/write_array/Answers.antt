use Rattle.std.proofs.Common.{◌∙◌, ◌+◌, ◌*◌, ℕ, List, [], length, take, Err, arith, subst, sym}
use Rattle.std.proofs.lemmas.Result.{err_from_is_err_and}
use Rattle.ddf_config.specs.Seats.{SeatsFit}
use Rattle.ddf_pieces.specs.declared.fault.PieceFault.{PieceFault}
use Rattle.ddf_pieces.specs.Writing.{ArePiecesWritten}
use Rattle.ddf_recovery.specs.Recovery.{config_recovered}
use Rattle.ddf_read_commands.proofs.ArrayUse.{named_is}
use Rattle.ddf_write_commands.specs.Payload.{first_piece, pieces_of}
use Rattle.ddf_write_commands.specs.Write.{write_behind}
use Rattle.ddf_bay.specs.Told.{IsTold}
use Rattle.ddf_write_commands.proofs.PlanWritten.{parity_redundant}
use Rattle.ddf_write_commands.proofs.PlanKept.{apart_there, fits_there, none_trusted}
use Rattle.ddf_write_commands.proofs.WriteBlocks.{blocks_cut_off, blocks_done, blocks_failed, blocks_not_opened, blocks_unclosed, can_close, given_all, given_unclosed}
use Rattle.ddf_write_commands.proofs.WriteCalls.{grew_between, none_grew, stopped_grew}
use Rattle.ddf_write_commands.proofs.writing.write_array.Goals as goal

pub returns-in_err-open_blocks-clause-done : goal.returns-in_err-open_blocks-clause-done
returns-in_err-open_blocks-clause-done g c =
    let pieces = pieces_of c.args.beside.now in
    let first = take (512 * first_piece pieces c.args.count) c.args.room.now in
    let failed = err_from_is_err_and c.from_residual.result c.from_residual.ensures.1 in
    let tells_old : IsTold (g.B.Bay.disks c.args.bay.now) = g.met.B.Bay.told c.args.bay.now in
    let tells_opened : IsTold (g.B.Bay.disks c.open_blocks.new.bay) = g.met.B.Bay.told c.open_blocks.new.bay in
    rw (failed.1, failed.2)
    ([], blocks_not_opened g.B.Bay.tells (g.B.Bay.disks c.args.bay.now) c.args.group.now c.args.plan.now c.args.timestamp c.args.start c.args.count c.args.ready.now c.requires.from c.requires.was c.requires.planned c.requires.floored c.args.beside.now.kept pieces g.S.Source.tells (g.S.Source.input c.args.source.now) first (g.B.Bay.disks c.open_blocks.new.bay) c.in_err-open_blocks.field-0.0 c.open_blocks.ensures.costs c.in_err-open_blocks.ensures.failed c.in_err-open_blocks.ensures.beside c.in_err-open_blocks.ensures.keeps c.open_blocks.ensures.leaves tells_old tells_opened)

pub write_pieces-requires-clause-apart : goal.write_pieces-requires-clause-apart
write_pieces-requires-clause-apart g c =
    let is = c.requires.planned.1 in
    let config = config_recovered c.args.group.now in
    apart_there write_behind config c.args.group.now.seats is.entry c.args.plan.now is.is_for (named_is config.arrays c.requires.planned.0 is.entry is.is_named) c.requires.members c.requires.from.assembled.slots_rise

pub write_pieces-requires-clause-fits : goal.write_pieces-requires-clause-fits
write_pieces-requires-clause-fits g c =
    let is = c.requires.planned.1 in
    let config = config_recovered c.args.group.now in
    fits_there write_behind config c.args.group.now.seats is.entry c.args.plan.now is.is_for (named_is config.arrays c.requires.planned.0 is.entry is.is_named) (g.B.Bay.disks c.open_blocks.new.bay).sizes
    (subst (λ (sizes : List ℕ). SeatsFit sizes c.args.group.now.seats) (sym c.open_blocks.ensures.same_sizes) c.requires.from.seats)

pub write_pieces-requires-clause-marked : goal.write_pieces-requires-clause-marked
write_pieces-requires-clause-marked g c =
    λ keeps.
    let is = c.requires.planned.1 in
    let config = config_recovered c.args.group.now in
    none_trusted write_behind config c.args.group.now.seats is.entry c.args.plan.now is.is_for (named_is config.arrays c.requires.planned.0 is.entry is.is_named)
    (parity_redundant c.args.plan.now.view keeps)

pub close_blocks-requires : goal.close_blocks-requires
close_blocks-requires g c =
    let pieces = pieces_of c.args.beside.now in
    let first = take (512 * first_piece pieces c.args.count) c.args.room.now in
    let opens = c.in_ok-open_blocks.ensures in
    let tells_opened : IsTold (g.B.Bay.disks c.open_blocks.new.bay) = g.met.B.Bay.told c.open_blocks.new.bay in
    let tells_behind : IsTold (g.B.Bay.disks c.write_pieces.new.bay) = g.met.B.Bay.told c.write_pieces.new.bay in
    let back = g.met.B.Bay.told_before c.open_blocks.new.bay c.write_pieces.new.bay (c.write_pieces.ensures.goes.goes_on c.write_pieces.new.bay (g.met.B.Bay.leads c.write_pieces.new.bay)) in
    let came = c.in-Ok.ensures.done in
    can_close g.B.Bay.tells (g.B.Bay.disks c.args.bay.now) c.args.group.now c.args.plan.now c.args.timestamp c.args.start c.args.count c.args.ready.now c.requires.from c.requires.was c.requires.planned c.requires.floored c.args.beside.now.kept pieces g.S.Source.tells (g.S.Source.input c.args.source.now) first (g.B.Bay.disks c.open_blocks.new.bay) c.open_blocks.new.group c.open_blocks.new.ready opens.opened opens.costs opens.left opens.beside opens.leaves opens.goes_on opens.same_sizes opens.reads opens.writes_rise tells_opened (g.B.Bay.disks c.write_pieces.new.bay) tells_behind back c.write_pieces.ensures.goes came.sectors came.are.leave came.is_written

pub returns-in_err-sequence-in-Ok-clause-done : goal.returns-in_err-sequence-in-Ok-clause-done
returns-in_err-sequence-in-Ok-clause-done g c =
    let pieces = pieces_of c.args.beside.now in
    let first = take (512 * first_piece pieces c.args.count) c.args.room.now in
    let opens = c.in_ok-open_blocks.ensures in
    let tells_opened : IsTold (g.B.Bay.disks c.open_blocks.new.bay) = g.met.B.Bay.told c.open_blocks.new.bay in
    let tells_behind : IsTold (g.B.Bay.disks c.write_pieces.new.bay) = g.met.B.Bay.told c.write_pieces.new.bay in
    let back = g.met.B.Bay.told_before c.open_blocks.new.bay c.write_pieces.new.bay (c.write_pieces.ensures.goes.goes_on c.write_pieces.new.bay (g.met.B.Bay.leads c.write_pieces.new.bay)) in
    let tells_new : IsTold (g.B.Bay.disks c.close_blocks.new.bay) = g.met.B.Bay.told c.close_blocks.new.bay in
    let came = c.in-Ok.ensures.done in
    let failed = err_from_is_err_and c.from_residual-in_err-sequence-in-Ok.result c.from_residual-in_err-sequence-in-Ok.ensures.1 in
    rw (failed.1, failed.2)
    (came.sectors, blocks_unclosed g.B.Bay.tells (g.B.Bay.disks c.args.bay.now) c.args.group.now c.args.plan.now c.args.timestamp c.args.start c.args.count c.args.ready.now c.requires.from c.requires.was c.requires.planned c.requires.floored c.args.beside.now.kept pieces g.S.Source.tells (g.S.Source.input c.args.source.now) first (g.B.Bay.disks c.open_blocks.new.bay) c.open_blocks.new.group c.open_blocks.new.ready opens.opened opens.costs opens.left opens.beside opens.leaves opens.goes_on opens.same_sizes opens.reads opens.writes_rise tells_opened (g.B.Bay.disks c.write_pieces.new.bay) tells_behind back c.write_pieces.ensures.goes came.sectors came.are.leave came.is_written (g.B.Bay.disks c.close_blocks.new.bay) tells_new (g.met.B.Bay.told_before c.write_pieces.new.bay c.close_blocks.new.bay (c.close_blocks.ensures.goes_on c.close_blocks.new.bay (g.met.B.Bay.leads c.close_blocks.new.bay))) c.close_blocks.ensures.beside c.close_blocks.ensures.leaves c.close_blocks.ensures.reads c.close_blocks.ensures.costs (g.S.Source.input c.write_pieces.new.source) c.in_err-sequence-in-Ok.field-0.0 c.in_err-sequence-in-Ok.ensures.closed c.in_err-sequence-in-Ok.ensures.commits (given_unclosed g.B.Bay.tells (g.B.Bay.disks c.args.bay.now) c.args.group.now c.args.plan.now c.args.timestamp c.args.start c.args.count c.args.ready.now c.requires.from c.requires.was c.requires.planned c.requires.floored c.args.beside.now.kept pieces g.S.Source.tells (g.S.Source.input c.args.source.now) first (g.B.Bay.disks c.open_blocks.new.bay) c.open_blocks.new.group c.open_blocks.new.ready opens.opened opens.costs opens.left opens.beside opens.leaves opens.goes_on opens.same_sizes opens.reads opens.writes_rise tells_opened (g.B.Bay.disks c.write_pieces.new.bay) tells_behind back c.write_pieces.ensures.goes (g.S.Source.input c.write_pieces.new.source) c.in-Ok.written c.in_err-sequence-in-Ok.field-0.0 came))

pub returns-in_ok-sequence-in-Ok-clause-done : goal.returns-in_ok-sequence-in-Ok-clause-done
returns-in_ok-sequence-in-Ok-clause-done g c =
    let pieces = pieces_of c.args.beside.now in
    let first = take (512 * first_piece pieces c.args.count) c.args.room.now in
    let opens = c.in_ok-open_blocks.ensures in
    let tells_opened : IsTold (g.B.Bay.disks c.open_blocks.new.bay) = g.met.B.Bay.told c.open_blocks.new.bay in
    let tells_behind : IsTold (g.B.Bay.disks c.write_pieces.new.bay) = g.met.B.Bay.told c.write_pieces.new.bay in
    let back = g.met.B.Bay.told_before c.open_blocks.new.bay c.write_pieces.new.bay (c.write_pieces.ensures.goes.goes_on c.write_pieces.new.bay (g.met.B.Bay.leads c.write_pieces.new.bay)) in
    let tells_new : IsTold (g.B.Bay.disks c.close_blocks.new.bay) = g.met.B.Bay.told c.close_blocks.new.bay in
    let came = c.in-Ok.ensures.done in
    (came.sectors, blocks_done g.B.Bay.tells (g.B.Bay.disks c.args.bay.now) c.args.group.now c.args.plan.now c.args.timestamp c.args.start c.args.count c.args.ready.now c.requires.from c.requires.was c.requires.planned c.requires.floored c.args.beside.now.kept pieces g.S.Source.tells (g.S.Source.input c.args.source.now) first (g.B.Bay.disks c.open_blocks.new.bay) c.open_blocks.new.group c.open_blocks.new.ready opens.opened opens.costs opens.left opens.beside opens.leaves opens.goes_on opens.same_sizes opens.reads opens.writes_rise tells_opened (g.B.Bay.disks c.write_pieces.new.bay) tells_behind back c.write_pieces.ensures.goes came.sectors came.are.leave came.is_written (g.B.Bay.disks c.close_blocks.new.bay) tells_new (g.met.B.Bay.told_before c.write_pieces.new.bay c.close_blocks.new.bay (c.close_blocks.ensures.goes_on c.close_blocks.new.bay (g.met.B.Bay.leads c.close_blocks.new.bay))) c.close_blocks.ensures.beside c.close_blocks.ensures.leaves c.close_blocks.ensures.reads c.close_blocks.ensures.costs (g.S.Source.input c.write_pieces.new.source) (record { blocks = c.in-Ok.written; sequence = c.in_ok-sequence-in-Ok.sequence }) c.in_ok-sequence-in-Ok.ensures.closed c.in_ok-sequence-in-Ok.ensures.commits (given_all g.B.Bay.tells (g.B.Bay.disks c.args.bay.now) c.args.group.now c.args.plan.now c.args.timestamp c.args.start c.args.count c.args.ready.now c.requires.from c.requires.was c.requires.planned c.requires.floored c.args.beside.now.kept pieces g.S.Source.tells (g.S.Source.input c.args.source.now) first (g.B.Bay.disks c.open_blocks.new.bay) c.open_blocks.new.group c.open_blocks.new.ready opens.opened opens.costs opens.left opens.beside opens.leaves opens.goes_on opens.same_sizes opens.reads opens.writes_rise tells_opened (g.B.Bay.disks c.write_pieces.new.bay) tells_behind back c.write_pieces.ensures.goes (g.S.Source.input c.write_pieces.new.source) c.in-Ok.written c.in_ok-sequence-in-Ok.sequence came))

pub returns-in-Err-Volume-clause-done : goal.returns-in-Err-Volume-clause-done
returns-in-Err-Volume-clause-done g c =
    let pieces = pieces_of c.args.beside.now in
    let first = take (512 * first_piece pieces c.args.count) c.args.room.now in
    let opens = c.in_ok-open_blocks.ensures in
    let tells_opened : IsTold (g.B.Bay.disks c.open_blocks.new.bay) = g.met.B.Bay.told c.open_blocks.new.bay in
    let tells_behind : IsTold (g.B.Bay.disks c.write_pieces.new.bay) = g.met.B.Bay.told c.write_pieces.new.bay in
    let back = g.met.B.Bay.told_before c.open_blocks.new.bay c.write_pieces.new.bay (c.write_pieces.ensures.goes.goes_on c.write_pieces.new.bay (g.met.B.Bay.leads c.write_pieces.new.bay)) in
    let came = subst (λ (fault : PieceFault). ArePiecesWritten g.B.Bay.tells (g.B.Bay.disks c.open_blocks.new.bay) (g.B.Bay.disks c.write_pieces.new.bay) c.args.plan.now.view c.args.start c.args.count c.args.beside.now.each c.args.beside.now.ahead c.args.beside.now.kept g.S.Source.tells (g.S.Source.input c.args.source.now) (g.S.Source.input c.write_pieces.new.source) first (Err fault)) c.in-Err-Volume.field-0-is
    c.in-Err-Volume.ensures.done in
    rw c.failure_of.ensures (blocks_failed g.B.Bay.tells (g.B.Bay.disks c.args.bay.now) c.args.group.now c.args.plan.now c.args.timestamp c.args.start c.args.count c.args.ready.now c.requires.from c.requires.was c.requires.planned c.requires.floored c.args.beside.now.kept pieces g.S.Source.tells (g.S.Source.input c.args.source.now) first (g.B.Bay.disks c.open_blocks.new.bay) c.open_blocks.new.group c.open_blocks.new.ready opens.opened opens.costs opens.left opens.beside opens.leaves opens.goes_on opens.same_sizes opens.reads opens.writes_rise tells_opened (g.B.Bay.disks c.write_pieces.new.bay) tells_behind back c.write_pieces.ensures.goes (g.S.Source.input c.write_pieces.new.source) c.in-Err-Volume.fault came)

pub returns-in-Err-Source-clause-done : goal.returns-in-Err-Source-clause-done
returns-in-Err-Source-clause-done g c =
    let pieces = pieces_of c.args.beside.now in
    let first = take (512 * first_piece pieces c.args.count) c.args.room.now in
    let opens = c.in_ok-open_blocks.ensures in
    let tells_opened : IsTold (g.B.Bay.disks c.open_blocks.new.bay) = g.met.B.Bay.told c.open_blocks.new.bay in
    let tells_behind : IsTold (g.B.Bay.disks c.write_pieces.new.bay) = g.met.B.Bay.told c.write_pieces.new.bay in
    let back = g.met.B.Bay.told_before c.open_blocks.new.bay c.write_pieces.new.bay (c.write_pieces.ensures.goes.goes_on c.write_pieces.new.bay (g.met.B.Bay.leads c.write_pieces.new.bay)) in
    let came = subst (λ (fault : PieceFault). ArePiecesWritten g.B.Bay.tells (g.B.Bay.disks c.open_blocks.new.bay) (g.B.Bay.disks c.write_pieces.new.bay) c.args.plan.now.view c.args.start c.args.count c.args.beside.now.each c.args.beside.now.ahead c.args.beside.now.kept g.S.Source.tells (g.S.Source.input c.args.source.now) (g.S.Source.input c.write_pieces.new.source) first (Err fault)) c.in-Err-Source.field-0-is
    c.in-Err-Source.ensures.done in
    blocks_cut_off g.B.Bay.tells (g.B.Bay.disks c.args.bay.now) c.args.group.now c.args.plan.now c.args.timestamp c.args.start c.args.count c.args.ready.now c.requires.from c.requires.was c.requires.planned c.requires.floored c.args.beside.now.kept pieces g.S.Source.tells (g.S.Source.input c.args.source.now) first (g.B.Bay.disks c.open_blocks.new.bay) c.open_blocks.new.group c.open_blocks.new.ready opens.opened opens.costs opens.left opens.beside opens.leaves opens.goes_on opens.same_sizes opens.reads opens.writes_rise tells_opened (g.B.Bay.disks c.write_pieces.new.bay) tells_behind back c.write_pieces.ensures.goes (g.S.Source.input c.write_pieces.new.source) came

pub returns-in_ok-sequence-in-Ok-clause-unfailed : goal.returns-in_ok-sequence-in-Ok-clause-unfailed
returns-in_ok-sequence-in-Ok-clause-unfailed g c = c.in_ok-sequence-in-Ok.ensures.unfailed ∙ c.in-Ok.ensures.done.is_written.unfailed ∙ c.in_ok-open_blocks.ensures.unfailed

pub write_pieces-requires-clause-room : goal.write_pieces-requires-clause-room
write_pieces-requires-clause-room g c = omega (arith, c.requires.room)

pub returns-in_err-sequence-in-Ok-clause-reads : goal.returns-in_err-sequence-in-Ok-clause-reads
returns-in_err-sequence-in-Ok-clause-reads g c = c.close_blocks.ensures.reads ∙ c.write_pieces.ensures.reads ∙ c.in_ok-open_blocks.ensures.reads

pub returns-in_ok-sequence-in-Ok-clause-reads : goal.returns-in_ok-sequence-in-Ok-clause-reads
returns-in_ok-sequence-in-Ok-clause-reads g c = c.close_blocks.ensures.reads ∙ c.write_pieces.ensures.reads ∙ c.in_ok-open_blocks.ensures.reads

pub returns-in_err-open_blocks-clause-calls : goal.returns-in_err-open_blocks-clause-calls
returns-in_err-open_blocks-clause-calls g c = λ none.
    let old = g.B.Bay.disks c.args.bay.now in
    let opens = c.open_blocks.ensures.calls in
    none_grew c.args.plan.now.view c.args.start c.args.count c.args.beside.now.each c.requires.lies.some (old.calls + 77 * length old.sizes) (g.B.Bay.disks c.open_blocks.new.bay).calls (omega (arith, opens))

pub returns-in_err-sequence-in-Ok-clause-calls : goal.returns-in_err-sequence-in-Ok-clause-calls
returns-in_err-sequence-in-Ok-clause-calls g c = λ none.
    let old = g.B.Bay.disks c.args.bay.now in
    let opened = g.B.Bay.disks c.open_blocks.new.bay in
    let behind = g.B.Bay.disks c.write_pieces.new.bay in
    let grew = c.in-Ok.ensures.done.are.calls none in
    grew_between c.args.plan.now.view c.args.start c.args.count c.args.beside.now.each c.requires.lies.some old opened behind (g.B.Bay.disks c.close_blocks.new.bay) c.open_blocks.ensures.same_sizes c.write_pieces.ensures.goes.same_sizes
    c.open_blocks.ensures.calls c.close_blocks.ensures.calls grew

pub returns-in_ok-sequence-in-Ok-clause-calls : goal.returns-in_ok-sequence-in-Ok-clause-calls
returns-in_ok-sequence-in-Ok-clause-calls g c = λ none.
    let old = g.B.Bay.disks c.args.bay.now in
    let opened = g.B.Bay.disks c.open_blocks.new.bay in
    let behind = g.B.Bay.disks c.write_pieces.new.bay in
    let grew = c.in-Ok.ensures.done.are.calls none in
    grew_between c.args.plan.now.view c.args.start c.args.count c.args.beside.now.each c.requires.lies.some old opened behind (g.B.Bay.disks c.close_blocks.new.bay) c.open_blocks.ensures.same_sizes c.write_pieces.ensures.goes.same_sizes
    c.open_blocks.ensures.calls c.close_blocks.ensures.calls grew

pub returns-in-Err-Volume-clause-calls : goal.returns-in-Err-Volume-clause-calls
returns-in-Err-Volume-clause-calls g c = λ none.
    let old = g.B.Bay.disks c.args.bay.now in
    let opened = g.B.Bay.disks c.open_blocks.new.bay in
    let behind = g.B.Bay.disks c.write_pieces.new.bay in
    let first = take (512 * first_piece (pieces_of c.args.beside.now) c.args.count) c.args.room.now in
    let came = subst (λ (fault : PieceFault). ArePiecesWritten g.B.Bay.tells (g.B.Bay.disks c.open_blocks.new.bay) (g.B.Bay.disks c.write_pieces.new.bay) c.args.plan.now.view c.args.start c.args.count c.args.beside.now.each c.args.beside.now.ahead c.args.beside.now.kept g.S.Source.tells (g.S.Source.input c.args.source.now) (g.S.Source.input c.write_pieces.new.source) first (Err fault)) c.in-Err-Volume.field-0-is c.in-Err-Volume.ensures.done in
    let grew = stopped_grew c.args.plan.now.view c.args.start c.args.count c.args.beside.now.each c.requires.lies.some g.B.Bay.tells opened behind c.args.beside.now.ahead c.args.beside.now.kept g.S.Source.tells
    (g.S.Source.input c.args.source.now) (g.S.Source.input c.write_pieces.new.source) first c.in-Err-Volume.fault came none in
    grew_between c.args.plan.now.view c.args.start c.args.count c.args.beside.now.each c.requires.lies.some old opened behind behind c.open_blocks.ensures.same_sizes c.write_pieces.ensures.goes.same_sizes
    c.open_blocks.ensures.calls (omega arith) grew

pub returns-in-Err-Source-clause-calls : goal.returns-in-Err-Source-clause-calls
returns-in-Err-Source-clause-calls g c = λ none.
    let old = g.B.Bay.disks c.args.bay.now in
    let opened = g.B.Bay.disks c.open_blocks.new.bay in
    let behind = g.B.Bay.disks c.write_pieces.new.bay in
    let first = take (512 * first_piece (pieces_of c.args.beside.now) c.args.count) c.args.room.now in
    let came = subst (λ (fault : PieceFault). ArePiecesWritten g.B.Bay.tells (g.B.Bay.disks c.open_blocks.new.bay) (g.B.Bay.disks c.write_pieces.new.bay) c.args.plan.now.view c.args.start c.args.count c.args.beside.now.each c.args.beside.now.ahead c.args.beside.now.kept g.S.Source.tells (g.S.Source.input c.args.source.now) (g.S.Source.input c.write_pieces.new.source) first (Err fault)) c.in-Err-Source.field-0-is c.in-Err-Source.ensures.done in
    let grew = came.are.calls none in
    grew_between c.args.plan.now.view c.args.start c.args.count c.args.beside.now.each c.requires.lies.some old opened behind behind c.open_blocks.ensures.same_sizes c.write_pieces.ensures.goes.same_sizes
    c.open_blocks.ensures.calls (omega arith) grew
