use Rattle.std.proofs.Common.{◌≡◌, ⊎_elim, ◌<◌, ◌≤◌, arith, ap, subst, sym}
use Rattle.std.proofs.lemmas.Bool.{cases_lt}
use Rattle.ddf_bytes.specs.Streams.{SinkState}
use Rattle.ddf_answer.specs.Call.{answer_of, work_of}
use Rattle.ddf_answer.specs.Status.{code_of}
use Rattle.ddf_answer.specs.declared.status.Status.{Status}
use Rattle.ddf_read_commands.specs.Read.{CameTo, IsArrayRead}
use Rattle.ddf_read_commands.proofs.Printing.{come_cut, come_none, come_stopped, come_whole}
use Rattle.ddf_read_commands.proofs.pieces.print_pieces.Goals as goal

pub returns-in-Ok-clause-done : goal.returns-in-Ok-clause-done
returns-in-Ok-clause-done g c =
    come_whole g.B.Bay.tells c.args.view.now c.args.start c.args.count g.K.Sink.tells (g.B.Bay.disks c.args.bay.now) (g.B.Bay.disks c.read_pieces_counted.new.bay) (g.K.Sink.output c.args.sink.now)
    (g.K.Sink.output c.read_pieces_counted.new.sink) c.read_pieces_counted.new.done (rw c.requires.room at c.in-Ok.ensures.done)

pub returns-in-Err-Volume-Disk-clause-done : goal.returns-in-Err-Volume-Disk-clause-done
returns-in-Err-Volume-Disk-clause-done g c =
    let old = g.B.Bay.disks c.args.bay.now in
    let new = g.B.Bay.disks c.read_pieces_counted.new.bay in
    let before = g.K.Sink.output c.args.sink.now in
    let after = g.K.Sink.output c.read_pieces_counted.new.sink in
    let printed = c.read_pieces_counted.new.done in
    let stopped = rw c.requires.room at (rw (c.in-Err-Volume-Disk.field-0-is, c.in-Err-Volume-Disk.field-0-0-is) at c.in-Err-Volume-Disk.ensures.done) in
    ⊎_elim
    (λ (some : 0 < printed).
    let behind = c.tell_fault.ensures.behind some in
    let same : g.K.Sink.output c.tell_fault.new.sink ≡ after = ap g.K.Sink.output behind.1 in
    subst (λ (sink : SinkState). CameTo (IsArrayRead (work_of g.B.Bay.tells old new) c.args.view.now c.args.start c.args.count) (answer_of g.K.Sink.tells before sink (code_of c.tell_fault.result))) (sym same)
    (subst (λ (status : Status). CameTo (IsArrayRead (work_of g.B.Bay.tells old new) c.args.view.now c.args.start c.args.count) (answer_of g.K.Sink.tells before after (code_of status))) (sym behind.0)
    (come_stopped g.B.Bay.tells c.args.view.now c.args.start c.args.count g.K.Sink.tells old new before after printed c.requires.fits c.in-Err-Volume-Disk.slot stopped some)))
    (λ (none : printed ≤ 0).
    let first : printed ≡ 0 = omega arith in
    come_none g.B.Bay.tells c.args.view.now c.args.start c.args.count g.K.Sink.tells old new before after printed c.requires.fits c.in-Err-Volume-Disk.slot stopped first (g.K.Sink.output c.tell_fault.new.sink)
    (code_of c.tell_fault.result) (c.tell_fault.ensures.first first))
    (cases_lt 0 printed)

pub returns-in-Err-Sink-clause-done : goal.returns-in-Err-Sink-clause-done
returns-in-Err-Sink-clause-done g c =
    come_cut g.B.Bay.tells c.args.view.now c.args.start c.args.count g.K.Sink.tells (g.B.Bay.disks c.args.bay.now) (g.B.Bay.disks c.read_pieces_counted.new.bay) (g.K.Sink.output c.args.sink.now)
    (g.K.Sink.output c.read_pieces_counted.new.sink) c.read_pieces_counted.new.done c.in-Err-Sink.field-0-0 (rw c.requires.room at (rw c.in-Err-Sink.field-0-is at c.in-Err-Sink.ensures.done))
