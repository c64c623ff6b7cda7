use Rattle.std.proofs.Common.{◌∙◌, Err, ap}
use Rattle.ddf_words.specs.Words.{words_of}
use Rattle.ddf_words.specs.Lines.{numbered, parts_of}
use Rattle.ddf_batch.specs.Batch.{point}
use Rattle.ddf_batch.proofs.LineRuns.{command_run, one_command, words_refused, words_unread}
use Rattle.ddf_batch.proofs.line.run_text.Goals as goal

pub returns-in-Err : goal.returns-in-Err
returns-in-Err g c =
    let words = numbered (words_of c.args.images.now) (parts_of c.args.line.now) in
    rw c.code.ensures (words_unread g.B.Bay.tells g.B.Bay.disks g.K.Sink.tells c.args.stamp.now c.args.group.now words c.args.bay.now (g.K.Sink.output c.args.sink.now))

pub run_line-requires-clause-line : goal.run_line-requires-clause-line
run_line-requires-clause-line g c =
    let words = numbered (words_of c.args.images.now) (parts_of c.args.line.now) in
    (c.in-Ok-line_command.ensures.found words (ap words_of c.as_slice.ensures.value ∙ c.in-Ok.ensures)).is_for_lines

pub returns-in-Ok-line_command : goal.returns-in-Ok-line_command
returns-in-Ok-line_command g c =
    let words = numbered (words_of c.args.images.now) (parts_of c.args.line.now) in
    let seen = ap words_of c.as_slice.ensures.value ∙ c.in-Ok.ensures in
    command_run g.B.Bay.tells g.B.Bay.disks g.K.Sink.tells c.args.stamp.now c.args.group.now words (point c.args.bay.now (g.K.Sink.output c.args.sink.now))
    (point c.run_line.new.bay (g.K.Sink.output c.run_line.new.sink)) c.run_line.result c.in-Ok-line_command.command (c.in-Ok-line_command.ensures.found words seen)
    (λ other asks. one_command c.line_command.result c.in-Ok-line_command.command other c.in-Ok-line_command.is (c.line_command.ensures.every words seen other asks))
    c.run_line.ensures.done c.run_line.ensures.ends

pub returns-in-Err-Place : goal.returns-in-Err-Place
returns-in-Err-Place g c =
    let words = numbered (words_of c.args.images.now) (parts_of c.args.line.now) in
    let seen = ap words_of c.as_slice.ensures.value ∙ c.in-Ok.ensures in
    words_refused g.B.Bay.tells g.B.Bay.disks g.K.Sink.tells c.args.stamp.now c.args.group.now words c.args.bay.now (g.K.Sink.output c.args.sink.now) (g.K.Sink.output c.refuse_words.new.sink)
    c.refuse_words.result c.in-Err-Place.place (c.line_command.ensures.place words seen c.in-Err-Place.place (c.in-Err-Place.is ∙ ap Err c.in-Err-Place.field-0-is))
    (rw (← c.in-Err-Place.place-is) c.refuse_words.ensures.ends) c.refuse_words.ensures.stream

pub returns : goal.returns
returns g c =
    let words = numbered (words_of c.args.images.now) (parts_of c.args.line.now) in
    rw c.code-in-Err-Memory.ensures
    (words_unread g.B.Bay.tells g.B.Bay.disks g.K.Sink.tells c.args.stamp.now c.args.group.now words c.args.bay.now (g.K.Sink.output c.args.sink.now))
