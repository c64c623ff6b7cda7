use Rattle.std.proofs.Common.{◌∙◌, ◌+◌, Bool, false, length, sym, subst, arith}
use Rattle.std.specs.List.{slice_split}
use Rattle.std.proofs.lemmas.Iterator.Consumers.{YieldsList-turn, YieldsList-end}
use Rattle.std.proofs.lemmas.Iterator.Splits.{YieldsList-from_str_split}
use Rattle.std.proofs.lemmas.List.{length_push}
use Rattle.ddf_words.specs.Words.{words_of}
use Rattle.ddf_words.specs.Lines.{is_end}
use Rattle.ddf_batch.specs.Batch.{AreLinesRun, point, whole_status}
use Rattle.ddf_batch.proofs.Runs.{SoFar, goes_past, runs_end, runs_on, runs_stop, stops_past}
use Rattle.ddf_batch.proofs.batch.run_lines.Goals as goal

pub returns-then-status-gt2-clause-run : goal.returns-then-status-gt2-clause-run
returns-then-status-gt2-clause-run g c =
    let turn = YieldsList-turn (YieldsList-from_str_split 0x0A c.args.text.now (omega arith) (cc) (cc) (cc)) c.loop-line.yielded _ c.loop-line.yielded_by _ _ c.in-Some.line c.in-Some.is c.next.ensures.steps in
    runs_stop g.B.Bay.tells g.B.Bay.disks g.K.Sink.tells c.args.stamp.now c.args.group.now (words_of c.args.images.now) (slice_split is_end c.args.text.now)
    (point c.args.bay.now (g.K.Sink.output c.args.sink.now)) (point c.loop-line.bay (g.K.Sink.output c.loop-line.sink)) c.loop-line.refused (length c.loop-line.yielded)
    c.loop-line.invariant.so_far (point c.run_text-status.new.bay (g.K.Sink.output c.run_text-status.new.sink)) c.in-Some.line.now c.run_text-status.result turn.0 turn.1 c.run_text-status.ensures
    (stops_past c.run_text-status.result c.if-status-gt2.true)

pub loop-line-preserved : goal.loop-line-preserved
loop-line-preserved g c =
    let turn = YieldsList-turn (YieldsList-from_str_split 0x0A c.args.text.now (omega arith) (cc) (cc) (cc)) c.loop-line.yielded _ c.loop-line.yielded_by _ _ c.in-Some.line c.in-Some.is c.next.ensures.steps in
    let long = length_push c.loop-line.yielded c.in-Some.line in
    let start = point c.args.bay.now (g.K.Sink.output c.args.sink.now) in
    let next = point c.run_text-status.new.bay (g.K.Sink.output c.run_text-status.new.sink) in
    let on = runs_on g.B.Bay.tells g.B.Bay.disks g.K.Sink.tells c.args.stamp.now c.args.group.now (words_of c.args.images.now) (slice_split is_end c.args.text.now)
    start (point c.loop-line.bay (g.K.Sink.output c.loop-line.sink)) c.loop-line.refused (length c.loop-line.yielded)
    c.loop-line.invariant.so_far next c.in-Some.line.now c.run_text-status.result turn.0 turn.1 c.run_text-status.ensures
    (goes_past c.run_text-status.result (λ past. omega (arith, past, c.if-status-gt2.false))) in
    rw long record {
      can_next = tt;
      is_finite = tt;
      so_far = subst (λ (refused : Bool). SoFar g.B.Bay.tells g.B.Bay.disks g.K.Sink.tells c.args.stamp.now c.args.group.now (words_of c.args.images.now) (slice_split is_end c.args.text.now) start next refused (length c.loop-line.yielded + 1))
          (sym c.is_refused-refused.ensures) on;
      goes_on = λ bay leads. c.loop-line.invariant.goes_on bay (c.run_text-status.ensures.goes_on bay leads);
      same_sizes = c.run_text-status.ensures.same_sizes ∙ c.loop-line.invariant.same_sizes;
    }

pub returns-then-refused-clause-run : goal.returns-then-refused-clause-run
returns-then-refused-clause-run g c =
    let end = YieldsList-end (YieldsList-from_str_split 0x0A c.args.text.now (omega arith) (cc) (cc) (cc)) c.loop-line.yielded _ c.loop-line.yielded_by _ _ c.in-None.is c.next.ensures.steps in
    let start = point c.args.bay.now (g.K.Sink.output c.args.sink.now) in
    let now = point c.loop-line.bay (g.K.Sink.output c.loop-line.sink) in
    subst (λ (refused : Bool). AreLinesRun g.B.Bay.tells g.B.Bay.disks g.K.Sink.tells c.args.stamp.now c.args.group.now (words_of c.args.images.now) (slice_split is_end c.args.text.now) start now false (whole_status refused))
    c.if-refused.true
    (runs_end g.B.Bay.tells g.B.Bay.disks g.K.Sink.tells c.args.stamp.now c.args.group.now (words_of c.args.images.now) (slice_split is_end c.args.text.now)
    start now c.loop-line.refused (length c.loop-line.yielded) c.loop-line.invariant.so_far (omega (arith, end.1)))

pub returns-else-refused-clause-run : goal.returns-else-refused-clause-run
returns-else-refused-clause-run g c =
    let end = YieldsList-end (YieldsList-from_str_split 0x0A c.args.text.now (omega arith) (cc) (cc) (cc)) c.loop-line.yielded _ c.loop-line.yielded_by _ _ c.in-None.is c.next.ensures.steps in
    let start = point c.args.bay.now (g.K.Sink.output c.args.sink.now) in
    let now = point c.loop-line.bay (g.K.Sink.output c.loop-line.sink) in
    subst (λ (refused : Bool). AreLinesRun g.B.Bay.tells g.B.Bay.disks g.K.Sink.tells c.args.stamp.now c.args.group.now (words_of c.args.images.now) (slice_split is_end c.args.text.now) start now false (whole_status refused))
    c.if-refused.false
    (runs_end g.B.Bay.tells g.B.Bay.disks g.K.Sink.tells c.args.stamp.now c.args.group.now (words_of c.args.images.now) (slice_split is_end c.args.text.now)
    start now c.loop-line.refused (length c.loop-line.yielded) c.loop-line.invariant.so_far (omega (arith, end.1)))
