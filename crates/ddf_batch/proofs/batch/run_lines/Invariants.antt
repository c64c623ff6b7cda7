use Rattle.std.proofs.Common.{◌≡◌, length}
use Rattle.std.specs.List.{slice_split}
use Rattle.ddf_bay.specs.Moments.{GoesOn}
use Rattle.ddf_words.specs.Words.{words_of}
use Rattle.ddf_words.specs.Lines.{is_end}
use Rattle.ddf_batch.specs.Batch.{point}
use Rattle.ddf_batch.proofs.Runs.{SoFar}
use Rattle.ddf_batch.proofs.batch.run_lines.Given as goal

abbrev pub invariant-loop-line : goal.invariant-loop-line
invariant-loop-line g l = record {
  can_next : (goal.iterator-loop-line g).can_next l.line-iterator;
  is_finite : (goal.iterator-loop-line g).is_finite l.line-iterator;
  so_far : SoFar g.B.Bay.tells g.B.Bay.disks g.K.Sink.tells l.stamp l.group (words_of l.images) (slice_split is_end l.text) (point l.initial.bay (g.K.Sink.output l.initial.sink)) (point l.bay (g.K.Sink.output l.sink)) l.refused (length l.yielded);
  goes_on : GoesOn (g.B.Bay.disks l.initial.bay) (g.B.Bay.disks l.bay);
  same_sizes : (g.B.Bay.disks l.bay).sizes ≡ (g.B.Bay.disks l.initial.bay).sizes;
}
