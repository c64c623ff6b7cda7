use Rattle.std.proofs.Common.{◌≡◌, ◌∙◌, ◌%◌, inl, inr, [], refl, sym, subst, arith, max}
use Rattle.std.proofs.Math.Nat.{mod-le}
use Rattle.std.proofs.lemmas.Nat.{mod_below}
use Rattle.std.proofs.lemmas.Result.{err_from_is_err_and}
use Rattle.ddf_lemmas.proofs.Tests.{true_not_false}
use Rattle.ddf_read.specs.Reading.{Failed}
use Rattle.ddf_read.proofs.OnlyReading.{failed_before, only_reads_then}
use Rattle.ddf_write.specs.declared.looking.Missed.{Missed}
use Rattle.ddf_write.specs.Beside.{NoneLeftBeside}
use Rattle.ddf_write.specs.Gathering.{IsMissed}
use Rattle.ddf_write.specs.Looking.{ArePiecesKept, IsSplit}
use Rattle.ddf_write.proofs.Gathered.{gathers_reads, gathers_then}
use Rattle.ddf_write.proofs.Looked.{none_kept, unkept_fault, whole_kept}
use Rattle.ddf_write.proofs.beside.look_at.Goals as goal

pub keep_pieces-requires-clause-ahead : goal.keep_pieces-requires-clause-ahead
keep_pieces-requires-clause-ahead g c = mod-le c.args.start c.piece_blocks-each.result

pub returns-in-Ok-clause-beside : goal.returns-in-Ok-clause-beside
returns-in-Ok-clause-beside g c = record {
  some = c.piece_blocks-each.ensures.some;
  some_first = mod_below c.args.start c.piece_blocks-each.result c.piece_blocks-each.ensures.some;
  plain = λ none. absurd (true_not_false (sym c.requires.keeps ∙ none));
  stripes = λ keeps. inl (c.piece_blocks-each.ensures.value, refl);
  all_kept = c.in-Ok.ensures.all;
  keeps_none = none_kept g.B.Bay.tells (g.B.Bay.disks c.args.bay.now) (g.B.Bay.disks c.keep_pieces.new.bay) c.args.view.now c.args.start c.args.count c.in-Ok.kept c.in-Ok.ensures.gathers;
}

pub returns-in-Err-Disk-clause-fault : goal.returns-in-Err-Disk-clause-fault
returns-in-Err-Disk-clause-fault g c = (
  c.requires.accepted,
  subst (λ (m : Missed). IsMissed (NoneLeftBeside (Failed (g.B.Bay.disks c.args.bay.now) (g.B.Bay.disks c.keep_pieces.new.bay)) c.args.view.now c.args.start c.args.count) (IsSplit c.args.view.now c.args.start c.args.count c.piece_blocks-each.result (c.args.start % c.piece_blocks-each.result)) m) c.in-Err-Disk.field-0-is c.in-Err-Disk.ensures.left,
)

pub keep_whole-requires-clause-fits : goal.keep_whole-requires-clause-fits
keep_whole-requires-clause-fits g c = rw c.keep_pieces.ensures.reads.reads.same_sizes c.requires.fits

pub returns-in_err-kept-in-Err-Split-clause-fault : goal.returns-in_err-kept-in-Err-Split-clause-fault
returns-in_err-kept-in-Err-Split-clause-fault g c =
    let p = err_from_is_err_and c.from_residual.result c.from_residual.ensures.1 in
    rw (p.1, p.2)
    (unkept_fault (g.B.Bay.disks c.args.bay.now) (g.B.Bay.disks c.keep_pieces.new.bay) (g.B.Bay.disks c.keep_whole.new.bay) c.args.view.now c.args.start c.args.count c.requires.accepted
    (failed_before c.keep_pieces.ensures.reads c.keep_whole.ensures.reads) _ c.in_err-kept-in-Err-Split.ensures.fault)

pub returns-in_err-kept-in-Err-Split-clause-reads : goal.returns-in_err-kept-in-Err-Split-clause-reads
returns-in_err-kept-in-Err-Split-clause-reads g c = only_reads_then c.keep_pieces.ensures.reads c.keep_whole.ensures.reads

pub returns-in_ok-kept-in-Err-Split-clause-gathers : goal.returns-in_ok-kept-in-Err-Split-clause-gathers
returns-in_ok-kept-in-Err-Split-clause-gathers g c =
    gathers_then g.B.Bay.tells c.args.view.now c.args.start c.args.count [] [] c.in_ok-kept-in-Err-Split.kept
    (gathers_reads g.B.Bay.tells (g.B.Bay.disks c.args.bay.now) (g.B.Bay.disks c.keep_pieces.new.bay) c.args.view.now c.args.start c.args.count [] c.keep_pieces.ensures.reads) c.in_ok-kept-in-Err-Split.ensures.gathers

pub returns-in_ok-kept-in-Err-Split-clause-beside : goal.returns-in_ok-kept-in-Err-Split-clause-beside
returns-in_ok-kept-in-Err-Split-clause-beside g c = record {
  some = omega arith;
  some_first = omega arith;
  plain = λ none. absurd (true_not_false (sym c.requires.keeps ∙ none));
  stripes = λ keeps.
      let v = c.args.view.now in
      let each = c.piece_blocks-each.result in
      let split : IsSplit v c.args.start c.args.count each (c.args.start % each) =
      subst (λ (m : Missed). IsMissed (NoneLeftBeside (Failed (g.B.Bay.disks c.args.bay.now) (g.B.Bay.disks c.keep_pieces.new.bay)) v c.args.start c.args.count) (IsSplit v c.args.start c.args.count each (c.args.start % each)) m)
      c.in-Err-Split.field-0-is c.in-Err-Split.ensures.left in
      inr (subst (λ n. IsSplit v c.args.start c.args.count n (c.args.start % n)) c.piece_blocks-each.ensures.value split, omega arith, refl);
  all_kept =
      let same : max 1 c.args.count ≡ c.max.result = omega (arith, c.max.ensures) in
      subst (λ each. ArePiecesKept c.args.view.now c.args.start c.args.count each 0 c.in_ok-kept-in-Err-Split.kept 0) same (whole_kept c.args.view.now c.args.start c.args.count c.in_ok-kept-in-Err-Split.kept c.in_ok-kept-in-Err-Split.ensures.all);
  keeps_none = none_kept g.B.Bay.tells (g.B.Bay.disks c.keep_pieces.new.bay) (g.B.Bay.disks c.keep_whole.new.bay) c.args.view.now c.args.start c.args.count c.in_ok-kept-in-Err-Split.kept c.in_ok-kept-in-Err-Split.ensures.gathers;
}

pub returns-in_ok-kept-in-Err-Split-clause-reads : goal.returns-in_ok-kept-in-Err-Split-clause-reads
returns-in_ok-kept-in-Err-Split-clause-reads g c = only_reads_then c.keep_pieces.ensures.reads c.keep_whole.ensures.reads
