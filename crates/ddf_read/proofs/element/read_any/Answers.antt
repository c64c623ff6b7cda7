use Rattle.std.proofs.Common.{sym, rules}
use Rattle.ddf_array.proofs.ElementCells.{copies_on}
use Rattle.ddf_read.proofs.OnlyReading.{only_reads_then}
use Rattle.ddf_read.proofs.Steps.{read_at, not_read_more}
use Rattle.ddf_read.proofs.element.read_any.Goals as goal

pub returns-in-Ok-clause-tried : goal.returns-in-Ok-clause-tried
returns-in-Ok-clause-tried g c = λ tells.
    read_at c.loop-position.invariant.reads c.in-Ok.ensures.reads (copies_on c.args.part.now.places c.args.sector) _ c.loop-position.position c.loop-position.failed c.try_site.new.into
    (rw (sym c.items-position-end.ensures) (search rules)) c.loop-position.invariant.not_read (rw c.site_at-site.ensures at (c.in-Ok.ensures.tried tells))

pub loop-position-preserved : goal.loop-position-preserved
loop-position-preserved g c = record {
  reads = only_reads_then c.loop-position.invariant.reads c.in-Err.ensures.reads;
  not_read =
      rw c.or-failed.ensures
      (not_read_more c.loop-position.invariant.reads c.in-Err.ensures.reads (copies_on c.args.part.now.places c.args.sector) c.loop-position.position c.loop-position.failed c.in-Err.next
      c.loop-position.invariant.not_read (rw c.site_at-site.ensures at c.in-Err.ensures.tried));
}
