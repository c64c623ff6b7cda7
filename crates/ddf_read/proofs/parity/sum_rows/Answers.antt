use Rattle.std.proofs.Common.{◌≡◌, List, sym, ap, subst, arith, length}
use Rattle.std.specs.List.{flat_map, range_with_len}
use Rattle.ddf_array.specs.declared.site.Site.{Site}
use Rattle.ddf_array.proofs.Ranges.{flat-more}
use Rattle.ddf_read.specs.Sums.{AreSums, AreAdded}
use Rattle.ddf_read.proofs.OnlyReading.{only_reads_then}
use Rattle.ddf_read.proofs.OtherCells.{sites_at, sums_more, among_others}
use Rattle.ddf_read.proofs.parity.sum_rows.Goals as goal

pub returns-in-Err-clause-among : goal.returns-in-Err-clause-among
returns-in-Err-clause-among g c =
    let places = c.args.part.now.places in
    let n : length c.items-other-end.result.now ≡ length places = ap length c.items-other-end.ensures in
    among_others places c.args.position c.args.sector c.loop-other.other (λ other. other ≡ c.in-Err.slot) (omega (arith, n, c.loop-other-test.true))
    (rw c.other_site-first.ensures at c.in-Err.ensures.among)

pub loop-other-preserved : goal.loop-other-preserved
loop-other-preserved g c =
    let places = c.args.part.now.places in
    let held = (g.B.Bay.disks c.args.bay.now).held in
    let each = sites_at places c.args.position c.args.sector in
    record {
      reads = only_reads_then c.loop-other.invariant.reads c.in-Ok.ensures.reads;
      sums = λ tells.
          let here : AreAdded held (each c.loop-other.other) c.loop-other.into c.add_from.new.into =
          rw (c.other_site-first.ensures, c.loop-other.invariant.reads.reads.same_held) at (c.in-Ok.ensures.added tells) in
          subst (λ (sites : List Site). AreSums held sites c.add_from.new.into) (sym (flat-more each c.loop-other.other))
          (sums_more held (flat_map each (range_with_len 0 c.loop-other.other)) (each c.loop-other.other) c.loop-other.into c.add_from.new.into c.add_from.auto.into
          (c.loop-other.invariant.sums tells) here);
    }
