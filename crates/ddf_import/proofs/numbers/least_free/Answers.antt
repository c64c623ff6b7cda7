use Rattle.std.proofs.Common.{sym, ◌∙◌, arith}
use Rattle.ddf_import.proofs.Free.{skip_taken}
use Rattle.ddf_import.proofs.numbers.least_free.Goals as goal

pub loop-number-preserved : goal.loop-number-preserved
loop-number-preserved c =
    let less = c.loop-number-test.true in
    record {
      within = omega (arith, less);
      first = skip_taken c.args.taken.now c.loop-number.number less (sym c.is_taken.ensures ∙ c.if-is_taken.true) ∙ c.loop-number.invariant.first;
    }
