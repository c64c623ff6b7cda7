use Rattle.std.proofs.Common.{refl, sym, ◌∙◌}
use Rattle.std.proofs.lemmas.Grind.{common_steps}
use Rattle.std.proofs.Common.{arith}
use Rattle.std.proofs.lemmas.List.Folds.{list_all-append}
use Rattle.ddf_lemmas.proofs.Lists.{zero_first}
use Rattle.ddf_bay.proofs.Opened.{closed_pushed}
use Rattle.ddf_bay.proofs.file.FileBay.open_as.Goals as goal

pub loop-path-preserved : goal.loop-path-preserved
loop-path-preserved g c =
    let so_far = c.loop-path.invariant in
    record {
      files = grind (arith, common_steps, c.in_ok-push.ensures.items);
      sizes = grind (arith, common_steps, c.in_ok-push-2.ensures.items);
      small = grind (arith, common_steps, c.in_ok-push-2.ensures.items, list_all-append);
      closed = closed_pushed c.loop-path.files.items c.push.new.self.items c.loop-path.sizes.items c.push-in-loop-path.new.self.items c.open_slot-file.result.0 c.open_slot-file.result.1 (so_far.files ∙ sym so_far.sizes) c.open_slot-file.ensures.closed so_far.closed c.in_ok-push.ensures.items c.in_ok-push-2.ensures.items;
    }

pub returns-clause-counts : goal.returns-clause-counts
returns-clause-counts g c = record {
  failed_reads = zero_first 64;
  failed_writes = zero_first 64;
  sectors_written = refl;
  sectors_asked = refl;
  calls = refl;
}
