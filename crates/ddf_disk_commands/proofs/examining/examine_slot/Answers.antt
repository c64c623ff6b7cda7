use Rattle.std.proofs.Common.{◌≡◌, ℕ, List, arith, sym, ap, ◌∙◌, append-nil}
use Rattle.std.specs.Prelude.{false, slice_index}
use Rattle.std.specs.Result.{is_err}
use Rattle.ddf_copy.specs.Faults.{show_failed}
use Rattle.ddf_disk_commands.proofs.Told.{on_ok, told_text}
use Rattle.ddf_disk_commands.proofs.examining.examine_slot.Goals as goal

pub returns-in_default-clause-shown : goal.returns-in_default-clause-shown
returns-in_default-clause-shown g c = record {
  failed = show_failed c.view_disk-view.result;
  look = c.view_disk-view.ensures.look;
  answer = tt;
  whole = λ told. tt;
  front = λ told. record { count = 0; within = omega arith; front = sym (append-nil _) };
}

pub returns-then-is_err-clause-shown : goal.returns-then-is_err-clause-shown
returns-then-is_err-clause-shown g c = record {
  failed = show_failed c.view_disk-view.result;
  look = c.view_disk-view.ensures.look;
  answer = tt;
  whole = λ told. tt;
  front = λ told.
      let size : c.size.result ≡ slice_index (g.B.Bay.disks c.args.bay.now).sizes c.args.slot = c.size.ensures.size ∙ ap (λ (sizes : List ℕ). slice_index sizes c.args.slot) c.view_disk-view.ensures.reads.same_sizes in
      let text = c.in-Ok.ensures.text ∙ told_text c.args.slot c.size.result (g.B.Bay.disks c.args.bay.now).sizes (g.B.Bay.disks c.args.bay.now).held c.view_disk-view.result size c.in-Ok.ensures.told (c.view_disk-view.ensures.view told.0) in
      rw text at (rw c.as_bytes.ensures.value at (c.write_all.ensures.front told.1));
}

pub returns-clause-shown : goal.returns-clause-shown
returns-clause-shown g c =
    let good : is_err c.write_all.result ≡ false = sym c.is_err.ensures.value ∙ c.if-is_err.false in
    let size : c.size.result ≡ slice_index (g.B.Bay.disks c.args.bay.now).sizes c.args.slot = c.size.ensures.size ∙ ap (λ (sizes : List ℕ). slice_index sizes c.args.slot) c.view_disk-view.ensures.reads.same_sizes in
    record {
      failed = show_failed c.view_disk-view.result;
      look = c.view_disk-view.ensures.look;
      answer = c.show_failed-failed.ensures;
      whole = λ told.
          let text = c.in-Ok.ensures.text ∙ told_text c.args.slot c.size.result (g.B.Bay.disks c.args.bay.now).sizes (g.B.Bay.disks c.args.bay.now).held c.view_disk-view.result size c.in-Ok.ensures.told (c.view_disk-view.ensures.view told.0) in
          rw text at (rw c.as_bytes.ensures.value at (on_ok c.write_all.result good (c.write_all.ensures.written told.1)));
      front = λ told.
          let text = c.in-Ok.ensures.text ∙ told_text c.args.slot c.size.result (g.B.Bay.disks c.args.bay.now).sizes (g.B.Bay.disks c.args.bay.now).held c.view_disk-view.result size c.in-Ok.ensures.told (c.view_disk-view.ensures.view told.0) in
          rw text at (rw c.as_bytes.ensures.value at (c.write_all.ensures.front told.1));
    }
