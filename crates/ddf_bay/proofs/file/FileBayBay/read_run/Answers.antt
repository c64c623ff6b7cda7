use Rattle.std.proofs.Math.ListN.{length-set}
use Rattle.ddf_bay.proofs.Opened.{closed_set}
use Rattle.ddf_bay.proofs.file.FileBayBay.read_run.Goals as goal

pub invariant_of-self : goal.invariant_of-self
invariant_of-self g c =
    let bay = c.args.self.now in
    record {
      few = bay.few;
      small = bay.small;
      each = simp length-set bay.each;
      closed = closed_set bay.files.items bay.sizes.items c.args.slot c.index_mut.result.now c.read_bytes-outcome.new.file c.index_mut.ensures.value c.read_bytes-outcome.ensures.same bay.closed;
    }

pub invariant_of-self-else-is_err : goal.invariant_of-self-else-is_err
invariant_of-self-else-is_err g c =
    let bay = c.args.self.now in
    record {
      few = bay.few;
      small = bay.small;
      each = simp length-set bay.each;
      closed = closed_set bay.files.items bay.sizes.items c.args.slot c.index_mut.result.now c.read_bytes-outcome.new.file c.index_mut.ensures.value c.read_bytes-outcome.ensures.same bay.closed;
    }
