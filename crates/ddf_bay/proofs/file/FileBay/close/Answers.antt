use Rattle.std.proofs.Common.{◌^◌}
use Rattle.std.proofs.Math.ListN.{length-set}
use Rattle.ddf_bay.proofs.Opened.{closed_shut, is_open_shut, small_shut}
use Rattle.ddf_bay.proofs.file.FileBay.close.Goals as goal

pub invariant_of-self : goal.invariant_of-self
invariant_of-self g c =
    let bay = c.args.self.now in
    record {
      few = simp length-set bay.few;
      small = small_shut (2 ^ 55) c.args.slot bay.sizes.items bay.small;
      each = simp length-set bay.each;
      closed = closed_shut bay.files.items bay.sizes.items c.args.slot c.args.why bay.closed;
    }

pub returns-clause-closed : goal.returns-clause-closed
returns-clause-closed g c = is_open_shut c.args.self.now.files.items c.args.slot c.args.why
