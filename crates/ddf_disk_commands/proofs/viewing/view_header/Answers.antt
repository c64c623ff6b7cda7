use Rattle.std.proofs.Common.{◌≡◌, arith}
use Rattle.std.proofs.lemmas.Grind.{common_steps}
use Rattle.std.specs.Prelude.{slice_index, nat_lt, true}
use Rattle.ddf_disk_commands.specs.Disk.{header_view}
use Rattle.ddf_disk_commands.proofs.viewing.view_header.Goals as goal

pub returns-in-Ok-clause-view : goal.returns-in-Ok-clause-view
unfolding header_view
returns-in-Ok-clause-view g c = λ tells.
    let bytes = c.in-Ok.ensures.bytes tells in
    let within : nat_lt c.args.lba (slice_index (g.B.Bay.disks c.args.bay.now).sizes c.args.slot) ≡ true = grind (arith, common_steps) in
    rw (within, ← bytes) c.header_in.ensures
