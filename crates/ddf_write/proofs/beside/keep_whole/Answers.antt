use Rattle.std.proofs.Common.{refl, subst}
use Rattle.ddf_read.specs.Reading.{Failed}
use Rattle.ddf_write.specs.declared.looking.Missed.{Missed}
use Rattle.ddf_write.specs.Beside.{NoneLeftBeside}
use Rattle.ddf_write.specs.Gathering.{Gathers, IsMissed, IsSplitRow}
use Rattle.ddf_write.specs.Keeping.{Keeping}
use Rattle.ddf_write.proofs.beside.keep_whole.Goals as goal

pub returns-in-Ok-clause-gathers : goal.returns-in-Ok-clause-gathers
returns-in-Ok-clause-gathers g c =
    subst (λ (kept : Keeping). Gathers g.B.Bay.tells (g.B.Bay.disks c.args.bay.now) (g.B.Bay.disks c.keep_piece.new.bay) c.args.view.now c.args.start c.args.count kept c.keep_piece.new.kept) c.new-kept.ensures c.in-Ok.ensures.gathers

pub returns-in-Err-Disk-clause-fault : goal.returns-in-Err-Disk-clause-fault
returns-in-Err-Disk-clause-fault g c =
    let left : NoneLeftBeside (Failed (g.B.Bay.disks c.args.bay.now) (g.B.Bay.disks c.keep_piece.new.bay)) c.args.view.now c.args.start c.args.count c.in-Err-Disk.slot =
    subst (λ (m : Missed). IsMissed (NoneLeftBeside (Failed (g.B.Bay.disks c.args.bay.now) (g.B.Bay.disks c.keep_piece.new.bay)) c.args.view.now c.args.start c.args.count)
    (IsSplitRow c.args.view.now (record { start = c.args.start; count = c.args.count; first = c.args.start; blocks = c.args.count })) m) c.in-Err-Disk.field-0-is c.in-Err-Disk.ensures.left in
    rw c.in-Err-Disk.field-0-is left

pub unreachable-requires : goal.unreachable-requires
unreachable-requires g c =
    let split = subst (λ (m : Missed). IsMissed (NoneLeftBeside (Failed (g.B.Bay.disks c.args.bay.now) (g.B.Bay.disks c.keep_piece.new.bay)) c.args.view.now c.args.start c.args.count)
    (IsSplitRow c.args.view.now (record { start = c.args.start; count = c.args.count; first = c.args.start; blocks = c.args.count })) m) c.in-Err-Split.field-0-is c.in-Err-Split.ensures.left in
    split.other split.row.k split.row.below refl
