use Rattle.ddf_exercise_disks.proofs.WritingDone.{write_stores}
use Rattle.ddf_exercise_disks.proofs.writing.a_write_fills_its_blocks.Goals as goal

pub returns : goal.returns
returns c = λ name total asked out disks guid turn sequence bytes old new apart stores goes within long timestamp time start count byte fits some small enough left after status done.
    write_stores name total asked out disks apart guid turn sequence within bytes old new stores goes timestamp time start count fits small enough long some byte left after status done
