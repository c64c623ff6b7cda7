use Rattle.ddf_uncut_data.proofs.Held.{alike_beside, holds_same}
use Rattle.ddf_uncut_data.proofs.laws.other_sectors_leave_the_blocks.Goals as goal

pub returns-clause-sectors : goal.returns-clause-sectors
returns-clause-sectors c = holds_same

pub returns-clause-slot : goal.returns-clause-slot
returns-clause-slot c = λ volume gone before image blocks are none same holds. holds_same volume before image blocks are (alike_beside volume gone before image none same) holds
