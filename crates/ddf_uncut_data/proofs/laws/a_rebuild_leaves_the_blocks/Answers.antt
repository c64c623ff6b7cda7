use Rattle.ddf_uncut_data.proofs.Rebuild.{holds_filled, holds_finished, holds_noted}
use Rattle.ddf_uncut_data.proofs.laws.a_rebuild_leaves_the_blocks.Goals as goal

pub returns-clause-filled : goal.returns-clause-filled
returns-clause-filled c = λ volume element position from to before image blocks are behind stays holds.
    holds_filled volume element position blocks from to before image are behind stays holds

pub returns-clause-noted : goal.returns-clause-noted
returns-clause-noted c = holds_noted

pub returns-clause-finished : goal.returns-clause-finished
returns-clause-finished c = holds_finished
