use Rattle.ddf_uncut_data.proofs.Replaced.{holds_replaced, no_rows_replaced, no_rows_synced, only_out, whole_but, whole_synced, within_but}
use Rattle.ddf_uncut_data.proofs.laws.another_disk_leaves_the_blocks.Goals as goal

pub returns-clause-blocks : goal.returns-clause-blocks
returns-clause-blocks c = λ volume element position new image blocks gone none known apart within alone holds.
    holds_replaced volume element position new image blocks gone none known apart within alone holds

pub returns-clause-others : goal.returns-clause-others
returns-clause-others c = λ volume element position new whole. whole_but volume element position new whole

pub returns-clause-first : goal.returns-clause-first
returns-clause-first c = only_out

pub returns-clause-whole : goal.returns-clause-whole
returns-clause-whole c = whole_synced

pub returns-clause-within : goal.returns-clause-within
returns-clause-within c = within_but

pub returns-clause-replaced : goal.returns-clause-replaced
returns-clause-replaced c = no_rows_replaced

pub returns-clause-synced : goal.returns-clause-synced
returns-clause-synced c = no_rows_synced
