use Rattle.ddf_recovery.proofs.LeftGroup.{assembled_again, assembled_by_guid}
use Rattle.ddf_recovery.proofs.laws.what_a_change_left_is_assembled_to_the_group_after_it.Goals as goal

pub returns-clause-again : goal.returns-clause-again
returns-clause-again c = λ newest named group change timestamp step are found settled asked ready there.
    assembled_again newest named group change timestamp step are found settled asked ready there

pub returns-clause-by_guid : goal.returns-clause-by_guid
returns-clause-by_guid c = λ newest named group change timestamp step are found settled asked ready there.
    assembled_by_guid newest named group change timestamp step are found settled asked ready there
