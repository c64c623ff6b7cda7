use Rattle.ddf_stage_data.proofs.Whole.{kept_once, kept_while}
use Rattle.ddf_stage_data.proofs.laws.a_block_written_from_a_stage_keeps_the_data.Goals as goal

pub returns-clause-once : goal.returns-clause-once
returns-clause-once c = λ is_absent volume block bytes before image allowed known apart unmarked within none long are kept staged.
    kept_once is_absent volume known apart unmarked within none block bytes long before image are allowed kept staged

pub returns-clause-during : goal.returns-clause-during
returns-clause-during c = λ is_absent volume block bytes before image allowed known apart unmarked within none long are kept staged.
    kept_while is_absent volume known apart unmarked within none block bytes long before image are allowed kept staged
