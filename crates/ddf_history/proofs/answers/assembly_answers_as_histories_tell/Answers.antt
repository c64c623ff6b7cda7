use Rattle.ddf_history.proofs.Answered.{assembled_told}
use Rattle.ddf_history.proofs.AnsweredRead.{read_of_one_group}
use Rattle.ddf_history.proofs.answers.assembly_answers_as_histories_tell.Goals as goal

pub returns-clause-told : goal.returns-clause-told
returns-clause-told c = λ group slots alike. assembled_told group slots alike

pub returns-clause-one_group : goal.returns-clause-one_group
returns-clause-one_group c = λ size sector. read_of_one_group size sector
