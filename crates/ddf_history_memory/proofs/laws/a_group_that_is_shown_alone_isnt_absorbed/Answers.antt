use Rattle.std.proofs.Common.{map}
use Rattle.ddf_group.specs.Shown.{shown_of}
use Rattle.ddf_history_memory.proofs.Alone.{meant_alone, not_absorbed}
use Rattle.ddf_history_memory.proofs.laws.a_group_that_is_shown_alone_isnt_absorbed.Goals as goal

pub returns-clause-free : goal.returns-clause-free
returns-clause-free c = λ newest group slot shows only. not_absorbed (map shown_of newest) group slot shows only

pub returns-clause-meant : goal.returns-clause-meant
returns-clause-meant c = λ newest group alone. meant_alone newest group alone
