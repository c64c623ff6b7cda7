use Rattle.ddf_history_memory.proofs.Young.{leaves_found, leaves_ours, read_found, young}
use Rattle.ddf_history_memory.proofs.laws.a_group_that_was_found_whole_goes_on.Goals as goal

pub returns-clause-begins : goal.returns-clause-begins
returns-clause-begins c = λ group bay found begins settled plugged. young group bay found begins settled plugged

pub returns-clause-goes_on : goal.returns-clause-goes_on
returns-clause-goes_on c = λ group past old exit readable found changes done history leads well taken absent told.
    leaves_ours group past old exit readable found changes done history leads well taken absent told

pub returns-clause-stays : goal.returns-clause-stays
returns-clause-stays c = λ group past old exit readable found changes done history leads well taken absent told held.
    leaves_found group past old exit readable found changes done history leads well taken absent told held

pub returns-clause-reads : goal.returns-clause-reads
returns-clause-reads c = λ group past old exit history leads well reads. read_found group past old exit history leads well reads
