use Rattle.ddf_data_array.proofs.Given.{read_may}
use Rattle.ddf_data_array.proofs.Histories.{at_every_moment}
use Rattle.ddf_data_array.proofs.laws.an_array_keeps_its_data_at_every_moment.Goals as goal

pub returns-clause-keeps : goal.returns-clause-keeps
returns-clause-keeps c = at_every_moment

pub returns-clause-reads : goal.returns-clause-reads
returns-clause-reads c = λ start rest history kept k moment at old new block bytes given.
    read_may old new moment.is_absent moment.volume moment.image moment.allowed block bytes (at_every_moment start rest history kept k moment at) given
