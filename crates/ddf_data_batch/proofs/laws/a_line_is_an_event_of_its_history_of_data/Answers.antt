use Rattle.ddf_answer.specs.Call.{answer_of}
use Rattle.ddf_data_batch.proofs.Ends.{line_cut, line_ends, line_reads}
use Rattle.ddf_data_batch.proofs.Own.{of_line}
use Rattle.ddf_data_batch.proofs.laws.a_line_is_an_event_of_its_history_of_data.Goals as goal

pub returns-clause-reads : goal.returns-clause-reads
returns-clause-reads g c = λ stamp group words from to code run unwritten. line_reads g.B.Bay.tells g.B.Bay.disks g.K.Sink.tells stamp group words from to code run unwritten

pub returns-clause-ends : goal.returns-clause-ends
returns-clause-ends g c = λ told stamp group guid old output to code line all tells_left same_sizes.
    line_ends told g.B.Bay.disks g.S.Source.tells g.S.Source.input guid stamp group old to.bay (answer_of g.K.Sink.tells output to.output code)
    (λ start kept events. c.a_group_keeps_its_history_and_its_data_at_every_moment.ensures told guid start kept events) line all tells_left same_sizes

pub returns-clause-done : goal.returns-clause-done
returns-clause-done g c = λ told stamp group guid old output to code line zero.
    (of_line told g.B.Bay.disks g.S.Source.tells g.S.Source.input stamp group guid old to.bay (answer_of g.K.Sink.tells output to.output code) line).done zero

pub returns-clause-cut : goal.returns-clause-cut
returns-clause-cut g c = λ told stamp group guid old output to code line all image was_left bay resumes.
    line_cut told g.B.Bay.disks g.S.Source.tells g.S.Source.input guid stamp group old to.bay (answer_of g.K.Sink.tells output to.output code)
    (λ start kept events. c.a_group_keeps_its_history_and_its_data_at_every_moment.ensures told guid start kept events) line all image was_left bay resumes
