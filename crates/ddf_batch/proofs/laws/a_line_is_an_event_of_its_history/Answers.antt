use Rattle.ddf_words.specs.declared.command.Command.TheVariants.{Import}
use Rattle.ddf_batch.proofs.Events.{cuts, ends, line_joined, line_took, reads_other}
use Rattle.ddf_batch.proofs.laws.a_line_is_an_event_of_its_history.Goals as goal

pub returns-clause-took : goal.returns-clause-took
returns-clause-took g c = λ stamp group words from to code command run asks writes joins.
    line_took g.B.Bay.tells g.B.Bay.disks g.K.Sink.tells stamp group from to code command asks.is_for_lines writes joins (run.done command asks)

pub returns-clause-joined : goal.returns-clause-joined
returns-clause-joined g c = λ stamp group words from to code other run asks.
    line_joined g.B.Bay.tells g.B.Bay.disks g.K.Sink.tells stamp group from to code other (run.done (Import other) asks)

pub returns-clause-ends : goal.returns-clause-ends
returns-clause-ends g c = λ told stamp group command guid old output to code took is kept tells_left. ends told g.B.Bay.disks stamp group command guid old output to code took is kept tells_left

pub returns-clause-cut : goal.returns-clause-cut
returns-clause-cut g c = λ told stamp group command guid old output to code took is kept cut image was_left is_left.
    cuts told g.B.Bay.disks stamp group command guid old output to code took is kept cut image was_left is_left

pub returns-clause-reads : goal.returns-clause-reads
returns-clause-reads g c = λ told guid old to reads held. reads_other told g.B.Bay.disks (λ bay. (g.met.B.Bay.told bay).counts) guid old to reads held
