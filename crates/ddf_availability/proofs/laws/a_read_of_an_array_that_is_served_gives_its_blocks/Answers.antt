use Rattle.ddf_answer.specs.Call.{answer_of, work_of}
use Rattle.ddf_availability.proofs.Giving.{call_gives, call_tells}
use Rattle.ddf_availability.proofs.laws.a_read_of_an_array_that_is_served_gives_its_blocks.Goals as goal

pub returns-clause-gives : goal.returns-clause-gives
returns-clause-gives g c = λ told old new named word start count outcome read found is_found serving calm.
    call_gives (work_of g.B.Bay.tells (g.B.Bay.disks old) (g.B.Bay.disks new)) told named word start count found serving outcome read is_found calm

pub returns-clause-tells : goal.returns-clause-tells
returns-clause-tells g c = λ told old new named word start count before after status done found is_found serving calm.
    call_tells (work_of g.B.Bay.tells (g.B.Bay.disks old) (g.B.Bay.disks new)) told named word start count found serving (answer_of (Unit {0}) before after status) done is_found calm
