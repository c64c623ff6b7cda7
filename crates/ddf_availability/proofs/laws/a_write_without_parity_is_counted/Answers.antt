use Rattle.ddf_answer.specs.Call.{input_of, work_of}
use Rattle.ddf_availability.proofs.WriteCounted.{write_counted}
use Rattle.ddf_availability.proofs.laws.a_write_without_parity_is_counted.Goals as goal

pub returns : goal.returns
returns g c = λ old new source_old source_new named timestamp word start count outcome written found is_found plan none.
    write_counted (work_of g.B.Bay.tells (g.B.Bay.disks old) (g.B.Bay.disks new)) (input_of g.S.Source.tells (g.S.Source.input source_old) (g.S.Source.input source_new)) named timestamp word start count outcome written found is_found plan none
