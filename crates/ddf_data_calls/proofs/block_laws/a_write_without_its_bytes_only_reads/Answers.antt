use Rattle.ddf_answer.specs.Call.{input_of}
use Rattle.ddf_data_calls.proofs.Taken.{untaken}
use Rattle.ddf_data_calls.proofs.block_laws.a_write_without_its_bytes_only_reads.Goals as goal

pub returns : goal.returns
returns g c = λ old new source_old source_new named timestamp word start count outcome called none.
    untaken g.B.Bay.tells (g.B.Bay.disks old) (g.B.Bay.disks new) (input_of g.S.Source.tells (g.S.Source.input source_old) (g.S.Source.input source_new)) named timestamp word start count outcome called none
