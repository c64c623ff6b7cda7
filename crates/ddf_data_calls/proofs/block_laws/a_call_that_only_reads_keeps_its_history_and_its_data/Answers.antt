use Rattle.ddf_data_calls.proofs.Taken.{only_reads}
use Rattle.ddf_data_calls.proofs.block_laws.a_call_that_only_reads_keeps_its_history_and_its_data.Goals as goal

pub returns : goal.returns
returns g c = λ group past floor promises old new reads kept all. only_reads group (g.B.Bay.disks old) (g.B.Bay.disks new) past floor promises reads kept all
