use Rattle.ddf_data_calls.proofs.Printed.{printed_may, read_returned}
use Rattle.ddf_data_calls.proofs.laws.a_read_prints_what_was_acknowledged.Goals as goal

pub returns-clause-blocks : goal.returns-clause-blocks
returns-clause-blocks g c = λ told group past floor small promises old new named word start count outcome read means admits found at guid array allowed is_named promised.
    printed_may group g.B.Bay.tells told (g.B.Bay.disks old) (g.B.Bay.disks new) past floor small promises named word start count outcome read means admits found at guid array allowed is_named promised

pub returns-clause-done : goal.returns-clause-done
returns-clause-done g c = λ told group past floor small promises old new named word start count sink_old sink_new status read done means admits.
    read_returned group g.B.Bay.tells told (g.B.Bay.disks old) (g.B.Bay.disks new) past floor small promises named word start count
    (record { tells = g.K.Sink.tells; old = g.K.Sink.output sink_old; new = g.K.Sink.output sink_new; status = status }) read done means admits
