use Rattle.ddf_data_events.proofs.Bays.{AreBays}
use Rattle.ddf_data_events.proofs.Scrubbed.{scrubbed_agrees}
use Rattle.ddf_data_events.proofs.laws.an_array_that_a_scrub_found_clean_agrees.Goals as goal

pub returns : goal.returns
returns g c = λ told group moment all tells_left new word named scrubbed means found is_found admitted absent trusted alone settled scrub whole no_rows.
    let are : AreBays g.B.Bay.disks = g.met.B.Bay.told in
    scrubbed_agrees g.B.Bay.tells told g.B.Bay.disks are group moment all tells_left new scrubbed.left scrubbed.every_slot scrubbed.newest (scrubbed.read told) named means found is_found admitted absent trusted alone settled word
    scrub whole no_rows
