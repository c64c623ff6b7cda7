use Rattle.ddf_data_calls.proofs.Printed.{printed_may}
use Rattle.ddf_data_events.proofs.laws.a_read_prints_what_its_moment_promises.Goals as goal

pub returns : goal.returns
returns g c = λ told group moment all tells_left new named word start count outcome read means slots may_read member found at guid array allowed is_named promised.
    let held = (g.met.B.Bay.told moment.bay).held tells_left in
    let shown = all.shows (g.B.Bay.disks moment.bay).held held in
    let kept = all.keeps (g.B.Bay.disks moment.bay).held held in
    printed_may group g.B.Bay.tells told (g.B.Bay.disks moment.bay) (g.B.Bay.disks new) moment.past moment.floor moment.small moment.promises named word start count outcome read means
    (record { same_slots = slots; may_read = may_read; member = member; is_kept = shown; keeps = kept; have_floors = λ slot number config since stays current. all.floored slot number config since stays current ((g.B.Bay.disks moment.bay).held slot) (held slot) }) found at guid array allowed is_named promised
