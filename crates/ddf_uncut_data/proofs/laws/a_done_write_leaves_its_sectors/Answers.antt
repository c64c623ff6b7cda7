use Rattle.ddf_answer.specs.Call.{work_of}
use Rattle.ddf_uncut_data.proofs.Done.{holds_by_write}
use Rattle.ddf_uncut_data.proofs.laws.a_done_write_leaves_its_sectors.Goals as goal

pub returns : goal.returns
returns g c = λ old new told found first last marked volume start sectors blocks first_aside last_aside whole writable done holds.
    holds_by_write (work_of g.B.Bay.tells (g.B.Bay.disks old) (g.B.Bay.disks new)) found first last volume told first_aside last_aside whole
    (λ slot lba. ((g.met.B.Bay.told new).whole slot lba ((g.B.Bay.disks new).held slot lba) ((g.met.B.Bay.told new).held told slot lba)).size)
    marked start sectors blocks writable done holds
