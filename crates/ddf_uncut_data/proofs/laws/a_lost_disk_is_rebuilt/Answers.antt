use Rattle.ddf_answer.specs.Call.{work_of}
use Rattle.ddf_uncut_data.proofs.Lost.{holds_lost, rebuilt_rows, rebuilt_whole}
use Rattle.ddf_uncut_data.proofs.laws.a_lost_disk_is_rebuilt.Goals as goal

pub returns-clause-blocks : goal.returns-clause-blocks
returns-clause-blocks g c = λ old new old_told told found timestamp word plan volume place is_view whole none alone away unset fresh gone before beside same aside each done blocks holds.
    holds_lost found timestamp word plan volume place is_view whole none unset (work_of g.B.Bay.tells (g.B.Bay.disks old) (g.B.Bay.disks new)) gone before blocks away alone fresh beside same
    (λ slot lba. ((g.met.B.Bay.told old).whole slot lba ((g.B.Bay.disks old).held slot lba) ((g.met.B.Bay.told old).held old_told slot lba)).size) told aside each
    (λ slot lba. ((g.met.B.Bay.told new).whole slot lba ((g.B.Bay.disks new).held slot lba) ((g.met.B.Bay.told new).held told slot lba)).size) done holds

pub returns-clause-whole : goal.returns-clause-whole
returns-clause-whole g c = λ found timestamp word plan volume place is_view whole. rebuilt_whole found timestamp word plan volume place is_view whole

pub returns-clause-rows : goal.returns-clause-rows
returns-clause-rows g c = rebuilt_rows
