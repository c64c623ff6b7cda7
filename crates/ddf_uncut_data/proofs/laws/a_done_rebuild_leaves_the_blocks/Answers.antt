use Rattle.ddf_read.specs.Reading.{Failed}
use Rattle.ddf_answer.specs.Call.{work_of}
use Rattle.ddf_uncut_data.proofs.Rounds.{holds_rebuilt, holds_rounds}
use Rattle.ddf_uncut_data.proofs.laws.a_done_rebuild_leaves_the_blocks.Goals as goal

pub returns-clause-rounds : goal.returns-clause-rounds
returns-clause-rounds g c = λ old new told sizes volume target from rounds before after blocks aside goes out first all are done holds.
    holds_rounds (Failed (g.B.Bay.disks old) (g.B.Bay.disks new)) ((g.B.Bay.disks new).tells_left) told sizes volume target blocks rounds aside from goes out first all before after are done holds

pub returns-clause-planned : goal.returns-clause-planned
returns-clause-planned g c = λ old new told found timestamp word plan blocks aside each goes first done holds.
    holds_rebuilt (work_of g.B.Bay.tells (g.B.Bay.disks old) (g.B.Bay.disks new)) found timestamp word plan blocks told aside each goes first
    (λ slot lba. ((g.met.B.Bay.told new).whole slot lba ((g.B.Bay.disks new).held slot lba) ((g.met.B.Bay.told new).held told slot lba)).size)
    done holds
