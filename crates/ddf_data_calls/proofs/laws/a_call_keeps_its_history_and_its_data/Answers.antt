use Rattle.ddf_data_calls.proofs.Called.{carries, keeps_both, took_group}
use Rattle.ddf_data_calls.proofs.laws.a_call_keeps_its_history_and_its_data.Goals as goal

pub returns-clause-both : goal.returns-clause-both
returns-clause-both g c = λ told group past floor small promises old new named timestamp request outcome changed found is_found own steps are_asked admits asked asks may.
    keeps_both group (g.B.Bay.disks old) (g.B.Bay.disks new) past floor small changed.taken.left changed.taken.newest named found steps outcome
    (took_group g.B.Bay.tells told (g.B.Bay.disks old) (g.B.Bay.disks new) named timestamp request outcome changed found is_found steps are_asked) own admits.admitted admits.have_floors
    timestamp request are_asked asked asks promises admits.all_data may admits.all_kept ((g.met.B.Bay.told old).only_now)
    (λ image later left. (g.met.B.Bay.told new).counts (g.B.Bay.disks old).moment image later left) (λ image left slot lba. ((g.met.B.Bay.told new).whole slot lba (image slot lba) (left slot lba)).size)

pub returns-clause-carries : goal.returns-clause-carries
returns-clause-carries g c = λ told group past floor small promises old new named timestamp request outcome changed found is_found own steps are_asked admits asked asks may whole_since.
    carries group (g.B.Bay.disks old) (g.B.Bay.disks new) past floor small changed.taken.left changed.taken.newest named found steps outcome
    (took_group g.B.Bay.tells told (g.B.Bay.disks old) (g.B.Bay.disks new) named timestamp request outcome changed found is_found steps are_asked) own admits.admitted admits.have_floors
    timestamp request are_asked asked asks promises admits.all_data may admits.all_kept ((g.met.B.Bay.told old).only_now)
    (λ image later left. (g.met.B.Bay.told new).counts (g.B.Bay.disks old).moment image later left) (λ image left slot lba. ((g.met.B.Bay.told new).whole slot lba (image slot lba) (left slot lba)).size)
    whole_since
