use Rattle.std.specs.Prelude.{Ok}
use Rattle.ddf_data_calls.proofs.Resynced.{counts, then_settled}
use Rattle.ddf_data_calls.proofs.block_laws.a_resynced_array_counts_with_what_it_holds.Goals as goal

pub returns : goal.returns
returns g c = λ told group past floor small promises old new tells named timestamp word sequence called found is_found own admits plan tells_new.
    counts g.B.Bay.tells told (g.B.Bay.disks old) (g.B.Bay.disks new) group past floor small promises named timestamp word (Ok sequence) called found is_found own admits ((g.met.B.Bay.told old).held tells)
    (λ slot lba. ((g.met.B.Bay.told old).whole slot lba ((g.B.Bay.disks old).held slot lba) ((g.met.B.Bay.told old).held tells slot lba)).size) plan
    (λ image left slot lba. ((g.met.B.Bay.told new).whole slot lba (image slot lba) (left slot lba)).size)
    (then_settled g.B.Bay.tells told (g.B.Bay.disks old) (g.B.Bay.disks new) named timestamp word sequence called found is_found) tells_new (called.along told found is_found plan group own past admits.all_kept admits.admitted)
