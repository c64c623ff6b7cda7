use Rattle.std.specs.Prelude.{Ok, Some}
use Rattle.ddf_plan.specs.declared.change.Change.TheVariants.{Unmark}
use Rattle.ddf_data_calls.proofs.Called.{keeps_both, took_group}
use Rattle.ddf_data_calls.proofs.Accepts.{accepted_counts}
use Rattle.ddf_data_calls.proofs.block_laws.an_accepted_array_counts_with_what_it_holds.Goals as goal

pub returns : goal.returns
returns g c = λ told group past floor small promises old new tells named timestamp request sequence changed found is_found own steps are_asked admits guid init asks may agree tells_new.
    let kept = keeps_both group (g.B.Bay.disks old) (g.B.Bay.disks new) past floor small changed.taken.left changed.taken.newest named found steps (Ok sequence)
    (took_group g.B.Bay.tells told (g.B.Bay.disks old) (g.B.Bay.disks new) named timestamp request (Ok sequence) changed found is_found steps are_asked) own admits.admitted admits.have_floors
    timestamp request are_asked (Some (Unmark guid init)) asks promises admits.all_data may admits.all_kept ((g.met.B.Bay.told old).only_now)
    (λ image later left. (g.met.B.Bay.told new).counts (g.B.Bay.disks old).moment image later left) (λ image left slot lba. ((g.met.B.Bay.told new).whole slot lba (image slot lba) (left slot lba)).size) in
    accepted_counts g.B.Bay.tells told (g.B.Bay.disks old) (g.B.Bay.disks new) group past floor small promises named timestamp request sequence changed found is_found own steps are_asked admits guid init asks
    ((g.met.B.Bay.told old).held tells) (λ slot lba. ((g.met.B.Bay.told old).whole slot lba ((g.B.Bay.disks old).held slot lba) ((g.met.B.Bay.told old).held tells slot lba)).size) agree
    (λ image left slot lba. ((g.met.B.Bay.told new).whole slot lba (image slot lba) (left slot lba)).size) (kept.ends tells_new)
