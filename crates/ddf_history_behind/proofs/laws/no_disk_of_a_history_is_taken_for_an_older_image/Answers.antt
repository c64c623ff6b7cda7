use Rattle.ddf_history_behind.proofs.Stale.{none_stale}
use Rattle.ddf_history_behind.proofs.laws.no_disk_of_a_history_is_taken_for_an_older_image.Goals as goal

pub returns : goal.returns
returns g c = λ group bay past counted kept near none. none_stale group (g.B.Bay.disks bay) past counted kept near none
