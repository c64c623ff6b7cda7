use Rattle.ddf_data_groups.proofs.Trusted.{seat_trusted}
use Rattle.ddf_data_groups.proofs.laws.no_disk_of_a_history_is_ahead_of_its_group_or_of_another.Goals as goal

pub returns : goal.returns
returns g c = λ group bay past counted kept its left long may member named found at own place disk there.
    seat_trusted group (g.B.Bay.disks bay) past counted kept its left long may member named found at own place disk there
