use Rattle.ddf_history_behind.proofs.Events.{none_at_any, plain_history}
use Rattle.ddf_history_behind.proofs.laws.no_moment_of_a_history_has_a_disk_that_is_taken_for_an_older_image.Goals as goal

pub returns : goal.returns
returns g c = λ told group start history kept near own is.
    none_at_any told g.B.Bay.disks group start history kept
    (c.a_group_is_assembled_at_every_moment_of_its_history.ensures.kept told group start history kept (plain_history told g.B.Bay.disks group start history is))
    (record { near = near; own = own }) is
