use Rattle.ddf_history_behind.proofs.Stale.{stale_at_no_end, stale_at_no_moment}
use Rattle.ddf_history_behind.proofs.laws.no_stop_leaves_a_disk_that_is_taken_for_an_older_image.Goals as goal

pub returns-clause-at_any_moment : goal.returns-clause-at_any_moment
returns-clause-at_any_moment g c = λ group past old new left found changes done counted own keeps.
    stale_at_no_moment group g.B.Bay.disks past (g.B.Bay.disks old) (g.B.Bay.disks new) left found changes done counted own keeps

pub returns-clause-at_its_end : goal.returns-clause-at_its_end
returns-clause-at_its_end g c = λ group past old new left found changes done counted own keeps same_sizes tells.
    stale_at_no_end group g.B.Bay.disks past (g.B.Bay.disks old) (g.B.Bay.disks new) left found changes done counted own keeps same_sizes tells
