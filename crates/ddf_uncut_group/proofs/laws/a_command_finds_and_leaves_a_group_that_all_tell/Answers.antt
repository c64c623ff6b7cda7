use Rattle.ddf_uncut_group.proofs.SettledDone.{done_lost, done_settled, found_left_as, found_settled_as, newest_is}
use Rattle.ddf_uncut_group.proofs.laws.a_command_finds_and_leaves_a_group_that_all_tell.Goals as goal

pub returns-clause-newest : goal.returns-clause-newest
returns-clause-newest g c = λ bay left. newest_is (g.B.Bay.disks bay) 0 left

pub returns-clause-found : goal.returns-clause-found
returns-clause-found g c = λ bay left group settled. found_settled_as (g.B.Bay.disks bay) left group settled

pub returns-clause-without : goal.returns-clause-without
returns-clause-without g c = λ bay left group place seat settled is_seat two. found_left_as (g.B.Bay.disks bay) left group place seat settled is_seat two

pub returns-clause-done : goal.returns-clause-done
returns-clause-done g c = λ sizes old new left group timestamp request steps settled time is can stay written.
    done_settled sizes old new left group timestamp request steps settled time is can stay written

pub returns-clause-lost : goal.returns-clause-lost
returns-clause-lost g c = λ sizes old new left group place seat timestamp request steps settled is_seat two time is can stay written.
    let then = done_lost sizes old new left group place seat timestamp request steps settled is_seat two time is can stay written in
    (then.rest, then.are, then.settled)
