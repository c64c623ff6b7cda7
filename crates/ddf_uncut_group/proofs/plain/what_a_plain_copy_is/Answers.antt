use Rattle.ddf_uncut_group.proofs.PlainCopies.{plain_bad, plain_floor, plain_seat, plain_sectors}
use Rattle.ddf_uncut_group.proofs.plain.what_a_plain_copy_is.Goals as goal

pub returns-clause-floor : goal.returns-clause-floor
returns-clause-floor c = λ size copy is. plain_floor size copy is

pub returns-clause-bad : goal.returns-clause-bad
returns-clause-bad c = λ size copy is. plain_bad size copy is

pub returns-clause-seat : goal.returns-clause-seat
returns-clause-seat c = λ size slot copy is. plain_seat size slot copy is

pub returns-clause-sectors : goal.returns-clause-sectors
returns-clause-sectors c = λ size copy is. plain_sectors size copy is
