use Rattle.ddf_uncut_group.proofs.PlainRoom.{plain_full, plain_room}
use Rattle.ddf_uncut_group.proofs.plain.a_plain_copy_has_room.Goals as goal

pub returns-clause-one : goal.returns-clause-one
returns-clause-one c = λ size old leaders config timestamp is room. plain_room size old is config room leaders timestamp

pub returns-clause-all : goal.returns-clause-all
returns-clause-all c = λ sizes timestamp leaders config disks are room. plain_full sizes leaders config room timestamp disks are
