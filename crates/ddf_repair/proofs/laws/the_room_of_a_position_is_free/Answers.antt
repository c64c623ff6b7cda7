use Rattle.ddf_repair.proofs.Rooms.{room_is}
use Rattle.ddf_repair.proofs.laws.the_room_of_a_position_is_free.Goals as goal

pub returns-clause-on : goal.returns-clause-on
returns-clause-on c = λ config guid seats target reference found h. (room_is config guid seats target reference found h).on

pub returns-clause-clear : goal.returns-clause-clear
returns-clause-clear c = λ config guid seats target reference found h. (room_is config guid seats target reference found h).clear

pub returns-clause-below : goal.returns-clause-below
returns-clause-below c = λ config guid seats target reference found h. (room_is config guid seats target reference found h).below
