use Rattle.ddf_availability.proofs.Back.{apart_back, available_back, state_back, usable_back, within_back}
use Rattle.ddf_availability.proofs.copyback.arrays_stay_usable_where_a_position_goes_back.Goals as goal

pub returns-clause-usable : goal.returns-clause-usable
returns-clause-usable c = λ config guid seats target disk room sequence asked array apart is_chosen is_room there usable. usable_back config guid seats target disk room is_chosen is_room apart asked array there usable

pub returns-clause-available : goal.returns-clause-available
returns-clause-available c = λ config guid seats target disk room sequence is_chosen is_room. available_back config guid seats target disk room is_chosen is_room sequence

pub returns-clause-within : goal.returns-clause-within
returns-clause-within c = λ config guid seats target disk room sequence asked array is_chosen is_room there. within_back config guid seats target disk room is_chosen is_room asked array there

pub returns-clause-state : goal.returns-clause-state
returns-clause-state c = λ config guid seats target disk room sequence asked array are is_chosen is_room there. state_back config guid seats target disk room is_chosen is_room are asked array there

pub returns-clause-apart : goal.returns-clause-apart
returns-clause-apart c = λ config guid seats target disk room sequence array is_chosen is_room there once away. apart_back config guid seats target disk room is_chosen is_room array there once away
