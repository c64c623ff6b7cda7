use Rattle.ddf_exercise_config.proofs.Asked as asked
use Rattle.std.proofs.Common.{false}
use Rattle.ddf_exercise_config.specs.Views.{places_at, places_begun}
use Rattle.ddf_exercise_config.proofs.Used as used
use Rattle.ddf_exercise_config.proofs.Seen as seen
use Rattle.ddf_exercise_config.proofs.laws.a_whole_array_is_seen.Goals as goal

pub returns-clause-seen : goal.returns-clause-seen
returns-clause-seen c = λ group disks guid turn sequence apart. used.turn_view group disks apart guid 0 2 sequence turn

pub returns-clause-holds : goal.returns-clause-holds
returns-clause-holds c = λ turn is_marked. seen.holds is_marked (places_at turn)

pub returns-clause-known : goal.returns-clause-known
returns-clause-known c = λ turn is_marked. used.is_volume_at turn is_marked

pub returns-clause-holds_rebuilt : goal.returns-clause-holds_rebuilt
returns-clause-holds_rebuilt c = λ loss. seen.holds false (places_begun loss)

pub returns-clause-known_rebuilt : goal.returns-clause-known_rebuilt
returns-clause-known_rebuilt c = λ loss. used.is_volume_begun loss

pub returns-clause-apart : goal.returns-clause-apart
returns-clause-apart c = λ turn is_marked. used.is_apart_at turn is_marked

pub returns-clause-apart_rebuilt : goal.returns-clause-apart_rebuilt
returns-clause-apart_rebuilt c = λ loss. used.is_apart_begun loss

pub returns-clause-lacks_none : goal.returns-clause-lacks_none
returns-clause-lacks_none c = λ turn is_marked. asked.healthy turn is_marked
