-- Where an exercise loses a disk.
use Rattle.std.specs.Prelude.{ℕ}
use Rattle.ddf_exercise_config.specs.Turns.{Loss}
use Rattle.ddf_exercise_config.specs.Turns.Loss.{OfSecond, OfThird}

-- the slot of the disk that is lost
abbrev pub lost_slot : Loss → ℕ
lost_slot OfSecond = 1
lost_slot OfThird = 2
