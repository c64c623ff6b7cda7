-- Changes that leave each position its disk and its start.
use Rattle.std.specs.Prelude.{Bool, true, false}
use Rattle.ddf_plan.specs.declared.change.Change.{Change}
use Rattle.ddf_plan.specs.declared.change.Change.TheVariants.{Mark, Unmark, Rewind, Progress, Finish}

abbrev pub keeps_places : Change → Bool
keeps_places (Mark guid) = true
keeps_places (Unmark guid init) = true
keeps_places (Rewind guid) = true
keeps_places (Progress guid element position row) = true
keeps_places (Finish guid element position) = true
keeps_places other = false
