-- Steps of a group that write none of an array's sectors.
use Rattle.std.specs.Prelude.{ℕ, List}
use Rattle.ddf_bay.specs.Sectors.{Image}
use Rattle.ddf_array.specs.Volume.{Volume}
use Rattle.ddf_steps.specs.Steps.{Step}
use Rattle.ddf_data_array.specs.Rows.{AreAlikeThroughout}
use Rattle.ddf_group_commands.specs.Written.{AreWritten}

-- whatever the disks hold before, the array's sectors are the same behind them
abbrev pub LieAside : (sizes : List ℕ) → Volume → List Step → Type 0
LieAside sizes volume steps = (before after : Image) → AreWritten sizes before steps after → AreAlikeThroughout volume before after
