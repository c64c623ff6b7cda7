-- Rounds of a rebuild that go on from the rows of a position that count.
use Rattle.std.specs.Prelude.{ℕ, ◌≤◌, List}
use Rattle.ddf_array.specs.declared.part.Part.{Part}
use Rattle.ddf_array.specs.declared.place.Place.{Place}
use Rattle.ddf_array.specs.Volume.{Volume}
use Rattle.ddf_rebuild.specs.Target.{IsTarget}
use Rattle.ddf_repair.specs.declared.first.Target.{Target}
use Rattle.ddf_data_array.specs.Rows.{GoesOnBehind}
use Rattle.ddf_rebuild_command.specs.Rounds.{Round, row_before}

-- The rows before the first that they fill count, and they fill none that counts.
pub record GoOn (volume : Volume) (target : Target) (from : ℕ) (rounds : List Round) : Type 0 where
  pub counted : (part : Part) (place : Place) (slot : ℕ) → IsTarget volume target.element target.position part place slot → from ≤ place.row
  pub behind : (number : ℕ) → GoesOnBehind volume target.element target.position (row_before from rounds number)
