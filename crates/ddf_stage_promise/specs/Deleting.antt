-- What the deletion of an array asks of gates that stand open (profile).
use Rattle.std.specs.Prelude.{◌≡◌, ℕ, false, List, Some, slice_get}
use Rattle.ddf_bay.specs.Sectors.{Image}
use Rattle.ddf_config.specs.declared.seat.Seat.{Seat}
use Rattle.ddf_config.specs.Configuration.{Configuration}
use Rattle.ddf_config.specs.Members.{same_guid}
use Rattle.ddf_array.specs.Viewing.{view_of}
use Rattle.ddf_stage.specs.declared.desk.Desk.{Desk}
use Rattle.ddf_stage.specs.declared.desk.Staged.{Staged}
use Rattle.ddf_stage.specs.Laid.{on_desk}
use Rattle.ddf_stage_promise.specs.Footing.{guids_of}

-- The view of another array that an open gate names is what it was: it wasn't refused for the extents of the one that is gone.
abbrev pub StaysViewed : (gone : List ℕ) → (last next : Configuration) → List Desk → Image → Type 0
StaysViewed gone last next desks image =
    (k : ℕ) (desk : Desk) (staged : Staged) → slice_get desks k ≡ Some desk → on_desk (guids_of last) image desk ≡ Some staged → same_guid gone staged.gate.array ≡ false
    → (seats : List Seat) → view_of next staged.gate.array seats ≡ view_of last staged.gate.array seats
