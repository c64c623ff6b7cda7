-- What several crates above ask of the definitions of this one.
use Rattle.std.proofs.Common.{List, Ok, ℕ, ◌≡◌}
use Rattle.ddf_config.specs.Configuration.{Configuration}
use Rattle.ddf_config.specs.Extents.{extents}
use Rattle.ddf_config.specs.declared.seat.Seat.{Seat}
use Rattle.ddf_array.proofs.Usable.{complete, shapes}
use Rattle.ddf_array.proofs.Viewed.{from_view}
use Rattle.ddf_array.specs.Viewing.{view_of}
use Rattle.ddf_array.specs.Volume.{IsVolume, Volume}
use Rattle.ddf_data_group.specs.Over.{IsOver}

-- a view is of an array over its seats
pub view_over : (config : Configuration) (guid : List ℕ) (seats : List Seat) (v : Volume) → IsVolume v → (e : view_of config guid seats ≡ Ok v) → IsOver seats (from_view config guid seats v e).array v
view_over config guid seats v known e =
    let view = from_view config guid seats v e in
    record {
      tiers_are = view.tiers_are;
      parts_are = view.parts_are;
      marked_is = view.marked_is;
      is_volume = known;
      complete = complete config.members seats (extents config.arrays) guid view.array view.usable;
      shapes = shapes config.members seats (extents config.arrays) guid view.array view.usable;
    }
