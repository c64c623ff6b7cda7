-- A settled group of which one disk is left out, and the group once that is lost.
use Rattle.std.specs.Prelude.{ℕ, ◌==◌, not, [], ◌∷◌, filter, slice_set, None}
use Rattle.ddf_config.specs.declared.seat.Seat.{Seat}
use Rattle.ddf_seats.specs.Group.{GroupValue}
use Rattle.ddf_steps.specs.Ready.{group_after}
use Rattle.ddf_recovery.specs.Recovery.{lost_step}

-- the group as it is found without the disk of a seat, which is absent
abbrev pub without_seat : GroupValue → Seat → GroupValue
without_seat group seat = record {
  config = group.config;
  seats = filter (λ other. not (other.slot == seat.slot)) group.seats;
  absent = seat.reference ∷ [];
  lagging = [];
  newest = slice_set group.newest seat.slot None;
}

-- the group once the loss of its absent members was written: nothing is absent and nothing lags any more
abbrev pub group_lost : (timestamp : ℕ) → GroupValue → GroupValue
group_lost timestamp group = group_after (record group { absent = []; lagging = [] }) (lost_step timestamp group)
