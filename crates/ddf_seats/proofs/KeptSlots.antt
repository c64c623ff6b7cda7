-- The slots of disks that a test keeps.
use Rattle.std.proofs.Common.{ℕ, ◌<◌, Bool, true, false, cond, List, [], ◌∷◌, filter}
use Rattle.std.specs.List.{AllByRecursion}
use Rattle.ddf_config.specs.declared.seat.Seat.{Seat}
use Rattle.ddf_seats.specs.declared.seated.Seated.{Seated}
use Rattle.ddf_seats.specs.Seated.{seats_in}
use Rattle.ddf_seats.specs.Changing.{SlotsRise}

kept_above : (slot : ℕ) (test : Seated → Bool) (disks : List Seated) → AllByRecursion (λ (other : Seat). slot < other.slot) (seats_in disks) → AllByRecursion (λ (other : Seat). slot < other.slot) (seats_in (filter test disks))
kept_above slot test [] below = tt
kept_above slot test (disk ∷ disks) below = by (test disk) (kept_above slot test disks below.1)
  where
    by : (b : Bool) → AllByRecursion (λ (other : Seat). slot < other.slot) (seats_in (filter test disks)) → AllByRecursion (λ (other : Seat). slot < other.slot) (seats_in (cond b (disk ∷ filter test disks) (filter test disks)))
    by true rest = (below.0, rest)
    by false rest = rest

-- The slots of those that a test keeps rise where those of all do.
pub kept_rise : (test : Seated → Bool) (disks : List Seated) → SlotsRise (seats_in disks) → SlotsRise (seats_in (filter test disks))
kept_rise test [] rise = tt
kept_rise test (disk ∷ disks) rise = by (test disk) (above disks rise.0) (kept_rise test disks rise.1)
  where
    above : (others : List Seated) → AllByRecursion (λ (other : Seat). disk.seat.slot < other.slot) (seats_in others) → AllByRecursion (λ (other : Seat). disk.seat.slot < other.slot) (seats_in (filter test others))
    above others below = kept_above disk.seat.slot test others below

    by : (b : Bool) → AllByRecursion (λ (other : Seat). disk.seat.slot < other.slot) (seats_in (filter test disks)) → SlotsRise (seats_in (filter test disks))
        → SlotsRise (seats_in (cond b (disk ∷ filter test disks) (filter test disks)))
    by true below rest = (below, rest)
    by false below rest = rest
