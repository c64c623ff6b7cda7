-- An assembled group of which nothing is absent and nothing lags is settled.
use Rattle.std.proofs.Common.{◌≡◌, ℕ, false, eqb, List, [], ◌∷◌, Some, ap}
use Rattle.std.specs.Prelude.{slice_get}
use Rattle.std.specs.List.{AllByRecursion, list_any}
use Rattle.ddf_lemmas.proofs.Lists.{all_weaken}
use Rattle.ddf_copy.specs.declared.newest_copy.Newest.TheVariants.{Level}
use Rattle.ddf_seats.specs.declared.seated.Seated.{Seated}
use Rattle.ddf_assembly.specs.Assembled.{IsAsGroup, IsAssembledGroup}
use Rattle.ddf_seats.specs.Group.{GroupValue}
use Rattle.ddf_seats.specs.Leading.{lags}
use Rattle.ddf_seats.specs.Seated.{seated}
use Rattle.ddf_assembly.specs.Settled.{IsLevelIn, IsSettledGroup}
use Rattle.ddf_seats.specs.Changing.{AreCopies, IsOfGroup}
use Rattle.ddf_assembly.proofs.Leaders.{held_on}
use Rattle.ddf_assembly.proofs.SettledSeats.{same_group, same_sequence}

module _ (group : GroupValue) (is : IsAssembledGroup group) (none_absent : group.absent ≡ []) (none_lags : group.lagging ≡ []) where
  -- No disk lags.
  none_lagging : (disk : Seated) → lags group disk ≡ false
  none_lagging disk = ap (λ (slots : List ℕ). list_any (λ slot. eqb slot disk.seat.slot) slots) none_lags

  as_group : AllByRecursion (IsAsGroup group) (seated group)
  as_group = all_weaken (λ disk. lags group disk ≡ false → IsAsGroup group disk) (IsAsGroup group) (λ disk has. has (none_lagging disk)) (seated group) is.unless_lags

  of_group : (disks : List Seated) → AreCopies disks → AllByRecursion (IsAsGroup group) disks → AllByRecursion (IsOfGroup group.config) disks
  of_group [] are alike = tt
  of_group (disk ∷ disks) are alike = (record { is_copy = are.0; same_group = same_group group.config disk.copy alike.0.is_shown }, of_group disks are.1 alike.1)

  -- It is settled.
  pub settled : IsSettledGroup group
  settled = record {
    none_absent = none_absent;
    none_lags = none_lags;
    slots_rise = is.slots_rise;
    are_seated = is.are_seated;
    can_be_changed = record { of_group = of_group (seated group) is.are_copies as_group; can_hold = held_on group is };
    are_level = all_weaken (IsAsGroup group) (IsLevelIn group) (λ disk alike. record { is_newest = alike.is_newest; is_shown = alike.is_shown; same_sequence = same_sequence group.config disk.copy alike.is_shown }) (seated group) as_group;
  }

-- ---- what follows

-- In a settled group the newest copy of each seat is the level one of its disk.
pub levels : (group : GroupValue) → IsSettledGroup group → AllByRecursion (λ (disk : Seated). slice_get group.newest disk.seat.slot ≡ Some (Some (Level disk.copy))) (seated group)
levels group is = all_weaken (IsLevelIn group) (λ (disk : Seated). slice_get group.newest disk.seat.slot ≡ Some (Some (Level disk.copy))) (λ disk level. level.is_newest) (seated group) is.are_level

-- The copies of its disks are of its sequence number.
pub sequences : (group : GroupValue) → IsSettledGroup group → AllByRecursion (λ (disk : Seated). disk.copy.header.sequence ≡ group.config.sequence) (seated group)
sequences group is = all_weaken (IsLevelIn group) (λ (disk : Seated). disk.copy.header.sequence ≡ group.config.sequence) (λ disk level. level.same_sequence) (seated group) is.are_level
