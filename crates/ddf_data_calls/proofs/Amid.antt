-- While blocks of an array are written, and once they are, the data of its group are kept: of the one configuration that the group has.
use Rattle.std.proofs.Common.{◌≡◌, ◌⊎◌, inl, inr, ⊎_elim, ℕ, ◌<◌, ◌^◌, Bool, true, false, List, Ok, sym}
use Rattle.ddf_bay.specs.Sectors.{Image, IsLeft}
use Rattle.ddf_bay.specs.State.{BayState}
use Rattle.ddf_config.specs.Configuration.{Configuration}
use Rattle.ddf_array.specs.Sound.{AreSectors}
use Rattle.ddf_array.specs.Viewing.{view_of}
use Rattle.ddf_array.specs.Volume.{IsVolume, Volume}
use Rattle.ddf_cells.specs.Alike.{AreAlike}
use Rattle.ddf_rebuild.proofs.Aiming.{cell_lies}
use Rattle.ddf_data_array.specs.Allowed.{Allowed}
use Rattle.ddf_data_array.specs.Changing.{IsWritable}
use Rattle.ddf_data_array.specs.Kept.{IsKeptData}
use Rattle.ddf_data_group.specs.Clear.{ChangesItsCells, IsItsCell}
use Rattle.ddf_data_group.specs.Grouped.{Promises}
use Rattle.ddf_history.specs.Groups.{groups}
use Rattle.ddf_history.specs.Issued.{IsSince, Past}
use Rattle.ddf_data_history.specs.Promised.{IsAlone, KeepsData, seats_in}
use Rattle.ddf_data_history.proofs.Steps.{below_floors}
use Rattle.ddf_data_calls.specs.Promised.{with_allowed}
use Rattle.ddf_data_calls.proofs.Below.{now, now_below, now_gets, now_sectors, was, was_held, was_left}
use Rattle.ddf_data_calls.proofs.Carried.{Carrying, IsGiven}
use Rattle.ddf_data_calls.proofs.OneArray as one

module _ (carrying : Carrying) (group : List ℕ) (floor : ℕ → ℕ) (small : (slot : ℕ) → floor slot < 2 ^ 64) (past : Past (groups group)) (config : Configuration) (alone : IsAlone group past config)
    (number : ℕ) (since : IsSince past.changes number config) (guid : List ℕ) (v : Volume) (view : view_of config guid (seats_in group past floor config) ≡ Ok v) (known : IsVolume v) (writable : IsWritable v)
    (promises : Promises) {D : Type 0} (old : BayState D) (told : IsLeft old.may_hold old.held) (whole : AreSectors old.held)
    (before_keeps : (image : Image) → IsLeft old.may_hold image → KeepsData group past floor image promises)
    (here : ℕ → Bool) (cells_on : (s l : ℕ) → IsItsCell v s l → (here s ≡ true) × (l < floor s)) where
  -- what the disks held, as far as it is of the array
  was_alike : (image : Image) → AreAlike v old.held (was old floor here image)
  was_alike image slot lba cell =
      let on = cells_on slot lba (record { element = cell.element; position = cell.position; sector = cell.sector; lies = cell_lies v slot lba cell }) in
      sym (was_held old floor here image slot lba on.0)

  now_alike : (image : Image) → AreAlike v image (now old floor here image)
  now_alike image slot lba cell =
      let on = cells_on slot lba (record { element = cell.element; position = cell.position; sector = cell.sector; lies = cell_lies v slot lba cell }) in
      now_below old floor here image slot lba on.1

  module _ (image : Image) (are : AreSectors image) (beside : (s l : ℕ) → here s ≡ false → l < floor s → old.may_hold s l (image s l))
      (given : (s l : ℕ) → here s ≡ true → l < floor s → (image s l ≡ old.held s l) ⊎ carrying.Gives v old.held s l (image s l)) where
    given_now : IsGiven (carrying.Gives v (was old floor here image)) (was old floor here image) (now old floor here image)
    given_now =
        now_gets old floor here image (carrying.Gives v (was old floor here image))
        (λ s l there below. ⊎_elim inl (λ gives. inr (carrying.same v known old.held (was old floor here image) (was_alike image) s l (image s l) gives)) (given s l there below))

    changes : ChangesItsCells v (was old floor here image) (now old floor here image)
    changes s l = ⊎_elim inl (λ gives. inr (carrying.its v known (was old floor here image) s l (now old floor here image s l) gives)) (given_now s l)

    kept_was : KeepsData group past floor (was old floor here image) promises
    kept_was = before_keeps (was old floor here image) (was_left old floor here image told beside)

    are_now : AreSectors (now old floor here image)
    are_now = now_sectors old floor here image are whole

    by : (next : Allowed → Allowed) → ((is_absent : ℕ → ℕ → Bool) (allowed : Allowed) → IsKeptData is_absent v (was old floor here image) allowed → IsKeptData is_absent v (now old floor here image) (next allowed))
        → KeepsData group past floor image (with_allowed next guid promises)
    by next step =
        below_floors group floor small past (now old floor here image) (with_allowed next guid promises)
        (one.becomes group floor small past config alone guid v view known (was old floor here image) (now old floor here image) promises kept_was are_now changes writable next
        (λ allowed promised. step (one.absent group floor small past config alone guid v view known) allowed
        (one.own_kept group floor small past config alone guid v view known (was old floor here image) promises kept_was number since allowed promised)))
        image are (now_below old floor here image)

    -- on the way
    pub amid_keeps : KeepsData group past floor image (with_allowed carrying.next guid promises)
    amid_keeps = by carrying.next (λ is_absent allowed kept. carrying.amid is_absent v known (one.apart group floor small past config alone guid v view known) writable
        (was old floor here image) (now old floor here image) allowed kept given_now are_now)

    -- and once it is done
    pub done_keeps : carrying.Holds v image → KeepsData group past floor image (with_allowed carrying.last guid promises)
    done_keeps holds = by carrying.last (λ is_absent allowed kept. carrying.done is_absent v known (one.apart group floor small past config alone guid v view known) writable
        (was old floor here image) (now old floor here image) allowed kept given_now are_now (carrying.holds_same v known image (now old floor here image) (now_alike image) holds))
