-- Calls that write slots of other disks alone keep the data of a group.
use Rattle.std.proofs.Common.{◌≡◌, ℕ, ◌<◌, ◌^◌, Bool, true, false, not, List, Some, refl, if◌then◌else◌}
use Rattle.std.specs.Map.{lookup}
use Rattle.ddf_lemmas.proofs.Tests.{and_second}
use Rattle.ddf_bay.specs.Sectors.{Image, IsLeft}
use Rattle.ddf_bay.specs.State.{BayState}
use Rattle.ddf_config.specs.declared.array.Array.{Array}
use Rattle.ddf_config.specs.Configuration.{Configuration}
use Rattle.ddf_config.specs.Members.{same_guid}
use Rattle.ddf_array.specs.Sound.{AreSectors}
use Rattle.ddf_array.specs.Volume.{Volume}
use Rattle.ddf_data_array.specs.Rows.{AreAlikeThroughout}
use Rattle.ddf_data_group.specs.Grouped.{Promises}
use Rattle.ddf_data_group.specs.Over.{IsOver}
use Rattle.ddf_data_group.proofs.Clearly.{below_floor}
use Rattle.ddf_history.specs.Groups.{groups, has_current}
use Rattle.ddf_history.specs.Issued.{IsSince, Past}
use Rattle.ddf_history_steps.specs.Kept.{is_slot}
use Rattle.ddf_data_history.specs.Carried.{IsAllData}
use Rattle.ddf_data_history.specs.Promised.{KeepsData, is_seat, seats_in}
use Rattle.ddf_data_history.proofs.Seats.{is_at}
use Rattle.ddf_data_history.proofs.Steps.{by_records}

module _ (group : List ℕ) (floor : ℕ → ℕ) (small : (slot : ℕ) → floor slot < 2 ^ 64) (past : Past (groups group)) (promises : Promises) {D : Type 0} (old : BayState D) (written : List ℕ)
    (none : (slot : ℕ) → is_slot written slot ≡ true → (number : ℕ) (config : Configuration) → IsSince past.changes number config → has_current config (past.disk slot) ≡ true → ⊥)
    (held : IsLeft old.may_hold old.held) (all : IsAllData group past floor old promises) (image : Image) (are : AreSectors image)
    (others : (s l : ℕ) → is_slot written s ≡ false → old.may_hold s l (image s l)) where
  -- what stands in the other slots then, with what the written ones held
  before : Image
  before s l = if is_slot written s then old.held s l else image s l

  before_left : IsLeft old.may_hold before
  unfolding before
  before_left s l = by (is_slot written s) refl
    where
      by : (b : Bool) → is_slot written s ≡ b → old.may_hold s l (if b then old.held s l else image s l)
      by true here = held s l
      by false other = others s l other

  -- No sector of an array lies on a written slot.
  alike : (number : ℕ) (config : Configuration) → IsSince past.changes number config → (guid : List ℕ) (array : Array) (volume : Volume) → lookup (same_guid guid) config.arrays ≡ Some array
      → IsOver (seats_in group past floor config) array volume → AreAlikeThroughout volume before image
  unfolding before
  alike number config since guid array volume found over element position sector slot lba lies =
      let below = below_floor (seats_in group past floor config) array volume over element position sector slot lba lies in
      let at = is_at floor past.disk (is_seat group past config) past.slots below.0 below.1 slot below.2 below.3 in
      by (is_slot written slot) refl (and_second (not (past.lost slot)) (has_current config (past.disk slot)) at.is_here)
    where
      by : (b : Bool) → is_slot written slot ≡ b → has_current config (past.disk slot) ≡ true → (if b then old.held slot lba else image slot lba) ≡ image slot lba
      by true here current = absurd (none slot here number config since current)
      by false other current = refl

  pub aside_keeps : KeepsData group past floor image promises
  aside_keeps = by_records group floor small past before promises (all before before_left) image are alike
