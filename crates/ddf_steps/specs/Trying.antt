-- What holds of the disks of a step, by what holds of those before it.
use Rattle.std.specs.Prelude.{◌≡◌, ℕ, ◌<◌, true, List, [], ◌∷◌, length, map, slice_get, slice_index, Some}
use Rattle.std.specs.List.{AllByRecursion}
use Rattle.ddf_header.specs.declared.reading.Header.{Header}
use Rattle.ddf_copy.specs.Headers.{IsUnder}
use Rattle.ddf_copy.specs.Written.{CanBeCopy}
use Rattle.ddf_config.specs.Configuration.{Configuration}
use Rattle.ddf_view.specs.Shows.{shows}
use Rattle.ddf_view.specs.View.{view_of}
use Rattle.ddf_rewrite.specs.Before.{Before}
use Rattle.ddf_rewrite.specs.Hold.{AreHeld, IsHoldable}
use Rattle.ddf_update.specs.declared.prepared.Mode.TheVariants.{Change}
use Rattle.ddf_update.specs.declared.prepared.Prepared.{Prepared}
use Rattle.ddf_update.specs.Prepared.{IsPrepared}
use Rattle.ddf_seats.specs.declared.seated.Seated.{Seated}
use Rattle.ddf_seats.specs.Seated.{seats_in, levelled}
use Rattle.ddf_steps.specs.Steps.{in_order}
use Rattle.ddf_steps.specs.Ready.{ReadyStep}
use Rattle.ddf_seats.specs.Changing.{CanBeChanged, SlotsRise}

-- The copy of each disk shows the configuration.
abbrev pub DoShow : Configuration → List Seated → Type 0
DoShow config disks = AllByRecursion (λ disk. shows config (view_of disk.copy) ≡ true) disks

-- A copy, the leaders' records and a configuration fit the records of a disk.
pub record CanTry (leaders : Before) (config : Configuration) (disk : Seated) : Type 0 where
  pub is_copy : CanBeCopy disk.copy
  pub leaders_held : AreHeld disk.copy.header.geometry leaders
  pub holdable : IsHoldable disk.copy.header.geometry.max_members config

-- The copies of the disks in a slot can stand on it, under an anchor.
abbrev pub StandOn : (slot size : ℕ) → Header → List Seated → Type 0
StandOn slot size anchor disks = AllByRecursion (λ disk. disk.seat.slot ≡ slot → IsUnder size anchor disk.copy) disks

-- So can those that are written over copies of the group.
abbrev pub StandStill : (slot size : ℕ) → Header → List Seated → Type 0
StandStill slot size anchor disks = AllByRecursion (λ disk. disk.seat.slot ≡ slot → disk.mode ≡ Change → IsUnder size anchor disk.copy) disks

-- An update for each disk, which writes its copy, over one of the disk's own group or of another.
pub record ArePrepared (disks : List Seated) (updates : List Prepared) : Type 0 where
  pub counted : length updates ≡ length disks
  pub each : (place : ℕ) (disk : Seated) (update : Prepared) → slice_get disks place ≡ Some disk → slice_get updates place ≡ Some update → IsPrepared disk.copy disk.last disk.mode update

-- ---- slots

-- A disk's slot is one of these sizes, and its copy can stand there.
pub record HasPlace (sizes : List ℕ) (disk : Seated) : Type 0 where
  pub there : disk.seat.slot < length sizes
  pub anchor : Header
  pub under : IsUnder (slice_index sizes disk.seat.slot) anchor disk.copy

-- ---- a step

-- What holds of the disks of a step, by what holds of those before it: further changes may be tried on them, their copies show the step's
-- configuration, each has its update, they are in the same order, and each copy can stand where the one before it can; under the same
-- anchor, where that one is of the group.
pub record Follows (disks : List Seated) (one : ReadyStep) : Type 0 where
  pub can_be_changed : CanBeChanged one.step.config one.step.disks
  pub show : DoShow one.step.config one.step.disks
  pub are_prepared : ArePrepared (in_order one.step.disks) one.updates
  pub slots_rise : SlotsRise (seats_in disks) → SlotsRise (seats_in one.step.disks)
  pub have_places : (sizes : List ℕ) → AllByRecursion (HasPlace sizes) disks → AllByRecursion (HasPlace sizes) one.step.disks
  pub stand_on : (slot size : ℕ) (anchor : Header) → StandOn slot size anchor disks → StandStill slot size anchor one.step.disks

-- each step follows on the one before it
abbrev pub AreFollowing : List Seated → List ReadyStep → Type 0
AreFollowing disks [] = Unit {0}
AreFollowing disks (one ∷ others) = Follows disks one × AreFollowing (map levelled one.step.disks) others
