-- Whole histories of a group's data with gates that may stand open (profile).
use Rattle.std.specs.Prelude.{◌≡◌, ◌⊎◌, ℕ, ◌<◌, Bool, true, List, [], ◌∷◌, Some, None, Ok, Err, slice_get}
use Rattle.std.specs.Map.{lookup}
use Rattle.ddf_bay.specs.Sectors.{Image}
use Rattle.ddf_config.specs.declared.array.Array.{Array}
use Rattle.ddf_config.specs.declared.refusal.Refusal.{Refusal}
use Rattle.ddf_config.specs.Configuration.{Configuration}
use Rattle.ddf_config.specs.Members.{same_guid}
use Rattle.ddf_plan.specs.declared.change.Change.TheVariants.{Delete, Lose}
use Rattle.ddf_plan.specs.Changes.{changed_at}
use Rattle.ddf_array.specs.Sound.{AreSectors}
use Rattle.ddf_array.specs.Viewing.{view_of}
use Rattle.ddf_array.specs.Volume.{Volume}
use Rattle.ddf_data_array.specs.Allowed.{Allowed, once_written, while_written}
use Rattle.ddf_data_group.specs.Grouped.{Promises}
use Rattle.ddf_data_group.specs.Kept.{KeepsArray}
use Rattle.ddf_history.specs.Groups.{groups}
use Rattle.ddf_history.specs.Issued.{Past, IsSince, issue}
use Rattle.ddf_data_history.specs.Promised.{AreAlone, with_promise}
use Rattle.ddf_data_history.specs.History.{Moment, IsDropped, IsLoss, IsReturn, IsSettling, IsStep as IsStepWithNone}
use Rattle.ddf_stage.specs.declared.desk.Desk.{Desk}
use Rattle.ddf_stage.specs.declared.desk.Staged.{Staged}
use Rattle.ddf_stage.specs.Laid.{first_open, on_desk}
use Rattle.ddf_stage.specs.Staging.{ClosedGates, IsCell, IsThere}
use Rattle.ddf_stage_data.specs.Moments.{IsMoment, IsStage, value_of}
use Rattle.ddf_stage_promise.specs.Cells.{HasVolumes, cells_of}
use Rattle.ddf_stage_promise.specs.Closing.{AreToClose, SameButRecords}
use Rattle.ddf_stage_promise.specs.Deleting.{StaysViewed}
use Rattle.ddf_stage_promise.specs.Footing.{Footing, guids_of}
use Rattle.ddf_stage_promise.specs.Joining.{AllStay, NoneForPromised}
use Rattle.ddf_stage_promise.specs.Staged.{KeepsStaged, NoneOpen, ShowsOne, arrays_on, desks_on, does_count, laid_over, losing, seats_on}
use Rattle.ddf_stage_promise.specs.Writing.{MayBeStaged}

module _ (group : List ℕ) (footing : Footing) where
  -- Data are kept with what is staged, and all gates that count and stand open show one thing.
  pub record KeepsShown (past : Past (groups group)) (image : Image) (promises : Promises) : Type 0 where
    pub keeps : KeepsStaged group footing past image promises
    pub shows : ShowsOne group footing past image

  abbrev pub Keeps : Moment group → Type 0
  Keeps moment = KeepsShown moment.past moment.image moment.promises

  -- ---- with no gate open that counts

  -- all that happens to a group whose engine has no stage
  pub record IsPlain (old new : Moment group) : Type 0 where
    pub none : NoneOpen group footing old.past old.image
    pub none_behind : NoneOpen group footing new.past new.image
    pub alone : AreAlone group new.past
    pub step : IsStepWithNone group footing.floor old new

  -- ---- with gates open

  -- records are written aside of desks
  pub record IsAside (old new : Moment group) : Type 0 where
    pub same_past : new.past ≡ old.past
    pub same_promises : new.promises ≡ old.promises
    pub are_sectors : AreSectors new.image
    pub same : SameButRecords footing old.image new.image

  -- gates that count for nothing are closed
  pub record IsUncounted (old new : Moment group) : Type 0 where
    pub same_past : new.past ≡ old.past
    pub same_promises : new.promises ≡ old.promises
    pub are_sectors : AreSectors new.image
    pub same_below : (slot lba : ℕ) → lba < footing.floor slot → new.image slot lba ≡ old.image slot lba
    pub same_shown : (number : ℕ) (config : Configuration) → IsSince old.past.changes number config → (k : ℕ) (desk : Desk) → slice_get (desks_on group footing old.past config) k ≡ Some desk
        → on_desk (arrays_on group footing old.past number config) new.image desk ≡ on_desk (arrays_on group footing old.past number config) old.image desk

  -- members are counted as lost, or as failed
  pub record IsCountedLost (old new : Moment group) : Type 0 where
    pub number : ℕ
    pub last : Configuration
    pub is_last : IsSince old.past.changes number last
    pub references : List ℕ
    pub sequence : ℕ
    pub rises : last.sequence < sequence
    pub known : HasVolumes last
    pub known_behind : HasVolumes (changed_at last (Lose references) sequence)
    pub counts : (does_count footing old.past.changes.own_from number ≡ true)
        ⊎ ((k : ℕ) (desk : Desk) → slice_get (desks_on group footing old.past last) k ≡ Some desk → on_desk (guids_of last) old.image desk ≡ None)
    pub are_sectors : AreSectors old.image
    pub is_issued : new.past ≡ issue old.past (changed_at last (Lose references) sequence)
    pub same_image : new.image ≡ old.image
    pub same_promises : new.promises ≡ old.promises

  -- an array is deleted, that an open gate may name or not
  pub record IsDeleted (old new : Moment group) : Type 0 where
    pub number : ℕ
    pub last : Configuration
    pub is_last : IsSince old.past.changes number last
    pub gone : List ℕ
    pub sequence : ℕ
    pub rises : last.sequence < sequence
    pub known : HasVolumes last
    pub counts : does_count footing old.past.changes.own_from number ≡ true
    pub stays_viewed : StaysViewed gone last (changed_at last (Delete gone) sequence) (desks_on group footing old.past last) old.image
    pub are_sectors : AreSectors old.image
    pub is_issued : new.past ≡ issue old.past (changed_at last (Delete gone) sequence)
    pub same_image : new.image ≡ old.image
    pub same_promises : new.promises ≡ old.promises

  -- members and arrays of another group join, whose gates may stand open for arrays of theirs
  pub record IsJoined (old new : Moment group) : Type 0 where
    pub none : NoneOpen group footing old.past old.image
    pub number : ℕ
    pub last : Configuration
    pub next : Configuration
    pub is_last : IsSince old.past.changes number last
    pub known : HasVolumes next
    pub all_stay : AllStay group footing old.past last next old.promises
    pub shut : NoneForPromised group footing old.past next old.image old.promises
    pub shows_one : ShowsOne group footing (issue old.past next) old.image
    pub are_sectors : AreSectors old.image
    pub is_issued : new.past ≡ issue old.past next
    pub same_image : new.image ≡ old.image
    pub same_promises : new.promises ≡ old.promises

  -- something is promised of an array from now on, with what is staged laid over it
  pub record IsPromisedOver (old new : Moment group) : Type 0 where
    pub same_past : new.past ≡ old.past
    pub same_image : new.image ≡ old.image
    pub guid : List ℕ
    pub allowed : Allowed
    pub are_promises : new.promises ≡ with_promise old.promises guid (Some allowed)
    pub begins : (lost : ℕ → Bool) → ((slot : ℕ) → old.past.lost slot ≡ true → lost slot ≡ true) → (number : ℕ) (config : Configuration) → IsSince old.past.changes number config
        → (array : Array) → lookup (same_guid guid) config.arrays ≡ Some array
        → KeepsArray config.members (seats_on group footing (losing group footing old.past lost) config) array (laid_over group footing (losing group footing old.past lost) number config old.image) allowed

  -- ---- blocks and desks, once all that was issued is acknowledged

  -- the one configuration of a group
  pub record IsOne (past : Past (groups group)) (number : ℕ) (config : Configuration) : Type 0 where
    pub alone : AreAlone group past
    pub is_since : IsSince past.changes number config
    pub only : (n : ℕ) (other : Configuration) → IsSince past.changes n other → (n ≡ number) × (other ≡ config)

  -- A block is staged and written from its stage, from an image where no gate was open. The block has its old bytes or its new ones, and these once each
  -- cell is there and no gate stands open again.
  pub record IsStagedWrite (old new : Moment group) : Type 0 where
    pub same_past : new.past ≡ old.past
    pub are_sectors : AreSectors new.image
    pub before : Image
    pub promised : Promises
    pub before_kept : KeepsStaged group footing old.past before promised
    pub none : NoneOpen group footing old.past before
    pub number : ℕ
    pub config : Configuration
    pub is_one : IsOne old.past number config
    pub known : HasVolumes config
    pub staged : Staged
    pub allowed : Allowed
    pub is_promised : promised staged.gate.array ≡ Some allowed
    pub volume : Volume
    pub is_viewed : view_of config staged.gate.array (seats_on group footing old.past config) ≡ Ok volume
    pub desks : List Desk
    pub may : MayBeStaged footing (arrays_on group footing old.past number config) (desks_on group footing old.past config) desks volume staged before
    pub is_moment : IsMoment (arrays_on group footing old.past number config) desks staged (cells_of volume staged.gate) before new.image
    pub how : (new.promises ≡ with_promise promised staged.gate.array (Some (while_written allowed staged.gate.block (value_of staged ∷ []))))
        ⊎ (IsThere (IsCell (cells_of volume staged.gate) staged) new.image × NoneOpen group footing old.past new.image
        × (new.promises ≡ with_promise promised staged.gate.array (Some (once_written allowed staged.gate.block (value_of staged ∷ [])))))

  -- What stands behind the first open gate is staged again and written to its cells, and the gates are closed.
  pub record IsClosing (old new : Moment group) : Type 0 where
    pub same_past : new.past ≡ old.past
    pub same_promises : new.promises ≡ old.promises
    pub are_sectors : AreSectors new.image
    pub before : Image
    pub before_keeps : KeepsShown old.past before old.promises
    pub number : ℕ
    pub config : Configuration
    pub is_one : IsOne old.past number config
    pub known : HasVolumes config
    pub staged : Staged
    pub is_stage : IsStage staged
    pub is_first : first_open (arrays_on group footing old.past number config) before (desks_on group footing old.past config) ≡ Some staged
    pub volume : Volume
    pub is_viewed : view_of config staged.gate.array (seats_on group footing old.past config) ≡ Ok volume
    pub desks : List Desk
    pub to_close : AreToClose (arrays_on group footing old.past number config) (desks_on group footing old.past config) desks (cells_of volume staged.gate) before
    pub is_moment : IsMoment (arrays_on group footing old.past number config) desks staged (cells_of volume staged.gate) before new.image

  -- The gates are closed, and no cell is written, since the array that they name has no view.
  pub record IsClosingAlone (old new : Moment group) : Type 0 where
    pub same_past : new.past ≡ old.past
    pub same_promises : new.promises ≡ old.promises
    pub are_sectors : AreSectors new.image
    pub before : Image
    pub before_keeps : KeepsShown old.past before old.promises
    pub number : ℕ
    pub config : Configuration
    pub is_one : IsOne old.past number config
    pub staged : Staged
    pub is_stage : IsStage staged
    pub is_first : first_open (arrays_on group footing old.past number config) before (desks_on group footing old.past config) ≡ Some staged
    pub refusal : Refusal
    pub is_refused : view_of config staged.gate.array (seats_on group footing old.past config) ≡ Err refusal
    pub desks : List Desk
    pub among : (k : ℕ) (desk : Desk) → slice_get desks k ≡ Some desk → (j : ℕ) × (slice_get (desks_on group footing old.past config) j ≡ Some desk)
    pub left : (s l : ℕ) → (new.image s l ≡ before s l) ⊎ ClosedGates desks staged s l (new.image s l)

  -- ---- histories

  abbrev pub IsStep : Moment group → Moment group → Type 0
  IsStep old new =
      IsPlain old new ⊎ IsSettling group footing.floor old new ⊎ IsLoss group footing.floor old new ⊎ IsReturn group footing.floor old new ⊎ IsDropped group footing.floor old new
      ⊎ IsAside old new ⊎ IsUncounted old new ⊎ IsCountedLost old new ⊎ IsDeleted old new ⊎ IsJoined old new ⊎ IsPromisedOver old new ⊎ IsStagedWrite old new ⊎ IsClosing old new ⊎ IsClosingAlone old new

  abbrev pub IsHistory : Moment group → List (Moment group) → Type 0
  IsHistory start [] = Unit {0}
  IsHistory start (next ∷ rest) = IsStep start next × IsHistory next rest
