-- Whole histories of a group's data.
use Rattle.std.specs.Prelude.{◌≡◌, ◌⊎◌, ℕ, ◌<◌, ◌≤◌, Bool, true, List, [], ◌∷◌, Some}
use Rattle.std.specs.Map.{lookup}
use Rattle.ddf_bay.specs.Sectors.{Image}
use Rattle.ddf_config.specs.declared.array.Array.{Array}
use Rattle.ddf_config.specs.Configuration.{Configuration}
use Rattle.ddf_config.specs.Members.{same_guid}
use Rattle.ddf_config.specs.States.{is_marked}
use Rattle.ddf_plan.specs.declared.change.Change.{Change}
use Rattle.ddf_plan.specs.Changes.{changed_at}
use Rattle.ddf_array.specs.Volume.{Volume}
use Rattle.ddf_array.specs.Sound.{AreSectors}
use Rattle.ddf_data_array.specs.Allowed.{Allowed}
use Rattle.ddf_data_array.specs.History.{IsStep as IsArrayStep}
use Rattle.ddf_data_array.specs.Rows.{AreAlikeThroughout}
use Rattle.ddf_data_group.specs.Agreeing.{AgreeOn}
use Rattle.ddf_data_group.specs.Kept.{KeepsArray}
use Rattle.ddf_data_group.specs.Over.{IsOver, absent_in}
use Rattle.ddf_data_group.specs.Grouped.{MayChange, Promises}
use Rattle.ddf_data_group.specs.Clearing.{IsSameButMark}
use Rattle.ddf_history.specs.Issued.{Past, IsSince, acknowledge, give_back, issue, take_off, with_slots}
use Rattle.ddf_history.specs.Steps.{IsLast}
use Rattle.ddf_history.specs.Groups.{groups, has_missing}
use Rattle.ddf_data_history.specs.Promised.{AreAlone, IsAlone, KeepsData, OthersStay, seats_in, with_promise}

module _ (group : List ℕ) where
  -- One image of those that a stop may leave at a moment, what was issued and lost by then, and what is promised of the arrays. A stop changes
  -- none of this: the bay goes on as an image that it may leave.
  pub record Moment : Type 0 where
    pub past : Past (groups group)
    pub image : Image
    pub promises : Promises

  module _ (floor : ℕ → ℕ) where
    -- ---- a change is issued behind the last

    -- a change of the last configuration, with what it asks for
    pub record IsPlanned (old : Moment) (last next : Configuration) : Type 0 where
      pub change : Change
      pub sequence : ℕ
      pub rises : last.sequence < sequence
      pub is_next : next ≡ changed_at last change sequence
      pub may : MayChange last (seats_in group old.past floor last) old.image old.promises change

    -- An array after members joined is one from before, with the seats of its own members; its low state may be another.
    pub record IsStaying (old : Moment) (last next : Configuration) (before after : Array) : Type 0 where
      pub same : IsSameButMark before after
      pub same_mark : is_marked after ≡ is_marked before
      pub agree : AgreeOn after.elements last.members next.members (seats_in group old.past floor last) (seats_in group old.past floor next)

    -- Members and arrays of another group join: each array of which something is promised was there, and stays.
    pub record IsJoin (old : Moment) (last next : Configuration) : Type 0 where
      pub stays : (guid : List ℕ) (allowed : Allowed) (after : Array) → old.promises guid ≡ Some allowed → lookup (same_guid guid) next.arrays ≡ Some after
          → (before : Array) × ((lookup (same_guid guid) last.arrays ≡ Some before) × IsStaying old last next before after)

    pub record IsIssue (old new : Moment) : Type 0 where
      pub number : ℕ
      pub last : Configuration
      pub is_last : IsLast old.past.changes number last
      pub next : Configuration
      pub alone : AreAlone group old.past
      pub how : IsPlanned old last next ⊎ IsJoin old last next
      pub is_issued : new.past ≡ issue old.past next
      pub same_image : new.image ≡ old.image
      pub same_promises : new.promises ≡ old.promises

    -- ---- changes are acknowledged, or taken off the end of the list

    pub record IsSettling (old new : Moment) : Type 0 where
      pub number : ℕ
      pub how : ((old.past.changes.acked ≤ number) × (new.past ≡ acknowledge old.past number)) ⊎ (new.past ≡ take_off old.past number)
      pub same_image : new.image ≡ old.image
      pub same_promises : new.promises ≡ old.promises

    -- ---- slots

    -- slots are lost
    pub record IsLoss (old new : Moment) : Type 0 where
      pub lost : ℕ → Bool
      pub returned : ℕ → Bool
      pub stay_lost : (slot : ℕ) → old.past.lost slot ≡ true → lost slot ≡ true
      pub alone : AreAlone group old.past
      pub is_lost : new.past ≡ with_slots old.past lost returned
      pub same_image : new.image ≡ old.image
      pub same_promises : new.promises ≡ old.promises

    -- a slot returns whose member is missing
    pub record IsReturn (old new : Moment) : Type 0 where
      pub slot : ℕ
      pub is_missing : (number : ℕ) (config : Configuration) → IsSince old.past.changes number config → has_missing config (old.past.disk slot) ≡ true
      pub is_back : new.past ≡ give_back old.past slot
      pub same_image : new.image ≡ old.image
      pub same_promises : new.promises ≡ old.promises

    -- ---- sectors

    -- records are written: no sector of an array
    pub record IsRecords (old new : Moment) : Type 0 where
      pub same_past : new.past ≡ old.past
      pub same_promises : new.promises ≡ old.promises
      pub are_sectors : AreSectors new.image
      pub stay : (number : ℕ) (config : Configuration) → IsSince old.past.changes number config
          → (guid : List ℕ) (array : Array) (volume : Volume) → lookup (same_guid guid) config.arrays ≡ Some array → IsOver (seats_in group old.past floor config) array volume
          → AreAlikeThroughout volume old.image new.image

    -- Blocks of an array are written, it is resynced or rebuilt, or counts as consistent, once all that was issued is acknowledged. Nothing else
    -- changes.
    pub record IsData (old new : Moment) : Type 0 where
      pub same_past : new.past ≡ old.past
      pub config : Configuration
      pub is_alone : IsAlone group old.past config
      pub guid : List ℕ
      pub before : Allowed
      pub after : Allowed
      pub promised : old.promises guid ≡ Some before
      pub are_promises : new.promises ≡ with_promise old.promises guid (Some after)
      pub are_sectors : AreSectors new.image
      pub step : (array : Array) (volume : Volume) → lookup (same_guid guid) config.arrays ≡ Some array → IsOver (seats_in group old.past floor config) array volume
          → IsArrayStep
          (record { volume = volume; is_absent = absent_in config.members (seats_in group old.past floor config) array.elements; image = old.image; allowed = before })
          (record { volume = volume; is_absent = absent_in config.members (seats_in group old.past floor config) array.elements; image = new.image; allowed = after })
      pub others : OthersStay group config (seats_in group old.past floor config) old.promises guid old.image new.image

    -- ---- promises

    -- Nothing is promised any more of some arrays: one that was accepted though it wasn't consistent, or that is deleted.
    pub record IsDropped (old new : Moment) : Type 0 where
      pub same_past : new.past ≡ old.past
      pub same_image : new.image ≡ old.image
      pub fewer : (guid : List ℕ) (allowed : Allowed) → new.promises guid ≡ Some allowed → old.promises guid ≡ Some allowed

    -- Something is promised of an array from now on: what it keeps. A new one may have any bytes; a consistent one keeps what it has.
    pub record IsPromised (old new : Moment) : Type 0 where
      pub same_past : new.past ≡ old.past
      pub same_image : new.image ≡ old.image
      pub guid : List ℕ
      pub allowed : Allowed
      pub are_promises : new.promises ≡ with_promise old.promises guid (Some allowed)
      pub begins : (number : ℕ) (config : Configuration) → IsSince old.past.changes number config → (array : Array) → lookup (same_guid guid) config.arrays ≡ Some array
          → KeepsArray config.members (seats_in group old.past floor config) array old.image allowed

    -- ---- histories

    abbrev pub IsStep : Moment → Moment → Type 0
    IsStep old new = IsIssue old new ⊎ IsSettling old new ⊎ IsLoss old new ⊎ IsReturn old new ⊎ IsRecords old new ⊎ IsData old new ⊎ IsDropped old new ⊎ IsPromised old new

    abbrev pub IsHistory : Moment → List Moment → Type 0
    IsHistory start [] = Unit {0}
    IsHistory start (next ∷ rest) = IsStep start next × IsHistory next rest

    abbrev pub Keeps : Moment → Type 0
    Keeps moment = KeepsData group moment.past floor moment.image moment.promises
