-- What recovery does to what the slots show, whichever it is: the loss of absent members, the leaders' configuration for seats that lag, or nothing.
use Rattle.std.proofs.Common.{◌≡◌, ℕ, true, false, List, length, Some}
use Rattle.std.specs.Prelude.{slice_get}
use Rattle.ddf_bay.specs.Sectors.{Image, IsLeft}
use Rattle.ddf_bay.specs.State.{BayState}
use Rattle.ddf_view.specs.View.{View, view_of}
use Rattle.ddf_history.specs.Reading.{Scene}
use Rattle.ddf_history.specs.Reading.Shown.{One}
use Rattle.ddf_history.specs.Issued.{Past, acknowledge, is_away}
use Rattle.ddf_history.specs.Groups.{groups, has_current}
use Rattle.ddf_history.specs.Promise.{IsKept}
use Rattle.ddf_history.specs.Scenes.{scene_of}
use Rattle.ddf_history.specs.Steps.{AreWritten, IsLast}
use Rattle.ddf_seats.specs.declared.seated.Seated.{Seated}
use Rattle.ddf_recovery.specs.Committed.{MayRecover, group_recovered, recovery_slots}
use Rattle.ddf_steps.specs.Committed.{slots_of, synced}
use Rattle.ddf_seats.specs.Group.{GroupValue}
use Rattle.ddf_recovery.specs.Ready.{ReadyValue}
use Rattle.ddf_seats.specs.Seated.{seated}
use Rattle.ddf_history_steps.specs.Kept.{is_slot}
use Rattle.ddf_history_steps.specs.AtEnd.{IsMember}
use Rattle.ddf_history_steps.proofs.Stops.{AreInTurn}

-- With this list of changes, and with its last one acknowledged, each slot shows what it should: whatever the sure slots leave, while new copies are written over it,
-- and once all of them were.
pub record IsRun (group : List ℕ) {D : Type 0} (state : BayState D) (found : GroupValue) (ready : ReadyValue) (may : MayRecover state found ready)
    (during : Past (groups group)) (last : ℕ) : Type 0 where
  -- what the slots show that are written
  pub new : ℕ → View
  pub news : (place slot : ℕ) → slice_get (recovery_slots ready) place ≡ Some slot → new slot ≡ view_of (may.seat place).new
  pub begins : (image : Image) → IsLeft (synced state (slots_of found.seats)).may_hold image → IsKept during (scene_of state.sizes image)
  pub goes : (image : Image) → IsLeft (synced state (slots_of found.seats)).may_hold image
      → (after : Scene View) → AreWritten (is_slot (recovery_slots ready)) new (scene_of state.sizes image) after
      → AreInTurn (recovery_slots ready) new (scene_of state.sizes image) after → IsKept during after
  pub ends : (image : Image) → IsLeft (synced state (slots_of found.seats)).may_hold image
      → (after : Scene View) → AreWritten (is_slot (recovery_slots ready)) new (scene_of state.sizes image) after
      → ((slot : ℕ) → is_slot (recovery_slots ready) slot ≡ true → after slot ≡ One (new slot)) → IsKept (acknowledge during last) after
  pub is_last : IsLast (acknowledge during last).changes last (group_recovered found ready.recovery).config
  pub same_slots : during.slots ≡ length state.sizes
  pub same_group : (group_recovered found ready.recovery).config.group ≡ group
  pub are_seated : (slot : ℕ) → is_away during slot ≡ false → has_current (group_recovered found ready.recovery).config (during.disk slot) ≡ true
      → is_slot (slots_of (group_recovered found ready.recovery).seats) slot ≡ true
  pub are_members : (place : ℕ) (disk : Seated) → slice_get (seated (group_recovered found ready.recovery)) place ≡ Some disk
      → IsMember (group_recovered found ready.recovery).config disk
