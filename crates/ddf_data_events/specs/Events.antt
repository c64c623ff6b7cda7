-- What happens to a group and to its data, and that all is kept however it goes on.
use Rattle.std.specs.Prelude.{◌≡◌, ℕ, zero, suc, ◌<◌, ◌≤◌, ◌^◌, Bool, true, false, List, Some}
use Rattle.ddf_bytes.specs.Streams.{SourceState}
use Rattle.ddf_bay.specs.Sectors.{Image, IsLeft}
use Rattle.ddf_bay.specs.State.{BayState}
use Rattle.std.specs.Map.{lookup}
use Rattle.ddf_config.specs.declared.array.Array.{Array}
use Rattle.ddf_config.specs.declared.seat.Seat.{Seat}
use Rattle.ddf_config.specs.Configuration.{Configuration}
use Rattle.ddf_config.specs.Members.{same_guid}
use Rattle.ddf_array.specs.Volume.{Volume}
use Rattle.ddf_data_array.specs.Allowed.{Allowed, any_bytes}
use Rattle.ddf_data_array.specs.Changing.{IsConsistentNow, IsWritable, ValuesMay}
use Rattle.ddf_data_array.specs.Rows.{AreRowsKept}
use Rattle.ddf_data_group.specs.Grouped.{Promises}
use Rattle.ddf_data_group.specs.Kept.{KeepsArray}
use Rattle.ddf_data_group.specs.Over.{IsOver, absent_in}
use Rattle.ddf_data_history.specs.Promised.{seats_in, with_promise}
use Rattle.ddf_history.specs.Groups.{groups, has_current, has_missing}
use Rattle.ddf_history.specs.History.{KeepsAcked}
use Rattle.ddf_history.specs.Issued.{IsSince, Past, give_back, lose}
use Rattle.ddf_data_events.specs.Calls.{Call, EndsAt, HasComeTo, MayPromise, PromisesThen, exit_of}
use Rattle.ddf_data_events.specs.Moments.{KeepsAll, Moment}

-- A bay goes on from another one, of the same slots: it tells what a stop may leave, and that is one of these images.
pub record Resumes {D : Type 0} (old new : BayState D) (Left : Image → Type 0) : Type 0 where
  pub tells_left : new.tells_left
  pub same_sizes : new.sizes ≡ old.sizes
  pub is_left : (image : Image) → IsLeft new.may_hold image → Left image

-- An array agrees in an image, where the disks of these positions are only not read: it is consistent, marked or not, the rows that count as rebuilt hold what they
-- should, and each block has bytes that are among these.
pub record IsAgreeing (is_absent : ℕ → ℕ → Bool) (volume : Volume) (image : Image) (allowed : Allowed) : Type 0 where
  pub consistent : IsConsistentNow is_absent volume image
  pub rows : AreRowsKept is_absent volume image
  pub may : ValuesMay volume image allowed

-- So it does in whatever a stop may leave at a moment, under each configuration since the last acknowledged one that has it, over the members' disks that aren't lost.
abbrev pub AgreesAt : {guid : List ℕ} {B : Type 0} → (disks : B → BayState B) → Moment guid B → (array : List ℕ) → Allowed → Type 0
AgreesAt {guid = guid} disks moment array allowed =
    (image : Image) → IsLeft (disks moment.bay).may_hold image → (number : ℕ) (config : Configuration) (entry : Array) → IsSince moment.past.changes number config
    → lookup (same_guid array) config.arrays ≡ Some entry → (volume : Volume) → IsOver (seats_in guid moment.past moment.floor config) entry volume
    → IsAgreeing (absent_in config.members (seats_in guid moment.past moment.floor config) entry.elements) volume image allowed

-- An array keeps in whatever a stop may leave at a moment the bytes that its blocks may have by this, under each configuration since the last
-- acknowledged one that has it, over the members' disks that aren't lost.
abbrev pub KeepsAt : {guid : List ℕ} {B : Type 0} → (disks : B → BayState B) → Moment guid B → (array : List ℕ) → Allowed → Type 0
KeepsAt {guid = guid} disks moment array allowed =
    (image : Image) → IsLeft (disks moment.bay).may_hold image → (number : ℕ) (config : Configuration) (entry : Array) → IsSince moment.past.changes number config
    → lookup (same_guid array) config.arrays ≡ Some entry → KeepsArray config.members (seats_in guid moment.past moment.floor config) entry image allowed

module _ {B : Type 0} {tells : Type 0} (told : tells) (disks : B → BayState B) {S : Type 0} (tells_bytes : Type 0) (streams : S → SourceState) (guid : List ℕ) where
  pub data Event (old : Moment guid B) : Type 0 where
    -- A call comes to its end, where the bay still tells what a stop may leave. Its slots stay what they are.
    Ended : (call : Call told disks tells_bytes streams guid old) → (disks (exit_of told disks tells_bytes streams guid call)).tells_left
        → (disks (exit_of told disks tells_bytes streams guid call)).sizes ≡ (disks old.bay).sizes → Event old
    -- A stop within a call leaves an image, and the bay goes on as this.
    Cut : (call : Call told disks tells_bytes streams guid old) (image : Image) → (disks (exit_of told disks tells_bytes streams guid call)).left_since (disks old.bay).moment image
        → (bay : B) → Resumes (disks old.bay) (disks bay) (λ left. left ≡ image) → Event old
    -- A stop between calls: the bay goes on as an image that it may leave.
    Stopped : (bay : B) → Resumes (disks old.bay) (disks bay) (IsLeft (disks old.bay).may_hold) → Event old
    -- A slot is lost. Where the group is from elsewhere, a change of this engine was acknowledged before.
    Lost : (slot : ℕ) → old.past.changes.own_from ≤ old.past.changes.acked → Event old
    -- A slot returns, while each configuration since the last acknowledged one lists its member as missing.
    Returned : (slot : ℕ) → old.past.changes.own_from ≤ old.past.changes.acked
        → ((number : ℕ) (config : Configuration) → IsSince old.past.changes number config → has_missing config (old.past.disk slot) ≡ true) → Event old
    -- Less is promised from now on: of an array that is to be deleted, or accepted though it isn't consistent, nothing.
    Forgotten : (fewer : Promises) → ((array : List ℕ) (allowed : Allowed) → fewer array ≡ Some allowed → old.promises array ≡ Some allowed) → Event old
    -- Of an array it is promised from now on that its blocks may have any bytes. Under each configuration since the last acknowledged one that has
    -- it, and over whichever seats, it is marked, or keeps each block in one place alone: as one that was created, also where a stop cut the call
    -- short, or a disk failed in it.
    Noticed : (array : List ℕ)
        → ((number : ℕ) (config : Configuration) (entry : Array) → IsSince old.past.changes number config → lookup (same_guid array) config.arrays ≡ Some entry
        → (seats : List Seat) (volume : Volume) → IsOver seats entry volume → IsWritable volume) → Event old
    -- Of an array whose disks agree, as one from elsewhere that isn't marked, the bytes that its blocks have are promised from now on.
    Agreed : (array : List ℕ) (allowed : Allowed) → AgreesAt disks old array allowed → Event old
    -- Of an array that keeps its data by a promise, as one that joined does by that of its former history, this is promised from now on.
    Kept : (array : List ℕ) (allowed : Allowed) → KeepsAt disks old array allowed → Event old
    -- Slots have other floors, whose disks are no current members or are lost.
    Refloored : (floor : ℕ → ℕ) → ((slot : ℕ) → floor slot < 2 ^ 64)
        → ((slot number : ℕ) (config : Configuration) → IsSince old.past.changes number config → old.past.lost slot ≡ false → has_current config (old.past.disk slot) ≡ true → floor slot ≡ old.floor slot)
        → Event old

  -- A moment: so far the history has come by then, this is the bay, and so is promised.
  pub record IsBehind (new : Moment guid B) (Comes : Past (groups guid) → Type 0) (bay : B) (Is : Promises → Type 0) (floor : ℕ → ℕ) : Type 0 where
    pub comes : Comes new.past
    pub is_bay : new.bay ≡ bay
    pub is_promised : Is new.promises
    pub is_floor : new.floor ≡ floor

  -- the moment behind an event
  abbrev pub Follows : (old : Moment guid B) → Event old → Moment guid B → Type 0
  Follows old (Ended call told_left same_sizes) new =
      IsBehind new (EndsAt told disks tells_bytes streams guid call) (exit_of told disks tells_bytes streams guid call) (PromisesThen told disks tells_bytes streams guid call) old.floor
  Follows old (Cut call image was_left bay resumes) new = IsBehind new (HasComeTo told disks tells_bytes streams guid call) bay (MayPromise told disks tells_bytes streams guid call) old.floor
  Follows old (Stopped bay resumes) new = IsBehind new (λ now. now ≡ old.past) bay (λ promised. promised ≡ old.promises) old.floor
  Follows old (Lost slot own) new = IsBehind new (λ now. now ≡ lose old.past slot) old.bay (λ promised. promised ≡ old.promises) old.floor
  Follows old (Returned slot own missing) new = IsBehind new (λ now. now ≡ give_back old.past slot) old.bay (λ promised. promised ≡ old.promises) old.floor
  Follows old (Forgotten fewer are) new = IsBehind new (λ now. now ≡ old.past) old.bay (λ promised. promised ≡ fewer) old.floor
  Follows old (Noticed array writable) new =
      IsBehind new (λ now. now ≡ old.past) old.bay (λ promised. promised ≡ with_promise old.promises array (Some any_bytes)) old.floor
  Follows old (Agreed array allowed agrees) new = IsBehind new (λ now. now ≡ old.past) old.bay (λ promised. promised ≡ with_promise old.promises array (Some allowed)) old.floor
  Follows old (Kept array allowed keeps) new = IsBehind new (λ now. now ≡ old.past) old.bay (λ promised. promised ≡ with_promise old.promises array (Some allowed)) old.floor
  Follows old (Refloored floor small same) new = IsBehind new (λ now. now ≡ old.past) old.bay (λ promised. promised ≡ old.promises) floor

  -- All is kept at a moment, and stays so however it goes on, for so many events: whichever comes that the moment admits, a moment follows it to which what was
  -- acknowledged stays in the list, and at which all is kept, and stays so for the events behind it.
  abbrev pub KeepsOn : ℕ → Moment guid B → Type 0
  KeepsOn zero moment = KeepsAll disks moment
  KeepsOn (suc more) moment =
      KeepsAll disks moment × ((event : Event moment) → (next : Moment guid B) × Follows moment event next × KeepsAcked moment.past next.past × KeepsOn more next)
