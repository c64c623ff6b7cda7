-- What a call that changes a group promises of its history and of its data at once.
use Rattle.std.specs.Prelude.{◌≡◌, ℕ, Bool, List, [], ◌∷◌, Option, Some, None, if◌then◌else◌}
use Rattle.ddf_bytes.specs.declared.stamp.Stamp.{Stamp}
use Rattle.ddf_bay.specs.Moments.{StopsLeave}
use Rattle.ddf_bay.specs.Sectors.{Image}
use Rattle.ddf_bay.specs.State.{BayState}
use Rattle.ddf_config.specs.declared.array.Array.{Array}
use Rattle.ddf_config.specs.declared.seat.Seat.{Seat}
use Rattle.ddf_config.specs.Configuration.{Configuration}
use Rattle.ddf_plan.specs.declared.change.Change.{Change}
use Rattle.ddf_plan.specs.Changes.{changed_at}
use Rattle.ddf_array.specs.Sound.{AreSectors}
use Rattle.ddf_array.specs.Volume.{Volume}
use Rattle.ddf_data_array.specs.Allowed.{Allowed}
use Rattle.ddf_data_group.specs.Clearing.{MayBeCleared}
use Rattle.ddf_data_group.specs.Over.{IsOver, absent_in}
use Rattle.ddf_data_group.specs.Grouped.{MayChange, Promises}
use Rattle.ddf_history.specs.Groups.{groups}
use Rattle.ddf_history.specs.Issued.{Past, leave_out}
use Rattle.ddf_history.specs.Promise.{IsKept}
use Rattle.ddf_history.specs.Scenes.{scene_of}
use Rattle.ddf_seats.specs.Group.{GroupValue}
use Rattle.ddf_seats.specs.Leading.{some}
use Rattle.ddf_history_steps.specs.Going.{IsAdmitted}
use Rattle.ddf_history_steps.specs.Kept.{AreAllKept}
use Rattle.ddf_data_history.specs.Carried.{IsAllData}
use Rattle.ddf_data_history.specs.Promised.{KeepsData}
use Rattle.ddf_words.specs.declared.command.Wish.{Wish}
use Rattle.ddf_words.specs.declared.command.Wish.TheVariants.{Accept, Create}
use Rattle.ddf_request.specs.Named.{named_array}
use Rattle.ddf_request.specs.NewArray.{new_array_guid}
use Rattle.ddf_data_calls.specs.Floors.{HaveFloors}

-- ---- the changes of a call

-- what a call's one change asks for, if it makes one
abbrev pub MayAsk : Configuration → List Seat → Image → Promises → Option Change → Type 0
MayAsk config seats image promises None = Unit {0}
MayAsk config seats image promises (Some change) = MayChange config seats image promises change

-- What a wish asks for: of a new array nothing was promised; one that is accepted is consistent, with values that its blocks may have, and rows that hold
-- what they should where any count as rebuilt, or nothing is promised of it.
abbrev pub MayWish : Configuration → List Seat → Stamp → Image → Promises → Wish → Type 0
MayWish config seats stamp image promises (Create creation) = promises (new_array_guid config stamp) ≡ None
MayWish config seats stamp image promises (Accept name) =
    (guid : List ℕ) (array : Array) (allowed : Allowed) (volume : Volume) → named_array config.arrays name ≡ Some (guid, array) → promises guid ≡ Some allowed
    → IsOver seats array volume → MayBeCleared (absent_in config.members seats array.elements) volume image allowed
MayWish config seats stamp image promises other = Unit {0}

-- A configuration is what a change makes of another one, over the seats that are listed of that one.
pub record IsMade (seats : Configuration → List Seat) (image : Image) (promises : Promises) (last next : Configuration) : Type 0 where
  pub change : Change
  pub sequence : ℕ
  pub is_next : next ≡ changed_at last change sequence
  pub may : MayChange last (seats last) image promises change

-- each of these is what a change makes of the one before it
abbrev pub AreMade : (seats : Configuration → List Seat) → Image → Promises → Configuration → List Configuration → Type 0
AreMade seats image promises last [] = Unit {0}
AreMade seats image promises last (next ∷ others) = IsMade seats image promises last next × AreMade seats image promises next others

module _ (group : List ℕ) where
  -- the history once a call that found this group counts slots as lost: where members are absent, those of current members that it doesn't read
  abbrev pub left_over : Past (groups group) → (readable : ℕ → Bool) → GroupValue → Past (groups group)
  left_over past readable found = if some found.absent then leave_out past readable found.config else past

  -- A history of a group and of its data admits a call that found this group and leaves these slots out: whatever a stop might have left shows what it
  -- should and keeps the data, and each slot of a member has its floor.
  pub record AdmitsCall {D : Type 0} (past : Past (groups group)) (floor : ℕ → ℕ) (promises : Promises) (disks : BayState D) (left : List Bool) (found : GroupValue) : Type 0 where
    pub all_kept : AreAllKept group past disks
    pub admitted : IsAdmitted group past disks left found
    pub all_data : IsAllData group past floor disks promises
    pub have_floors : HaveFloors group past disks floor

  -- ---- both promises

  -- An image shows what it should and keeps the data, for the same changes and by the same promises.
  pub record IsBoth (floor : ℕ → ℕ) (sizes : List ℕ) (Goes : Past (groups group) → Type 0) (May : Promises → Type 0) (image : Image) : Type 0 where
    pub now : Past (groups group)
    pub promised : Promises
    pub goes : Goes now
    pub may : May promised
    pub is_kept : IsKept now (scene_of sizes image)
    pub keeps : KeepsData group now floor image promised

  -- so does each that a stop may leave
  pub record AreBoth {D : Type 0} (floor : ℕ → ℕ) (disks : BayState D) (Ends : Past (groups group) → Type 0) (Is : Promises → Type 0) : Type 0 where
    pub now : Past (groups group)
    pub promised : Promises
    pub ends : Ends now
    pub is_so : Is promised
    pub all_kept : AreAllKept group now disks
    pub all_data : IsAllData group now floor disks promised

  -- Whatever a stop leaves, at any moment since the call's entry, shows what it should and keeps the data, where its sectors have 512 bytes; and so does, at
  -- its end, whatever a stop may leave then, where the bay still tells of it. `Goes` and `May` tell how far the changes of the call and its promises may
  -- have come, `Ends` and `Is` where they end.
  pub record KeepsBoth {D : Type 0} (old new : BayState D) (floor : ℕ → ℕ) (Goes Ends : Past (groups group) → Type 0) (May Is : Promises → Type 0) : Type 0 where
    pub any_moment : StopsLeave old new (λ image. AreSectors image → IsBoth floor old.sizes Goes May image)
    pub ends : new.tells_left → AreBoth floor new Ends Is
