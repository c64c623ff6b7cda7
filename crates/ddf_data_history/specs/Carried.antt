-- What a call promises of a group's data, over a bay.
use Rattle.std.specs.Prelude.{◌≡◌, ◌⊎◌, ℕ, List, Some, None}
use Rattle.ddf_bay.specs.Sectors.{Image, IsLeft}
use Rattle.ddf_bay.specs.State.{BayState}
use Rattle.ddf_bay.specs.Moments.{StopsLeave}
use Rattle.ddf_array.specs.Volume.{Volume}
use Rattle.ddf_data_array.specs.Allowed.{Allowed, any_bytes, once_consistent, once_written, while_written}
use Rattle.ddf_data_group.specs.Grouped.{Promises}
use Rattle.ddf_history.specs.Issued.{Past}
use Rattle.ddf_history.specs.Groups.{groups}
use Rattle.ddf_data_history.specs.Promised.{KeepsData, with_promise}

-- Whatever a stop leaves of these disks keeps the group's data.
abbrev pub IsAllData : {D : Type 0} → (group : List ℕ) → Past (groups group) → (floor : ℕ → ℕ) → BayState D → Promises → Type 0
IsAllData group past floor disks promises = (image : Image) → IsLeft disks.may_hold image → KeepsData group past floor image promises

-- ---- how promises go on

-- through a call that changes no block's bytes
abbrev pub Stays : Promises → Promises → Type 0
Stays promises promised = promised ≡ promises

-- while blocks of an array are written: the old bytes, or the old and the new ones
abbrev pub MayBeWriting : (guid : List ℕ) → Allowed → (start : ℕ) → List (List ℕ) → Promises → Promises → Type 0
MayBeWriting guid allowed start sectors promises promised = (promised ≡ promises) ⊎ (promised ≡ with_promise promises guid (Some (while_written allowed start sectors)))

-- once they are
abbrev pub IsOnceWritten : (guid : List ℕ) → Allowed → (start : ℕ) → List (List ℕ) → Promises → Promises → Type 0
IsOnceWritten guid allowed start sectors promises promised = promised ≡ with_promise promises guid (Some (once_written allowed start sectors))

-- a resync, or an accepted array, which counts with what the disks hold
abbrev pub IsOnceCounted : {D : Type 0} → (guid : List ℕ) → Volume → BayState D → Promises → Promises → Type 0
IsOnceCounted guid volume disks promises promised = promised ≡ with_promise promises guid (Some (once_consistent volume disks.held))

-- a created array may have any bytes; of one that was accepted though it isn't consistent, and of a deleted one, nothing is promised any more
abbrev pub IsBegun : (guid : List ℕ) → Promises → Promises → Type 0
IsBegun guid promises promised = promised ≡ with_promise promises guid (Some any_bytes)

abbrev pub IsDroppedOf : (guid : List ℕ) → Promises → Promises → Type 0
IsDroppedOf guid promises promised = promised ≡ with_promise promises guid None

-- ---- what a call carries

-- `Goes` tells how far the changes of the call may have come at a moment since its entry, `Ends` where they end, `May` and `Is` the same of what is
-- promised. Whatever a stop leaves, at any moment since the call's entry, keeps the group's data for some of these; and so does, at its end, whatever
-- a stop may leave then, where the bay still tells of it.
pub record CarriesData {D : Type 0} (group : List ℕ) (old new : BayState D) (floor : ℕ → ℕ) (promises : Promises) (Goes Ends : Past (groups group) → Type 0) (May Is : Promises → Promises → Type 0) : Type 0 where
  pub any_moment : StopsLeave old new (λ image. (now : Past (groups group)) × (promised : Promises) × Goes now × May promises promised × KeepsData group now floor image promised)
  pub ends : new.tells_left → (now : Past (groups group)) × (promised : Promises) × Ends now × Is promises promised × IsAllData group now floor new promised
