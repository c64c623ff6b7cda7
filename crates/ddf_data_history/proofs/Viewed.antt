-- What is done to an array by a view keeps the data of its group.
use Rattle.std.proofs.Common.{◌≡◌, ◌∙◌, inl, ℕ, ◌<◌, ◌^◌, ◌⊎◌, Bool, not, List, Option, Some, None, Ok, refl, sym, ap, subst, arith, slice_get}
use Rattle.std.specs.Map.{lookup}
use Rattle.ddf_lemmas.proofs.Tests.{and_second}
use Rattle.ddf_lemmas.proofs.Options.{same_some}
use Rattle.ddf_bay.specs.Sectors.{Image}
use Rattle.ddf_secondary.specs.Arrangement.{Arrangement}
use Rattle.ddf_config.specs.declared.array.Array.{Array}
use Rattle.ddf_config.specs.declared.seat.Seat.{Seat}
use Rattle.ddf_config.specs.Configuration.{Configuration}
use Rattle.ddf_config.specs.Members.{same_guid}
use Rattle.ddf_config.specs.Shapes.{array_tiers}
use Rattle.ddf_array.specs.Apart.{AreSeats, IsApart}
use Rattle.ddf_array.specs.declared.part.Part.{Part}
use Rattle.ddf_array.specs.Sound.{AreSectors}
use Rattle.ddf_array.specs.Viewing.{view_of}
use Rattle.ddf_array.specs.Volume.{Volume, volume, IsVolume}
use Rattle.ddf_array.proofs.Apart.{view_apart}
use Rattle.ddf_cells.specs.Writing.{StaysBut}
use Rattle.ddf_write.specs.Writing.{HasWritten, IsLeftByWrite}
use Rattle.ddf_resync.specs.Resyncing.{MayResync}
use Rattle.ddf_rebuild.specs.Target.{IsTargetCell}
use Rattle.ddf_data_array.specs.Allowed.{Allowed, once_consistent, once_written, while_written}
use Rattle.ddf_data_array.specs.Changing.{IsConsistentNow, IsWritable}
use Rattle.ddf_data_array.specs.Kept.{IsKeptData}
use Rattle.ddf_data_array.specs.Rows.{GoesOnBehind}
use Rattle.ddf_data_array.proofs.Consistent.{kept_consistent}
use Rattle.ddf_data_array.proofs.Resynced.{kept_rebuilding, kept_resyncing}
use Rattle.ddf_data_array.proofs.Written.{kept_once, kept_while}
use Rattle.ddf_data_group.specs.Clear.{ChangesItsCells}
use Rattle.ddf_data_group.specs.Grouped.{Promises}
use Rattle.ddf_data_group.specs.Over.{IsOver, absent_in}
use Rattle.ddf_data_group.proofs.Clearly.{IsUsed, others_same, rebuild_changes, resync_changes, used, write_changes}
use Rattle.ddf_history.specs.Issued.{Past}
use Rattle.ddf_history.specs.Steps.{IsLast}
use Rattle.ddf_history.specs.Groups.{groups, has_current}
use Rattle.ddf_data_history.specs.Promised.{IsAlone, KeepsData, is_seat, seats_in, with_promise}
use Rattle.ddf_data_history.proofs.Seats.{are_seats}
use Rattle.ddf_data_history.proofs.Steps.{by_data, seats_are}

pub over_unique : (seats : List Seat) (array : Array) (v w : Volume) → IsOver seats array v → IsOver seats array w → v ≡ w
over_unique seats array v w one other =
    ap (λ (b : Bool). volume b v.tiers v.parts) (one.marked_is ∙ sym other.marked_is)
    ∙ ap (λ (t : Arrangement). volume w.marked t v.parts) (same_some (array_tiers array) v.tiers w.tiers one.tiers_are other.tiers_are)
    ∙ ap (λ (l : List Part). volume w.marked w.tiers l) (one.parts_are ∙ sym other.parts_are)

-- the seats of a configuration are members', and no slot has the seats of two
pub are_members : (group : List ℕ) (floor : ℕ → ℕ) (past : Past (groups group)) (config : Configuration) → AreSeats config.members (seats_in group past floor config)
are_members group floor past config =
    are_seats floor past.disk config (is_seat group past config) past.slots (λ slot e. and_second (not (past.lost slot)) (has_current config (past.disk slot)) e)

module _ (group : List ℕ) (floor : ℕ → ℕ) (small : (slot : ℕ) → floor slot < 2 ^ 64) (past : Past (groups group)) (config : Configuration) (guid : List ℕ) (v : Volume)
    (view : view_of config guid (seats_in group past floor config) ≡ Ok v) (known : IsVolume v) (before image : Image) (promises : Promises) (allowed : Allowed)
    (kept : KeepsData group past floor before promises) (alone : IsAlone group past config) (promised : promises guid ≡ Some allowed) (are : AreSectors image) where
  abbrev seats : List Seat
  seats = seats_in group past floor config

  use_of : IsUsed config guid (seats_in group past floor config) v
  use_of = used config guid (seats_in group past floor config) v view known

  apart : IsApart v
  apart = view_apart config guid (seats_in group past floor config) v view (are_members group floor past config)

  -- what an image that is kept holds of the array
  abbrev Holds : (ℕ → ℕ → Bool) → Type 0
  Holds is_absent = (held : Image) → KeepsData group past floor held promises → IsKeptData is_absent v held allowed

  by_view : (new : Allowed) → ((is_absent : ℕ → ℕ → Bool) → Holds is_absent → IsKeptData is_absent v image new) → ChangesItsCells v before image
      → KeepsData group past floor image (with_promise promises guid (Some new))
  by_view new step changes =
      by_data group floor small past before promises kept image are config alone guid new
      (λ array found number since w over.
      let one = same_some (lookup (same_guid guid) config.arrays) (use_of).array array (use_of).is_found found in
      let here : IsOver seats array v = subst (λ (a : Array). IsOver seats a v) one (use_of).over in
      let absent = absent_in config.members seats array.elements in
      subst (λ (x : Volume). IsKeptData absent x image new) (over_unique seats array v w here over)
      (step absent (λ held is_kept. is_kept number config since guid allowed array promised found v here)))
      (λ other array w differs found over. others_same config guid seats v use_of (seats_are group floor small past config) (are_members group floor past config)
      before image changes other array w differs found over)

  pub view_write : (start : ℕ) (sectors : List (List ℕ)) → IsWritable v → IsLeftByWrite v start sectors before image
      → KeepsData group past floor image (with_promise promises guid (Some (while_written allowed start sectors)))
  view_write start sectors writable left =
      by_view (while_written allowed start sectors) (λ absent holds. kept_while absent v known apart start sectors before image allowed writable (holds before kept) left are) (write_changes v start sectors before image known left)

  pub view_written : (start : ℕ) (sectors : List (List ℕ)) → IsWritable v → IsLeftByWrite v start sectors before image → HasWritten v start sectors ⊥ image
      → KeepsData group past floor image (with_promise promises guid (Some (once_written allowed start sectors)))
  view_written start sectors writable left written =
      by_view (once_written allowed start sectors) (λ absent holds. kept_once absent v known apart start sectors before image allowed writable (holds before kept) left are written) (write_changes v start sectors before image known left)

  pub view_resync : (first : Image) → KeepsData group past floor first promises → IsWritable v → ((s l : ℕ) → (image s l ≡ before s l) ⊎ MayResync v (Unit {0}) first s l (image s l))
      → KeepsData group past floor image (with_promise promises guid (Some allowed))
  view_resync first first_kept writable left =
      by_view allowed (λ absent holds. kept_resyncing absent v known apart first before image allowed writable (holds first first_kept) (holds before kept) left are)
      (resync_changes v first before image known left)

  pub view_rebuild : (element position from to : ℕ) → GoesOnBehind v element position from → StaysBut (IsTargetCell v element position from to) before image
      → KeepsData group past floor image (with_promise promises guid (Some allowed))
  view_rebuild element position from to behind left =
      by_view allowed (λ absent holds. kept_rebuilding absent v element position from to before image allowed known apart are behind left (holds before kept))
      (rebuild_changes v element position from to before image left)

-- an array counts as consistent
pub view_counts : (group : List ℕ) (floor : ℕ → ℕ) → ((slot : ℕ) → floor slot < 2 ^ 64) → (past : Past (groups group)) (config : Configuration) (guid : List ℕ) (v : Volume)
    → view_of config guid (seats_in group past floor config) ≡ Ok v → IsVolume v → (image : Image) (promises : Promises) (allowed : Allowed)
    → KeepsData group past floor image promises → IsAlone group past config → promises guid ≡ Some allowed → AreSectors image
    → ((is_absent : ℕ → ℕ → Bool) → IsConsistentNow is_absent v image) → KeepsData group past floor image (with_promise promises guid (Some (once_consistent v image)))
view_counts group floor small past config guid v view known image promises allowed kept alone promised are consistent =
    by_view group floor small past config guid v view known image image promises allowed kept alone promised are (once_consistent v image)
    (λ absent holds. kept_consistent absent v.marked v image are (consistent absent) (holds image kept).rows) (λ slot lba. inl refl)

-- where the last change is the last acknowledged one, there is no other since
pub last_alone : (group : List ℕ) (past : Past (groups group)) (config : Configuration) → IsLast past.changes past.changes.acked config → IsAlone group past config
last_alone group past config last number other since =
    same_config (slice_get past.changes.issued past.changes.acked) other config
    (ap (slice_get past.changes.issued) (let below = last.none_later number other since in omega (arith, below, since.late)) ∙ since.is_there) last.since.is_there
  where
    same_config : (o : Option Configuration) (one two : Configuration) → o ≡ Some one → o ≡ Some two → one ≡ two
    same_config None one two a b = absurd (cc)
    same_config (Some c) one two a b = cc
