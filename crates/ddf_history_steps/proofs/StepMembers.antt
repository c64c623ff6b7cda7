-- The disks of a step are current members of its configuration, where those before it were of theirs.
use Rattle.std.proofs.Common.{◌≡◌, ℕ, Bool, true, false, List, Some, if◌then◌else◌, refl, ap, sym, ◌∙◌, subst}
use Rattle.std.specs.Prelude.{slice_get}
use Rattle.ddf_config.specs.Configuration.{Configuration}
use Rattle.ddf_config.specs.Members.{is_current}
use Rattle.ddf_copy.specs.declared.copy.DiskCopy.{DiskCopy}
use Rattle.ddf_plan.specs.declared.change.Change.{Change}
use Rattle.ddf_plan.specs.Members.{members_after}
use Rattle.ddf_view.specs.Shows.{shows}
use Rattle.ddf_view.specs.View.{view_of}
use Rattle.ddf_rewrite.specs.Before.{Before}
use Rattle.ddf_rewrite.specs.Copies.{recovered_copy}
use Rattle.ddf_history.specs.Groups.{Disk, disk_of, has_current}
use Rattle.ddf_history.proofs.Copies.{changed_names}
use Rattle.ddf_seats.specs.declared.seated.Seated.{Seated}
use Rattle.ddf_recovery.specs.Recovery.{mended, mended_copy}
use Rattle.ddf_steps.specs.Steps.{config_after, disks_after, rewritten, stays_in}
use Rattle.ddf_seats.specs.Seated.{levelled}
use Rattle.ddf_recovery.proofs.LeftStep.{same_view}
use Rattle.ddf_steps.proofs.Rewritten.{closed_view}
use Rattle.ddf_history_steps.specs.AtEnd.{IsMember}
use Rattle.ddf_history_steps.proofs.ChangingStays.{stays_current}
use Rattle.ddf_history_steps.proofs.CommittingSeats.{renewed}

-- each of these disks is one
abbrev pub AreMembers : Configuration → List Seated → Type 0
AreMembers config disks = (place : ℕ) (disk : Seated) → slice_get disks place ≡ Some disk → IsMember config disk

-- ---- copies that name the same disk

-- A changed copy does, and so it does as it is written.
pub rewritten_names : (leaders : Before) (config : Configuration) (timestamp : ℕ) (disk : Seated)
    → disk_of (view_of (rewritten leaders config timestamp disk).copy) ≡ disk_of (view_of disk.copy)
rewritten_names leaders config timestamp disk = ap disk_of (same_view leaders config timestamp disk) ∙ changed_names disk.copy leaders config timestamp

recovered_names : (leaders : Before) (config : Configuration) (timestamp : ℕ) (copy : DiskCopy) → disk_of (view_of (recovered_copy copy leaders config timestamp)) ≡ disk_of (view_of copy)
unfolding recovered_copy view_of
recovered_names leaders config timestamp copy = refl

-- So does a mended one.
pub mended_names : (leaders : Before) (config : Configuration) (timestamp : ℕ) (disk : Seated)
    → disk_of (view_of (mended leaders config timestamp disk).copy) ≡ disk_of (view_of disk.copy)
mended_names leaders config timestamp disk = ap disk_of (closed_view (mended_copy leaders config timestamp disk.copy)) ∙ by (shows config (view_of disk.copy))
  where
    by : (b : Bool) → disk_of (view_of (if b then disk.copy else recovered_copy disk.copy leaders config timestamp)) ≡ disk_of (view_of disk.copy)
    by true = refl
    by false = recovered_names leaders config timestamp disk.copy

-- ---- members

-- A seat with a copy that names the same disk stays a member's.
renamed : (config : Configuration) (disk next : Seated) → next.seat.reference ≡ disk.seat.reference → disk_of (view_of next.copy) ≡ disk_of (view_of disk.copy)
    → IsMember config disk → IsMember config next
renamed config disk next seat names is = record {
  same_reference = seat ∙ is.same_reference ∙ ap (λ (one : Disk). one.reference) (sym names);
  is_current = ap (has_current config) names ∙ is.is_current;
}

pub levelled_member : (config : Configuration) (disk : Seated) → IsMember config disk → IsMember config (levelled disk)
levelled_member config disk is = renamed config disk (levelled disk) refl refl is

pub mended_member : (leaders : Before) (config : Configuration) (timestamp : ℕ) (disk : Seated) → IsMember config disk → IsMember config (mended leaders config timestamp disk)
mended_member leaders config timestamp disk is = renamed config disk (mended leaders config timestamp disk) refl (mended_names leaders config timestamp disk) is

-- A member whose reference is current behind a change is one then.
pub stays_member : (config : Configuration) (change : Change) (disk : Seated) → IsMember config disk → stays_in (config_after config change) disk ≡ true
    → IsMember (config_after config change) disk
stays_member config change disk is stays =
    let current : is_current (members_after config change) disk.seat.reference ≡ true = stays in
    record {
      same_reference = is.same_reference;
      is_current = stays_current config change (config_after config change).sequence (disk_of (view_of disk.copy)) is.is_current (rw is.same_reference at current);
    }

-- So are the disks that a change writes.
pub after_members : (timestamp : ℕ) (leaders : Before) (config : Configuration) (change : Change) (disks : List Seated) → AreMembers config disks
    → AreMembers (config_after config change) (disks_after timestamp leaders (config_after config change) disks)
after_members timestamp leaders config change disks members place made at =
    let next = config_after config change in
    let own = renewed disks leaders next timestamp place made at in
    subst (IsMember next) own.is_made
    (renamed next own.disk (rewritten leaders next timestamp own.disk) refl (rewritten_names leaders next timestamp own.disk)
    (stays_member config change own.disk (members own.place own.disk own.at) own.stays))
