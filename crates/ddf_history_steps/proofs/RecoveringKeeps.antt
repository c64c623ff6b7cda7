-- `recover` by itself keeps a history that admits it, and the group stands at the end of the history behind it.
use Rattle.std.proofs.Common.{◌≡◌, ◌⊎◌, ℕ, Bool, true, false, List, [], ◌++◌, length, Option, Some, Ok, refl, ap, sym, ◌∙◌, subst, inl, inr, append-nil, zero-add}
use Rattle.std.specs.Prelude.{slice_get}
use Rattle.ddf_bay.specs.Moments.{StopsLeave}
use Rattle.ddf_bay.specs.Sectors.{Image, IsLeft}
use Rattle.ddf_bay.specs.State.{BayState}
use Rattle.ddf_bay.proofs.Steps.{left_keeps, stops_weaken}
use Rattle.ddf_copy.specs.declared.newest_copy.Newest.{Newest}
use Rattle.ddf_config.specs.Configuration.{Configuration}
use Rattle.ddf_plan.specs.declared.change.Change.{Change}
use Rattle.ddf_update.specs.Changes.{AreChanged, IsLeftChangingAll}
use Rattle.ddf_history.specs.Groups.{groups}
use Rattle.ddf_history.specs.Issued.{Past, acknowledge}
use Rattle.ddf_history.specs.Promise.{IsKept}
use Rattle.ddf_history.specs.Scenes.{scene_of}
use Rattle.ddf_steps.specs.Committed.{AreSettled, LeavesSynced, slots_of, synced}
use Rattle.ddf_recovery.specs.Committed.{MayRecover, group_recovered, recovery_slots, recovery_updates}
use Rattle.ddf_seats.specs.Group.{GroupValue}
use Rattle.ddf_assembly.specs.Group.{group_of}
use Rattle.ddf_assembly.specs.Held.{AreHeldOn, IsHeldOn}
use Rattle.ddf_recovery.specs.Ready.{ReadyValue}
use Rattle.ddf_assembly.specs.Slots.{newest_from}
use Rattle.ddf_recovery.proofs.RecoveredGroup.{recovered_ready}
use Rattle.ddf_recovery.proofs.RecoveryWritten.{may_recover}
use Rattle.ddf_assembly.proofs.SettledHeld.{newest_kept, held_from}
use Rattle.ddf_history_steps.specs.AtEnd.{IsAtEnd}
use Rattle.ddf_history_steps.specs.Going.{Goes, IsAdmitted, IsOver, IsUnderway, KeepsHistory}
use Rattle.ddf_history_steps.specs.Kept.{AreAllKept, ReadsTrue, is_read}
use Rattle.ddf_history_steps.specs.Steps.{IsRecovery, StandsReady, WasTaken, behind_recovery, recovery_changes}
use Rattle.ddf_history_steps.proofs.CommittingFirst.{tried_on}
use Rattle.ddf_history_steps.proofs.Recovering.{recovery_done, recovery_goes, recovery_goes_on, recovery_kept, recovery_last, recovery_over, recovery_past, synced_kept}

-- ---- what is held

-- The slots of an assembled group hold its newest copies.
pub group_held : {D : Type 0} (disks : BayState D) (left : List Bool) (named : Option (List ℕ)) (found : GroupValue) → group_of (newest_from disks 0 left) named ≡ Ok found
    → AreHeldOn disks found.newest
group_held disks left named found is slot newest at =
    let read : slice_get (newest_from disks 0 left) slot ≡ Some (Some newest) =
    sym (ap (λ (all : List (Option Newest)). slice_get all slot) (newest_kept (newest_from disks 0 left) named found is)) ∙ at in
    subst (λ (s : ℕ). IsHeldOn disks s newest) (zero-add slot) (held_from disks 0 left slot newest read)

-- ---- the recovery

module _ {group : List ℕ} {D : Type 0} (past : Past (groups group)) (state : BayState D) (left : List Bool) (named : Option (List ℕ)) (found : GroupValue)
    (asked : List Change) (timestamp : ℕ) (ready : ReadyValue) (taken : WasTaken state left named found asked timestamp ready)
    (same_group : found.config.group ≡ group) (kept : AreAllKept group past state) (admitted : IsAdmitted group past state left found) where
  held : AreHeldOn state found.newest
  held = group_held state left named found taken.is_found

  -- it may be written
  pub may : MayRecover state found ready
  may = may_recover found asked timestamp ready taken.was_readied state held taken.stand

  -- what it issues
  abbrev changes : List Configuration
  changes = recovery_changes timestamp found

  module _ (reads : ReadsTrue state) where
    -- the history once that is issued, and once it is acknowledged
    abbrev during : Past (groups group)
    during = recovery_past past state left named found kept admitted reads taken.every_slot taken.is_found same_group held taken.stand taken.under taken.fit asked timestamp ready taken.was_readied may

    abbrev behind : Past (groups group)
    behind = acknowledge during (recovery_last past state left named found kept admitted reads taken.every_slot taken.is_found same_group held taken.stand taken.under taken.fit asked timestamp ready taken.was_readied may)

    during_goes : Goes group past (is_read left) found changes during
    during_goes =
        inr (subst (λ (all : List Configuration). IsUnderway group past (is_read left) found all during) (append-nil changes)
        (recovery_goes past state left named found kept admitted reads taken.every_slot taken.is_found same_group held taken.stand taken.under taken.fit asked timestamp ready taken.was_readied may []))

    is_over : IsOver group past (is_read left) found changes behind
    is_over = recovery_over past state left named found kept admitted reads taken.every_slot taken.is_found same_group held taken.stand taken.under taken.fit asked timestamp ready taken.was_readied may

    -- while it is written
    changing_kept : (image : Image) → IsLeftChangingAll (synced state (slots_of found.seats)) (recovery_slots ready) may.seat (recovery_updates ready) image
        → IsKept during (scene_of state.sizes image)
    changing_kept = recovery_kept past state left named found kept admitted reads taken.every_slot taken.is_found same_group held taken.stand taken.under taken.fit asked timestamp ready taken.was_readied may

    -- behind the syncs
    sure_kept : (image : Image) → IsLeft (synced state (slots_of found.seats)).may_hold image → IsKept during (scene_of state.sizes image)
    sure_kept = synced_kept past state left named found kept admitted reads taken.every_slot taken.is_found same_group held taken.stand taken.under taken.fit asked timestamp ready taken.was_readied may

    module _ (new : BayState D) (same_sizes : new.sizes ≡ state.sizes) where
      -- Whatever a stop leaves on the way shows what it should.
      moments_kept : StopsLeave state new (λ image. IsLeft state.may_hold image ⊎ IsLeftChangingAll (synced state (slots_of found.seats)) (recovery_slots ready) may.seat (recovery_updates ready) image)
          → StopsLeave state new (λ image. (now : Past (groups group)) × Goes group past (is_read left) found changes now × IsKept now (scene_of state.sizes image))
      moments_kept moments = stops_weaken moments (λ image one. elim one [
        | inl before ↦ (past, inl refl, kept image before)
        | inr changing ↦ (during, during_goes, changing_kept image changing)
      ])

      -- So does what it may leave at its end, where the recovery failed.
      failed_kept : LeavesSynced state new (slots_of found.seats) (recovery_slots ready) may.seat (recovery_updates ready)
          → (now : Past (groups group)) × Goes group past (is_read left) found changes now × AreAllKept group now new
      failed_kept (inl keeps) = (past, inl refl, λ image leaves. rw same_sizes (kept image (left_keeps state.may_hold new.may_hold image keeps leaves)))
      failed_kept (inr each) = (
        during,
        during_goes,
        λ image leaves. rw same_sizes (elim (each image leaves) [
          | inl sure ↦ sure_kept image sure
          | inr changing ↦ changing_kept image changing
        ]),
      )

      -- Where it was done the group stands at the end of the history.
      at_end : AreChanged (synced state (slots_of found.seats)) new (recovery_slots ready) may.seat (recovery_updates ready) (length (recovery_slots ready))
          → AreSettled new found.seats (length found.seats) → IsLeft new.may_hold new.held → IsAtEnd group behind new (group_recovered found ready.recovery)
      at_end changed settled now_left =
          recovery_done past state left named found kept admitted reads taken.every_slot taken.is_found same_group held taken.stand taken.under taken.fit asked timestamp ready taken.was_readied may
          new same_sizes now_left changed settled

    -- The call keeps the history.
    pub recovery_keeps : (new : BayState D) (done : Bool) → IsRecovery state new found ready done → (new.tells_left → IsLeft new.may_hold new.held)
        → KeepsHistory group state new past left found changes done
    recovery_keeps new true is now_left =
        let same_sizes = is.spends.same_sizes in
        record {
          any_moment = moments_kept new same_sizes (is.any_moment may.seat may.may_change);
          ends = λ tells. (
            behind,
            is_over,
            (at_end new same_sizes (is.changed refl may.seat may.may_change) (is.settled refl may.seat may.may_change) (now_left tells)).all_kept,
          );
        }
    recovery_keeps new false is now_left =
        let same_sizes = is.spends.same_sizes in
        record {
          any_moment = moments_kept new same_sizes (is.any_moment may.seat may.may_change);
          ends = λ tells. failed_kept new same_sizes (is.ends refl may.seat may.may_change);
        }

    -- Behind it the group stands ready for its steps.
    pub recovery_stands : (new : BayState D) → IsRecovery state new found ready true → IsLeft new.may_hold new.held
        → (now : Past (groups group)) × IsOver group past (is_read left) found changes now
        × StandsReady group now new (group_recovered found ready.recovery) (behind_recovery ready)
    recovery_stands new is now_left = (
      behind,
      is_over,
      record {
        at_end = at_end new is.spends.same_sizes (is.changed refl may.seat may.may_change) (is.settled refl may.seat may.may_change) now_left;
        is_ready = recovered_ready found asked timestamp ready taken.was_readied;
        asked = asked;
        can_be_asked = taken.can_be_asked;
        timestamp = timestamp;
        time = taken.was_readied.time;
        are_steps = tried_on found timestamp ready asked taken.was_readied;
      },
    )

    -- However many changes are to come, the call is under way with them then.
    pub recovery_further : (new : BayState D) (is : IsRecovery state new found ready true) (now_left : IsLeft new.may_hold new.held) (later : List Configuration)
        → IsUnderway group past (is_read left) found (recovery_changes timestamp found ++ later) (recovery_stands new is now_left).0
    unfolding held may recovery_stands
    recovery_further new is now_left later =
        recovery_goes_on past state left named found kept admitted reads taken.every_slot taken.is_found same_group held taken.stand taken.under taken.fit asked timestamp ready taken.was_readied may later
