-- Recovery keeps a history: whatever a stop leaves of it shows what it should for the changes as they then are.
use Rattle.std.proofs.Common.{◌≡◌, ◌⊎◌, ℕ, ◌+◌, ◌<◌, ◌≤◌, not, Bool, true, false, eqb, List, [], ◌∷◌, ◌++◌, length, map, Option, Some, None, Ok, if◌then◌else◌, refl, ap, sym, ◌∙◌, inl, inr, subst, arith}
use Rattle.std.proofs.lemmas.Bool.{eq-eqb, ne_eqb}
use Rattle.std.proofs.lemmas.List.{length-append}
use Rattle.std.proofs.Math.Seq.{take-append_seam}
use Rattle.std.specs.Prelude.{option_to_list, take}
use Rattle.ddf_bay.specs.Sectors.{Image, IsLeft}
use Rattle.ddf_bay.specs.State.{BayState}
use Rattle.ddf_config.specs.Configuration.{Configuration}
use Rattle.ddf_config.specs.Seats.{SeatsFit}
use Rattle.ddf_plan.specs.declared.change.Change.{Change}
use Rattle.ddf_update.specs.Changes.{AreChanged, IsLeftChangingAll}
use Rattle.ddf_history.specs.Issued.{Past, IsSince, acknowledge, issue, leave_out, take_off}
use Rattle.ddf_history.specs.Groups.{groups}
use Rattle.ddf_history.specs.Promise.{IsKept}
use Rattle.ddf_history.specs.Scenes.{scene_of}
use Rattle.ddf_steps.specs.Committed.{AreSettled, slots_of, synced}
use Rattle.ddf_recovery.specs.Committed.{MayRecover, WasReadied, group_recovered, recovery_slots, recovery_updates}
use Rattle.ddf_seats.specs.Group.{GroupValue}
use Rattle.ddf_assembly.specs.Group.{group_of}
use Rattle.ddf_assembly.specs.Held.{AreHeldOn, StandUnder}
use Rattle.ddf_assembly.specs.Reading.{HaveAnchors}
use Rattle.ddf_recovery.specs.Ready.{ReadyValue}
use Rattle.ddf_recovery.specs.Recovery.{config_lost, lost_step, mending_step, recovery_of}
use Rattle.ddf_seats.specs.Leading.{some}
use Rattle.ddf_assembly.specs.Slots.{newest_from}
use Rattle.ddf_steps.specs.Steps.{Step}
use Rattle.ddf_recovery.proofs.RecoveredGroup.{is_recovered}
use Rattle.ddf_recovery.proofs.RecoveryWritten.{recovered_anchored, recovered_held}
use Rattle.ddf_history_steps.specs.Going.{IsAdmitted, IsOver, IsUnderway, begun, changes_in, issue_all}
use Rattle.ddf_history_steps.specs.Kept.{AreAllKept, ReadsTrue, is_read}
use Rattle.ddf_history_steps.specs.AtEnd.{IsAtEnd}
use Rattle.ddf_history_steps.proofs.RecoveringEntry.{IsTaken, issued}
use Rattle.ddf_history_steps.proofs.RecoveringLoss.{lost_past, lost_rises}
use Rattle.ddf_history_steps.proofs.RecoveringLossEnd.{lost_run}
use Rattle.ddf_history_steps.proofs.RecoveringMendingEnd.{mended_run}
use Rattle.ddf_history_steps.proofs.RecoveringRun.{IsRun}
use Rattle.ddf_history_steps.proofs.RecoveringStops.{before, done_left, done_says, done_shown, done_written, stop_left, stop_turns, stop_written}

-- ---- the changes that a recovery issues

-- Where members are absent, that is their loss.
pub lost_changes : (timestamp : ℕ) (found : GroupValue) → some found.absent ≡ true → found.config.sequence < (config_lost found).sequence
    → changes_in found (option_to_list (recovery_of timestamp found)) ≡ config_lost found ∷ []
unfolding recovery_of
lost_changes timestamp found absent rises =
    let mending : Option Step = if some found.lagging then Some (mending_step timestamp found) else None in
    let differ : eqb (config_lost found).sequence found.config.sequence ≡ false =
    ne_eqb (config_lost found).sequence found.config.sequence (λ same. omega (arith, rises, same)) in
    ap (λ (b : Bool). changes_in found (option_to_list (if b then Some (lost_step timestamp found) else mending))) absent
    ∙ ap (λ (b : Bool). map (λ (step : Step). step.config) (if not b then lost_step timestamp found ∷ [] else [])) differ

-- Else there is none: to give seats the configuration as it is issues no change.
pub no_changes : (timestamp : ℕ) (found : GroupValue) → some found.absent ≡ false → changes_in found (option_to_list (recovery_of timestamp found)) ≡ []
unfolding recovery_of
no_changes timestamp found present =
    let mending : Option Step = if some found.lagging then Some (mending_step timestamp found) else None in
    ap (λ (b : Bool). changes_in found (option_to_list (if b then Some (lost_step timestamp found) else mending))) present
    ∙ by (some found.lagging)
  where
    same : eqb found.config.sequence found.config.sequence ≡ true
    same = eq-eqb found.config.sequence found.config.sequence refl

    by : (b : Bool) → changes_in found (option_to_list (if b then Some (mending_step timestamp found) else None)) ≡ []
    by true = ap (λ (b : Bool). map (λ (step : Step). step.config) (if not b then mending_step timestamp found ∷ [] else [])) same
    by false = refl

-- ---- lists of changes

-- A list is no longer than with others behind it.
less_first : {X : Type 0} (xs ys : List X) → length xs ≤ length (xs ++ ys)
less_first xs ys = let counted = length-append xs ys in omega arith

-- Issuing leaves what is acknowledged as it is.
pub acked_still : (group : List ℕ) (past : Past (groups group)) (changes : List Configuration) → (issue_all group past changes).changes.acked ≡ past.changes.acked
acked_still group past [] = refl
acked_still group past (next ∷ others) = acked_still group (issue past next) others

module _ {group : List ℕ} {D : Type 0} (past : Past (groups group)) (state : BayState D) (left : List Bool) (named : Option (List ℕ)) (found : GroupValue)
    (kept : AreAllKept group past state) (admitted : IsAdmitted group past state left found) (reads : ReadsTrue state)
    (every_slot : length left ≡ length state.sizes) (is : group_of (newest_from state 0 left) named ≡ Ok found) (same_group : found.config.group ≡ group)
    (held : AreHeldOn state found.newest) (stand : StandUnder state found.newest) (under : HaveAnchors state.sizes found.newest)
    (fit : SeatsFit state.sizes found.seats)
    (changes : List Change) (timestamp : ℕ) (ready : ReadyValue) (was : WasReadied found changes timestamp ready) (may : MayRecover state found ready) where
  -- the call took the group
  pub taken : IsTaken group past state left named found
  taken = record {
    kept = kept;
    admitted = admitted;
    is_left = reads.is_left;
    holds_bytes = reads.holds_bytes;
    every_slot = every_slot;
    is_found = is;
    same_group = same_group;
    are_held = held;
    are_under = stand;
    anchored = under;
    assembled = was.assembled;
  }

  -- What it assembled was issued.
  pub begun_with : (number : ℕ) × IsSince past.changes number found.config
  begun_with = issued group past state left named found taken

  -- the changes that the recovery issues
  abbrev pub recovery_changes : List Configuration
  recovery_changes = changes_in found (option_to_list (recovery_of timestamp found))

  -- the history with these
  abbrev pub recovery_past : Past (groups group)
  recovery_past = issue_all group (begun group past (is_read left) found begun_with.0) recovery_changes

  -- the number of the last change then
  abbrev pub recovery_last : ℕ
  recovery_last = begun_with.0 + length recovery_changes

  -- It is a run of the history.
  run : IsRun group state found ready may recovery_past recovery_last
  unfolding begun_with
  run = by (some found.absent) refl
    where
      gone_on : Bool → Past (groups group)
      gone_on b = if b then take_off (leave_out past (is_read left) found.config) begun_with.0 else take_off past begun_with.0

      by : (b : Bool) → some found.absent ≡ b → IsRun group state found ready may recovery_past recovery_last
      by true absent =
          let rises = lost_rises group past state left named found taken changes timestamp ready was may absent in
          let loss = lost_changes timestamp found absent rises in
          let issued_past = lost_past group past state left named found taken changes timestamp ready was may absent in
          let past_is : recovery_past ≡ issued_past =
          ap (issue_all group (begun group past (is_read left) found begun_with.0)) loss
          ∙ ap (λ (b : Bool). issue (gone_on b) (config_lost found)) absent in
          let last_is : recovery_last ≡ begun_with.0 + 1 = ap (λ (issued : List Configuration). begun_with.0 + length issued) loss in
          subst (λ (during : Past (groups group)). IsRun group state found ready may during recovery_last) (sym past_is)
          (subst (λ (n : ℕ). IsRun group state found ready may issued_past n) (sym last_is)
          (lost_run group past state left named found taken changes timestamp ready was may absent))
      by false present =
          let nothing = no_changes timestamp found present in
          let past_is : recovery_past ≡ take_off past begun_with.0 =
          ap (issue_all group (begun group past (is_read left) found begun_with.0)) nothing
          ∙ ap gone_on present in
          let none_more : begun_with.0 + 0 ≡ begun_with.0 = omega arith in
          let last_is : recovery_last ≡ begun_with.0 = ap (λ (issued : List Configuration). begun_with.0 + length issued) nothing ∙ none_more in
          subst (λ (during : Past (groups group)). IsRun group state found ready may during recovery_last) (sym past_is)
          (subst (λ (n : ℕ). IsRun group state found ready may (take_off past begun_with.0) n) (sym last_is)
          (mended_run group past state left named found taken changes timestamp ready was may present))

  -- ---- what a stop leaves

  -- Once the seats' slots are synced each slot shows what it should.
  pub synced_kept : (image : Image) → IsLeft (synced state (slots_of found.seats)).may_hold image → IsKept recovery_past (scene_of state.sizes image)
  synced_kept image leaves = run.begins image leaves

  -- So it does while recovery is written.
  pub recovery_kept : (image : Image)
      → IsLeftChangingAll (synced state (slots_of found.seats)) (recovery_slots ready) may.seat (recovery_updates ready) image
      → IsKept recovery_past (scene_of state.sizes image)
  recovery_kept image leaves =
      run.goes (before group past state left named found taken changes timestamp ready was may image)
      (stop_left group past state left named found taken changes timestamp ready was may image leaves) (scene_of state.sizes image)
      (stop_written group past state left named found taken changes timestamp ready was may image leaves run.new run.news)
      (stop_turns group past state left named found taken changes timestamp ready was may image leaves run.new run.news)

  -- ---- once it was written

  module _ (new : BayState D) (same_sizes : new.sizes ≡ state.sizes) (now_left : IsLeft new.may_hold new.held)
      (changed : AreChanged (synced state (slots_of found.seats)) new (recovery_slots ready) may.seat (recovery_updates ready)
      (length (recovery_slots ready))) where
    -- Each slot shows what it should with the last change acknowledged.
    done_kept : (image : Image) → IsLeft new.may_hold image → IsKept (acknowledge recovery_past recovery_last) (scene_of state.sizes image)
    done_kept image leaves =
        run.ends (before group past state left named found taken changes timestamp ready was may image)
        (done_left group past state left named found taken changes timestamp ready was may new same_sizes changed image leaves run.new run.news)
        (scene_of state.sizes image)
        (done_written group past state left named found taken changes timestamp ready was may new same_sizes changed image leaves run.new run.news)
        (done_shown group past state left named found taken changes timestamp ready was may new same_sizes changed image leaves run.new run.news)

    -- The group that was recovered is at the end of the history.
    pub recovery_done : AreSettled new found.seats (length found.seats)
        → IsAtEnd group (acknowledge recovery_past recovery_last) new (group_recovered found ready.recovery)
    recovery_done settled = record {
      all_kept = λ image leaves.
          subst (λ (sizes : List ℕ). IsKept (acknowledge recovery_past recovery_last) (scene_of sizes image)) (sym same_sizes) (done_kept image leaves);
      is_last = run.is_last;
      is_settled = (is_recovered found changes timestamp ready was).is_settled;
      holds = recovered_held found changes timestamp ready was state new same_sizes held stand may changed;
      under = subst (λ (sizes : List ℕ). HaveAnchors sizes (group_recovered found ready.recovery).newest) (sym same_sizes)
          (recovered_anchored found changes timestamp ready was state.sizes under);
      same_slots = run.same_slots ∙ ap length (sym same_sizes);
      same_group = run.same_group;
      are_seated = run.are_seated;
      are_members = run.are_members;
      says_one = done_says group past state left named found taken changes timestamp ready was may new same_sizes changed new.held now_left run.new run.news;
      is_left = now_left;
    }

  -- ---- how far the changes came

  -- what the call goes on from, with changes issued
  abbrev with_changes : List Configuration → Past (groups group)
  with_changes issued = issue_all group (begun group past (is_read left) found begun_with.0) issued

  -- The first of the changes are the recovery's.
  changes_taken : (later : List Configuration) (acked : ℕ)
      → acknowledge recovery_past acked ≡ acknowledge (with_changes (take (length recovery_changes) (recovery_changes ++ later))) acked
  changes_taken later acked =
      ap (λ (issued : List Configuration). acknowledge (with_changes issued) acked) (sym (take-append_seam recovery_changes later))

  -- What is acknowledged is as at entry.
  still_acked : recovery_past.changes.acked ≡ past.changes.acked
  still_acked = acked_still group (begun group past (is_read left) found begun_with.0) recovery_changes ∙ by (some found.absent)
    where
      by : (b : Bool)
          → (if b then take_off (leave_out past (is_read left) found.config) begun_with.0 else take_off past begun_with.0).changes.acked ≡ past.changes.acked
      by true = refl
      by false = refl

  -- Where members are absent their loss is issued.
  loss_issued : some found.absent ≡ true → 1 ≤ length recovery_changes
  loss_issued absent =
      let rises = lost_rises group past state left named found taken changes timestamp ready was may absent in
      let one : length recovery_changes ≡ 1 = ap (λ (issued : List Configuration). length issued) (lost_changes timestamp found absent rises) in
      omega (arith, one)

  -- The loss comes first of all, and is its only change.
  loss_first : (length recovery_changes ≡ 0) ⊎ (begun_with.0 + length recovery_changes ≤ past.changes.acked + 1)
      ⊎ ((some found.absent ≡ true) × (length recovery_changes ≡ 1))
  loss_first = by (some found.absent) refl
    where
      by : (b : Bool) → some found.absent ≡ b → (length recovery_changes ≡ 0) ⊎ (begun_with.0 + length recovery_changes ≤ past.changes.acked + 1)
          ⊎ ((some found.absent ≡ true) × (length recovery_changes ≡ 1))
      by true absent =
          let rises = lost_rises group past state left named found taken changes timestamp ready was may absent in
          inr (inr (absent, ap (λ (issued : List Configuration). length issued) (lost_changes timestamp found absent rises)))
      by false present = inl (ap (λ (issued : List Configuration). length issued) (no_changes timestamp found present))

  -- Before it is acknowledged the recovery is under way.
  pub recovery_goes : (later : List Configuration) → IsUnderway group past (is_read left) found (recovery_changes ++ later) recovery_past
  recovery_goes later =
      let late = begun_with.1.late in
      record {
        number = begun_with.0;
        since = begun_with.1;
        issued = length recovery_changes;
        few = less_first recovery_changes later;
        loses = loss_issued;
        acked = past.changes.acked;
        stands = inl refl;
        most = omega arith;
        in_turn = loss_first;
        is_now = ap (λ (n : ℕ). acknowledge recovery_past n) still_acked ∙ changes_taken later past.changes.acked;
      }

  -- So it is once it is acknowledged.
  pub recovery_goes_on : (later : List Configuration)
      → IsUnderway group past (is_read left) found (recovery_changes ++ later) (acknowledge recovery_past recovery_last)
  recovery_goes_on later = record {
    number = begun_with.0;
    since = begun_with.1;
    issued = length recovery_changes;
    few = less_first recovery_changes later;
    loses = loss_issued;
    acked = recovery_last;
    stands = inr (omega arith);
    most = omega arith;
    in_turn = inr (inl (omega arith));
    is_now = changes_taken later recovery_last;
  }

  -- Its own changes are over then.
  pub recovery_over : IsOver group past (is_read left) found recovery_changes (acknowledge recovery_past recovery_last)
  recovery_over = record { number = begun_with.0; since = begun_with.1; is_now = refl }
