-- Recovery where no member is absent: the seats that lag get the leaders' configuration, which is then acknowledged.
use Rattle.std.proofs.Common.{◌≡◌, ℕ, Bool, true, false, List, map, Option, Some, None, if◌then◌else◌, refl, ap, sym, ◌∙◌, subst}
use Rattle.std.specs.Prelude.{slice_get}
use Rattle.ddf_lemmas.proofs.Lists.{in_map}
use Rattle.ddf_bay.specs.State.{BayState}
use Rattle.ddf_config.specs.declared.seat.Seat.{Seat}
use Rattle.ddf_config.specs.Configuration.{Configuration}
use Rattle.ddf_plan.specs.declared.change.Change.{Change}
use Rattle.ddf_history.specs.Issued.{Past, acknowledge, take_off}
use Rattle.ddf_history.specs.Groups.{groups, has_current}
use Rattle.ddf_history.specs.Steps.{IsLast}
use Rattle.ddf_history.proofs.Calls.{last_cut}
use Rattle.ddf_seats.specs.declared.seated.Seated.{Seated}
use Rattle.ddf_recovery.specs.Committed.{MayRecover, WasReadied, group_recovered}
use Rattle.ddf_steps.specs.Committed.{slots_of}
use Rattle.ddf_seats.specs.Group.{GroupValue}
use Rattle.ddf_steps.specs.Ready.{ReadyStep}
use Rattle.ddf_recovery.specs.Ready.{ReadyValue}
use Rattle.ddf_recovery.specs.Recovery.{config_lost, config_recovered, disks_recovered, lost_step, mended, mended_or_kept}
use Rattle.ddf_seats.specs.Leading.{lags, leading, some}
use Rattle.ddf_seats.specs.Seated.{seated, seats_in, levelled}
use Rattle.ddf_recovery.proofs.RecoveredGroup.{is_recovered}
use Rattle.ddf_history_steps.specs.Kept.{is_slot}
use Rattle.ddf_history_steps.specs.AtEnd.{IsMember}
use Rattle.ddf_history_steps.proofs.RecoveringEntry.{IsTaken, current_seated, disk_member, issued}
use Rattle.ddf_history_steps.proofs.RecoveringMending.{mended_begins, mended_ends, mended_goes, mended_views, new, none}
use Rattle.ddf_history_steps.proofs.RecoveringRun.{IsRun}
use Rattle.ddf_history_steps.proofs.StepMembers.{levelled_member, mended_member}
use Rattle.ddf_history_steps.proofs.TheoryLast.{last_acknowledged}

module _ (group : List ℕ) {D : Type 0} (past : Past (groups group)) (state : BayState D) (left : List Bool) (named : Option (List ℕ)) (found : GroupValue)
    (taken : IsTaken group past state left named found) (changes : List Change) (timestamp : ℕ) (ready : ReadyValue) (was : WasReadied found changes timestamp ready)
    (may : MayRecover state found ready) (present : some found.absent ≡ false) where
  abbrev number : ℕ
  number = (issued group past state left named found taken).0

  abbrev during : Past (groups group)
  during = take_off past number

  abbrev after : GroupValue
  after = group_recovered found ready.recovery

  -- The configuration that was assembled is the last.
  is_last : IsLast (acknowledge during number).changes number found.config
  is_last = last_acknowledged during.changes number found.config (last_cut past.changes number found.config (issued group past state left named found taken).1)

  -- ---- the group then

  config_is : after.config ≡ found.config
  unfolding config_recovered
  config_is = (is_recovered found changes timestamp ready was).config_is ∙ ap (λ (b : Bool). if b then config_lost found else found.config) present

  seats_are : after.seats ≡ found.seats
  seats_are = by ready.recovery
    where
      by : (next : Option ReadyStep) → (group_recovered found next).seats ≡ found.seats
      by None = refl
      by (Some one) = ap (λ (b : Bool). if b then seats_in one.step.disks else found.seats) present

  disks_are : seated after ≡ map (mended_or_kept timestamp found) (seated found)
  unfolding disks_recovered
  disks_are =
      (is_recovered found changes timestamp ready was).disks_are
      ∙ ap (λ (b : Bool). if b then map levelled (lost_step timestamp found).disks else map (mended_or_kept timestamp found) (seated found)) present

  -- Each seat's disk is a current member.
  is_member : (k : ℕ) (disk : Seated) → slice_get (seated found) k ≡ Some disk → IsMember found.config (mended_or_kept timestamp found disk)
  is_member k disk at = by (lags found disk)
    where
      is : IsMember found.config disk
      is = disk_member group past state left named found taken k disk at

      by : (b : Bool) → IsMember found.config (if b then levelled (mended (leading found) found.config timestamp disk) else disk)
      by true =
          levelled_member found.config (mended (leading found) found.config timestamp disk) (mended_member (leading found) found.config timestamp disk is)
      by false = is

  are_members : (place : ℕ) (disk : Seated) → slice_get (seated after) place ≡ Some disk → IsMember after.config disk
  are_members place disk at =
      let one = in_map (mended_or_kept timestamp found) (seated found) place disk (ap (λ (all : List Seated). slice_get all place) (sym disks_are) ∙ at) in
      subst (λ (config : Configuration). IsMember config disk) (sym config_is) (subst (IsMember found.config) one.2 (is_member place one.0 one.1))

  -- ---- all of it

  -- So it is a run of the history, by which no change is issued.
  pub mended_run : IsRun group state found ready may during number
  mended_run = record {
    new = new group past state left named found taken changes timestamp ready was may present;
    news = mended_views group past state left named found taken changes timestamp ready was may present;
    begins = mended_begins group past state left named found taken changes timestamp ready was may present;
    goes = mended_goes group past state left named found taken changes timestamp ready was may present;
    ends = mended_ends group past state left named found taken changes timestamp ready was may present;
    is_last = subst (λ (config : Configuration). IsLast (acknowledge during number).changes number config) (sym config_is) is_last;
    same_slots = taken.admitted.same_slots;
    same_group = ap (λ (config : Configuration). config.group) config_is ∙ taken.same_group;
    are_seated = λ slot here current.
        ap (λ (seats : List Seat). is_slot (slots_of seats) slot) seats_are
        ∙ current_seated group past state left named found taken (none group past state left named found taken changes timestamp ready was may present) slot
        (ap (λ (config : Configuration). has_current config (past.disk slot)) (sym config_is) ∙ current);
    are_members = are_members;
  }
