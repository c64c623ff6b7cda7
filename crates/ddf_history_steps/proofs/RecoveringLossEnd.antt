-- The end of the loss of absent members: each member that isn't away has its new copy.
use Rattle.std.proofs.Common.{◌≡◌, ℕ, ◌+◌, ◌&&◌, ◌||◌, not, Bool, true, false, List, [], ◌∷◌, map, Option, Some, if◌then◌else◌, refl, ap, sym, ◌∙◌, inr, subst}
use Rattle.std.proofs.lemmas.Bool.{or_from, or_parts}
use Rattle.std.specs.Prelude.{slice_get}
use Rattle.ddf_lemmas.proofs.Lists.{in_map, mapped_at}
use Rattle.ddf_bay.specs.State.{BayState}
use Rattle.ddf_config.specs.Configuration.{Configuration}
use Rattle.ddf_config.specs.Members.{is_current}
use Rattle.ddf_plan.specs.declared.change.Change.{Change}
use Rattle.ddf_plan.specs.declared.change.Change.TheVariants.{Lose}
use Rattle.ddf_view.specs.View.{View, view_of}
use Rattle.ddf_history.specs.Reading.{Scene}
use Rattle.ddf_history.specs.Issued.{Past, acknowledge, is_away}
use Rattle.ddf_history.specs.Leaders.{seen}
use Rattle.ddf_history.specs.Answer.{IsClaimed}
use Rattle.ddf_history.specs.Groups.{disk_of, groups, has_current}
use Rattle.ddf_history.specs.Scenes.{scene_of}
use Rattle.ddf_history.specs.Steps.{IsLast}
use Rattle.ddf_history.proofs.Calls.{seated_where_left_out}
use Rattle.ddf_history.proofs.Since.{first_is_copy}
use Rattle.ddf_history.proofs.Sound.{groups_are_sound}
use Rattle.ddf_seats.specs.declared.seated.Seated.{Seated}
use Rattle.ddf_recovery.specs.Committed.{MayRecover, WasReadied, group_recovered, recovery_slots, slots_written}
use Rattle.ddf_steps.specs.Committed.{slots_of}
use Rattle.ddf_seats.specs.Group.{GroupValue}
use Rattle.ddf_steps.specs.Ready.{ReadyStep}
use Rattle.ddf_recovery.specs.Ready.{ReadyValue}
use Rattle.ddf_recovery.specs.Recovery.{config_lost, config_recovered, disks_recovered, lost_step, mended_or_kept}
use Rattle.ddf_seats.specs.Leading.{leading, some}
use Rattle.ddf_seats.specs.Seated.{seated, seats_in, slots_in, levelled}
use Rattle.ddf_steps.specs.Steps.{disks_after, in_order, rewritten, stays_in}
use Rattle.ddf_steps.proofs.Ordered.{order_from}
use Rattle.ddf_recovery.proofs.RecoveredGroup.{is_recovered}
use Rattle.ddf_history.proofs.Following.{changes_follow}
use Rattle.ddf_history_steps.specs.Kept.{is_read, is_slot}
use Rattle.ddf_history_steps.specs.AtEnd.{IsMember}
use Rattle.ddf_history_steps.proofs.RecoveringEntry.{IsTaken, assembled, claimed_is_current, claimed_seated, disk_claimed, disk_member, disk_reference, issued, kept_held, member_claimed, seat_on}
use Rattle.ddf_history_steps.proofs.RecoveringLoss.{listed_current, lost_acknowledged, lost_disks, lost_issued, lost_kept, lost_last, lost_one, lost_past, lost_rises, lost_views, new}
use Rattle.ddf_history_steps.proofs.RecoveringPlaces.{passes_written}
use Rattle.ddf_history_steps.proofs.RecoveringRun.{IsRun}
use Rattle.ddf_history_steps.proofs.Slots.{slot_is, slot_placed}
use Rattle.ddf_history_steps.proofs.StepMembers.{AreMembers, after_members, levelled_member}
use Rattle.ddf_history_steps.proofs.TheoryClaimed.{claimed_held}
use Rattle.ddf_history_steps.proofs.TheoryLoss.{left_from}

-- A slot of disks in the order in which they are written is that of one of them.
pub ordered_slot : (disks : List Seated) (slot : ℕ) → is_slot (slots_in (in_order disks)) slot ≡ true → is_slot (slots_in disks) slot ≡ true
ordered_slot disks slot is =
    let at = slot_placed (slots_in (in_order disks)) slot is in
    let one = in_map (λ (disk : Seated). disk.seat.slot) (in_order disks) at.0 slot at.1 in
    let from = order_from disks at.0 one.0 one.1 in
    slot_is (slots_in disks) from.0 slot (mapped_at (λ (disk : Seated). disk.seat.slot) disks from.0 one.0 from.1 ∙ ap Some one.2)

-- The slots of disks' seats are those of the disks.
pub slots_same : (disks : List Seated) → slots_of (seats_in disks) ≡ slots_in disks
slots_same [] = refl
slots_same (disk ∷ disks) = ap (λ (slots : List ℕ). disk.seat.slot ∷ slots) (slots_same disks)

module _ (group : List ℕ) {D : Type 0} (past : Past (groups group)) (state : BayState D) (left : List Bool) (named : Option (List ℕ)) (found : GroupValue)
    (taken : IsTaken group past state left named found) (changes : List Change) (timestamp : ℕ) (ready : ReadyValue) (was : WasReadied found changes timestamp ready)
    (may : MayRecover state found ready) (absent : some found.absent ≡ true) where
  abbrev lost : Configuration
  lost = config_lost found

  abbrev slots : List ℕ
  slots = recovery_slots ready

  abbrev readable : ℕ → Bool
  readable = is_read left

  abbrev held : Scene View
  held = scene_of state.sizes state.held

  abbrev number : ℕ
  number = (issued group past state left named found taken).0

  abbrev during : Past (groups group)
  during = lost_past group past state left named found taken changes timestamp ready was may absent

  abbrev after : GroupValue
  after = group_recovered found ready.recovery

  -- ---- each member has its new copy

  -- A seat's disk is that of its slot.
  disk_is : (slot : ℕ) (view : View) → IsClaimed (groups group) (seen readable held) slot view → disk_of view ≡ past.disk slot
  disk_is slot view claimed =
      let given = assembled group past state left named found taken in
      let first = (claimed_held (groups group) (groups_are_sound group) past held readable found.config given slot view claimed).1 in
      (kept_held group past state left named found taken).named slot view (first_is_copy (held slot) view first)
      (inr (number, found.config, (issued group past state left named found taken).1, claimed_is_current group past state left named found taken slot view claimed))

  -- A member that isn't away is claimed.
  still_claimed : (slot : ℕ) → is_away (left_from past readable found.config number) slot ≡ false → has_current lost (past.disk slot) ≡ true
      → (view : View) × IsClaimed (groups group) (seen readable held) slot view
  still_claimed slot here current =
      let rises = lost_rises group past state left named found taken changes timestamp ready was may absent in
      let now = (changes_follow group found.config (Lose found.absent) lost.sequence rises).no_more (past.disk slot) current in
      let read = seated_where_left_out past readable found.config slot here now in
      let apart = or_parts (past.lost slot || not (readable slot) && has_current found.config (past.disk slot)) (past.returned slot) here in
      let stays = (or_parts (past.lost slot) (not (readable slot) && has_current found.config (past.disk slot)) apart.0).0 in
      member_claimed group past state left named found taken slot (or_from (past.lost slot) (past.returned slot) stays apart.1) read now

  -- So its slot is written.
  member_written : (slot : ℕ) → is_away (left_from past readable found.config number) slot ≡ false → has_current lost (past.disk slot) ≡ true → is_slot slots slot ≡ true
  member_written slot here current =
      let one = still_claimed slot here current in
      let on = seat_on group past state left named found taken slot (claimed_seated group past state left named found taken slot one.0 one.1) in
      let claimed = subst (λ (n : ℕ). IsClaimed (groups group) (seen readable held) n (view_of on.disk.copy)) on.slot_is
      (disk_claimed group past state left named found taken on.place on.disk on.is_there) in
      let listed = listed_current (disk_of (view_of on.disk.copy)) lost lost.members (ap (has_current lost) (disk_is slot (view_of on.disk.copy) claimed) ∙ current) in
      let passes : stays_in lost on.disk ≡ true =
      ap (is_current lost.members) (sym (disk_reference group past state left named found taken on.place on.disk on.is_there)) ∙ listed in
      subst (λ (n : ℕ). is_slot slots n ≡ true) on.slot_is
      (passes_written group past state left named found taken ready may (stays_in lost) (rewritten (leading found) lost timestamp) (λ disk. refl)
      (lost_disks group past state left named found taken changes timestamp ready was may absent) on.place on.disk on.is_there passes)

  -- ---- the group then

  config_is : after.config ≡ lost
  unfolding config_recovered
  config_is = (is_recovered found changes timestamp ready was).config_is ∙ ap (λ (b : Bool). if b then config_lost found else found.config) absent

  -- Each slot that is written is that of a seat.
  seat_there : (slot : ℕ) → is_slot slots slot ≡ true → is_slot (slots_of after.seats) slot ≡ true
  seat_there slot is =
      let one = lost_one group past state left named found taken changes timestamp ready was may absent in
      let seats : slots_of after.seats ≡ slots_in one.0.step.disks =
      ap (λ (next : Option ReadyStep). slots_of (group_recovered found next).seats) one.1
      ∙ ap (λ (b : Bool). slots_of (if b then seats_in one.0.step.disks else found.seats)) absent
      ∙ slots_same one.0.step.disks in
      let there : is_slot (slots_in (in_order one.0.step.disks)) slot ≡ true = sym (ap (λ (next : Option ReadyStep). is_slot (slots_written next) slot) one.1) ∙ is in
      ap (λ (all : List ℕ). is_slot all slot) seats ∙ ordered_slot one.0.step.disks slot there

  disks_are : seated after ≡ map levelled (disks_after timestamp (leading found) lost (seated found))
  unfolding disks_recovered
  disks_are =
      (is_recovered found changes timestamp ready was).disks_are
      ∙ ap (λ (b : Bool). if b then map levelled (lost_step timestamp found).disks else map (mended_or_kept timestamp found) (seated found)) absent

  -- Each seat's disk is a current member then.
  written_members : AreMembers lost (disks_after timestamp (leading found) lost (seated found))
  written_members = after_members timestamp (leading found) found.config (Lose found.absent) (seated found) (disk_member group past state left named found taken)

  are_members : AreMembers after.config (seated after)
  are_members place disk at =
      let one = in_map levelled (disks_after timestamp (leading found) lost (seated found)) place disk (ap (λ (all : List Seated). slice_get all place) (sym disks_are) ∙ at) in
      subst (λ (config : Configuration). IsMember config disk) (sym config_is)
      (subst (IsMember lost) one.2 (levelled_member lost one.0 (written_members place one.0 one.1)))

  -- ---- all of it

  -- So the loss is a run of the history.
  pub lost_run : IsRun group state found ready may during (number + 1)
  lost_run = record {
    new = new group past state left named found taken changes timestamp ready was may absent;
    news = lost_views group past state left named found taken changes timestamp ready was may absent;
    begins = lost_issued group past state left named found taken changes timestamp ready was may absent;
    goes = λ image leaves shown written turns.
        lost_kept group past state left named found taken changes timestamp ready was may absent image leaves shown written member_written turns;
    ends = λ image leaves shown written done.
        lost_acknowledged group past state left named found taken changes timestamp ready was may absent image leaves shown written
        (λ slot here current. let is = member_written slot here current in (is, done slot is)) done;
    is_last = subst (λ (config : Configuration). IsLast (acknowledge during (number + 1)).changes (number + 1) config) (sym config_is)
        (lost_last group past state left named found taken changes timestamp ready was may absent);
    same_slots = taken.admitted.same_slots;
    same_group = ap (λ (config : Configuration). config.group) config_is ∙ taken.same_group;
    are_seated = λ slot here current.
        seat_there slot
        (member_written slot here (ap (λ (config : Configuration). has_current config (past.disk slot)) (sym config_is) ∙ current));
    are_members = are_members;
  }
