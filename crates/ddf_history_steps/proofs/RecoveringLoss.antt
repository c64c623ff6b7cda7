-- What recovery writes where members are absent: their loss, to each seat.
use Rattle.std.proofs.Common.{◌≡◌, ℕ, ◌+◌, ◌<◌, ◌≤◌, ◌&&◌, ◌||◌, not, Bool, true, false, eqb, nat_eq, List, [], ◌∷◌, length, map, Option, Some, None, if◌then◌else◌, refl, ap, sym, ◌∙◌, inl, inr, subst}
use Rattle.std.proofs.lemmas.Bool.{and_parts, or_from, or_parts, cases_lt, eq-eqb, eqb-true, false≢true}
use Rattle.std.specs.Prelude.{filter, slice_get}
use Rattle.std.specs.List.{AllByRecursion}
use Rattle.std.specs.Str.{bytes_eq}
use Rattle.ddf_bay.specs.Sectors.{Image, IsLeft}
use Rattle.ddf_bay.specs.State.{BayState}
use Rattle.ddf_config.specs.declared.member.Member.{Member}
use Rattle.ddf_config.specs.Configuration.{Configuration}
use Rattle.ddf_config.specs.Members.{is_current}
use Rattle.ddf_copy.specs.declared.copy.DiskCopy.{DiskCopy}
use Rattle.ddf_copy.specs.Written.{CanBeCopy}
use Rattle.ddf_plan.specs.declared.change.Change.{Change}
use Rattle.ddf_plan.specs.declared.change.Change.TheVariants.{Lose}
use Rattle.ddf_plan.specs.Members.{member_after, members_after}
use Rattle.ddf_plan.specs.Lose.{is_among}
use Rattle.ddf_update.specs.declared.prepared.Mode.TheVariants as modes
use Rattle.ddf_update.specs.Prepared.{writes_anchor}
use Rattle.ddf_view.specs.View.{View, view_of}
use Rattle.ddf_rewrite.specs.Changing.{CanChange}
use Rattle.ddf_rewrite.specs.Copies.{changed_copy}
use Rattle.ddf_rewrite.proofs.Lists.{all_at}
use Rattle.ddf_rewrite.proofs.Roomy.{change_can, roomy_change_can}
use Rattle.ddf_history.specs.Reading.{IsCopyOf, Scene}
use Rattle.ddf_history.specs.Reading.Shown.{One}
use Rattle.ddf_history.specs.Issued.{Past, IsSince, acknowledge, is_away, issue}
use Rattle.ddf_history.specs.Answer.{IsClaimed}
use Rattle.ddf_history.specs.Leaders.{seen}
use Rattle.ddf_history.specs.Calls.{AreSure, IsAssembled}
use Rattle.ddf_history.specs.Groups.{Disk, disk_of, groups, has_current}
use Rattle.ddf_history.specs.Promise.{IsKept}
use Rattle.ddf_history.specs.Scenes.{scene_of}
use Rattle.ddf_history.specs.Steps.{AreWritten, DoRemain, IsLast, JoinLast, MayWrite, OthersLast}
use Rattle.ddf_history.proofs.Calls.{seated_where_left_out}
use Rattle.ddf_history.proofs.AnsweredLists.{map_some}
use Rattle.ddf_history.proofs.Since.{first_is_copy}
use Rattle.ddf_history.proofs.Sound.{groups_are_sound}
use Rattle.ddf_seats.specs.declared.seated.Seated.{Seated}
use Rattle.ddf_recovery.specs.Committed.{MayRecover, WasReadied, disks_written, recovery_slots}
use Rattle.ddf_steps.specs.Committed.{slots_of}
use Rattle.ddf_steps.specs.Full.{full_of, full_where_written}
use Rattle.ddf_seats.specs.Group.{GroupValue}
use Rattle.ddf_steps.specs.Ready.{ReadyStep}
use Rattle.ddf_recovery.specs.Ready.{ReadyValue}
use Rattle.ddf_recovery.specs.Recovery.{config_lost, full_of_mending, full_of_recovery, lost_step, mending_step, recovery_of}
use Rattle.ddf_seats.specs.Leading.{leading, some}
use Rattle.ddf_seats.specs.Seated.{seated, is_adopted}
use Rattle.ddf_steps.specs.Steps.{Step, disks_after, in_order, rewritten, stays_in}
use Rattle.ddf_steps.specs.Trying.{CanTry}
use Rattle.ddf_assembly.proofs.Leaders.{led_on}
use Rattle.ddf_recovery.proofs.Lost.{lost_held}
use Rattle.ddf_steps.proofs.OneLength.{HasRoom, can_try_all, has_room as room_in, room_on}
use Rattle.ddf_recovery.proofs.ReadiedParts.{has_room, loss_rises}
use Rattle.ddf_steps.proofs.Rewritten.{capacities, closed_view}
use Rattle.ddf_steps.proofs.MembersAfter.{changed_map}
use Rattle.ddf_history_steps.specs.Kept.{is_read, is_slot}
use Rattle.ddf_history_steps.proofs.ChangingCopies.{changed_views}
use Rattle.ddf_history_steps.proofs.ChangingLoss.{loss_acknowledged, loss_acknowledged_last, loss_issued, loss_kept, loss_may_write, loss_number, loss_turned_last}
use Rattle.ddf_history_steps.proofs.ChangingStays.{stays_current, turned}
use Rattle.ddf_history_steps.proofs.RecoveringEntry.{IsTaken, are_sure, assembled, claimed_is_current, disk_reference, issued, kept_held, member_claimed, not_absent, old, seat_claimed, sure_kept, sure_state}
use Rattle.ddf_history_steps.proofs.RecoveringPlaces.{IsWrittenOn, new_views, others_last, written_on, written_seated}
use Rattle.ddf_history_steps.proofs.Stops.{AreInTurn}
use Rattle.ddf_history_steps.proofs.TheoryClaimed.{claimed_held}
use Rattle.ddf_history_steps.proofs.TheoryLoss.{left_from}

-- The reference of a disk that is a current member is a current one.
pub listed_current : (disk : Disk) (config : Configuration) (members : List (ℕ × Member)) → has_current (record config { members = members }) disk ≡ true
    → is_current members disk.reference ≡ true
listed_current disk config [] is = absurd (false≢true is)
listed_current disk config (entry ∷ members) is = go (listed_current disk config members) (eqb entry.0 disk.reference) refl
  where
    go : (has_current (record config { members = members }) disk ≡ true → is_current members disk.reference ≡ true) → (here : Bool) → eqb entry.0 disk.reference ≡ here
        → is_current (entry ∷ members) disk.reference ≡ true
    go later true here =
        let back : nat_eq disk.reference entry.0 ≡ true = eq-eqb disk.reference entry.0 (sym (eqb-true entry.0 disk.reference here)) in
        let parts = and_parts (bytes_eq entry.1.guid disk.guid) (not entry.1.missing) (rw here at is) in
        rw (back, is_current) parts.1
    go later false here =
        let back : nat_eq disk.reference entry.0 ≡ false = turned entry.0 disk.reference (nat_eq disk.reference entry.0) refl here in
        rw (back, is_current) (later (rw here at is))

-- A member that isn't lost stays current.
pub still_current_in : (config : Configuration) (references : List ℕ) (reference : ℕ) → is_among references reference ≡ false → (members : List (ℕ × Member)) → is_current members reference ≡ true
    → is_current (map (λ (entry : ℕ × Member). (entry.0, member_after config (Lose references) entry.0 entry.1)) members) reference ≡ true
still_current_in config references reference free [] is = is
still_current_in config references reference free (entry ∷ members) is = go (still_current_in config references reference free members) (nat_eq reference entry.0) refl
  where
    go : (is_current members reference ≡ true → is_current (map (λ (entry : ℕ × Member). (entry.0, member_after config (Lose references) entry.0 entry.1)) members) reference ≡ true)
        → (b : Bool) → nat_eq reference entry.0 ≡ b
        → is_current (map (λ (entry : ℕ × Member). (entry.0, member_after config (Lose references) entry.0 entry.1)) (entry ∷ members)) reference ≡ true
    go later true here =
        let none : is_among references entry.0 ≡ false = ap (is_among references) (sym (eqb-true reference entry.0 here)) ∙ free in
        let same : (member_after config (Lose references) entry.0 entry.1).missing ≡ entry.1.missing = ap (λ (b : Bool). b || entry.1.missing) none in
        rw (here, is_current) (ap (λ (b : Bool). not b) same ∙ rw (here, is_current) at is)
    go later false here = rw (here, is_current) (later (rw (here, is_current) at is))

pub lose_leaves : (config : Configuration) (references : List ℕ) (reference : ℕ) → is_among references reference ≡ false → is_current config.members reference ≡ true
    → is_current (members_after config (Lose references)) reference ≡ true
lose_leaves config references reference free is =
    ap (λ (members : List (ℕ × Member)). is_current members reference) (changed_map (member_after config (Lose references)) config.members)
    ∙ still_current_in config references reference free config.members is

module _ (group : List ℕ) {D : Type 0} (past : Past (groups group)) (state : BayState D) (left : List Bool) (named : Option (List ℕ)) (found : GroupValue)
    (taken : IsTaken group past state left named found) (changes : List Change) (timestamp : ℕ) (ready : ReadyValue) (was : WasReadied found changes timestamp ready)
    (may : MayRecover state found ready) (absent : some found.absent ≡ true) where
  abbrev lost : Configuration
  lost = config_lost found

  abbrev slots : List ℕ
  slots = recovery_slots ready

  abbrev readable : ℕ → Bool
  readable = is_read left

  abbrev held : Scene View
  held = scene_of state.sizes state.held

  abbrev old_on : ℕ → DiskCopy
  old_on = old group past state left named found taken

  abbrev number : ℕ
  number = (issued group past state left named found taken).0

  since : IsSince past.changes number found.config
  since = (issued group past state left named found taken).1

  all_assembled : IsAssembled past held readable found.config
  all_assembled = assembled group past state left named found taken

  -- ---- what is written

  is_lost : recovery_of timestamp found ≡ Some (lost_step timestamp found)
  unfolding recovery_of
  is_lost = ap (λ (b : Bool). if b then Some (lost_step timestamp found) else if some found.lagging then Some (mending_step timestamp found) else None) absent

  -- The recovery is the loss.
  pub lost_one : (one : ReadyStep) × (ready.recovery ≡ Some one) × (one.step ≡ lost_step timestamp found)
  lost_one = map_some (λ (one : ReadyStep). one.step) ready.recovery (lost_step timestamp found) (was.is_recovery ∙ is_lost)

  -- It is of a greater sequence number.
  pub lost_rises : found.config.sequence < lost.sequence
  lost_rises = loss_rises found changes timestamp ready was lost_one.0 lost_one.1 absent

  pub lost_disks : disks_written ready.recovery ≡ in_order (map (rewritten (leading found) lost timestamp) (filter (stays_in lost) (seated found)))
  unfolding disks_after
  lost_disks = ap disks_written lost_one.1 ∙ ap (λ (step : Step). in_order step.disks) lost_one.2

  -- A group from elsewhere has all its members, so changes of this engine are acknowledged.
  own : past.changes.own_from ≤ past.changes.acked
  own = elim (cases_lt past.changes.acked past.changes.own_from) [
    | inl young ↦ absurd (false≢true (sym (ap (λ (l : List ℕ). some l) (taken.admitted.all_present young)) ∙ absent))
    | inr less ↦ less
  ]

  room : HasRoom timestamp (leading found) lost (seated found)
  unfolding full_of_recovery
  room =
      room_in timestamp (leading found) lost (seated found)
      (sym (ap (λ (b : Bool). if b then full_of timestamp (leading found) lost (seated found) else if some found.lagging then full_of_mending found else None) absent)
      ∙ has_room found changes timestamp ready was)

  tries : AllByRecursion (CanTry (leading found) lost) (seated found)
  tries = can_try_all (leading found) lost (seated found) taken.assembled.are_copies room.same (led_on found taken.assembled) (lost_held found taken.assembled)

  -- ---- a slot that is written

  abbrev IsOn : ℕ → Type 0
  IsOn slot = IsWrittenOn group past state left named found taken ready may (stays_in lost) (rewritten (leading found) lost timestamp) (λ disk. refl) lost_disks slot

  on : (slot : ℕ) → is_slot slots slot ≡ true → IsOn slot
  on = written_on group past state left named found taken ready may (stays_in lost) (rewritten (leading found) lost timestamp) (λ disk. refl) lost_disks

  written_is_seated : (slot : ℕ) → is_slot slots slot ≡ true → is_slot (slots_of found.seats) slot ≡ true
  written_is_seated = written_seated group past state left named found taken ready may (stays_in lost) (rewritten (leading found) lost timestamp) (λ disk. refl) lost_disks

  module _ (slot : ℕ) (seat : is_slot slots slot ≡ true) where
    -- Its copy can be changed.
    can : CanChange (old_on slot) (leading found) lost timestamp
    can =
        let is = on slot seat in
        let try = all_at (CanTry (leading found) lost) (seated found) is.k is.disk tries is.is_there in
        let none = room_on (leading found) lost timestamp is.disk is.passes (all_at (λ (disk : Seated). full_where_written (leading found) lost timestamp disk ≡ None) (seated found) is.k is.disk room.none is.is_there) in
        subst (λ (copy : DiskCopy). CanChange copy (leading found) lost timestamp) (sym is.is_old)
        (change_can is.disk.copy (leading found) lost timestamp try.is_copy try.holdable none)

    -- Its new copy can be written.
    new_can : CanBeCopy (changed_copy (old_on slot) (leading found) lost timestamp)
    new_can =
        let is = on slot seat in
        let try = all_at (CanTry (leading found) lost) (seated found) is.k is.disk tries is.is_there in
        let none = room_on (leading found) lost timestamp is.disk is.passes (all_at (λ (disk : Seated). full_where_written (leading found) lost timestamp disk ≡ None) (seated found) is.k is.disk room.none is.is_there) in
        subst (λ (copy : DiskCopy). CanBeCopy (changed_copy copy (leading found) lost timestamp)) (sym is.is_old)
        (roomy_change_can is.disk.copy (leading found) lost timestamp try.is_copy try.holdable try.leaders_held was.time
        (λ n wanted at no. capacities is.disk.copy.header.geometry.max_members lost try.holdable n wanted at) none)

    -- Its disk is a current member.
    was_current : has_current found.config (disk_of (view_of (old_on slot))) ≡ true
    was_current =
        claimed_is_current group past state left named found taken slot (view_of (old_on slot))
        (seat_claimed group past state left named found taken slot (written_is_seated slot seat))

    -- It stays one.
    still_current : has_current lost (disk_of (view_of (old_on slot))) ≡ true
    still_current =
        let is = on slot seat in
        let reference : is.disk.seat.reference ≡ (view_of (old_on slot)).reference =
        sym (disk_reference group past state left named found taken is.k is.disk is.is_there) ∙ ap (λ (copy : DiskCopy). (view_of copy).reference) (sym is.is_old) in
        stays_current found.config (Lose found.absent) lost.sequence (disk_of (view_of (old_on slot))) was_current
        (ap (is_current lost.members) (sym reference) ∙ is.passes)

  -- A disk whose copy is of another group is adopted.
  adopts : (disk : Seated) → is_adopted (rewritten (leading found) lost timestamp disk) ≡ not (bytes_eq disk.copy.header.guid group)
  adopts disk = ap (λ (name : List ℕ). writes_anchor (if bytes_eq disk.copy.header.guid name then modes.Change else modes.Adopt)) taken.same_group ∙ by (bytes_eq disk.copy.header.guid group)
    where
      by : (b : Bool) → writes_anchor (if b then modes.Change else modes.Adopt) ≡ not b
      by true = refl
      by false = refl

  -- Each member that isn't away remains one.
  remain : DoRemain (groups group) (λ s. is_away (left_from past readable found.config number) s ≡ false) past.disk found.config lost
  remain slot here now =
      let one = still_read slot here now in
      let first = (claimed_held (groups group) (groups_are_sound group) past held readable found.config all_assembled slot one.0 one.1).1 in
      let names = (kept_held group past state left named found taken).named slot one.0 (first_is_copy (held slot) one.0 first)
      (inr (number, found.config, since, claimed_is_current group past state left named found taken slot one.0 one.1)) in
      let free : is_among found.absent (past.disk slot).reference ≡ false =
      ap (λ (disk : Disk). is_among found.absent disk.reference) (sym names) ∙ not_absent group past state left named found taken slot one.0 one.1 in
      stays_current found.config (Lose found.absent) lost.sequence (past.disk slot) now
      (lose_leaves found.config found.absent (past.disk slot).reference free (listed_current (past.disk slot) found.config found.config.members now))
    where
      still_read : (slot : ℕ) → is_away (left_from past readable found.config number) slot ≡ false → has_current found.config (past.disk slot) ≡ true
          → (view : View) × IsClaimed (groups group) (seen readable held) slot view
      still_read slot here now =
          let read = seated_where_left_out past readable found.config slot here now in
          let apart = or_parts (past.lost slot || not (readable slot) && has_current found.config (past.disk slot)) (past.returned slot) here in
          let stays = (or_parts (past.lost slot) (not (readable slot) && has_current found.config (past.disk slot)) apart.0).0 in
          member_claimed group past state left named found taken slot (or_from (past.lost slot) (past.returned slot) stays apart.1) read now

  -- ---- what the slots show

  -- what they get
  abbrev pub new : ℕ → View
  new = changed_views old_on (leading found) lost timestamp

  pub lost_views : (place slot : ℕ) → slice_get slots place ≡ Some slot → new slot ≡ view_of (may.seat place).new
  lost_views =
      new_views group past state left named found taken ready may (stays_in lost) (rewritten (leading found) lost timestamp) (λ disk. refl) lost_disks
      (λ copy. changed_copy copy (leading found) lost timestamp) (λ disk. closed_view (changed_copy disk.copy (leading found) lost timestamp))

  -- the list with the loss issued
  abbrev pub lost_past : Past (groups group)
  lost_past = issue (left_from past readable found.config number) lost

  -- The loss has the number behind the group's configuration.
  lost_number : length (left_from past readable found.config number).changes.issued ≡ number + 1
  lost_number =
      loss_number group past held held readable number found.config all_assembled since

  -- The slot of each member that isn't away is written.
  abbrev pub AllWritten : Type 0
  AllWritten = (slot : ℕ) → is_away (left_from past readable found.config number) slot ≡ false → has_current lost (past.disk slot) ≡ true → is_slot slots slot ≡ true

  module _ (image : Image) (leaves : IsLeft (sure_state group past state left named found taken).may_hold image) where
    abbrev scene : Scene View
    scene = scene_of state.sizes image

    is_kept : IsKept past scene
    is_kept = sure_kept group past state left named found taken image leaves

    is_sure : AreSure (groups group) readable held scene
    is_sure = are_sure group past state left named found taken image leaves

    -- The loss may be issued.
    pub lost_issued : IsKept lost_past scene
    lost_issued =
        loss_issued group past held scene readable number found.config all_assembled since is_kept is_sure own found.absent lost.sequence lost_rises remain

    -- A seat shows its old copy.
    shows_old : (slot : ℕ) → is_slot slots slot ≡ true → IsCopyOf (scene slot) (view_of (old_on slot))
    shows_old slot seat =
        let claimed = seat_claimed group past state left named found taken slot (written_is_seated slot seat) in
        let first = (claimed_held (groups group) (groups_are_sound group) past held readable found.config all_assembled slot (view_of (old_on slot)) claimed).1 in
        subst (λ (it : _). IsCopyOf it (view_of (old_on slot))) (sym (is_sure slot (view_of (old_on slot)) claimed))
        (first_is_copy (held slot) (view_of (old_on slot)) first)

    -- The new copies may be written.
    may_write : MayWrite lost_past scene (length (left_from past readable found.config number).changes.issued) lost (is_slot slots) new
    may_write =
        loss_may_write group past held scene readable number found.config all_assembled since is_kept is_sure own found.absent lost.sequence lost_rises remain
        taken.same_group timestamp (leading found) (is_slot slots) old_on shows_old was_current still_current can new_can

    module _ (after : Scene View) (written : AreWritten (is_slot slots) new scene after) where
      -- Disks that join are written last.
      turned_last : AllWritten → OthersLast (groups group) (is_slot slots) new scene after → JoinLast lost_past (is_slot slots) new after
      turned_last all last =
          loss_turned_last group past held scene readable number found.config all_assembled since is_kept is_sure own found.absent lost.sequence lost_rises remain
          taken.same_group timestamp (leading found) (is_slot slots) old_on shows_old was_current still_current can new_can after written last all

      -- Each slot shows what it should, whichever seats are written.
      pub lost_kept : AllWritten → AreInTurn slots new scene after → IsKept lost_past after
      lost_kept all turns =
          loss_kept group past held scene readable number found.config all_assembled since is_kept is_sure own found.absent lost.sequence lost_rises remain
          taken.same_group timestamp (leading found) (is_slot slots) old_on shows_old was_current still_current can new_can after written (turned_last all
          (others_last group past state left named found taken ready may (stays_in lost) (rewritten (leading found) lost timestamp) (λ disk. refl) lost_disks
          adopts new scene after shows_old may_write.are_ours turns))

      -- Once each member that isn't away has its new copy, the loss may be acknowledged.
      pub lost_acknowledged
          : ((slot : ℕ) → is_away (left_from past readable found.config number) slot ≡ false → has_current lost (past.disk slot) ≡ true
          → (is_slot slots slot ≡ true) × (after slot ≡ One (new slot)))
          → ((slot : ℕ) → is_slot slots slot ≡ true → after slot ≡ One (new slot))
          → IsKept (acknowledge lost_past (number + 1)) after
      lost_acknowledged all done =
          subst (λ (n : ℕ). IsKept (acknowledge lost_past n) after) lost_number
          (loss_acknowledged group past held scene readable number found.config all_assembled since is_kept is_sure own found.absent lost.sequence lost_rises remain
          taken.same_group timestamp (leading found) (is_slot slots) old_on shows_old was_current still_current can new_can after written all
          (turned_last (λ slot here now. (all slot here now).0) (λ s t copy seat none only at alone ours. done t at)))

  -- It is the last then.
  pub lost_last : IsLast (acknowledge lost_past (number + 1)).changes (number + 1) lost
  lost_last =
      subst (λ (n : ℕ). IsLast (acknowledge lost_past n).changes n lost) lost_number
      (loss_acknowledged_last group past held held readable number found.config all_assembled since (kept_held group past state left named found taken)
      (λ s copy one. refl) own found.absent lost.sequence lost_rises remain)
