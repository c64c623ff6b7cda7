-- A history that admits an import at its entry does so behind the recovery.
use Rattle.std.proofs.Common.{◌≡◌, ℕ, ◌&&◌, ◌||◌, not, Bool, true, false, List, [], length, Option, Some, if◌then◌else◌, refl, ap, sym, ◌∙◌, inl, inr, ⊎_elim, subst}
use Rattle.std.proofs.lemmas.Bool.{and_from, or_right, true≢false, or_parts}
use Rattle.std.proofs.Math.Path.{fun_ext}
use Rattle.std.specs.Prelude.{slice_get}
use Rattle.ddf_lemmas.proofs.Lists.{in_map}
use Rattle.ddf_bay.specs.Sectors.{Image, IsLeft}
use Rattle.ddf_bay.specs.State.{BayState}
use Rattle.ddf_config.specs.declared.seat.Seat.{Seat}
use Rattle.ddf_config.specs.Configuration.{Configuration}
use Rattle.ddf_plan.specs.Lose.{is_among}
use Rattle.ddf_plan.specs.declared.change.Change.TheVariants.{Lose}
use Rattle.ddf_update.specs.Changes.{AreChanged}
use Rattle.ddf_view.specs.View.{View, view_of}
use Rattle.ddf_history.specs.Reading.{IsCopyOf, Shown, ShowsGroup}
use Rattle.ddf_history.specs.Groups.{Disk, disk_of, groups, has_current, has_missing}
use Rattle.ddf_history.specs.Issued.{Past, is_away, leave_out, take_off}
use Rattle.ddf_history.specs.Scenes.{scene_of}
use Rattle.ddf_history.proofs.Calls.{seen_copy}
use Rattle.ddf_history.proofs.Since.{first_is_copy, which}
use Rattle.ddf_history.proofs.Sound.{groups_are_sound}
use Rattle.ddf_seats.specs.declared.seated.Seated.{Seated}
use Rattle.ddf_recovery.specs.Committed.{MayRecover, group_recovered, recovery_slots, recovery_updates}
use Rattle.ddf_steps.specs.Committed.{slots_of, synced}
use Rattle.ddf_seats.specs.Group.{GroupValue}
use Rattle.ddf_joining.specs.Joining.{config_joining, join_config}
use Rattle.ddf_joining.specs.JoinValue.{JoinValue}
use Rattle.ddf_recovery.specs.Ready.{ReadyValue}
use Rattle.ddf_recovery.specs.Recovery.{config_lost, config_recovered}
use Rattle.ddf_seats.specs.Leading.{some}
use Rattle.ddf_seats.specs.Seated.{seated, seats_in}
use Rattle.ddf_assembly.specs.Slots.{newest_from}
use Rattle.ddf_seats.proofs.CommittedSeats.{seated_is}
use Rattle.ddf_seats.proofs.Lists.{get_within}
use Rattle.ddf_recovery.proofs.RecoveredGroup.{is_recovered}
use Rattle.ddf_recovery.proofs.RecoveryWritten.{may_recover, recovery_on_seats}
use Rattle.ddf_history.proofs.Common.{current_listed}
use Rattle.ddf_history_steps.specs.AtEnd.{IsAtEnd}
use Rattle.ddf_history_steps.specs.Going.{IsAdmitted, IsOver, KeepsSlots, issue_all}
use Rattle.ddf_history_joins.specs.Joins.{AdmitsBoth, AdmitsCall, AdmitsImport, AdmitsJoin, WereBothTaken}
use Rattle.ddf_history_steps.specs.Kept.{AreAllKept, ReadsTrue, is_read, is_slot, unwritten}
use Rattle.ddf_history_steps.specs.Steps.{IsRecovery, WasTaken, recovery_changes}
use Rattle.ddf_history_steps.proofs.ChangingStays.{stays_current}
use Rattle.ddf_history_steps.proofs.Claimed as claims
use Rattle.ddf_history_steps.proofs.CommittingScenes.{seat_shows}
use Rattle.ddf_history_joins.proofs.JoinMembers.{joins_no_member}
use Rattle.ddf_history_joins.proofs.JoinTaken.{apart_before, recovered_current, was_taken}
use Rattle.ddf_history_joins.proofs.JoinTries.{free, members_apart}
use Rattle.ddf_history_steps.proofs.RecoveringEntry.{IsTaken, claimed_is_current, issued, member_claimed, not_absent}
use Rattle.ddf_history_steps.proofs.RecoveringKeeps.{group_held}
use Rattle.ddf_history_steps.proofs.RecoveringLoss.{lose_leaves}
use Rattle.ddf_history_steps.proofs.Slots.{not_placed, slot_is, slot_placed}
use Rattle.ddf_history_steps.proofs.SlotsKept.{ends_slots, issued_same}
use Rattle.ddf_history_steps.proofs.Stops.{same_scene, unwritten_else, unwritten_here}

module _ (group : List ℕ) {D : Type 0} (past : Past (groups group)) (state : BayState D) (left also_left : List Bool) (named also_named : Option (List ℕ)) (native other : GroupValue)
    (timestamp : ℕ) (recovery : ReadyValue) (join : JoinValue) (taken : WereBothTaken state left also_left named also_named native other timestamp recovery join)
    (same_group : native.config.group ≡ group) (kept : AreAllKept group past state) (admitted : IsAdmitted group past state left native) (reads : ReadsTrue state)
    (middle : BayState D) (recovered : IsRecovery state middle native recovery true) (now : Past (groups group))
    (over : IsOver group past (is_read left) native (recovery_changes timestamp native) now) (end : IsAtEnd group now middle (group_recovered native recovery.recovery)) where
  abbrev changes : List Configuration
  changes = recovery_changes timestamp native

  was : WasTaken state left named native [] timestamp recovery
  was = was_taken state left also_left named also_named native other timestamp recovery join taken

  is_taken : IsTaken group past state left named native
  is_taken = record {
    kept = kept;
    admitted = admitted;
    is_left = reads.is_left;
    holds_bytes = reads.holds_bytes;
    every_slot = taken.every_slot;
    is_found = taken.is_found;
    same_group = same_group;
    are_held = group_held state left named native taken.is_found;
    are_under = taken.stand;
    anchored = taken.under;
    assembled = taken.assembled;
  }

  may : MayRecover state native recovery
  may = may_recover native [] timestamp recovery was.was_readied state (group_held state left named native taken.is_found) taken.stand

  config_is : (group_recovered native recovery.recovery).config ≡ config_recovered native
  config_is = (is_recovered native [] timestamp recovery was.was_readied).config_is

  same_slots : KeepsSlots group past now (is_read left) native
  same_slots = ends_slots group past (is_read left) native changes true now over

  -- ---- members behind the recovery

  -- A member that it doesn't read counts as lost, where some is absent.
  left_is_lost : some native.absent ≡ true → (slot : ℕ) → is_read left slot ≡ false → has_current native.config (past.disk slot) ≡ true → now.lost slot ≡ true
  left_is_lost absent slot out current =
      subst (λ (one : Past (groups group)). one.lost slot ≡ true) (sym over.is_now)
      (subst (λ (b : Bool). (issue_all group (if b then take_off (leave_out past (is_read left) native.config) over.number else take_off past over.number) changes).lost slot ≡ true) (sym absent)
      (ap (λ (lost : ℕ → Bool). lost slot) (issued_same group past (is_read left) native (take_off (leave_out past (is_read left) native.config) over.number) changes).same_lost
      ∙ or_right (past.lost slot) (not (is_read left slot) && has_current native.config (past.disk slot))
      (and_from (not (is_read left slot)) (has_current native.config (past.disk slot)) (ap not out) current)))

  -- A slot that isn't away then wasn't before.
  still_here : (slot : ℕ) → is_away now slot ≡ false → is_away past slot ≡ false
  still_here slot here = go (past.lost slot) refl
    where
      go : (b : Bool) → past.lost slot ≡ b → (b || past.returned slot) ≡ false
      go true e = absurd (true≢false (sym (same_slots.still_lost slot e) ∙ (or_parts (now.lost slot) (now.returned slot) here).0))
      go false e = sym (ap (λ (all : ℕ → Bool). all slot) same_slots.same_returned) ∙ (or_parts (now.lost slot) (now.returned slot) here).1

  -- A member of what was assembled that isn't away then is one behind the recovery.
  still_member : (slot : ℕ) → is_away now slot ≡ false → has_current native.config (past.disk slot) ≡ true → has_current (config_recovered native) (past.disk slot) ≡ true
  unfolding config_recovered
  still_member slot here current = by (some native.absent) refl
    where
      when_read : is_read left slot ≡ true → has_current (config_lost native) (past.disk slot) ≡ true
      when_read read =
          let claimed = member_claimed group past state left named native is_taken slot (still_here slot here) read current in
          let free_one = not_absent group past state left named native is_taken slot claimed.0 claimed.1 in
          let shown = seen_copy (is_read left slot) (scene_of state.sizes state.held slot) claimed.0 (first_is_copy _ claimed.0 claimed.1.is_first) in
          let since = issued group past state left named native is_taken in
          let names = admitted.is_kept.named slot claimed.0 shown (inr (since.0, native.config, since.1, claimed_is_current group past state left named native is_taken slot claimed.0 claimed.1)) in
          let there : is_among native.absent (past.disk slot).reference ≡ false = ap (λ (one : Disk). is_among native.absent one.reference) (sym names) ∙ free_one in
          stays_current native.config (Lose native.absent) (config_lost native).sequence (past.disk slot) current
          (lose_leaves native.config native.absent (past.disk slot).reference there (current_listed native.config (past.disk slot) current))

      by : (b : Bool) → some native.absent ≡ b → has_current (if b then config_lost native else native.config) (past.disk slot) ≡ true
      by true absent = elim (which (is_read left slot)) [
        | inl read ↦ when_read read
        | inr out ↦ absurd (true≢false (sym (left_is_lost absent slot out current) ∙ (or_parts (now.lost slot) (now.returned slot) here).0))
      ]
      by false none = current

  -- ---- the slots of the group's own seats

  native_disk : (slot : ℕ) → is_slot (slots_of native.seats) slot ≡ true → (k : ℕ) × (disk : Seated) × (slice_get (seated native) k ≡ Some disk) × (disk.seat.slot ≡ slot)
  native_disk slot here =
      let placed = slot_placed (slots_of native.seats) slot here in
      let seat = in_map (λ (one : Seat). one.slot) native.seats placed.0 slot placed.1 in
      let there : slice_get (seats_in (seated native)) placed.0 ≡ Some seat.0 = ap (λ (seats : List Seat). slice_get seats placed.0) taken.assembled.are_seated ∙ seat.1 in
      let disk = in_map (λ (one : Seated). one.seat) (seated native) placed.0 seat.0 there in
      (placed.0, disk.0, disk.1, ap (λ (one : Seat). one.slot) disk.2 ∙ seat.2)

  other_disk : (slot : ℕ) → is_slot (slots_of other.seats) slot ≡ true → (k : ℕ) × (disk : Seated) × (slice_get (seated other) k ≡ Some disk) × (disk.seat.slot ≡ slot)
  other_disk slot here =
      let placed = slot_placed (slots_of other.seats) slot here in
      let seat = in_map (λ (one : Seat). one.slot) other.seats placed.0 slot placed.1 in
      let there : slice_get (seats_in (seated other)) placed.0 ≡ Some seat.0 = ap (λ (seats : List Seat). slice_get seats placed.0) taken.other_assembled.are_seated ∙ seat.1 in
      let disk = in_map (λ (one : Seated). one.seat) (seated other) placed.0 seat.0 there in
      (placed.0, disk.0, disk.1, ap (λ (one : Seat). one.slot) disk.2 ∙ seat.2)

  -- The disk of such a slot is a member behind the recovery.
  native_current : (slot : ℕ) → is_slot (slots_of native.seats) slot ≡ true → has_current (config_recovered native) (past.disk slot) ≡ true
  native_current slot here =
      let own = native_disk slot here in
      let names =
      claims.disk_names group state left (newest_from state 0 left) taken.every_slot refl past admitted.same_slots admitted.is_kept admitted.may_read admitted.member named native
      taken.is_found same_group own.0 own.1 own.2 in
      ap (λ (disk : Disk). has_current (config_recovered native) disk) (ap past.disk (sym own.3) ∙ sym names)
      ∙ recovered_current state left also_left named also_named native other timestamp recovery join taken own.0 own.1 own.2

  native_here : (slot : ℕ) → is_slot (slots_of native.seats) slot ≡ true → is_away now slot ≡ false
  native_here slot here = by (now.lost slot) (now.returned slot) refl refl
    where
      own : (k : ℕ) × (disk : Seated) × (slice_get (seated native) k ≡ Some disk) × (disk.seat.slot ≡ slot)
      own = native_disk slot here

      read : is_read left slot ≡ true
      read =
          ap (is_read left) (sym own.3)
          ∙ claims.disk_read group state left (newest_from state 0 left) taken.every_slot refl past admitted.same_slots admitted.is_kept admitted.may_read admitted.member named native
          taken.is_found same_group own.0 own.1 own.2

      current : has_current native.config (past.disk slot) ≡ true
      current =
          let names =
          claims.disk_names group state left (newest_from state 0 left) taken.every_slot refl past admitted.same_slots admitted.is_kept admitted.may_read admitted.member named native
          taken.is_found same_group own.0 own.1 own.2 in
          let member =
          claims.disk_member group state left (newest_from state 0 left) taken.every_slot refl past admitted.same_slots admitted.is_kept admitted.may_read admitted.member named native
          taken.is_found same_group own.0 own.1 own.2 in
          ap (has_current native.config) (ap past.disk (sym own.3) ∙ sym names) ∙ member.is_current

      by : (a b : Bool) → now.lost slot ≡ a → now.returned slot ≡ b → (a || b) ≡ false
      by true b lost back = absurd (true≢false (sym lost ∙ same_slots.not_lost slot read ∙ admitted.may_read.not_lost slot read))
      by false true lost back =
          let since = issued group past state left named native is_taken in
          let missing = admitted.is_kept.gone slot since.0 native.config (ap (λ (all : ℕ → Bool). all slot) (sym same_slots.same_returned) ∙ back) since.1 in
          absurd ((groups_are_sound group).not_both native.config (past.disk slot) current missing)
      by false false lost back = refl

  disks_same : (slot : ℕ) → now.disk slot ≡ past.disk slot
  disks_same slot = ap (λ (disks : ℕ → Disk). disks slot) same_slots.same_disks

  -- Behind the recovery it is that of a seat.
  recovered_seat : (slot : ℕ) → is_slot (slots_of native.seats) slot ≡ true
      → (k : ℕ) × (disk : Seated) × (slice_get (seated (group_recovered native recovery.recovery)) k ≡ Some disk) × (disk.seat.slot ≡ slot)
  recovered_seat slot here =
      let current = ap (has_current (group_recovered native recovery.recovery).config) (disks_same slot) ∙ ap (λ (config : Configuration). has_current config (past.disk slot)) config_is ∙ native_current slot here in
      let placed = slot_placed (slots_of (group_recovered native recovery.recovery).seats) slot (end.are_seated slot (native_here slot here) current) in
      let seat = in_map (λ (one : Seat). one.slot) (group_recovered native recovery.recovery).seats placed.0 slot placed.1 in
      let there : slice_get (seats_in (seated (group_recovered native recovery.recovery))) placed.0 ≡ Some seat.0 =
      ap (λ (seats : List Seat). slice_get seats placed.0) end.is_settled.are_seated ∙ seat.1 in
      let disk = in_map (λ (one : Seated). one.seat) (seated (group_recovered native recovery.recovery)) placed.0 seat.0 there in
      (placed.0, disk.0, disk.1, ap (λ (one : Seat). one.slot) disk.2 ∙ seat.2)

  -- ---- an image behind the recovery, once the joining slots are synced

  module _ (call : AdmitsCall group past state native other) (image : Image) (leaves : IsLeft (synced middle (slots_of other.seats)).may_hold image) where
    -- as it might have been left before
    abbrev before : Image
    before = unwritten state (recovery_slots recovery) image

    changed : AreChanged (synced state (slots_of native.seats)) middle (recovery_slots recovery) may.seat (recovery_updates recovery) (length (recovery_slots recovery))
    changed = recovered.changed refl may.seat may.may_change

    before_left : IsLeft state.may_hold before
    before_left s l = elim (which (is_slot (recovery_slots recovery) s)) [
      | inl here ↦ subst (λ (sector : ℕ → List ℕ). state.may_hold s l (sector l)) (sym (unwritten_here state (recovery_slots recovery) image s here)) (reads.is_left s l)
      | inr none ↦ subst (λ (sector : ℕ → List ℕ). state.may_hold s l (sector l)) (sym (unwritten_else state (recovery_slots recovery) image s none))
          (changed.others_left s l (image s l) (λ place below. not_placed (recovery_slots recovery) s none place) (leaves s l).0).0
    ]

    -- A slot of no seat shows what it did.
    shows_as : (slot : ℕ) → is_slot (slots_of native.seats) slot ≡ false → scene_of middle.sizes image slot ≡ scene_of state.sizes before slot
    shows_as slot none =
        let unwritten_one : is_slot (recovery_slots recovery) slot ≡ false = elim (which (is_slot (recovery_slots recovery) slot)) [
          | inl here ↦
              let placed = slot_placed (recovery_slots recovery) slot here in
              let seat = recovery_on_seats native [] timestamp recovery was.was_readied slot (record { place = placed.0; is_there = placed.1 }) in
              absurd (true≢false (sym (slot_is (slots_of native.seats) seat.place slot seat.is_there) ∙ none))
          | inr not_so ↦ not_so
        ] in
        ap (λ (sizes : List ℕ). scene_of sizes image slot) recovered.spends.same_sizes
        ∙ same_scene state.sizes image before slot (sym (unwritten_else state (recovery_slots recovery) image slot unwritten_one))

    admits : AdmitsBoth group past (scene_of state.sizes before) native other
    admits = call before before_left

    still_free : (disk : Disk) → has_current (config_joining other) disk ≡ true → has_current (config_recovered native) disk ≡ true → ⊥
    still_free disk joins was_one =
        joins_no_member (config_recovered native) (config_joining other)
        (free timestamp taken.time native other recovery join taken.is_readied taken.assembled taken.other_assembled taken.recovers)
        (members_apart timestamp taken.time native other recovery join taken.is_readied taken.assembled taken.other_assembled taken.recovers)
        (λ member. not member.missing) disk joins was_one

    -- No slot that joins is that of a seat.
    not_both : (slot : ℕ) → is_slot (slots_of native.seats) slot ≡ true → is_slot (slots_of other.seats) slot ≡ true → ⊥
    not_both slot here there =
        let own = native_disk slot here in
        let its = other_disk slot there in
        apart_before state left also_left named also_named native other timestamp recovery join taken its.0 its.1 its.2 own.0 own.1 own.2 (own.3 ∙ sym its.3)

    -- A copy of a seat's slot names a member.
    seat_names : (slot : ℕ) (copy : View) → is_slot (slots_of native.seats) slot ≡ true → IsCopyOf (scene_of middle.sizes image slot) copy
        → has_current (config_recovered native) (disk_of copy) ≡ true
    seat_names slot copy here shown =
        let own = recovered_seat slot here in
        let seat = seated_is (group_recovered native recovery.recovery) own.0 own.1 own.2 in
        let below = get_within (group_recovered native recovery.recovery).seats own.1.seat seat.place seat.is_seat in
        let same : image own.1.seat.slot ≡ middle.held own.1.seat.slot =
        fun_ext (λ l. end.holds.are_settled seat.place own.1.seat below seat.is_seat l (image own.1.seat.slot l) (leaves own.1.seat.slot l).0) in
        let only = seat_shows middle (group_recovered native recovery.recovery) end.is_settled end.holds end.under image own.0 own.1 own.2 same in
        let is : copy ≡ view_of own.1.copy = subst (λ (x : Shown View). IsCopyOf x copy) (ap (scene_of middle.sizes image) (sym own.3) ∙ only) shown in
        ap (λ (config : Configuration). has_current config (disk_of copy)) (sym config_is)
        ∙ ap (λ (view : View). has_current (group_recovered native recovery.recovery).config (disk_of view)) is
        ∙ (end.are_members own.0 own.1 own.2).is_current

    -- What is asked then.
    admitted_behind : AdmitsJoin group now (scene_of middle.sizes image) (slots_of other.seats) (config_joining other) (join_config native other)
    admitted_behind = record {
      names = λ slot copy shown one. elim (which (is_slot (slots_of native.seats) slot)) [
        | inl here ↦ ⊎_elim (λ joins. absurd (not_both slot here joins)) (λ joins. absurd (still_free (disk_of copy) joins (seat_names slot copy here shown))) one
        | inr none ↦
            admits.names slot copy (subst (λ (x : Shown View). IsCopyOf x copy) (shows_as slot none) shown) one ∙ sym (disks_same slot)
      ];
      alone = λ s t joins same.
          admits.alone s t (ap (has_current (config_joining other)) (sym (disks_same s)) ∙ joins) (sym (disks_same s) ∙ same ∙ disks_same t);
      unlisted = λ slot copy disk here shown shows outside joins.
          let not_member : has_current (config_recovered native) (past.disk slot) ≡ false = elim (which (has_current (config_recovered native) (past.disk slot))) [
            | inl current ↦
                absurd (outside.no_member (group_recovered native recovery.recovery).config end.is_last.since.is_there
                (ap (has_current (group_recovered native recovery.recovery).config) (disks_same slot) ∙ ap (λ (config : Configuration). has_current config (past.disk slot)) config_is ∙ current))
            | inr not_so ↦ not_so
          ] in
          let was_none : has_current native.config (past.disk slot) ≡ false = elim (which (has_current native.config (past.disk slot))) [
            | inl current ↦ absurd (true≢false (sym (still_member slot here current) ∙ not_member))
            | inr not_so ↦ not_so
          ] in
          elim (which (is_slot (slots_of native.seats) slot)) [
            | inl seat ↦ absurd (true≢false (sym (native_current slot seat) ∙ not_member))
            | inr none ↦
                admits.unlisted slot copy disk (still_here slot here) (subst (λ (x : Shown View). IsCopyOf x copy) (shows_as slot none) shown)
                (subst (λ (x : Shown View). ShowsGroup (groups group) x) (shows_as slot none) shows) was_none joins
          ];
      gone = λ slot back.
          ap (has_missing (join_config native other)) (disks_same slot) ∙ admits.gone slot (ap (λ (all : ℕ → Bool). all slot) (sym same_slots.same_returned) ∙ back);
    }

  -- So the history admits the join.
  pub admits_behind : AdmitsCall group past state native other → AdmitsImport group now middle native other
  admits_behind call image leaves = admitted_behind call image leaves
