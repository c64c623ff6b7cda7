-- A change of a group that stands at the end of its history: whatever a stop leaves shows what it should, and behind it the change is acknowledged.
use Rattle.std.proofs.Common.{◌≡◌, ℕ, ◌<◌, ◌^◌, Bool, true, false, List, length, Some, None, refl, ap, sym, ◌∙◌, inl, inr, subst, if◌then◌else◌}
use Rattle.std.specs.Prelude.{slice_get}
use Rattle.std.specs.Str.{bytes_eq}
use Rattle.ddf_lemmas.proofs.Lists.{bytes_same, in_map}
use Rattle.ddf_bay.specs.Sectors.{Image, IsLeft}
use Rattle.ddf_bay.specs.State.{BayState}
use Rattle.ddf_config.specs.Configuration.{Configuration}
use Rattle.ddf_config.specs.Members.{is_current}
use Rattle.ddf_copy.specs.declared.copy.DiskCopy.{DiskCopy}
use Rattle.ddf_copy.specs.Written.{CanBeCopy}
use Rattle.ddf_plan.specs.declared.change.Change.{Change}
use Rattle.ddf_plan.specs.Same.{is_step}
use Rattle.ddf_update.specs.declared.prepared.Mode.TheVariants as modes
use Rattle.ddf_update.specs.Prepared.{writes_anchor}
use Rattle.ddf_view.specs.View.{View, view_of}
use Rattle.ddf_rewrite.specs.Before.{Before, before}
use Rattle.ddf_rewrite.specs.Changing.{CanChange}
use Rattle.ddf_rewrite.specs.Copies.{changed_copy}
use Rattle.ddf_rewrite.proofs.Lists.{all_at}
use Rattle.ddf_history.specs.Reading.{Scene, IsCopyOf}
use Rattle.ddf_history.specs.Reading.Shown.{One}
use Rattle.ddf_history.specs.Groups.{groups, disk_of, has_current}
use Rattle.ddf_history.specs.Issued.{Past, acknowledge, is_away, issue}
use Rattle.ddf_history.specs.Promise.{IsKept}
use Rattle.ddf_history.specs.Scenes.{scene_of}
use Rattle.ddf_history.specs.Steps.{AreWritten, JoinLast, MayFollow}
use Rattle.ddf_seats.specs.declared.seated.Seated.{Seated}
use Rattle.ddf_steps.specs.Asked.{CanBeAsked}
use Rattle.ddf_steps.specs.Committed.{slots_of}
use Rattle.ddf_seats.specs.Group.{GroupValue}
use Rattle.ddf_steps.specs.Refusing.{step_refusal}
use Rattle.ddf_seats.specs.Seated.{seated, slots_in, views_in, is_adopted}
use Rattle.ddf_steps.specs.Steps.{config_after, disks_after, in_order, stays_in}
use Rattle.ddf_seats.specs.Changing.{IsOfGroup}
use Rattle.ddf_recovery.proofs.LeftStep.{same_view}
use Rattle.ddf_steps.proofs.Ordered.{order_own}
use Rattle.ddf_history.proofs.Common.{current_listed}
use Rattle.ddf_history.proofs.Following.{changes_follow}
use Rattle.ddf_history_steps.specs.Kept.{is_slot, unwritten}
use Rattle.ddf_history_steps.specs.AtEnd.{IsAtEnd}
use Rattle.ddf_history_steps.proofs.Changing.{change_acknowledged, change_joins_last, change_kept, issued_kept}
use Rattle.ddf_history_steps.proofs.ChangingCopies.{changed_views}
use Rattle.ddf_history_steps.proofs.CommittingScenes.{seat_shows}
use Rattle.ddf_history_steps.proofs.CommittingSeats.{IsWritten, can_change, copy_in, copy_is, is_written, new_is_copy, renewed, stays_written}
use Rattle.ddf_history_steps.proofs.Slots.{slot_placed}
use Rattle.ddf_history_steps.proofs.StepMembers.{AreMembers, after_members, stays_member}
use Rattle.ddf_history_steps.proofs.Stops.{unwritten_here}
use Rattle.ddf_history_steps.proofs.RecoveringLossEnd.{slots_same}

-- ---- lists

module _ (group : List ℕ) {D : Type 0} (past : Past (groups group)) (state : BayState D) (found : GroupValue) (end : IsAtEnd group past state found)
    (timestamp : ℕ) (time : timestamp < 2 ^ 32) (change : Change) (asked : CanBeAsked change)
    (not_refused : step_refusal timestamp None found.config (seated found) change ≡ None) (is_change : is_step found.config change ≡ true)
    (rises : found.config.sequence < (config_after found.config change).sequence) where
  abbrev next : Configuration
  next = config_after found.config change

  abbrev led : Before
  led = before (views_in (seated found))

  abbrev new_disks : List Seated
  new_disks = disks_after timestamp led next (seated found)

  abbrev slots : List ℕ
  slots = slots_in new_disks

  abbrev number : ℕ
  number = length past.changes.issued

  -- the copy of each slot, and what the new ones show
  abbrev old : ℕ → DiskCopy
  old = copy_in found.newest

  abbrev new : ℕ → View
  new = changed_views old led next timestamp

  follow : MayFollow (groups group) found.config next
  follow = changes_follow group found.config change next.sequence rises

  -- The change may be issued.
  pub step_issued : (image : Image) → IsLeft state.may_hold image → IsKept (issue past next) (scene_of state.sizes image)
  step_issued image left =
      issued_kept group past (scene_of state.sizes image) (end.all_kept image left) past.changes.acked found.config next end.is_last follow (inl refl)

  -- ---- the slots that are written

  written : (slot : ℕ) → is_slot slots slot ≡ true → IsWritten (seated found) led next timestamp slot
  written slot here = is_written (seated found) led next timestamp slot here

  -- the copy of its disk
  old_is : (slot : ℕ) (own : IsWritten (seated found) led next timestamp slot) → old slot ≡ own.renews.disk.copy
  old_is slot own =
      ap old (sym own.slot_is) ∙ copy_is found end.is_settled own.renews.place own.renews.disk own.renews.at

  -- What holds of the copy of each disk that stays holds of the copy of each slot that is written.
  by_disk : (P : DiskCopy → Type 0) → ((place : ℕ) (disk : Seated) → slice_get (seated found) place ≡ Some disk → stays_in next disk ≡ true → P disk.copy)
      → (slot : ℕ) → is_slot slots slot ≡ true → P (old slot)
  by_disk P each slot here =
      let own = written slot here in
      subst P (sym (old_is slot own)) (each own.renews.place own.renews.disk own.renews.at own.renews.stays)

  -- Each copy names a current member,
  claimed : (slot : ℕ) → is_slot slots slot ≡ true → has_current found.config (disk_of (view_of (old slot))) ≡ true
  claimed = by_disk (λ copy. has_current found.config (disk_of (view_of copy)) ≡ true) (λ place disk at stays. (end.are_members place disk at).is_current)

  -- The disk of one that stays is one behind the change,
  stays_here : (place : ℕ) (disk : Seated) → slice_get (seated found) place ≡ Some disk → stays_in next disk ≡ true
      → has_current next (disk_of (view_of disk.copy)) ≡ true
  stays_here place disk at stays = (stays_member found.config change disk (end.are_members place disk at) stays).is_current

  stays : (slot : ℕ) → is_slot slots slot ≡ true → has_current next (disk_of (view_of (old slot))) ≡ true
  stays = by_disk (λ copy. has_current next (disk_of (view_of copy)) ≡ true) stays_here

  can : (slot : ℕ) → is_slot slots slot ≡ true → CanChange (old slot) led next timestamp
  can =
      by_disk (λ copy. CanChange copy led next timestamp)
      (λ place disk at stays. can_change found end.is_settled timestamp time change asked not_refused is_change place disk at stays)

  are_copies : (slot : ℕ) → is_slot slots slot ≡ true → CanBeCopy (changed_copy (old slot) led next timestamp)
  are_copies =
      by_disk (λ copy. CanBeCopy (changed_copy copy led next timestamp))
      (λ place disk at stays. new_is_copy found end.is_settled timestamp time change asked not_refused is_change place disk at stays)

  ours : (slot : ℕ) → is_slot slots slot ≡ true → (old slot).header.guid ≡ group
  ours =
      by_disk (λ copy. copy.header.guid ≡ group)
      (λ place disk at stays.
      (all_at (IsOfGroup found.config) (seated found) place disk end.is_settled.can_be_changed.of_group at).same_group ∙ end.same_group)

  -- No disk is adopted: each is written in its place.
  pub in_place : in_order new_disks ≡ new_disks
  in_place = order_own new_disks (λ k made at.
      let own = renewed (seated found) led next timestamp k made at in
      let same = (all_at (IsOfGroup found.config) (seated found) own.place own.disk end.is_settled.can_be_changed.of_group own.at).same_group in
      let alike : bytes_eq own.disk.copy.header.guid next.group ≡ true = ap (λ (guid : List ℕ). bytes_eq guid next.group) same ∙ bytes_same found.config.group in
      sym (ap is_adopted own.is_made) ∙ ap (λ (b : Bool). writes_anchor (if b then modes.Change else modes.Adopt)) alike)

  -- A seat's copy names its slot's disk.
  member_names : (place : ℕ) (disk : Seated) → slice_get (seated found) place ≡ Some disk → disk_of (view_of disk.copy) ≡ past.disk disk.seat.slot
  member_names place disk at =
      let is = seat_shows state found end.is_settled end.holds end.under state.held place disk at refl in
      (end.all_kept state.held end.is_left).named disk.seat.slot (view_of disk.copy) (rw is refl)
      (inr (past.changes.acked, found.config, end.is_last.since, (end.are_members place disk at).is_current))

  -- The slot of each member that isn't away is written.
  pub all_written : (slot : ℕ) → is_away past slot ≡ false → has_current next (past.disk slot) ≡ true → is_slot slots slot ≡ true
  all_written slot here current =
      let seat = slot_placed (slots_of found.seats) slot (end.are_seated slot here (follow.no_more (past.disk slot) current)) in
      let same : slots_of found.seats ≡ slots_in (seated found) = sym (ap slots_of end.is_settled.are_seated) ∙ slots_same (seated found) in
      let own = in_map (λ (disk : Seated). disk.seat.slot) (seated found) seat.0 slot (sym (ap (λ (all : List ℕ). slice_get all seat.0) same) ∙ seat.1) in
      let is = end.are_members seat.0 own.0 own.1 in
      let named = member_names seat.0 own.0 own.1 ∙ ap past.disk own.2 in
      let listed = current_listed next (disk_of (view_of own.0.copy)) (ap (has_current next) named ∙ current) in
      let stays : stays_in next own.0 ≡ true = ap (is_current next.members) is.same_reference ∙ listed in
      subst (λ (s : ℕ). is_slot slots s ≡ true) own.2 (stays_written (seated found) led next timestamp seat.0 own.0 own.1 stays)

  -- ---- the new copies

  -- What a slot is to show is what its disk's new copy says.
  pub new_at : (place slot : ℕ) (made : Seated) → slice_get new_disks place ≡ Some made → made.seat.slot ≡ slot → new slot ≡ view_of made.copy
  new_at place slot made at is =
      let own = renewed (seated found) led next timestamp place made at in
      let wrote : IsWritten (seated found) led next timestamp slot =
      record { made = made; renews = own; slot_is = ap (λ (disk : Seated). disk.seat.slot) own.is_made ∙ is } in
      ap (λ (copy : DiskCopy). view_of (changed_copy copy led next timestamp)) (old_is slot wrote)
      ∙ sym (same_view led next timestamp own.disk)
      ∙ ap (λ (disk : Seated). view_of disk.copy) own.is_made

  -- Its disk is a current member behind the change.
  pub new_member : AreMembers next new_disks
  new_member = after_members timestamp led found.config change (seated found) end.are_members

  -- ---- what they show

  module _ (image : Image) (left : IsLeft state.may_hold (unwritten state slots image)) where
    abbrev start : Scene View
    start = scene_of state.sizes (unwritten state slots image)

    kept : IsKept past start
    kept = end.all_kept (unwritten state slots image) left

    -- Each shows its old copy.
    shown : (slot : ℕ) → is_slot slots slot ≡ true → IsCopyOf (start slot) (view_of (old slot))
    shown slot here =
        let own = written slot here in
        let disk = own.renews.disk in
        let same : unwritten state slots image disk.seat.slot ≡ state.held disk.seat.slot =
        unwritten_here state slots image disk.seat.slot (ap (is_slot slots) own.slot_is ∙ here) in
        let is = seat_shows state found end.is_settled end.holds end.under (unwritten state slots image) own.renews.place disk own.renews.at same in
        let copies = ap (λ (copy : DiskCopy). One (view_of copy)) (sym (old_is slot own)) in
        let there : start slot ≡ One (view_of (old slot)) = ap start (sym own.slot_is) ∙ is ∙ copies in
        rw there refl

    -- No disk joins by it.
    joins : (after : Scene View) → AreWritten (is_slot slots) new start after → JoinLast (issue past next) (is_slot slots) new after
    joins after wrote =
        change_joins_last group past start kept past.changes.acked found.config next end.is_last follow (inl refl) end.same_group timestamp led (is_slot slots) old shown
        claimed stays can are_copies after wrote ours

    -- Whichever have their new copies, each shows what it should.
    pub step_kept : (after : Scene View) → AreWritten (is_slot slots) new start after → IsKept (issue past next) after
    step_kept after wrote =
        change_kept group past start kept past.changes.acked found.config next end.is_last follow (inl refl) end.same_group timestamp led (is_slot slots) old shown claimed
        stays can are_copies after wrote (joins after wrote)

    -- Where all have their new copies, the change is acknowledged.
    pub step_acknowledged : (after : Scene View) → AreWritten (is_slot slots) new start after
        → ((slot : ℕ) → is_slot slots slot ≡ true → after slot ≡ One (new slot)) → IsKept (acknowledge (issue past next) number) after
    step_acknowledged after wrote shows =
        change_acknowledged group past start kept past.changes.acked found.config next end.is_last follow (inl refl) end.same_group timestamp led (is_slot slots) old shown
        claimed stays can are_copies after wrote (λ slot here current. let is = all_written slot here current in (is, shows slot is)) (joins after wrote)
