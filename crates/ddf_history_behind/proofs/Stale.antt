-- No seat of what is assembled is taken for an older image.
use Rattle.std.proofs.Common.{◌≡◌, ℕ, ◌+◌, ◌*◌, ◌≤◌, ◌&&◌, not, Bool, true, false, List, length, refl, ap, sym, ◌∙◌, subst, inl, inr, ⊎_elim, arith}
use Rattle.std.proofs.lemmas.Bool.{cases_lt, false_from_ne_true, le-ltb, or_from}
use Rattle.std.proofs.Math.Path.{fun_ext}
use Rattle.std.specs.Prelude.{count_by, nat_lt}
use Rattle.std.specs.Str.{bytes_eq}
use Rattle.ddf_lemmas.proofs.Lists.{bytes_same}
use Rattle.ddf_bay.specs.Moments.{StopsLeave}
use Rattle.ddf_bay.specs.Sectors.{Image, IsLeft}
use Rattle.ddf_bay.specs.State.{BayState}
use Rattle.ddf_config.specs.declared.member.Member.{Member}
use Rattle.ddf_config.specs.Configuration.{Configuration}
use Rattle.ddf_copy.specs.declared.copy.DiskCopy.{DiskCopy}
use Rattle.ddf_view.specs.View.{View, view_of}
use Rattle.ddf_view.proofs.Tests.{same_bytes}
use Rattle.ddf_history.specs.Reading.{IsCopyOf, Scene}
use Rattle.ddf_history.specs.Issued.{Past, IsSince, is_away}
use Rattle.ddf_history.specs.Leaders.{seen}
use Rattle.ddf_history.specs.Promise.{IsKept, IsLagging, IsOn, IsOutside}
use Rattle.ddf_history.specs.Groups.{Shows, groups, has_current}
use Rattle.ddf_history.specs.Scenes.{scene_of}
use Rattle.ddf_history.proofs.Calls.{seen_copy}
use Rattle.ddf_history.proofs.Listed.{missing_alike}
use Rattle.ddf_history.proofs.Since.{first_is_copy, on_shows}
use Rattle.ddf_history.proofs.Sound.{groups_are_sound}
use Rattle.ddf_seats.specs.declared.seated.Seated.{Seated}
use Rattle.ddf_seats.specs.Group.{GroupValue}
use Rattle.ddf_assembly.specs.Slots.{newest_from}
use Rattle.ddf_recovery.specs.Stray.{is_lost_since, is_stale, most_behind}
use Rattle.ddf_history_steps.specs.Going.{Ends, Goes}
use Rattle.ddf_history_steps.specs.Kept.{is_read}
use Rattle.ddf_history_steps.proofs.Acked.{ends_keeps}
use Rattle.ddf_history_steps.proofs.Begun.{assembled_since}
use Rattle.ddf_history_steps.proofs.Claimed.{disk_claimed, disk_member, disk_names, disk_read}
use Rattle.ddf_history_steps.proofs.SlotsKept.{ends_slots}
use Rattle.ddf_history_steps.proofs.RecoveringPlaces.{view_group}
use Rattle.ddf_history_behind.specs.Behind.{AreNear, KeepsNear, NoneLags, NoneStale, disk_in, is_lost_between, most_between}

-- What a copy lists as missing is what the configuration does that it shows.
same_most : (older config : Configuration) (disk : Seated) → Shows (view_of disk.copy) older → most_behind config disk ≡ most_between older config
same_most older config disk shows =
    let tests : is_lost_since disk ≡ is_lost_between older =
    fun_ext (λ (entry : ℕ × Member). ap (λ (b : Bool). entry.1.missing && not b) (missing_alike (view_of disk.copy) older (disk_in entry) shows)) in
    ap (λ (test : (ℕ × Member) → Bool). 1 + 2 * count_by test config.members) tests

viewed_sequence : (copy : DiskCopy) → (view_of copy).sequence ≡ copy.header.sequence
unfolding view_of
viewed_sequence copy = refl

-- A disk that isn't further behind is none,
near_enough : (noted : Bool) (config : Configuration) (disk : Seated) → config.sequence ≤ disk.copy.header.sequence + most_behind config disk → is_stale noted config disk ≡ false
near_enough noted config disk near =
    ap (λ (b : Bool). noted && bytes_eq disk.copy.header.guid config.group && b) (le-ltb (disk.copy.header.sequence + most_behind config disk) config.sequence near)
    ∙ right (noted && bytes_eq disk.copy.header.guid config.group)
  where
    right : (b : Bool) → (b && false) ≡ false
    right true = refl
    right false = refl

-- nor is one of another group.
other_group : (noted : Bool) (config : Configuration) (disk : Seated) → (bytes_eq disk.copy.header.guid config.group ≡ true → ⊥) → is_stale noted config disk ≡ false
other_group noted config disk other =
    ap (λ (b : Bool). noted && b && nat_lt (disk.copy.header.sequence + most_behind config disk) config.sequence) (false_from_ne_true (bytes_eq disk.copy.header.guid config.group) other)
    ∙ middle noted
  where
    middle : (b : Bool) → (b && false && nat_lt (disk.copy.header.sequence + most_behind config disk) config.sequence) ≡ false
    middle true = refl
    middle false = refl

module _ (group : List ℕ) (past : Past (groups group)) (scene : Scene View) (kept : IsKept past scene) (near : AreNear group past.changes) (none : NoneLags group past scene)
    (number : ℕ) (config : Configuration) (since : IsSince past.changes number config) (same_group : config.group ≡ group) (noted : Bool) (disk : Seated)
    (slot : ℕ) (shown : IsCopyOf (scene slot) (view_of disk.copy)) (current : has_current config (past.disk slot) ≡ true) where
  -- It shows a configuration since the last acknowledged one: a later one,
  on_fresh : IsOn past.changes (past.disk slot) (scene slot) → is_stale noted config disk ≡ false
  on_fresh on =
      let shows = on_shows (past.disk slot) (scene slot) on (view_of disk.copy) shown in
      let sequence : disk.copy.header.sequence ≡ on.config.sequence = sym (viewed_sequence disk.copy) ∙ (groups_are_sound group).same_sequence (view_of disk.copy) on.config shows in
      near_enough noted config disk (elim (cases_lt number on.number) [
        | inl later ↦ let rises = kept.chain.rises number on.number config on.config since on.since later in omega (arith, rises, sequence)
        | inr before ↦
            let most = near on.number number on.config config on.since since before in
            let same = same_most on.config config disk shows in
            omega (arith, most, same, sequence)
      ])

  -- or its slot shows another group.
  outside_fresh : IsOutside past.changes (past.disk slot) (scene slot) → is_stale noted config disk ≡ false
  outside_fresh out =
      other_group noted config disk
      (λ ours.
      let own : group ≡ (view_of disk.copy).group = sym same_group ∙ sym (same_bytes disk.copy.header.guid config.group ours) ∙ sym (view_group disk.copy) in
      out.joins_later number config (view_of disk.copy) since current shown (subst (λ (name : List ℕ). bytes_eq group name ≡ true) own (bytes_same group)))

  lagging_none : is_away past slot ≡ false → IsLagging past.changes (past.disk slot) (scene slot) → ⊥
  lagging_none here lags = by none
    where
      by : NoneLags group past scene → ⊥
      by (inl own) = let young = lags.is_young in absurd (omega (arith, own, young))
      by (inr never) = never slot here lags

  pub slot_fresh : is_away past slot ≡ false → is_stale noted config disk ≡ false
  slot_fresh here = elim (kept.each slot here) [
    | inl on ↦ on_fresh on
    | inr other ↦ ⊎_elim outside_fresh (λ lags. absurd (lagging_none here lags)) other
  ]

module _ (group : List ℕ) {D : Type 0} (state : BayState D) (past : Past (groups group)) (counted : past.slots ≡ length state.sizes) (kept : IsKept past (scene_of state.sizes state.held))
    (near : AreNear group past.changes) (none : NoneLags group past (scene_of state.sizes state.held)) where
  -- No seat is stale.
  pub none_stale : NoneStale group past state
  none_stale left long may member named g at own place disk there noted =
      let newest = newest_from state 0 left in
      let slot = disk.seat.slot in
      let since = assembled_since group state left newest long refl past counted kept may member named g at own in
      let names = disk_names group state left newest long refl past counted kept may member named g at own place disk there in
      let read = disk_read group state left newest long refl past counted kept may member named g at own place disk there in
      let claimed = disk_claimed group state left newest long refl past counted kept may member named g at own place disk there in
      let shown = first_is_copy (seen (is_read left) (scene_of state.sizes state.held) slot) (view_of disk.copy) claimed.is_first in
      let is = disk_member group state left newest long refl past counted kept may member named g at own place disk there in
      let current : has_current g.config (past.disk slot) ≡ true = ap (has_current g.config) (sym names) ∙ is.is_current in
      let here : past.lost slot ≡ false = may.not_lost slot read in
      let stayed : past.returned slot ≡ false =
      false_from_ne_true (past.returned slot) (λ back. (groups_are_sound group).not_both g.config (past.disk slot) current (kept.gone slot since.0 g.config back since.1)) in
      slot_fresh group past (scene_of state.sizes state.held) kept near none since.0 g.config since.1 own noted disk slot
      (seen_copy (is_read left slot) (scene_of state.sizes state.held slot) (view_of disk.copy) shown) current (or_from (past.lost slot) (past.returned slot) here stayed)

-- So it is of disks that hold an image by which each slot shows what it should, in a group that this engine changed.
pub none_stale_of : (group : List ℕ) (now : Past (groups group)) (sizes : List ℕ) (image : Image) → IsKept now (scene_of sizes image) → AreNear group now.changes
    → now.slots ≡ length sizes → now.changes.own_from ≤ now.changes.acked → {D : Type 0} (cut : BayState D) → cut.sizes ≡ sizes → cut.held ≡ image → NoneStale group now cut
none_stale_of group now sizes image kept near counted own cut same_sizes same_held =
    none_stale group cut now (counted ∙ ap (λ (all : List ℕ). length all) (sym same_sizes))
    (subst (λ (all : List ℕ). IsKept now (scene_of all cut.held)) (sym same_sizes) (subst (λ (one : Image). IsKept now (scene_of sizes one)) (sym same_held) kept)) near (inl own)

-- Of the bays that a stop may leave each has its state.
module _ (group : List ℕ) {D C : Type 0} (state : C → BayState D) (past : Past (groups group)) (old new : BayState D) (left : List Bool) (found : GroupValue) (changes : List Configuration) (done : Bool)
    (counted : past.slots ≡ length old.sizes) (own : past.changes.own_from ≤ past.changes.acked) (keeps : KeepsNear group old new past left found changes done) where
  -- However far a call came that kept a history so, its slots are the same, and a change of this engine is still acknowledged.
  ended_own : (far : Bool) (now : Past (groups group)) → Ends group past (is_read left) found changes far now → (now.slots ≡ length old.sizes) × (now.changes.own_from ≤ now.changes.acked)
  ended_own far now ends =
      let slots = ends_slots group past (is_read left) found changes far now ends in
      let acked = (ends_keeps group past now (is_read left) found changes far ends).later in
      let same = slots.same_own in
      (slots.same_slots ∙ counted, omega (arith, own, acked, same))

  pub stale_at_no_moment : StopsLeave old new (λ image. (now : Past (groups group)) × Goes group past (is_read left) found changes now
      × ((cut : C) → (state cut).sizes ≡ old.sizes → (state cut).held ≡ image → NoneStale group now (state cut)))
  stale_at_no_moment = record {
    later = keeps.any_moment.later;
    since = λ t image le was_left. elim (keeps.any_moment.since t image le was_left) [
      | inl before ↦ inl before
      | inr now ↦
          let is = ended_own false now.0 now.1 in
          inr (now.0, now.1, λ cut same_sizes same_held. none_stale_of group now.0 old.sizes image now.3 now.2 is.0 is.1 (state cut) same_sizes same_held)
    ];
  }

  pub stale_at_no_end : new.sizes ≡ old.sizes → new.tells_left → (now : Past (groups group)) × Ends group past (is_read left) found changes done now
      × ((cut : C) → (state cut).sizes ≡ new.sizes → IsLeft new.may_hold (state cut).held → NoneStale group now (state cut))
  stale_at_no_end same_sizes tells =
      let now = keeps.ends tells in
      let is = ended_own done now.0 now.1 in (
        now.0,
        now.1,
        λ cut cut_sizes was_left.
            none_stale_of group now.0 new.sizes (state cut).held (now.3 (state cut).held was_left) now.2 (is.0 ∙ ap (λ (all : List ℕ). length all) (sym same_sizes)) is.1 (state cut) cut_sizes refl,
      )
