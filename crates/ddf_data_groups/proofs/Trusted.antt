-- No seat of what is assembled in a history is ahead of the group, or shows another one.
use Rattle.std.proofs.Common.{◌≡◌, ◌∙◌, inl, inr, ℕ, ◌≤◌, ◌&&◌, not, nat_le, Bool, true, false, List, length, Option, Some, Ok, refl, ap, sym, subst, arith}
use Rattle.std.proofs.lemmas.Bool.{and_from, cases_lt, leb-true}
use Rattle.std.proofs.lemmas.Slice.Eq.{bytes_eq-Decides}
use Rattle.std.specs.Prelude.{slice_get}
use Rattle.std.specs.Str.{bytes_eq}
use Rattle.ddf_lemmas.proofs.Lists.{bytes_same}
use Rattle.ddf_lemmas.proofs.Tests.{none_away}
use Rattle.ddf_bay.specs.State.{BayState}
use Rattle.ddf_config.specs.Configuration.{Configuration}
use Rattle.ddf_copy.specs.declared.copy.DiskCopy.{DiskCopy}
use Rattle.ddf_rewrite.proofs.Lists.{some_same}
use Rattle.ddf_view.specs.View.{View, view_of}
use Rattle.ddf_view.specs.Shows.{shows}
use Rattle.ddf_group.specs.declared.shown.Shown.{Shown as GroupShown}
use Rattle.ddf_group.specs.Taking.{shows_untaken}
use Rattle.ddf_history.specs.Reading.{IsCopyOf, Scene, Shown, stands}
use Rattle.ddf_history.specs.Answer.{HasMember, IsReadable}
use Rattle.ddf_history.specs.Calls.{IsAssembled}
use Rattle.ddf_history.specs.Groups.{disk_of, groups, has_current}
use Rattle.ddf_history.specs.Issued.{IsSince, Past}
use Rattle.ddf_history.specs.Leaders.{seen}
use Rattle.ddf_history.specs.Promise.{IsKept, IsOn, IsRight}
use Rattle.ddf_history.specs.Scenes.{scene_of}
use Rattle.ddf_history.proofs.Assembling.{read_as}
use Rattle.ddf_history.proofs.Calls.{seen_copy}
use Rattle.ddf_history.proofs.Since.{first_is_copy, on_shows}
use Rattle.ddf_history.proofs.Sound.{groups_are_sound}
use Rattle.ddf_seats.specs.declared.seated.Seated.{Seated}
use Rattle.ddf_seats.specs.Group.{GroupValue}
use Rattle.ddf_seats.specs.Seated.{seated}
use Rattle.ddf_assembly.specs.Group.{group_of}
use Rattle.ddf_assembly.specs.Slots.{newest_from}
use Rattle.ddf_recovery.specs.Stray.{is_ahead, is_of_another}
use Rattle.ddf_history_steps.specs.Kept.{is_read}
use Rattle.ddf_history_steps.proofs.Begun.{assembled_kept}
use Rattle.ddf_history_steps.proofs.Claimed.{disk_claimed, disk_member, disk_names, disk_read}
use Rattle.ddf_history_steps.proofs.RecoveringPlaces.{view_group}
use Rattle.ddf_data_groups.specs.Beside.{HasItsMembers}

viewed_sequence : (copy : DiskCopy) → (view_of copy).sequence ≡ copy.header.sequence
unfolding view_of
viewed_sequence copy = refl

-- A disk whose copy shows the configuration where it is as new isn't ahead.
not_ahead : (config : Configuration) (disk : Seated) → (config.sequence ≤ disk.copy.header.sequence → shows config (view_of disk.copy) ≡ true) → is_ahead config disk ≡ false
not_ahead config disk shown = by (bytes_eq disk.copy.header.guid config.group) (nat_le config.sequence disk.copy.header.sequence) refl
  where
    by : (ours new : Bool) → nat_le config.sequence disk.copy.header.sequence ≡ new → (ours && new && not (shows config (view_of disk.copy))) ≡ false
    by false new is = right new
      where
        right : (b : Bool) → (false && b && not (shows config (view_of disk.copy))) ≡ false
        right true = refl
        right false = refl
    by true false is = refl
    by true true is = ap (λ (b : Bool). true && true && not b) (shown (leb-true config.sequence disk.copy.header.sequence is))

-- One whose copy is of the group shows no other one.
not_another : (slots : List GroupShown) (config : Configuration) (disk : Seated) → bytes_eq disk.copy.header.guid config.group ≡ true → is_of_another slots config disk ≡ false
not_another slots config disk ours = ap (λ (b : Bool). not b && shows_untaken slots config.group disk.seat.slot) ours

module _ (group : List ℕ) {D : Type 0} (state : BayState D) (past : Past (groups group)) (counted : past.slots ≡ length state.sizes) (kept : IsKept past (scene_of state.sizes state.held))
    (its : HasItsMembers group past) (left : List Bool) (long : length left ≡ length state.sizes) (may : IsReadable past (scene_of state.sizes state.held) (is_read left))
    (member : HasMember past (scene_of state.sizes state.held) (is_read left)) (named : Option (List ℕ)) (found : GroupValue) (at : group_of (newest_from state 0 left) named ≡ Ok found)
    (own : found.config.group ≡ group) (place : ℕ) (disk : Seated) (there : slice_get (seated found) place ≡ Some disk) where
  abbrev held : Scene View
  held = scene_of state.sizes state.held

  abbrev slot : ℕ
  slot = disk.seat.slot

  abbrev view : View
  view = view_of disk.copy

  names : disk_of view ≡ past.disk slot
  names = disk_names group state left (newest_from state 0 left) long refl past counted kept may member named found at own place disk there

  is_current : has_current found.config (past.disk slot) ≡ true
  is_current =
      ap (has_current found.config) (sym names) ∙ (disk_member group state left (newest_from state 0 left) long refl past counted kept may member named found at own place disk there).is_current

  seen_there : IsCopyOf (seen (is_read left) held slot) view
  seen_there =
      first_is_copy (seen (is_read left) held slot) view (disk_claimed group state left (newest_from state 0 left) long refl past counted kept may member named found at own place disk there).is_first

  shown_there : IsCopyOf (held slot) view
  shown_there = seen_copy (is_read left slot) (held slot) view seen_there

  -- ---- what the leaders show

  assembled : IsAssembled past held (is_read left) found.config
  assembled = assembled_kept group state left (newest_from state 0 left) long refl past counted kept may member named found at own

  found_since : (number : ℕ) × IsSince past.changes number found.config × ((groups group).sequence_of (assembled).is_read.leading ≡ found.config.sequence)
  found_since =
      let parts = read_as (groups group) (groups_are_sound group) past held kept (is_read left) may member found.config (assembled).is_read in (parts.0, parts.1, parts.2)

  -- ---- a slot that shows one of the configurations

  module _ (on : IsOn past.changes (past.disk slot) (held slot)) where
    view_is : view ≡ on.copy
    view_is = subst (λ (each : Shown View). IsCopyOf each view) on.is_only shown_there

    view_ours : bytes_eq group view.group ≡ true
    view_ours = subst (λ (each : View). bytes_eq group each.group ≡ true) (sym view_is) on.is_ours

    -- Its copy stands, and is no newer than what the leaders show.
    view_stands : stands (groups group) view ≡ true
    view_stands =
        and_from (bytes_eq group view.group) ((groups group).lists_current view (disk_of view)) view_ours
        ((groups_are_sound group).same_current view on.config (disk_of view) (on_shows (past.disk slot) (held slot) on view shown_there)
        ∙ ap (has_current on.config) names ∙ on.is_member)

    sequence_is : view.sequence ≡ on.config.sequence
    sequence_is = (groups_are_sound group).same_sequence view on.config (on_shows (past.disk slot) (held slot) on view shown_there)

    shows_found : found.config.sequence ≤ disk.copy.header.sequence → shows found.config view ≡ true
    shows_found new =
        let since = found_since in
        let least : view.sequence ≤ (groups group).sequence_of (assembled).is_read.leading = (assembled).is_read.leads.greatest slot view seen_there view_stands in
        let headed = viewed_sequence disk.copy in
        let leads = since.2 in
        let same = sequence_is in
        elim (cases_lt since.0 on.number) [
          | inl later ↦ let rises = kept.chain.rises since.0 on.number found.config on.config since.1 on.since later in absurd (omega (arith, rises, same, least, leads))
          | inr before ↦ elim (cases_lt on.number since.0) [
            | inl earlier ↦ let rises = kept.chain.rises on.number since.0 on.config found.config on.since since.1 earlier in absurd (omega (arith, rises, same, headed, new))
            | inr other ↦
                let one : on.number ≡ since.0 = omega (arith, before, other) in
                let config_is : on.config ≡ found.config =
                some_same (subst (λ (n : ℕ). slice_get past.changes.issued n ≡ Some on.config) one on.since.is_there) since.1.is_there in
                subst (λ (each : Configuration). shows each view ≡ true) config_is (on_shows (past.disk slot) (held slot) on view shown_there).shows
          ]
        ]

    on_trusted : (is_ahead found.config disk ≡ false) × ((slots : List GroupShown) → is_of_another slots found.config disk ≡ false)
    on_trusted =
        let guid : disk.copy.header.guid ≡ found.config.group = sym (view_group disk.copy) ∙ sym ((bytes_eq-Decides group view.group).0 view_ours) ∙ sym own in
        let ours : bytes_eq disk.copy.header.guid found.config.group ≡ true = subst (λ (each : List ℕ). bytes_eq each found.config.group ≡ true) (sym guid) (bytes_same found.config.group) in
        (not_ahead found.config disk shows_found, λ slots. not_another slots found.config disk ours)

  by_right : IsRight past.changes (past.disk slot) (held slot) → (is_ahead found.config disk ≡ false) × ((slots : List GroupShown) → is_of_another slots found.config disk ≡ false)
  by_right (inl on) = on_trusted on
  by_right (inr (inl outside)) = let since = found_since in absurd (outside.no_member kept.last kept.is_last (its.none_joins since.0 found.config kept.last (past.disk slot) since.1 is_current kept.is_last))
  by_right (inr (inr lagging)) = let young = lagging.is_young in let low = its.own in absurd (omega (arith, young, low))

  pub seat_trusted : (is_ahead found.config disk ≡ false) × ((slots : List GroupShown) → is_of_another slots found.config disk ≡ false)
  seat_trusted =
      let since = found_since in
      by_right
      (kept.each slot
      (none_away (past.lost slot) (past.returned slot)
      (may.not_lost slot (disk_read group state left (newest_from state 0 left) long refl past counted kept may member named found at own place disk there))
      (λ back. (groups_are_sound group).not_both found.config (past.disk slot) is_current (kept.gone slot since.0 found.config back since.1))))
