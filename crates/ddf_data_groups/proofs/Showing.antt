-- What the disks of a group's members show is aside of the history of another group, from which it is apart.
use Rattle.std.proofs.Common.{◌≡◌, ◌∙◌, inl, inr, ℕ, ◌≤◌, true, false, List, Some, ap, sym, subst, arith}
use Rattle.std.proofs.lemmas.Bool.{and_parts}
use Rattle.std.proofs.lemmas.Slice.Eq.{bytes_eq-Decides}
use Rattle.std.specs.Prelude.{slice_get}
use Rattle.std.specs.Str.{bytes_eq}
use Rattle.ddf_lemmas.proofs.Tests.{none_away}
use Rattle.ddf_config.specs.Configuration.{Configuration}
use Rattle.ddf_view.specs.View.{View}
use Rattle.ddf_history.specs.Calls.{IsAside}
use Rattle.ddf_history.specs.Groups.{Disk, disk_of, groups, has_current}
use Rattle.ddf_history.specs.Issued.{IsSince, Past}
use Rattle.ddf_history.specs.Promise.{IsKept, IsOn, IsRight}
use Rattle.ddf_history.specs.Reading.{IsCopyOf, Scene, Shown}
use Rattle.ddf_data_groups.specs.Beside.{AreApart}

module _ (one other : List ℕ) (ours : Past (groups one)) (theirs : Past (groups other)) (apart : AreApart one other ours theirs) where
  -- A slot of a member of our group, of whichever of its configurations.
  pub record IsOurs (slot : ℕ) : Type 0 where
    pub number : ℕ
    pub config : Configuration
    pub since : IsSince ours.changes number config
    pub current : has_current config (ours.disk slot) ≡ true

  module _ (slot : ℕ) (is : IsOurs slot) where
    -- A slot that shows such a member in a copy of our group.
    on_aside : (now : Past (groups one)) (shown : Shown View) → now.disk slot ≡ ours.disk slot → IsOn now.changes (now.disk slot) shown → IsAside theirs slot shown
    on_aside now shown same on = record {
      no_member = λ n next since current. apart.no_slot slot is.number n is.config next is.since since is.current current;
      shows_none = λ view there standing.
          let mine : bytes_eq one view.group ≡ true = subst (λ (each : View). bytes_eq one each.group ≡ true) (sym (only view there)) on.is_ours in
          let other_is = (and_parts (bytes_eq other view.group) ((groups other).lists_current view (disk_of view)) standing).0 in
          apart.another ((bytes_eq-Decides one view.group).0 mine ∙ sym ((bytes_eq-Decides other view.group).0 other_is));
      names_none = λ view n next there since current.
          let named : disk_of view ≡ ours.disk slot = ap disk_of (only view there) ∙ on.names ∙ same in
          apart.no_disk (ours.disk slot) is.number n is.config next is.since since is.current (subst (λ (disk : Disk). has_current next disk ≡ true) named current);
    }
      where
        only : (view : View) → IsCopyOf shown view → view ≡ on.copy
        only view there = subst (λ (each : Shown View). IsCopyOf each view) on.is_only there

    right_aside : (now : Past (groups one)) (shown : Shown View) (last : Configuration) → now.disk slot ≡ ours.disk slot → now.changes.own_from ≤ now.changes.acked
        → slice_get now.changes.issued now.changes.acked ≡ Some last → has_current last (now.disk slot) ≡ true → IsRight now.changes (now.disk slot) shown → IsAside theirs slot shown
    right_aside now shown last same own is_last current (inl on) = on_aside now shown same on
    right_aside now shown last same own is_last current (inr (inl outside)) = absurd (outside.no_member last is_last current)
    right_aside now shown last same own is_last current (inr (inr lagging)) = let young = lagging.is_young in absurd (omega (arith, own, young))

    -- Where its slot isn't lost, and hasn't returned, and its disk is a member by the last acknowledged change, it shows such a copy.
    pub member_aside : (now : Past (groups one)) (scene : Scene View) → IsKept now scene → now.disk slot ≡ ours.disk slot → now.lost slot ≡ false → (now.returned slot ≡ true → ⊥)
        → now.changes.own_from ≤ now.changes.acked → ((last : Configuration) → slice_get now.changes.issued now.changes.acked ≡ Some last → has_current last (ours.disk slot) ≡ true)
        → IsAside theirs slot (scene slot)
    member_aside now scene kept same stays back own current =
        right_aside now (scene slot) kept.last same own kept.is_last (ap (has_current kept.last) same ∙ current kept.last kept.is_last)
        (kept.each slot (none_away (now.lost slot) (now.returned slot) stays back))
