-- The new copies of a change, as histories ask them.
use Rattle.std.proofs.Common.{◌≡◌, ℕ, Bool, true, List, sym, ap, ◌∙◌, inr}
use Rattle.std.specs.Str.{bytes_eq}
use Rattle.ddf_lemmas.proofs.Lists.{bytes_same}
use Rattle.ddf_config.specs.Configuration.{Configuration}
use Rattle.ddf_copy.specs.declared.copy.DiskCopy.{DiskCopy}
use Rattle.ddf_copy.specs.Written.{CanBeCopy}
use Rattle.ddf_view.specs.View.{View, view_of}
use Rattle.ddf_rewrite.specs.Before.{Before}
use Rattle.ddf_rewrite.specs.Changing.{CanChange}
use Rattle.ddf_rewrite.specs.Copies.{changed_copy}
use Rattle.ddf_rewrite.proofs.Agreeing.{copies_agree}
use Rattle.ddf_history.specs.Reading.{Scene, IsCopyOf}
use Rattle.ddf_history.specs.Groups.{groups, disk_of, has_current}
use Rattle.ddf_history.specs.Issued.{Past, IsSince}
use Rattle.ddf_history.specs.Promise.{IsKept}
use Rattle.ddf_history.proofs.Copies.{changed_is_full, changed_is_ours, changed_names}
use Rattle.ddf_history_steps.proofs.TheoryChange.{AreNew, AreOurs}

-- What the slots show that have the new copies of a change.
abbrev pub changed_views : (old : ℕ → DiskCopy) → Before → Configuration → (timestamp : ℕ) → ℕ → View
changed_views old leaders config timestamp slot = view_of (changed_copy (old slot) leaders config timestamp)

-- A copy whose header has the group's GUID is of the group.
copy_is_ours : (group : List ℕ) (copy : DiskCopy) → copy.header.guid ≡ group → bytes_eq group (view_of copy).group ≡ true
unfolding view_of
copy_is_ours group copy same = ap (bytes_eq group) same ∙ bytes_same group

-- A seat shows a copy of the group where its old copy is one.
pub old_are_ours : (group : List ℕ) (seats : ℕ → Bool) (old : ℕ → DiskCopy) (scene : Scene View)
    → ((slot : ℕ) → seats slot ≡ true → IsCopyOf (scene slot) (view_of (old slot))) → ((slot : ℕ) → seats slot ≡ true → (old slot).header.guid ≡ group)
    → AreOurs (groups group) scene seats
old_are_ours group seats old scene shown ours slot seat =
    (view_of (old slot), shown slot seat, copy_is_ours group (old slot) (ours slot seat))

module _ (group : List ℕ) (past : Past (groups group)) (scene : Scene View) (kept : IsKept past scene) (n : ℕ) (last next : Configuration)
    (since : IsSince past.changes n last) (same_group : next.group ≡ group)
    (leaders : Before) (timestamp : ℕ) (seats : ℕ → Bool) (old : ℕ → DiskCopy)
    (shown : (slot : ℕ) → seats slot ≡ true → IsCopyOf (scene slot) (view_of (old slot)))
    (claimed : (slot : ℕ) → seats slot ≡ true → has_current last (disk_of (view_of (old slot))) ≡ true) where
  -- A seat's old copy names its slot's disk.
  pub old_names : (slot : ℕ) → seats slot ≡ true → disk_of (view_of (old slot)) ≡ past.disk slot
  old_names slot seat = kept.named slot (view_of (old slot)) (shown slot seat) (inr (n, last, since, claimed slot seat))

  -- The new copies are what is asked of them.
  pub changed_are_new : (stays : (slot : ℕ) → seats slot ≡ true → has_current next (disk_of (view_of (old slot))) ≡ true)
      → (can : (slot : ℕ) → seats slot ≡ true → CanChange (old slot) leaders next timestamp)
      → (are_copies : (slot : ℕ) → seats slot ≡ true → CanBeCopy (changed_copy (old slot) leaders next timestamp))
      → AreNew (groups group) past next seats (changed_views old leaders next timestamp)
  changed_are_new stays can are_copies = record {
    names = λ slot seat. changed_names (old slot) leaders next timestamp ∙ old_names slot seat;
    are_ours = λ slot seat.
        ap (λ (name : List ℕ). bytes_eq name (view_of (changed_copy (old slot) leaders next timestamp)).group) (sym same_group)
        ∙ changed_is_ours (old slot) leaders next timestamp;
    are_full = λ slot seat. changed_is_full (old slot) leaders next timestamp (can slot seat) (are_copies slot seat);
    are_members = λ slot seat. ap (has_current next) (sym (old_names slot seat)) ∙ stays slot seat;
    agree = λ s t one other. copies_agree (old s) (old t) leaders next timestamp (can s one).names (can s one).rebuilt (can s one).room (can t other).room;
  }
